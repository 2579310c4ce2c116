-- The worked cases of the order encoder, by computation.
use Rattle.std.proofs.Common.{refl}
use Rattle.encode.specs.OrderWorked.{OrderWorkedCases}

pub order_worked : OrderWorkedCases
order_worked =
    record {
      matrix = refl;
      twelve = refl;
      impossible = refl;
      always = refl;
      no_terms_exactly_zero = refl;
      at_least_zero = refl;
      exactly_zero = refl;
      exactly_sum = refl;
      above_sum = refl;
      exactly_above_sum = refl;
      most = refl;
      most_exactly = refl;
      a_column_more = refl;
      exactly_has_one_more = refl;
      a_term_more = refl;
      most_of_one_term = refl;
      one_more = refl;
    }
