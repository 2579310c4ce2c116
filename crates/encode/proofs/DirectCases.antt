-- The worked cases of the direct encoder, by computation.
use Rattle.std.proofs.Common.{refl}
use Rattle.encode.specs.DirectWorked.{DirectWorkedCases}

pub direct_worked : DirectWorkedCases
direct_worked =
    record {
      least_sets = refl;
      never = refl;
      always = refl;
      no_terms_exactly_zero = refl;
      no_terms_exactly_one = refl;
      at_least_zero = refl;
      at_least_above = refl;
      none_counts = refl;
      all_count = refl;
      one_counts = refl;
      above_sum = refl;
      most = refl;
      one_more = refl;
    }
