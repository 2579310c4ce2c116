-- The worked cases, by computation.
use Rattle.std.proofs.Common.{refl}
use Rattle.pb.specs.Worked.{Worked}

pub worked : Worked
worked =
    record {
      negative_weight = refl;
      both_signs = refl;
      cancelled = refl;
      below_zero = refl;
      rounded_up = refl;
      not_divided = refl;
      too_heavy = refl;
      left = refl;
    }
