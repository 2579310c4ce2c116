-- Two encoders that keep their law keep it together, since each line goes to one of them.
use Rattle.std.proofs.Common.{ℕ, Bool, true, false, cond, leb, length}
use Rattle.encode.specs.Choice.{chosen_for, up_to}
use Rattle.encode.specs.Law.{Encoding, InReach, Lawful}
use Rattle.pb.specs.Lines.{Working}

either_lawful : (b : Bool) (few many : Encoding) → Lawful few → Lawful many → Lawful (cond b few many)
either_lawful true few many p q = p
either_lawful false few many p q = q

module _ (most : ℕ) (few many : Encoding) where
  pub chosen_reach : (n first : ℕ) (w : Working)
      → InReach (up_to most few many) n first w → InReach (chosen_for most few many w) n first w
  chosen_reach n first w r =
      record {
        some = r.some;
        many = r.many;
        is_normal = r.is_normal;
        reached = r.reached;
        above = r.above;
        below = r.below;
      }

  module _ (p : Lawful few) (q : Lawful many) where
    its_law : (w : Working) → Lawful (chosen_for most few many w)
    its_law w = either_lawful (leb (length w.terms) most) few many p q

    pub up_to_lawful : Lawful (up_to most few many)
    up_to_lawful =
        record {
          names = λ n first w r. (its_law w).names n first w (chosen_reach n first w r);
          formed = λ n first w r. (its_law w).formed n first w (chosen_reach n first w r);
          means = λ n first w r. (its_law w).means n first w (chosen_reach n first w r);
        }
