-- When a working line is in normal form on the variables 1 to n: positive weights, one term to a variable, variables
-- rising, and everything in range.
use Rattle.std.specs.Prelude.{◌≡◌, ℕ, ◌≤◌, Bool, true, ◌&&◌, List, [], ◌∷◌, length, nat_le, nat_lt, unsigned_abs}
use Rattle.pb.specs.declared.constraint.TheConstants.{MOST_TERMS}
use Rattle.pb.specs.declared.working.TheConstants.{MOST_WEIGHT_SUM, MOST_WORKING_BOUND}
use Rattle.pb.specs.declared.working.WorkingTerm.{WorkingTerm}
use Rattle.pb.specs.Lines.{Working}
use Rattle.pb.specs.Sums.{weight_sum}

-- terms whose variables lie above `below` and up to n, rising
abbrev pub normal_terms : ℕ → ℕ → List WorkingTerm → Bool
normal_terms n below [] = true
normal_terms n below (t ∷ ts) =
    nat_lt 0 t.weight
    && (nat_lt below (unsigned_abs t.literal)
    && (nat_le (unsigned_abs t.literal) n && normal_terms n (unsigned_abs t.literal) ts))

pub record IsNormal (n : ℕ) (w : Working) : Type 0 where
  pub terms_are : normal_terms n 0 w.terms ≡ true
  pub few : length w.terms ≤ MOST_TERMS
  pub light : weight_sum w.terms ≤ MOST_WEIGHT_SUM
  pub near : w.bound ≤ MOST_WORKING_BOUND
