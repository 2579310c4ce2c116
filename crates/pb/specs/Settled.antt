-- The first literal that a working line forces, and what is left of a line where a literal holds.
use Rattle.std.specs.Prelude.{ℕ, ◌+◌, ◌-◌, ◌≤◌, Bool, false, cond, List, [], ◌∷◌, ◌++◌, ℤ, pos, negsuc, neg_ℤ, Some}
use Rattle.std.specs.Prelude.{None, Option, ◌==◌, nat_lt, unsigned_abs}
use Rattle.pb.specs.declared.working.Sense.{Sense}
use Rattle.pb.specs.declared.working.Sense.TheVariants.{AtLeast, Exactly}
use Rattle.pb.specs.declared.working.WorkingTerm.{WorkingTerm}
use Rattle.pb.specs.Lines.{Working, impossible_line}
use Rattle.pb.specs.Sums.{weight_sum}

-- "at least" forces a literal without which the weights no longer reach the bound
abbrev pub forced_least : ℕ → ℕ → List WorkingTerm → Option ℤ
forced_least sum k [] = None
forced_least sum k (t ∷ ts) = cond (nat_lt (sum - t.weight) k) (Some t.literal) (forced_least sum k ts)

-- "exactly" forces the complement where the weight alone is above the bound, and else the literal likewise
abbrev pub forced_exactly : ℕ → ℕ → List WorkingTerm → Option ℤ
forced_exactly sum k [] = None
forced_exactly sum k (t ∷ ts) =
    cond (nat_lt k t.weight) (Some (neg_ℤ t.literal))
    (cond (nat_lt (sum - t.weight) k) (Some t.literal)
    (forced_exactly sum k ts))

abbrev pub forced_by : Sense → ℕ → ℕ → List WorkingTerm → Option ℤ
forced_by AtLeast sum k ts = forced_least sum k ts
forced_by Exactly sum k ts = forced_exactly sum k ts

-- the first in term order, or nothing; a line whose weights do not reach its bound forces nothing
abbrev pub forced : Working → Option ℤ
forced w =
    cond (nat_lt (weight_sum w.terms) w.bound) None
    (forced_by w.sense (weight_sum w.terms) w.bound w.terms)

-- a term that forces nothing: without it the weights still reach the bound, and of "exactly" its weight alone does not
-- exceed the bound
abbrev pub Unforced : Sense → ℕ → ℕ → WorkingTerm → Type 0
Unforced AtLeast sum k t = k ≤ sum - t.weight
Unforced Exactly sum k t = (t.weight ≤ k) × (k ≤ sum - t.weight)

-- whether two literals are the same
abbrev pub same_literal : ℤ → ℤ → Bool
same_literal (pos m) (pos n) = m == n
same_literal (pos m) (negsuc n) = false
same_literal (negsuc m) (pos n) = false
same_literal (negsuc m) (negsuc n) = m == n

-- the terms that are not on the literal's variable
abbrev pub others : ℤ → List WorkingTerm → List WorkingTerm
others l [] = []
others l (t ∷ ts) = cond (unsigned_abs t.literal == unsigned_abs l) [] (t ∷ []) ++ others l ts

-- the weight on the literal
abbrev pub weight_on : ℤ → List WorkingTerm → ℕ
weight_on l [] = 0
weight_on l (t ∷ ts) = cond (same_literal t.literal l) t.weight 0 + weight_on l ts

-- the bound falls by that weight; below 0, "at least" stops at 0 and "exactly" cannot be met
abbrev pub lessened : Sense → ℕ → ℕ → List WorkingTerm → Working
lessened AtLeast k w ts = record { sense = AtLeast; bound = k - w; terms = ts }
lessened Exactly k w ts =
    cond (nat_lt k w) impossible_line
    (record { sense = Exactly; bound = k - w; terms = ts })

abbrev pub reduced : ℤ → Working → Working
reduced l w = lessened w.sense w.bound (weight_on l w.terms) (others l w.terms)
