-- Each recursion over the terms of a set by halving its mask, at a place of the terms.
use Rattle.std.proofs.Common.{◌≡◌, ℕ, suc, ◌+◌, ◌-◌, ◌/◌, ◌^◌, ◌<◌, Bool, true, cond, ◌&&◌, nat_le, List, []}
use Rattle.std.proofs.Common.{◌∷◌, ◌++◌, length, drop, get_or, sym, refl, ap, ap₂, ◌∙◌, add-one, arith, sum_by}
use Rattle.std.specs.List.{scan, list_all}
use Rattle.std.proofs.Math.Nat.{div-div-eq-div-mul, pow-suc}
use Rattle.std.proofs.lemmas.List.{at_drop_more}
use Rattle.std.proofs.lemmas.List.Sums.{sum_by-cons}
use Rattle.std.proofs.lemmas.Bool.Decides.{nat_tests}
use Rattle.pb.specs.declared.working.WorkingTerm.{WorkingTerm}
use Rattle.encode.specs.Direct.{has_first, sum_outside, each_lifts, literal_by, literals_in}
use Rattle.encoders.specs.Masks.{is_in_set}

-- the mask of the places from one on
pub mask_next : (mask k : ℕ) → mask / 2 ^ (k + 1) ≡ mask / 2 ^ k / 2
mask_next mask k = rw (add-one, pow-suc) (sym (div-div-eq-div-mul mask (2 ^ k) 2))

-- the mask of the terms after one
abbrev pub mask_after : ℕ → WorkingTerm → ℕ
mask_after mask t = mask / 2

-- what the first term counts outside a set
abbrev pub weight_outside : ℕ → WorkingTerm → ℕ
weight_outside mask t = cond (has_first mask) 0 t.weight

-- there is one for each term
pub one_each : {B : Type 0} (out : ℕ → WorkingTerm → B) (mask : ℕ) (ts : List WorkingTerm)
    → length (scan mask_after out mask ts) ≡ length ts
one_each out mask [] = refl
one_each out mask (t ∷ ts) = ap (λ n. suc n) (one_each out (mask / 2) ts)

pub outside_from : (mask : ℕ) (ts : List WorkingTerm)
    → sum_by (λ n. n) (scan mask_after weight_outside mask ts) ≡ sum_outside ts mask
outside_from mask [] = refl
outside_from mask (t ∷ ts) =
    sum_by-cons (λ n. n) (weight_outside mask t) (scan mask_after weight_outside (mask / 2) ts)
    ∙ ap (λ n. weight_outside mask t + n) (outside_from (mask / 2) ts)

-- a weight makes up what is missing where it brings the sum to the bound
makes_up : (w sum bound : ℕ) → nat_le (bound - sum) w ≡ nat_le bound (sum + w)
makes_up w sum bound = grind (arith, nat_tests)

-- whether the first term is outside a set or its weight makes up what is missing
abbrev pub is_enough : ℕ → ℕ → WorkingTerm → Bool
is_enough missing mask t = cond (has_first mask) (nat_le missing t.weight) true

pub lifts_from : (sum bound mask : ℕ) (ts : List WorkingTerm)
    → list_all (λ b. b) (scan mask_after (is_enough (bound - sum)) mask ts) ≡ each_lifts ts mask sum bound
lifts_from sum bound mask [] = refl
lifts_from sum bound mask (t ∷ ts) =
    ap₂ (λ a b. cond (has_first mask) a true && b) (makes_up t.weight sum bound) (lifts_from sum bound (mask / 2) ts)

-- the literals of the places of a set, from one on
module _ (flip : Bool) (mask : ℕ) (ts : List WorkingTerm) (i : ℕ) (d : WorkingTerm) (h : i < length ts) where
  pub literals_more : literals_in flip (drop i ts) (mask / 2 ^ i)
      ≡ cond (is_in_set mask i) (literal_by flip (get_or ts i d).literal ∷ []) []
      ++ literals_in flip (drop (i + 1) ts) (mask / 2 ^ (i + 1))
  literals_more =
      let here = cond (is_in_set mask i) (literal_by flip (get_or ts i d).literal ∷ []) [] in
      at_drop_more (λ us. literals_in flip us (mask / 2 ^ i)) ts i d h
      ∙ ap (λ m. here ++ literals_in flip (drop (i + 1) ts) m) (sym (mask_next mask i))
