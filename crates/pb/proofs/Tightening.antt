-- Tightening a line changes no assignment's verdict and keeps the line in normal form; it leaves neither weights above
-- the bound of "at least" nor a common divisor, so that to tighten twice is to tighten once.
use Prim.Native.Nat.{◌∣◌}
use Rattle.std.proofs.Common.{◌≡◌, ℕ, ◌*◌, ◌/◌, ◌%◌, ◌<◌, ◌≤◌, true, false, ◌&&◌, eqb, ltb, leb, ◌⊎◌, List, [], length}
use Rattle.std.proofs.Common.{sym, refl, ap, ◌∙◌, subst, inl, inr, div-le_self, le_of_mul-le-mul_right, arith}
use Rattle.std.proofs.Math.Nat.{div-mul_cancel, eq_of_mul-eq-mul_right, dvd-mul_left}
use Rattle.std.specs.Int.{div_ceil}
use Rattle.std.specs.List.{AllByRecursion}
use Rattle.std.proofs.lemmas.Bool.{ne_eqb, le-ltb, eq-eqb, and_right}
use Rattle.std.proofs.lemmas.Bool.Decides.{nat_tests}
use Rattle.pb.specs.declared.working.Sense.{Sense}
use Rattle.pb.specs.declared.working.Sense.TheVariants.{AtLeast, Exactly}
use Rattle.pb.specs.declared.working.WorkingTerm.{WorkingTerm}
use Rattle.pb.specs.Lines.{Working}
use Rattle.pb.specs.Meaning.{Assignment, weighed, reaches, met}
use Rattle.pb.specs.Sums.{weight_sum}
use Rattle.pb.specs.WorkingForm.{IsNormal}
use Rattle.pb.specs.Tightened.{divisor_of, saturated, divided, divided_least, tightened_least, tightened_exactly}
use Rattle.pb.specs.Tightened.{tightened}
use Rattle.pb.specs.Laws.{TightenKeeps, TightenIsNormal, TightenIsTight, TightenOnce}
use Rattle.pb.proofs.Divisors.{div_ceil-reaches, div_ceil-least, div_ceil-positive, div_ceil-falls}
use Rattle.pb.proofs.Divisors.{DividesAll, AllPositive, divisor_divides, divisor_positive, divisor_divided}
use Rattle.pb.proofs.Firsts.{no_terms_is_normal}
use Rattle.pb.proofs.Outcomes.{working_line, divided_line, Outcome, some_terms, outcome_of}
use Rattle.pb.proofs.Outcomes.{always_met, no_terms, out_of_reach, not_divided, least_divided, exactly_divided}
use Rattle.pb.proofs.Scaling.{weighed_below, weighed_saturated, sum_saturated, length_saturated, saturated_positive}
use Rattle.pb.proofs.Scaling.{saturated_within, saturated_same, weighed_divided, sum_divided, sum_divided_below}
use Rattle.pb.proofs.Scaling.{length_divided, divided_positive, divided_within, divided_one}
use Rattle.pb.proofs.Scaling.{normal_positive, normal_saturated, normal_divided}

same_leb : (m n k l : ℕ) → (m ≤ n → k ≤ l) → (k ≤ l → m ≤ n) → leb m n ≡ leb k l
same_leb m n k l f g = grind (arith, nat_tests)

same_eqb : (m n k l : ℕ) → (m ≡ n → k ≡ l) → (k ≡ l → m ≡ n) → eqb m n ≡ eqb k l
same_eqb m n k l f g = grind (arith, nat_tests)

-- dividing changes no verdict
met_divided_least : (a : Assignment) (k : ℕ) (ts : List WorkingTerm) → 0 < divisor_of ts
    → met a (divided_least k ts) ≡ leb k (weighed a ts)
met_divided_least a k ts h =
    let d = divisor_of ts in
    let x = weighed a (divided d ts) in
    let e = weighed_divided a d ts (divisor_divides ts) in
    same_leb (div_ceil k d) x k (weighed a ts)
    (λ p. let q = div_ceil-reaches k d x h p in omega arith)
    (λ p. div_ceil-least k d x h (omega arith))

met_divided_line : (a : Assignment) (k d : ℕ) (ts : List WorkingTerm) → 0 < d → DividesAll d ts → d ∣ k
    → met a (divided_line d k ts) ≡ eqb (weighed a ts) k
met_divided_line a k d ts h g c =
    let x = weighed a (divided d ts) in
    let e = weighed_divided a d ts g in
    let f = div-mul_cancel d c in
    same_eqb x (k / d) (weighed a ts) k
    (λ p. e ∙ ap (λ y. y * d) p ∙ f)
    (λ p. eq_of_mul-eq-mul_right d h x (k / d) (sym e ∙ p ∙ sym f))

-- a saturated line; a divided line
saturated_is_normal : (n k : ℕ) (ts : List WorkingTerm) → 0 < k → IsNormal n (working_line AtLeast k ts)
    → IsNormal n (working_line AtLeast k (saturated k ts))
saturated_is_normal n k ts l p =
    let e = length_saturated k ts in
    let s = sum_saturated k ts in
    record {
      terms_are = normal_saturated n 0 k ts l p.terms_are;
      few = omega arith;
      light = omega arith;
      near = p.near;
    }

divided_is_normal : (n k j : ℕ) (s : Sense) (ts : List WorkingTerm) → j ≤ k → IsNormal n (working_line s k ts)
    → IsNormal n (working_line s j (divided (divisor_of ts) ts))
divided_is_normal n k j s ts l p =
    let d = divisor_of ts in
    let e = length_divided d ts in
    let b = sum_divided_below d ts in
    let positive = divided_positive d ts (divisor_divides ts) (normal_positive n 0 ts p.terms_are) in
    record {
      terms_are = normal_divided n 0 d ts positive p.terms_are;
      few = omega arith;
      light = omega arith;
      near = omega arith;
    }

-- a line that has nothing left to saturate or to divide stays as it is
least_again : (k : ℕ) (ts : List WorkingTerm) → 0 < k → k ≤ weight_sum ts → AllByRecursion (λ t. t.weight ≤ k) ts
    → divisor_of ts ≡ 1 → tightened_least k ts ≡ working_line AtLeast k ts
least_again k ts l h w d =
    let not_zero : eqb k 0 ≡ false = ne_eqb k 0 (λ e. omega arith) in
    let enough : ltb (weight_sum ts) k ≡ false = le-ltb _ _ h in
    let same = saturated_same k ts w in
    let undivided = divided_one ts in
    let bound : div_ceil k 1 ≡ k = omega arith in
    rw (not_zero, enough, same, d, undivided, bound)

exactly_again : (k : ℕ) (ts : List WorkingTerm) → 0 < length ts → k ≤ weight_sum ts → divisor_of ts ≡ 1
    → tightened_exactly k ts ≡ working_line Exactly k ts
exactly_again k ts l h d =
    let some : (eqb k 0 && eqb (length ts) 0) ≡ false = and_right _ _ (ne_eqb (length ts) 0 (λ e. omega arith)) in
    let enough : ltb (weight_sum ts) k ≡ false = le-ltb _ _ h in
    let divides : eqb (k % 1) 0 ≡ true = eq-eqb (k % 1) 0 (omega arith) in
    let undivided = divided_one ts in
    let bound : k / 1 ≡ k = omega arith in
    rw (some, enough, d, divides, undivided, bound)

-- a line without a common divisor, of weights within its bound where it is one of "at least"
abbrev IsTight : Working → Type 0
IsTight v =
    ((divisor_of v.terms ≡ 1) ⊎ (v.terms ≡ []))
    × (v.sense ≡ AtLeast → AllByRecursion (λ t. t.weight ≤ v.bound) v.terms)

not_both : Exactly ≡ AtLeast → ⊥
not_both h = let z : ◌≡◌ {A = ℕ} 0 1 = cc in omega arith

-- each law, outcome by outcome
module _ (k : ℕ) (ts : List WorkingTerm) (positive : AllPositive ts) where
  saturated_divisor : 0 < k → k ≤ weight_sum ts → 0 < divisor_of (saturated k ts)
  saturated_divisor l h =
      let e = length_saturated k ts in
      let n = some_terms ts (omega arith) in
      divisor_positive (saturated k ts) (saturated_positive k ts l positive) (omega arith)

  keeps : {s : Sense} {v : Working} → Outcome k ts s v → (a : Assignment) → met a v ≡ reaches s (weighed a ts) k
  keeps (always_met e) a = grind (arith, nat_tests)
  keeps (no_terms e l) a = let f = some_terms ts in let b = weighed_below a ts in grind (arith, nat_tests)
  keeps (out_of_reach AtLeast h) a = let b = weighed_below a ts in grind (arith, nat_tests)
  keeps (out_of_reach Exactly h) a = let b = weighed_below a ts in grind (arith, nat_tests)
  keeps (not_divided n) a =
      let d = divisor_of ts in
      let x = weighed a (divided d ts) in
      let e = weighed_divided a d ts (divisor_divides ts) in
      sym (ne_eqb (weighed a ts) k (λ c. n (subst (λ y. d ∣ y) (sym e ∙ c) (dvd-mul_left d x))))
  keeps (least_divided l h) a =
      let b = weighed_saturated a k ts in
      met_divided_least a k (saturated k ts) (saturated_divisor l h)
      ∙ same_leb k (weighed a (saturated k ts)) k (weighed a ts) (λ q. omega arith) (λ q. omega arith)
  keeps (exactly_divided l h c) a =
      met_divided_line a k (divisor_of ts) ts (divisor_positive ts positive l) (divisor_divides ts) c

  stays_normal : {s : Sense} {v : Working} → Outcome k ts s v → (n : ℕ) → IsNormal n (working_line s k ts)
      → IsNormal n v × (length v.terms ≤ length ts)
  stays_normal (always_met e) n p = (no_terms_is_normal n 0 (omega arith), omega arith)
  stays_normal (no_terms e l) n p = (no_terms_is_normal n 0 (omega arith), omega arith)
  stays_normal (out_of_reach s h) n p = (no_terms_is_normal n 1 (omega arith), omega arith)
  stays_normal (not_divided h) n p = (no_terms_is_normal n 1 (omega arith), omega arith)
  stays_normal (least_divided l h) n p =
      let us = saturated k ts in
      let d = divisor_of us in
      let e = length_saturated k ts in
      let f = length_divided d us in
      let falls = div_ceil-falls k d (saturated_divisor l h) in
      (divided_is_normal n k (div_ceil k d) AtLeast us falls (saturated_is_normal n k ts l p), omega arith)
  stays_normal (exactly_divided l h c) n p =
      let d = divisor_of ts in
      let f = length_divided d ts in
      (divided_is_normal n k (k / d) Exactly ts (div-le_self k d) p, omega arith)

  is_tight : {s : Sense} {v : Working} → Outcome k ts s v → IsTight v
  is_tight (always_met e) = (inr refl, λ x. tt)
  is_tight (no_terms e l) = (inr refl, λ x. tt)
  is_tight (out_of_reach s h) = (inr refl, λ x. tt)
  is_tight (not_divided h) = (inr refl, λ x. tt)
  is_tight (least_divided l h) =
      let us = saturated k ts in
      let some = saturated_divisor l h in
      let within = divided_within k (divisor_of us) us some (divisor_divides us) (saturated_within k ts) in
      (inl (divisor_divided us some), λ x. within)
  is_tight (exactly_divided l h c) =
      (inl (divisor_divided ts (divisor_positive ts positive l)), λ x. absurd (not_both x))

  once : {s : Sense} {v : Working} → Outcome k ts s v → tightened v ≡ v
  once (always_met e) = refl
  once (no_terms e l) = refl
  once (out_of_reach s h) = refl
  once (not_divided h) = refl
  once (least_divided l h) =
      let us = saturated k ts in
      let d = divisor_of us in
      let some = saturated_divisor l h in
      let c = divisor_divides us in
      let e = sum_divided d us c in
      let b = sum_saturated k ts in
      least_again (div_ceil k d) (divided d us)
      (div_ceil-positive k d l some)
      (div_ceil-least k d (weight_sum (divided d us)) some (omega arith))
      (divided_within k d us some c (saturated_within k ts))
      (divisor_divided us some)
  once (exactly_divided l h c) =
      let d = divisor_of ts in
      let some = divisor_positive ts positive l in
      let e = sum_divided d ts (divisor_divides ts) in
      let f = div-mul_cancel d c in
      let n = length_divided d ts in
      let r : k / d * d ≤ weight_sum (divided d ts) * d = omega arith in
      exactly_again (k / d) (divided d ts) (omega arith) (le_of_mul-le-mul_right r some) (divisor_divided ts some)

positive_of : (n : ℕ) (w : Working) → IsNormal n w → AllPositive w.terms
positive_of n w p = normal_positive n 0 w.terms p.terms_are

pub tighten_keeps : TightenKeeps
tighten_keeps n w p a = keeps w.bound w.terms (positive_of n w p) (outcome_of w) a

pub tighten_is_normal : TightenIsNormal
tighten_is_normal n w p = stays_normal w.bound w.terms (positive_of n w p) (outcome_of w) n p

pub tighten_is_tight : TightenIsTight
tighten_is_tight n w p = is_tight w.bound w.terms (positive_of n w p) (outcome_of w)

pub tighten_once : TightenOnce
tighten_once n w p = once w.bound w.terms (positive_of n w p) (outcome_of w)
