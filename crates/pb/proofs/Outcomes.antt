-- The outcomes of tightening a line, each with what is known of the line there.
use Prim.Native.Nat.{◌∣◌}
use Rattle.std.proofs.Common.{◌≡◌, ℕ, ◌/◌, ◌%◌, ◌<◌, ◌≤◌, false, ◌&&◌, eqb, ltb, List, [], ◌∷◌, length, inl, inr}
use Rattle.std.proofs.Common.{arith}
use Rattle.std.proofs.lemmas.Bool.{cond_both, and_cases, and_parts, eqb-true, eqb-false, ltb-true, ltb-false}
use Rattle.std.proofs.lemmas.Nat.Gcd.{dvd_of_mod-eq-zero, mod-eq-zero_of_dvd}
use Rattle.pb.specs.declared.working.Sense.{Sense}
use Rattle.pb.specs.declared.working.Sense.TheVariants.{AtLeast, Exactly}
use Rattle.pb.specs.declared.working.WorkingTerm.{WorkingTerm}
use Rattle.pb.specs.Lines.{Working, empty_line, impossible_line}
use Rattle.pb.specs.Sums.{weight_sum}
use Rattle.pb.specs.Tightened.{divisor_of, saturated, divided, divided_least, tightened_least, tightened_exactly}
use Rattle.pb.specs.Tightened.{tightened}

-- a working line of these parts, and one of "exactly" divided by d
abbrev pub working_line : Sense → ℕ → List WorkingTerm → Working
working_line s k ts = record { sense = s; bound = k; terms = ts }

abbrev pub divided_line : ℕ → ℕ → List WorkingTerm → Working
divided_line d k ts = working_line Exactly (k / d) (divided d ts)

-- what tightening makes of a line, and when
pub data Outcome (k : ℕ) (ts : List WorkingTerm) : Sense → Working → Type 0 where
  always_met : k ≡ 0 → Outcome k ts AtLeast empty_line
  no_terms : k ≡ 0 → length ts ≡ 0 → Outcome k ts Exactly empty_line
  out_of_reach : (s : Sense) → weight_sum ts < k → Outcome k ts s impossible_line
  not_divided : (divisor_of ts ∣ k → ⊥) → Outcome k ts Exactly impossible_line
  least_divided : 0 < k → k ≤ weight_sum ts → Outcome k ts AtLeast (divided_least k (saturated k ts))
  exactly_divided : 0 < length ts → k ≤ weight_sum ts → divisor_of ts ∣ k
      → Outcome k ts Exactly (divided_line (divisor_of ts) k ts)

pub some_terms : (ts : List WorkingTerm) → 0 < weight_sum ts → 0 < length ts
some_terms [] h = h
some_terms (t ∷ ts) h = omega arith

least_outcome : (k : ℕ) (ts : List WorkingTerm) → Outcome k ts AtLeast (tightened_least k ts)
least_outcome k ts =
    cond_both (eqb k 0) _ _ (Outcome k ts AtLeast) (λ e. always_met (eqb-true k 0 e)) (λ e.
    cond_both (ltb (weight_sum ts) k) _ _ (Outcome k ts AtLeast) (λ d. out_of_reach AtLeast (ltb-true _ _ d)) (λ d.
    let ne = eqb-false k 0 e in
    least_divided (omega arith) (ltb-false _ _ d)))

has_terms : (k : ℕ) (ts : List WorkingTerm) → (eqb k 0 && eqb (length ts) 0) ≡ false → k ≤ weight_sum ts
    → 0 < length ts
has_terms k ts e h = elim (and_cases (eqb k 0) (eqb (length ts) 0) e) [
  | inl p ↦ let ne = eqb-false k 0 p in some_terms ts (omega arith)
  | inr p ↦ let ne = eqb-false (length ts) 0 p in omega arith
]

exactly_outcome : (k : ℕ) (ts : List WorkingTerm) → Outcome k ts Exactly (tightened_exactly k ts)
exactly_outcome k ts =
    cond_both (eqb k 0 && eqb (length ts) 0) _ _ (Outcome k ts Exactly) (λ e.
    let b = and_parts (eqb k 0) (eqb (length ts) 0) e in
    no_terms (eqb-true k 0 b.0) (eqb-true (length ts) 0 b.1)) (λ e.
    cond_both (ltb (weight_sum ts) k) _ _ (Outcome k ts Exactly) (λ d. out_of_reach Exactly (ltb-true _ _ d)) (λ d.
    let enough = ltb-false _ _ d in
    cond_both (eqb (k % divisor_of ts) 0) _ _ (Outcome k ts Exactly)
    (λ c. exactly_divided (has_terms k ts e enough) enough (dvd_of_mod-eq-zero _ (eqb-true _ _ c)))
    (λ c. not_divided (λ x. eqb-false _ _ c (mod-eq-zero_of_dvd _ x)))))

outcome_by : (s : Sense) (k : ℕ) (ts : List WorkingTerm) → Outcome k ts s (tightened (working_line s k ts))
outcome_by AtLeast k ts = least_outcome k ts
outcome_by Exactly k ts = exactly_outcome k ts

pub outcome_of : (w : Working) → Outcome w.bound w.terms w.sense (tightened w)
outcome_of w = outcome_by w.sense w.bound w.terms
