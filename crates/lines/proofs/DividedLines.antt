-- The divided lines: a divisor that is not 0, and the table that holds the divided terms.
use Rattle.std.proofs.Common.{◌≡◌, ℕ, ◌/◌, ◌%◌, ◌<◌, ◌≤◌, false, ◌&&◌, eqb, List, [], ◌∷◌, length, sym, refl, ap, ◌∙◌}
use Rattle.std.proofs.Common.{inl}
use Rattle.std.proofs.Common.{inr, arith}
use Rattle.std.proofs.Math.Nat.{div-zero, mod-zero, eq-zero_of_zero-dvd}
use Rattle.std.proofs.lemmas.List.{drop_all, take_all}
use Rattle.std.proofs.lemmas.Bool.{cases_eq, cases_lt, cond-false, cond-true, eq-eqb, le-ltb, ne_eqb, and_left}
use Rattle.std.proofs.lemmas.Bool.{and_right}
use Rattle.std.specs.Int.{div_ceil}
use Rattle.pb.specs.declared.working.Sense.{Sense}
use Rattle.pb.specs.declared.working.Sense.TheVariants.{AtLeast, Exactly}
use Rattle.pb.specs.declared.working.WorkingHead.{WorkingHead}
use Rattle.pb.specs.declared.working.WorkingTerm.{WorkingTerm}
use Rattle.pb.specs.Lines.{Working}
use Rattle.pb.specs.Sums.{weight_sum}
use Rattle.pb.specs.Tightened.{divided, divisor_of, saturated, tightened_exactly, tightened_least}
use Rattle.pb.proofs.Divisors.{DividesAll}
use Rattle.lines.specs.Tables.{HoldsLine}
use Rattle.lines.proofs.Gcd.{divisor_zero, saturated_zero, zero_divides}

-- a working line, and a head of so many terms
abbrev working : Sense → ℕ → List WorkingTerm → Working
working s k ts = record { sense = s; bound = k; terms = ts }

abbrev head : Sense → ℕ → ℕ → WorkingHead
head s k n = record { sense = s; bound = k; count = n }

-- weights that reach a positive bound have a divisor, once cut to it
pub least_positive : (k d : ℕ) (ts vs : List WorkingTerm) → 0 < k → k ≤ weight_sum ts → vs ≡ saturated k ts
    → d ≡ divisor_of vs → 0 < d
least_positive k d ts vs h r v e =
    elim (cases_lt 0 d) [
      | inl p ↦ p
      | inr z ↦
          let none : divisor_of (saturated k ts) ≡ 0 = ap divisor_of (sym v) ∙ sym e ∙ omega arith in
          absurd (omega (arith, saturated_zero k ts h (divisor_zero (saturated k ts) none)))
    ]

-- a table that holds a line's terms, and no others
holds_all : (w : Working) (s : Sense) (k n : ℕ) (ts us : List WorkingTerm) → w ≡ working s k us → n ≡ length us
    → length us ≡ length ts → HoldsLine w (head s k n) ts us
holds_all w s k n ts us e h l =
    let a : length us ≤ n = omega arith in
    let b : length ts ≤ n = omega arith in
    record {
      line = e ∙ ap (working s k) (sym (take_all n us a));
      within = omega arith;
      rest = drop_all n us a ∙ sym (drop_all n ts b);
    }

-- "at least": the table holds the weights cut and divided
least_is : (k d : ℕ) (ts vs us : List WorkingTerm) → 0 < k → k ≤ weight_sum ts → vs ≡ saturated k ts
    → d ≡ divisor_of vs → us ≡ divided d vs → tightened_least k ts ≡ working AtLeast (div_ceil k d) us
least_is k d ts vs us h r v e u =
    let cut = saturated k ts in
    let same : divisor_of cut ≡ d = sym (e ∙ ap divisor_of v) in
    let terms : divided d cut ≡ us = cc in
    cond-false _ _ _ (ne_eqb k 0 (λ z. omega arith))
    ∙ cond-false _ _ _ (le-ltb _ _ r)
    ∙ ap (λ x. working AtLeast (div_ceil k x) (divided x cut)) same
    ∙ ap (working AtLeast (div_ceil k d)) terms

pub least_holds : (k d q : ℕ) (ts vs us : List WorkingTerm) → 0 < k → k ≤ weight_sum ts → vs ≡ saturated k ts
    → d ≡ divisor_of vs → us ≡ divided d vs → q ≡ div_ceil k d → length us ≡ length ts
    → HoldsLine (tightened_least k ts) (head AtLeast q (length us)) ts us
least_holds k d q ts vs us h r v e u b l =
    let line = least_is k d ts vs us h r v e u ∙ ap (λ n. working AtLeast n us) (sym b) in
    holds_all _ _ _ _ ts us line refl l

-- "exactly", where the bound divides
exactly_is : (k d : ℕ) (ts : List WorkingTerm) → (k ≡ 0 → length ts ≡ 0 → ⊥) → k ≤ weight_sum ts
    → d ≡ divisor_of ts → k % d ≡ 0 → tightened_exactly k ts ≡ working Exactly (k / d) (divided d ts)
exactly_is k d ts h r e m =
    let some : (eqb k 0 && eqb (length ts) 0) ≡ false = elim (cases_eq k 0) [
      | inl z ↦ and_right _ _ (ne_eqb _ _ (h z))
      | inr z ↦ and_left _ _ (ne_eqb _ _ z)
    ] in
    let divides : k % divisor_of ts ≡ 0 = ap (λ x. k % x) (sym e) ∙ m in
    cond-false _ _ _ some
    ∙ cond-false _ _ _ (le-ltb _ _ r)
    ∙ cond-true _ _ _ (eq-eqb _ _ divides)
    ∙ ap (λ x. working Exactly (k / x) (divided x ts)) (sym e)

pub exactly_holds : (k d : ℕ) (ts us : List WorkingTerm) → (k ≡ 0 → length ts ≡ 0 → ⊥) → k ≤ weight_sum ts
    → d ≡ divisor_of ts → k % d ≡ 0 → us ≡ divided d ts → length us ≡ length ts
    → HoldsLine (tightened_exactly k ts) (head Exactly (k / d) (length ts)) ts us
exactly_holds k d ts us h r e m u l =
    let line = exactly_is k d ts h r e m ∙ ap (working Exactly (k / d)) (sym u) in
    holds_all _ _ _ _ ts us line (sym l) l

-- weights of 0 are as they were
divided_by_zero : (ts : List WorkingTerm) → DividesAll 0 ts → divided 0 ts ≡ ts
divided_by_zero [] h = refl
divided_by_zero (t ∷ ts) h =
    let same = div-zero t.weight ∙ sym (eq-zero_of_zero-dvd h.0) in
    ap (λ n. record { weight = n; literal = t.literal } ∷ divided 0 ts) same
    ∙ ap (λ us. t ∷ us) (divided_by_zero ts h.1)

pub zero_holds : (k : ℕ) (ts : List WorkingTerm) → (k ≡ 0 → length ts ≡ 0 → ⊥) → k ≤ weight_sum ts
    → divisor_of ts ≡ 0 → HoldsLine (tightened_exactly k ts) (head Exactly k (length ts)) ts ts
zero_holds k ts h r e =
    let z : k ≡ 0 = omega (arith, divisor_zero ts e) in
    let bound = div-zero k ∙ sym z in
    let line = exactly_is k 0 ts h r (sym e) (mod-zero k ∙ z)
    ∙ ap (λ n. working Exactly n (divided 0 ts)) bound
    ∙ ap (working Exactly k) (divided_by_zero ts (zero_divides ts e)) in
    holds_all _ _ _ _ ts ts line refl refl
