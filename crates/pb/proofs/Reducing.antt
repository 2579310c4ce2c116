-- Where a literal holds, the reduced line is met just where the line is; a reduced line is in normal form and gains no
-- term.
use Rattle.std.proofs.Common.{◌≡◌, ℕ, suc, ◌+◌, ◌-◌, ◌≤◌, Bool, true, false, cond, not, eqb, ltb, List, [], ◌∷◌, ◌++◌}
use Rattle.std.proofs.Common.{length, ℤ, pos, negsuc, nat_abs, sym, refl, ap, ◌∙◌, inl, inr, arith}
use Rattle.std.proofs.lemmas.Bool.{not-true, eq-eqb, ne_eqb, cases_eq, cond_both}
use Rattle.std.proofs.lemmas.Bool.Decides.{nat_tests}
use Rattle.pb.specs.declared.working.Sense.{Sense}
use Rattle.pb.specs.declared.working.Sense.TheVariants.{AtLeast, Exactly}
use Rattle.pb.specs.declared.working.WorkingTerm.{WorkingTerm}
use Rattle.pb.specs.Lines.{Working, impossible_line}
use Rattle.pb.specs.Sums.{weight_sum}
use Rattle.pb.specs.Meaning.{Assignment, holds, weighed, reaches, met}
use Rattle.pb.specs.WorkingForm.{IsNormal, normal_terms}
use Rattle.pb.specs.Settled.{same_literal, others, weight_on, lessened}
use Rattle.pb.specs.Laws.{ReducedKeeps, ReducedIsNormal}
use Rattle.pb.proofs.Firsts.{IsFirst, normal_first, first_normal, normal_lower, no_terms_is_normal}

-- where l holds, another literal of its variable holds if it is l
same_variable : (a : Assignment) (l x : ℤ) → holds a l ≡ true → nat_abs x ≡ nat_abs l → holds a x ≡ same_literal x l
same_variable a (pos v) (pos u) h e = ap a e ∙ h ∙ sym (eq-eqb u v e)
same_variable a (pos v) (negsuc u) h e = ap (λ b. not b) (ap a e ∙ h)
same_variable a (negsuc v) (pos u) h e = ap a e ∙ not-true (a (suc v)) h
same_variable a (negsuc v) (negsuc u) h e = ap (λ x. not (a x)) e ∙ h ∙ sym (eq-eqb u v (omega arith))

other_variable : (l x : ℤ) → (nat_abs x ≡ nat_abs l → ⊥) → same_literal x l ≡ false
other_variable (pos v) (pos u) h = ne_eqb u v h
other_variable (pos v) (negsuc u) h = refl
other_variable (negsuc v) (pos u) h = refl
other_variable (negsuc v) (negsuc u) h = ne_eqb u v (λ e. h (ap suc e))

-- so a term counts its weight on l, or what it counts among the others
term_splits : (a : Assignment) (l : ℤ) (t : WorkingTerm) (ts : List WorkingTerm) → holds a l ≡ true
    → cond (holds a t.literal) t.weight 0 + weighed a ts
    ≡ cond (same_literal t.literal l) t.weight 0
    + weighed a (cond (eqb (nat_abs t.literal) (nat_abs l)) [] (t ∷ []) ++ ts)
term_splits a l t ts h = elim (cases_eq (nat_abs t.literal) (nat_abs l)) [
  | inl e ↦ rw (eq-eqb (nat_abs t.literal) (nat_abs l) e, same_variable a l t.literal h e)
  | inr e ↦ rw (ne_eqb (nat_abs t.literal) (nat_abs l) e, other_variable l t.literal e) (omega arith)
]

weighed_splits : (a : Assignment) (l : ℤ) (ts : List WorkingTerm) → holds a l ≡ true
    → weighed a ts ≡ weight_on l ts + weighed a (others l ts)
weighed_splits a l [] h = refl
weighed_splits a l (t ∷ ts) h =
    let e = weighed_splits a l ts h in
    let d = term_splits a l t (others l ts) h in
    omega arith

-- a bound lessened by part of the total is met by the rest
lessened_met : (a : Assignment) (s : Sense) (k w : ℕ) (ts : List WorkingTerm)
    → met a (lessened s k w ts) ≡ reaches s (w + weighed a ts) k
lessened_met a AtLeast k w ts = grind (arith, nat_tests)
lessened_met a Exactly k w ts = grind (arith, nat_tests)

pub reduced_keeps : ReducedKeeps
reduced_keeps w l a h =
    lessened_met a w.sense w.bound (weight_on l w.terms) (others l w.terms)
    ∙ ap (λ x. reaches w.sense x w.bound) (sym (weighed_splits a l w.terms h))

-- terms left out leave the order, the number and the sum in range
kept_normal : (b : Bool) (n below : ℕ) (t : WorkingTerm) (ts : List WorkingTerm) → IsFirst n below t ts
    → normal_terms n below (cond b [] (t ∷ []) ++ ts) ≡ true
kept_normal true n below t ts f = normal_lower n below (nat_abs t.literal) ts (omega arith) f.rest
kept_normal false n below t ts f = first_normal n below t ts f

others_normal : (n below : ℕ) (l : ℤ) (ts : List WorkingTerm) → normal_terms n below ts ≡ true
    → normal_terms n below (others l ts) ≡ true
others_normal n below l [] h = refl
others_normal n below l (t ∷ ts) h =
    let f = normal_first n below t ts h in
    let r = others_normal n (nat_abs t.literal) l ts f.rest in
    kept_normal (eqb (nat_abs t.literal) (nat_abs l)) n below t (others l ts)
    (record { heavy = f.heavy; above = f.above; named = f.named; rest = r })

kept_less : (b : Bool) (t : WorkingTerm) (ts : List WorkingTerm)
    → (length (cond b [] (t ∷ []) ++ ts) ≤ suc (length ts))
    × (weight_sum (cond b [] (t ∷ []) ++ ts) ≤ t.weight + weight_sum ts)
kept_less true t ts = (omega arith, omega arith)
kept_less false t ts = (omega arith, omega arith)

others_less : (l : ℤ) (ts : List WorkingTerm)
    → (length (others l ts) ≤ length ts) × (weight_sum (others l ts) ≤ weight_sum ts)
others_less l [] = (omega arith, omega arith)
others_less l (t ∷ ts) =
    let e = others_less l ts in
    let d = kept_less (eqb (nat_abs t.literal) (nat_abs l)) t (others l ts) in
    (omega arith, omega arith)

-- a line in normal form of no more terms than some number
abbrev IsNormalWithin : ℕ → ℕ → Working → Type 0
IsNormalWithin n size w = IsNormal n w × (length w.terms ≤ size)

-- to lower the bound of a line, under either sense, keeps it so
lowered_is_normal : (s : Sense) (n size k w : ℕ) (ts : List WorkingTerm)
    → IsNormalWithin n size (record { sense = s; bound = k; terms = ts })
    → IsNormalWithin n size (record { sense = s; bound = k - w; terms = ts })
lowered_is_normal s n size k w ts h =
    (record { terms_are = h.0.terms_are; few = h.0.few; light = h.0.light; near = omega (arith, h.0.near) }, h.1)

lessened_is_normal : (s : Sense) (n size k w : ℕ) (ts : List WorkingTerm)
    → IsNormalWithin n size (record { sense = s; bound = k; terms = ts }) → IsNormalWithin n size (lessened s k w ts)
lessened_is_normal AtLeast n size k w ts h = lowered_is_normal AtLeast n size k w ts h
lessened_is_normal Exactly n size k w ts h =
    cond_both (ltb k w) impossible_line (record { sense = Exactly; bound = k - w; terms = ts }) (IsNormalWithin n size)
    (λ e. (no_terms_is_normal n 1 (omega arith), omega arith))
    (λ e. lowered_is_normal Exactly n size k w ts h)

pub reduced_is_normal : ReducedIsNormal
reduced_is_normal n w l g =
    let e = others_less l w.terms in
    let kept : IsNormal n (record { sense = w.sense; bound = w.bound; terms = others l w.terms }) = record {
      terms_are = others_normal n 0 l w.terms g.terms_are;
      few = omega arith;
      light = omega arith;
      near = g.near;
    } in
    lessened_is_normal w.sense n (length w.terms) w.bound (weight_on l w.terms) (others l w.terms) (kept, e.0)
