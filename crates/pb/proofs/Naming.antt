-- Which variables a line names once it is reduced or tightened, and that it names a forced literal's.
use Rattle.std.proofs.Common.{◌≡◌, ℕ, suc, ◌-◌, true, false, cond, ◌||◌, eqb, ltb, List, [], ◌∷◌, ◌++◌, ℤ}
use Rattle.std.proofs.Common.{pos, negsuc, neg_ℤ, nat_abs, Some, sym, refl, ap, ◌∙◌, ⊎_elim, inl, inr, arith}
use Rattle.std.proofs.lemmas.Bool.{true≢false, le-ltb, cond-false, or_left, or_right, or_parts, cond_both, eq-eqb}
use Rattle.std.proofs.lemmas.Bool.{ne_eqb, cases_Bool}
use Rattle.pb.specs.declared.working.Sense.{Sense}
use Rattle.pb.specs.declared.working.Sense.TheVariants.{AtLeast, Exactly}
use Rattle.pb.specs.declared.working.WorkingTerm.{WorkingTerm}
use Rattle.pb.specs.Laws.{ForcedIsNamed, ReducedDropsVariable, ReducedNamesNoMore, ReducedSameWhereUnnamed}
use Rattle.pb.specs.Laws.{TightenNamesNoMore}
use Rattle.pb.specs.Lines.{Working, impossible_line}
use Rattle.pb.specs.Names.{names_variable}
use Rattle.pb.specs.Settled.{forced_least, forced_exactly, forced_by, same_literal, others, lessened, weight_on}
use Rattle.pb.specs.Sums.{weight_sum}
use Rattle.pb.specs.Tightened.{divisor_of, saturated, divided}
use Rattle.pb.proofs.Outcomes.{Outcome, outcome_of}
use Rattle.pb.proofs.Outcomes.{always_met, no_terms, out_of_reach, not_divided, least_divided, exactly_divided}
use Rattle.pb.proofs.Settling.{either_found, none_found, reached_found, variable_of_complement}

-- the literal's variable is that of the first term, or of a later one
named_first : (t : WorkingTerm) (l : ℤ) (ts : List WorkingTerm) → nat_abs t.literal ≡ nat_abs l
    → names_variable (nat_abs l) (t ∷ ts) ≡ true
named_first t l ts e = or_left _ _ (eq-eqb (nat_abs t.literal) (nat_abs l) e)

named_later : (t : WorkingTerm) (l : ℤ) (ts : List WorkingTerm) → names_variable (nat_abs l) ts ≡ true
    → names_variable (nat_abs l) (t ∷ ts) ≡ true
named_later t l ts h = or_right (eqb (nat_abs t.literal) (nat_abs l)) _ h

least_is_named : (sum k : ℕ) (ts : List WorkingTerm) (l : ℤ) → forced_least sum k ts ≡ Some l
    → names_variable (nat_abs l) ts ≡ true
least_is_named sum k [] l h = absurd (none_found l h)
least_is_named sum k (t ∷ ts) l h =
    elim (either_found (ltb (sum - t.weight) k) t.literal l (forced_least sum k ts) h) [
      | inl p ↦ named_first t l ts (ap nat_abs p.1)
      | inr p ↦ named_later t l ts (least_is_named sum k ts l p)
    ]

exactly_is_named : (sum k : ℕ) (ts : List WorkingTerm) (l : ℤ) → forced_exactly sum k ts ≡ Some l
    → names_variable (nat_abs l) ts ≡ true
exactly_is_named sum k [] l h = absurd (none_found l h)
exactly_is_named sum k (t ∷ ts) l h =
    let o = forced_exactly sum k ts in
    elim (either_found (ltb k t.weight) (neg_ℤ t.literal) l (cond (ltb (sum - t.weight) k) (Some t.literal) o) h) [
      | inl p ↦ named_first t l ts (sym (variable_of_complement t.literal) ∙ ap nat_abs p.1)
      | inr r ↦ elim (either_found (ltb (sum - t.weight) k) t.literal l o r) [
        | inl p ↦ named_first t l ts (ap nat_abs p.1)
        | inr p ↦ named_later t l ts (exactly_is_named sum k ts l p)
      ]
    ]

by_is_named : (s : Sense) (sum k : ℕ) (ts : List WorkingTerm) (l : ℤ) → forced_by s sum k ts ≡ Some l
    → names_variable (nat_abs l) ts ≡ true
by_is_named AtLeast sum k ts l h = least_is_named sum k ts l h
by_is_named Exactly sum k ts l h = exactly_is_named sum k ts l h

pub forced_is_named : ForcedIsNamed
forced_is_named w l h =
    let found = reached_found (ltb (weight_sum w.terms) w.bound) l _ h in
    by_is_named w.sense (weight_sum w.terms) w.bound w.terms l found

-- what holds of no terms and of the terms left holds of a reduced line's terms
lessened_terms : (P : List WorkingTerm → Type 0) (s : Sense) (k w : ℕ) (ts : List WorkingTerm) → P [] → P ts
    → P (lessened s k w ts).terms
lessened_terms P AtLeast k w ts none all = all
lessened_terms P Exactly k w ts none all =
    cond_both (ltb k w) impossible_line (record { sense = Exactly; bound = k - w; terms = ts })
    (λ (x : Working). P x.terms) (λ _. none) (λ _. all)

others_drop : (l : ℤ) (ts : List WorkingTerm) → names_variable (nat_abs l) (others l ts) ≡ false
others_drop l [] = refl
others_drop l (t ∷ ts) = ⊎_elim
    (λ (e : eqb (nat_abs t.literal) (nat_abs l) ≡ true). rw e (others_drop l ts))
    (λ (e : eqb (nat_abs t.literal) (nat_abs l) ≡ false). rw e (rw e (others_drop l ts)))
    (cases_Bool (eqb (nat_abs t.literal) (nat_abs l)))

others_name_no_more : (l : ℤ) (v : ℕ) (ts : List WorkingTerm) → names_variable v ts ≡ false
    → names_variable v (others l ts) ≡ false
others_name_no_more l v [] h = refl
others_name_no_more l v (t ∷ ts) h =
    let p = or_parts (eqb (nat_abs t.literal) v) (names_variable v ts) h in
    let rest = others_name_no_more l v ts p.1 in
    cond_both (eqb (nat_abs t.literal) (nat_abs l)) [] (t ∷ []) (λ us. names_variable v (us ++ others l ts) ≡ false)
    (λ _. rest) (λ _. rw p.0 rest)

pub reduced_drops_variable : ReducedDropsVariable
reduced_drops_variable w l =
    lessened_terms (λ us. names_variable (nat_abs l) us ≡ false)
    w.sense w.bound (weight_on l w.terms) (others l w.terms) refl (others_drop l w.terms)

pub reduced_names_no_more : ReducedNamesNoMore
reduced_names_no_more w l v h =
    lessened_terms (λ us. names_variable v us ≡ false)
    w.sense w.bound (weight_on l w.terms) (others l w.terms) refl (others_name_no_more l v w.terms h)

-- terms that do not name the literal's variable are all kept, and none of their weights is on the literal
others_same : (l : ℤ) (ts : List WorkingTerm) → names_variable (nat_abs l) ts ≡ false → others l ts ≡ ts
others_same l [] h = refl
others_same l (t ∷ ts) h =
    let p = or_parts (eqb (nat_abs t.literal) (nat_abs l)) (names_variable (nat_abs l) ts) h in
    rw p.0 (ap (λ us. t ∷ us) (others_same l ts p.1))

other_literal : (x l : ℤ) → eqb (nat_abs x) (nat_abs l) ≡ false → same_literal x l ≡ false
other_literal (pos m) (pos n) h = h
other_literal (pos m) (negsuc n) h = refl
other_literal (negsuc m) (pos n) h = refl
other_literal (negsuc m) (negsuc n) h =
    ne_eqb m n (λ e. true≢false (sym (eq-eqb (suc m) (suc n) (ap suc e)) ∙ h))

no_weight_on : (l : ℤ) (ts : List WorkingTerm) → names_variable (nat_abs l) ts ≡ false → weight_on l ts ≡ 0
no_weight_on l [] h = refl
no_weight_on l (t ∷ ts) h =
    let p = or_parts (eqb (nat_abs t.literal) (nat_abs l)) (names_variable (nat_abs l) ts) h in
    rw (other_literal t.literal l p.0) (let e = no_weight_on l ts p.1 in omega arith)

lessened_by_none : (s : Sense) (k : ℕ) (ts : List WorkingTerm)
    → lessened s k 0 ts ≡ record { sense = s; bound = k; terms = ts }
lessened_by_none AtLeast k ts =
    let e : k - 0 ≡ k = omega arith in
    ap (λ b. record { sense = AtLeast; bound = b; terms = ts }) e
lessened_by_none Exactly k ts =
    let e : k - 0 ≡ k = omega arith in
    cond-false (ltb k 0) _ _ (le-ltb k 0 (omega arith))
    ∙ ap (λ b. record { sense = Exactly; bound = b; terms = ts }) e

pub reduced_same_where_unnamed : ReducedSameWhereUnnamed
reduced_same_where_unnamed w l h =
    ap (λ us. lessened w.sense w.bound (weight_on l w.terms) us) (others_same l w.terms h)
    ∙ ap (λ n. lessened w.sense w.bound n w.terms) (no_weight_on l w.terms h)
    ∙ lessened_by_none w.sense w.bound w.terms

-- weights alone change where a line is tightened
divided_names : (v d : ℕ) (ts : List WorkingTerm) → names_variable v (divided d ts) ≡ names_variable v ts
divided_names v d [] = refl
divided_names v d (t ∷ ts) = ap (λ b. eqb (nat_abs t.literal) v || b) (divided_names v d ts)

saturated_names : (v k : ℕ) (ts : List WorkingTerm) → names_variable v (saturated k ts) ≡ names_variable v ts
saturated_names v k [] = refl
saturated_names v k (t ∷ ts) = ap (λ b. eqb (nat_abs t.literal) v || b) (saturated_names v k ts)

outcome_names_no_more : (k : ℕ) (ts : List WorkingTerm) {s : Sense} {w : Working} → Outcome k ts s w
    → (v : ℕ) → names_variable v ts ≡ false → names_variable v w.terms ≡ false
outcome_names_no_more k ts (always_met e) v h = refl
outcome_names_no_more k ts (no_terms e l) v h = refl
outcome_names_no_more k ts (out_of_reach s e) v h = refl
outcome_names_no_more k ts (not_divided e) v h = refl
outcome_names_no_more k ts (least_divided e l) v h =
    let us = saturated k ts in
    divided_names v (divisor_of us) us ∙ saturated_names v k ts ∙ h
outcome_names_no_more k ts (exactly_divided e l c) v h = divided_names v (divisor_of ts) ts ∙ h

pub tighten_names_no_more : TightenNamesNoMore
tighten_names_no_more w v h = outcome_names_no_more w.bound w.terms (outcome_of w) v h
