-- Clauses given one after another: they stand after what was held, a cut takes them back, and where the rule takes
-- every beginning of a list that fits, well-formed clauses all go on exactly when the longer list fits.
use Rattle.std.proofs.Common.{◌≡◌, ℕ, ◌+◌, ◌≤◌, Bool, true, false, cond, ◌&&◌, List, [], ◌∷◌, ◌++◌, length, take}
use Rattle.std.proofs.Common.{is_ok, Ok, Err, Result, sym, refl, ap, ◌∙◌, inl, inr}
use Rattle.std.proofs.Common.{append_assoc, append-nil, arith, length-append}
use Rattle.std.proofs.lemmas.List.{take_at}
use Rattle.std.proofs.lemmas.Bool.{and_parts, cases_Bool, both_ways}
use Rattle.cnf.specs.declared.sheet_fault.SheetFault.{SheetFault}
use Rattle.cnf.specs.declared.sheet_fault.SheetCause.TheVariants.{Malformed, Full}
use Rattle.cnf.specs.Clauses.{Clause, well_formed, all_well_formed}
use Rattle.cnf.specs.Calls.{refusal_of, Rule, Begins, give_answer, give_held, each_answer, each_held, all_of}
use Rattle.cnf.specs.Calls.{all_answer}
use Rattle.cnf.specs.Calls.{all_held, whole_answer, whole_held}

-- what is held afterwards begins with what was held
pub each_grows : (fits : Rule) (cs ds : List Clause) → (es : List Clause) × (each_held fits cs ds ≡ cs ++ es)
each_grows fits cs [] = ([], sym (append-nil cs))
each_grows fits cs (d ∷ ds) =
    elim (well_formed d && fits (cs ++ d ∷ [])) as
    (λ b. (es : List Clause) × (cond b (each_held fits (cs ++ d ∷ []) ds) cs ≡ cs ++ es)) [
      | true ↦ let p = each_grows fits (cs ++ d ∷ []) ds in (d ∷ p.0, p.1 ∙ append_assoc cs (d ∷ []) p.0)
      | false ↦ ([], sym (append-nil cs))
    ]

-- so a cut to the count before takes back what was given since
pub cut_back : (fits : Rule) (cs ds mid : List Clause) (n : ℕ) → mid ≡ each_held fits cs ds → n ≡ length cs
    → take n mid ≡ cs
cut_back fits cs ds mid n e k = let p = each_grows fits cs ds in ap (take n) (e ∙ p.1) ∙ take_at cs p.0 n (sym k)

pub each_longer : (fits : Rule) (cs ds : List Clause) → length cs ≤ length (each_held fits cs ds)
each_longer fits cs ds = let p = each_grows fits cs ds in omega (arith, ap length p.1, length-append cs p.0)

-- where none was refused, all are there
given_by : (b f : Bool) (x : Result (Unit {0}) SheetFault) (e₁ e₂ : SheetFault)
    → cond b (cond f x (Err e₁)) (Err e₂) ≡ Ok tt → ((b && f) ≡ true) × (x ≡ Ok tt)
given_by true true x e₁ e₂ h = (refl, h)
given_by true false x e₁ e₂ h = absurd (let z : ◌≡◌ {A = ℕ} 0 1 = cc in omega arith)
given_by false f x e₁ e₂ h = absurd (let z : ◌≡◌ {A = ℕ} 0 1 = cc in omega arith)

pub each_all : (fits : Rule) (cs ds : List Clause) → each_answer fits cs ds ≡ Ok tt → each_held fits cs ds ≡ cs ++ ds
each_all fits cs [] h = sym (append-nil cs)
each_all fits cs (d ∷ ds) h =
    let p = given_by (well_formed d) (fits (cs ++ d ∷ [])) (each_answer fits (cs ++ d ∷ []) ds) _ _ h in
    ap (λ b. cond b (each_held fits (cs ++ d ∷ []) ds) cs) p.0 ∙ each_all fits (cs ++ d ∷ []) ds p.1
    ∙ append_assoc cs (d ∷ []) ds

-- where a clause does not fit after what is held, no list that goes on with it fits
longer_unfit : (fits : Rule) (cs ds : List Clause) (d : Clause) → Begins fits → fits (cs ++ d ∷ []) ≡ false
    → fits (cs ++ (d ∷ ds)) ≡ false
longer_unfit fits cs ds d begins h =
    elim (cases_Bool (fits (cs ++ (d ∷ ds)))) [
      | inl fit ↦
          let front =
          ap (take (length (cs ++ d ∷ []))) (sym (append_assoc cs (d ∷ []) ds))
          ∙ take_at (cs ++ d ∷ []) ds _ refl in
          absurd (both_ways (fits (cs ++ d ∷ [])) h
          (sym (ap fits front) ∙ begins (length (cs ++ d ∷ [])) (cs ++ (d ∷ ds)) fit))
      | inr unfit ↦ unfit
    ]

-- all or nothing, of a part ds of the clauses es that are given after bs
pub each_whole : (fits : Rule) (bs es cs ds : List Clause) → Begins fits → fits cs ≡ true → all_well_formed ds ≡ true
    → all_of bs es (each_answer fits cs ds) ≡ cond (fits (cs ++ ds)) (Ok (length es)) (Err (refusal_of Full bs))
each_whole fits bs es cs [] begins fit formed = rw (append-nil, fit)
each_whole fits bs es cs (d ∷ ds) begins fit formed =
    let p = and_parts (well_formed d) (all_well_formed ds) formed in
    elim (cases_Bool (fits (cs ++ d ∷ []))) [
      | inl one ↦
          rw (p.0, one)
          (each_whole fits bs es (cs ++ d ∷ []) ds begins one p.1
          ∙ ap (λ xs. cond (fits xs) (Ok (length es)) (Err (refusal_of Full bs))) (append_assoc cs (d ∷ []) ds))
      | inr none ↦ rw (p.0, none, longer_unfit fits cs ds d begins none)
    ]

-- what giving all answers and leaves, from what giving them one after another does
module _ (fits : Rule) (cs ds : List Clause) where
  pub all_taken : (n : ℕ) → Ok tt ≡ each_answer fits cs ds → n + length cs ≡ length (each_held fits cs ds)
      → (Ok n ≡ all_answer fits cs ds) × (each_held fits cs ds ≡ all_held fits cs ds)
  all_taken n h e =
      let there = each_all fits cs ds (sym h) in
      let k : n ≡ length ds = omega (arith, ap length there, length-append cs ds) in (
        ap Ok k ∙ ap (all_of cs ds) h,
        there ∙ ap (λ r. cond (is_ok r) (cs ++ ds) cs) h,
      )

  pub all_refused : (e : SheetFault) → Err e ≡ each_answer fits cs ds
      → (Err (refusal_of e.cause cs) ≡ all_answer fits cs ds) × (cs ≡ all_held fits cs ds)
  all_refused e h = (ap (all_of cs ds) h, ap (λ r. cond (is_ok r) (cs ++ ds) cs) h)

  pub all_whole : Begins fits → fits cs ≡ true → all_well_formed ds ≡ true
      → all_answer fits cs ds ≡ whole_answer fits cs ds
  all_whole begins fit formed = each_whole fits cs ds cs ds begins fit formed

  pub all_whole_held : Begins fits → fits cs ≡ true → all_well_formed ds ≡ true
      → all_held fits cs ds ≡ whole_held fits cs ds
  all_whole_held begins fit formed =
      held_by_answer (each_answer fits cs ds) (fits (cs ++ ds)) (all_whole begins fit formed)
    where
      -- the list is held exactly where the answer says so
      held_by_answer : (r : Result (Unit {0}) SheetFault) (b : Bool)
          → all_of cs ds r ≡ cond b (Ok (length ds)) (Err (refusal_of Full cs))
          → cond (is_ok r) (cs ++ ds) cs ≡ cond b (cs ++ ds) cs
      held_by_answer (Ok done) true h = refl
      held_by_answer (Ok done) false h = absurd (let z : ◌≡◌ {A = ℕ} 0 1 = cc in omega arith)
      held_by_answer (Err e) true h = absurd (let z : ◌≡◌ {A = ℕ} 0 1 = cc in omega arith)
      held_by_answer (Err e) false h = refl

-- one list after another: the second is given where the first was not refused
module _ (fits : Rule) where
  pub each_then : (cs ds es : List Clause) → each_answer fits cs ds ≡ Ok tt
      → (each_answer fits cs (ds ++ es) ≡ each_answer fits (cs ++ ds) es)
      × (each_held fits cs (ds ++ es) ≡ each_held fits (cs ++ ds) es)
  each_then cs [] es h =
      (ap (λ xs. each_answer fits xs es) (sym (append-nil cs)), ap (λ xs. each_held fits xs es) (sym (append-nil cs)))
  each_then cs (d ∷ ds) es h =
      let p = given_by (well_formed d) (fits (cs ++ d ∷ [])) (each_answer fits (cs ++ d ∷ []) ds) _ _ h in
      let q = and_parts (well_formed d) (fits (cs ++ d ∷ [])) p.0 in
      let rest = each_then (cs ++ d ∷ []) ds es p.1 in (
        rw (q.0, q.1) (rest.0 ∙ ap (λ xs. each_answer fits xs es) (append_assoc cs (d ∷ []) ds)),
        rw (q.0, q.1) (rest.1 ∙ ap (λ xs. each_held fits xs es) (append_assoc cs (d ∷ []) ds)),
      )

  pub each_stops : (cs ds es : List Clause) (e : SheetFault) → each_answer fits cs ds ≡ Err e
      → (each_answer fits cs (ds ++ es) ≡ Err e) × (each_held fits cs (ds ++ es) ≡ each_held fits cs ds)
  each_stops cs [] es e h = absurd (let z : ◌≡◌ {A = ℕ} 0 1 = cc in omega arith)
  each_stops cs (d ∷ ds) es e h =
      elim (cases_Bool (well_formed d)) [
        | inl formed ↦
            elim (cases_Bool (fits (cs ++ d ∷ []))) [
              | inl fit ↦
                  let rest = each_stops (cs ++ d ∷ []) ds es e (rw (formed, fit) at h) in
                  (rw (formed, fit) rest.0, rw (formed, fit) rest.1)
              | inr unfit ↦ (rw (formed, unfit) (rw (formed, unfit) at h), rw (formed, unfit))
            ]
        | inr malformed ↦ (rw malformed (rw malformed at h), rw malformed)
      ]

  -- one clause, as giving it answers
  pub each_one : (cs : List Clause) (d : Clause) (n : ℕ) → Ok n ≡ give_answer fits cs d
      → (each_answer fits cs (d ∷ []) ≡ Ok tt) × (give_held fits cs d ≡ cs ++ d ∷ [])
  each_one cs d n h =
      elim (cases_Bool (well_formed d)) [
        | inl formed ↦
            elim (cases_Bool (fits (cs ++ d ∷ []))) [
              | inl fit ↦ (rw (formed, fit), rw (formed, fit))
              | inr unfit ↦ absurd (let g = rw (formed, unfit) at h in let z : ◌≡◌ {A = ℕ} 0 1 = cc in omega arith)
            ]
        | inr malformed ↦ absurd (let g = rw malformed at h in let z : ◌≡◌ {A = ℕ} 0 1 = cc in omega arith)
      ]

  pub each_none : (cs : List Clause) (d : Clause) (e : SheetFault) → Err e ≡ give_answer fits cs d
      → (each_answer fits cs (d ∷ []) ≡ Err e) × (give_held fits cs d ≡ each_held fits cs (d ∷ []))
  each_none cs d e h =
      elim (cases_Bool (well_formed d)) [
        | inl formed ↦
            elim (cases_Bool (fits (cs ++ d ∷ []))) [
              | inl fit ↦ absurd (let g = rw (formed, fit) at h in let z : ◌≡◌ {A = ℕ} 0 1 = cc in omega arith)
              | inr unfit ↦
                  let g = rw (formed, unfit) at h in
                  let same : refusal_of Full cs ≡ e = cc in
                  (rw (formed, unfit) (ap Err same), rw (formed, unfit))
            ]
        | inr malformed ↦
            let g = rw malformed at h in
            let same : refusal_of Malformed cs ≡ e = cc in
            (rw malformed (ap Err same), rw malformed)
      ]

-- a part of a list was given: to give what is left after what is held now answers and leaves what giving all after bs
-- does
pub record LeftToGive (fits : Rule) (bs all cs left : List Clause) : Type 0 where
  pub answer : each_answer fits bs all ≡ each_answer fits cs left
  pub held : each_held fits bs all ≡ each_held fits cs left

module _ {fits : Rule} {bs all : List Clause} where
  -- what is left, written in another way
  pub left_same : {cs left rest : List Clause} → left ≡ rest → LeftToGive fits bs all cs left
      → LeftToGive fits bs all cs rest
  left_same e w = record { answer = w.answer ∙ ap (each_answer fits _) e; held = w.held ∙ ap (each_held fits _) e }

  -- a list was given, whole
  pub left_list_given : {cs after left : List Clause} (ds : List Clause) → Ok tt ≡ each_answer fits cs ds
      → after ≡ each_held fits cs ds → LeftToGive fits bs all cs (ds ++ left) → LeftToGive fits bs all after left
  left_list_given {cs} {after} {left} ds h e w =
      let p = each_then fits cs ds left (sym h) in
      let now : cs ++ ds ≡ after = sym (e ∙ each_all fits cs ds (sym h)) in
      record {
        answer = w.answer ∙ p.0 ∙ ap (λ xs. each_answer fits xs left) now;
        held = w.held ∙ p.1 ∙ ap (λ xs. each_held fits xs left) now;
      }

  -- a list was refused, and with it all
  pub left_refused : {cs after : List Clause} (ds left : List Clause) (e : SheetFault) → Err e ≡ each_answer fits cs ds
      → after ≡ each_held fits cs ds → LeftToGive fits bs all cs (ds ++ left)
      → (Err e ≡ each_answer fits bs all) × (after ≡ each_held fits bs all)
  left_refused {cs} {after} ds left e h k w =
      let p = each_stops fits cs ds left e (sym h) in (sym (w.answer ∙ p.0), k ∙ sym p.1 ∙ sym w.held)

  -- the same of one clause that was given
  pub left_given : {cs after left : List Clause} {n : ℕ} (d : Clause) → Ok n ≡ give_answer fits cs d
      → after ≡ give_held fits cs d → LeftToGive fits bs all cs (d ∷ left) → LeftToGive fits bs all after left
  left_given {cs} {after} {left} {n} d h e w =
      let p = each_one fits cs d n h in
      left_list_given (d ∷ []) (sym p.0) (e ∙ p.1 ∙ sym (each_all fits cs (d ∷ []) p.0)) w

  pub left_not_given : {cs after left : List Clause} (d : Clause) (e : SheetFault) → Err e ≡ give_answer fits cs d
      → after ≡ give_held fits cs d → LeftToGive fits bs all cs (d ∷ left)
      → (Err e ≡ each_answer fits bs all) × (after ≡ each_held fits bs all)
  left_not_given {cs} {after} {left} d e h k w =
      let p = each_none fits cs d e h in left_refused (d ∷ []) left e (sym p.0) (k ∙ p.1) w

  -- nothing is left
  pub left_none : {cs : List Clause} → LeftToGive fits bs all cs []
      → (Ok tt ≡ each_answer fits bs all) × (cs ≡ each_held fits bs all)
  left_none w = (sym w.answer, sym w.held)

pub left_all : (fits : Rule) (bs all : List Clause) → LeftToGive fits bs all bs all
left_all fits bs all = record { answer = refl; held = refl }
