-- Of a list of the clauses of least sets: what holds of each clause, and that an assignment satisfies the list just
-- where the bound or more counts.
use Rattle.std.proofs.Common.{◌≡◌, ℕ, zero, suc, ◌+◌, ◌^◌, ◌<◌, ◌≤◌, Bool, true, false, cond, leb, List, []}
use Rattle.std.proofs.Common.{length, ◌∙◌, sym, refl, inl, inr, arith}
use Rattle.std.specs.List.{AllByRecursion}
use Rattle.std.proofs.lemmas.Bool.{and_parts, and_from, ltb-true, leb-true, le-leb, cases_Bool, cases_eq, cases_lt}
use Rattle.std.proofs.lemmas.Bool.{both_ways, false≢true}
use Rattle.std.proofs.lemmas.Bool.Decides.{same_from_decides}
use Rattle.std.proofs.ByRecursion.{All-append}
use Rattle.cnf.specs.Clauses.{Clause, some_holds, satisfies_all}
use Rattle.cnf.proofs.Satisfying.{satisfies_append}
use Rattle.pb.specs.declared.working.WorkingTerm.{WorkingTerm}
use Rattle.pb.specs.Meaning.{Assignment}
use Rattle.encode.specs.Direct.{sum_outside, is_least, literals_in, set_clause, set_clauses_from, set_clauses}
use Rattle.encode.specs.Parts.{disjunction}
use Rattle.encode.proofs.LeastSets.{weighed_by, missed_outside, least_missed}
use Rattle.encode.proofs.Parts.{disjunction_satisfied}

-- of clauses that are there only under a test
each_under : (P : Clause → Type 0) (b : Bool) (cs : List Clause)
    → AllByRecursion P cs → AllByRecursion P (cond b cs [])
each_under P true cs h = h
each_under P false cs h = tt

module _ (v : Assignment) where
  satisfied_under : (b : Bool) (cs : List Clause)
      → (b ≡ true → satisfies_all v cs ≡ true) → satisfies_all v (cond b cs []) ≡ true
  satisfied_under true cs h = h refl
  satisfied_under false cs h = refl

  under_satisfied : (b : Bool) (cs : List Clause)
      → satisfies_all v (cond b cs []) ≡ true → b ≡ true → satisfies_all v cs ≡ true
  under_satisfied true cs h e = h
  under_satisfied false cs h e = absurd (false≢true e)

module _ (flip : Bool) (ts : List WorkingTerm) (bound : ℕ) where
  -- what holds of the clauses of each set holds of each clause of a list
  each_from : (P : Clause → Type 0) → ((mask : ℕ) → AllByRecursion P (disjunction (literals_in flip ts mask)))
      → (n from : ℕ) → AllByRecursion P (set_clauses_from n from flip ts bound)
  each_from P h zero from = tt
  each_from P h (suc n) from =
      All-append P (set_clause flip ts bound from) (set_clauses_from n (suc from) flip ts bound)
      (each_under P (is_least ts bound from) (disjunction (literals_in flip ts from)) (h from))
      (each_from P h n (suc from))

  pub set_clauses_each : (P : Clause → Type 0)
      → ((mask : ℕ) → AllByRecursion P (disjunction (literals_in flip ts mask)))
      → AllByRecursion P (set_clauses flip ts bound)
  set_clauses_each P h = each_from P h (2 ^ length ts) 0

module _ (flip : Bool) (ts : List WorkingTerm) (bound : ℕ) (v : Assignment) where
  -- of each least set a literal holds
  abbrev IsHit : ℕ → Type 0
  IsHit mask = is_least ts bound mask ≡ true → some_holds v (literals_in flip ts mask) ≡ true

  -- where all that the list goes through are hit, the list is satisfied
  hit_satisfied : ((mask : ℕ) → IsHit mask)
      → (n from : ℕ) → satisfies_all v (set_clauses_from n from flip ts bound) ≡ true
  hit_satisfied h zero from = refl
  hit_satisfied h (suc n) from =
      let ls = literals_in flip ts from in
      satisfies_append v (set_clause flip ts bound from) (set_clauses_from n (suc from) flip ts bound)
      ∙ and_from _ _
      (satisfied_under v (is_least ts bound from) (disjunction ls) (λ e. disjunction_satisfied v ls ∙ h from e))
      (hit_satisfied h n (suc from))

  -- and where it is satisfied, they are
  satisfied_hit : (n from mask : ℕ) → satisfies_all v (set_clauses_from n from flip ts bound) ≡ true
      → from ≤ mask → mask < from + n → IsHit mask
  satisfied_hit zero from mask h low high e = absurd (omega arith)
  satisfied_hit (suc n) from mask h low high e =
      let ls = literals_in flip ts from in
      let rest = set_clauses_from n (suc from) flip ts bound in
      let p = and_parts _ _ (sym (satisfies_append v (set_clause flip ts bound from) rest) ∙ h) in
      elim (cases_eq from mask) [
        | inl k ↦
            let one = under_satisfied v (is_least ts bound from) (disjunction ls) p.0 (rw k e) in
            rw k at (sym (disjunction_satisfied v ls) ∙ one)
        | inr k ↦ satisfied_hit n (suc from) mask p.1 (omega arith) (omega arith) e
      ]

  -- where less counts, a least set is missed, whose clause is in the list
  enough_counts : satisfies_all v (set_clauses flip ts bound) ≡ true → bound ≤ weighed_by flip v ts
  enough_counts h = elim (cases_lt (weighed_by flip v ts) bound) [
    | inl k ↦
        let m = least_missed flip v bound ts k in
        absurd (both_ways _ m.3 (satisfied_hit (2 ^ length ts) 0 m.0 h (omega arith) (omega arith) m.2))
    | inr k ↦ k
  ]

  -- where the bound or more counts, no least set is missed, since less than the bound is outside of it
  least_hit : bound ≤ weighed_by flip v ts → (mask : ℕ) → IsHit mask
  least_hit h mask e = elim (cases_Bool (some_holds v (literals_in flip ts mask))) [
    | inl k ↦ k
    | inr k ↦
        let less = ltb-true (sum_outside ts mask) bound (and_parts _ _ e).0 in
        let most = missed_outside flip v ts mask k in
        absurd (omega arith)
  ]

  pub set_clauses_satisfied : satisfies_all v (set_clauses flip ts bound) ≡ leb bound (weighed_by flip v ts)
  set_clauses_satisfied =
      same_from_decides _ _
      (enough_counts, λ h. hit_satisfied (least_hit h) (2 ^ length ts) 0)
      (leb-true _ _, le-leb _ _)
