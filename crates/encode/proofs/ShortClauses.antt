-- Clauses of few literals whose variables pass a test: how such lists name their variables, and when they are
-- well-formed.
use Rattle.std.proofs.Common.{◌≡◌, ℕ, suc, ◌+◌, ◌<◌, ◌≤◌, Bool, true, ◌&&◌, ltb, leb, List, [], ◌∷◌, ◌++◌, length, ℤ}
use Rattle.std.proofs.Common.{nat_abs, refl, inl, inr, arith}
use Rattle.std.specs.List.{AllByRecursion}
use Rattle.std.proofs.lemmas.Bool.{and_parts, and_from, or_cases, leb-true, le-leb, ltb-true, lt-ltb}
use Rattle.cnf.specs.declared.clause.TheConstants.{MOST_LITERALS, LAST_NUMBER}
use Rattle.cnf.specs.Clauses.{Clause, literal_formed, literals_formed, well_formed, all_well_formed, literals_within}
use Rattle.cnf.specs.Clauses.{names_within}
use Rattle.encode.specs.Law.{is_of_line}

pub record IsShortWithin (p : ℕ → Bool) (c : Clause) : Type 0 where
  pub within : literals_within p c.literals ≡ true
  pub short : length c.literals ≤ MOST_LITERALS

abbrev pub AreShortWithin : (ℕ → Bool) → List Clause → Type 0
AreShortWithin p cs = AllByRecursion (IsShortWithin p) cs

pub within_push : (p : ℕ → Bool) (ls : List ℤ) (l : ℤ)
    → literals_within p ls ≡ true → p (nat_abs l) ≡ true → literals_within p (ls ++ l ∷ []) ≡ true
within_push p [] l h e = and_from _ _ e refl
within_push p (x ∷ ls) l h e =
    let q = and_parts (p (nat_abs x)) _ h in
    and_from _ _ q.0 (within_push p ls l q.1 e)

pub short_names : (p : ℕ → Bool) (cs : List Clause) → AreShortWithin p cs → names_within p cs ≡ true
short_names p [] h = refl
short_names p (c ∷ cs) h = and_from _ _ h.0.within (short_names p cs h.1)

-- the variables and auxiliaries of a line are numbers that a clause may name
of_line_formed : (n first k x : ℕ) → n < first → first + k ≤ suc LAST_NUMBER
    → is_of_line n first k x ≡ true → (0 < x) × (x ≤ LAST_NUMBER)
of_line_formed n first k x above below h = elim (or_cases (ltb 0 x && leb x n) _ h) [
  | inl p ↦
      let q = and_parts (ltb 0 x) (leb x n) p in
      let low = ltb-true 0 x q.0 in
      let high = leb-true x n q.1 in
      (omega arith, omega arith)
  | inr p ↦
      let q = and_parts (leb first x) (ltb x (first + k)) p in
      let low = leb-true first x q.0 in
      let high = ltb-true x (first + k) q.1 in
      (omega arith, omega arith)
]

module _ (n first k : ℕ) (above : n < first) (below : first + k ≤ suc LAST_NUMBER) where
  literal_of_line : (l : ℤ) → is_of_line n first k (nat_abs l) ≡ true → literal_formed l ≡ true
  literal_of_line l h =
      let q = of_line_formed n first k (nat_abs l) above below h in
      and_from _ _ (lt-ltb _ _ q.0) (le-leb _ _ q.1)

  literals_of_line : (ls : List ℤ) → literals_within (is_of_line n first k) ls ≡ true → literals_formed ls ≡ true
  literals_of_line [] h = refl
  literals_of_line (l ∷ ls) h =
      let q = and_parts (is_of_line n first k (nat_abs l)) _ h in
      and_from _ _ (literal_of_line l q.0) (literals_of_line ls q.1)

  pub short_formed : (cs : List Clause) → AreShortWithin (is_of_line n first k) cs → all_well_formed cs ≡ true
  short_formed [] h = refl
  short_formed (c ∷ cs) h =
      and_from (well_formed c) _
      (and_from _ _ (le-leb _ _ h.0.short) (literals_of_line c.literals h.0.within))
      (short_formed cs h.1)
