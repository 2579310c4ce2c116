-- Where a row of the matrix has its values, the clauses of the rows after it are satisfied just where these have
-- theirs.
use Rattle.std.proofs.Common.{◌≡◌, ℕ, zero, suc, ◌+◌, ◌-◌, ◌<◌, ◌≤◌, Bool, true, false, cond, not, ◌&&◌, ◌||◌}
use Rattle.std.proofs.Common.{eqb, leb, List, [], ◌∷◌, ◌++◌, length, take, neg_ℤ, nat_abs, Decides, sym, refl, ap}
use Rattle.std.proofs.Common.{◌∙◌, subst, subst₂, inl, inr, arith}
use mathlib.Core.Bool.{or-false}
use Rattle.std.specs.List.{AllByRecursion}
use Rattle.std.proofs.lemmas.Bool.{false≢true, leb-true, le-leb, lt-leb, cases_lt}
use Rattle.std.proofs.lemmas.Bool.Decides.{nat_tests, Decides-at, Decides-like, Decides-and}
use Rattle.pb.specs.declared.working.Sense.{Sense}
use Rattle.pb.specs.declared.working.Sense.TheVariants.{AtLeast, Exactly}
use Rattle.pb.specs.declared.working.WorkingTerm.{WorkingTerm}
use Rattle.pb.specs.Meaning.{Assignment, holds, weighed, reaches}
use Rattle.pb.proofs.Settling.{complement_holds}
use Rattle.cnf.specs.Clauses.{satisfies_all}
use Rattle.cnf.proofs.Satisfying.{satisfies_append}
use Rattle.encode.specs.declared.part.Part.{Part}
use Rattle.encode.specs.declared.part.Part.TheVariants.{Literal}
use Rattle.encode.specs.Order.{columns, entry, cell_clauses, row_clauses, rows_clauses, last_clauses}
use Rattle.encode.specs.Parts.{opposite, clause_of}
use Rattle.encode.proofs.Parts.{NamesVariable, worth, some_worth, clause_of_satisfied, clause_of_first}
use Rattle.encode.proofs.Parts.{worth_opposite}

four_satisfied : (v : Assignment) (ps qs rs ss : List Part)
    → satisfies_all v (clause_of ps ++ (clause_of qs ++ (clause_of rs ++ clause_of ss)))
    ≡ (some_worth v ps && (some_worth v qs && (some_worth v rs && some_worth v ss)))
four_satisfied v ps qs rs ss = simp (clause_of_first, clause_of_satisfied)

-- the second of two tests is asked only where the first passes
pub decides_then : {P Q : Type 0} (x y : Bool) → Decides x P → (P → Decides y Q) → Decides (x && y) (P × Q)
decides_then true y d e = let p = d.0 refl in (λ h. (p, (e p).0 h), λ h. (e p).1 h.1)
decides_then false y d e = (λ h. absurd (false≢true h), λ h. d.1 h.0)

-- a cell's four clauses, at the values s and d of the row before, the literal's value l, and the cell's own, x
abbrev kept : Bool → Bool → Bool → Bool → Bool
kept s d l x =
    (not s || (x || false))
    && ((not l || (not d || (x || false))) && ((l || (s || (not x || false))) && (d || (not x || false))))

kept_decides : (s d l x : Bool) → (s ≡ true → d ≡ true) → Decides (kept s d l x) (x ≡ cond l d s)
kept_decides s d l x h = (λ e. grind arith, λ e. grind arith)

-- that value is the one meant: a term adds its weight where its literal holds
cell_value : (l : Bool) (j w total : ℕ) → cond l (leb (j - w) total) (leb j total) ≡ leb j (cond l w 0 + total)
cell_value true j w total = grind (arith, nat_tests)
cell_value false j w total = grind (arith, nat_tests)

-- so many numbers from one on
abbrev Span : (ℕ → Type 0) → ℕ → ℕ → Type 0
Span P j k = (m : ℕ) → j ≤ m → m < j + k → P m

span_more : (P : ℕ → Type 0) (j k : ℕ) → P j × Span P (suc j) k → Span P j (suc k)
span_more P j k q m low high = elim (cases_lt j m) [
  | inl more ↦ q.1 m more (omega arith)
  | inr last ↦ let e : j ≡ m = omega arith in subst P e q.0
]

span_parts : (P : ℕ → Type 0) (j k : ℕ) → Span P j (suc k) → P j × Span P (suc j) k
span_parts P j k q = (q j (omega arith) (omega arith), λ m low high. q m (omega arith) (omega arith))

-- s(i, j) has its value, where the terms up to i total so much; and so has all of row i
abbrev pub Right : Assignment → ℕ → ℕ → ℕ → ℕ → ℕ → Type 0
Right v first c i total j = worth v (entry first c i j) ≡ leb j total

abbrev pub Row : Assignment → ℕ → ℕ → ℕ → ℕ → Type 0
Row v first c i total = (j : ℕ) → j ≤ c → Right v first c i total j

row_from_span : (v : Assignment) (first c i total : ℕ)
    → Span (Right v first c (suc i) total) 1 c → Row v first c (suc i) total
row_from_span v first c i total q zero h = sym (le-leb 0 total (omega arith))
row_from_span v first c i total q (suc j) h = q (suc j) (omega arith) (omega arith)

pub row_at : (v : Assignment) (first c : ℕ) {i k total sum : ℕ}
    → i ≡ k → total ≡ sum → Row v first c i total → Row v first c k sum
row_at v first c e d row = subst₂ (Row v first c) e d row

-- the rows from i on, for these terms
abbrev pub Rows : Assignment → ℕ → ℕ → ℕ → ℕ → List WorkingTerm → Type 0
Rows v first c i total ts = (r : ℕ) → r ≤ length ts → Row v first c (r + i) (weighed v (take r ts) + total)

-- row 0 counts no terms
pub row_zero : (v : Assignment) (first c : ℕ) → Row v first c 0 0
row_zero v first c zero h = sym (le-leb 0 0 (omega arith))
row_zero v first c (suc j) h = sym (lt-leb (suc j) 0 (omega arith))

rows_none : (v : Assignment) (first c i total : ℕ) → Row v first c i total → Rows v first c i total []
rows_none v first c i total row zero h = row_at v first c (omega arith) (omega arith) row
rows_none v first c i total row (suc r) h = absurd (omega arith)

-- what a term adds to the total
abbrev pub added : Assignment → WorkingTerm → ℕ
added v t = cond (holds v t.literal) t.weight 0

rows_more : (v : Assignment) (first c i total : ℕ) (t : WorkingTerm) (ts : List WorkingTerm)
    → Row v first c i total → Rows v first c (suc i) (added v t + total) ts → Rows v first c i total (t ∷ ts)
rows_more v first c i total t ts row rows zero h = row_at v first c (omega arith) (omega arith) row
rows_more v first c i total t ts row rows (suc r) h =
    row_at v first c (omega arith) (omega arith) (rows r (omega arith))

rows_parts : (v : Assignment) (first c i total : ℕ) (t : WorkingTerm) (ts : List WorkingTerm)
    → Rows v first c i total (t ∷ ts)
    → Row v first c (suc i) (added v t + total) × Rows v first c (suc i) (added v t + total) ts
rows_parts v first c i total t ts rows =
    let later : Rows v first c (suc i) (added v t + total) ts =
    λ r h. row_at v first c (omega arith) (omega arith) (rows (suc r) (omega arith))
    in
    (row_at v first c {k = suc i} (omega arith) (omega arith) (later 0 (omega arith)), later)

module _ (v : Assignment) (first c : ℕ) (start : 0 < first) where
  -- an entry that is an auxiliary names a variable
  entry_names : (i j : ℕ) → NamesVariable (entry first c i j)
  entry_names i zero = tt
  entry_names zero (suc j) = tt
  entry_names (suc i) (suc j) = omega arith

  pub entry_opposite : (i j : ℕ) → worth v (opposite (entry first c i j)) ≡ not (worth v (entry first c i j))
  entry_opposite i j = worth_opposite v (entry first c i j) (entry_names i j)

  cell_kept : (i j : ℕ) (t : WorkingTerm) → 0 < nat_abs t.literal
      → satisfies_all v (cell_clauses first c i j t)
      ≡ kept (worth v (entry first c i j)) (worth v (entry first c i (j - t.weight)))
      (holds v t.literal) (worth v (entry first c (suc i) j))
  cell_kept i j t h =
      let here = entry first c i j in
      let back = entry first c i (j - t.weight) in
      let next = entry first c (suc i) j in
      four_satisfied v (opposite here ∷ next ∷ []) (Literal (neg_ℤ t.literal) ∷ opposite back ∷ next ∷ [])
      (Literal t.literal ∷ here ∷ opposite next ∷ []) (back ∷ opposite next ∷ [])
      ∙ simp (
        entry_opposite i j,
        entry_opposite i (j - t.weight),
        entry_opposite (suc i) j,
        complement_holds v t.literal h,
      )

  cell_decides : (i j total : ℕ) (t : WorkingTerm) → 0 < nat_abs t.literal → j ≤ c → Row v first c i total
      → Decides (satisfies_all v (cell_clauses first c i j t))
      (worth v (entry first c (suc i) j) ≡ leb j (added v t + total))
  cell_decides i j total t h fits row =
      let here = worth v (entry first c i j) in
      let back = worth v (entry first c i (j - t.weight)) in
      let s : here ≡ leb j total = row j fits in
      let d : back ≡ leb (j - t.weight) total = row (j - t.weight) (omega arith) in
      let lower : here ≡ true → back ≡ true =
      λ r. d ∙ le-leb (j - t.weight) total (omega (arith, leb-true j total (sym s ∙ r)))
      in
      let e = kept_decides here back (holds v t.literal) (worth v (entry first c (suc i) j)) lower in
      Decides-at _ _ (cell_kept i j t h) (rw (← cell_value (holds v t.literal) j t.weight total, ← s, ← d) e)

  -- so many cells of the next row, from column j on
  cells_decide : (i j k total : ℕ) (t : WorkingTerm)
      → 0 < nat_abs t.literal → j + k ≤ suc c → Row v first c i total
      → Decides (satisfies_all v (row_clauses first c i j k t))
      (Span (Right v first c (suc i) (added v t + total)) j k)
  cells_decide i j zero total t h fits row = (λ _ m low high. absurd (omega arith), λ _. refl)
  cells_decide i j (suc k) total t h fits row =
      let cs = cell_clauses first c i j t in
      let ds = row_clauses first c i (suc j) k t in
      let P = Right v first c (suc i) (added v t + total) in
      let both =
      Decides-and (satisfies_all v cs) (satisfies_all v ds)
      (cell_decides i j total t h (omega arith) row)
      (cells_decide i (suc j) k total t h (omega arith) row)
      in
      Decides-at _ _ (satisfies_append v cs ds) (Decides-like _ (span_more P j k) (span_parts P j k) both)

  row_decides : (i total : ℕ) (t : WorkingTerm) → 0 < nat_abs t.literal → Row v first c i total
      → Decides (satisfies_all v (row_clauses first c i 1 c t)) (Row v first c (suc i) (added v t + total))
  row_decides i total t h row =
      Decides-like _ (row_from_span v first c i (added v t + total)) (λ q m low high. q m (omega arith))
      (cells_decide i 1 c total t h (omega arith) row)

  -- the rows from i on, with these terms still to count
  pub rows_decide : (i total : ℕ) (ts : List WorkingTerm)
      → AllByRecursion (λ t. 0 < nat_abs t.literal) ts → Row v first c i total
      → Decides (satisfies_all v (rows_clauses first c i ts)) (Rows v first c i total ts)
  rows_decide i total [] h row = (λ _. rows_none v first c i total row, λ _. refl)
  rows_decide i total (t ∷ ts) h row =
      let cs = row_clauses first c i 1 c t in
      let ds = rows_clauses first c (suc i) ts in
      let both =
      decides_then (satisfies_all v cs) (satisfies_all v ds)
      (row_decides i total t h.0 row)
      (rows_decide (suc i) (added v t + total) ts h.1)
      in
      Decides-at _ _ (satisfies_append v cs ds)
      (Decides-like _ (λ q. rows_more v first c i total t ts row q.1) (rows_parts v first c i total t ts) both)

-- the last row says whether the total reaches the bound
last_exactly : (x y : Bool) (k total : ℕ)
    → x ≡ leb k total → y ≡ leb (suc k) total → ((x || false) && (not y || false)) ≡ eqb total k
last_exactly x y k total e d = grind (arith, nat_tests)

pub last_satisfied : (v : Assignment) (s : Sense) (first i k total : ℕ)
    → 0 < first → Row v first (columns s k) i total
    → satisfies_all v (last_clauses s first (columns s k) i k) ≡ reaches s total k
last_satisfied v AtLeast first i k total start row =
    clause_of_satisfied v (entry first k i k ∷ []) ∙ or-false _ ∙ row k (omega arith)
last_satisfied v Exactly first i k total start row =
    let at = entry first (suc k) i k in
    let beyond = entry first (suc k) i (suc k) in
    let not_beyond = entry_opposite v first (suc k) start i (suc k) in
    clause_of_first v (at ∷ []) (clause_of (opposite beyond ∷ []))
    ∙ ap (λ b. (worth v at || false) && b)
    (clause_of_satisfied v (opposite beyond ∷ []) ∙ ap (λ b. b || false) not_beyond)
    ∙ last_exactly (worth v at) (worth v beyond) k total (row k (omega arith)) (row (suc k) (omega arith))
