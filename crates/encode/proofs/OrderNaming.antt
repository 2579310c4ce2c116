-- The clauses of the order encoder have few literals, each of a variable or of an auxiliary of the matrix.
use Rattle.std.proofs.Common.{◌≡◌, ℕ, zero, suc, ◌+◌, ◌-◌, ◌*◌, ◌<◌, ◌≤◌, Bool, true, List, [], ◌∷◌, ◌++◌, length}
use Rattle.std.proofs.Common.{neg_ℤ}
use Rattle.std.proofs.Common.{arith}
use Rattle.std.specs.List.{AllByRecursion}
use Rattle.std.proofs.lemmas.Nat.{mul-add-lt}
use Rattle.std.proofs.ByRecursion.{All-append}
use Rattle.std.proofs.lemmas.Bool.{and_from, or_right, le-leb, lt-ltb}
use Rattle.pb.specs.declared.working.Sense.{Sense}
use Rattle.pb.specs.declared.working.Sense.TheVariants.{AtLeast, Exactly}
use Rattle.pb.specs.declared.working.WorkingTerm.{WorkingTerm}
use Rattle.pb.specs.Lines.{Working}
use Rattle.cnf.specs.declared.clause.TheConstants.{MOST_LITERALS}
use Rattle.cnf.specs.Clauses.{Clause}
use Rattle.encode.specs.declared.part.Part.{Part}
use Rattle.encode.specs.declared.part.Part.TheVariants.{Literal}
use Rattle.encode.specs.Law.{is_of_line}
use Rattle.encode.specs.Order.{columns, entry, cell_clauses, row_clauses, rows_clauses, last_clauses, order_list}
use Rattle.encode.specs.Order.{order_takes}
use Rattle.encode.specs.Parts.{opposite, clause_of}
use Rattle.encode.proofs.Parts.{IsWithin, opposite_within, clause_of_short}
use Rattle.encode.proofs.ShortClauses.{AreShortWithin, IsShortWithin}
use Rattle.encode.proofs.Terms.{OnVariable, on_of_line}

-- of clauses on the variables 1 to n and on the auxiliaries of a matrix of so many rows and columns
module _ (n first rows c : ℕ) where
  abbrev pub is_named : ℕ → Bool
  is_named x = is_of_line n first (rows * c) x

  auxiliary_named : (m : ℕ) → m < rows * c → is_named (first + m) ≡ true
  auxiliary_named m h =
      let last = first + rows * c in
      or_right _ _ (and_from _ _ (le-leb first (first + m) (omega arith)) (lt-ltb (first + m) last (omega arith)))

  entry_within : (i j : ℕ) → i ≤ rows → j ≤ c → IsWithin is_named (entry first c i j)
  entry_within i zero h g = tt
  entry_within zero (suc j) h g = tt
  entry_within (suc i) (suc j) h g = auxiliary_named (i * c + j) (omega (arith, mul-add-lt i c j rows h g))

  not_entry_within : (i j : ℕ) → i ≤ rows → j ≤ c → IsWithin is_named (opposite (entry first c i j))
  not_entry_within i j h g = opposite_within is_named (entry first c i j) (entry_within i j h g)

  both_short : (cs ds : List Clause)
      → AreShortWithin is_named cs → AreShortWithin is_named ds → AreShortWithin is_named (cs ++ ds)
  both_short cs ds h g = All-append (IsShortWithin is_named) cs ds h g

  parts_short : (ps : List Part)
      → length ps ≤ MOST_LITERALS → AllByRecursion (IsWithin is_named) ps → AreShortWithin is_named (clause_of ps)
  parts_short ps few h = clause_of_short is_named ps few h

  cell_short : (i j : ℕ) (t : WorkingTerm) → i < rows → j ≤ c → OnVariable n t
      → AreShortWithin is_named (cell_clauses first c i j t)
  cell_short i j t h g on =
      let here = entry first c i j in
      let back = entry first c i (j - t.weight) in
      let next = entry first c (suc i) j in
      let l = on_of_line n first (rows * c) t on in
      let not_l = opposite_within is_named (Literal t.literal) l in
      let here_in = entry_within i j (omega arith) g in
      let back_in = entry_within i (j - t.weight) (omega arith) (omega arith) in
      let next_in = entry_within (suc i) j h g in
      let not_here = not_entry_within i j (omega arith) g in
      let not_back = not_entry_within i (j - t.weight) (omega arith) (omega arith) in
      let not_next = not_entry_within (suc i) j h g in
      both_short _ _
      (parts_short (opposite here ∷ next ∷ []) (omega arith) (not_here, (next_in, tt)))
      (both_short _ _
      (parts_short (Literal (neg_ℤ t.literal) ∷ opposite back ∷ next ∷ []) (omega arith)
      (not_l, (not_back, (next_in, tt))))
      (both_short _ _
      (parts_short (Literal t.literal ∷ here ∷ opposite next ∷ []) (omega arith) (l, (here_in, (not_next, tt))))
      (parts_short (back ∷ opposite next ∷ []) (omega arith) (back_in, (not_next, tt)))))

  row_short : (i j k : ℕ) (t : WorkingTerm) → i < rows → j + k ≤ suc c → OnVariable n t
      → AreShortWithin is_named (row_clauses first c i j k t)
  row_short i j zero t h g on = tt
  row_short i j (suc k) t h g on =
      both_short (cell_clauses first c i j t) (row_clauses first c i (suc j) k t)
      (cell_short i j t h (omega arith) on)
      (row_short i (suc j) k t h (omega arith) on)

  rows_short : (i : ℕ) (ts : List WorkingTerm) → i + length ts ≤ rows → AllByRecursion (OnVariable n) ts
      → AreShortWithin is_named (rows_clauses first c i ts)
  rows_short i [] h on = tt
  rows_short i (t ∷ ts) h on =
      both_short (row_clauses first c i 1 c t) (rows_clauses first c (suc i) ts)
      (row_short i 1 c t (omega arith) (omega arith) on.0)
      (rows_short (suc i) ts (omega arith) on.1)

last_short : (s : Sense) (n first rows k : ℕ)
    → AreShortWithin (is_named n first rows (columns s k)) (last_clauses s first (columns s k) rows k)
last_short AtLeast n first rows k =
    parts_short n first rows k (entry first k rows k ∷ []) (omega arith)
    (entry_within n first rows k rows k (omega arith) (omega arith), tt)
last_short Exactly n first rows k =
    both_short n first rows (suc k) (clause_of (entry first (suc k) rows k ∷ [])) _
    (parts_short n first rows (suc k) (entry first (suc k) rows k ∷ []) (omega arith)
    (entry_within n first rows (suc k) rows k (omega arith) (omega arith), tt))
    (parts_short n first rows (suc k) (opposite (entry first (suc k) rows (suc k)) ∷ []) (omega arith)
    (not_entry_within n first rows (suc k) rows (suc k) (omega arith) (omega arith), tt))

pub order_short : (n first : ℕ) (w : Working) → AllByRecursion (OnVariable n) w.terms
    → AreShortWithin (is_of_line n first (order_takes w)) (order_list w first)
order_short n first w on =
    let c = columns w.sense w.bound in
    let rows = length w.terms in
    both_short n first rows c (rows_clauses first c 0 w.terms) (last_clauses w.sense first c rows w.bound)
    (rows_short n first rows c 0 w.terms (omega arith) on)
    (last_short w.sense n first rows w.bound)
