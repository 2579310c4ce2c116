-- The lists of the order encoder as the code makes them: an entry's clauses and the last ones by parts, a row
-- column by column, and the rows one after another.
use Rattle.std.proofs.Common.{◌≡◌, ℕ, suc, ◌+◌, ◌-◌, ◌<◌, ◌≤◌, List, [], ◌∷◌, ◌++◌, length, get_or, drop, ℤ, neg_ℤ}
use Rattle.std.proofs.Common.{sym, refl, ap, ◌∙◌, append_assoc, add-one, arith}
use Rattle.std.proofs.lemmas.List.{at_drop_more}
use Rattle.pb.specs.declared.working.Sense.{Sense}
use Rattle.pb.specs.declared.working.Sense.TheVariants.{Exactly}
use Rattle.pb.specs.declared.working.WorkingTerm.{WorkingTerm}
use Rattle.cnf.specs.Clauses.{Clause}
use Rattle.encode.specs.declared.part.Part.TheVariants.{Literal}
use Rattle.encode.specs.Order.{entry, cell_clauses, row_clauses, rows_clauses, last_clauses}
use Rattle.encode.specs.Parts.{opposite, clause_of}
use Rattle.encoders.specs.declared.order.matrix.Entry.{Entry}

-- the code's entry is that of this place
abbrev pub IsEntry : ℕ → ℕ → ℕ → ℕ → Entry → Type 0
IsEntry first c i j e = (e.holds ≡ entry first c i j) × (e.fails ≡ opposite (entry first c i j))

-- the four clauses of an entry, of parts of the code
abbrev pub four_clauses : Entry → Entry → Entry → ℤ → ℤ → List Clause
four_clauses here above before l m =
    clause_of (above.fails ∷ here.holds ∷ [])
    ++ (clause_of (Literal m ∷ before.fails ∷ here.holds ∷ [])
    ++ (clause_of (Literal l ∷ above.holds ∷ here.fails ∷ [])
    ++ clause_of (before.holds ∷ here.fails ∷ [])))

pub cell_of_parts : (first c i j : ℕ) (t : WorkingTerm) (here above before : Entry) (l m : ℤ)
    → IsEntry first c (i + 1) j here → IsEntry first c i j above → IsEntry first c i (j - t.weight) before
    → l ≡ t.literal → m ≡ neg_ℤ t.literal
    → cell_clauses first c i j t ≡ four_clauses here above before l m
cell_of_parts first c i j t here above before l m is_here is_above is_before is_l is_m =
    let next : entry first c (i + 1) j ≡ entry first c (suc i) j = ap (λ n. entry first c n j) (add-one i) in
    let holds = is_here.0 ∙ next in
    let fails = is_here.1 ∙ ap opposite next in
    rw (holds, fails, is_above.0, is_above.1, is_before.0, is_before.1, is_l, is_m) refl

-- the last clauses of "exactly"
pub exactly_of_parts : (first c n k : ℕ) (s : Sense) (at beyond : Entry)
    → s ≡ Exactly → IsEntry first c n k at → IsEntry first c n (k + 1) beyond
    → last_clauses s first c n k ≡ clause_of (at.holds ∷ []) ++ clause_of (beyond.fails ∷ [])
exactly_of_parts first c n k s at beyond is_exactly is_at is_beyond =
    let next : entry first c n (k + 1) ≡ entry first c n (suc k) = ap (entry first c n) (add-one k) in
    rw (is_exactly, is_at.0, is_beyond.1 ∙ ap opposite next) refl

-- the columns of a row from j on, at column j and after the last
module _ (first c i j : ℕ) (t : WorkingTerm) where
  pub row_more : j ≤ c → row_clauses first c i j (c + 1 - j) t
      ≡ cell_clauses first c i j t ++ row_clauses first c i (j + 1) (c + 1 - (j + 1)) t
  row_more h =
      let e : c + 1 - j ≡ suc (c + 1 - (j + 1)) = omega arith in
      ap (λ k. row_clauses first c i j k t) e
      ∙ ap (λ n. cell_clauses first c i j t ++ row_clauses first c i n (c + 1 - (j + 1)) t) (sym (add-one j))

  pub row_none : c < j → row_clauses first c i j (c + 1 - j) t ≡ []
  row_none h = let e : c + 1 - j ≡ 0 = omega arith in ap (λ k. row_clauses first c i j k t) e

-- the rows from i + 1 on and what comes after them, at row i + 1
module _ (first c i : ℕ) (ts : List WorkingTerm) (after : List Clause) where
  pub rows_more : (d : WorkingTerm) → i < length ts
      → rows_clauses first c i (drop i ts) ++ after
      ≡ row_clauses first c i 1 c (get_or ts i d) ++ (rows_clauses first c (i + 1) (drop (i + 1) ts) ++ after)
  rows_more d h =
      let row = row_clauses first c i 1 c (get_or ts i d) in
      at_drop_more (λ us. rows_clauses first c i us ++ after) ts i d h
      ∙ append_assoc row (rows_clauses first c (suc i) (drop (i + 1) ts)) after
      ∙ ap (λ n. row ++ (rows_clauses first c n (drop (i + 1) ts) ++ after)) (sym (add-one i))
