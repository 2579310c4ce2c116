-- The order encoder: a matrix of auxiliaries, whose entry s(i, j) holds where the terms up to the i-th come to j or
-- more.
use Rattle.std.specs.Prelude.{ℕ, zero, suc, ◌+◌, ◌-◌, ◌*◌, ◌/◌, ◌%◌, Bool, List, [], ◌∷◌, ◌++◌, length, take, pos}
use Rattle.std.specs.Prelude.{neg_ℤ, nat_le}
use Rattle.cnf.specs.Clauses.{Clause}
use Rattle.encode.specs.declared.part.Part.{Part}
use Rattle.encode.specs.declared.part.Part.TheVariants.{Literal, Always, Never}
use Rattle.encode.specs.declared.reaches.TheConstants.{MOST_ORDER_AUXILIARIES}
use Rattle.encode.specs.Law.{Encoding}
use Rattle.encode.specs.Parts.{opposite, clause_of}
use Rattle.pb.specs.declared.working.Sense.{Sense}
use Rattle.pb.specs.declared.working.Sense.TheVariants.{AtLeast, Exactly}
use Rattle.pb.specs.declared.working.WorkingTerm.{WorkingTerm}
use Rattle.pb.specs.Lines.{Working}
use Rattle.pb.specs.Meaning.{Assignment, weighed}

-- how many columns the matrix has
abbrev pub columns : Sense → ℕ → ℕ
columns AtLeast k = k
columns Exactly k = suc k

-- s(i, j) in a matrix of c columns: true for j = 0, false for i = 0 and j above 0
abbrev pub entry : ℕ → ℕ → ℕ → ℕ → Part
entry first c i zero = Always
entry first c zero (suc j) = Never
entry first c (suc i) (suc j) = Literal (pos (first + (i * c + j)))

-- the four clauses of s(i + 1, j), where the term i + 1 has this literal and weight; j - w stops at 0
abbrev pub cell_clauses : ℕ → ℕ → ℕ → ℕ → WorkingTerm → List Clause
cell_clauses first c i j t =
    let here = entry first c (suc i) j in
    let above = entry first c i j in
    let before = entry first c i (j - t.weight) in
    clause_of (opposite above ∷ here ∷ [])
    ++ (clause_of (Literal (neg_ℤ t.literal) ∷ opposite before ∷ here ∷ [])
    ++ (clause_of (Literal t.literal ∷ above ∷ opposite here ∷ [])
    ++ clause_of (before ∷ opposite here ∷ [])))

-- the cells of row i + 1 from column j on, so many
abbrev pub row_clauses : ℕ → ℕ → ℕ → ℕ → ℕ → WorkingTerm → List Clause
row_clauses first c i j zero t = []
row_clauses first c i j (suc k) t = cell_clauses first c i j t ++ row_clauses first c i (suc j) k t

-- the rows from i + 1 on, for these terms
abbrev pub rows_clauses : ℕ → ℕ → ℕ → List WorkingTerm → List Clause
rows_clauses first c i [] = []
rows_clauses first c i (t ∷ ts) = row_clauses first c i 1 c t ++ rows_clauses first c (suc i) ts

-- last: the total is at least the bound, if that is 1 or more, and for "exactly" not at least the bound and one
abbrev pub last_clauses : Sense → ℕ → ℕ → ℕ → ℕ → List Clause
last_clauses AtLeast first c n k = clause_of (entry first c n k ∷ [])
last_clauses Exactly first c n k =
    clause_of (entry first c n k ∷ []) ++ clause_of (opposite (entry first c n (suc k)) ∷ [])

abbrev pub order_list : Working → ℕ → List Clause
order_list w first =
    rows_clauses first (columns w.sense w.bound) 0 w.terms
    ++ last_clauses w.sense first (columns w.sense w.bound) (length w.terms) w.bound

-- an auxiliary for each row and column, row by row
abbrev pub order_takes : Working → ℕ
order_takes w = length w.terms * columns w.sense w.bound

abbrev pub order_reach : Working → Bool
order_reach w = nat_le (order_takes w) MOST_ORDER_AUXILIARIES

-- auxiliary m stands in row m / c + 1 and column m % c + 1
abbrev pub order_value_in : ℕ → List WorkingTerm → Assignment → ℕ → Bool
order_value_in c ts a m = nat_le (m % c + 1) (weighed a (take (m / c + 1) ts))

abbrev pub order_value : Working → Assignment → ℕ → Bool
order_value w a m = order_value_in (columns w.sense w.bound) w.terms a m

abbrev pub order_encoding : Encoding
order_encoding =
    record {
      reach = λ w first. order_reach w;
      takes = λ w first. order_takes w;
      clauses = order_list;
      value = λ w first. order_value w;
    }
