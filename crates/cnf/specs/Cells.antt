-- Clauses in cells: the literals of each, followed by 0.
use Rattle.std.specs.Prelude.{Bool, false, cond, List, [], ◌∷◌, ◌++◌, ℤ, pos, negsuc, ◌==◌}
use Rattle.cnf.specs.Clauses.{Clause, of_literals}
use Rattle.cnf.specs.Layouts.{Layout}

abbrev pub is_zero : ℤ → Bool
is_zero (pos n) = n == 0
is_zero (negsuc n) = false

abbrev pub cells_of : Clause → List ℤ
cells_of c = c.literals ++ pos 0 ∷ []

-- the clauses that cells hold, each up to its 0; literals after the last 0 make no clause
abbrev pub onto_first : ℤ → List Clause → List Clause
onto_first l [] = []
onto_first l (c ∷ cs) = of_literals (l ∷ c.literals) ∷ cs

abbrev pub clauses_in : List ℤ → List Clause
clauses_in [] = []
clauses_in (l ∷ ls) = cond (is_zero l) (of_literals [] ∷ clauses_in ls) (onto_first l (clauses_in ls))

abbrev pub flat_layout : Layout ℤ
flat_layout = record { write = cells_of; mark = is_zero; read = clauses_in }
