-- The parts that clauses are made of, and the clauses that say that one of some parts holds.
use Rattle.std.specs.Prelude.{List, [], ◌∷◌, ◌++◌, ℤ, neg_ℤ}
use Rattle.cnf.specs.Clauses.{Clause, of_literals}
use Rattle.encode.specs.declared.part.Part.{Part}
use Rattle.encode.specs.declared.part.Part.TheVariants.{Literal, Always, Never}

-- what holds just where the part does not
abbrev pub opposite : Part → Part
opposite (Literal l) = Literal (neg_ℤ l)
opposite Always = Never
opposite Never = Always

-- the clauses that say that one of some literals holds
abbrev pub disjunction : List ℤ → List Clause
disjunction ls = of_literals ls ∷ []

-- the clauses that say that one of the literals `done` or of some parts holds: parts that never hold are left off,
-- and where one always holds there is no clause
abbrev pub clause_after : List ℤ → List Part → List Clause
clause_after done [] = disjunction done
clause_after done (Literal l ∷ ps) = clause_after (done ++ l ∷ []) ps
clause_after done (Always ∷ ps) = []
clause_after done (Never ∷ ps) = clause_after done ps

abbrev pub clause_of : List Part → List Clause
clause_of ps = clause_after [] ps
