-- Clauses of one literal each.
use Rattle.std.specs.Prelude.{List, [], ◌∷◌, ℤ, map}
use Rattle.cnf.specs.Clauses.{Clause, of_literals}

abbrev pub unit : ℤ → Clause
unit l = of_literals (l ∷ [])

abbrev pub units : List ℤ → List Clause
units ls = map unit ls
