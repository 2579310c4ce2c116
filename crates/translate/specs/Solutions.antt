-- What the clauses of a whole file mean: the assignments of its variables that extend to a model of them are exactly
-- those that meet every line, and each extends in one way.
use Rattle.std.specs.Prelude.{◌≡◌, ℕ, Bool, true, ◌&&◌, List, [], ◌∷◌, ◌++◌, Ok}
use Rattle.cnf.specs.Clauses.{Clause}
use Rattle.encode.specs.Solutions.{Solutions}
use Rattle.pb.specs.Meaning.{meets_each}
use Rattle.schedule.specs.Reading.{Schedule}
use Rattle.translate.specs.Books.{enter_file}
use Rattle.translate.specs.declared.header.Header.{Header}

-- what a sheet that held cs holds after a file was translated: the clauses added are those of the file's schedule
pub record Meant (input : List ℕ) (cs held : List Clause) (h : Header) : Type 0 where
  pub schedule : Schedule
  pub reads : enter_file input ≡ Ok schedule
  pub clauses : List Clause
  pub after : held ≡ cs ++ clauses
  pub solutions : Solutions schedule.variables h.variables (λ a. meets_each a schedule.lines) clauses
