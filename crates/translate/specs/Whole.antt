-- The clauses of a file once more, by whole lists: the list of a line goes on exactly when the longer list fits, and
-- else is refused with the count before it. No clause is refused as malformed.
use Rattle.std.specs.Prelude.{◌≡◌, ℕ, List}
use Rattle.cnf.specs.Calls.{Rule, whole_answer}
use Rattle.cnf.specs.Clauses.{Clause}
use Rattle.encode.specs.Law.{Encoding}
use Rattle.schedule.specs.Reading.{◌>>=◌}
use Rattle.translate.specs.Books.{enter_file}
use Rattle.translate.specs.Translation.{schedule_with, or_refusal, translation}

-- a file's translation is that of whole lists
abbrev pub WholeLists : Encoding → Rule → List ℕ → List Clause → Type 0
WholeLists e fits input cs =
    translation e fits cs input ≡ (or_refusal (enter_file input) >>= schedule_with whole_answer e fits cs)
