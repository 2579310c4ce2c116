-- The clause text of a schedule file: of its first 8,192 bytes, the text of at most 4,000 clauses, in so many bytes.
use Rattle.std.specs.Prelude.{◌≡◌, ℕ, List, [], length, max, take, Some, Ok, Result}
use Rattle.fault.specs.declared.refusal.Refusal.{Refusal}
use Rattle.cnf.specs.Calls.{Rule, limited_to}
use Rattle.cnf.specs.Clauses.{Clause}
use Rattle.cnf.specs.Layouts.{has_room}
use Rattle.cnf.specs.Text.{text_layout, text_of, read_text}
use Rattle.output.specs.declared.TheConstants.{MOST_INPUT, MOST_CLAUSES}
use Rattle.translate.specs.declared.header.Header.{Header}
use Rattle.translate.specs.Solutions.{Meant}
use Rattle.translate.specs.Translation.{Progress, encoding, translation}

-- a sheet that holds these clauses takes up to the most of a file
abbrev pub limited : Rule → List Clause → Rule
limited fits held = limited_to (max MOST_CLAUSES (length held)) fits

-- what comes of a file where so many bytes are lent
abbrev pub text_outcome : ℕ → List ℕ → Result Progress Refusal
text_outcome room file = translation encoding (limited_to MOST_CLAUSES (has_room text_layout room)) []
    (take MOST_INPUT file)

-- the text shows the file's clauses and reads back as just these, they mean the file's lines, and the header's two
-- numbers are true
pub record Printed (room : ℕ) (file : List ℕ) (h : Header) (text : List ℕ) : Type 0 where
  pub clauses : List Clause
  pub written : text_outcome room file ≡ Ok (record { held = clauses; numbers = h.variables })
  pub counted : h.clauses ≡ length clauses
  pub meant : Meant (take MOST_INPUT file) [] clauses h
  pub shown : text ≡ text_of clauses
  pub reads : read_text text ≡ Some clauses
