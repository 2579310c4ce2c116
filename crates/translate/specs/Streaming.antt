-- The same run as the program makes it: a line is written as soon as it is read, and where that is refused the rest of
-- the file is still read, since a fault of the file comes before any refusal of writing.
use Rattle.std.specs.Prelude.{◌≡◌, ℕ, suc, ◌+◌, List, ◌++◌, drop, Some, Ok, Err, Result}
use Rattle.fault.specs.declared.file.FileFault.{FileFault}
use Rattle.fault.specs.declared.refusal.Refusal.{Refusal}
use Rattle.fault.specs.Refusals.{file_refusal}
use Rattle.cnf.specs.Calls.{Rule}
use Rattle.cnf.specs.Clauses.{Clause}
use Rattle.cnf.specs.Sheets.{SameSheet}
use Rattle.cnf.specs.declared.sheet.Sheet.{Ghosts}
use Rattle.encode.specs.Law.{Encoding}
use Rattle.pb.specs.Variables.{variable_count}
use Rattle.pb.specs.Lines.{Line}
use Rattle.pb.specs.declared.variables.Variables.{Variables}
use Rattle.schedule.specs.Reading.{◌>>=◌, read_line, lines_from, line_size}
use Rattle.translate.specs.declared.taking.TheConstants.{MOST_LINES, MOST_BOOK_TERMS}
use Rattle.translate.specs.Books.{enter_lines}
use Rattle.translate.specs.declared.run.Run.{Run}
use Rattle.translate.specs.Translation.{Progress, lines_written}

-- a run before its first line
abbrev pub fresh : Variables → Run
fresh v = record { variables = v; held = 0; free = MOST_BOOK_TERMS; written = Ok (variable_count v) }

-- what writing has come to: the clauses held and the numbers taken, or its first refusal
abbrev pub progress : Result ℕ Refusal → List Clause → Result Progress Refusal
progress (Ok numbers) cs = Ok (record { held = cs; numbers = numbers })
progress (Err r) cs = Err r

-- what comes of the lines that are still to be read, of which the first has this number
abbrev pub outcome : Encoding → Rule → ℕ → ℕ → Result Progress Refusal → Result (List Line) FileFault
    → Result Progress Refusal
outcome e fits n number state (Err x) = Err (file_refusal x)
outcome e fits n number state (Ok ls) = state >>= λ p. lines_written e fits n number p ls

-- what comes of the rest of a file where a run has come so far
abbrev pub coming : Encoding → Rule → Run → List Clause → ℕ → List ℕ → Result Progress Refusal
coming e fits run cs at rest =
    outcome e fits (variable_count run.variables) (suc run.held) (progress run.written cs)
    (enter_lines MOST_LINES run.held run.free (lines_from (variable_count run.variables) at rest))

-- a run goes on from a line, which stood here, to what follows it
abbrev pub GoesOn : Encoding → Rule → Run → List Clause → Run → List Clause → ℕ → Line → Type 0
GoesOn e fits run cs after ds at l = (rest : List ℕ) → read_line at rest ≡ Ok (Some l)
    → coming e fits run cs at rest ≡ coming e fits after ds (at + line_size l) (drop (line_size l) rest)

-- it ends there, with a fault of the file
abbrev pub EndsWith : Encoding → Rule → Run → List Clause → FileFault → ℕ → Line → Type 0
EndsWith e fits run cs x at l =
    (rest : List ℕ) → read_line at rest ≡ Ok (Some l) → coming e fits run cs at rest ≡ Err (file_refusal x)

-- clauses were written after what was there
pub record Appended (cs ds : List Clause) : Type 0 where
  pub more : List Clause
  pub after : ds ≡ cs ++ more

-- whatever a call did, clauses were written to the sheet only after what it held; s is the sheet before the call and
-- t the sheet after it
pub record OnlyAppends {S : Type 0} (sheet : Ghosts S) (s t : S) : Type 0 where
  pub stays : SameSheet sheet s t
  pub appended : Appended (sheet.held s) (sheet.held t)
