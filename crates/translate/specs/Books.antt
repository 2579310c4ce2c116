-- A file entered into a book: its lines one after the other, as far as there is room for them.
use Rattle.std.specs.Prelude.{◌≡◌, ℕ, suc, ◌-◌, ◌≤◌, ◌↔◌, if◌then◌else◌, ◌&&◌, nat_le, nat_lt, sum_by, List, [], ◌∷◌}
use Rattle.std.specs.Prelude.{length, Option, Some, None, Result, Ok, Err}
use Rattle.fault.specs.declared.book.BookFault.TheVariants.{Full}
use Rattle.fault.specs.declared.file.FileFault.{FileFault}
use Rattle.fault.specs.declared.file.FileFault.TheVariants.{Book as BookAt}
use Rattle.pb.specs.Lines.{Line}
use Rattle.schedule.specs.Reading.{◌>>=◌, PlacedLine, LinesRead, FileRead, Schedule, read_file, read_schedule}
use Rattle.translate.specs.declared.taking.TheConstants.{MOST_LINES, MOST_BOOK_TERMS}

-- no line is left: all are entered, or a fault ended reading
abbrev pub no_more_lines : Option FileFault → Result (List Line) FileFault
no_more_lines None = Ok []
no_more_lines (Some e) = Err e

-- lines that were read, and the fault that ended reading, if one did, where a book of so many lines holds some and
-- has so many terms free: the first line that it has no room for is refused where it stands, whatever comes after it
abbrev pub enter_placed : ℕ → ℕ → ℕ → List PlacedLine → Option FileFault → Result (List Line) FileFault
enter_placed most held free [] fault = no_more_lines fault
enter_placed most held free (p ∷ ps) fault =
    if nat_lt held most && nat_le (length p.line.terms) free
    then (do
      ls ← enter_placed most (suc held) (free - length p.line.terms) ps fault
      Ok (p.line ∷ ls))
    else Err (BookAt p.offset (Full held))

abbrev pub enter_lines : ℕ → ℕ → ℕ → LinesRead → Result (List Line) FileFault
enter_lines most held free r = enter_placed most held free r.lines r.fault

-- the schedule that a file holds, entered into an empty book of so many lines and terms
abbrev pub enter_schedule : ℕ → ℕ → FileRead → Result Schedule FileFault
enter_schedule lines terms r = do
  ls ← enter_placed lines 0 terms r.lines r.fault
  Ok (record { variables = r.variables; lines = ls })

-- the same by the book of a run
abbrev pub enter_file : List ℕ → Result Schedule FileFault
enter_file input = enter_schedule MOST_LINES MOST_BOOK_TERMS (read_file input)

-- how much that book holds
pub record BookLimits : Type 0 where
  pub lines : MOST_LINES ≡ 24
  pub terms : MOST_BOOK_TERMS ≡ 512

-- a book of so many lines and terms has room for the lines
pub record HasRoom (lines terms : ℕ) (s : Schedule) : Type 0 where
  pub lines_fit : length s.lines ≤ lines
  pub terms_fit : sum_by (λ l. length l.terms) s.lines ≤ terms

-- whatever the book holds, what is entered is just what is read as a schedule that there is room for
abbrev pub EntersWhatFits : Type 0
EntersWhatFits = (lines terms : ℕ) (input : List ℕ) (s : Schedule)
    → (enter_schedule lines terms (read_file input) ≡ Ok s) ↔ ((read_schedule input ≡ Ok s) × HasRoom lines terms s)
