-- What entering a line answers.
use Rattle.std.specs.Prelude.{◌≡◌, ℕ, ◌<◌, ◌≤◌, ◌⊎◌, List, length, Some, None}
use Rattle.fault.specs.declared.book.BookFault.TheVariants.{Full}
use Rattle.fault.specs.declared.file.FileFault.{FileFault}
use Rattle.fault.specs.declared.file.FileFault.TheVariants.{Line as LineAt, Book as BookAt}
use Rattle.pb.specs.declared.constraint.TheConstants.{MOST_TERMS}
use Rattle.pb.specs.declared.line_fault.LineFault.{LineFault}
use Rattle.pb.specs.declared.working.WorkingHead.{WorkingHead}
use Rattle.pb.specs.declared.working.WorkingTerm.{WorkingTerm}
use Rattle.pb.specs.Variables.{variable_count}
use Rattle.pb.specs.Lines.{Line, line_in}
use Rattle.pb.specs.Checks.{line_check}
use Rattle.pb.specs.Normal.{normal}
use Rattle.schedule.specs.Reading.{offset_of_fault}
use Rattle.translate.specs.declared.run.Run.{Run}
use Rattle.translate.specs.declared.taking.TheConstants.{MOST_LINES}

-- nothing is wrong with the line, the book has room for it, and this is its normal form
pub record Entered (l : Line) (run : Run) (f : WorkingHead) (form : List WorkingTerm) : Type 0 where
  pub fine : line_check (variable_count run.variables) l ≡ None
  pub line_free : run.held < MOST_LINES
  pub terms_free : length l.terms ≤ run.free
  pub normal_form : normal (variable_count run.variables) l ≡ line_in f form
  pub size : length form ≡ MOST_TERMS
  pub few : f.count ≤ MOST_TERMS

-- something is wrong with the line, which stood here in the file; or else the book is full
pub record NotEntered (l : Line) (at : ℕ) (run : Run) (e : FileFault) : Type 0 where
  pub cause :
      ((x : LineFault) × (line_check (variable_count run.variables) l ≡ Some x) × (e ≡ LineAt (offset_of_fault at x) x))
      ⊎ ((line_check (variable_count run.variables) l ≡ None) × ((MOST_LINES ≤ run.held) ⊎ (run.free < length l.terms))
      × (e ≡ BookAt at (Full run.held)))
