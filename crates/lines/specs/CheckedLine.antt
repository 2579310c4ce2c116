-- What a checked line is: a line, and of how many variables the job is.
use Rattle.std.specs.Prelude.{◌≡◌, ℕ, None}
use Rattle.pb.specs.Checks.{line_check}
use Rattle.pb.specs.Lines.{Line, entered_line}
use Rattle.pb.specs.Variables.{variable_count}
use Rattle.lines.specs.declared.checked_line.CheckedLine.{CheckedLine}

abbrev pub checked_variables : CheckedLine → ℕ
checked_variables c = variable_count c.variables

abbrev pub checked_line : CheckedLine → Line
checked_line c = entered_line c.line

-- it is this line of a job of n variables, in which the check finds nothing
pub record IsCheckedLine (n : ℕ) (l : Line) (c : CheckedLine) : Type 0 where
  pub fine : line_check n l ≡ None
  pub variables : checked_variables c ≡ n
  pub line : checked_line c ≡ l
