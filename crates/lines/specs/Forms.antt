-- What the answer of a normal form says, beside the terms that stand in the lent table.
use Rattle.std.specs.Prelude.{◌≡◌, ℕ, ◌≤◌, List, length, drop, ℤ, Some, None, Option}
use Rattle.pb.specs.declared.working.WorkingHead.{WorkingHead}
use Rattle.pb.specs.declared.working.Sense.{Sense}
use Rattle.pb.specs.declared.working.WorkingTerm.{WorkingTerm}
use Rattle.pb.specs.Lines.{Line, impossible_line, line_in}
use Rattle.pb.specs.Checks.{line_check}
use Rattle.pb.specs.Normal.{normal, floored}
use Rattle.pb.specs.Meaning.{Assignment, meets, met}
use Rattle.pb.specs.WorkingForm.{IsNormal}

-- the answer to a line that nothing is wrong with: its normal form, which is in normal form and met by just the
-- assignments that meet the line, and past the terms the table as it was
pub record Formed (n : ℕ) (l : Line) (f : WorkingHead) (before after : List WorkingTerm) : Type 0 where
  pub fine : line_check n l ≡ None
  pub form_is : normal n l ≡ line_in f after
  pub meaning : (a : Assignment) → met a (line_in f after) ≡ meets a l
  pub is_normal : IsNormal n (line_in f after)
  pub few : f.count ≤ length l.terms
  pub within : f.count ≤ length after
  pub beyond : drop f.count after ≡ drop f.count before

-- where a bound below 0 stops, or None where it cannot be met
abbrev pub Floor : Sense → ℤ → Option ℕ → Type 0
Floor s b None = (ts : List WorkingTerm) → floored s b ts ≡ impossible_line
Floor s b (Some m) = (ts : List WorkingTerm) → floored s b ts ≡ record { sense = s; bound = m; terms = ts }
