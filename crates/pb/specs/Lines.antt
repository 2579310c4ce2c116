-- What a line and its working form are.
use Rattle.std.specs.Prelude.{ℕ, List, [], take, ℤ}
use Rattle.pb.specs.declared.constraint.Constraint.{Constraint}
use Rattle.pb.specs.declared.relation.Relation.{Relation}
use Rattle.pb.specs.declared.term.Term.{Term}
use Rattle.pb.specs.declared.working.WorkingHead.{WorkingHead}
use Rattle.pb.specs.declared.working.Sense.{Sense}
use Rattle.pb.specs.declared.working.Sense.TheVariants.{AtLeast}
use Rattle.pb.specs.declared.working.WorkingTerm.{WorkingTerm}
use Rattle.pb.specs.declared.working.WorkingLine.{WorkingLine}

-- a line as it is entered: its terms, in the order given, stand in the relation to the bound
pub record Line : Type 0 where
  pub relation : Relation
  pub bound : ℤ
  pub terms : List Term

-- a line as it is entered over lent terms, with these
abbrev pub entered_line : Constraint → Line
entered_line l = record { relation = l.relation; bound = l.bound; terms = l.terms.now }

-- a working line
pub record Working : Type 0 where
  pub sense : Sense
  pub bound : ℕ
  pub terms : List WorkingTerm

-- without terms, at least 0 is met by every assignment, and at least 1 by none
abbrev pub empty_line : Working
empty_line = record { sense = AtLeast; bound = 0; terms = [] }

abbrev pub impossible_line : Working
impossible_line = record { sense = AtLeast; bound = 1; terms = [] }

-- a head and the table that its terms stand in, as a line
abbrev pub line_in : WorkingHead → List WorkingTerm → Working
line_in h table = record { sense = h.sense; bound = h.bound; terms = take h.count table }

-- a working line over lent terms, with these
abbrev pub working_of : WorkingLine → Working
working_of l = record { sense = l.sense; bound = l.bound; terms = l.terms.now }
