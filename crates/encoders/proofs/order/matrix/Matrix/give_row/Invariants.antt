-- The clauses of the columns passed are given, and those of the others are left.
use Rattle.std.proofs.Common.{◌+◌, ◌-◌}
use Rattle.encode.specs.Order.{row_clauses}
use Rattle.cnf.proofs.PartlyGiven.{PartlyGiven}
use Rattle.encoders.proofs.order.matrix.Matrix.give_row.Given as goal

abbrev pub invariant-loop-j : goal.invariant-loop-j
invariant-loop-j g l =
    PartlyGiven g.S.Sheet l.initial.sheet l.sheet
    (row_clauses l.self.first l.self.columns l.i 1 l.self.columns l.term)
    (row_clauses l.self.first l.self.columns l.i l.j (l.self.columns + 1 - l.j) l.term)
