-- The rows of the terms passed are given, and those of the others and the last clauses are left.
use Rattle.std.proofs.Common.{◌++◌, length, drop}
use Rattle.encode.specs.Order.{rows_clauses, last_clauses, order_list}
use Rattle.pb.specs.Lines.{working_of}
use Rattle.cnf.proofs.PartlyGiven.{PartlyGiven}
use Rattle.encoders.proofs.order.matrix.MatrixListing.give_each.Given as goal

abbrev pub invariant-loop-i : goal.invariant-loop-i
invariant-loop-i g l =
    let m = l.self in
    let ts = m.line.terms.now in
    PartlyGiven g.S.Sheet l.initial.sheet l.sheet
    (order_list (working_of m.line) m.first)
    (rows_clauses m.first m.columns l.i (drop l.i ts)
    ++ last_clauses m.line.sense m.first m.columns (length ts) m.line.bound)
