-- Each turn gives the clauses of one column.
use Rattle.std.proofs.Common.{◌+◌, arith}
use Rattle.encoders.proofs.Entries.{row_more, row_none}
use Rattle.cnf.proofs.PartlyGiven.{partly_same, partly_on, partly_exits, partly_ends}
use Rattle.encoders.proofs.order.matrix.Matrix.give_row.Goals as goal

pub returns-in_err-give_cell : goal.returns-in_err-give_cell
returns-in_err-give_cell g c =
    let m = c.args.self.now in
    let more = row_more m.first m.columns c.args.i c.loop-j.j c.args.term (omega arith) in
    partly_exits _ _ _ (partly_same more c.loop-j.invariant) c.in_err-give_cell.ensures c.from_residual.ensures.1

pub loop-j-preserved : goal.loop-j-preserved
loop-j-preserved g c =
    let m = c.args.self.now in
    let more = row_more m.first m.columns c.args.i c.loop-j.j c.args.term (omega arith) in
    partly_on _ (partly_same more c.loop-j.invariant) c.in_ok-give_cell.ensures

pub returns-in_ok-give_cell : goal.returns-in_ok-give_cell
returns-in_ok-give_cell g c =
    let m = c.args.self.now in
    let j = c.loop-j.j in
    let more = row_more m.first m.columns c.args.i j c.args.term (omega arith) in
    let none = row_none m.first m.columns c.args.i (j + 1) c.args.term (omega arith) in
    partly_ends (partly_same none (partly_on _ (partly_same more c.loop-j.invariant) c.in_ok-give_cell.ensures))
