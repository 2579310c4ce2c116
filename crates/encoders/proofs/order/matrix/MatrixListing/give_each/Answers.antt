-- Each turn gives one row, and at the end the last clauses are given.
use Rattle.encoders.proofs.Entries.{rows_more}
use Rattle.cnf.proofs.PartlyGiven.{partly_same, partly_on, partly_exits}
use Rattle.encoders.proofs.order.matrix.MatrixListing.give_each.Goals as goal

pub returns-in_err-give_row : goal.returns-in_err-give_row
returns-in_err-give_row g c =
    let m = c.args.self.now in
    let more = rows_more m.first m.columns c.loop-i.i m.line.terms.now _ _ c.loop-i-test.true in
    let left = partly_same more c.loop-i.invariant in
    let result = c.from_residual.result in
    let p = partly_exits {r = result} _ _ _ left c.in_err-give_row.ensures c.from_residual.ensures.1 in
    record { rule = p.rule; same = p.same; answer = p.answer; after = p.after }

pub loop-i-preserved : goal.loop-i-preserved
loop-i-preserved g c =
    let m = c.args.self.now in
    let more = rows_more m.first m.columns c.loop-i.i m.line.terms.now _ _ c.loop-i-test.true in
    partly_on _ (partly_same more c.loop-i.invariant) c.in_ok-give_row.ensures
