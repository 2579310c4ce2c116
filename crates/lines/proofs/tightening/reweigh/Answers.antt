-- A turn changes the term at its place.
use Rattle.std.proofs.Common.{arith}
use Rattle.lines.specs.Tables.{reweighed}
use Rattle.lines.proofs.EachTerm.{each_more}
use Rattle.lines.proofs.tightening.reweigh.Goals as goal

pub loop-t-preserved : goal.loop-t-preserved
loop-t-preserved g c = λ f p.
    let before = c.loop-t.invariant f p in
    rw (p _ _ c.change-t.ensures)
    (each_more (reweighed f) c.args.terms.now c.loop-t.terms c.loop-t.t-index (omega arith) (omega arith) before)
