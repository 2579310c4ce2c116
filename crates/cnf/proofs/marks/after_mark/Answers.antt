-- Each step passes an element, and with a mark a part.
use Rattle.std.proofs.Common.{true, false, sym, ◌∙◌, arith}
use Rattle.cnf.proofs.Marking.{after_step}
use Rattle.cnf.proofs.marks.after_mark.Goals as goal
use Rattle.cnf.proofs.marks.after_mark.Goals.{then-is_end, else-is_end}

pub loop-i-preserved : goal.loop-i-preserved
loop-i-preserved g c =
    let ends = g.E.Mark.ends c.args.mark.now in
    let step =
    after_step ends c.args.all.now c.loop-i.i c.loop-i.left c.if-is_end.left c.index-all-i.result in
    let there = c.loop-i-test.true in
    let read = c.index-all-i.is in
    elim c.if-is_end.branch [
      | then-is_end w ↦
          let is = sym w.if-is_end.true ∙ c.is_end.ensures in
          omega (arith, c.loop-i.invariant, step true there (omega arith) read is w.left-is)
      | else-is_end w ↦
          let is = sym w.if-is_end.false ∙ c.is_end.ensures in
          omega (arith, c.loop-i.invariant, step false there (omega arith) read is w.left-is)
    ]
