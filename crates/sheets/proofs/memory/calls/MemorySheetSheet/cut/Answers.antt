-- The first clauses end at the place after so many marks; the memory stays.
use Rattle.std.proofs.Common.{arith}
use Rattle.cnf.proofs.Fronts.{cut_keeps, cut_reads}
use Rattle.sheets.proofs.memory.calls.MemorySheetSheet.cut.Goals as goal

pub invariant_of-self : goal.invariant_of-self
invariant_of-self g c =
    let layout = g.L.CellLayout.layout in
    let faithful = g.met.L.CellLayout.faithful in
    let keeps = cut_keeps layout faithful c.args.self.now.front c.args.keep _ c.end_of-self.ensures in
    record { front = keeps (omega (arith, c.if-keep-self.false)) }

pub returns-clause-after : goal.returns-clause-after
returns-clause-after g c =
    let layout = g.L.CellLayout.layout in
    let faithful = g.met.L.CellLayout.faithful in
    cut_reads layout faithful c.args.self.now.front c.args.keep _ c.end_of-self.ensures
