-- What was written behind the cells in use is the clause's part, so that they show one clause more.
use Rattle.std.proofs.Common.{◌+◌, ◌≤◌, length, ap, arith}
use Rattle.cnf.specs.FormedClause.{clause_in}
use Rattle.cnf.specs.Layouts.{Front}
use Rattle.cnf.proofs.Fronts.{few, put_keeps, put_reads}
use Rattle.sheets.proofs.memory.MemorySheet.append.Goals as goal
use Rattle.sheets.proofs.memory.MemorySheet.append.Goals.{After-put}

room : (g : _) (c : After-put g)
    → c.args.self.now.used + length (g.L.CellLayout.layout.write (clause_in c.args.clause))
    ≤ length c.args.self.now.memory.now
room g c = omega (arith, c.requires.size, c.requires.room)

longer : (g : _) (c : After-put g)
    → let s = c.args.self.now in
    Front g.L.CellLayout.layout c.put.new.cells (s.used + c.args.size) (s.count + 1)
longer g c =
    let s = c.args.self.now in
    let ends = ap (λ n. s.used + n) c.requires.size in
    let faithful = g.met.L.CellLayout.faithful in
    put_keeps g.L.CellLayout.layout faithful s.front _ _ c.args.clause.formed (room g c) c.put.ensures ends

pub overflow_add-self-2 : goal.overflow_add-self-2
overflow_add-self-2 g c = omega (arith, few g.L.CellLayout.layout g.met.L.CellLayout.faithful (longer g c))

pub invariant_of-self : goal.invariant_of-self
invariant_of-self g c = record { front = longer g c }

pub returns-clause-held : goal.returns-clause-held
returns-clause-held g c =
    let s = c.args.self.now in
    let told = (goal.at.returns-clause-held g c).After-put in
    let ends = ap (λ n. s.used + n) c.requires.size in
    let faithful = g.met.L.CellLayout.faithful in
    put_reads g.L.CellLayout.layout faithful s.front _ _ c.args.clause.formed (room g told) c.put.ensures ends
