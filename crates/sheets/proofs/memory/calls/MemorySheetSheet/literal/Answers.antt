-- A clause's part lies between the ends of the part before it and of its own.
use Rattle.std.proofs.Common.{◌≡◌, ◌+◌, ◌-◌, ◌<◌, ◌≤◌, [], length, get_or, ap, ◌∙◌, arith, rules}
use Rattle.cnf.specs.Clauses.{of_literals}
use Rattle.cnf.specs.Marks.{place_after_mark}
use Rattle.cnf.proofs.Asking.{clause_is, formed_clause}
use Rattle.cnf.proofs.Fronts.{part_is, part_inside}
use Rattle.sheets.specs.MemorySheet.{cells_of, held_by}
use Rattle.sheets.proofs.memory.calls.MemorySheetSheet.literal.Goals as goal
use Rattle.sheets.proofs.memory.calls.MemorySheetSheet.literal.Goals.{After-end_of-to}

-- the end of the i-th part, as that after i - 1 others
its_end : (g : _) (c : After-end_of-to g)
    → c.end_of-to.result ≡ place_after_mark g.L.CellLayout.layout.mark (c.args.i - 1 + 1) (cells_of c.args.self.now)
its_end g c =
    let e : c.args.i ≡ c.args.i - 1 + 1 = omega arith in
    c.end_of-to.ensures ∙ ap (λ n. place_after_mark g.L.CellLayout.layout.mark n (cells_of c.args.self.now)) e

inside : (g : _) (c : After-end_of-to g)
    → (c.end_of-from.result ≤ c.end_of-to.result) × (c.end_of-to.result ≤ length c.args.self.now.memory.now)
inside g c =
    part_inside g.L.CellLayout.layout g.met.L.CellLayout.faithful c.args.self.now.front (c.args.i - 1) _ _
    (of_literals []) (omega arith) c.end_of-from.ensures (its_end g c)

pub offset_bounds-self-from : goal.offset_bounds-self-from
offset_bounds-self-from g c = omega (arith, inside g c)

pub slice_bounds-literal_in-count : goal.slice_bounds-literal_in-count
slice_bounds-literal_in-count g c = (inside g c).0

pub slice_bounds-literal_in-start : goal.slice_bounds-literal_in-start
slice_bounds-literal_in-start g c =
    let h : c.end_of-from.result ≤ c.end_of-to.result = (inside g c).0 in
    search rules

pub slice_bounds-literal_in-end : goal.slice_bounds-literal_in-end
slice_bounds-literal_in-end g c =
    let h : c.end_of-to.result ≤ length c.args.self.now.memory.now = (inside g c).1 in
    search rules

pub returns : goal.returns
returns g c =
    let s = c.args.self.now in
    let cs = held_by s in
    let d = of_literals [] in
    let k : c.args.i - 1 < length cs = omega (arith, s.front.shows.counted) in
    let layout = g.L.CellLayout.layout in
    let faithful = g.met.L.CellLayout.faithful in
    let ends = its_end g (goal.at.returns g c).After-end_of-to in
    let part = part_is layout faithful s.front (c.args.i - 1) _ _ d (omega arith) c.end_of-from.ensures ends in
    c.literal_in.ensures (get_or cs (c.args.i - 1) d) part (formed_clause cs (c.args.i - 1) d s.front.shows.formed k)
    ∙ clause_is cs c.args.i c.args.j d (omega arith) (omega (arith, s.front.shows.counted))
