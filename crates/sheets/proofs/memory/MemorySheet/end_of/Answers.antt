-- The places after the end mark are those after the layout's marks.
use Rattle.std.proofs.Common.{ap, ◌∙◌}
use Rattle.cnf.proofs.Marking.{after_same}
use Rattle.sheets.proofs.memory.MemorySheet.end_of.Goals as goal

pub returns : goal.returns
returns g c =
    c.after_mark.ensures
    ∙ after_same _ g.L.CellLayout.layout.mark
    (λ x. ap (λ end. g.L.Cell.PartialEq.eq x end) c.END.ensures ∙ g.met.L.CellLayout.ends x) c.args.clauses _
