-- A refused line's fault stands within its records, and is that of the line that was read.
use Rattle.std.proofs.Common.{sym, ap, ◌∙◌, arith}
use Rattle.pb.specs.Checks.{line_check}
use Rattle.schedule.specs.ReadLine.{line_of}
use Rattle.translate.proofs.Offsets.{fault_within}
use Rattle.translate.proofs.run.Run.enter.Goals as goal

pub map_err-requires : goal.map_err-requires
map_err-requires c = λ e is.
    let h = c.args.line.now in
    let n = c.args.self.now.variables.count in
    let refused = rw is at c.new.ensures.cases in
    omega (
      arith,
      fault_within h.offset n (line_of h) e (ap (line_check n) (sym c.constraint.ensures) ∙ refused),
      c.requires,
    )
