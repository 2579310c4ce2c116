-- A line that is entered moves the run on, whatever comes of writing it; one that is not ends it.
use Rattle.std.proofs.Common.{length, ap}
use Rattle.std.proofs.lemmas.Result.{err_from_is_err_and}
use Rattle.pb.specs.Variables.{variable_count}
use Rattle.schedule.specs.ReadLine.{line_of}
use Rattle.translate.proofs.Forms.{front}
use Rattle.translate.proofs.Steps.{goes_on, goes_on_writing, stopped_before, ends_with}
use Rattle.translate.proofs.run.Run.take_line.Goals as goal

pub returns-in_err-normal-clause-cases : goal.returns-in_err-normal-clause-cases
returns-in_err-normal-clause-cases g c =
    let p = err_from_is_err_and c.from_residual.result c.from_residual.ensures.1 in
    rw (p.1, p.2) (ends_with (g.E.Encoder.meaning c.args.encoder.now) (g.S.Sheet.fits c.args.sheet.now) _ _ _ _ _
    c.in_err-normal.ensures)

pub returns-in-Ok-clause-cases : goal.returns-in-Ok-clause-cases
returns-in-Ok-clause-cases g c =
    let entered = c.in_ok-normal.ensures in
    let l = line_of c.args.line.now in
    let run = c.args.self.now in
    let e = g.E.Encoder.meaning c.args.encoder.now in
    let fits = g.S.Sheet.fits c.args.sheet.now in
    let held = g.S.Sheet.held c.args.sheet.now in
    let after = g.S.Sheet.held c.write-self.new.sheet in
    let form = front (variable_count run.variables) l c.in_ok-normal.normal c.tighten_in-sense.result c.enter.new.form
    c.tighten_in-sense.new.form entered.normal_form c.tighten_in-sense.ensures.line in
    let wrote = goes_on_writing e fits run held after l _ c.in-Ok.taken _ c.in-Ok.is form c.write-self.ensures.comes in
    goes_on e fits run held after l c.args.line.now.offset _ _ entered (ap length c.terms.ensures.terms) wrote

pub returns-in_default-clause-cases : goal.returns-in_default-clause-cases
returns-in_default-clause-cases g c =
    let entered = c.in_ok-normal.ensures in
    let l = line_of c.args.line.now in
    let run = c.args.self.now in
    let e = g.E.Encoder.meaning c.args.encoder.now in
    let fits = g.S.Sheet.fits c.args.sheet.now in
    let held = g.S.Sheet.held c.args.sheet.now in
    goes_on e fits run held held l c.args.line.now.offset _ run.written entered (ap length c.terms.ensures.terms)
    (stopped_before e fits run held l _ c.in_default.is)
