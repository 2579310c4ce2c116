-- The file's first record says how many variables there are; then all goes by the lines.
use Rattle.std.proofs.Common.{◌∙◌}
use Rattle.std.proofs.lemmas.Result.{err_from_is_err_and}
use Rattle.translate.proofs.Steps.{comes_to_all}
use Rattle.translate.proofs.write_file.Goals as goal

pub returns-in_err-numbers-clause-cases : goal.returns-in_err-numbers-clause-cases
returns-in_err-numbers-clause-cases g c =
    let r = err_from_is_err_and c.from_residual-in_err-numbers.result c.from_residual-in_err-numbers.ensures.1 in
    let s = c.args.sheet.now in
    let read = c.in_ok-variables.ensures.cases in
    let made = c.new-reader.ensures in
    let all = comes_to_all (g.E.Encoder.meaning c.args.encoder.now) (g.S.Sheet.fits s) c.in_ok-variables.variables
    (g.S.Sheet.held s) c.args.input.now c.new-reader.result c.variables.new.self made.input made.start
    read.1 read.0 in
    rw (r.1, r.2) (all ∙ c.in_err-numbers.ensures.comes)

pub returns-clause-cases : goal.returns-clause-cases
returns-clause-cases g c =
    let s = c.args.sheet.now in
    let read = c.in_ok-variables.ensures.cases in
    let made = c.new-reader.ensures in
    let all = comes_to_all (g.E.Encoder.meaning c.args.encoder.now) (g.S.Sheet.fits s) c.in_ok-variables.variables
    (g.S.Sheet.held s) c.args.input.now c.new-reader.result c.variables.new.self made.input made.start
    read.1 read.0 in
    record { written = all ∙ c.in_ok-numbers.ensures.comes; clauses = c.count.ensures }
