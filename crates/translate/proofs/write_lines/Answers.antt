-- Each turn takes a line; the last finds the end of the file or a fault, and what the run has come to is the answer.
use Rattle.std.proofs.Common.{rules, ◌∙◌, subst}
use Rattle.std.proofs.lemmas.Result.{err_from_is_err_and}
use Rattle.std.proofs.lemmas.Option.{MatchOption-at_some, MatchOption-at_none}
use Rattle.schedule.specs.ReadLine.{line_of}
use Rattle.schedule.specs.Place.{offset_of, rest_of}
use Rattle.translate.specs.Streaming.{GoesOn, EndsWith}
use Rattle.translate.proofs.Steps.{comes_to, comes_to_fault, moved_on, ended_by, appends_on}
use Rattle.translate.proofs.write_lines.Goals as goal

pub loop-line-init : goal.loop-line-init
loop-line-init g c = rw c.new-run.ensures (search rules)

pub returns-in_err-line-clause-comes : goal.returns-in_err-line-clause-comes
returns-in_err-line-clause-comes g c =
    let p = err_from_is_err_and c.from_residual.result c.from_residual.ensures.1 in
    let reader = c.loop-line.reader in
    let e = g.E.Encoder.meaning c.args.encoder.now in
    let fits = g.S.Sheet.fits c.args.sheet.now in
    let held = g.S.Sheet.held c.loop-line.sheet in
    let so_far = c.loop-line.invariant.comes in
    rw (p.1, p.2)
    (comes_to_fault e fits c.loop-line.run held (offset_of reader) (rest_of reader) _ so_far
    c.in_err-line.field-0.0 c.in_err-line.ensures.cases.0)

pub loop-line-preserved : goal.loop-line-preserved
loop-line-preserved g c =
    let h = c.in-Some.line in
    let e = g.E.Encoder.meaning c.args.encoder.now in
    let fits = g.S.Sheet.fits c.args.sheet.now in
    let inv = c.loop-line.invariant in
    let held = g.S.Sheet.held c.loop-line.sheet in
    let after = g.S.Sheet.held c.take_line.new.sheet in
    let p = c.in_ok-take_line.ensures in
    let goes = subst (λ f. GoesOn e f c.loop-line.run held c.take_line.new.self after h.offset (line_of h))
    inv.appends.stays.rule p.cases in
    let read = MatchOption-at_some _ _ h c.in-Some.is c.in_ok-line.ensures.cases in
    record {
      comes = moved_on e fits c.loop-line.run c.take_line.new.self held after (line_of h) h.offset c.loop-line.reader
          c.line.new.self _ inv.comes goes read.1 read.2 read.0;
      appends = appends_on g.S.Sheet _ _ _ inv.appends p.appends;
      input = read.2.same_file ∙ inv.input;
      low = p.low;
    }

pub returns-in_err-take_line-clause-comes : goal.returns-in_err-take_line-clause-comes
returns-in_err-take_line-clause-comes g c =
    let r = err_from_is_err_and
    c.from_residual-in_err-take_line.result c.from_residual-in_err-take_line.ensures.1 in
    let h = c.in-Some.line in
    let e = g.E.Encoder.meaning c.args.encoder.now in
    let fits = g.S.Sheet.fits c.args.sheet.now in
    let inv = c.loop-line.invariant in
    let held = g.S.Sheet.held c.loop-line.sheet in
    let fault = c.in_err-take_line.field-0.0 in
    let reader = c.loop-line.reader in
    let ends = subst (λ f. EndsWith e f c.loop-line.run held fault h.offset (line_of h))
    inv.appends.stays.rule c.in_err-take_line.ensures.cases in
    let read = MatchOption-at_some _ _ h c.in-Some.is c.in_ok-line.ensures.cases in
    rw (r.1, r.2)
    (ended_by e fits c.loop-line.run held (offset_of reader) (rest_of reader) _ inv.comes fault (line_of h) h.offset
    ends read.1 read.0)

pub returns-clause-comes : goal.returns-clause-comes
returns-clause-comes g c =
    let read = MatchOption-at_none _ _ c.in_default.is c.in_ok-line.ensures.cases in
    let reader = c.loop-line.reader in
    let e = g.E.Encoder.meaning c.args.encoder.now in
    let fits = g.S.Sheet.fits c.args.sheet.now in
    let held = g.S.Sheet.held c.loop-line.sheet in
    let so_far = c.loop-line.invariant.comes in
    comes_to e fits c.loop-line.run held (offset_of reader) (rest_of reader) _ so_far read.0
