-- Each turn gives what one mask has.
use Rattle.std.proofs.Common.{◌^◌, ◌<◌, length, arith}
use Rattle.cnf.proofs.PartlyGiven.{partly_same, partly_on, partly_exits}
use Rattle.encoders.proofs.MaskLists.{clauses_more}
use Rattle.encoders.proofs.direct.listing.LeastSetsListing.give_each.Goals as goal

pub returns-in_err-give : goal.returns-in_err-give
returns-in_err-give g c =
    let l = c.args.self.now in
    let inside : c.loop-mask.mask < 2 ^ length l.terms.terms.now = omega (arith, c.sets-mask-end.ensures) in
    let more = clauses_more l.flip l.terms.terms.now l.bound c.loop-mask.mask inside in
    partly_exits _ _ _ (partly_same more c.loop-mask.invariant) c.in_err-give.ensures c.from_residual.ensures.1

pub loop-mask-preserved : goal.loop-mask-preserved
loop-mask-preserved g c =
    let l = c.args.self.now in
    let inside : c.loop-mask.mask < 2 ^ length l.terms.terms.now = omega (arith, c.sets-mask-end.ensures) in
    let more = clauses_more l.flip l.terms.terms.now l.bound c.loop-mask.mask inside in
    partly_on _ (partly_same more c.loop-mask.invariant) c.in_ok-give.ensures
