-- The first list, and after it the second where there is one.
use Rattle.cnf.proofs.PartlyGiven.{partly_start, partly_same, partly_on, partly_exits, partly_last}
use Rattle.encoders.proofs.MaskLists.{two_lists, second_list}
use Rattle.encoders.proofs.direct.listing.ShortLineListing.give_each.Goals as goal

pub returns-in_err-give_each : goal.returns-in_err-give_each
returns-in_err-give_each g c =
    let l = c.args.self.now in
    let two = two_lists l.sense l.bound l.terms.terms.now _ c.from-bound.ensures in
    let start = partly_same two (partly_start c.args.sheet.now _) in
    partly_exits _ _ _ start c.in_err-give_each.ensures c.from_residual.ensures.1

pub returns-in-Exactly : goal.returns-in-Exactly
returns-in-Exactly g c =
    let l = c.args.self.now in
    let two = two_lists l.sense l.bound l.terms.terms.now _ c.from-bound.ensures in
    let rest = second_list l.sense l.bound l.terms.terms.now c.saturating_sub.result c.in-Exactly.is (cc) in
    let first = partly_on _ (partly_same two (partly_start c.args.sheet.now _)) c.in_ok-give_each.ensures in
    partly_last _ (partly_same rest first) c.give_each-in-Exactly.ensures
