-- For "exactly" two clauses, one after the other.
use Rattle.std.proofs.Common.{length}
use Rattle.encoders.proofs.Entries.{exactly_of_parts}
use Rattle.cnf.proofs.PartlyGiven.{partly_start, partly_same, partly_on, partly_last}
use Rattle.encoders.proofs.order.matrix.Matrix.give_last.Goals as goal

pub returns-in-Exactly : goal.returns-in-Exactly
returns-in-Exactly g c =
    let m = c.args.self.now in
    let n = length m.line.terms.now in
    let two =
    exactly_of_parts m.first m.columns n m.line.bound m.line.sense c.entry.result c.entry-in-Exactly.result
    c.in-Exactly.is
    (c.entry.ensures.holds, c.entry.ensures.fails)
    (c.entry-in-Exactly.ensures.holds, c.entry-in-Exactly.ensures.fails)
    in
    let second = partly_on _ (partly_same two (partly_start c.args.sheet.now _)) c.in_ok-give_parts.ensures in
    partly_last _ second c.give_parts-in-Exactly.ensures
