-- Giving all clauses of a line in reach is to encode it, by the encoder's law.
use Rattle.std.proofs.Common.{◌≡◌, true, refl, rules, tests}
use Rattle.encode.specs.Order.{order_encoding}
use Rattle.encode.proofs.Ordering.{order_lawful}
use Rattle.encode.proofs.Wholes.{encoded_given}
use Rattle.pb.specs.Lines.{working_of}
use Rattle.encoders.proofs.order.OrderEncoder.encode.Goals as goal

pub returns-in_err-give_all-clause-encoded : goal.returns-in_err-give_all-clause-encoded
returns-in_err-give_all-clause-encoded g c =
    let reached : order_encoding.reach (working_of c.args.line) c.args.first ≡ true = search (rules, tests) in
    encoded_given g.S.Sheet _ _ _ _ _ _ c.give_all.result _ order_lawful reached refl c.give_all.ensures.given
    (search rules)
