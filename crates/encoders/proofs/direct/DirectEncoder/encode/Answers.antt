-- Giving all clauses of a line in reach is to encode it, by the encoder's law.
use Rattle.std.proofs.Common.{◌≡◌, true, rules, tests}
use Rattle.encode.specs.Direct.{direct_clauses, direct_encoding}
use Rattle.encode.proofs.Directing.{direct_lawful}
use Rattle.encode.proofs.Wholes.{encoded_given}
use Rattle.pb.specs.Lines.{working_of}
use Rattle.encoders.proofs.direct.DirectEncoder.encode.Goals as goal

pub returns-in_err-give_all-clause-encoded : goal.returns-in_err-give_all-clause-encoded
returns-in_err-give_all-clause-encoded g c =
    let reached : direct_encoding.reach (working_of c.args.line) c.args._first ≡ true = search (rules, tests) in
    let short = c.in_ok-short.short in
    let line = c.args.line in
    let listed : direct_clauses short.sense short.bound short.terms.terms.now
    ≡ direct_clauses line.sense line.bound line.terms.now = search rules in
    encoded_given g.S.Sheet _ _ _ _ _ _ c.give_all.result _ direct_lawful reached listed c.give_all.ensures.given
    (search rules)
