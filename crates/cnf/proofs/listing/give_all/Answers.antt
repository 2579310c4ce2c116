-- All or nothing, and the laws of satisfaction.
use Rattle.cnf.proofs.GivingAll.{given_all}
use Rattle.cnf.proofs.Satisfying.{satisfaction}
use Rattle.cnf.proofs.listing.give_all.Goals as goal

pub returns-clause-given : goal.returns-clause-given
returns-clause-given g c =
    let made = c.give_or_take_back.ensures in
    given_all c.args.sheet.now c.give_or_take_back.new.sheet
    (g.L.Listing.clauses c.args.list.now) made.stays _ made.cases

pub returns-clause-meaning : goal.returns-clause-meaning
returns-clause-meaning g c = satisfaction
