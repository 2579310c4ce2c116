-- The clauses so far were given, and the others are left.
use Rattle.std.proofs.Common.{map, drop}
use Rattle.cnf.specs.Clauses.{of_literals}
use Rattle.cnf.proofs.PartlyGiven.{PartlyGiven}
use Rattle.cnf.proofs.listing.ClausesListing.give_each.Given as goal

abbrev pub invariant-loop-clause : goal.invariant-loop-clause
invariant-loop-clause g l =
    let all = l.self.0.now in
    PartlyGiven g.S.Sheet l.initial.sheet l.sheet (map (λ c. of_literals c.now) all)
    (map (λ c. of_literals c.now) (drop l.clause-index all))
