-- The clauses of the entries so far were given, and those of the others are left.
use Rattle.std.proofs.Common.{map, drop}
use Rattle.cnf.specs.Units.{units}
use Rattle.cnf.proofs.PartlyGiven.{PartlyGiven}
use Rattle.cnf.proofs.units.UnitsListing.give_each.Given as goal

abbrev pub invariant-loop-entry : goal.invariant-loop-entry
invariant-loop-entry g l =
    let literal = g.T.HasLiteral.literal in
    PartlyGiven g.S.Sheet l.initial.sheet l.sheet (units (map literal l.self.0.now))
    (units (map literal (drop l.entry-index l.self.0.now)))
