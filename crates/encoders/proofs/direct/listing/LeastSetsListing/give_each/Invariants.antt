-- The clauses of the masks that were passed are given, and those of the others are left.
use Rattle.encode.specs.Direct.{set_clauses}
use Rattle.cnf.proofs.PartlyGiven.{PartlyGiven}
use Rattle.encoders.proofs.MaskLists.{clauses_from}
use Rattle.encoders.proofs.direct.listing.LeastSetsListing.give_each.Given as goal

abbrev pub invariant-loop-mask : goal.invariant-loop-mask
invariant-loop-mask g l =
    PartlyGiven g.S.Sheet l.initial.sheet l.sheet
    (set_clauses l.self.flip l.self.terms.terms.now l.self.bound)
    (clauses_from l.self.flip l.self.terms.terms.now l.self.bound l.mask)
