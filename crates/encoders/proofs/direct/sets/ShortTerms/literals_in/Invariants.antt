-- What was chosen and what is left to choose make the whole clause; each term has at most one literal.
use Rattle.std.proofs.Common.{◌≡◌, ◌≤◌, ◌++◌, ◌/◌, ◌^◌, length, drop}
use Rattle.encode.specs.Direct.{literals_in}
use Rattle.encoders.proofs.direct.sets.ShortTerms.literals_in.Given as goal

abbrev pub invariant-loop-place : goal.invariant-loop-place
invariant-loop-place l =
    (l.literals.items ++ literals_in l.flip (drop l.place l.self.terms.now) (l.mask / 2 ^ l.place)
    ≡ literals_in l.flip l.self.terms.now l.mask)
    × (length l.literals.items ≤ l.place)
