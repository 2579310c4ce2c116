-- The literals gathered and the parts left make the whole clause; each part has at most one literal.
use Rattle.std.proofs.Common.{◌≡◌, ◌≤◌, length, drop}
use Rattle.encode.specs.Parts.{clause_after, clause_of}
use Rattle.encoders.proofs.giving.literals_of.Given as goal

abbrev pub invariant-loop-part : goal.invariant-loop-part
invariant-loop-part g l =
    (clause_of l.parts ≡ clause_after l.literals.items (drop l.part-index l.parts))
    × (length l.literals.items ≤ l.part-index)
