-- What is summed so far, with what the terms left add to it, is what all the terms come to.
use Rattle.std.proofs.Common.{◌≡◌, ℕ, ◌≤◌, drop, ◌+ℤ◌}
use Rattle.pb.specs.declared.variables.TheConstants.{MOST_VARIABLES}
use Rattle.pb.specs.Normal.{net, lowered}
use Rattle.lines.specs.Nets.{net_in}
use Rattle.lines.proofs.nets.Nets.new.Given as goal

abbrev pub invariant-loop-term : goal.invariant-loop-term
invariant-loop-term l =
    (l.lowered_by +ℤ lowered l.negate (drop l.term-index l.term-items) ≡ lowered l.negate l.term-items)
    × ((v : ℕ) → v ≤ MOST_VARIABLES
    → net_in l.table v +ℤ net l.negate (drop l.term-index l.term-items) v ≡ net l.negate l.term-items v)
