-- The numbers left have the divisor of those given, and the second falls.
use Rattle.pb.specs.Tightened.{gcd}
use Rattle.lines.proofs.Gcd.{HasDivisor}
use Rattle.lines.proofs.divisors.greatest.Given as goal

abbrev pub invariant-loop-y : goal.invariant-loop-y
invariant-loop-y l = HasDivisor l.x l.y (gcd l.a l.b)

abbrev pub decreases-loop-y : goal.decreases-loop-y
decreases-loop-y l = l.y
