-- The terms so far have no fault: the first fault of all the terms is the first of what is left.
use Rattle.std.proofs.Common.{◌≡◌, ◌+◌, drop}
use Rattle.pb.specs.Checks.{terms_fault}
use Rattle.lines.proofs.check.check_terms.Given as goal

abbrev pub invariant-loop-i : goal.invariant-loop-i
invariant-loop-i l = terms_fault l.most (l.i + 1) (drop l.i l.terms) ≡ terms_fault l.most 1 l.terms
