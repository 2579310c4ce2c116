-- The terms kept so far, with those to be kept of the terms left, are all those to be kept; from there on nothing
-- moved.
use Rattle.lines.proofs.KeptTerms.{KeptSoFar}
use Rattle.lines.proofs.reducing.keep_others.Given as goal

abbrev pub invariant-loop-i : goal.invariant-loop-i
invariant-loop-i l = KeptSoFar l.literal l.initial.terms l.terms l.count l.i
