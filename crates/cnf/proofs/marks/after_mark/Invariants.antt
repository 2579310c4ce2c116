-- The places passed and those to the end of the parts left are those to the end of all.
use Rattle.std.proofs.Common.{◌≡◌, ◌+◌, drop}
use Rattle.cnf.specs.Marks.{place_after_mark}
use Rattle.cnf.proofs.marks.after_mark.Given as goal

abbrev pub invariant-loop-i : goal.invariant-loop-i
invariant-loop-i g l =
    l.i + place_after_mark (g.E.Mark.ends l.mark) l.left (drop l.i l.all)
    ≡ place_after_mark (g.E.Mark.ends l.mark) l.initial.left l.all
