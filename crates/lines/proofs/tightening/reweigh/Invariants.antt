-- The terms up to here are changed, and the others are as they were.
use Rattle.std.proofs.Common.{◌≡◌, ℕ, ◌++◌, map, take, drop}
use Rattle.lines.specs.Tables.{reweighed}
use Rattle.lines.proofs.tightening.reweigh.Given as goal

abbrev pub invariant-loop-t : goal.invariant-loop-t
invariant-loop-t g l =
    (f : ℕ → ℕ) → ((x y : ℕ) → goal.F-post g l.change x y → y ≡ f x)
    → l.terms ≡ map (reweighed f) (take l.t-index l.initial.terms) ++ drop l.t-index l.initial.terms
