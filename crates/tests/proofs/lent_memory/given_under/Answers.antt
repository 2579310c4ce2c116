-- What the ceiling leaves of the sheet below is what its lender has when the ceiling is gone.
use Rattle.std.proofs.Common.{◌≡◌, ℕ, false, is_ok, OnErr, Ok, Err, Result, sym, ◌∙◌, arith, rules}
use Rattle.tests.proofs.lent_memory.given_under.Goals as goal

from_err : {X E : Type 0} (r : Result X E) (P : Type 0) → is_ok r ≡ false → OnErr r P → P
from_err (Ok x) P h p = absurd (let z : ◌≡◌ {A = ℕ} 0 1 = cc in omega arith)
from_err (Err e) P h p = p

pub returns : goal.returns
returns g c h =
    let lent = c.give.ensures.same ∙ c.new-sheet.ensures.same in
    let left = from_err c.give.result _ (search rules) c.give.ensures.refused in
    rw (c.below-1.given.1 (sym lent), ← c.new-sheet.ensures.below) left.below
