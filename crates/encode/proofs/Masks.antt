-- Sets of terms as masks: a mask is put together from whether the first term is in the set and a mask of the others.
use Rattle.std.proofs.Common.{◌≡◌, ℕ, suc, ◌+◌, ◌*◌, ◌/◌, ◌^◌, ◌<◌, Bool, true, false, cond, ap, ◌∙◌, pow-suc, arith}
use Rattle.std.proofs.lemmas.Bool.{eq-eqb, ne_eqb}
use Rattle.encode.specs.Direct.{has_first}

abbrev pub put : Bool → ℕ → ℕ
put b m = cond b 1 0 + 2 * m

put_first : (b : Bool) (m : ℕ) → has_first (put b m) ≡ b
put_first true m = eq-eqb _ 1 (omega arith)
put_first false m = ne_eqb _ 1 (omega arith)

put_rest : (b : Bool) (m : ℕ) → put b m / 2 ≡ m
put_rest true m = omega arith
put_rest false m = omega arith

-- so what is made of the first bit and the rest of a mask is made of what it was put together from
pub at_put : {X : Type 0} (F : Bool → ℕ → X) (b : Bool) (m : ℕ) → F (has_first (put b m)) (put b m / 2) ≡ F b m
at_put F b m = ap (λ c. F c (put b m / 2)) (put_first b m) ∙ ap (F b) (put_rest b m)

pub put_below : (b : Bool) (m k : ℕ) → m < 2 ^ k → put b m < 2 ^ suc k
put_below true m k h = rw (pow-suc 2 k) (omega arith)
put_below false m k h = rw (pow-suc 2 k) (omega arith)
