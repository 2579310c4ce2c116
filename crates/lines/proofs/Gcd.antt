-- The greatest common divisor by steps; and where it is 0, every weight is.
use Rattle.std.proofs.Common.{◌≡◌, ℕ, ◌<◌, List, [], ◌∷◌, refl, subst, arith}
use Rattle.std.proofs.Math.Nat.{eq-zero_of_zero-dvd}
use Rattle.pb.specs.declared.working.WorkingTerm.{WorkingTerm}
use Rattle.pb.specs.Sums.{weight_sum}
use Rattle.pb.specs.Tightened.{gcd_steps, divisor_of, saturated}
use Rattle.pb.proofs.Divisors.{DividesAll, divisor_divides}

-- with some number of steps, enough for the second, the divisor is g
abbrev pub HasDivisor : ℕ → ℕ → ℕ → Type 0
HasDivisor x y g = (n : ℕ) × (y < n) × (gcd_steps n x y ≡ g)

pub zero_divides : (ts : List WorkingTerm) → divisor_of ts ≡ 0 → DividesAll 0 ts
zero_divides ts e = subst (λ d. DividesAll d ts) e (divisor_divides ts)

-- so that the weights sum to 0
sum_of_zeros : (ts : List WorkingTerm) → DividesAll 0 ts → weight_sum ts ≡ 0
sum_of_zeros [] h = refl
sum_of_zeros (t ∷ ts) h =
    let here = eq-zero_of_zero-dvd h.0 in
    let rest = sum_of_zeros ts h.1 in
    omega arith

pub divisor_zero : (ts : List WorkingTerm) → divisor_of ts ≡ 0 → weight_sum ts ≡ 0
divisor_zero ts e = sum_of_zeros ts (zero_divides ts e)

-- weights that are cut to a positive bound sum to 0 only if they did before
pub saturated_zero : (k : ℕ) (ts : List WorkingTerm) → 0 < k → weight_sum (saturated k ts) ≡ 0 → weight_sum ts ≡ 0
saturated_zero k [] h e = refl
saturated_zero k (t ∷ ts) h e =
    let s : weight_sum (saturated k ts) ≡ 0 = omega arith in
    let r = saturated_zero k ts h s in
    omega arith
