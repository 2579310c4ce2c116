-- The greatest common divisor of the weights: it divides each, every common divisor divides it, and once the weights
-- are divided by it only 1 is left. Division, rounded up, in terms of products.
use Prim.Native.Nat.{◌∣◌}
use Rattle.std.proofs.Common.{◌≡◌, ℕ, zero, suc, ◌+◌, ◌*◌, ◌%◌, ◌<◌, ◌≤◌, List, [], ◌∷◌, length, refl, subst, arith}
use Rattle.std.proofs.Common.{mod-lt, mul-le-mul_left, mul-le-mul_right, le_of_mul-le-mul_right}
use Rattle.std.proofs.Math.Nat.{lt_of_mul-lt-mul_right, pos_of_dvd_of_pos, div-mul_cancel, mul-dvd-mul_right}
use Rattle.std.proofs.Math.Nat.{dvd_of_mul-dvd-mul_right, eq-one_of_dvd-one}
use Rattle.std.proofs.lemmas.Grind.{div_ceil_times}
use Rattle.std.proofs.lemmas.Nat.Gcd.{dvd-zero, dvd_trans, IsGcd-from_zero, IsGcd-from_mod}
use Rattle.std.specs.Int.{IsGcd, div_ceil}
use Rattle.std.specs.List.{AllByRecursion}
use Rattle.std.proofs.ByRecursion.{All-weaker}
use Rattle.pb.specs.declared.working.WorkingTerm.{WorkingTerm}
use Rattle.pb.specs.Laws.{DivisorIsGreatest}
use Rattle.pb.specs.Tightened.{gcd_steps, gcd, divisor_of, divided}

-- division, rounded up, is the least number whose product with the divisor reaches k
pub div_ceil-reaches : (k d x : ℕ) → 0 < d → div_ceil k d ≤ x → k ≤ x * d
div_ceil-reaches k d x h g =
    let reached = (div_ceil_times k d h).0 in
    let more : div_ceil k d * d ≤ x * d = mul-le-mul_right d g in
    omega arith

pub div_ceil-least : (k d x : ℕ) → 0 < d → k ≤ x * d → div_ceil k d ≤ x
div_ceil-least k d x h g =
    let below = (div_ceil_times k d h).1 in
    let next : suc x * d ≡ x * d + d = omega arith in
    let less : div_ceil k d < suc x = lt_of_mul-lt-mul_right d (omega arith) in
    omega arith

pub div_ceil-above : (k d x : ℕ) → 0 < d → x * d ≤ k → x ≤ div_ceil k d
div_ceil-above k d x h g =
    let reached = (div_ceil_times k d h).0 in
    let less : x * d ≤ div_ceil k d * d = omega arith in
    le_of_mul-le-mul_right less h

pub div_ceil-positive : (k d : ℕ) → 0 < k → 0 < d → 0 < div_ceil k d
div_ceil-positive k d l h =
    let reached = (div_ceil_times k d h).0 in
    lt_of_mul-lt-mul_right d (omega arith)

pub div_ceil-falls : (k d : ℕ) → 0 < d → div_ceil k d ≤ k
div_ceil-falls k d h = let grown : k * 1 ≤ k * d = mul-le-mul_left k h in div_ceil-least k d k h (omega arith)

-- Euclid's steps, of which there are more than the second number
steps_are : (k a b : ℕ) → b < k → IsGcd a b (gcd_steps k a b)
steps_are zero a b h = absurd (omega arith)
steps_are (suc k) a zero h = IsGcd-from_zero a zero refl
steps_are (suc k) a (suc b) h =
    let less : a % suc b < suc b = mod-lt a (omega arith) in
    IsGcd-from_mod a (suc b) _ (steps_are k (suc b) (a % suc b) (omega arith))

pub gcd_is : (a b : ℕ) → IsGcd a b (gcd a b)
gcd_is a b = steps_are (suc b) a b (omega arith)

-- a divisor of each weight, and weights that are all positive
abbrev pub DividesAll : ℕ → List WorkingTerm → Type 0
DividesAll d ts = AllByRecursion (λ t. d ∣ t.weight) ts

abbrev pub AllPositive : List WorkingTerm → Type 0
AllPositive ts = AllByRecursion (λ t. 0 < t.weight) ts

pub divisor_divides : (ts : List WorkingTerm) → DividesAll (divisor_of ts) ts
divisor_divides [] = tt
divisor_divides (t ∷ ts) =
    let g = gcd_is t.weight (divisor_of ts) in
    (g.0, All-weaker _ _ (λ u p. dvd_trans _ g.1 p) ts (divisor_divides ts))

pub divisor_greatest : (e : ℕ) (ts : List WorkingTerm) → DividesAll e ts → e ∣ divisor_of ts
divisor_greatest e [] h = dvd-zero e
divisor_greatest e (t ∷ ts) h = (gcd_is t.weight (divisor_of ts)).2 e h.0 (divisor_greatest e ts h.1)

pub divisor_is_greatest : DivisorIsGreatest
divisor_is_greatest ts = record { divides = divisor_divides ts; greatest = λ e h. divisor_greatest e ts h }

pub divisor_positive : (ts : List WorkingTerm) → AllPositive ts → 0 < length ts → 0 < divisor_of ts
divisor_positive [] h g = absurd (omega arith)
divisor_positive (t ∷ ts) h g = pos_of_dvd_of_pos (divisor_divides (t ∷ ts)).0 h.0

-- a common divisor of the quotients by d, times d, is one of the weights
divides_times : (d e : ℕ) (ts : List WorkingTerm)
    → DividesAll d ts → DividesAll e (divided d ts) → DividesAll (e * d) ts
divides_times d e [] h g = tt
divides_times d e (t ∷ ts) h g =
    let here = subst (λ x. e * d ∣ x) (div-mul_cancel d h.0) (mul-dvd-mul_right e g.0 d) in
    (here, divides_times d e ts h.1 g.1)

pub divisor_divided : (ts : List WorkingTerm) → 0 < divisor_of ts → divisor_of (divided (divisor_of ts) ts) ≡ 1
divisor_divided ts h =
    let d = divisor_of ts in
    let e = divisor_of (divided d ts) in
    let common = divides_times d e ts (divisor_divides ts) (divisor_divides (divided d ts)) in
    let p : e * d ∣ d = divisor_greatest (e * d) ts common in
    let one_times : d ≡ 1 * d = omega arith in
    eq-one_of_dvd-one (dvd_of_mul-dvd-mul_right e h (subst (λ x. e * d ∣ x) one_times p))
