-- Tightening a working line: smaller weights and a smaller bound that the same assignments meet.
use Rattle.std.specs.Int.{div_ceil}
use Rattle.std.specs.Prelude.{ℕ, zero, suc, ◌/◌, ◌%◌, min, cond, ◌&&◌, List, [], ◌∷◌, length, ◌==◌, nat_lt}
use Rattle.pb.specs.declared.working.Sense.{Sense}
use Rattle.pb.specs.declared.working.Sense.TheVariants.{AtLeast, Exactly}
use Rattle.pb.specs.declared.working.WorkingTerm.{WorkingTerm}
use Rattle.pb.specs.Lines.{Line, Working, empty_line, impossible_line}
use Rattle.pb.specs.Normal.{normal}
use Rattle.pb.specs.Sums.{weight_sum}

-- the greatest common divisor, by division with remainder as long as one is left; the second number falls with each
-- step, so that its successor is steps enough
abbrev pub gcd_steps : ℕ → ℕ → ℕ → ℕ
gcd_steps zero a b = a
gcd_steps (suc k) a zero = a
gcd_steps (suc k) a (suc b) = gcd_steps k (suc b) (a % suc b)

abbrev pub gcd : ℕ → ℕ → ℕ
gcd a b = gcd_steps (suc b) a b

-- the greatest common divisor of the weights, 0 where there are no terms
abbrev pub divisor_of : List WorkingTerm → ℕ
divisor_of [] = 0
divisor_of (t ∷ ts) = gcd t.weight (divisor_of ts)

-- a weight above the bound counts no more than the bound
abbrev pub saturated : ℕ → List WorkingTerm → List WorkingTerm
saturated k [] = []
saturated k (t ∷ ts) = record { weight = min t.weight k; literal = t.literal } ∷ saturated k ts

abbrev pub divided : ℕ → List WorkingTerm → List WorkingTerm
divided d [] = []
divided d (t ∷ ts) = record { weight = t.weight / d; literal = t.literal } ∷ divided d ts

-- "at least": each weight above the bound becomes the bound; then weights and bound are divided, the bound rounded up
abbrev pub divided_least : ℕ → List WorkingTerm → Working
divided_least k ts =
    record { sense = AtLeast; bound = div_ceil k (divisor_of ts); terms = divided (divisor_of ts) ts }

abbrev pub tightened_least : ℕ → List WorkingTerm → Working
tightened_least k ts =
    cond (k == 0) empty_line
    (cond (nat_lt (weight_sum ts) k) impossible_line
    (divided_least k (saturated k ts)))

-- "exactly": weights and bound are divided alone, and where the divisor does not divide the bound no total is it
abbrev pub divided_exactly : ℕ → List WorkingTerm → Working
divided_exactly k ts =
    cond (k % divisor_of ts == 0)
    (record { sense = Exactly; bound = k / divisor_of ts; terms = divided (divisor_of ts) ts })
    impossible_line

abbrev pub tightened_exactly : ℕ → List WorkingTerm → Working
tightened_exactly k ts =
    cond (k == 0 && length ts == 0) empty_line
    (cond (nat_lt (weight_sum ts) k) impossible_line
    (divided_exactly k ts))

abbrev pub tightened_by : Sense → ℕ → List WorkingTerm → Working
tightened_by AtLeast k ts = tightened_least k ts
tightened_by Exactly k ts = tightened_exactly k ts

abbrev pub tightened : Working → Working
tightened w = tightened_by w.sense w.bound w.terms

-- the form that a line of a job of n variables is written in: its normal form, tightened
abbrev pub working_form : ℕ → Line → Working
working_form n l = tightened (normal n l)
