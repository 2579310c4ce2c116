-- A place beyond the mask's bits has none.
use Rattle.std.proofs.Common.{◌≡◌, ◌/◌, ◌^◌, ◌≤◌, ap, arith}
use Rattle.std.proofs.Math.Nat.{div-eq_of_lt}
use Rattle.std.proofs.Math.Pow.{pow_mono}
use Rattle.std.proofs.lemmas.Bool.Decides.{nat_tests}
use Rattle.encode.specs.Direct.{has_first}
use Rattle.encoders.proofs.direct.sets.is_in_set.Goals as goal

pub returns-else-place-lt32 : goal.returns-else-place-lt32
returns-else-place-lt32 c =
    let high : 2 ^ 32 ≤ 2 ^ c.args.place = pow_mono c.if-place-lt32.false in
    let none : c.args.mask / 2 ^ c.args.place ≡ 0 = div-eq_of_lt (omega arith) in
    rw (ap has_first none) (grind (arith, nat_tests))
