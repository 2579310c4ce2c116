-- The weight goes to its variable's place, with the literal's sign.
use Rattle.std.proofs.Common.{◌≡◌, ◌*◌, ◌≤◌, true, false, pos, nat_abs, ◌∙◌, arith, w16, SFits, rules}
use lib.Signed.{lt_z}
use Rattle.std.proofs.lemmas.Int.{ints, to_z-of_z}
use Rattle.pb.specs.declared.term.TheConstants.{MOST_WEIGHT}
use Rattle.pb.specs.declared.variables.TheConstants.{MOST_VARIABLES}
use Rattle.pb.specs.declared.working.TheConstants.{MOST_WEIGHT_SUM}
use Rattle.pb.specs.Normal.{weight_under}
use Rattle.pb.proofs.Ranges.{under_small}
use Rattle.lines.specs.Nets.{net_in}
use Rattle.lines.proofs.NetWeights.{net_in-set, signed_by-negative, signed_by-positive}
use Rattle.lines.proofs.nets.add_term.Goals as goal

pub returns-then-term-lt0-clause-table : goal.returns-then-term-lt0-clause-table
returns-then-term-lt0-clause-table c =
    let table = c.args.table.now in
    let l = c.args.term.literal in
    let w = weight_under c.args.negate c.args.term in
    let place = c.from-variable.result in
    let f : SFits w16 l = search rules in
    let below : lt_z l (pos 0) ≡ true = simp to_z-of_z at c.if-term-lt0.true in
    let sign = signed_by-negative l w below in
    let i : place ≡ nat_abs l = c.from-variable.ensures ∙ (simp to_z-of_z at c.unsigned_abs.ensures.value) in
    let small : nat_abs (net_in table place) ≤ 2 * MOST_WEIGHT_SUM = c.requires.within place (omega arith) in
    let light : nat_abs w ≤ MOST_WEIGHT = under_small MOST_VARIABLES c.args.negate c.args.term c.requires.in_range in
    let weight : c.weight_of-weight.result ≡ w = c.weight_of-weight.ensures in
    net_in-set table l w _ place i (omega arith) (omega (arith, ints))

pub returns-clause-table : goal.returns-clause-table
returns-clause-table c =
    let table = c.args.table.now in
    let l = c.args.term.literal in
    let w = weight_under c.args.negate c.args.term in
    let place = c.from-variable.result in
    let f : SFits w16 l = search rules in
    let above : lt_z l (pos 0) ≡ false = simp to_z-of_z at c.if-term-lt0.false in
    let sign = signed_by-positive l w above in
    let i : place ≡ nat_abs l = c.from-variable.ensures ∙ (simp to_z-of_z at c.unsigned_abs.ensures.value) in
    let small : nat_abs (net_in table place) ≤ 2 * MOST_WEIGHT_SUM = c.requires.within place (omega arith) in
    let light : nat_abs w ≤ MOST_WEIGHT = under_small MOST_VARIABLES c.args.negate c.args.term c.requires.in_range in
    let weight : c.weight_of-weight.result ≡ w = c.weight_of-weight.ensures in
    net_in-set table l w _ place i (omega arith) (omega (arith, ints))
