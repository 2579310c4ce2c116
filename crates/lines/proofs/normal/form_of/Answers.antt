-- The table holds the net weights, so what is raised, gathered and lowered is what the normal form says.
use Rattle.std.proofs.Common.{refl, ap, ◌∙◌, length, arith, w32, SFits, rules}
use Rattle.std.proofs.lemmas.Int.{ints, to_z-of_z}
use Rattle.pb.specs.Normal.{gathered}
use Rattle.lines.specs.CheckedLine.{checked_variables, checked_line}
use Rattle.lines.specs.Nets.{net_in}
use Rattle.lines.proofs.FormFromNets.{gathered_from_few, normal_met, normal_unmet, formed, parts_small, new_bound}
use Rattle.lines.proofs.FormFromNets.{tabled_from}
use Rattle.lines.proofs.FormFromNets.{by_bits}
use Rattle.lines.proofs.normal.form_of.Goals as goal

pub overflow_sub-bound : goal.overflow_sub-bound
overflow_sub-bound c =
    let nets = c.new-nets.result in
    let f : SFits w32 c.args.line.line.bound = search rules in
    let from = simp to_z-of_z at c.bound_from.ensures in
    let small = parts_small nets _ _ refl c.new-nets.ensures.line _ _ from c.lowered.ensures in
    omega (arith, ints)

pub overflow_add-bound : goal.overflow_add-bound
overflow_add-bound c =
    let nets = c.new-nets.result in
    let f : SFits w32 c.args.line.line.bound = search rules in
    let from = simp to_z-of_z at c.bound_from.ensures in
    let small = parts_small nets _ _ refl c.new-nets.ensures.line _ _ from c.lowered.ensures in
    let few = c.raised.ensures.fits in
    omega (arith, ints)

pub returns-in_default : goal.returns-in_default
returns-in_default c =
    let f : SFits w32 c.args.line.line.bound = search rules in
    let nets = c.new-nets.result in
    let n = checked_variables c.args.line in
    let l = checked_line c.args.line in
    let same = c.new-nets.ensures.line in
    let known = c.args.line.variables.few in
    let from = simp to_z-of_z at c.bound_from.ensures in
    let new = new_bound nets n l c.new-nets.ensures.variables same c.bound_from.result c.lowered.result from
    c.lowered.ensures c.raised.result c.raised.ensures.sum c.raised.ensures.fits in
    let z = by_bits c.bound_from.result c.lowered.result c.raised.result in
    let tabled = tabled_from nets l same in
    let form = normal_unmet n l nets.table known tabled _ z c.from-sense.ensures new c.in_default.ensures in
    formed n l _ _ _ c.args.line.passes c.requires form (omega arith) refl

pub returns : goal.returns
returns c =
    let f : SFits w32 c.args.line.line.bound = search rules in
    let nets = c.new-nets.result in
    let n = checked_variables c.args.line in
    let l = checked_line c.args.line in
    let same = c.new-nets.ensures.line in
    let m = c.new-nets.ensures.variables in
    let known = c.args.line.variables.few in
    let from = simp to_z-of_z at c.bound_from.ensures in
    let new = new_bound nets n l m same c.bound_from.result c.lowered.result from
    c.lowered.ensures c.raised.result c.raised.ensures.sum c.raised.ensures.fits in
    let z = by_bits c.bound_from.result c.lowered.result c.raised.result in
    let tabled = tabled_from nets l same in
    let few = gathered_from_few n l nets.table known tabled in
    let own = ap (λ k. gathered k 1 (net_in nets.table)) m in
    let terms = c.gather-count.ensures.terms ∙ own in
    let form = normal_met n l nets.table known tabled _ z c.from-sense.ensures new _ c.in-Some.ensures _ terms in
    let number = c.gather-count.ensures.number ∙ ap length own in
    formed n l _ _ _ c.args.line.passes (omega (arith, c.requires)) form (omega arith) c.gather-count.ensures.rest
