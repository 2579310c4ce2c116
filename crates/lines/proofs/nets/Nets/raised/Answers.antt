-- The sum over the table's part is what the variables raise.
use Rattle.std.proofs.Common.{rules, ◌≡◌, ℕ, ◌+◌, ◌-◌, ◌<◌, ◌≤◌, ◌^◌, length, take, drop, sum_by, ◌∙◌, arith}
use Rattle.pb.specs.declared.working.TheConstants.{MOST_WEIGHT_SUM}
use Rattle.pb.specs.Normal.{raise_of, raised}
use Rattle.lines.specs.declared.nets.Nets.{Nets}
use Rattle.lines.specs.declared.nets.TheConstants.{PLACES}
use Rattle.lines.specs.CheckedLine.{checked_variables, checked_line}
use Rattle.lines.specs.Nets.{net_in}
use Rattle.lines.proofs.FormFromNets.{raised_from_light}
use Rattle.lines.proofs.Gathering.{raised_sum}
use Rattle.lines.proofs.nets.Nets.raised.Goals as goal

-- what the entries from 1 to k of a table raise
abbrev raised_up_to : Nets → ℕ → ℕ
raised_up_to nets k = sum_by raise_of (take (k + 1 - 1) (drop 1 nets.table))

part : (nets : Nets) (k : ℕ) → k ≡ checked_variables nets.line → length nets.table ≡ PLACES
    → raised_up_to nets k ≡ raised (checked_variables nets.line) 1 (net_in nets.table)
part nets k e long =
    let few = nets.line.variables.few in
    let same : k + 1 - 1 ≡ checked_variables nets.line = omega arith in
    rw same (raised_sum (checked_variables nets.line) 1 nets.table (omega arith))

light : (nets : Nets) → raised (checked_variables nets.line) 1 (net_in nets.table) ≤ MOST_WEIGHT_SUM
light nets =
    let l = nets.line in
    raised_from_light (checked_variables l) (checked_line l) nets.table l.variables.few nets.tabled l.passes

pub sum-requires-clause-fits : goal.sum-requires-clause-fits
sum-requires-clause-fits c =
    let nets = c.args.self.now in
    let s = part nets c.from-last.result (c.from-last.ensures ∙ c.count.ensures) (search rules) in
    let most = light nets in
    let h : raised_up_to nets c.from-last.result < 2 ^ 32 = omega arith in
    search rules

pub returns-clause-sum : goal.returns-clause-sum
returns-clause-sum c =
    let nets = c.args.self.now in
    let s = part nets c.from-last.result (c.from-last.ensures ∙ c.count.ensures) (search rules) in
    let e : c.sum.result ≡ raised_up_to nets c.from-last.result = search rules in
    e ∙ s

pub returns-clause-fits : goal.returns-clause-fits
returns-clause-fits c =
    let nets = c.args.self.now in
    let s = part nets c.from-last.result (c.from-last.ensures ∙ c.count.ensures) (search rules) in
    let e : c.sum.result ≡ raised_up_to nets c.from-last.result = search rules in
    let most = light nets in
    omega arith
