-- A turn takes one term from those left to the sums.
use Rattle.std.proofs.Common.{◌≡◌, ℕ, ◌+◌, ◌<◌, get_or, drop, length, replicate, pos, ◌+ℤ◌, arith}
use Rattle.std.specs.List.{AllByRecursion}
use Rattle.std.proofs.ByRecursion.{All-get_or}
use Rattle.std.proofs.lemmas.List.{get_or-replicate, at_drop_more}
use Rattle.std.proofs.lemmas.Int.{ints}
use Rattle.pb.specs.declared.term.Term.{Term}
use Rattle.pb.specs.declared.variables.TheConstants.{MOST_VARIABLES}
use Rattle.pb.specs.Checks.{IsTermInRange}
use Rattle.pb.specs.Normal.{weight_under, share, net, lowering, lowered}
use Rattle.pb.proofs.Ranges.{terms_in_range, under_small, lowering_small}
use Rattle.lines.specs.declared.nets.TheConstants.{PLACES}
use Rattle.lines.specs.declared.checked_line.CheckedLine.{CheckedLine}
use Rattle.lines.specs.CheckedLine.{checked_variables, checked_line}
use Rattle.lines.specs.Nets.{net_in}
use Rattle.lines.proofs.NetWeights.{net_so_far, lowered_so_far}
use Rattle.lines.proofs.nets.Nets.new.Goals as goal

-- the terms of a checked line, and the one at a place
all_in_range : (l : CheckedLine) → AllByRecursion (IsTermInRange MOST_VARIABLES) (checked_line l).terms
all_in_range l =
    terms_in_range (checked_variables l) MOST_VARIABLES 1 (checked_line l).terms l.variables.few l.passes.fine

abbrev term_at : CheckedLine → ℕ → Term
term_at l i = get_or (checked_line l).terms i (record { weight = pos 0; literal = pos 0 })

one_in_range : (l : CheckedLine) (i : ℕ) → i < length (checked_line l).terms
    → IsTermInRange MOST_VARIABLES (term_at l i)
one_in_range l i h = All-get_or (IsTermInRange MOST_VARIABLES) (checked_line l).terms i _ h (all_in_range l)

pub loop-term-init : goal.loop-term-init
loop-term-init c =
    let zero_at : (v : ℕ) → v < PLACES → net_in (replicate PLACES (pos 0)) v ≡ pos 0 =
    λ v h. get_or-replicate PLACES v (pos 0) (pos 0) h in
    (omega (arith, ints), λ v h. let z = zero_at v (omega arith) in omega (arith, ints))

pub add_term-lowered_by-requires : goal.add_term-lowered_by-requires
add_term-lowered_by-requires c =
    let l = c.args.line in
    let b = c.is_negated-negate.result in
    let i = c.loop-term.term-index in
    let few = l.passes.few in
    record {
      in_range = one_in_range l i c.loop-term-test.true;
      within = λ v h. net_so_far b (checked_line l).terms i v _ few (all_in_range l) (c.loop-term.invariant.1 v h);
    }

pub overflow_add-lowered_by : goal.overflow_add-lowered_by
overflow_add-lowered_by c =
    let l = c.args.line in
    let b = c.is_negated-negate.result in
    let i = c.loop-term.term-index in
    let t = term_at l i in
    let in_range = one_in_range l i c.loop-term-test.true in
    let one = lowering_small t.literal (weight_under b t) (under_small MOST_VARIABLES b t in_range) in
    let far = lowered_so_far b (checked_line l).terms i _ l.passes.few (all_in_range l) c.loop-term.invariant.0 in
    let by = c.add_term-lowered_by.ensures.sum in
    omega (arith, ints)

pub loop-term-preserved : goal.loop-term-preserved
loop-term-preserved c =
    let l = c.args.line in
    let ts = (checked_line l).terms in
    let b = c.is_negated-negate.result in
    let i = c.loop-term.term-index in
    let t = term_at l i in
    let rest = drop (i + 1) ts in
    let in_range = one_in_range l i c.loop-term-test.true in
    let one = lowering_small t.literal (weight_under b t) (under_small MOST_VARIABLES b t in_range) in
    let far = lowered_so_far b ts i _ l.passes.few (all_in_range l) c.loop-term.invariant.0 in
    let by = c.add_term-lowered_by.ensures.sum in
    let more : lowered b (drop i ts) ≡ lowering t.literal (weight_under b t) +ℤ lowered b rest =
    at_drop_more (lowered b) ts i _ c.loop-term-test.true in (
      omega (arith, ints, c.loop-term.invariant.0),
      λ v h.
          let step : net b (drop i ts) v ≡ share v t.literal (weight_under b t) +ℤ net b rest v =
          at_drop_more (λ us. net b us v) ts i _ c.loop-term-test.true in
          let before = c.loop-term.invariant.1 v h in
          let after = c.add_term-lowered_by.ensures.table v in
          omega (arith, ints),
    )
