-- The four clauses one after another.
use Rattle.std.proofs.Common.{◌≡◌, ℤ, pos, ◌-ℤ◌, neg_ℤ, ap, ◌∙◌, arith, w16, w32, SFits, to_z, of_z, rules}
use Rattle.std.proofs.lemmas.Int.{ints}
use Rattle.encode.specs.Order.{entry, cell_clauses}
use Rattle.encode.specs.Parts.{opposite}
use Rattle.encoders.proofs.Entries.{four_clauses, cell_of_parts}
use Rattle.cnf.proofs.PartlyGiven.{PartlyGiven, partly_start, partly_same, partly_on, partly_exits, partly_last}
use Rattle.encoders.proofs.order.matrix.Matrix.give_cell.Given.{Over}
use Rattle.encoders.proofs.order.matrix.Matrix.give_cell.Goals as goal
use Rattle.encoders.proofs.order.matrix.Matrix.give_cell.Goals.{After-from-literal}

-- a number as the code has it
abbrev coded : ℤ → ℤ
coded z = to_z w32 (of_z w32 z)

start : (g : Over) (c : goal.After-from-literal g)
    → PartlyGiven g.S.Sheet c.args.sheet.now c.args.sheet.now
    (cell_clauses c.args.self.now.first c.args.self.now.columns c.args.i c.args.j c.args.term)
    (four_clauses c.entry-here.result c.entry-above.result c.entry-before.result
    (coded c.from-literal.result) (coded (pos 0 -ℤ coded c.from-literal.result)))
start g c =
    let m = c.args.self.now in
    let i = c.args.i in
    let t = c.args.term in
    let back = c.saturating_sub.ensures in
    let before = c.entry-before.ensures in
    let fits : SFits w16 t.literal = search rules in
    let it : coded c.from-literal.result ≡ t.literal = omega (arith, ints) in
    let its_complement : coded (pos 0 -ℤ coded c.from-literal.result) ≡ neg_ℤ t.literal = omega (arith, ints) in
    let four =
    cell_of_parts m.first m.columns i c.args.j t _ _ _ _ _
    (c.entry-here.ensures.holds, c.entry-here.ensures.fails)
    (c.entry-above.ensures.holds, c.entry-above.ensures.fails) (
      before.holds ∙ ap (entry m.first m.columns i) back,
      before.fails ∙ ap (λ n. opposite (entry m.first m.columns i n)) back,
    )
    it its_complement
    in
    partly_same four (partly_start c.args.sheet.now _)

pub returns-in_err-give_parts : goal.returns-in_err-give_parts
returns-in_err-give_parts g c =
    let first = start g (goal.at.returns-in_err-give_parts g c).After-from-literal in
    partly_exits _ _ _ first c.in_err-give_parts.ensures c.from_residual.ensures.1

pub returns-in_err-give_parts-2 : goal.returns-in_err-give_parts-2
returns-in_err-give_parts-2 g c =
    let first = start g (goal.at.returns-in_err-give_parts-2 g c).After-from-literal in
    let second = partly_on _ first c.in_ok-give_parts.ensures in
    partly_exits _ _ _ second c.in_err-give_parts-2.ensures c.from_residual-in_err-give_parts-2.ensures.1

pub returns-in_err-give_parts-3 : goal.returns-in_err-give_parts-3
returns-in_err-give_parts-3 g c =
    let first = start g (goal.at.returns-in_err-give_parts-3 g c).After-from-literal in
    let second = partly_on _ first c.in_ok-give_parts.ensures in
    let third = partly_on _ second c.in_ok-give_parts-2.ensures in
    partly_exits _ _ _ third c.in_err-give_parts-3.ensures c.from_residual-in_err-give_parts-3.ensures.1

pub returns : goal.returns
returns g c =
    let first = start g (goal.at.returns g c).After-from-literal in
    let second = partly_on _ first c.in_ok-give_parts.ensures in
    let third = partly_on _ second c.in_ok-give_parts-2.ensures in
    let fourth = partly_on _ third c.in_ok-give_parts-3.ensures in
    partly_last _ fourth c.give_parts-4.ensures
