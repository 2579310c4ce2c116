-- A term without fault leaves the first fault to those after it.
use Rattle.std.proofs.Common.{◌≡◌, true, get_or, pos, nat_abs, sym, ◌∙◌, arith, w16, w32, SFits, rules}
use Rattle.std.proofs.lemmas.Int.{to_z-of_z}
use Rattle.std.proofs.lemmas.Bool.Decides.{nat_tests}
use Rattle.pb.specs.declared.term.Term.{Term}
use Rattle.pb.specs.Checks.{literal_named, weight_small}
use Rattle.lines.proofs.FirstFault.{fault_further_on}
use Rattle.lines.proofs.check.check_terms.Goals as goal

pub loop-i-preserved : goal.loop-i-preserved
loop-i-preserved c =
    let ts = c.args.terms.now in
    let t : Term = get_or ts c.loop-i.i (record { weight = pos 0; literal = pos 0 }) in
    let f : SFits w16 t.literal = search rules in
    let v : c.unsigned_abs-variable.result ≡ nat_abs t.literal =
    simp to_z-of_z at c.unsigned_abs-variable.ensures.value in
    let named : literal_named c.count-most.result t.literal ≡ true = grind (arith, nat_tests) in
    let g : SFits w32 t.weight = search rules in
    let w : c.unsigned_abs.result ≡ nat_abs t.weight = simp to_z-of_z at c.unsigned_abs.ensures.value in
    let small : weight_small t.weight ≡ true = grind (arith, nat_tests) in
    sym (fault_further_on c.count-most.result c.loop-i.i ts _ c.loop-i-test.true named small) ∙ c.loop-i.invariant
