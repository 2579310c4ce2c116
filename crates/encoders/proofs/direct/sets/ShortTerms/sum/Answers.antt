-- The library's sum, taken weight by weight.
use Rattle.std.proofs.Common.{rules, ◌≡◌, ◌∙◌, sum_by, sym, refl}
use Rattle.std.proofs.lemmas.List.Recursion.{is_sum_by}
use Rattle.pb.specs.declared.working.WorkingTerm.{WorkingTerm}
use Rattle.pb.specs.Sums.{weight_sum}
use Rattle.encoders.proofs.direct.sets.ShortTerms.sum.Goals as goal

pub returns : goal.returns
returns c =
    let e : c.sum.result ≡ sum_by (λ (t : WorkingTerm). t.weight) c.args.self.terms.now = search rules in
    e ∙ sym (is_sum_by weight_sum (λ (t : WorkingTerm). t.weight) refl (λ _ _. refl) c.args.self.terms.now)
