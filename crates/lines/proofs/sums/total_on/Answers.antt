-- The chain sums the weights of the terms on the literal.
use Rattle.std.proofs.Common.{◌≡◌, sum_by, ap, ◌∙◌, w32, to_z, of_z, rules, tests}
use Rattle.std.proofs.lemmas.Int.{to_z-of_z}
use Rattle.std.proofs.lemmas.Iterator.{YieldsList-from_slice, YieldsList-from_map}
use Rattle.std.proofs.lemmas.Iterator.Consumers.{YieldsList-from_filter, YieldsList-at, sum_by_from_yields_List}
use Rattle.pb.specs.Settled.{same_literal, weight_on}
use Rattle.lines.proofs.AsLists.{weight_of_term, terms_on, total_on_is}
use Rattle.lines.proofs.sums.total_on.Goals as goal

pub returns : goal.returns
returns c =
    let l = to_z w32 (of_z w32 c.args.literal) in
    let ts = c.args.terms.now in
    let e : c.sum.result ≡ sum_by weight_of_term (terms_on l ts) =
    sum_by_from_yields_List weight_of_term (terms_on l ts) c.map.result _ c.sum.ensures.ran
    (YieldsList-from_map _ weight_of_term
    (YieldsList-at c.map.ensures.source
    (YieldsList-from_filter _ (λ t. same_literal t.literal l) (YieldsList-from_slice ts (cc))
    c.filter.ensures.closure (λ x b q k. search (rules, tests))))
    c.map.ensures.closure (λ x r q k. search (rules, tests))) in
    e ∙ total_on_is l ts ∙ ap (λ z. weight_on z ts) (to_z-of_z w32 _ c.ranges.literal)
