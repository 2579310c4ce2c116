-- The mask is halved from term to term, so that its first place is always the term's.
use Rattle.std.proofs.Common.{◌≤◌, ◌^◌, length, ◌∙◌, rules, tests, arith}
use Rattle.std.specs.List.{scan}
use Rattle.std.proofs.lemmas.Iterator.{YieldsList-from_slice, YieldsList-from_map}
use Rattle.std.proofs.lemmas.Iterator.Adapters.{at_most_from_yields_List, fits_from_length}
use Rattle.std.proofs.lemmas.Iterator.Consumers.{YieldsList-at, YieldsList-from_scan, sum_by_from_yields_List}
use Rattle.encoders.proofs.MaskPlaces.{mask_after, weight_outside, one_each, outside_from}
use Rattle.encoders.proofs.direct.sets.ShortTerms.sum_outside.Goals as goal

pub sum-requires-clause-fits : goal.sum-requires-clause-fits
sum-requires-clause-fits c =
    let ts = c.args.self.terms.now in
    let weights = scan mask_after weight_outside c.args.mask ts in
    let few : length weights ≤ 12 = omega (arith, one_each weight_outside c.args.mask ts, c.args.self.few) in
    fits_from_length _ _ 12 (2 ^ 64)
    (at_most_from_yields_List
    (YieldsList-at c.map.ensures.source
    (YieldsList-from_scan _ mask_after weight_outside c.args.mask
    (YieldsList-at c.scan.ensures.source (YieldsList-from_slice ts cc))
    c.scan.ensures.state
    c.scan.ensures.closure
    (λ b x r q d k. search (rules, tests))))
    few)
    c.map.ensures.closure
    (omega arith)
    (λ x r q k. search (rules, tests))

pub returns : goal.returns
returns c =
    let ts = c.args.self.terms.now in
    sum_by_from_yields_List (λ n. n) _ c.map.result _ c.sum.ensures.ran
    (YieldsList-from_map _ (λ n. n)
    (YieldsList-at c.map.ensures.source
    (YieldsList-from_scan _ mask_after weight_outside c.args.mask
    (YieldsList-at c.scan.ensures.source (YieldsList-from_slice ts cc))
    c.scan.ensures.state
    c.scan.ensures.closure
    (λ b x r q d k. search (rules, tests))))
    c.map.ensures.closure
    (λ x r q k. search (rules, tests)))
    ∙ outside_from c.args.mask ts
