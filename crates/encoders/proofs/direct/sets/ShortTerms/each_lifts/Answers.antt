-- The mask is halved from term to term, so that its first place is always the term's.
use Rattle.std.proofs.Common.{◌-◌, ◌∙◌, rules, tests}
use Rattle.std.proofs.lemmas.Iterator.{YieldsList-from_slice}
use Rattle.std.proofs.lemmas.Iterator.Consumers.{YieldsList-at, YieldsList-from_scan}
use Rattle.std.proofs.lemmas.Iterator.Search.{all_from_yields_List}
use Rattle.encoders.proofs.MaskPlaces.{mask_after, is_enough, lifts_from}
use Rattle.encoders.proofs.direct.sets.ShortTerms.each_lifts.Goals as goal

pub returns : goal.returns
returns c =
    let ts = c.args.self.terms.now in
    all_from_yields_List (λ b. b) _ _ _ c.all.ensures.ran
    (YieldsList-from_scan _ mask_after (is_enough (c.args.bound - c.args.sum)) c.args.mask
    (YieldsList-at c.scan.ensures.source (YieldsList-from_slice ts cc))
    c.scan.ensures.state
    c.scan.ensures.closure
    (λ b x r q d k. search (rules, tests)))
    (λ x r q k. search (rules, tests))
    ∙ lifts_from c.args.sum c.args.bound c.args.mask ts
