-- The chain sums the weights.
use Rattle.std.proofs.Common.{◌≡◌, sum_by, ◌∙◌, rules}
use Rattle.lines.proofs.AsLists.{weight_of_term, total_is}
use Rattle.lines.proofs.sums.total.Goals as goal

pub returns : goal.returns
returns c =
    let e : c.sum.result ≡ sum_by weight_of_term c.args.terms.now = search rules in
    e ∙ total_is c.args.terms.now
