-- The chain folds the weights from the last on.
use Rattle.std.proofs.Common.{◌≡◌, fold, reverse, ◌∙◌, rules}
use Rattle.pb.specs.Tightened.{gcd}
use Rattle.lines.proofs.AsLists.{divisor_is}
use Rattle.lines.proofs.divisors.common.Goals as goal

pub returns : goal.returns
returns c =
    let e : c.fold.result ≡ fold (λ d t. gcd t.weight d) 0 (reverse c.args.terms.now) = search rules in
    e ∙ divisor_is c.args.terms.now
