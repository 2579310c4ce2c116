-- Each weight becomes its quotient.
use Rattle.std.proofs.Common.{◌/◌, rules}
use Rattle.lines.proofs.tightening.divide.Goals as goal

pub returns : goal.returns
returns c = c.reweigh.ensures (λ x. x / c.args.divisor) (λ x y e. search rules)
