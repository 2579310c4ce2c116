-- Each weight becomes the lesser of itself and the bound.
use Rattle.std.proofs.Common.{min, rules}
use Rattle.lines.proofs.tightening.saturate.Goals as goal

pub returns : goal.returns
returns c = c.reweigh.ensures (λ x. min x c.args.bound) (λ x y e. search rules)
