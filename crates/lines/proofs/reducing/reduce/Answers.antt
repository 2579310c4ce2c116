-- That the line stays in normal form is a law of the definition.
use Rattle.pb.proofs.Reducing.{reduced_is_normal}
use Rattle.lines.proofs.reducing.reduce.Goals as goal

pub returns-in_default-clause-is_normal : goal.returns-in_default-clause-is_normal
returns-in_default-clause-is_normal c = reduced_is_normal

pub returns-clause-is_normal : goal.returns-clause-is_normal
returns-clause-is_normal c = reduced_is_normal
