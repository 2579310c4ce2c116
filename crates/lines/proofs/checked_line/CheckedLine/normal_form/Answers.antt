-- The laws are those of the definition.
use Rattle.pb.proofs.NormalMeaning.{normal_keeps}
use Rattle.pb.proofs.Normalizing.{normal_is_normal}
use Rattle.lines.proofs.checked_line.CheckedLine.normal_form.Goals as goal

pub returns-then-form-self-clause-keeps : goal.returns-then-form-self-clause-keeps
returns-then-form-self-clause-keeps c = normal_keeps

pub returns-then-form-self-clause-is_normal : goal.returns-then-form-self-clause-is_normal
returns-then-form-self-clause-is_normal c = normal_is_normal

pub returns-clause-keeps : goal.returns-clause-keeps
returns-clause-keeps c = normal_keeps

pub returns-clause-is_normal : goal.returns-clause-is_normal
returns-clause-is_normal c = normal_is_normal
