-- The laws are those of the definition.
use Rattle.pb.proofs.Divisors.{divisor_is_greatest}
use Rattle.pb.proofs.Forms.{forms_keep}
use Rattle.pb.proofs.Tightening.{tighten_is_normal}
use Rattle.lines.proofs.tightening.tighten.Goals as goal

pub returns-in-AtLeast-clause-is_normal : goal.returns-in-AtLeast-clause-is_normal
returns-in-AtLeast-clause-is_normal c = tighten_is_normal

pub returns-in-AtLeast-clause-divisor : goal.returns-in-AtLeast-clause-divisor
returns-in-AtLeast-clause-divisor c = divisor_is_greatest

pub returns-in-AtLeast-clause-forms : goal.returns-in-AtLeast-clause-forms
returns-in-AtLeast-clause-forms c = forms_keep

pub returns-in-Exactly-clause-is_normal : goal.returns-in-Exactly-clause-is_normal
returns-in-Exactly-clause-is_normal c = tighten_is_normal

pub returns-in-Exactly-clause-divisor : goal.returns-in-Exactly-clause-divisor
returns-in-Exactly-clause-divisor c = divisor_is_greatest

pub returns-in-Exactly-clause-forms : goal.returns-in-Exactly-clause-forms
returns-in-Exactly-clause-forms c = forms_keep
