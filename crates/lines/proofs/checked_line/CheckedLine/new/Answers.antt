-- That the check is exact is a law of its definition.
use Rattle.pb.proofs.Ranges.{check_is_exact}
use Rattle.lines.proofs.checked_line.CheckedLine.new.Goals as goal

pub returns-in_err-check_size-clause-exact : goal.returns-in_err-check_size-clause-exact
returns-in_err-check_size-clause-exact c = check_is_exact

pub returns-in_err-check_terms-clause-exact : goal.returns-in_err-check_terms-clause-exact
returns-in_err-check_terms-clause-exact c = check_is_exact

pub returns-clause-exact : goal.returns-clause-exact
returns-clause-exact c = check_is_exact
