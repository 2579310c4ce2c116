-- Each case is a part of what is left
use Rattle.std.proofs.Common.{length}
use Rattle.output.proofs.cases.print_cases.Given as goal

abbrev pub decreases-loop-name : goal.decreases-loop-name
decreases-loop-name l = length l.rest
