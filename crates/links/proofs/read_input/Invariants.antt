-- what is read lies within the buffer
use Rattle.std.proofs.Common.{◌≤◌, length}
use Rattle.links.proofs.read_input.Given as goal

abbrev pub invariant-loop : goal.invariant-loop
invariant-loop l = l.used ≤ length l.buffer
