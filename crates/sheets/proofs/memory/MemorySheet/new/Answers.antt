-- Nothing is in use, and so nothing is held.
use Rattle.std.proofs.Common.{arith}
use Rattle.cnf.proofs.Showing.{shows_none}
use Rattle.sheets.proofs.memory.MemorySheet.new.Goals as goal

pub invariant_of-result : goal.invariant_of-result
invariant_of-result g c =
    record {
      front = record { inside = omega arith; shows = shows_none g.L.CellLayout.layout g.met.L.CellLayout.faithful };
    }
