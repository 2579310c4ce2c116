-- To write the row of the literals that are left completes the whole row.
use Rattle.std.proofs.Common.{◌≡◌, ◌+◌, length, drop}
use Rattle.cnf.specs.Tables.{overwritten}
use Rattle.cnf.specs.Text.{row_of}
use Rattle.sheets.proofs.text.TextLayoutCellLayout.put.Given as goal

abbrev pub invariant-loop-literal : goal.invariant-loop-literal
invariant-loop-literal l =
    (overwritten l.to (row_of (drop l.literal-index l.literals)) l.bytes
    ≡ overwritten l.initial.to (row_of l.literals) l.initial.bytes)
    × (l.to + length (row_of (drop l.literal-index l.literals)) ≡ l.initial.to + length (row_of l.literals))
