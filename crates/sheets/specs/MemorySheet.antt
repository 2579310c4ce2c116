-- What a sheet over lent memory has: its memory and the cells in use there; and what it means: the clauses that these
-- are read as, and which lists fit.
use Rattle.std.specs.Borrow.{GName}
use Rattle.std.specs.Prelude.{ℕ, Bool, cond, List, length, take}
use Rattle.std.specs.declared.cmp.PartialEq.{Ghosts as Comparison}
use Rattle.cnf.specs.Calls.{Rule}
use Rattle.cnf.specs.Clauses.{Clause}
use Rattle.cnf.specs.Layouts.{Layout, has_room}
use Rattle.cnf.specs.Tables.{overwritten}
use Rattle.sheets.specs.declared.layout.CellLayout.{Ghosts}
use Rattle.sheets.specs.declared.memory.MemorySheet.{MemorySheet}

module _ {L Cell : Type 0} {cell_layout : Ghosts L Cell} {cells : Comparison Cell} where
  -- the memory that the sheet was lent, and the name of that loan
  abbrev pub memory_of : MemorySheet L Cell cell_layout cells → List Cell
  memory_of s = s.memory.now

  abbrev pub loan_of : MemorySheet L Cell cell_layout cells → GName
  loan_of s = s.memory.ghost_name

  -- how many of its cells are in use, and which, from the first on
  abbrev pub used_of : MemorySheet L Cell cell_layout cells → ℕ
  used_of s = s.used

  abbrev pub cells_of : MemorySheet L Cell cell_layout cells → List Cell
  cells_of s = take s.used s.memory.now

  -- the clauses held
  abbrev pub held_by : MemorySheet L Cell cell_layout cells → List Clause
  held_by s = cell_layout.layout.read (cells_of s)

  -- which lists fit
  abbrev pub fits_in : MemorySheet L Cell cell_layout cells → Rule
  fits_in s = has_room cell_layout.layout (length s.memory.now)

-- a memory after a clause was given behind the cells in use, or refused
abbrev pub given_in : {X : Type 0} → Layout X → List X → ℕ → Clause → Bool → List X
given_in layout all used c taken = cond taken (overwritten used (layout.write c) all) all
