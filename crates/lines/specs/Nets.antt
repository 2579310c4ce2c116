-- The table of net weights that a normal form is made from: the net weight of variable v stands at v.
use Rattle.std.specs.Prelude.{◌≡◌, ℕ, ◌≤◌, Bool, List, ℤ, pos, slice_index_or, unsigned_abs}
use Rattle.pb.specs.declared.term.Term.{Term}
use Rattle.pb.specs.declared.variables.TheConstants.{MOST_VARIABLES}
use Rattle.pb.specs.Normal.{net}

-- the net weight of variable v in a table
abbrev pub net_in : List ℤ → ℕ → ℤ
net_in table v = slice_index_or table v (pos 0)

-- a table of the net weights of the terms
abbrev pub IsNetsOf : Bool → List Term → List ℤ → Type 0
IsNetsOf b ts table = (v : ℕ) → v ≤ MOST_VARIABLES → net_in table v ≡ net b ts v

-- a table whose weights are at most m in size
abbrev pub IsWithin : ℕ → List ℤ → Type 0
IsWithin m table = (v : ℕ) → v ≤ MOST_VARIABLES → unsigned_abs (net_in table v) ≤ m
