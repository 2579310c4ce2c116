-- How a sheet keeps clauses in its memory: each clause as a part with a mark at its end, one part after another.
use Rattle.std.specs.Prelude.{◌≡◌, ℕ, ◌≤◌, Bool, true, List, length, take, nat_le}
use Rattle.std.specs.List.{flat_map}
use Rattle.cnf.specs.Clauses.{Clause, well_formed, all_well_formed}
use Rattle.cnf.specs.Marks.{IsPart}

-- what is written of a clause, what ends a part, and which clauses the used front of the memory is read as
pub record Layout (X : Type 0) : Type 0 where
  pub write : Clause → List X
  pub mark : X → Bool
  pub read : List X → List Clause

abbrev pub written : {X : Type 0} → Layout X → List Clause → List X
written layout cs = flat_map layout.write cs

-- of a layout to rely on: a well-formed clause makes one part, and what is written of clauses reads back as just these
pub record Faithful {X : Type 0} (layout : Layout X) : Type 0 where
  pub part : (c : Clause) → well_formed c ≡ true → IsPart layout.mark (layout.write c)
  pub back : (cs : List Clause) → all_well_formed cs ≡ true → layout.read (written layout cs) ≡ cs

-- the front of a memory is what is written of the clauses that it is read as, which are well-formed and so many
pub record Shows {X : Type 0} (layout : Layout X) (front : List X) (count : ℕ) : Type 0 where
  pub formed : all_well_formed (layout.read front) ≡ true
  pub shown : written layout (layout.read front) ≡ front
  pub counted : length (layout.read front) ≡ count

-- a memory of which so many elements are in use, which show so many clauses
pub record Front {X : Type 0} (layout : Layout X) (all : List X) (used count : ℕ) : Type 0 where
  pub inside : used ≤ length all
  pub shows : Shows layout (take used all) count

-- what so much memory holds fits
abbrev pub has_room : {X : Type 0} → Layout X → ℕ → List Clause → Bool
has_room layout room cs = nat_le (length (written layout cs)) room
