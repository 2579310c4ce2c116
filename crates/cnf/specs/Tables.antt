-- What a table holds after a list was written into it.
use Rattle.std.specs.Prelude.{ℕ, ◌+◌, List, ◌++◌, length, take, drop}

-- the list stands from this place on, and the rest is as it was
abbrev pub overwritten : {X : Type 0} → ℕ → List X → List X → List X
overwritten at xs before = take at before ++ (xs ++ drop (at + length xs) before)
