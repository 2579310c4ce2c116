-- Which variables a working line names.
use Rattle.std.specs.Prelude.{ℕ, Bool, false, ◌||◌, List, [], ◌∷◌, ◌==◌, unsigned_abs}
use Rattle.pb.specs.declared.working.WorkingTerm.{WorkingTerm}

-- whether one of the terms is on the variable or on its complement
abbrev pub names_variable : ℕ → List WorkingTerm → Bool
names_variable v [] = false
names_variable v (t ∷ ts) = unsigned_abs t.literal == v || names_variable v ts
