-- The sum of a working line's weights.
use Rattle.std.specs.Prelude.{ℕ, ◌+◌, List, [], ◌∷◌}
use Rattle.pb.specs.declared.working.WorkingTerm.{WorkingTerm}

abbrev pub weight_sum : List WorkingTerm → ℕ
weight_sum [] = 0
weight_sum (t ∷ ts) = t.weight + weight_sum ts
