-- Sets of terms by mask: the term at a place.
use Rattle.std.specs.Prelude.{ℕ, ◌/◌, ◌^◌, Bool}
use Rattle.encode.specs.Direct.{has_first}

-- whether the term at a place, counted from 0, is in the set
abbrev pub is_in_set : ℕ → ℕ → Bool
is_in_set mask place = has_first (mask / 2 ^ place)
