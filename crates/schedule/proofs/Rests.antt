-- A rest whose first two bytes are known is these two before what a slice pattern leaves.
use Rattle.std.proofs.Common.{◌≡◌, ℕ, ◌-◌, ◌≤◌, List, [], ◌∷◌, length, get_or, take, drop, arith}
use Rattle.std.proofs.lemmas.List.{take_rest}

pub two_before : (xs : List ℕ) (a b : ℕ) → 2 ≤ length xs → get_or xs 0 0 ≡ a → get_or xs 1 0 ≡ b
    → xs ≡ a ∷ b ∷ take (length xs - 2) (drop 2 xs)
two_before [] a b l p q = absurd (omega arith)
two_before (x ∷ []) a b l p q = absurd (omega arith)
two_before (x ∷ (y ∷ xs)) a b l p q = rw (take_rest (x ∷ (y ∷ xs)) 2) cc
