-- Lists in parts, each part up to a mark that ends it: how many marks there are, and where the k-th part ends.
use Rattle.std.specs.Prelude.{◌≡◌, ℕ, zero, suc, ◌+◌, Bool, cond, List, [], ◌∷◌, length}

abbrev pub marks : {X : Type 0} → (X → Bool) → List X → ℕ
marks mark [] = 0
marks mark (x ∷ xs) = cond (mark x) 1 0 + marks mark xs

-- the place after the k-th mark, or after the last element where there are fewer
abbrev pub place_after_mark : {X : Type 0} → (X → Bool) → ℕ → List X → ℕ
place_after_mark mark zero xs = 0
place_after_mark mark (suc k) [] = 0
place_after_mark mark (suc k) (x ∷ xs) = suc (place_after_mark mark (cond (mark x) k (suc k)) xs)

-- a part: its only mark is its last element
pub record IsPart {X : Type 0} (mark : X → Bool) (xs : List X) : Type 0 where
  pub one : marks mark xs ≡ 1
  pub last : place_after_mark mark 1 xs ≡ length xs
