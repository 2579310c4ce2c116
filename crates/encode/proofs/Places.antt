-- The rows of the matrix have their values just where each auxiliary, counted row by row, has the one meant.
use Rattle.std.proofs.Common.{◌≡◌, ℕ, zero, suc, ◌+◌, ◌*◌, ◌/◌, ◌%◌, ◌<◌, ◌≤◌, leb, sym, ap, ◌∙◌, add-one, arith}
use Rattle.std.proofs.lemmas.Nat.{div-add-mod', div_below, mod_below, mul-add-lt, div-mul-add, mod-mul-add}
use Rattle.std.proofs.lemmas.Bool.{le-leb}
use Rattle.pb.specs.Meaning.{Assignment}
use Rattle.encode.proofs.Matrix.{Row, row_zero}

-- every row has its values, where these totals are given
abbrev pub Filled : Assignment → ℕ → ℕ → ℕ → (ℕ → ℕ) → Type 0
Filled v first rows c totals = (r : ℕ) → r ≤ rows → Row v first c r (totals r)

-- and every auxiliary, counted row by row
abbrev pub Placed : Assignment → ℕ → ℕ → ℕ → (ℕ → ℕ) → Type 0
Placed v first rows c totals = (m : ℕ) → m < rows * c → v (first + m) ≡ leb (m % c + 1) (totals (m / c + 1))

-- a column is there where a place is
columns_there : (m rows c : ℕ) → m < rows * c → 0 < c
columns_there m rows zero h = absurd (omega arith)
columns_there m rows (suc c) h = omega arith

module _ (v : Assignment) (first rows c : ℕ) (totals : ℕ → ℕ) where
  pub filled_placed : Filled v first rows c totals → Placed v first rows c totals
  filled_placed all m h =
      let wide = columns_there m rows c h in
      let i = m / c in
      let j = m % c in
      let row = all (suc i) (div_below m c rows wide h) in
      let e : v (first + (i * c + j)) ≡ leb (suc j) (totals (suc i)) = row (suc j) (mod_below m c wide) in
      simp (div-add-mod', ← add-one) at e

  pub placed_filled : totals 0 ≡ 0 → Placed v first rows c totals → Filled v first rows c totals
  placed_filled none all zero h j g = row_zero v first c j g ∙ ap (leb j) (sym none)
  placed_filled none all (suc i) h zero g = sym (le-leb 0 (totals (suc i)) (omega arith))
  placed_filled none all (suc i) h (suc j) g =
      let e = all (i * c + j) (omega (arith, mul-add-lt i c j rows h g)) in
      simp (div-mul-add i c j g, mod-mul-add i c j g, add-one) at e
