-- A list written into a table that has room for it: its front up to there, its length, and one list after another.
use Rattle.std.proofs.Common.{◌≡◌, ℕ, suc, ◌+◌, ◌<◌, ◌≤◌, List, [], ◌∷◌, ◌++◌, length, take, drop, set, sym, refl, ap}
use Rattle.std.proofs.Common.{◌∙◌, append_assoc, arith, length-append, length-drop}
use borrow.Rule.Slice.PartMut.{put_mid}
use lib.Seq.{paste}
use Rattle.std.proofs.lemmas.List.Edits.{paste_all, paste-paste}
use Rattle.std.proofs.lemmas.List.{take_at, length-take-le, set_split}
use Rattle.std.proofs.lemmas.Slice.{put_mid-paste}
use Rattle.cnf.specs.Tables.{overwritten}

module _ {X : Type 0} (at : ℕ) (xs before : List X) (room : at + length xs ≤ length before) where
  front_size : length (take at before ++ xs) ≡ at + length xs
  front_size = omega (arith, length-append (take at before) xs, length-take-le at before (omega arith))

  -- what is written, after what stood before it
  pub overwritten_front : (n : ℕ) → n ≡ at + length xs → take n (overwritten at xs before) ≡ take at before ++ xs
  overwritten_front n e =
      ap (take n) (sym (append_assoc (take at before) xs (drop (at + length xs) before)))
      ∙ take_at (take at before ++ xs) (drop (at + length xs) before) n (front_size ∙ sym e)

  pub overwritten_length : length (overwritten at xs before) ≡ length before
  overwritten_length =
      omega (
        arith,
        length-append (take at before) (xs ++ drop (at + length xs) before),
        length-append xs (drop (at + length xs) before),
        length-take-le at before (omega arith),
        length-drop (at + length xs) before,
      )

-- one list written after another is the two joined
pub overwritten_then : {X : Type 0} (at : ℕ) (xs ys before : List X) → at ≤ length before
    → overwritten (at + length xs) ys (overwritten at xs before) ≡ overwritten at (xs ++ ys) before
overwritten_then at xs ys before h =
    sym (paste_all (overwritten at xs before) (at + length xs) ys (length ys) refl)
    ∙ ap (λ zs. paste zs (at + length xs) ys (length ys)) (sym (paste_all before at xs (length xs) refl))
    ∙ paste-paste before at xs ys (length xs) (length ys) refl refl h
    ∙ ap (paste before at (xs ++ ys)) (sym (length-append xs ys))
    ∙ paste_all before at (xs ++ ys) (length (xs ++ ys)) refl

-- a list copied into a part of its length
pub overwritten_part : {X : Type 0} (at k : ℕ) (xs ys before : List X) → ys ≡ xs → length xs ≡ k
    → put_mid at k before ys ≡ overwritten at xs before
overwritten_part at k xs ys before e n =
    put_mid-paste at k before ys xs k e refl (sym n) ∙ paste_all before at xs k (sym n)
    ∙ ap (λ m. take at before ++ (xs ++ drop (at + m) before)) (sym n)

pub overwritten_one : {X : Type 0} (at : ℕ) (x : X) (before : List X) → at < length before
    → set before at x ≡ overwritten at (x ∷ []) before
overwritten_one at x before h =
    set_split before at x h
    ∙ ap (λ n. take at before ++ (x ∷ drop n before)) (let e : suc at ≡ at + 1 = omega arith in e)

-- what was written, and more behind it, is the two joined
pub overwritten_next : {X : Type 0} {to : ℕ} {mid : List X} (at : ℕ) (xs ys zs before : List X) → at ≤ length before
    → xs ++ ys ≡ zs → mid ≡ overwritten at xs before → to ≡ at + length xs
    → overwritten to ys mid ≡ overwritten at zs before
overwritten_next {X} {to} at xs ys zs before h e m t =
    ap (overwritten to ys) m ∙ ap (λ n. overwritten n ys (overwritten at xs before)) t
    ∙ overwritten_then at xs ys before h ∙ ap (λ ws. overwritten at ws before) e
