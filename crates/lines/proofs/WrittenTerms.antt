-- A lent table with room for the terms of a normal form takes them, one variable on.
use Rattle.std.proofs.Common.{◌≡◌, ℕ, ◌+◌, ◌-◌, ◌<◌, ◌≤◌, List, [], ◌∷◌, ◌++◌, length, take, drop, set, ℤ, sym, ap}
use Rattle.std.proofs.Common.{◌∙◌, arith}
use Rattle.std.proofs.lemmas.List.{length-set, append-nil, append_assoc, length-append, length-take-le}
use Rattle.std.proofs.lemmas.List.{take_more_set, drop-set-lt, drop-drop}
use Rattle.pb.specs.declared.working.WorkingTerm.{WorkingTerm}
use Rattle.pb.specs.Normal.{term_of, gathered}
use Rattle.lines.proofs.Gathering.{gathered_more, gathered_past}

-- what is written so far, with the terms of the variables from v to n, is all that is gathered; beyond lies what was
-- there
pub record Written (n v : ℕ) (f : ℕ → ℤ) (count : ℕ) (form before : List WorkingTerm) : Type 0 where
  pub long : length form ≡ length before
  pub within : count ≤ length before
  pub so_far : take count form ++ gathered (n + 1 - v) v f ≡ gathered n 1 f
  pub beyond : drop count form ≡ drop count before

module _ (n v : ℕ) (f : ℕ → ℤ) (count : ℕ) (form before : List WorkingTerm) (h : Written n v f count form before) where
  abbrev rest : List WorkingTerm
  rest = gathered (n + 1 - (v + 1)) (v + 1) f

  pub written_none : v ≤ n → term_of v (f v) ≡ [] → Written n (v + 1) f count form before
  written_none low e =
      record {
        long = h.long;
        within = h.within;
        so_far =
            ap (λ ts. take count form ++ (ts ++ rest)) (sym e)
            ∙ ap (λ ts. take count form ++ ts) (sym (gathered_more n v f low))
            ∙ h.so_far;
        beyond = h.beyond;
      }

  next : v ≤ n → (t : WorkingTerm) → term_of v (f v) ≡ t ∷ [] → gathered (n + 1 - v) v f ≡ t ∷ rest
  next low t e = gathered_more n v f low ∙ ap (λ ts. ts ++ rest) e

  pub written_room : v ≤ n → length (gathered n 1 f) ≤ length before → (t : WorkingTerm) → term_of v (f v) ≡ t ∷ []
      → count < length before
  written_room low room t e =
      let w = h.within in
      let long = h.long in
      let taken = length-take-le count form (omega arith) in
      let all : length (take count form ++ (t ∷ rest)) ≡ length (gathered n 1 f) =
      ap (λ ts. length (take count form ++ ts)) (sym (next low t e)) ∙ ap length h.so_far in
      let sum = length-append (take count form) (t ∷ rest) in
      omega arith

  pub written_one : v ≤ n → count < length before → (t : WorkingTerm) → term_of v (f v) ≡ t ∷ []
      → Written n (v + 1) f (count + 1) (set form count t) before
  written_one low room t e =
      let long = h.long in
      record {
        long = length-set form count t ∙ long;
        within = omega arith;
        so_far =
            ap (λ ts. ts ++ rest) (take_more_set form count t (omega arith))
            ∙ append_assoc (take count form) (t ∷ []) rest
            ∙ ap (λ ts. take count form ++ ts) (sym (next low t e))
            ∙ h.so_far;
        beyond =
            drop-set-lt (count + 1) form count t (omega arith)
            ∙ sym (drop-drop 1 count form)
            ∙ ap (λ ts. drop 1 ts) h.beyond
            ∙ drop-drop 1 count before;
      }

  pub written_all : n < v → take count form ≡ gathered n 1 f
  written_all past =
      sym (append-nil (take count form))
      ∙ ap (λ ts. take count form ++ ts) (sym (gathered_past n v f past))
      ∙ h.so_far
