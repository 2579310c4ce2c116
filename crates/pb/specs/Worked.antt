-- Worked cases: what the definitions make of small lines.
use Rattle.std.specs.Prelude.{◌≡◌, ℕ, List, [], ◌∷◌, ℤ, pos, neg_ℤ, Some}
use Rattle.pb.specs.declared.relation.Relation.{Relation}
use Rattle.pb.specs.declared.relation.Relation.TheVariants.{AtLeast, AtMost, Exactly}
use Rattle.pb.specs.declared.term.Term.{Term}
use Rattle.pb.specs.declared.working.Sense.{Sense}
use Rattle.pb.specs.declared.working.Sense.TheVariants.{AtLeast as LeastOf, Exactly as Just}
use Rattle.pb.specs.declared.working.WorkingTerm.{WorkingTerm}
use Rattle.pb.specs.Lines.{Line, Working, empty_line, impossible_line}
use Rattle.pb.specs.Normal.{normal}
use Rattle.pb.specs.Settled.{forced, reduced}
use Rattle.pb.specs.Tightened.{tightened}

-- a weight on a literal, in a line and in a working line
abbrev pub line_term : ℤ → ℤ → Term
line_term w l = record { weight = w; literal = l }

abbrev pub working_term : ℕ → ℤ → WorkingTerm
working_term w l = record { weight = w; literal = l }

-- terms in a relation to a bound, as they are entered and in working form
abbrev pub line_with : List Term → Relation → ℤ → Line
line_with ts r b = record { relation = r; bound = b; terms = ts }

abbrev pub working_with : List WorkingTerm → Sense → ℕ → Working
working_with ts s k = record { sense = s; bound = k; terms = ts }

pub record Worked : Type 0 where
  -- 1·1 - 2·2 at least 1
  pub negative_weight : normal 2
      (line_with (line_term (pos 1) (pos 1) ∷ line_term (neg_ℤ (pos 2)) (pos 2) ∷ []) AtLeast (pos 1))
      ≡ working_with (working_term 1 (pos 1) ∷ working_term 2 (neg_ℤ (pos 2)) ∷ []) LeastOf 3
  -- 3·1 + 2·-1 + 1·2 at most 2
  pub both_signs : normal 2
      (line_with
      (line_term (pos 3) (pos 1) ∷ line_term (pos 2) (neg_ℤ (pos 1)) ∷ line_term (pos 1) (pos 2) ∷ [])
      AtMost (pos 2))
      ≡ working_with (working_term 1 (neg_ℤ (pos 1)) ∷ working_term 1 (neg_ℤ (pos 2)) ∷ []) LeastOf 2
  -- 1·1 + 1·-1 at least 1
  pub cancelled : normal 1
      (line_with (line_term (pos 1) (pos 1) ∷ line_term (pos 1) (neg_ℤ (pos 1)) ∷ []) AtLeast (pos 1))
      ≡ empty_line
  -- 1·1 exactly -1
  pub below_zero : normal 1 (line_with (line_term (pos 1) (pos 1) ∷ []) Exactly (neg_ℤ (pos 1)))
      ≡ impossible_line
  -- tighten 6·1 + 4·2 + 4·3 at least 9
  pub rounded_up : tightened
      (working_with (working_term 6 (pos 1) ∷ working_term 4 (pos 2) ∷ working_term 4 (pos 3) ∷ []) LeastOf 9)
      ≡ working_with (working_term 3 (pos 1) ∷ working_term 2 (pos 2) ∷ working_term 2 (pos 3) ∷ []) LeastOf 5
  -- tighten 6·1 + 4·2 exactly 5
  pub not_divided : tightened (working_with (working_term 6 (pos 1) ∷ working_term 4 (pos 2) ∷ []) Just 5)
      ≡ impossible_line
  -- settle 3·1 + 1·2 exactly 2, and what is left then
  pub too_heavy : forced (working_with (working_term 3 (pos 1) ∷ working_term 1 (pos 2) ∷ []) Just 2)
      ≡ Some (neg_ℤ (pos 1))
  pub left : reduced (neg_ℤ (pos 1)) (working_with (working_term 3 (pos 1) ∷ working_term 1 (pos 2) ∷ []) Just 2)
      ≡ working_with (working_term 1 (pos 2) ∷ []) Just 2
