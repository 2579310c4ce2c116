-- The literals of terms in normal form have variables from 1 to n, so that what the terms weigh depends on these
-- alone.
use Rattle.std.proofs.Common.{◌≡◌, ℕ, suc, ◌+◌, ◌<◌, ◌≤◌, true, cond, not, List, [], ◌∷◌, ℤ, pos, negsuc, nat_abs}
use Rattle.std.proofs.Common.{refl, ap, ap₂, arith}
use Rattle.std.specs.List.{AllByRecursion}
use Rattle.std.proofs.lemmas.Bool.{and_from, or_left, le-leb, lt-ltb}
use Rattle.pb.specs.declared.working.WorkingTerm.{WorkingTerm}
use Rattle.pb.specs.Lines.{Working}
use Rattle.pb.specs.Meaning.{Assignment, holds, weighed}
use Rattle.pb.specs.WorkingForm.{normal_terms}
use Rattle.pb.proofs.Firsts.{normal_first}
use Rattle.encode.specs.Law.{Encoding, InReach, AgreeUpTo, is_of_line}

-- a term on one of the variables 1 to n
abbrev pub OnVariable : ℕ → WorkingTerm → Type 0
OnVariable n t = (0 < nat_abs t.literal) × (nat_abs t.literal ≤ n)

normal_on : (n below : ℕ) (ts : List WorkingTerm)
    → normal_terms n below ts ≡ true → AllByRecursion (OnVariable n) ts
normal_on n below [] h = tt
normal_on n below (t ∷ ts) h =
    let f = normal_first n below t ts h in
    ((omega arith, f.named), normal_on n (nat_abs t.literal) ts f.rest)

-- so is every term of a line in reach, and its variable is one that the line's clauses may name
pub in_reach_on : {e : Encoding} {n first : ℕ} {w : Working}
    → InReach e n first w → AllByRecursion (OnVariable n) w.terms
in_reach_on {n = n} {w = w} h = normal_on n 0 w.terms h.is_normal.terms_are

pub on_of_line : (n first k : ℕ) (t : WorkingTerm) → OnVariable n t → is_of_line n first k (nat_abs t.literal) ≡ true
on_of_line n first k t h = or_left _ _ (and_from _ _ (lt-ltb _ _ h.0) (le-leb _ _ h.1))

module _ (n : ℕ) (a v : Assignment) (agree : AgreeUpTo n v a) where
  holds_agrees : (l : ℤ) → nat_abs l ≤ n → holds v l ≡ holds a l
  holds_agrees (pos x) h = agree x h
  holds_agrees (negsuc x) h = ap not (agree (suc x) h)

  pub weighed_agrees : (ts : List WorkingTerm) → AllByRecursion (OnVariable n) ts → weighed v ts ≡ weighed a ts
  weighed_agrees [] h = refl
  weighed_agrees (t ∷ ts) h =
      ap₂ (λ b x. cond b t.weight 0 + x) (holds_agrees t.literal h.0.1) (weighed_agrees ts h.1)
