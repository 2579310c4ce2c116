-- The clauses of the direct encoder have few literals, each of a variable of the line.
use Rattle.std.proofs.Common.{◌≡◌, ℕ, suc, ◌-◌, ◌/◌, ◌≤◌, Bool, true, false, cond, List, [], ◌∷◌, ◌++◌, length, ℤ}
use Rattle.std.proofs.Common.{nat_abs, refl, ap, ◌∙◌, arith}
use Rattle.std.specs.List.{AllByRecursion}
use Rattle.std.proofs.ByRecursion.{All-append, All-weaker}
use Rattle.std.proofs.lemmas.Bool.{and_from, leb-true}
use Rattle.cnf.specs.Clauses.{Clause, literals_within}
use Rattle.pb.specs.declared.working.Sense.{Sense}
use Rattle.pb.specs.declared.working.Sense.TheVariants.{AtLeast, Exactly}
use Rattle.pb.specs.declared.working.WorkingTerm.{WorkingTerm}
use Rattle.pb.specs.Lines.{Working}
use Rattle.pb.specs.Sums.{weight_sum}
use Rattle.pb.proofs.Settling.{variable_of_complement}
use Rattle.encode.specs.declared.reaches.TheConstants.{MOST_DIRECT_TERMS}
use Rattle.encode.specs.Law.{InReach, is_of_line}
use Rattle.encode.specs.Direct.{has_first, literal_by, literals_in, set_clauses, direct_clauses, direct_list}
use Rattle.encode.specs.Direct.{direct_encoding}
use Rattle.encode.specs.Parts.{disjunction}
use Rattle.encode.proofs.LeastLists.{set_clauses_each}
use Rattle.encode.proofs.Parts.{disjunction_short}
use Rattle.encode.proofs.ShortClauses.{AreShortWithin, IsShortWithin}
use Rattle.encode.proofs.Terms.{OnVariable, in_reach_on, on_of_line}

-- a set has no more literals than there are terms
first_length : (b : Bool) (l : ℤ) (ls : List ℤ) → length (cond b (l ∷ []) [] ++ ls) ≤ suc (length ls)
first_length true l ls = omega arith
first_length false l ls = omega arith

literals_length : (flip : Bool) (ts : List WorkingTerm) (mask : ℕ) → length (literals_in flip ts mask) ≤ length ts
literals_length flip [] mask = omega arith
literals_length flip (t ∷ ts) mask =
    let e = literals_length flip ts (mask / 2) in
    let d = first_length (has_first mask) (literal_by flip t.literal) (literals_in flip ts (mask / 2)) in
    omega arith

-- and their variables are those of the terms
literal_by_variable : (flip : Bool) (l : ℤ) → nat_abs (literal_by flip l) ≡ nat_abs l
literal_by_variable true l = variable_of_complement l
literal_by_variable false l = refl

module _ (p : ℕ → Bool) where
  first_within : (b : Bool) (l : ℤ) (ls : List ℤ) → p (nat_abs l) ≡ true
      → literals_within p ls ≡ true → literals_within p (cond b (l ∷ []) [] ++ ls) ≡ true
  first_within true l ls e h = and_from _ _ e h
  first_within false l ls e h = h

  literals_in_within : (flip : Bool) (ts : List WorkingTerm) (mask : ℕ)
      → AllByRecursion (λ t. p (nat_abs t.literal) ≡ true) ts → literals_within p (literals_in flip ts mask) ≡ true
  literals_in_within flip [] mask h = refl
  literals_in_within flip (t ∷ ts) mask h =
      first_within (has_first mask) (literal_by flip t.literal) (literals_in flip ts (mask / 2))
      (ap p (literal_by_variable flip t.literal) ∙ h.0)
      (literals_in_within flip ts (mask / 2) h.1)

-- what holds of the clauses of each set holds of each clause of a line
direct_each : (P : Clause → Type 0) (s : Sense) (bound : ℕ) (ts : List WorkingTerm)
    → ((flip : Bool) (mask : ℕ) → AllByRecursion P (disjunction (literals_in flip ts mask)))
    → AllByRecursion P (direct_clauses s bound ts)
direct_each P AtLeast bound ts h = set_clauses_each false ts bound P (h false)
direct_each P Exactly bound ts h =
    let rest = weight_sum ts - bound in
    All-append P (set_clauses false ts bound) (set_clauses true ts rest)
    (set_clauses_each false ts bound P (h false))
    (set_clauses_each true ts rest P (h true))

pub direct_short : (n first : ℕ) (w : Working)
    → InReach direct_encoding n first w → AreShortWithin (is_of_line n first 0) (direct_list w first)
direct_short n first w h =
    let p = is_of_line n first 0 in
    let ts = w.terms in
    let few = leb-true (length ts) MOST_DIRECT_TERMS h.reached in
    let on =
    All-weaker (OnVariable n) (λ t. p (nat_abs t.literal) ≡ true) (on_of_line n first 0) ts
    (in_reach_on h)
    in
    direct_each (IsShortWithin p) w.sense w.bound ts
    (λ flip mask.
    let length = literals_length flip ts mask in
    disjunction_short p (literals_in flip ts mask) (literals_in_within p flip ts mask on) (omega arith))
