-- What every layer above may use of the checks and the transformations of lines, and all that it needs: which lines
-- pass, who meets a line, that a line stays in normal form, and which variables it names. Nothing above has to open a
-- definition.
use Prim.Native.Nat.{◌∣◌}
use Rattle.std.specs.Prelude.{◌≡◌, ℕ, ◌<◌, ◌≤◌, true, false, ◌⊎◌, ◌↔◌, [], List, length, ℤ, Some, None, unsigned_abs}
use Rattle.std.specs.List.{AllByRecursion}
use Rattle.pb.specs.declared.working.Sense.TheVariants.{AtLeast}
use Rattle.pb.specs.declared.working.WorkingTerm.{WorkingTerm}
use Rattle.pb.specs.Lines.{Line, Working}
use Rattle.pb.specs.Checks.{line_check, PassesChecks, IsLineInRange}
use Rattle.pb.specs.Normal.{normal}
use Rattle.pb.specs.Meaning.{Assignment, holds, meets, met}
use Rattle.pb.specs.Names.{names_variable}
use Rattle.pb.specs.WorkingForm.{IsNormal}
use Rattle.pb.specs.Tightened.{divisor_of, tightened, working_form}
use Rattle.pb.specs.Sums.{weight_sum}
use Rattle.pb.specs.Settled.{forced, Unforced, reduced}

-- the check finds nothing in just the lines that pass it, and those are the lines of which everything is in range
pub record IsCheckedExactly (n : ℕ) (l : Line) : Type 0 where
  pub passes : (line_check n l ≡ None) ↔ PassesChecks n l
  pub in_range : PassesChecks n l ↔ IsLineInRange n l

abbrev pub CheckIsExact : Type 0
CheckIsExact = (n : ℕ) (l : Line) → IsCheckedExactly n l

-- the normal form of a line that passes is met by just the assignments that meet the line
abbrev pub NormalKeeps : Type 0
NormalKeeps = (n : ℕ) (l : Line) → PassesChecks n l → (a : Assignment) → met a (normal n l) ≡ meets a l

-- it is in normal form, and has no more terms than the line
abbrev pub NormalIsNormal : Type 0
NormalIsNormal =
    (n : ℕ) (l : Line) → PassesChecks n l → IsNormal n (normal n l) × (length (normal n l).terms ≤ length l.terms)

-- d is the greatest common divisor of the weights: it divides each, and whatever divides each divides d
pub record IsGreatestDivisor (d : ℕ) (ts : List WorkingTerm) : Type 0 where
  pub divides : AllByRecursion (λ t. d ∣ t.weight) ts
  pub greatest : (e : ℕ) → AllByRecursion (λ t. e ∣ t.weight) ts → e ∣ d

abbrev pub DivisorIsGreatest : Type 0
DivisorIsGreatest = (ts : List WorkingTerm) → IsGreatestDivisor (divisor_of ts) ts

-- tightening changes no assignment's verdict, keeps a line in normal form and adds no term
abbrev pub TightenKeeps : Type 0
TightenKeeps = (n : ℕ) (w : Working) → IsNormal n w → (a : Assignment) → met a (tightened w) ≡ met a w

abbrev pub TightenIsNormal : Type 0
TightenIsNormal =
    (n : ℕ) (w : Working) → IsNormal n w → IsNormal n (tightened w) × (length (tightened w).terms ≤ length w.terms)

-- what it leaves has no common divisor, and of "at least" no weight exceeds the bound
abbrev pub TightenIsTight : Type 0
TightenIsTight =
    (n : ℕ) (w : Working) → IsNormal n w
    → ((divisor_of (tightened w).terms ≡ 1) ⊎ ((tightened w).terms ≡ []))
    × ((tightened w).sense ≡ AtLeast → AllByRecursion (λ t. t.weight ≤ (tightened w).bound) (tightened w).terms)

-- so to tighten twice is to tighten once
abbrev pub TightenOnce : Type 0
TightenOnce = (n : ℕ) (w : Working) → IsNormal n w → tightened (tightened w) ≡ tightened w

-- a tightened line names no variable that the line did not
abbrev pub TightenNamesNoMore : Type 0
TightenNamesNoMore =
    (w : Working) (v : ℕ) → names_variable v w.terms ≡ false → names_variable v (tightened w).terms ≡ false

-- the form that a line is written in is in normal form, and met by just the assignments that meet the line
abbrev pub FormsKeep : Type 0
FormsKeep =
    (n : ℕ) (l : Line) → PassesChecks n l
    → IsNormal n (working_form n l) × ((a : Assignment) → met a (working_form n l) ≡ meets a l)

-- a forced literal holds in every assignment that meets the line, and is of one of the variables, which the line names
abbrev pub ForcedHolds : Type 0
ForcedHolds =
    (n : ℕ) (w : Working) (l : ℤ) → IsNormal n w → forced w ≡ Some l
    → (a : Assignment) → met a w ≡ true → holds a l ≡ true

abbrev pub ForcedInRange : Type 0
ForcedInRange =
    (n : ℕ) (w : Working) (l : ℤ) → IsNormal n w → forced w ≡ Some l → (0 < unsigned_abs l) × (unsigned_abs l ≤ n)

abbrev pub ForcedIsNamed : Type 0
ForcedIsNamed = (w : Working) (l : ℤ) → forced w ≡ Some l → names_variable (unsigned_abs l) w.terms ≡ true

-- where nothing is forced and the weights reach the bound, no term alone forces anything
abbrev pub ForcedNone : Type 0
ForcedNone =
    (w : Working) → forced w ≡ None → w.bound ≤ weight_sum w.terms
    → AllByRecursion (Unforced w.sense (weight_sum w.terms) w.bound) w.terms

-- where a literal holds, the reduced line is met just where the line was; it stays in normal form and gains no term
abbrev pub ReducedKeeps : Type 0
ReducedKeeps = (w : Working) (l : ℤ) (a : Assignment) → holds a l ≡ true → met a (reduced l w) ≡ met a w

abbrev pub ReducedIsNormal : Type 0
ReducedIsNormal =
    (n : ℕ) (w : Working) (l : ℤ) → IsNormal n w
    → IsNormal n (reduced l w) × (length (reduced l w).terms ≤ length w.terms)

-- a reduced line does not name the literal's variable, and names no variable that the line did not
abbrev pub ReducedDropsVariable : Type 0
ReducedDropsVariable = (w : Working) (l : ℤ) → names_variable (unsigned_abs l) (reduced l w).terms ≡ false

abbrev pub ReducedNamesNoMore : Type 0
ReducedNamesNoMore =
    (w : Working) (l : ℤ) (v : ℕ) → names_variable v w.terms ≡ false → names_variable v (reduced l w).terms ≡ false

-- a line that does not name the literal's variable is left as it was
abbrev pub ReducedSameWhereUnnamed : Type 0
ReducedSameWhereUnnamed = (w : Working) (l : ℤ) → names_variable (unsigned_abs l) w.terms ≡ false → reduced l w ≡ w
