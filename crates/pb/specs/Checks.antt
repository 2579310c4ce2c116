-- Which lines are refused, and by what: the relation's number, the bound and the number of terms first, then each
-- term's literal and weight.
use Rattle.std.specs.Prelude.{◌≡◌, ℕ, suc, ◌<◌, ◌≤◌, Bool, cond, ◌&&◌, List, [], ◌∷◌, length, ℤ}
use Rattle.std.specs.Prelude.{Some, None, Ok, Err, Option, Result, ◌==◌, nat_le, nat_lt, unsigned_abs}
use Rattle.std.specs.List.{AllByRecursion}
use Rattle.std.specs.Option.{ok_or}
use Rattle.pb.specs.declared.constraint.TheConstants.{MOST_BOUND, MOST_TERMS}
use Rattle.pb.specs.declared.term.TheConstants.{MOST_WEIGHT}
use Rattle.pb.specs.declared.line_fault.LineFault.{LineFault}
use Rattle.pb.specs.declared.line_fault.LineFault.TheVariants.{Relation as BadRelation, Bound as BadBound}
use Rattle.pb.specs.declared.line_fault.LineFault.TheVariants.{Terms as TooMany, Literal as BadLiteral}
use Rattle.pb.specs.declared.line_fault.LineFault.TheVariants.{Weight as BadWeight}
use Rattle.pb.specs.declared.relation.Relation.{Relation}
use Rattle.pb.specs.declared.relation.Relation.TheVariants.{AtLeast, AtMost, Exactly, MoreThan, LessThan}
use Rattle.pb.specs.declared.term.Term.{Term}
use Rattle.pb.specs.Lines.{Line}

-- the number of a relation
abbrev pub relation_number : Relation → ℕ
relation_number AtLeast = 1
relation_number AtMost = 2
relation_number Exactly = 3
relation_number MoreThan = 4
relation_number LessThan = 5

-- the relation of a number, if it has one
abbrev pub relation_of : ℕ → Option Relation
relation_of n =
    cond (n == 1) (Some AtLeast)
    (cond (n == 2) (Some AtMost)
    (cond (n == 3) (Some Exactly)
    (cond (n == 4) (Some MoreThan)
    (cond (n == 5) (Some LessThan) None))))

-- the same, or that there is none
abbrev pub numbered_relation : ℕ → Result Relation LineFault
numbered_relation n = ok_or (relation_of n) BadRelation

-- a bound, and the number of terms, in range
abbrev pub sized : {X : Type 0} → X → ℤ → ℕ → Result X LineFault
sized r bound terms =
    cond (nat_le (unsigned_abs bound) MOST_BOUND)
    (cond (nat_le terms MOST_TERMS) (Ok r) (Err TooMany))
    (Err BadBound)

-- the relation of a line by its number, its bound and how many terms it has; or the first fault of these
abbrev pub checked_relation : Option Relation → ℤ → ℕ → Result Relation LineFault
checked_relation None bound terms = Err BadRelation
checked_relation (Some r) bound terms = sized r bound terms

abbrev pub checked_head : ℕ → ℤ → ℕ → Result Relation LineFault
checked_head number bound terms = checked_relation (relation_of number) bound terms

-- a literal of one of the variables 1 to n
abbrev pub literal_named : ℕ → ℤ → Bool
literal_named n z = nat_lt 0 (unsigned_abs z) && nat_le (unsigned_abs z) n

abbrev pub weight_small : ℤ → Bool
weight_small w = nat_le (unsigned_abs w) MOST_WEIGHT

-- the first fault of the terms, of which the first has this number
abbrev pub terms_fault : ℕ → ℕ → List Term → Option LineFault
terms_fault n i [] = None
terms_fault n i (t ∷ ts) =
    cond (literal_named n t.literal)
    (cond (weight_small t.weight) (terms_fault n (suc i) ts) (Some (BadWeight i)))
    (Some (BadLiteral i))

-- the first fault of a line whose relation is known
abbrev pub line_check : ℕ → Line → Option LineFault
line_check n l =
    cond (nat_le (unsigned_abs l.bound) MOST_BOUND)
    (cond (nat_le (length l.terms) MOST_TERMS) (terms_fault n 1 l.terms) (Some TooMany))
    (Some BadBound)

-- a line that nothing is wrong with, in a job of n variables
pub record PassesChecks (n : ℕ) (l : Line) : Type 0 where
  pub bounded : unsigned_abs l.bound ≤ MOST_BOUND
  pub few : length l.terms ≤ MOST_TERMS
  pub fine : terms_fault n 1 l.terms ≡ None

-- a term of one of the variables 1 to n, of a weight in range
abbrev pub IsTermInRange : ℕ → Term → Type 0
IsTermInRange n t =
    (0 < unsigned_abs t.literal) × (unsigned_abs t.literal ≤ n) × (unsigned_abs t.weight ≤ MOST_WEIGHT)

-- a line whose bound, number of terms and terms are in range, in a job of n variables
pub record IsLineInRange (n : ℕ) (l : Line) : Type 0 where
  pub bounded : unsigned_abs l.bound ≤ MOST_BOUND
  pub few : length l.terms ≤ MOST_TERMS
  pub terms : AllByRecursion (IsTermInRange n) l.terms
