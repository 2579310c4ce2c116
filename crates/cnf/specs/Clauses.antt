-- What a clause is and when an assignment satisfies it, which clauses are well-formed, and which variables they name.
use Rattle.std.specs.Prelude.{◌≡◌, ℕ, zero, suc, Bool, true, false, ◌&&◌, ◌||◌, List, [], ◌∷◌, length, ℤ, Some, None}
use Rattle.std.specs.Prelude.{Option, nat_le, nat_lt, unsigned_abs}
use Rattle.std.specs.List.{slice_get}
use Rattle.pb.specs.Meaning.{Assignment, holds}
use Rattle.cnf.specs.declared.clause.TheConstants.{MOST_LITERALS, LAST_NUMBER}

-- a clause says that at least one of its literals holds
pub record Clause : Type 0 where
  pub literals : List ℤ

abbrev pub of_literals : List ℤ → Clause
of_literals ls = record { literals = ls }

-- whether an assignment satisfies a clause, and every clause of a list
abbrev pub some_holds : Assignment → List ℤ → Bool
some_holds a [] = false
some_holds a (l ∷ ls) = holds a l || some_holds a ls

abbrev pub satisfies : Assignment → Clause → Bool
satisfies a c = some_holds a c.literals

abbrev pub satisfies_all : Assignment → List Clause → Bool
satisfies_all a [] = true
satisfies_all a (c ∷ cs) = satisfies a c && satisfies_all a cs

-- a well-formed clause has at most MOST_LITERALS literals, each of a variable or an auxiliary from 1 to LAST_NUMBER
abbrev pub literal_formed : ℤ → Bool
literal_formed l = nat_lt 0 (unsigned_abs l) && nat_le (unsigned_abs l) LAST_NUMBER

abbrev pub literals_formed : List ℤ → Bool
literals_formed [] = true
literals_formed (l ∷ ls) = literal_formed l && literals_formed ls

abbrev pub well_formed : Clause → Bool
well_formed c = nat_le (length c.literals) MOST_LITERALS && literals_formed c.literals

abbrev pub all_well_formed : List Clause → Bool
all_well_formed [] = true
all_well_formed (c ∷ cs) = well_formed c && all_well_formed cs

-- how far that is
pub record ClauseLimits : Type 0 where
  pub literals : MOST_LITERALS ≡ 256
  pub numbers : LAST_NUMBER ≡ 60000

-- whether every variable that literals or clauses name passes a test
abbrev pub literals_within : (ℕ → Bool) → List ℤ → Bool
literals_within p [] = true
literals_within p (l ∷ ls) = p (unsigned_abs l) && literals_within p ls

abbrev pub names_within : (ℕ → Bool) → List Clause → Bool
names_within p [] = true
names_within p (c ∷ cs) = literals_within p c.literals && names_within p cs

-- whether a variable or an auxiliary has a number from 1 to the last
abbrev pub numbered_to : ℕ → ℕ → Bool
numbered_to last v = nat_lt 0 v && nat_le v last

-- literal j of clause i, both counted from 1, or nothing
abbrev pub literal_of : Option Clause → ℕ → Option ℤ
literal_of None j = None
literal_of (Some c) zero = None
literal_of (Some c) (suc j) = slice_get c.literals j

abbrev pub literal_at : List Clause → ℕ → ℕ → Option ℤ
literal_at cs zero j = None
literal_at cs (suc i) j = literal_of (slice_get cs i) j
