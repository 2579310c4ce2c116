-- What the layers above may use of satisfaction.
use Rattle.std.specs.Prelude.{◌≡◌, ℕ, ◌<◌, ◌≤◌, Bool, true, ◌&&◌, List, ◌++◌, ℤ, length, take}
use Rattle.std.specs.List.{list_all}
use Rattle.cnf.specs.Clauses.{Clause, satisfies_all, literals_formed, all_well_formed, literals_within, names_within}
use Rattle.cnf.specs.Clauses.{numbered_to}
use Rattle.cnf.specs.Units.{units}
use Rattle.pb.specs.Meaning.{Assignment, holds}

-- two assignments agree on the variables that pass a test
abbrev pub AgreeWhere : (ℕ → Bool) → Assignment → Assignment → Type 0
AgreeWhere named a b = (v : ℕ) → named v ≡ true → a v ≡ b v

-- and on the variables 1 to n
abbrev pub AgreeTo : ℕ → Assignment → Assignment → Type 0
AgreeTo n a b = (v : ℕ) → 0 < v → v ≤ n → a v ≡ b v

-- which assignments satisfy clauses, and which variables clauses name
pub record Satisfaction : Type 0 where
  -- of clauses after others
  pub append : (a : Assignment) (cs ds : List Clause)
      → satisfies_all a (cs ++ ds) ≡ (satisfies_all a cs && satisfies_all a ds)
  -- of a beginning
  pub begin : (a : Assignment) (n : ℕ) (cs : List Clause) → satisfies_all a cs ≡ true
      → satisfies_all a (take n cs) ≡ true
  -- of assignments that agree on the variables named
  pub agree : (named : ℕ → Bool) (a b : Assignment) (cs : List Clause)
      → names_within named cs ≡ true → AgreeWhere named a b → satisfies_all a cs ≡ satisfies_all b cs
  -- of assignments that agree on the variables 1 to n, which are all that are named
  pub agree_to : (n : ℕ) (a b : Assignment) (cs : List Clause)
      → names_within (numbered_to n) cs ≡ true → AgreeTo n a b → satisfies_all a cs ≡ satisfies_all b cs
  -- which variables clauses after others name
  pub names : (named : ℕ → Bool) (cs ds : List Clause)
      → names_within named (cs ++ ds) ≡ (names_within named cs && names_within named ds)

-- of clauses of one literal each
pub record UnitClauses : Type 0 where
  -- an assignment satisfies them all exactly when every literal holds
  pub satisfied : (a : Assignment) (ls : List ℤ) → satisfies_all a (units ls) ≡ list_all (holds a) ls
  -- they are well-formed exactly when every literal is
  pub formed : (ls : List ℤ) → all_well_formed (units ls) ≡ literals_formed ls
  -- they name the literals' variables
  pub names : (named : ℕ → Bool) (ls : List ℤ) → names_within named (units ls) ≡ literals_within named ls
  -- there are as many as literals
  pub counted : (ls : List ℤ) → length (units ls) ≡ length ls
