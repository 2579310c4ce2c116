-- What clauses mean whose assignments of the variables 1 to n, where they extend to a model, are just those that are
-- wanted: said of assignments of all numbers, and of settings, which give the auxiliaries' values alone.
use Rattle.std.specs.Prelude.{◌≡◌, ℕ, suc, ◌-◌, ◌≤◌, Bool, true, false, cond, ◌↔◌, List, length}
use Rattle.std.specs.Prelude.{nat_le, slice_index_or}
use Rattle.cnf.specs.Clauses.{Clause, satisfies_all, names_within, numbered_to}
use Rattle.encode.specs.Law.{AgreeUpTo}
use Rattle.encode.specs.Models.{Model}
use Rattle.pb.specs.Meaning.{Assignment}

-- clauses whose variables and auxiliaries together have the numbers up to `last`: the assignments of the variables
-- that extend to a model are exactly those wanted, and each extends in one way
pub record Solutions (n last : ℕ) (wanted : Assignment → Bool) (ds : List Clause) : Type 0 where
  pub variables : n ≤ last
  pub names : names_within (numbered_to last) ds ≡ true
  pub some : (a : Assignment) → wanted a ≡ true → (v : Assignment) × Model n ds a v
  pub only : (a v : Assignment) → Model n ds a v → wanted a ≡ true
  pub one : (a u v : Assignment) → Model n ds a u → Model n ds a v → AgreeUpTo last u v

-- the values of auxiliaries, in the order of their numbers
abbrev pub Setting : Type 0
Setting = List Bool

-- an assignment of the variables 1 to n, and after them a setting
abbrev pub with_setting : ℕ → Assignment → Setting → Assignment
with_setting n a s x = cond (nat_le x n) (a x) (slice_index_or s (x - suc n) false)

-- a setting of just so many auxiliaries with which an assignment satisfies the clauses
pub record Satisfies (n takes : ℕ) (ds : List Clause) (a : Assignment) (s : Setting) : Type 0 where
  pub size : length s ≡ takes
  pub satisfied : satisfies_all (with_setting n a s) ds ≡ true

-- an assignment is wanted exactly when some setting satisfies the clauses with it, and there are never two
pub record SettingSolutions (n takes : ℕ) (wanted : Assignment → Bool) (ds : List Clause) : Type 0 where
  pub exactly : (a : Assignment) → (wanted a ≡ true) ↔ ((s : Setting) × Satisfies n takes ds a s)
  pub one : (a : Assignment) (s r : Setting) → Satisfies n takes ds a s → Satisfies n takes ds a r → s ≡ r
