-- What an encoder means, and the law that it owes.
use Rattle.std.specs.Prelude.{◌≡◌, ℕ, suc, ◌+◌, ◌<◌, ◌≤◌, Bool, true, ◌&&◌, ◌||◌, ◌↔◌, List, nat_le, nat_lt}
use Rattle.cnf.specs.declared.clause.TheConstants.{LAST_NUMBER}
use Rattle.cnf.specs.Clauses.{Clause, satisfies_all, all_well_formed, names_within}
use Rattle.pb.specs.declared.variables.TheConstants.{MOST_VARIABLES}
use Rattle.pb.specs.Lines.{Working}
use Rattle.pb.specs.Meaning.{Assignment, met}
use Rattle.pb.specs.WorkingForm.{IsNormal}

-- for a line and the number that its auxiliaries are numbered on from: whether it is in reach, how many auxiliaries
-- it takes, its clauses, and the value of each auxiliary, counted from 0, under an assignment of the variables
pub record Encoding : Type 0 where
  pub reach : Working → ℕ → Bool
  pub takes : Working → ℕ → ℕ
  pub clauses : Working → ℕ → List Clause
  pub value : Working → ℕ → Assignment → ℕ → Bool

-- whether a number is that of a variable from 1 to n, or of one of k auxiliaries from `first` on
abbrev pub is_of_line : ℕ → ℕ → ℕ → ℕ → Bool
is_of_line n first k x = (nat_lt 0 x && nat_le x n) || (nat_le first x && nat_lt x (first + k))

-- a line in normal form in reach on the variables 1 to n of a job; its auxiliaries, numbered on from `first`, come
-- after the variables, and the last of them has a number that a clause may name
pub record InReach (e : Encoding) (n first : ℕ) (w : Working) : Type 0 where
  pub some : 0 < n
  pub many : n ≤ MOST_VARIABLES
  pub is_normal : IsNormal n w
  pub reached : e.reach w first ≡ true
  pub above : n < first
  pub below : first + e.takes w first ≤ suc LAST_NUMBER

-- two assignments give the numbers up to n the same values; 0 is the number of none
abbrev pub AgreeUpTo : ℕ → Assignment → Assignment → Type 0
AgreeUpTo n u v = (x : ℕ) → x ≤ n → u x ≡ v x

-- the law: the list names only these variables and auxiliaries, its clauses are well-formed, and an assignment v of
-- both satisfies it exactly when it meets the line and gives every auxiliary its value, where a is any assignment
-- that agrees with v on the variables
pub record Lawful (e : Encoding) : Type 0 where
  pub names : (n first : ℕ) (w : Working) → InReach e n first w
      → names_within (is_of_line n first (e.takes w first)) (e.clauses w first) ≡ true
  pub formed : (n first : ℕ) (w : Working) → InReach e n first w → all_well_formed (e.clauses w first) ≡ true
  pub means : (n first : ℕ) (w : Working) → InReach e n first w → (a v : Assignment) → AgreeUpTo n v a
      → (satisfies_all v (e.clauses w first) ≡ true)
      ↔ ((met a w ≡ true) × ((j : ℕ) → j < e.takes w first → v (first + j) ≡ e.value w first a j))
