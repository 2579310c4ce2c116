-- What the law of an encoder comes to: the assignments of the variables that extend to a model of a line's clauses
-- are exactly those that meet the line, and each extends in one way.
use Rattle.std.specs.Prelude.{◌≡◌, ℕ, ◌+◌, ◌<◌, List, true}
use Rattle.cnf.specs.Clauses.{Clause, satisfies_all}
use Rattle.encode.specs.Law.{Encoding, InReach, AgreeUpTo}
use Rattle.pb.specs.Lines.{Working}
use Rattle.pb.specs.Meaning.{Assignment, met}

-- an assignment of variables and auxiliaries that agrees with a on the variables 1 to n and satisfies the clauses
pub record Model (n : ℕ) (ds : List Clause) (a v : Assignment) : Type 0 where
  pub agrees : AgreeUpTo n v a
  pub satisfied : satisfies_all v ds ≡ true

pub record Extends (e : Encoding) (n first : ℕ) (w : Working) (a : Assignment) : Type 0 where
  pub some : met a w ≡ true → (v : Assignment) × Model n (e.clauses w first) a v
  pub only : (v : Assignment) → Model n (e.clauses w first) a v → met a w ≡ true
  pub one : (u v : Assignment) → Model n (e.clauses w first) a u → Model n (e.clauses w first) a v
      → (j : ℕ) → j < e.takes w first → u (first + j) ≡ v (first + j)

abbrev pub ModelsExtend : Encoding → Type 0
ModelsExtend e = (n first : ℕ) (w : Working) → InReach e n first w → (a : Assignment) → Extends e n first w a
