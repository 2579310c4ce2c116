-- What the clauses of lines mean that were encoded one after another, each with its auxiliaries numbered on after
-- those before: no line's auxiliaries are those of another, so that an assignment extends to a model of all the
-- clauses exactly when it meets all the lines.
use Rattle.std.specs.Prelude.{◌≡◌, ℕ, suc, ◌+◌, ◌≤◌, Bool, true, ◌&&◌, List, [], ◌++◌}
use Rattle.cnf.specs.Clauses.{Clause, satisfies_all, names_within, numbered_to}
use Rattle.encode.specs.Law.{Encoding, InReach, Lawful, AgreeUpTo}
use Rattle.encode.specs.Solutions.{Solutions, SettingSolutions}
use Rattle.pb.specs.Lines.{Working}
use Rattle.pb.specs.Meaning.{Assignment, met}

-- clauses that were written when the numbers up to `before` were taken, and whose auxiliaries take those up to
-- `after`: an assignment of what was taken extends to a model of them exactly when its variables, 1 to n, are as
-- wanted, and in one way
pub record Extending (n before after : ℕ) (wanted : Assignment → Bool) (ds : List Clause) : Type 0 where
  pub known : n ≤ before
  pub grows : before ≤ after
  pub names : names_within (numbered_to after) ds ≡ true
  pub some : (a v : Assignment) → AgreeUpTo n v a → wanted a ≡ true
      → (u : Assignment) × AgreeUpTo before u v × (satisfies_all u ds ≡ true)
  pub only : (a v : Assignment) → AgreeUpTo n v a → satisfies_all v ds ≡ true → wanted a ≡ true
  pub one : (u v : Assignment) → AgreeUpTo before u v
      → satisfies_all u ds ≡ true → satisfies_all v ds ≡ true → AgreeUpTo after u v

-- the laws by which the layers above show what a whole list of clauses means
pub record LinesTogether : Type 0 where
  -- of no clauses every assignment is wanted
  pub nothing : (n before : ℕ) → n ≤ before → Extending n before before (λ _. true) []
  -- of clauses that name the variables alone, those that satisfy them
  pub variables : (n before : ℕ) (wanted : Assignment → Bool) (ds : List Clause) → n ≤ before
      → names_within (numbered_to n) ds ≡ true → ((a : Assignment) → satisfies_all a ds ≡ wanted a)
      → Extending n before before wanted ds
  -- of a line's clauses, those that meet the line
  pub line : (e : Encoding) → Lawful e → (n before : ℕ) (w : Working) → InReach e n (suc before) w
      → Extending n before (before + e.takes w (suc before)) (λ a. met a w) (e.clauses w (suc before))
  -- of clauses and further ones after them, those that are wanted of both
  pub further : (n before between after : ℕ) (first next : Assignment → Bool) (ds es : List Clause)
      → Extending n before between first ds → Extending n between after next es
      → Extending n before after (λ a. first a && next a) (ds ++ es)
  -- what is wanted may be put in another way
  pub alike : (n before after : ℕ) (wanted other : Assignment → Bool) (ds : List Clause)
      → ((a : Assignment) → wanted a ≡ other a)
      → Extending n before after wanted ds → Extending n before after other ds
  -- what it comes to, where no auxiliary was taken before
  pub solutions : (n last : ℕ) (wanted : Assignment → Bool) (ds : List Clause)
      → Extending n n last wanted ds → Solutions n last wanted ds
  pub settings : (n takes : ℕ) (wanted : Assignment → Bool) (ds : List Clause)
      → Extending n n (n + takes) wanted ds → SettingSolutions n takes wanted ds
