-- A rule with a limit on the number of clauses, and what it takes.
use Rattle.std.proofs.Common.{◌≡◌, ℕ, ◌≤◌, true, leb, List, length, take, arith, length-take}
use Rattle.std.proofs.lemmas.Bool.{and_parts, and_from, le-leb, leb-true}
use Rattle.cnf.specs.Calls.{Rule, Begins, limited_to}
use Rattle.cnf.specs.Clauses.{Clause}

module _ (most : ℕ) (fits : Rule) where
  pub limited_begins : Begins fits → Begins (limited_to most fits)
  limited_begins begins n cs h =
      let p = and_parts (leb (length cs) most) (fits cs) h in
      and_from _ _ (le-leb (length (take n cs)) most (omega (arith, leb-true _ _ p.0, length-take n cs)))
      (begins n cs p.1)

  pub limited_holds : (cs : List Clause) → length cs ≤ most → fits cs ≡ true → limited_to most fits cs ≡ true
  limited_holds cs few fit = and_from _ _ (le-leb (length cs) most few) fit
