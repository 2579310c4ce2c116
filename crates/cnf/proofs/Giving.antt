-- What giving a clause that fits answers and leaves.
use Rattle.std.proofs.Common.{◌≡◌, ℕ, suc, ◌+◌, true, List, [], ◌∷◌, ◌++◌, length, Ok, ap, arith}
use Rattle.cnf.specs.Calls.{Rule, give_answer, give_held}
use Rattle.cnf.specs.Clauses.{Clause, well_formed}

pub give_taken : (fits : Rule) (cs : List Clause) (c : Clause) (n : ℕ) → well_formed c ≡ true
    → fits (cs ++ c ∷ []) ≡ true → n ≡ length cs
    → (Ok (n + 1) ≡ give_answer fits cs c) × (cs ++ c ∷ [] ≡ give_held fits cs c)
give_taken fits cs c n h u e = (rw (h, u) (ap Ok (let k : n + 1 ≡ suc (length cs) = omega arith in k)), rw (h, u))
