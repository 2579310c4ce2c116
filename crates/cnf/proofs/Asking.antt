-- One literal of one clause, both counted from 1, by the clause's own list.
use Rattle.std.proofs.Common.{◌≡◌, ℕ, zero, suc, ◌-◌, ◌<◌, ◌≤◌, true, List, [], ◌∷◌, length, get_or, Some, sym, ap}
use Rattle.std.proofs.Common.{◌∙◌, arith}
use Rattle.std.specs.List.{slice_get}
use Rattle.std.proofs.lemmas.Bool.{and_parts}
use Rattle.std.proofs.lemmas.Option.{slice_get-get_or}
use Rattle.cnf.specs.Clauses.{Clause, well_formed, all_well_formed, literal_of, literal_at}

pub clause_is : (cs : List Clause) (i j : ℕ) (d : Clause) → 0 < i → i ≤ length cs
    → literal_of (Some (get_or cs (i - 1) d)) j ≡ literal_at cs i j
clause_is cs zero j d h k = absurd (omega arith)
clause_is cs (suc i) j d h k =
    ap (λ n. literal_of (Some (get_or cs n d)) j) (let e : suc i - 1 ≡ i = omega arith in e)
    ∙ ap (λ o. literal_of o j) (sym (slice_get-get_or cs i d (omega arith)))

pub formed_clause : (cs : List Clause) (k : ℕ) (d : Clause) → all_well_formed cs ≡ true → k < length cs
    → well_formed (get_or cs k d) ≡ true
formed_clause [] k d h l = absurd (omega arith)
formed_clause (c ∷ cs) zero d h l = (and_parts (well_formed c) (all_well_formed cs) h).0
formed_clause (c ∷ cs) (suc k) d h l =
    formed_clause cs k d (and_parts (well_formed c) (all_well_formed cs) h).1 (omega arith)

pub literal_next : (c : Clause) (j k : ℕ) → j ≡ suc k → slice_get c.literals k ≡ literal_of (Some c) j
literal_next c j k e = ap (literal_of (Some c)) (sym e)
