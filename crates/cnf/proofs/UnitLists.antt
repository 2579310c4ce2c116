-- Clauses of one literal each: when they are satisfied and well-formed, and which variables they name.
use Rattle.std.proofs.Common.{◌≡◌, ℕ, suc, Bool, true, false, ◌&&◌, ◌||◌, List, [], ◌∷◌, length, ℤ, nat_abs, refl, ap}
use Rattle.std.proofs.Common.{◌∙◌}
use Rattle.std.specs.List.{list_all}
use Rattle.cnf.specs.Clauses.{satisfies_all, literal_formed, literals_formed, all_well_formed, literals_within}
use Rattle.cnf.specs.Clauses.{names_within}
use Rattle.cnf.specs.Laws.{UnitClauses}
use Rattle.cnf.specs.Units.{units}
use Rattle.pb.specs.Meaning.{Assignment, holds}

-- a test of one literal
or_nothing : (x : Bool) → (x || false) ≡ x
or_nothing true = refl
or_nothing false = refl

and_nothing : (x : Bool) → (x && true) ≡ x
and_nothing true = refl
and_nothing false = refl

satisfies_units : (a : Assignment) (ls : List ℤ) → satisfies_all a (units ls) ≡ list_all (holds a) ls
satisfies_units a [] = refl
satisfies_units a (l ∷ ls) =
    ap (λ x. x && satisfies_all a (units ls)) (or_nothing (holds a l))
    ∙ ap (λ x. holds a l && x) (satisfies_units a ls)

units_formed : (ls : List ℤ) → all_well_formed (units ls) ≡ literals_formed ls
units_formed [] = refl
units_formed (l ∷ ls) =
    ap (λ x. x && all_well_formed (units ls)) (and_nothing (literal_formed l))
    ∙ ap (λ x. literal_formed l && x) (units_formed ls)

units_within : (named : ℕ → Bool) (ls : List ℤ) → names_within named (units ls) ≡ literals_within named ls
units_within named [] = refl
units_within named (l ∷ ls) =
    ap (λ x. x && names_within named (units ls)) (and_nothing (named (nat_abs l)))
    ∙ ap (λ x. named (nat_abs l) && x) (units_within named ls)

units_length : (ls : List ℤ) → length (units ls) ≡ length ls
units_length [] = refl
units_length (l ∷ ls) = ap suc (units_length ls)

pub unit_clauses : UnitClauses
unit_clauses =
    record { satisfied = satisfies_units; formed = units_formed; names = units_within; counted = units_length }
