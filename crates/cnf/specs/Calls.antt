-- What the calls of a sheet answer, and what it holds then, by its rule which lists fit.
use Rattle.std.specs.Prelude.{◌≡◌, ℕ, suc, Bool, true, cond, ◌&&◌, List, [], ◌∷◌, ◌++◌, length, take, is_ok, Ok, Err}
use Rattle.std.specs.Prelude.{Result, nat_le}
use Rattle.cnf.specs.declared.sheet_fault.SheetFault.{SheetFault}
use Rattle.cnf.specs.declared.sheet_fault.SheetCause.{SheetCause}
use Rattle.cnf.specs.declared.sheet_fault.SheetCause.TheVariants.{Malformed, Full, Cut}
use Rattle.cnf.specs.Clauses.{Clause, well_formed}

-- which lists of clauses fit a sheet
abbrev pub Rule : Type 0
Rule = List Clause → Bool

-- every beginning of a list that fits fits
abbrev pub Begins : Rule → Type 0
Begins fits = (n : ℕ) (cs : List Clause) → fits cs ≡ true → fits (take n cs) ≡ true

-- the lists that fit below and have at most so many clauses
abbrev pub limited_to : ℕ → Rule → Rule
limited_to most fits cs = nat_le (length cs) most && fits cs

-- a refusal by a sheet that holds cs
abbrev pub refusal_of : SheetCause → List Clause → SheetFault
refusal_of cause cs = record { cause = cause; count = length cs }

-- a clause is given to a sheet that holds cs: a malformed one is refused first, then one that would not fit
abbrev pub give_answer : Rule → List Clause → Clause → Result ℕ SheetFault
give_answer fits cs c =
    cond (well_formed c)
    (cond (fits (cs ++ c ∷ [])) (Ok (suc (length cs))) (Err (refusal_of Full cs)))
    (Err (refusal_of Malformed cs))

abbrev pub give_held : Rule → List Clause → Clause → List Clause
give_held fits cs c = cond (well_formed c && fits (cs ++ c ∷ [])) (cs ++ c ∷ []) cs

-- a sheet that holds cs is cut to its first clauses; a refused cut leaves them all, as does a beginning that is longer
abbrev pub cut_answer : List Clause → ℕ → Result (Unit {0}) SheetFault
cut_answer cs keep = cond (nat_le keep (length cs)) (Ok tt) (Err (refusal_of Cut cs))

abbrev pub cut_held : List Clause → ℕ → List Clause
cut_held cs keep = take keep cs

-- clauses are given one after another, up to the first that is refused
abbrev pub each_answer : Rule → List Clause → List Clause → Result (Unit {0}) SheetFault
each_answer fits cs [] = Ok tt
each_answer fits cs (d ∷ ds) =
    cond (well_formed d)
    (cond (fits (cs ++ d ∷ [])) (each_answer fits (cs ++ d ∷ []) ds) (Err (refusal_of Full cs)))
    (Err (refusal_of Malformed cs))

abbrev pub each_held : Rule → List Clause → List Clause → List Clause
each_held fits cs [] = cs
each_held fits cs (d ∷ ds) = cond (well_formed d && fits (cs ++ d ∷ [])) (each_held fits (cs ++ d ∷ []) ds) cs

-- the same, all or nothing: how many clauses were added, or the refusal as one of the outer call
abbrev pub all_of : List Clause → List Clause → Result (Unit {0}) SheetFault → Result ℕ SheetFault
all_of cs ds (Ok done) = Ok (length ds)
all_of cs ds (Err e) = Err (refusal_of e.cause cs)

abbrev pub all_answer : Rule → List Clause → List Clause → Result ℕ SheetFault
all_answer fits cs ds = all_of cs ds (each_answer fits cs ds)

abbrev pub all_held : Rule → List Clause → List Clause → List Clause
all_held fits cs ds = cond (is_ok (each_answer fits cs ds)) (cs ++ ds) cs

-- so well-formed clauses go on exactly when the longer list fits, and else are refused with the count before the call,
-- and the sheet holds what it held
abbrev pub whole_answer : Rule → List Clause → List Clause → Result ℕ SheetFault
whole_answer fits cs ds = cond (fits (cs ++ ds)) (Ok (length ds)) (Err (refusal_of Full cs))

abbrev pub whole_held : Rule → List Clause → List Clause → List Clause
whole_held fits cs ds = cond (fits (cs ++ ds)) (cs ++ ds) cs
