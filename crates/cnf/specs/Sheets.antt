-- What a call that is given a sheet leaves of it, in terms of the sheet's own meaning: s is the sheet before the call
-- and t the sheet after it.
use Rattle.std.specs.Prelude.{◌≡◌, ℕ, ◌-◌, true, List, length, take, Result, Ok, IsErrAnd}
use Rattle.cnf.specs.declared.sheet_fault.SheetFault.{SheetFault}
use Rattle.cnf.specs.Calls.{each_answer, each_held, all_answer, all_held, whole_answer, whole_held}
use Rattle.cnf.specs.Clauses.{Clause, all_well_formed}
use Rattle.cnf.specs.declared.sheet.Sheet.{Ghosts}

-- whatever the call did, the sheet's rule and its loan stay
pub record SameSheet {S : Type 0} (sheet : Ghosts S) (s t : S) : Type 0 where
  pub rule : sheet.fits t ≡ sheet.fits s
  pub same : sheet.loan t ≡ sheet.loan s

-- clauses are given one after another, up to the first that is refused
pub record GivenEach {S : Type 0} (sheet : Ghosts S) (s t : S) (r : Result (Unit {0}) SheetFault)
    (cs : List Clause) : Type 0 where
  pub rule : sheet.fits t ≡ sheet.fits s
  pub same : sheet.loan t ≡ sheet.loan s
  pub answer : r ≡ each_answer (sheet.fits s) (sheet.held s) cs
  pub after : sheet.held t ≡ each_held (sheet.fits s) (sheet.held s) cs

-- all were given, and there are so many more
pub record AllGiven {S : Type 0} (sheet : Ghosts S) (s t : S) (more : ℕ) (cs : List Clause) : Type 0 where
  pub answer : each_answer (sheet.fits s) (sheet.held s) cs ≡ Ok tt
  pub after : sheet.held t ≡ each_held (sheet.fits s) (sheet.held s) cs
  pub counted : more ≡ length (sheet.held t) - length (sheet.held s)

-- one was refused, and the sheet was cut to what it held; the refusal counts that, whichever clause it was
pub record TakenBack {S : Type 0} (sheet : Ghosts S) (s t : S) (fault : SheetFault) (cs : List Clause) : Type 0 where
  pub answer : IsErrAnd (each_answer (sheet.fits s) (sheet.held s) cs) (λ first. first.cause ≡ fault.cause)
  pub counted : fault.count ≡ length (sheet.held s)
  pub after : sheet.held t ≡ take (length (sheet.held s)) (each_held (sheet.fits s) (sheet.held s) cs)

-- all of them are given, or none; where they are well-formed, all exactly when the longer list fits, in what the call
-- answers and in what is held
pub record GivenAll {S : Type 0} (sheet : Ghosts S) (s t : S) (r : Result ℕ SheetFault)
    (cs : List Clause) : Type 0 where
  pub rule : sheet.fits t ≡ sheet.fits s
  pub same : sheet.loan t ≡ sheet.loan s
  pub answer : r ≡ all_answer (sheet.fits s) (sheet.held s) cs
  pub after : sheet.held t ≡ all_held (sheet.fits s) (sheet.held s) cs
  pub whole : all_well_formed cs ≡ true → r ≡ whole_answer (sheet.fits s) (sheet.held s) cs
  pub whole_after : all_well_formed cs ≡ true → sheet.held t ≡ whole_held (sheet.fits s) (sheet.held s) cs
