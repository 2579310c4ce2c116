-- What a ceiling has: the sheet below and the limit; and when it passes a clause on to that sheet.
use Rattle.std.specs.Borrow.{GName}
use Rattle.std.specs.Prelude.{◌≡◌, ℕ, Bool, ◌&&◌, List, length, nat_lt}
use Rattle.cnf.specs.Calls.{Rule, limited_to}
use Rattle.cnf.specs.Clauses.{Clause, well_formed}
use Rattle.cnf.specs.declared.sheet.Sheet.{Ghosts}
use Rattle.sheets.specs.declared.ceiling.Ceiling.{Ceiling}

module _ {S : Type 0} {sheet : Ghosts S} where
  abbrev pub below_of : Ceiling S sheet → S
  below_of s = s.below.now

  -- the name of the loan of it
  abbrev pub loan_of : Ceiling S sheet → GName
  loan_of s = s.below.ghost_name

  abbrev pub limit_of : Ceiling S sheet → ℕ
  limit_of s = s.most

  -- the clauses held, and which lists fit
  abbrev pub held_by : Ceiling S sheet → List Clause
  held_by s = sheet.held s.below.now

  abbrev pub fits_in : Ceiling S sheet → Rule
  fits_in s = limited_to s.most (sheet.fits s.below.now)

  -- the limit is the same, and of the sheet below stays what it says
  pub record Unchanged (s t : Ceiling S sheet) : Type 0 where
    pub limit : limit_of t ≡ limit_of s
    pub below : sheet.unchanged (below_of s) (below_of t)

-- a malformed clause and, at the limit, every clause is refused by the ceiling itself
abbrev pub passes_on : ℕ → List Clause → Clause → Bool
passes_on limit cs c = well_formed c && nat_lt (length cs) limit
