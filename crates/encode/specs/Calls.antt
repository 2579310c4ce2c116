-- What the calls of an encoder answer, and what the sheet holds then.
use Rattle.std.specs.Prelude.{◌≡◌, ℕ, false, cond, List, Some, None, Ok, Err, Option, Result}
use Rattle.cnf.specs.declared.sheet_fault.SheetFault.{SheetFault}
use Rattle.cnf.specs.Calls.{Rule, all_answer, all_held, whole_answer, whole_held}
use Rattle.cnf.specs.Clauses.{Clause}
use Rattle.cnf.specs.declared.sheet.Sheet.{Ghosts}
use Rattle.encode.specs.declared.cost.Cost.{Cost}
use Rattle.encode.specs.declared.encode_fault.EncodeFault.{EncodeFault}
use Rattle.encode.specs.declared.encode_fault.EncodeFault.TheVariants.{Reach, Sheet}
use Rattle.encode.specs.Law.{Encoding, InReach}
use Rattle.pb.specs.Lines.{Working}

-- what encoding a line comes to, or nothing where it is out of reach
abbrev pub cost_of : Encoding → Working → ℕ → Cost
cost_of e w first = record { auxiliaries = e.takes w first }

abbrev pub reach_answer : Encoding → Working → ℕ → Option Cost
reach_answer e w first = cond (e.reach w first) (Some (cost_of e w first)) None

abbrev pub or_sheet : Result ℕ SheetFault → Result ℕ EncodeFault
or_sheet (Ok n) = Ok n
or_sheet (Err fault) = Err (Sheet fault)

-- a line in reach is refused by the sheet alone
abbrev pub encode_answer : Encoding → Rule → List Clause → Working → ℕ → Result ℕ EncodeFault
encode_answer e fits cs w first =
    cond (e.reach w first) (or_sheet (all_answer fits cs (e.clauses w first))) (Err Reach)

abbrev pub encode_held : Encoding → Rule → List Clause → Working → ℕ → List Clause
encode_held e fits cs w first = cond (e.reach w first) (all_held fits cs (e.clauses w first)) cs

-- what encoding a line leaves of the sheet, which is s before the call and t after it; where the law speaks of the
-- line, all its clauses go on exactly when the longer list fits, and else it is refused with the count before the
-- call
pub record Encoded {S : Type 0} (sheet : Ghosts S) (s t : S) (r : Result ℕ EncodeFault)
    (e : Encoding) (w : Working) (first : ℕ) : Type 0 where
  pub rule : sheet.fits t ≡ sheet.fits s
  pub same : sheet.loan t ≡ sheet.loan s
  pub answer : r ≡ encode_answer e (sheet.fits s) (sheet.held s) w first
  pub after : sheet.held t ≡ encode_held e (sheet.fits s) (sheet.held s) w first
  pub whole_list : (n : ℕ) → InReach e n first w
      → (r ≡ or_sheet (whole_answer (sheet.fits s) (sheet.held s) (e.clauses w first)))
      × (sheet.held t ≡ whole_held (sheet.fits s) (sheet.held s) (e.clauses w first))

-- a line out of reach leaves the sheet itself, and not only what it holds
abbrev pub UntouchedOutOfReach : {S : Type 0} → Encoding → Working → ℕ → S → S → Type 0
UntouchedOutOfReach e w first s t = e.reach w first ≡ false → t ≡ s
