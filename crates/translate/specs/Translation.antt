-- From the bytes of a schedule file to clauses: the whole file is read and entered first, then each line is written,
-- in order, from its normal form, tightened.
use Rattle.std.specs.Prelude.{◌≡◌, ℕ, suc, ◌+◌, cond, List, [], ◌∷◌, ◌++◌, length, Ok, Err, Result, nat_le}
use Rattle.fault.specs.declared.book.BookFault.TheVariants.{Reach, Auxiliary}
use Rattle.fault.specs.declared.file.FileFault.{FileFault}
use Rattle.fault.specs.declared.refusal.Refusal.{Refusal}
use Rattle.cnf.specs.declared.sheet_fault.SheetFault.{SheetFault}
use Rattle.fault.specs.Refusals.{book_refusal, sheet_refusal, file_refusal}
use Rattle.cnf.specs.Calls.{Rule, all_answer}
use Rattle.cnf.specs.Clauses.{Clause}
use Rattle.cnf.specs.declared.clause.TheConstants.{LAST_NUMBER}
use Rattle.encode.specs.declared.reaches.TheConstants.{MOST_DIRECT_TERMS}
use Rattle.encode.specs.Choice.{up_to}
use Rattle.encode.specs.Direct.{direct_encoding}
use Rattle.encode.specs.Law.{Encoding}
use Rattle.encode.specs.Order.{order_encoding}
use Rattle.pb.specs.Lines.{Line, Working}
use Rattle.pb.specs.Tightened.{working_form}
use Rattle.schedule.specs.Reading.{◌>>=◌, Schedule}
use Rattle.schedule.specs.Writing.{file_of, IsWithinLimits}
use Rattle.translate.specs.Books.{HasRoom, enter_file}
use Rattle.translate.specs.declared.header.Header.{Header}
use Rattle.translate.specs.declared.taking.TheConstants.{MOST_LINES, MOST_BOOK_TERMS}

-- lines of few terms go to the direct encoder, and the others to the order encoder
abbrev pub encoding : Encoding
encoding = up_to MOST_DIRECT_TERMS direct_encoding order_encoding

-- how far writing has come: the clauses held, and the highest number taken by a variable or an auxiliary
pub record Progress : Type 0 where
  pub held : List Clause
  pub numbers : ℕ

-- so many auxiliaries and these clauses more, or the sheet's refusal
abbrev pub advanced : Progress → ℕ → List Clause → Result ℕ SheetFault → Result Progress Refusal
advanced p takes ds (Ok many) = Ok (record { held = p.held ++ ds; numbers = p.numbers + takes })
advanced p takes ds (Err e) = Err (sheet_refusal e)

-- what a sheet of some rule answers that is given a list of clauses after those that it holds
abbrev pub Giving : Type 0
Giving = Rule → List Clause → List Clause → Result ℕ SheetFault

-- a line of this number written in its working form, where a sheet answers like this
abbrev pub write_with : Giving → Encoding → Rule → ℕ → Progress → Working → Result Progress Refusal
write_with give e fits number p w =
    cond (e.reach w (suc p.numbers))
    (cond (nat_le (p.numbers + e.takes w (suc p.numbers)) LAST_NUMBER)
    (advanced p (e.takes w (suc p.numbers)) (e.clauses w (suc p.numbers))
    (give fits p.held (e.clauses w (suc p.numbers))))
    (Err (book_refusal (Auxiliary number) 0)))
    (Err (book_refusal (Reach number) 0))

-- lines of a job of n variables, of which the first has this number, written one after the other by an encoder of this
-- meaning
abbrev pub lines_with : Giving → Encoding → Rule → ℕ → ℕ → Progress → List Line → Result Progress Refusal
lines_with give e fits n number p [] = Ok p
lines_with give e fits n number p (l ∷ ls) = do
  q ← write_with give e fits number p (working_form n l)
  lines_with give e fits n (suc number) q ls

abbrev pub schedule_with : Giving → Encoding → Rule → List Clause → Schedule → Result Progress Refusal
schedule_with give e fits cs s =
    lines_with give e fits s.variables 1 (record { held = cs; numbers = s.variables }) s.lines

-- clause by clause, as the program gives them
abbrev pub write_by : Encoding → Rule → ℕ → Progress → Working → Result Progress Refusal
write_by = write_with all_answer

abbrev pub lines_written : Encoding → Rule → ℕ → ℕ → Progress → List Line → Result Progress Refusal
lines_written = lines_with all_answer

abbrev pub write_schedule : Encoding → Rule → List Clause → Schedule → Result Progress Refusal
write_schedule = schedule_with all_answer

abbrev pub or_refusal : {X : Type 0} → Result X FileFault → Result X Refusal
or_refusal (Ok x) = Ok x
or_refusal (Err e) = Err (file_refusal e)

abbrev pub translation : Encoding → Rule → List Clause → List ℕ → Result Progress Refusal
translation e fits cs input = or_refusal (enter_file input) >>= write_schedule e fits cs

-- the file was translated: the sheet that held cs holds ds, and the header has the highest number that the file takes
-- and how many clauses the sheet holds then
pub record Done (e : Encoding) (fits : Rule) (input : List ℕ) (cs ds : List Clause) (h : Header) : Type 0 where
  pub written : translation e fits cs input ≡ Ok (record { held = ds; numbers = h.variables })
  pub clauses : h.clauses ≡ length ds

-- the file was refused, and the sheet holds what it held
pub record Undone (e : Encoding) (fits : Rule) (input : List ℕ) (cs ds : List Clause) (r : Refusal) : Type 0 where
  pub refusal : translation e fits cs input ≡ Err r
  pub same : ds ≡ cs

-- the file of a schedule gives the clauses of just that schedule
abbrev pub OfSchedules : Encoding → Rule → List ℕ → List Clause → Type 0
OfSchedules e fits input cs = (s : Schedule) → IsWithinLimits s → HasRoom MOST_LINES MOST_BOOK_TERMS s
    → input ≡ file_of s
    → translation e fits cs input ≡ write_schedule e fits cs s
