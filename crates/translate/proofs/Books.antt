-- What is entered is just what is read as a schedule that there is room for.
use Rattle.std.proofs.Common.{◌≡◌, ℕ, suc, ◌+◌, ◌-◌, ◌≤◌, ◌&&◌, Bool, true, false, cond, leb, ltb, List, [], ◌∷◌}
use Rattle.std.proofs.Common.{length, map, sum_by, Some, None, Ok, Err, Option, Result, sym, refl, ap, ◌∙◌, subst}
use Rattle.std.proofs.Common.{arith}
use Rattle.std.proofs.lemmas.List.{length-map}
use Rattle.std.proofs.lemmas.List.Sums.{sum_by-cons}
use Rattle.std.proofs.lemmas.Bool.{and_parts, ltb-true, leb-true, lt-ltb, le-leb}
use Rattle.fault.specs.declared.file.FileFault.{FileFault}
use Rattle.pb.specs.Lines.{Line}
use Rattle.schedule.specs.Reading.{◌>>=◌, PlacedLine, FileRead, Schedule, schedule_unless, schedule_read, read_file}
use Rattle.schedule.specs.Reading.{read_schedule}
use Rattle.schedule.specs.Writing.{file_of, IsWithinLimits}
use Rattle.schedule.proofs.Steps.{bind_ok}
use Rattle.schedule.proofs.WholeFiles.{reads_back}
use Rattle.translate.specs.declared.taking.TheConstants.{MOST_LINES, MOST_BOOK_TERMS}
use Rattle.translate.specs.Books.{no_more_lines, enter_placed, enter_schedule, enter_file, HasRoom, EntersWhatFits}

-- the lines as they were read
abbrev lines_of : List PlacedLine → List Line
lines_of ps = map (λ p. p.line) ps

abbrev terms_of : List Line → ℕ
terms_of ls = sum_by (λ l. length l.terms) ls

terms_of-cons : (l : Line) (ls : List Line) → terms_of (l ∷ ls) ≡ length l.terms + terms_of ls
terms_of-cons l ls = sum_by-cons (λ l. length l.terms) l ls

-- lines that were all entered
record AllEntered (most held free : ℕ) (ps : List PlacedLine) (fault : Option FileFault)
    (ls : List Line) : Type 0 where
  no_fault : fault ≡ None
  same : lines_of ps ≡ ls
  lines_fit : length ls ≤ most - held
  terms_fit : terms_of ls ≤ free

none_entered : (most held free : ℕ) (fault : Option FileFault) (ls : List Line) → no_more_lines fault ≡ Ok ls
    → AllEntered most held free [] fault ls
none_entered most held free None [] h =
    record { no_fault = refl; same = refl; lines_fit = omega arith; terms_fit = omega arith }
none_entered most held free None (l ∷ ls) h = cc
none_entered most held free (Some e) ls h = cc

first_entered : (most held free : ℕ) (p : PlacedLine) (ps : List PlacedLine) (fault : Option FileFault) (b : Bool)
    (x : FileFault)
    (ls : List Line) → (ltb held most && leb (length p.line.terms) free) ≡ b
    → ((ms : List Line) → enter_placed most (suc held) (free - length p.line.terms) ps fault ≡ Ok ms
    → AllEntered most (suc held) (free - length p.line.terms) ps fault ms)
    → cond b (enter_placed most (suc held) (free - length p.line.terms) ps fault >>= λ ms. Ok (p.line ∷ ms)) (Err x)
    ≡ Ok ls
    → AllEntered most held free (p ∷ ps) fault ls
first_entered most held free p ps fault true x ls room later h =
    let rest = bind_ok (enter_placed most (suc held) (free - length p.line.terms) ps fault) (λ ms. Ok (p.line ∷ ms))
    ls h in
    let more = later rest.0 rest.1 in
    let is : p.line ∷ rest.0 ≡ ls = cc in
    let test = and_parts _ _ room in
    let line_free = ltb-true held most test.0 in
    let terms_free = leb-true (length p.line.terms) free test.1 in
    let l = more.lines_fit in
    let t = more.terms_fit in
    subst (AllEntered most held free (p ∷ ps) fault) is (record {
      no_fault = more.no_fault;
      same = ap (λ ms. p.line ∷ ms) more.same;
      lines_fit = omega arith;
      terms_fit = omega (arith, terms_of-cons p.line rest.0);
    })
first_entered most held free p ps fault false x ls room later h = cc

all_entered : (most held free : ℕ) (ps : List PlacedLine) (fault : Option FileFault) (ls : List Line)
    → enter_placed most held free ps fault ≡ Ok ls → AllEntered most held free ps fault ls
all_entered most held free [] fault ls h = none_entered most held free fault ls h
all_entered most held free (p ∷ ps) fault ls h =
    first_entered most held free p ps fault _ _ ls refl
    (all_entered most (suc held) (free - length p.line.terms) ps fault) h

-- lines that there is room for
fitting_entered : (most held free : ℕ) (ps : List PlacedLine) → length ps ≤ most - held → terms_of (lines_of ps) ≤ free
    → enter_placed most held free ps None ≡ Ok (lines_of ps)
fitting_entered most held free [] lines_fit terms_fit = refl
fitting_entered most held free (p ∷ ps) lines_fit terms_fit =
    let terms = terms_of-cons p.line (lines_of ps) in
    let line_free : ltb held most ≡ true = lt-ltb held most (omega arith) in
    let terms_free : leb (length p.line.terms) free ≡ true = le-leb (length p.line.terms) free (omega arith) in
    let others = fitting_entered most (suc held) (free - length p.line.terms) ps (omega arith) (omega arith) in
    rw (line_free, terms_free, others) refl

-- a schedule that was read had no fault
whole_read : (r : FileRead) (s : Schedule) (fault : Option FileFault)
    → schedule_unless (record { variables = r.variables; lines = lines_of r.lines }) fault ≡ Ok s
    → (fault ≡ None) × (record { variables = r.variables; lines = lines_of r.lines } ≡ s)
whole_read r s None h = (refl, cc)
whole_read r s (Some e) h = cc

read_as : (most free : ℕ) (r : FileRead) (ls : List Line) (s : Schedule) → AllEntered most 0 free r.lines r.fault ls
    → record { variables = r.variables; lines = ls } ≡ s → (schedule_read r ≡ Ok s) × HasRoom most free s
read_as most free r ls s all is =
    let read = ap (schedule_unless (record { variables = r.variables; lines = lines_of r.lines })) all.no_fault
    ∙ ap (λ ms. Ok (record { variables = r.variables; lines = ms })) all.same in
    subst (λ t. (schedule_read r ≡ Ok t) × HasRoom most free t) is
    (read, record { lines_fit = omega (arith, all.lines_fit); terms_fit = all.terms_fit })

entered_as : (most free : ℕ) (r : FileRead) (s : Schedule)
    → (r.fault ≡ None) × (record { variables = r.variables; lines = lines_of r.lines } ≡ s)
    → HasRoom most free s → enter_schedule most free r ≡ Ok s
entered_as most free r s whole room =
    let fits = subst (HasRoom most free) (sym whole.1) room in
    let many = length-map r.lines (λ (p : PlacedLine). p.line) in
    let l = fits.lines_fit in
    let all = fitting_entered most 0 free r.lines (omega arith) fits.terms_fit in
    let done : List Line → Result Schedule FileFault = λ ls. Ok (record { variables = r.variables; lines = ls }) in
    ap (λ f. enter_placed most 0 free r.lines f >>= done) whole.0 ∙ ap (λ o. o >>= done) all
    ∙ ap Ok whole.1

entered_is_read : (most free : ℕ) (input : List ℕ) (s : Schedule) → enter_schedule most free (read_file input) ≡ Ok s
    → (read_schedule input ≡ Ok s) × HasRoom most free s
entered_is_read most free input s h =
    let r = read_file input in
    let p = bind_ok (enter_placed most 0 free r.lines r.fault) _ s h in
    read_as most free r p.0 s (all_entered most 0 free r.lines r.fault p.0 p.1) cc

read_is_entered : (most free : ℕ) (input : List ℕ) (s : Schedule) → read_schedule input ≡ Ok s → HasRoom most free s
    → enter_schedule most free (read_file input) ≡ Ok s
read_is_entered most free input s h room =
    entered_as most free (read_file input) s (whole_read (read_file input) s _ h) room

pub enters_what_fits : EntersWhatFits
enters_what_fits most free input s =
    (entered_is_read most free input s, λ p. read_is_entered most free input s p.0 p.1)

-- and the file of such a schedule is read as it
pub enters_file : (input : List ℕ) (s : Schedule) → IsWithinLimits s → HasRoom MOST_LINES MOST_BOOK_TERMS s
    → input ≡ file_of s → enter_file input ≡ Ok s
enters_file input s within room is =
    read_is_entered MOST_LINES MOST_BOOK_TERMS input s (ap read_schedule is ∙ (reads_back s within).0) room
