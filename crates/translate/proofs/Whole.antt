-- The lines of a file that was entered pass their checks and its numbers are in range, so that by its encoder's law
-- each line's clauses are well-formed: they go on as a whole list or not at all.
use Rattle.std.proofs.Common.{◌≡◌, ℕ, suc, ◌+◌, ◌<◌, ◌≤◌, Bool, true, false, cond, leb, List, [], ◌∷◌, ◌++◌, Ok}
use Rattle.std.proofs.Common.{Err, Result, refl, ap, ◌∙◌, arith}
use Rattle.std.proofs.lemmas.Bool.{leb-true}
use Rattle.std.specs.List.{AllByRecursion}
use Rattle.std.specs.Result.{is_ok}
use Rattle.fault.specs.declared.file.FileFault.{FileFault}
use Rattle.fault.specs.declared.refusal.Refusal.{Refusal}
use Rattle.cnf.specs.declared.sheet_fault.SheetFault.{SheetFault}
use Rattle.cnf.specs.Calls.{Rule, Begins, whole_answer}
use Rattle.cnf.specs.Clauses.{Clause}
use Rattle.cnf.proofs.GivingEach.{all_whole}
use Rattle.cnf.specs.declared.clause.TheConstants.{LAST_NUMBER}
use Rattle.encode.specs.Law.{Encoding, InReach, Lawful}
use Rattle.pb.specs.declared.variables.TheConstants.{MOST_VARIABLES}
use Rattle.pb.specs.Checks.{PassesChecks}
use Rattle.pb.specs.Lines.{Line}
use Rattle.schedule.specs.Reading.{◌>>=◌, Schedule}
use Rattle.schedule.specs.Writing.{IsWithinLimits}
use Rattle.schedule.proofs.LinesPass.{reads_within}
use Rattle.translate.specs.declared.taking.TheConstants.{MOST_LINES, MOST_BOOK_TERMS}
use Rattle.translate.specs.Books.{enter_file}
use Rattle.pb.specs.Tightened.{working_form}
use Rattle.translate.specs.Translation.{Progress, advanced, write_with, write_by, lines_with}
use Rattle.translate.specs.Translation.{lines_written, schedule_with, write_schedule, or_refusal}
use Rattle.translate.specs.Whole.{WholeLists}
use Rattle.translate.proofs.Books.{enters_what_fits}
use Rattle.pb.proofs.Forms.{forms_keep}

-- what was entered was read, and so is within the limits
pub entered_within : (input : List ℕ) (s : Schedule) → enter_file input ≡ Ok s → IsWithinLimits s
entered_within input s h = reads_within input s ((enters_what_fits MOST_LINES MOST_BOOK_TERMS input s).0 h).0

-- a line in its working form is written as a whole, and then what is held fits
cond_same : {X : Type 0} (b : Bool) (x y z : X) → (b ≡ true → x ≡ y) → cond b x z ≡ cond b y z
cond_same true x y z h = h refl
cond_same false x y z h = refl

bind_same : {X Y E : Type 0} (r : Result X E) (f g : X → Result Y E) → ((x : X) → r ≡ Ok x → f x ≡ g x)
    → (r >>= f) ≡ (r >>= g)
bind_same (Ok x) f g h = h x refl
bind_same (Err e) f g h = refl

-- a line that was written was in reach, its auxiliaries were in range, and its clauses were added to those held
pub written_ok : (near short : Bool) (p q : Progress) (k : ℕ) (ds : List Clause) (r : Result ℕ SheetFault)
    (x y : Refusal)
    → cond near (cond short (advanced p k ds r) (Err x)) (Err y) ≡ Ok q
    → (near ≡ true) × (short ≡ true) × (is_ok r ≡ true) × (q ≡ record { held = p.held ++ ds; numbers = p.numbers + k })
written_ok true true p q k ds (Ok many) x y h =
    let e : q ≡ record { held = p.held ++ ds; numbers = p.numbers + k } = cc in (refl, refl, refl, e)
written_ok true true p q k ds (Err f) x y h = cc
written_ok true false p q k ds r x y h = cc
written_ok false short p q k ds r x y h = cc

-- and they fitted, where a list goes on as a whole
fit_ok : (fit : Bool) (many : ℕ) (full : SheetFault) → is_ok (cond fit (Ok many) (Err full)) ≡ true → fit ≡ true
fit_ok true many full h = refl
fit_ok false many full h = h

-- a job has so many variables
abbrev pub IsCount : ℕ → Type 0
IsCount n = (0 < n) × (n ≤ MOST_VARIABLES)

-- so its working form is one that the encoder's law speaks of
pub in_reach : (e : Encoding) (n before : ℕ) (l : Line) → IsCount n → PassesChecks n l → n ≤ before
    → e.reach (working_form n l) (suc before) ≡ true
    → leb (before + e.takes (working_form n l) (suc before)) LAST_NUMBER ≡ true
    → InReach e n (suc before) (working_form n l)
in_reach e n before l count sound known near short =
    let below = leb-true _ _ short in
    record {
      some = count.0;
      many = count.1;
      is_normal = (forms_keep n l sound).0;
      reached = near;
      above = omega arith;
      below = omega arith;
    }

module _ (e : Encoding) (law : Lawful e) (fits : Rule) (begins : Begins fits) (n : ℕ) (count : IsCount n) where
  line_whole : (number : ℕ) (p : Progress) (l : Line) → PassesChecks n l → fits p.held ≡ true → n ≤ p.numbers
      → write_by e fits number p (working_form n l) ≡ write_with whole_answer e fits number p (working_form n l)
  line_whole number p l sound fit known =
      let w = working_form n l in
      let ds = e.clauses w (suc p.numbers) in
      let takes = e.takes w (suc p.numbers) in
      cond_same (e.reach w (suc p.numbers)) _ _ _ (λ near.
      cond_same (leb (p.numbers + takes) LAST_NUMBER) _ _ _ (λ short.
      let formed = law.formed n (suc p.numbers) w (in_reach e n p.numbers l count sound known near short) in
      ap (advanced p takes ds) (all_whole fits p.held ds begins fit formed)))

  all_lines_whole : (ls : List Line) (number : ℕ) (p : Progress) → AllByRecursion (PassesChecks n) ls
      → fits p.held ≡ true → n ≤ p.numbers
      → lines_written e fits n number p ls ≡ lines_with whole_answer e fits n number p ls
  all_lines_whole [] number p checked fit known = refl
  all_lines_whole (l ∷ ls) number p checked fit known =
      let w = working_form n l in
      let ds = e.clauses w (suc p.numbers) in
      ap (λ r. r >>= λ q. lines_written e fits n (suc number) q ls) (line_whole number p l checked.0 fit known)
      ∙ bind_same (write_with whole_answer e fits number p w) _ _ (λ q is.
      let takes = e.takes w (suc p.numbers) in
      let after = written_ok (e.reach w (suc p.numbers)) (leb (p.numbers + takes) LAST_NUMBER) p q takes ds
      _ _ _ is in
      let fit = fit_ok (fits (p.held ++ ds)) _ _ after.2 in
      let more = ap (λ (r : Progress). r.numbers) after.3 in
      all_lines_whole ls (suc number) q checked.1 (ap (λ (r : Progress). fits r.held) after.3 ∙ fit) (omega arith))

pub or_refusal_ok : {X : Type 0} (r : Result X FileFault) (x : X) → or_refusal r ≡ Ok x → r ≡ Ok x
or_refusal_ok (Ok y) x h = let e : y ≡ x = cc in ap Ok e
or_refusal_ok (Err e) x h = cc

pub whole_lists : (e : Encoding) (fits : Rule) (cs : List Clause) (input : List ℕ)
    → Lawful e → Begins fits → fits cs ≡ true → WholeLists e fits input cs
whole_lists e fits cs input law begins fit =
    bind_same
    (or_refusal (enter_file input)) (write_schedule e fits cs) (schedule_with whole_answer e fits cs) (λ s is.
    let start : Progress = record { held = cs; numbers = s.variables } in
    let within = entered_within input s (or_refusal_ok _ s is) in
    all_lines_whole e law fits begins s.variables (within.some, within.few) s.lines 1 start within.lines_pass fit
    (omega arith))
