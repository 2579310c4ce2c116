-- A run goes on, ends at a fault, or ends as it should: what comes of the rest of the file, one line at a time.
use Rattle.std.proofs.Common.{◌≡◌, ℕ, suc, ◌+◌, ◌-◌, ◌<◌, ◌≤◌, List, ◌++◌, length, drop, Some, None, Ok, Err, Result}
use Rattle.std.proofs.Common.{sym, refl, ap, ◌∙◌, subst, inl, inr, append_assoc, arith}
use Rattle.std.proofs.lemmas.List.{drop-drop}
use Rattle.fault.specs.declared.file.FileFault.{FileFault}
use Rattle.fault.specs.declared.refusal.Refusal.{Refusal}
use Rattle.fault.specs.Refusals.{file_refusal}
use Rattle.pb.specs.declared.working.WorkingHead.{WorkingHead}
use Rattle.pb.specs.declared.working.WorkingTerm.{WorkingTerm}
use Rattle.pb.specs.declared.variables.Variables.{Variables}
use Rattle.pb.specs.Variables.{variable_count}
use Rattle.pb.specs.Lines.{Line, Working}
use Rattle.pb.specs.Checks.{line_check}
use Rattle.schedule.specs.declared.mark.Mark.TheVariants.{Variables as VariablesMark}
use Rattle.schedule.specs.declared.reader.Reader.{Reader}
use Rattle.schedule.specs.Place.{input_of, offset_of, rest_of, ReadOn}
use Rattle.schedule.specs.Reading.{◌>>=◌, read_line, lines_from, line_size, read_variables, with_variables}
use Rattle.schedule.specs.Records.{record_size}
use Rattle.cnf.specs.Calls.{Rule}
use Rattle.cnf.specs.Clauses.{Clause}
use Rattle.cnf.specs.declared.sheet.Sheet.{Ghosts}
use Rattle.encode.specs.Law.{Encoding}
use Rattle.translate.specs.declared.run.Run.{Run}
use Rattle.translate.specs.declared.taking.TheConstants.{MOST_LINES, MOST_BOOK_TERMS}
use Rattle.translate.specs.Books.{enter_lines, enter_schedule}
use Rattle.pb.specs.Tightened.{working_form}
use Rattle.translate.specs.Translation.{Progress, write_by, write_schedule, or_refusal, translation}
use Rattle.translate.specs.Translation.{OfSchedules}
use Rattle.translate.specs.Streaming.{fresh, progress, outcome, coming, GoesOn, EndsWith, OnlyAppends}
use Rattle.translate.specs.Entering.{Entered, NotEntered}
use Rattle.translate.proofs.Books.{enters_file}
use Rattle.translate.proofs.Lines.{outcome_more, lines_end, lines_fault, terms_stop, lines_taken, lines_full}

-- what is entered from here on by a run that holds so many lines
abbrev entered_after : Run → ℕ → ℕ → ℕ → List ℕ → Result (List Line) FileFault
entered_after run held free at rest = enter_lines MOST_LINES held free
    (lines_from (variable_count run.variables) at rest)

-- what comes of writing a line of this number where a run has come so far
abbrev pub wrote : Encoding → Rule → Run → List Clause → Line → Result Progress Refusal
wrote e fits run cs l =
    progress run.written cs >>= λ p. write_by e fits (run.held + 1) p (working_form (variable_count run.variables) l)

-- the line is entered, and written where writing goes on
taken : (e : Encoding) (fits : Rule) (run : Run) (cs : List Clause) (l : Line) (at : ℕ) (rest : List ℕ)
    → read_line at rest ≡ Ok (Some l) → line_check (variable_count run.variables) l ≡ None
    → run.held < MOST_LINES → length l.terms ≤ run.free
    → coming e fits run cs at rest
    ≡ outcome e fits (variable_count run.variables) (suc (run.held + 1)) (wrote e fits run cs l)
    (entered_after run (run.held + 1) (run.free - length l.terms) (at + line_size l) (drop (line_size l) rest))
taken e fits run cs l at rest h fine line_free terms_free =
    let n = variable_count run.variables in
    let next : suc run.held ≡ run.held + 1 = omega arith in
    let state = progress run.written cs in
    let on = at + line_size l in
    let left = drop (line_size l) rest in
    let free = run.free - length l.terms in
    ap (outcome e fits n (suc run.held) state)
    (lines_taken MOST_LINES run.held run.free n at rest l h fine line_free terms_free)
    ∙ outcome_more e fits n (suc run.held) state l (entered_after run (suc run.held) free on left)
    ∙ ap (λ k. outcome e fits n (suc k) (state >>= λ q. write_by e fits k q (working_form n l))
    (entered_after run k free on left)) next

-- the run after a line of so many terms
pub goes_on : (e : Encoding) (fits : Rule) (run : Run) (cs ds : List Clause) (l : Line) (at terms : ℕ)
    (after : Result ℕ Refusal) {f : WorkingHead} {form : List WorkingTerm}
    → Entered l run f form → terms ≡ length l.terms → wrote e fits run cs l ≡ progress after ds
    → GoesOn e fits run cs
    (record { variables = run.variables; held = run.held + 1; free = run.free - terms; written = after }) ds at l
goes_on e fits run cs ds l at terms after entered many done rest h =
    let n = variable_count run.variables in
    let on = at + line_size l in
    let left = drop (line_size l) rest in
    taken e fits run cs l at rest h entered.fine entered.line_free entered.terms_free
    ∙ ap (λ s. outcome e fits n (suc (run.held + 1)) s
    (entered_after run (run.held + 1) (run.free - length l.terms) on left)) done
    ∙ ap (λ k. outcome e fits n (suc (run.held + 1)) (progress after ds)
    (entered_after run (run.held + 1) (run.free - k) on left)) (sym many)

-- what writing then comes to where it goes on, and where it was refused before
pub goes_on_writing : (e : Encoding) (fits : Rule) (run : Run) (cs ds : List Clause) (l : Line) (w : Working)
    (numbers : ℕ) (after : Result ℕ Refusal)
    → run.written ≡ Ok numbers → working_form (variable_count run.variables) l ≡ w
    → write_by e fits (run.held + 1) (record { held = cs; numbers = numbers }) w ≡ progress after ds
    → wrote e fits run cs l ≡ progress after ds
goes_on_writing e fits run cs ds l w numbers after going form done =
    ap (λ r. progress r cs >>= λ p. write_by e fits (run.held + 1) p (working_form (variable_count run.variables) l))
    going
    ∙ ap (write_by e fits (run.held + 1) (record { held = cs; numbers = numbers })) form ∙ done

pub stopped_before : (e : Encoding) (fits : Rule) (run : Run) (cs : List Clause) (l : Line) (r : Refusal)
    → run.written ≡ Err r → wrote e fits run cs l ≡ progress run.written cs
stopped_before e fits run cs l r stopped = rw stopped refl

-- a line that is not entered ends the run
pub ends_with : (e : Encoding) (fits : Rule) (run : Run) (cs : List Clause) (l : Line) (at : ℕ) (x : FileFault)
    → NotEntered l at run x → EndsWith e fits run cs x at l
ends_with e fits run cs l at x h rest read =
    let n = variable_count run.variables in
    ap (outcome e fits n (suc run.held) (progress run.written cs)) (elim h.cause [
      | inl w ↦ terms_stop MOST_LINES run.held run.free n at rest l read w.0 w.1 ∙ ap Err (sym w.2)
      | inr w ↦ lines_full MOST_LINES run.held run.free n at rest l read w.0 w.1 ∙ ap Err (sym w.2)
    ])

-- the file ends, or reading stops
no_more : (st : Result Progress Refusal) → (st >>= λ p. Ok p) ≡ st
no_more (Ok p) = refl
no_more (Err x) = refl

-- what came of all the file is what comes of the rest of it
module _ (e : Encoding) (fits : Rule) (run : Run) (cs : List Clause) (at : ℕ) (rest : List ℕ)
    (all : Result Progress Refusal)
    (so_far : coming e fits run cs at rest ≡ all) where
  pub comes_to : read_line at rest ≡ Ok None → all ≡ progress run.written cs
  comes_to h =
      sym so_far
      ∙ ap (outcome e fits (variable_count run.variables) (suc run.held) (progress run.written cs))
      (lines_end MOST_LINES run.held run.free (variable_count run.variables) at rest h)
      ∙ no_more (progress run.written cs)

  pub comes_to_fault : (x : FileFault) → read_line at rest ≡ Err x → all ≡ Err (file_refusal x)
  comes_to_fault x h =
      sym so_far
      ∙ ap (outcome e fits (variable_count run.variables) (suc run.held) (progress run.written cs))
      (lines_fault MOST_LINES run.held run.free (variable_count run.variables) at rest x h)

  pub ended_by : (x : FileFault) (l : Line) (off : ℕ) → EndsWith e fits run cs x off l → off ≡ at
      → read_line at rest ≡ Ok (Some l) → all ≡ Err (file_refusal x)
  ended_by x l off ends here read = sym so_far ∙ subst (λ k. EndsWith e fits run cs x k l) here ends rest read

-- the same of the rest that follows a line, as the reader stands in the whole file
pub moved_on : (e : Encoding) (fits : Rule) (run next : Run) (cs ds : List Clause) (l : Line) (off : ℕ)
    (before after : Reader) (all : Result Progress Refusal)
    → coming e fits run cs (offset_of before) (rest_of before) ≡ all
    → GoesOn e fits run cs next ds off l → off ≡ offset_of before → ReadOn before after (line_size l)
    → read_line (offset_of before) (rest_of before) ≡ Ok (Some l)
    → coming e fits next ds (offset_of after) (rest_of after) ≡ all
moved_on e fits run next cs ds l off before after all so_far go here on read =
    let goes = subst (λ k. GoesOn e fits run cs next ds k l) here go in
    let at = offset_of before + line_size l in
    ap (λ k. coming e fits next ds k (drop k (input_of after))) on.moved
    ∙ ap (λ bs. coming e fits next ds at (drop at bs)) on.same_file
    ∙ ap (coming e fits next ds at) (sym (drop-drop (line_size l) (offset_of before) (input_of before)))
    ∙ sym (goes (rest_of before) read) ∙ so_far

-- what was added to a sheet in two calls
pub appends_on : {S : Type 0} (sheet : Ghosts S) (s t u : S)
    → OnlyAppends sheet s t → OnlyAppends sheet t u → OnlyAppends sheet s u
appends_on sheet s t u a b = record {
  stays = record { rule = b.stays.rule ∙ a.stays.rule; same = b.stays.same ∙ a.stays.same };
  appended = record {
    more = a.appended.more ++ b.appended.more;
    after = b.appended.after ∙ ap (λ xs. xs ++ b.appended.more) a.appended.after
        ∙ append_assoc (sheet.held s) a.appended.more b.appended.more;
  };
}

-- from the first record on
whole : (e : Encoding) (fits : Rule) (n : ℕ) (cs : List Clause) (r : Result (List Line) FileFault)
    → (or_refusal (r >>= λ ls. Ok (record { variables = n; lines = ls })) >>= write_schedule e fits cs)
    ≡ outcome e fits n 1 (Ok (record { held = cs; numbers = n })) r
whole e fits n cs (Ok ls) = refl
whole e fits n cs (Err x) = refl

first_lines : (e : Encoding) (fits : Rule) (v : Variables) (cs : List Clause) (input : List ℕ)
    → read_variables 0 input ≡ Ok (variable_count v)
    → translation e fits cs input
    ≡ coming e fits (fresh v) cs (record_size VariablesMark) (drop (record_size VariablesMark) input)
first_lines e fits v cs input h =
    let after : ℕ → _ = λ n. lines_from n (record_size VariablesMark) (drop (record_size VariablesMark) input) in
    ap (λ r. or_refusal (enter_schedule MOST_LINES MOST_BOOK_TERMS (with_variables r after)) >>=
    write_schedule e fits cs) h
    ∙ whole e fits (variable_count v) cs (enter_lines MOST_LINES 0 MOST_BOOK_TERMS (after (variable_count v)))

pub comes_to_all : (e : Encoding) (fits : Rule) (v : Variables) (cs : List Clause) (input : List ℕ)
    (first after : Reader)
    → input_of first ≡ input → offset_of first ≡ 0 → ReadOn first after (record_size VariablesMark)
    → read_variables (offset_of first) (rest_of first) ≡ Ok (variable_count v)
    → translation e fits cs input ≡ coming e fits (fresh v) cs (offset_of after) (rest_of after)
comes_to_all e fits v cs input first after file start on read =
    let read0 = sym (ap (read_variables 0) file)
    ∙ sym (ap (λ k. read_variables k (drop k (input_of first))) start) ∙ read in
    first_lines e fits v cs input read0
    ∙ ap (λ k. coming e fits (fresh v) cs k (drop k input))
    (sym (on.moved ∙ ap (λ k. k + record_size VariablesMark) start))
    ∙ ap (λ bs. coming e fits (fresh v) cs (offset_of after) (drop (offset_of after) bs)) (sym (on.same_file ∙ file))

-- the file of a schedule gives what the schedule gives
pub of_a_schedule : (e : Encoding) (fits : Rule) (cs : List Clause) (input : List ℕ) → OfSchedules e fits input cs
of_a_schedule e fits cs input s within room is =
    ap (λ r. or_refusal r >>= write_schedule e fits cs) (enters_file input s within room is)
