-- A line that was read has its bound and its number of terms in range, one whose terms were judged passes its checks,
-- and so a schedule that was read is within the limits, whatever was read.
use Rattle.std.proofs.Common.{◌≡◌, ℕ, zero, suc, ◌+◌, ◌<◌, ◌≤◌, ◌&&◌, Bool, true, false, cond, leb, ltb, List, []}
use Rattle.std.proofs.Common.{◌∷◌, length, drop, map, nat_abs, Some, None, Ok, Err, Option, Result, sym, refl, ap}
use Rattle.std.proofs.Common.{◌∙◌, subst}
use Rattle.std.specs.List.{AllByRecursion}
use Rattle.std.proofs.lemmas.Bool.{and_parts, ltb-true, leb-true, le-leb}
use Rattle.fault.specs.declared.book.BookFault.TheVariants.{Variables as BadVariables}
use Rattle.fault.specs.declared.file.FileFault.{FileFault}
use Rattle.fault.specs.declared.file.FileFault.TheVariants.{Book as BookAt}
use Rattle.pb.specs.declared.constraint.TheConstants.{MOST_TERMS, MOST_BOUND}
use Rattle.pb.specs.declared.line_fault.LineFault.{LineFault}
use Rattle.pb.specs.declared.relation.Relation.{Relation}
use Rattle.pb.specs.declared.term.Term.{Term}
use Rattle.pb.specs.declared.variables.TheConstants.{MOST_VARIABLES}
use Rattle.pb.specs.Lines.{Line}
use Rattle.pb.specs.Checks.{checked_head, terms_fault, line_check, PassesChecks}
use Rattle.schedule.specs.declared.mark.Mark.TheVariants.{Variables, Line as LineMark, Term as TermMark}
use Rattle.schedule.specs.Records.{record_size, record_body, line_body, variables_in, relation_in, terms_in, bound_in}
use Rattle.schedule.specs.Records.{term_in}
use Rattle.schedule.specs.Reading.{some_variables, read_variables, read_terms, head_or_fault, read_line_with}
use Rattle.schedule.specs.Reading.{read_line_of, read_line, judged, line_or_fault, next_line, line_size, LinesRead}
use Rattle.schedule.specs.Reading.{lines_after, read_lines, with_variables, Schedule, schedule_unless, schedule_read}
use Rattle.schedule.specs.Reading.{read_schedule}
use Rattle.schedule.specs.Writing.{IsWithinLimits}
use Rattle.schedule.specs.Faults.{IsHeaderInRange}
use Rattle.schedule.proofs.HeadersSeen.{HeaderSeen, header_seen}
use Rattle.schedule.proofs.Steps.{bind_ok}

-- so many terms were read as were asked for
read_length : (k at : ℕ) (rest : List ℕ) (ts : List Term) → read_terms k at rest ≡ Ok ts → length ts ≡ k
read_length zero at rest ts h = let e : [] ≡ ts = cc in ap length (sym e)
read_length (suc k) at rest ts h =
    let p = bind_ok (record_body TermMark at rest) _ ts h in
    let others = read_terms k (at + record_size TermMark) (drop (record_size TermMark) rest) in
    let q = bind_ok others (λ us. Ok (term_in p.0 ∷ us)) ts p.2 in
    let e : term_in p.0 ∷ q.0 ≡ ts = cc in
    ap length (sym e) ∙ ap suc (read_length k (at + record_size TermMark) (drop (record_size TermMark) rest) q.0 q.1)

relation_read : (at : ℕ) (q : Result Relation LineFault) (r : Relation) → head_or_fault at q ≡ Ok r → q ≡ Ok r
relation_read at (Ok s) r h = let e : s ≡ r = cc in ap Ok e
relation_read at (Err e) r h = cc

with_body : (at : ℕ) (rest body : List ℕ) (l : Line) → read_line_with at rest body ≡ Ok (Some l)
    → IsHeaderInRange l.bound (length l.terms)
with_body at rest body l h =
    let checked = checked_head (relation_in body) (bound_in body) (terms_in body) in
    let p = bind_ok (head_or_fault at checked) _ (Some l) h in
    let q = bind_ok (read_terms (terms_in body) (at + record_size LineMark) (drop (record_size LineMark) rest))
    (λ ts. Ok (Some (record { relation = p.0; bound = bound_in body; terms = ts }))) (Some l) p.2 in
    let is : record { relation = p.0; bound = bound_in body; terms = q.0 } ≡ l = cc in
    let seen = subst (HeaderSeen (relation_in body) (bound_in body) (terms_in body)) (relation_read at checked p.0 p.1)
    (header_seen (relation_in body) (terms_in body) (bound_in body)) in
    let many = read_length _ _ _ q.0 q.1 in
    subst (λ (m : Line). IsHeaderInRange m.bound (length m.terms)) is
    (seen.1, subst (λ k. k ≤ MOST_TERMS) (sym many) seen.2)

of_body : (at : ℕ) (rest : List ℕ) (o : Option (List ℕ)) (l : Line) → read_line_of at rest o ≡ Ok (Some l)
    → IsHeaderInRange l.bound (length l.terms)
of_body at rest None l h = cc
of_body at rest (Some body) l h = with_body at rest body l h

pub header_in_range : (at : ℕ) (rest : List ℕ) (l : Line) → read_line at rest ≡ Ok (Some l)
    → IsHeaderInRange l.bound (length l.terms)
header_in_range at rest l h =
    let p = bind_ok (line_body at rest) (read_line_of at rest) (Some l) h in
    of_body at rest p.0 l p.2

-- so that only its terms can be at fault
pub read_check : (n at : ℕ) (rest : List ℕ) (l : Line) → read_line at rest ≡ Ok (Some l)
    → line_check n l ≡ terms_fault n 1 l.terms
read_check n at rest l h =
    let p = header_in_range at rest l h in
    rw (le-leb (nat_abs l.bound) MOST_BOUND p.0, le-leb (length l.terms) MOST_TERMS p.1)

-- a line that was judged
none_wrong : (at : ℕ) (m l : Line) (o : Option LineFault) → line_or_fault at m o ≡ Ok (Some l) → (o ≡ None) × (m ≡ l)
none_wrong at m l None h = let e : m ≡ l = cc in (refl, e)
none_wrong at m l (Some x) h = cc

of_judged : (n at : ℕ) (rest : List ℕ) (o : Option Line) (l : Line) → read_line at rest ≡ Ok o
    → judged n at o ≡ Ok (Some l) → PassesChecks n l
of_judged n at rest None l read h = cc
of_judged n at rest (Some m) l read h =
    let p = none_wrong at m l _ h in
    let header = header_in_range at rest m read in
    subst (PassesChecks n) p.1 (record { bounded = header.0; few = header.1; fine = p.0 })

pub next_passes : (n at : ℕ) (rest : List ℕ) (l : Line) → next_line n at rest ≡ Ok (Some l) → PassesChecks n l
next_passes n at rest l h =
    let p = bind_ok (read_line at rest) (judged n at) (Some l) h in
    of_judged n at rest p.0 l p.1 p.2

-- all lines
abbrev AllPass : ℕ → LinesRead → Type 0
AllPass n r = AllByRecursion (PassesChecks n) (map (λ l. l.line) r.lines)

after_passes : (n at : ℕ) (after : Line → LinesRead) (r : Result (Option Line) FileFault)
    → ((l : Line) → r ≡ Ok (Some l) → PassesChecks n l)
    → ((l : Line) → AllPass n (after l)) → AllPass n (lines_after at after r)
after_passes n at after (Err e) here later = tt
after_passes n at after (Ok None) here later = tt
after_passes n at after (Ok (Some l)) here later = (here l refl, later l)

lines_pass : (k n at : ℕ) (rest : List ℕ) → AllPass n (read_lines k n at rest)
lines_pass zero n at rest = tt
lines_pass (suc k) n at rest =
    after_passes n at _ (next_line n at rest) (next_passes n at rest)
    (λ l. lines_pass k n (at + line_size l) (drop (line_size l) rest))

-- a schedule
number_in_range : (at n m : ℕ) (b : Bool) → (ltb 0 n && leb n MOST_VARIABLES) ≡ b
    → cond b (Ok n) (Err (BookAt at BadVariables)) ≡ Ok m → (0 < m) × (m ≤ MOST_VARIABLES)
number_in_range at n m true ok h =
    let is : n ≡ m = cc in
    let p = and_parts _ _ ok in
    (subst (λ k. 0 < k) is (ltb-true 0 n p.0), subst (λ k. k ≤ MOST_VARIABLES) is (leb-true n MOST_VARIABLES p.1))
number_in_range at n m false ok h = cc

variables_in_range : (at : ℕ) (rest : List ℕ) (n : ℕ) → read_variables at rest ≡ Ok n → (0 < n) × (n ≤ MOST_VARIABLES)
variables_in_range at rest n h =
    let p = bind_ok (record_body Variables at rest) (some_variables at) n h in
    number_in_range at (variables_in p.0) n _ refl p.2

schedule_is : (s t : Schedule) (fault : Option FileFault) → schedule_unless s fault ≡ Ok t → s ≡ t
schedule_is s t None h = cc
schedule_is s t (Some e) h = cc

of_variables : (input : List ℕ) (after : ℕ → LinesRead) (r : Result ℕ FileFault) (s : Schedule)
    → ((n : ℕ) → r ≡ Ok n → (0 < n) × (n ≤ MOST_VARIABLES)) → ((n : ℕ) → AllPass n (after n))
    → schedule_read (with_variables r after) ≡ Ok s → IsWithinLimits s
of_variables input after (Ok n) s known pass h =
    let range = known n refl in
    subst IsWithinLimits (schedule_is _ s _ h) (record { some = range.0; few = range.1; lines_pass = pass n })
of_variables input after (Err e) s known pass h = cc

pub reads_within : (input : List ℕ) (s : Schedule) → read_schedule input ≡ Ok s → IsWithinLimits s
reads_within input s h =
    of_variables input _ (read_variables 0 input) s (variables_in_range 0 input)
    (λ n. lines_pass _ n (record_size Variables) (drop (record_size Variables) input)) h
