-- A file that begins with the records of a schedule is read up to their end, and then on from there; so the file of a
-- schedule reads back as that schedule.
use Rattle.std.proofs.Common.{◌≡◌, ℕ, ◌+◌, ◌^◌, ◌<◌, List, [], ◌∷◌, ◌++◌, length, map, None, Ok, Option, refl, ap}
use Rattle.std.proofs.Common.{◌∙◌, append-nil, arith, w16}
use Rattle.std.specs.Int.{to_be_bytes}
use Rattle.std.specs.List.{flat_map}
use Rattle.std.proofs.lemmas.Bool.{le-leb, lt-ltb}
use Rattle.std.proofs.lemmas.Nat.{from_be_bytes-to_be_bytes_2}
use Rattle.fault.specs.declared.file.FileFault.{FileFault}
use Rattle.pb.specs.declared.variables.TheConstants.{MOST_VARIABLES}
use Rattle.pb.specs.Lines.{Line}
use Rattle.schedule.specs.declared.mark.Mark.TheVariants.{Variables, End}
use Rattle.schedule.specs.Records.{record_size}
use Rattle.schedule.specs.Reading.{read_variables, some_variables, line_size, LinesRead, lines_from, FileRead}
use Rattle.schedule.specs.Reading.{with_variables, read_file, Schedule, schedule_unless, schedule_read, ◌>>=◌}
use Rattle.schedule.specs.Writing.{mark_bytes, variables_record, line_records, records_of, IsWithinLimits}
use Rattle.schedule.specs.Writing.{placed_from, reading_of, ReadsBack}
use Rattle.schedule.proofs.ReadingBack.{record_back, lines_back}
use Rattle.schedule.proofs.Steps.{end_read}

pub variables_back : (n : ℕ) (rest : List ℕ) → n < 2 ^ 16
    → read_variables 0 (variables_record n ++ rest) ≡ some_variables 0 (to_be_bytes w16 n)
variables_back n rest fits = ap (λ r. r >>= some_variables 0) (record_back Variables 0 (to_be_bytes w16 n) rest refl)

-- the variables and lines of a schedule, and then whatever is read after them
abbrev pub schedule_before : Schedule → LinesRead → FileRead
schedule_before s r =
    record { variables = s.variables; lines = placed_from (record_size Variables) s.lines ++ r.lines; fault = r.fault }

pub records_back : (s : Schedule) (rest : List ℕ) → IsWithinLimits s
    → read_file (records_of s ++ rest) ≡ schedule_before s (lines_from s.variables (length (records_of s)) rest)
records_back s rest h =
    let n = s.variables in
    let fits : n < 2 ^ 16 = omega (arith, h.few) in
    let at : record_size Variables + length (flat_map line_records s.lines) ≡ length (records_of s) = omega arith in
    let lines = flat_map line_records s.lines ++ rest in
    let known : read_variables 0 (variables_record n ++ lines) ≡ Ok n = variables_back n lines fits
    ∙ rw (from_be_bytes-to_be_bytes_2 n fits, lt-ltb 0 n h.some, le-leb n MOST_VARIABLES h.few) refl in
    ap (λ r. with_variables r (λ m. lines_from m (record_size Variables) lines)) known
    ∙ ap (λ (r : LinesRead). record { variables = n; lines = r.lines; fault = r.fault })
    (lines_back s.lines n (record_size Variables) rest h.few h.lines_pass)
    ∙ ap (λ o. schedule_before s (lines_from n o rest)) at

-- after the lines nothing more is read
pub read_up_to : (s : Schedule) (rest : List ℕ) (fault : Option FileFault) → IsWithinLimits s
    → lines_from s.variables (length (records_of s)) rest ≡ record { lines = []; fault = fault }
    → read_file (records_of s ++ rest) ≡ reading_of s fault
read_up_to s rest fault h ended =
    records_back s rest h ∙ ap (schedule_before s) ended
    ∙ ap (λ ls. record { variables = s.variables; lines = ls; fault = fault }) (append-nil _)

lines_placed : (at : ℕ) (ls : List Line) → map (λ l. l.line) (placed_from at ls) ≡ ls
lines_placed at [] = refl
lines_placed at (l ∷ ls) = ap (λ ms. l ∷ ms) (lines_placed (at + line_size l) ls)

pub schedule_of_reading : (s : Schedule) (fault : Option FileFault)
    → schedule_read (reading_of s fault) ≡ schedule_unless s fault
schedule_of_reading s fault =
    ap (λ ls. schedule_unless (record { variables = s.variables; lines = ls }) fault)
    (lines_placed (record_size Variables) s.lines)

pub reads_back : ReadsBack
reads_back s h =
    let n = s.variables in
    let read = read_up_to s (mark_bytes End) None h (end_read n (length (records_of s)) (mark_bytes End) refl) in
    (ap schedule_read read ∙ schedule_of_reading s None, read)
