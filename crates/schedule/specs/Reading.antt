-- What can be read of a schedule file: its variables, its lines with their offsets, and the first fault in the order
-- of reading. No book is known here: whether there is room for a line is looked at by whoever enters it.
use Rattle.std.specs.Prelude.{ℕ, zero, suc, ◌+◌, ◌*◌, if◌then◌else◌, ◌&&◌, nat_le, nat_lt, List, [], ◌∷◌, length}
use Rattle.std.specs.Prelude.{drop, map, Option, Some, None, Result, Ok, Err}
use Rattle.fault.specs.declared.book.BookFault.TheVariants.{Variables as BadVariables}
use Rattle.fault.specs.declared.file.FileFault.{FileFault}
use Rattle.fault.specs.declared.file.FileFault.TheVariants.{Short, Line as LineAt, Book as BookAt}
use Rattle.pb.specs.declared.line_fault.LineFault.{LineFault}
use Rattle.pb.specs.declared.line_fault.LineFault.TheVariants.{Relation as BadRelation, Bound as BadBound}
use Rattle.pb.specs.declared.line_fault.LineFault.TheVariants.{Terms as TooMany, Literal as BadLiteral}
use Rattle.pb.specs.declared.line_fault.LineFault.TheVariants.{Weight as BadWeight}
use Rattle.pb.specs.declared.relation.Relation.{Relation}
use Rattle.pb.specs.declared.term.Term.{Term}
use Rattle.pb.specs.declared.variables.TheConstants.{MOST_VARIABLES}
use Rattle.pb.specs.Lines.{Line}
use Rattle.pb.specs.Checks.{checked_head, terms_fault}
use Rattle.schedule.specs.declared.mark.Mark.TheVariants.{Variables, Line as LineMark, Term as TermMark}
use Rattle.schedule.specs.Records.{record_size, record_body, line_body, variables_in, relation_in, terms_in, bound_in}
use Rattle.schedule.specs.Records.{term_in}

-- a step that goes on with what the one before answered, or stops at its fault
infixl 10 ◌>>=◌
abbrev pub ◌>>=◌ : {X Y E : Type 0} → Result X E → (X → Result Y E) → Result Y E
(Ok x) >>= f = f x
(Err e) >>= f = Err e

-- how many variables the file has, by its first record
abbrev pub some_variables : ℕ → List ℕ → Result ℕ FileFault
some_variables offset body =
    if nat_lt 0 (variables_in body) && nat_le (variables_in body) MOST_VARIABLES
    then Ok (variables_in body)
    else Err (BookAt offset BadVariables)

abbrev pub read_variables : ℕ → List ℕ → Result ℕ FileFault
read_variables offset rest = do
  body ← record_body Variables offset rest
  some_variables offset body

-- so many terms, each a record
abbrev pub read_terms : ℕ → ℕ → List ℕ → Result (List Term) FileFault
read_terms zero offset rest = Ok []
read_terms (suc k) offset rest = do
  body ← record_body TermMark offset rest
  ts ← read_terms k (offset + record_size TermMark) (drop (record_size TermMark) rest)
  Ok (term_in body ∷ ts)

-- how many bytes a line takes
abbrev pub line_size : Line → ℕ
line_size l = record_size LineMark + record_size TermMark * length l.terms

-- where a line's fault was met: a term's at the record of that term, any other at the line's first record
abbrev pub offset_of_fault : ℕ → LineFault → ℕ
offset_of_fault offset BadRelation = offset
offset_of_fault offset BadBound = offset
offset_of_fault offset TooMany = offset
offset_of_fault offset (BadLiteral i) = offset + record_size TermMark * i
offset_of_fault offset (BadWeight i) = offset + record_size TermMark * i

abbrev pub line_fault : {X : Type 0} → ℕ → LineFault → Result X FileFault
line_fault offset e = Err (LineAt (offset_of_fault offset e) e)

abbrev pub head_or_fault : ℕ → Result Relation LineFault → Result Relation FileFault
head_or_fault offset (Ok r) = Ok r
head_or_fault offset (Err e) = line_fault offset e

-- the line whose first record has this body: relation, bound and number of terms are judged before the terms are read
abbrev pub read_line_with : ℕ → List ℕ → List ℕ → Result (Option Line) FileFault
read_line_with offset rest body = do
  r ← head_or_fault offset (checked_head (relation_in body) (bound_in body) (terms_in body))
  ts ← read_terms (terms_in body) (offset + record_size LineMark) (drop (record_size LineMark) rest)
  Ok (Some (record { relation = r; bound = bound_in body; terms = ts }))

abbrev pub read_line_of : ℕ → List ℕ → Option (List ℕ) → Result (Option Line) FileFault
read_line_of offset rest None = Ok None
read_line_of offset rest (Some body) = read_line_with offset rest body

-- the next line as it stands, or nothing where the file ends as it should
abbrev pub read_line : ℕ → List ℕ → Result (Option Line) FileFault
read_line offset rest = do
  body ← line_body offset rest
  read_line_of offset rest body

-- its terms are judged when all are there, in a job of n variables
abbrev pub line_or_fault : ℕ → Line → Option LineFault → Result (Option Line) FileFault
line_or_fault offset l None = Ok (Some l)
line_or_fault offset l (Some e) = line_fault offset e

abbrev pub judged : ℕ → ℕ → Option Line → Result (Option Line) FileFault
judged n offset None = Ok None
judged n offset (Some l) = line_or_fault offset l (terms_fault n 1 l.terms)

abbrev pub next_line : ℕ → ℕ → List ℕ → Result (Option Line) FileFault
next_line n offset rest = do
  l ← read_line offset rest
  judged n offset l

-- a line with the offset of its first record
pub record PlacedLine : Type 0 where
  pub offset : ℕ
  pub line : Line

-- the lines that could be read, and the fault that ended reading, if one did
pub record LinesRead : Type 0 where
  pub lines : List PlacedLine
  pub fault : Option FileFault

abbrev pub with_line : PlacedLine → LinesRead → LinesRead
with_line l r = record { lines = l ∷ r.lines; fault = r.fault }

-- a fault, the end, or a line and what is read after it
abbrev pub lines_after : ℕ → (Line → LinesRead) → Result (Option Line) FileFault → LinesRead
lines_after offset after (Err e) = record { lines = []; fault = Some e }
lines_after offset after (Ok None) = record { lines = []; fault = None }
lines_after offset after (Ok (Some l)) = with_line (record { offset = offset; line = l }) (after l)

-- lines one after the other, where the rest has at most so many bytes: each line takes some of them, and where none is
-- left a record is cut short
abbrev pub read_lines : ℕ → ℕ → ℕ → List ℕ → LinesRead
read_lines zero n offset rest = record { lines = []; fault = Some (Short offset) }
read_lines (suc bytes) n offset rest =
    lines_after offset
    (λ l. read_lines bytes n (offset + line_size l) (drop (line_size l) rest))
    (next_line n offset rest)

-- the lines from here on, in a job of n variables
abbrev pub lines_from : ℕ → ℕ → List ℕ → LinesRead
lines_from n offset rest = read_lines (length rest) n offset rest

-- what could be read of a whole file, whose number of variables is 0 where its first record has a fault
pub record FileRead : Type 0 where
  pub variables : ℕ
  pub lines : List PlacedLine
  pub fault : Option FileFault

abbrev pub with_variables : Result ℕ FileFault → (ℕ → LinesRead) → FileRead
with_variables (Err e) after = record { variables = 0; lines = []; fault = Some e }
with_variables (Ok n) after = record { variables = n; lines = (after n).lines; fault = (after n).fault }

abbrev pub read_file : List ℕ → FileRead
read_file input =
    with_variables (read_variables 0 input)
    (λ n. lines_from n (record_size Variables) (drop (record_size Variables) input))

-- the schedule that a file holds: how many variables there are, and the lines
pub record Schedule : Type 0 where
  pub variables : ℕ
  pub lines : List Line

abbrev pub schedule_unless : Schedule → Option FileFault → Result Schedule FileFault
schedule_unless s None = Ok s
schedule_unless s (Some e) = Err e

abbrev pub schedule_read : FileRead → Result Schedule FileFault
schedule_read r = schedule_unless (record { variables = r.variables; lines = map (λ l. l.line) r.lines }) r.fault

abbrev pub read_schedule : List ℕ → Result Schedule FileFault
read_schedule input = schedule_read (read_file input)
