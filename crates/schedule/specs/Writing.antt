-- A schedule file as the format has it written; that it reads back, and that nothing else is read as a schedule.
use Rattle.std.specs.Prelude.{◌≡◌, ℕ, ◌+◌, ◌<◌, ◌≤◌, List, [], ◌∷◌, ◌++◌, length, ℤ, Option, None, Ok}
use Rattle.std.specs.Int.{w16, w32, cast_unsigned, to_be_bytes}
use Rattle.std.specs.List.{AllByRecursion, flat_map}
use Rattle.fault.specs.declared.file.FileFault.{FileFault}
use Rattle.pb.specs.declared.term.Term.{Term}
use Rattle.pb.specs.declared.variables.TheConstants.{MOST_VARIABLES}
use Rattle.pb.specs.Lines.{Line}
use Rattle.pb.specs.Checks.{relation_number, PassesChecks}
use Rattle.schedule.specs.declared.mark.Mark.{Mark}
use Rattle.schedule.specs.declared.mark.Mark.TheVariants.{Variables, Line as LineMark, Term as TermMark, End}
use Rattle.schedule.specs.Records.{first_letter, second_letter, record_size}
use Rattle.schedule.specs.Reading.{PlacedLine, FileRead, Schedule, line_size, read_file, read_schedule}

abbrev pub mark_bytes : Mark → List ℕ
mark_bytes m = first_letter m ∷ second_letter m ∷ []

-- CH, and how many variables there are
abbrev pub variables_record : ℕ → List ℕ
variables_record n = mark_bytes Variables ++ to_be_bytes w16 n

-- LN, a relation's number, how many terms there are and the bound
abbrev pub header_record : ℕ → ℕ → ℤ → List ℕ
header_record relation terms bound =
    mark_bytes LineMark ++ (relation ∷ terms ∷ to_be_bytes w32 (cast_unsigned w32 bound))

-- TM, the weight and the literal
abbrev pub term_record : Term → List ℕ
term_record t =
    mark_bytes TermMark
    ++ (to_be_bytes w32 (cast_unsigned w32 t.weight) ++ to_be_bytes w16 (cast_unsigned w16 t.literal))

abbrev pub line_records : Line → List ℕ
line_records l =
    header_record (relation_number l.relation) (length l.terms) l.bound ++ flat_map term_record l.terms

-- a schedule's variables and lines
abbrev pub records_of : Schedule → List ℕ
records_of s = variables_record s.variables ++ flat_map line_records s.lines

-- these, and EN
abbrev pub file_of : Schedule → List ℕ
file_of s = records_of s ++ mark_bytes End

-- a schedule that the format takes
pub record IsWithinLimits (s : Schedule) : Type 0 where
  pub some : 0 < s.variables
  pub few : s.variables ≤ MOST_VARIABLES
  pub lines_pass : AllByRecursion (PassesChecks s.variables) s.lines

-- lines that stand one after the other, the first of them here
abbrev pub placed_from : ℕ → List Line → List PlacedLine
placed_from offset [] = []
placed_from offset (l ∷ ls) = record { offset = offset; line = l } ∷ placed_from (offset + line_size l) ls

-- a schedule's variables and lines were read, and then this fault ended reading, or none did
abbrev pub reading_of : Schedule → Option FileFault → FileRead
reading_of s fault =
    record { variables = s.variables; lines = placed_from (record_size Variables) s.lines; fault = fault }

-- the file of a schedule reads back as that schedule, with each line's offset
abbrev pub ReadsBack : Type 0
ReadsBack = (s : Schedule) → IsWithinLimits s
    → (read_schedule (file_of s) ≡ Ok s) × (read_file (file_of s) ≡ reading_of s None)

abbrev pub AreBytes : List ℕ → Type 0
AreBytes = AllByRecursion (λ b. b < 256)

-- bytes that are read as a schedule are that schedule's file, and the schedule is within the limits
abbrev pub ReadsOnly : Type 0
ReadsOnly = (input : List ℕ) (s : Schedule) → AreBytes input → read_schedule input ≡ Ok s
    → (input ≡ file_of s) × IsWithinLimits s
