-- Records: a mark of two letters and then a body, whose size goes by the mark. Numbers stand high byte first, and
-- bounds, weights and literals in two's complement.
use Rattle.std.specs.Prelude.{ℕ, ◌+◌, Bool, false, if◌then◌else◌, ◌&&◌, ◌==◌, nat_le, List, [], ◌∷◌, length, take}
use Rattle.std.specs.Prelude.{drop, slice_index, ℤ, Option, Some, None, Result, Ok, Err}
use Rattle.std.specs.Int.{w16, w32, cast_signed, from_be_bytes}
use Rattle.std.specs.Str.{byte}
use Rattle.fault.specs.declared.file.FileFault.{FileFault}
use Rattle.fault.specs.declared.file.FileFault.TheVariants.{Short, Mark as WrongMark, Trailing}
use Rattle.pb.specs.declared.term.Term.{Term}
use Rattle.schedule.specs.declared.mark.Mark.{Mark}
use Rattle.schedule.specs.declared.mark.Mark.TheVariants.{Variables, Line, Term as TermMark, End}
use Rattle.schedule.specs.declared.mark.TheConstants.{MARK_SIZE, VARIABLES_SIZE, LINE_SIZE, TERM_SIZE, END_SIZE}

-- the letters of the marks: CH, LN, TM and EN
abbrev pub first_letter : Mark → ℕ
first_letter Variables = byte "C"
first_letter Line = byte "L"
first_letter TermMark = byte "T"
first_letter End = byte "E"

abbrev pub second_letter : Mark → ℕ
second_letter Variables = byte "H"
second_letter Line = byte "N"
second_letter TermMark = byte "M"
second_letter End = byte "N"

abbrev pub is_mark : Mark → ℕ → ℕ → Bool
is_mark m x y = x == first_letter m && y == second_letter m

-- how many bytes follow the mark, and how many the record has in all
abbrev pub body_size : Mark → ℕ
body_size Variables = VARIABLES_SIZE
body_size Line = LINE_SIZE
body_size TermMark = TERM_SIZE
body_size End = END_SIZE

abbrev pub record_size : Mark → ℕ
record_size m = MARK_SIZE + body_size m

-- the body of the record with this mark, where the rest of a file begins with one; the offset is that of the rest
abbrev pub record_body : Mark → ℕ → List ℕ → Result (List ℕ) FileFault
record_body m offset [] = Err (Short offset)
record_body m offset (x ∷ []) = Err (Short offset)
record_body m offset (x ∷ (y ∷ rest)) =
    if is_mark m x y
    then (if nat_le (body_size m) (length rest) then Ok (take (body_size m) rest) else Err (Short offset))
    else Err (WrongMark offset)

-- whether the rest of a file begins with the last record
abbrev pub is_at_end : List ℕ → Bool
is_at_end [] = false
is_at_end (x ∷ []) = false
is_at_end (x ∷ (y ∷ rest)) = is_mark End x y

-- the body of the next line's first record, or nothing where the file ends as it should
abbrev pub some_body : Result (List ℕ) FileFault → Result (Option (List ℕ)) FileFault
some_body (Ok body) = Ok (Some body)
some_body (Err e) = Err e

abbrev pub line_body : ℕ → List ℕ → Result (Option (List ℕ)) FileFault
line_body offset rest =
    if is_at_end rest
    then (if length rest == record_size End then Ok None else Err (Trailing (offset + record_size End)))
    else some_body (record_body Line offset rest)

-- what the bodies hold: how many variables; a relation's number, how many terms and the bound; a weight and a literal
abbrev pub variables_in : List ℕ → ℕ
variables_in body = from_be_bytes w16 body

abbrev pub relation_in : List ℕ → ℕ
relation_in body = slice_index body 0

abbrev pub terms_in : List ℕ → ℕ
terms_in body = slice_index body 1

abbrev pub bound_in : List ℕ → ℤ
bound_in body = cast_signed w32 (from_be_bytes w32 (drop 2 body))

abbrev pub term_in : List ℕ → Term
term_in body = record {
  weight = cast_signed w32 (from_be_bytes w32 body);
  literal = cast_signed w16 (from_be_bytes w16 (drop 4 body));
}
