-- What the format writes reads back: record by record, term by term, line by line.
use Rattle.std.proofs.Common.{◌≡◌, ℕ, suc, ◌+◌, ◌*◌, ◌≤◌, true, cond, leb, List, [], ◌∷◌, ◌++◌, length, take, ℤ}
use Rattle.std.proofs.Common.{nat_abs, Some, None, Ok, Err, Option, Result, refl, ap, ◌∙◌, append_assoc, append-nil}
use Rattle.std.proofs.Common.{arith, length-append, w16, w32, SFits}
use Rattle.std.specs.Int.{cast_unsigned, to_be_bytes}
use Rattle.std.specs.List.{AllByRecursion, flat_map}
use Rattle.std.proofs.lemmas.Int.{fits_signed_from_abs}
use Rattle.std.proofs.lemmas.List.{take_at}
use Rattle.std.proofs.lemmas.Bool.{le-leb}
use Rattle.std.proofs.lemmas.Bool.Decides.{nat_tests}
use Rattle.fault.specs.declared.file.FileFault.{FileFault}
use Rattle.pb.specs.declared.constraint.TheConstants.{MOST_TERMS, MOST_BOUND}
use Rattle.pb.specs.declared.term.TheConstants.{MOST_WEIGHT}
use Rattle.pb.specs.declared.line_fault.LineFault.{LineFault}
use Rattle.pb.specs.declared.line_fault.LineFault.TheVariants.{Literal as BadLiteral, Weight as BadWeight}
use Rattle.pb.specs.declared.relation.Relation.{Relation}
use Rattle.pb.specs.declared.relation.Relation.TheVariants.{AtLeast, AtMost, Exactly, MoreThan, LessThan}
use Rattle.pb.specs.declared.term.Term.{Term}
use Rattle.pb.specs.declared.variables.TheConstants.{MOST_VARIABLES}
use Rattle.pb.specs.Lines.{Line}
use Rattle.pb.specs.Checks.{relation_number, relation_of, checked_head, literal_named, weight_small, terms_fault}
use Rattle.pb.specs.Checks.{PassesChecks}
use Rattle.schedule.specs.declared.mark.Mark.{Mark}
use Rattle.schedule.specs.declared.mark.Mark.TheVariants.{Line as LineMark, Term as TermMark}
use Rattle.schedule.specs.Records.{body_size, record_size, record_body, term_in}
use Rattle.schedule.specs.Reading.{◌>>=◌, head_or_fault, read_terms, read_line, next_line, judged, line_or_fault}
use Rattle.schedule.specs.Reading.{line_size, LinesRead, lines_from}
use Rattle.schedule.specs.Writing.{mark_bytes, header_record, term_record, line_records, placed_from}
use Rattle.schedule.specs.Faults.{FitsRecord, IsHeaderInRange}
use Rattle.schedule.proofs.Numbers.{signed_back_2, signed_back_4}
use Rattle.schedule.proofs.Counting.{length-line, past_line}
use Rattle.schedule.proofs.Steps.{line_read}
use Rattle.schedule.proofs.Terms.{behind}

-- a record with its body whole, whatever comes after it
pub record_back : (m : Mark) (at : ℕ) (body rest : List ℕ) → length body ≡ body_size m
    → record_body m at (mark_bytes m ++ (body ++ rest)) ≡ Ok body
record_back m at body rest h =
    let enough : leb (body_size m) (length (body ++ rest)) ≡ true = le-leb (body_size m) (length (body ++ rest))
    (omega (arith, length-append body rest)) in
    let front : take (body_size m) (body ++ rest) ≡ body = take_at body rest (body_size m) h in
    grind (arith, nat_tests)

-- the terms
-- what stands in the record of one
abbrev term_body : Term → List ℕ
term_body t = to_be_bytes w32 (cast_unsigned w32 t.weight) ++ to_be_bytes w16 (cast_unsigned w16 t.literal)

term_back : (t : Term) → FitsRecord t → term_in (term_body t) ≡ t
term_back t h = rw (signed_back_4 t.weight h.0, signed_back_2 t.literal h.1)

behind_none : (r : Result (List Term) FileFault) → r ≡ behind [] r
behind_none (Ok ts) = refl
behind_none (Err e) = refl

behind_one : (t : Term) (ts : List Term) (r : Result (List Term) FileFault)
    → (behind ts r >>= λ us. Ok (t ∷ us)) ≡ behind (t ∷ ts) r
behind_one t ts (Ok us) = refl
behind_one t ts (Err e) = refl

-- those that have come, and as many more as are still due
pub terms_back : (ts : List Term) (k at : ℕ) (rest : List ℕ) → AllByRecursion FitsRecord ts
    → read_terms (length ts + k) at (flat_map term_record ts ++ rest)
    ≡ behind ts (read_terms k (at + record_size TermMark * length ts) rest)
terms_back [] k at rest h =
    let none : 0 + k ≡ k = omega arith in
    let here : at ≡ at + record_size TermMark * 0 = omega arith in
    ap (λ many. read_terms many at rest) none ∙ behind_none (read_terms k at rest)
    ∙ ap (λ o. behind [] (read_terms k o rest)) here
terms_back (t ∷ ts) k at rest h =
    let more : suc (length ts) + k ≡ suc (length ts + k) = omega arith in
    let on : at + record_size TermMark + record_size TermMark * length ts
    ≡ at + record_size TermMark * suc (length ts) = omega arith in
    let behind_it = flat_map term_record ts ++ rest in
    let after = terms_back ts k (at + record_size TermMark) rest h.1 in
    ap (λ many. read_terms many at (term_record t ++ behind_it)) more
    ∙ rw (record_back TermMark at (term_body t) behind_it refl, after, term_back t h.0)
    (behind_one t ts _ ∙ ap (λ o. behind (t ∷ ts) (read_terms k o rest)) on)

-- a line
pub relation_back : (r : Relation) → relation_of (relation_number r) ≡ Some r
relation_back AtLeast = refl
relation_back AtMost = refl
relation_back Exactly = refl
relation_back MoreThan = refl
relation_back LessThan = refl

pub header_back : (r : Relation) (bound : ℤ) (terms : ℕ) → IsHeaderInRange bound terms
    → checked_head (relation_number r) bound terms ≡ Ok r
header_back r bound terms h =
    rw (relation_back r, le-leb (nat_abs bound) MOST_BOUND h.0, le-leb terms MOST_TERMS h.1)

pub fits_4 : (z : ℤ) → nat_abs z ≤ MOST_BOUND → SFits w32 z
fits_4 z h = fits_signed_from_abs w32 z (omega arith)

-- what its first record makes of a line, in order or not
pub header_read : (number terms at : ℕ) (bound : ℤ) (rest : List ℕ) → SFits w32 bound
    → read_line at (header_record number terms bound ++ rest)
    ≡ (head_or_fault at (checked_head number bound terms) >>= λ r.
    read_terms terms (at + record_size LineMark) rest >>= λ ts.
    Ok (Some (record { relation = r; bound = bound; terms = ts })))
header_read number terms at bound rest fits =
    let body = number ∷ terms ∷ to_be_bytes w32 (cast_unsigned w32 bound) in
    rw (record_back LineMark at body rest refl, signed_back_4 bound fits)

-- and where it is in order
pub begun_back : (r : Relation) (bound : ℤ) (terms at : ℕ) (rest : List ℕ) → IsHeaderInRange bound terms
    → read_line at (header_record (relation_number r) terms bound ++ rest)
    ≡ (read_terms terms (at + record_size LineMark) rest >>= λ ts.
    Ok (Some (record { relation = r; bound = bound; terms = ts })))
begun_back r bound terms at rest h =
    header_read (relation_number r) terms at bound rest (fits_4 bound h.0)
    ∙ rw (header_back r bound terms h)

-- a line whose terms all fit their records is there as it stands
pub line_back : (l : Line) (at : ℕ) (rest : List ℕ) → IsHeaderInRange l.bound (length l.terms)
    → AllByRecursion FitsRecord l.terms
    → read_line at (line_records l ++ rest) ≡ Ok (Some l)
line_back l at rest h fit =
    let header = header_record (relation_number l.relation) (length l.terms) l.bound in
    let all : length l.terms ≡ length l.terms + 0 = omega arith in
    let done : Result (List Term) FileFault = behind l.terms
    (read_terms 0 (at + record_size LineMark + record_size TermMark * length l.terms) rest) in
    ap (read_line at) (append_assoc header (flat_map term_record l.terms) rest)
    ∙ begun_back l.relation l.bound (length l.terms) at (flat_map term_record l.terms ++ rest) h
    ∙ ap (λ many. read_terms many (at + record_size LineMark) (flat_map term_record l.terms ++ rest) >>= λ ts.
    Ok (Some (record { relation = l.relation; bound = l.bound; terms = ts }))) all
    ∙ rw (terms_back l.terms 0 (at + record_size LineMark) rest fit, append-nil l.terms)

-- terms in range fit their records
first_in_range : (n i : ℕ) (t : Term) (r : Option LineFault)
    → cond (literal_named n t.literal) (cond (weight_small t.weight) r (Some (BadWeight i))) (Some (BadLiteral i))
    ≡ None
    → (nat_abs t.literal ≤ n) × (nat_abs t.weight ≤ MOST_WEIGHT) × (r ≡ None)
first_in_range n i t r h = (grind (arith, nat_tests), grind (arith, nat_tests), grind (arith, nat_tests))

pub terms_fit : (n i : ℕ) (ts : List Term) → n ≤ MOST_VARIABLES → terms_fault n i ts ≡ None
    → AllByRecursion FitsRecord ts
terms_fit n i [] few h = tt
terms_fit n i (t ∷ ts) few h =
    let p = first_in_range n i t (terms_fault n (suc i) ts) h in
    let weight = fits_signed_from_abs w32 t.weight (omega arith) in
    let literal = fits_signed_from_abs w16 t.literal (omega arith) in
    ((weight, literal), terms_fit n (suc i) ts few p.2)

pub next_back : (n at : ℕ) (l : Line) (rest : List ℕ) → n ≤ MOST_VARIABLES → PassesChecks n l
    → next_line n at (line_records l ++ rest) ≡ Ok (Some l)
next_back n at l rest few h =
    ap (λ r. r >>= judged n at) (line_back l at rest (h.bounded, h.few) (terms_fit n 1 l.terms few h.fine))
    ∙ ap (line_or_fault at l) h.fine

-- lines that pass their checks, and then whatever is read after them
abbrev pub lines_before : ℕ → List Line → LinesRead → LinesRead
lines_before at ls r = record { lines = placed_from at ls ++ r.lines; fault = r.fault }

pub lines_back : (ls : List Line) (n at : ℕ) (rest : List ℕ) → n ≤ MOST_VARIABLES → AllByRecursion (PassesChecks n) ls
    → lines_from n at (flat_map line_records ls ++ rest)
    ≡ lines_before at ls (lines_from n (at + length (flat_map line_records ls)) rest)
lines_back [] n at rest few h =
    let here : at ≡ at + 0 = omega arith in
    ap (λ o. lines_from n o rest) here
lines_back (l ∷ ls) n at rest few h =
    let behind_it = flat_map line_records ls ++ rest in
    let size = length-line l in
    let both = length-append (line_records l) (flat_map line_records ls) in
    let on : at + line_size l + length (flat_map line_records ls)
    ≡ at + length (line_records l ++ flat_map line_records ls) = omega arith in
    ap (lines_from n at) (append_assoc (line_records l) (flat_map line_records ls) rest)
    ∙ line_read n at (line_records l ++ behind_it) l (next_back n at l behind_it few h.0)
    ∙ rw (past_line l behind_it, lines_back ls n (at + line_size l) rest few h.1)
    (ap (λ o. lines_before at (l ∷ ls) (lines_from n o rest)) on)
