-- What makes each fault of a schedule file, by its records alone: up to here it begins as a file should, and then
-- just this stands there. A fault that reading gives has its cause in the file, and a file that has such a cause is
-- read up to it and gives that fault and no other.
use Rattle.std.specs.Prelude.{◌≡◌, ◌≢◌, ℕ, suc, ◌+◌, ◌*◌, ◌^◌, ◌<◌, ◌≤◌, ◌⊎◌, List, [], ◌∷◌, ◌++◌, length, ℤ}
use Rattle.std.specs.Prelude.{FitsSigned, unsigned_abs, Some, None, Err}
use Rattle.std.specs.Int.{w16, w32}
use Rattle.std.specs.List.{AllByRecursion, flat_map}
use Rattle.fault.specs.declared.book.BookFault.TheVariants.{Variables as BadVariables}
use Rattle.fault.specs.declared.file.FileFault.{FileFault}
use Rattle.fault.specs.declared.file.FileFault.TheVariants.{Short, Mark as WrongMark, Trailing, Line as LineAt}
use Rattle.fault.specs.declared.file.FileFault.TheVariants.{Book as BookAt}
use Rattle.pb.specs.declared.line_fault.LineFault.TheVariants.{Relation as BadRelation, Bound as BadBound}
use Rattle.pb.specs.declared.line_fault.LineFault.TheVariants.{Terms as TooMany, Literal as BadLiteral}
use Rattle.pb.specs.declared.line_fault.LineFault.TheVariants.{Weight as BadWeight}
use Rattle.pb.specs.declared.relation.Relation.{Relation}
use Rattle.pb.specs.declared.term.Term.{Term}
use Rattle.pb.specs.declared.constraint.TheConstants.{MOST_TERMS, MOST_BOUND}
use Rattle.pb.specs.declared.term.TheConstants.{MOST_WEIGHT}
use Rattle.pb.specs.declared.variables.TheConstants.{MOST_VARIABLES}
use Rattle.pb.specs.Lines.{Line}
use Rattle.pb.specs.Checks.{relation_number, relation_of, IsTermInRange}
use Rattle.schedule.specs.declared.mark.Mark.{Mark}
use Rattle.schedule.specs.declared.mark.Mark.TheVariants.{Variables, Line as LineMark, Term as TermMark, End}
use Rattle.schedule.specs.declared.mark.TheConstants.{MARK_SIZE}
use Rattle.schedule.specs.Records.{body_size, record_size}
use Rattle.schedule.specs.Reading.{Schedule, read_file, read_schedule}
use Rattle.schedule.specs.Writing.{mark_bytes, variables_record, header_record, term_record, line_records, records_of}
use Rattle.schedule.specs.Writing.{file_of, reading_of, IsWithinLimits, AreBytes}

-- a line begun: what its first record says, and the terms that are there
pub record BegunLine : Type 0 where
  pub relation : Relation
  pub bound : ℤ
  pub announced : ℕ
  pub terms : List Term

-- what a file may begin with: nothing, its variables and whole lines, or these and a line begun
pub data Beginning : Type 0 where
  Nothing : Beginning
  WholeLines : Schedule → Beginning
  WithinLine : Schedule → BegunLine → Beginning

abbrev pub begun_records : BegunLine → List ℕ
begun_records b =
    header_record (relation_number b.relation) b.announced b.bound ++ flat_map term_record b.terms

abbrev pub bytes_of : Beginning → List ℕ
bytes_of Nothing = []
bytes_of (WholeLines s) = records_of s
bytes_of (WithinLine s b) = records_of s ++ begun_records b

-- the variables and lines that are whole
abbrev pub whole_part : Beginning → Schedule
whole_part Nothing = record { variables = 0; lines = [] }
whole_part (WholeLines s) = s
whole_part (WithinLine s b) = s

-- a term that its record can hold, in range or not
abbrev pub FitsRecord : Term → Type 0
FitsRecord t = FitsSigned w32 t.weight × FitsSigned w16 t.literal

-- a line's bound and its number of terms are in range
abbrev pub IsHeaderInRange : ℤ → ℕ → Type 0
IsHeaderInRange bound terms = (unsigned_abs bound ≤ MOST_BOUND) × (terms ≤ MOST_TERMS)

-- a line whose first record is in order and of which a term is still due. Whether those that are there are in range
-- is asked only when all are
pub record IsBegun (b : BegunLine) : Type 0 where
  pub header : IsHeaderInRange b.bound b.announced
  pub due : length b.terms < b.announced
  pub terms_fit : AllByRecursion FitsRecord b.terms

-- a beginning in which nothing is wrong
abbrev pub IsRight : Beginning → Type 0
IsRight Nothing = Unit {0}
IsRight (WholeLines s) = IsWithinLimits s
IsRight (WithinLine s b) = IsWithinLimits s × IsBegun b

-- the marks that may come after a beginning
pub data MayCome : Beginning → Mark → Type 0 where
  StartsFile : MayCome Nothing Variables
  StartsLine : {s : Schedule} → MayCome (WholeLines s) LineMark
  EndsFile : {s : Schedule} → MayCome (WholeLines s) End
  GoesOnWithTerm : {s : Schedule} {b : BegunLine} → MayCome (WithinLine s b) TermMark

-- a literal of no variable of a job of n
abbrev pub IsLiteralOut : ℕ → Term → Type 0
IsLiteralOut n t = (unsigned_abs t.literal ≡ 0) ⊎ (n < unsigned_abs t.literal)

-- a literal of one of them, and a weight out of range
abbrev pub IsWeightOut : ℕ → Term → Type 0
IsWeightOut n t = (0 < unsigned_abs t.literal) × (unsigned_abs t.literal ≤ n) × (MOST_WEIGHT < unsigned_abs t.weight)

-- a line whose records are all there and whose first is in order; of its terms, in a job of n variables, those before
-- t are in range
pub record ReachesTerm (n : ℕ) (l : Line) (before : List Term) (t : Term) : Type 0 where
  pub header : IsHeaderInRange l.bound (length l.terms)
  pub terms_fit : AllByRecursion FitsRecord l.terms
  pub after : List Term
  pub parts : l.terms ≡ before ++ t ∷ after
  pub in_range : AllByRecursion (IsTermInRange n) before

-- where the record of the term after so many others stands, in a line that is the next after a schedule's
abbrev pub term_offset : Schedule → ℕ → ℕ
term_offset s before = length (records_of s) + record_size LineMark + record_size TermMark * before

-- what stands after a beginning is the cause of a fault
pub data Cause : Beginning → List ℕ → FileFault → Type 0 where
  -- not even a mark is left
  CutInMark : (b : Beginning) (rest : List ℕ) → length rest < MARK_SIZE → Cause b rest (Short (length (bytes_of b)))
  -- a record that may come has its mark, and too few bytes after it
  CutInBody : (b : Beginning) (m : Mark) (rest : List ℕ) → MayCome b m → length rest < body_size m
      → Cause b (mark_bytes m ++ rest) (Short (length (bytes_of b)))
  -- two bytes are no mark that may come
  OtherMark : (b : Beginning) (x y : ℕ) (rest : List ℕ) → ((m : Mark) → MayCome b m → x ∷ y ∷ [] ≢ mark_bytes m)
      → Cause b (x ∷ y ∷ rest) (WrongMark (length (bytes_of b)))
  -- a byte follows the end
  ByteAfterEnd : (s : Schedule) (x : ℕ) (rest : List ℕ)
      → Cause (WholeLines s) (mark_bytes End ++ x ∷ rest) (Trailing (length (file_of s)))
  -- no job has so many variables
  VariablesOut : (n : ℕ) (rest : List ℕ) → n < 2 ^ 16 → (n ≡ 0) ⊎ (MOST_VARIABLES < n)
      → Cause Nothing (variables_record n ++ rest) (BookAt 0 BadVariables)
  -- no relation has this number, whatever else the record holds
  RelationOut : (s : Schedule) (number terms : ℕ) (bound : ℤ) (rest : List ℕ)
      → FitsSigned w32 bound → relation_of number ≡ None
      → Cause (WholeLines s) (header_record number terms bound ++ rest) (LineAt (length (records_of s)) BadRelation)
  -- the relation is in order, and the bound is not
  BoundOut : (s : Schedule) (r : Relation) (terms : ℕ) (bound : ℤ) (rest : List ℕ)
      → FitsSigned w32 bound → MOST_BOUND < unsigned_abs bound
      → Cause (WholeLines s) (header_record (relation_number r) terms bound ++ rest)
      (LineAt (length (records_of s)) BadBound)
  -- both are, and there are too many terms
  TermsOut : (s : Schedule) (r : Relation) (terms : ℕ) (bound : ℤ) (rest : List ℕ)
      → unsigned_abs bound ≤ MOST_BOUND → MOST_TERMS < terms
      → Cause (WholeLines s) (header_record (relation_number r) terms bound ++ rest)
      (LineAt (length (records_of s)) TooMany)
  -- the first term that is out of range is so by its literal
  LiteralOut : (s : Schedule) (l : Line) (before : List Term) (t : Term) (rest : List ℕ)
      → ReachesTerm s.variables l before t → IsLiteralOut s.variables t
      → Cause (WholeLines s) (line_records l ++ rest)
      (LineAt (term_offset s (length before)) (BadLiteral (suc (length before))))
  -- or only by its weight
  WeightOut : (s : Schedule) (l : Line) (before : List Term) (t : Term) (rest : List ℕ)
      → ReachesTerm s.variables l before t → IsWeightOut s.variables t
      → Cause (WholeLines s) (line_records l ++ rest)
      (LineAt (term_offset s (length before)) (BadWeight (suc (length before))))

-- a file begins right, and then the cause of this fault stands there
pub record HasFault (input : List ℕ) (b : Beginning) (e : FileFault) : Type 0 where
  pub right : IsRight b
  pub rest : List ℕ
  pub begins : input ≡ bytes_of b ++ rest
  pub cause : Cause b rest e

-- whatever fault reading gives, the file has its cause
abbrev pub FaultsHaveCause : Type 0
FaultsHaveCause = (input : List ℕ) (e : FileFault) → AreBytes input → read_schedule input ≡ Err e
    → (b : Beginning) × HasFault input b e

-- a file that has the cause of a fault is read up to there, with each line's offset, and gives that fault
abbrev pub CausesGiveFault : Type 0
CausesGiveFault = (input : List ℕ) (b : Beginning) (e : FileFault) → HasFault input b e
    → (read_schedule input ≡ Err e) × (read_file input ≡ reading_of (whole_part b) (Some e))
