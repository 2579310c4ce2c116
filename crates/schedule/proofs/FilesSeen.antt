-- What was read of a whole file stood in it: an accepted file is that of its schedule, and a fault has its cause.
use Rattle.std.proofs.Common.{◌≡◌, ◌≢◌, ℕ, zero, suc, ◌+◌, ◌^◌, ◌<◌, ◌≤◌, ◌&&◌, Bool, true, false, cond, leb, ltb}
use Rattle.std.proofs.Common.{◌⊎◌, List, [], ◌∷◌, ◌++◌, length, drop, map, Some, None, Ok, Err, Option, Result, sym}
use Rattle.std.proofs.Common.{refl, ap, ◌∙◌, subst, inl, inr, append_assoc, arith, length-append}
use Rattle.std.specs.List.{AllByRecursion, flat_map}
use Rattle.std.proofs.lemmas.Bool.{and_parts, and_cases, ltb-true, ltb-false, leb-true, leb-false}
use Rattle.std.proofs.lemmas.List.{flat_map_more}
use Rattle.fault.specs.declared.book.BookFault.TheVariants.{Variables as BadVariables}
use Rattle.fault.specs.declared.file.FileFault.{FileFault}
use Rattle.fault.specs.declared.file.FileFault.TheVariants.{Short, Book as BookAt}
use Rattle.pb.specs.declared.variables.TheConstants.{MOST_VARIABLES}
use Rattle.pb.specs.Lines.{Line}
use Rattle.pb.specs.Checks.{PassesChecks}
use Rattle.schedule.specs.declared.mark.Mark.{Mark}
use Rattle.schedule.specs.declared.mark.Mark.TheVariants.{Variables, End}
use Rattle.schedule.specs.Records.{record_size, variables_in}
use Rattle.schedule.specs.Reading.{◌>>=◌, read_variables, some_variables, line_size, PlacedLine, LinesRead, with_line}
use Rattle.schedule.specs.Reading.{lines_after, read_lines, lines_from, with_variables, Schedule, schedule_unless}
use Rattle.schedule.specs.Reading.{schedule_read, read_schedule}
use Rattle.schedule.specs.Writing.{AreBytes, mark_bytes, variables_record, line_records, records_of, file_of}
use Rattle.schedule.specs.Writing.{IsWithinLimits, ReadsOnly}
use Rattle.schedule.specs.Faults.{Beginning, MayCome, Cause, HasFault, FaultsHaveCause}
use Rattle.schedule.specs.Faults.Beginning.{Nothing, WholeLines}
use Rattle.schedule.specs.Faults.MayCome.{StartsFile}
use Rattle.schedule.specs.Faults.Cause.{CutInMark, CutInBody, OtherMark, VariablesOut}
use Rattle.schedule.proofs.Counting.{length-line, past_line}
use Rattle.schedule.proofs.LinesSeen.{NextSeen, next_seen}
use Rattle.schedule.proofs.Numbers.{below_2, bytes_2}
use Rattle.schedule.proofs.RecordFaults.{Refuses, EndsInMark, EndsInBody, OtherLetters}
use Rattle.schedule.proofs.RecordsSeen.{bytes_parts, BodySeen, body_seen}

-- one line more
abbrev with_last : Schedule → Line → Schedule
with_last s l = record { variables = s.variables; lines = s.lines ++ l ∷ [] }

all_and_last : {X : Type 0} (P : X → Type 0) (xs : List X) (x : X) → AllByRecursion P xs → P x
    → AllByRecursion P (xs ++ x ∷ [])
all_and_last P [] x h p = (p, tt)
all_and_last P (y ∷ ys) x h p = (h.0, all_and_last P ys x h.1 p)

within_with_last : (s : Schedule) (l : Line) → IsWithinLimits s → PassesChecks s.variables l
    → IsWithinLimits (with_last s l)
within_with_last s l h p =
    let all = all_and_last (PassesChecks s.variables) s.lines l h.lines_pass p in
    record { some = h.some; few = h.few; lines_pass = all }

records_with_last : (s : Schedule) (l : Line) → records_of s ++ line_records l ≡ records_of (with_last s l)
records_with_last s l = flat_map_more line_records (variables_record s.variables) s.lines l

-- lines up to the end, or up to a fault
abbrev Ended : Schedule → List ℕ → List Line → Option FileFault → Type 0
Ended s rest ls None =
    (rest ≡ flat_map line_records ls ++ mark_bytes End) × AllByRecursion (PassesChecks s.variables) ls
Ended s rest ls (Some e) = (b : Beginning) × HasFault (records_of s ++ rest) b e

abbrev LinesSeen : Schedule → List ℕ → LinesRead → Type 0
LinesSeen s rest r = Ended s rest (map (λ l. l.line) r.lines) r.fault

one_line_more : (s : Schedule) (rest tail : List ℕ) (l : Line) (ls : List Line) (fault : Option FileFault)
    → rest ≡ line_records l ++ tail → PassesChecks s.variables l
    → Ended (with_last s l) tail ls fault → Ended s rest (l ∷ ls) fault
one_line_more s rest tail l ls None here pass h =
    let all = here ∙ ap (λ bs. line_records l ++ bs) h.0
    ∙ sym (append_assoc (line_records l) (flat_map line_records ls) (mark_bytes End)) in
    (all, (pass, h.1))
one_line_more s rest tail l ls (Some e) here pass h =
    let same = ap (λ bs. bs ++ tail) (sym (records_with_last s l)) ∙ append_assoc (records_of s) (line_records l) tail
    ∙ ap (λ bs. records_of s ++ bs) (sym here) in
    (h.0, subst (λ bs. HasFault bs h.0 e) same h.1)

none_left : (s : Schedule) → IsWithinLimits s
    → HasFault (records_of s ++ []) (WholeLines s) (Short (length (records_of s)))
none_left s right =
    record { right = right; rest = []; begins = refl; cause = CutInMark (WholeLines s) [] (omega arith) }

module _ (k : ℕ) (s : Schedule) (right : IsWithinLimits s) (rest : List ℕ) (bytes : AreBytes rest)
    (few : length rest ≤ suc k) where
  after_next : (o : Result (Option Line) FileFault) → NextSeen s right rest o
      → ((t : Schedule) (tail : List ℕ) → length tail ≤ k → IsWithinLimits t → AreBytes tail
      → LinesSeen t tail (read_lines k t.variables (length (records_of t)) tail))
      → LinesSeen s rest (lines_after (length (records_of s)) (λ l.
      read_lines k s.variables (length (records_of s) + line_size l) (drop (line_size l) rest)) o)
  after_next (Ok None) h later = (h, tt)
  after_next (Ok (Some l)) h later =
      let tail = h.0 in
      let past : drop (line_size l) rest ≡ tail = ap (drop (line_size l)) h.1 ∙ past_line l tail in
      let same = ap length (sym (records_with_last s l)) in
      let both = length-append (records_of s) (line_records l) in
      let size = length-line l in
      let there : length (records_of (with_last s l)) ≡ length (records_of s) + line_size l = omega arith in
      let rest_size = ap length h.1 in
      let tail_size = length-append (line_records l) tail in
      let shorter : length tail ≤ k = omega arith in
      let parts = bytes_parts (line_records l) tail (subst AreBytes h.1 bytes) in
      let seen = later (with_last s l) tail shorter (within_with_last s l right h.2) parts.1 in
      let first : PlacedLine = record { offset = length (records_of s); line = l } in
      let on = length (records_of s) + line_size l in
      subst (λ bs. LinesSeen s rest (with_line first (read_lines k s.variables on bs))) (sym past)
      (subst (λ o. LinesSeen s rest (with_line first (read_lines k s.variables o tail))) there
      (one_line_more s rest tail l _ _ h.1 h.2 seen))
  after_next (Err e) h later = h

lines_seen : (k : ℕ) (s : Schedule) (rest : List ℕ) → length rest ≤ k → IsWithinLimits s → AreBytes rest
    → LinesSeen s rest (read_lines k s.variables (length (records_of s)) rest)
lines_seen zero s [] few right bytes = (WholeLines s, none_left s right)
lines_seen zero s (x ∷ rest) few right bytes = absurd (omega arith)
lines_seen (suc k) s rest few right bytes =
    after_next k s right rest bytes few _ (next_seen s right rest bytes)
    (λ t tail shorter within tail_bytes. lines_seen k t tail shorter within tail_bytes)

-- the first record
abbrev VariablesSeen : List ℕ → Result ℕ FileFault → Type 0
VariablesSeen input (Ok n) = (tail : List ℕ) × (input ≡ variables_record n ++ tail) × (0 < n) × (n ≤ MOST_VARIABLES)
VariablesSeen input (Err e) = Cause Nothing input e

only_variables : (x y : ℕ) → x ∷ y ∷ [] ≢ mark_bytes Variables → (m : Mark) → MayCome Nothing m
    → x ∷ y ∷ [] ≢ mark_bytes m
only_variables x y other m StartsFile = other

start_refused : (rest : List ℕ) (e : FileFault) → Refuses Variables 0 rest e → Cause Nothing rest e
start_refused all e (EndsInMark rest few) = CutInMark Nothing rest few
start_refused all e (EndsInBody rest few) = CutInBody Nothing Variables rest StartsFile few
start_refused all e (OtherLetters x y rest other) = OtherMark Nothing x y rest (only_variables x y other)

-- a number of variables, in range or not
module _ (input tail : List ℕ) (n : ℕ) (here : input ≡ variables_record n ++ tail) (fits : n < 2 ^ 16) where
  number_out : (n ≡ 0) ⊎ (MOST_VARIABLES < n) → Cause Nothing input (BookAt 0 BadVariables)
  number_out out = subst (λ bs. Cause Nothing bs (BookAt 0 BadVariables)) (sym here) (VariablesOut n tail fits out)

  number_seen : (b : Bool) → (ltb 0 n && leb n MOST_VARIABLES) ≡ b
      → VariablesSeen input (cond b (Ok n) (Err (BookAt 0 BadVariables)))
  number_seen true ok = let p = and_parts _ _ ok in (tail, here, ltb-true 0 n p.0, leb-true n MOST_VARIABLES p.1)
  number_seen false out = elim (and_cases (ltb 0 n) (leb n MOST_VARIABLES) out) [
    | inl none ↦ number_out (inl (omega (arith, ltb-false 0 n none)))
    | inr over ↦ number_out (inr (leb-false n MOST_VARIABLES over))
  ]

start_seen : (input : List ℕ) → AreBytes input → (r : Result (List ℕ) FileFault) → BodySeen Variables 0 input r
    → VariablesSeen input (r >>= some_variables 0)
start_seen input bytes (Ok body) h =
    let parts = bytes_parts body h.0 (subst AreBytes h.1 bytes).1.1 in
    let n = variables_in body in
    let here = h.1 ∙ ap (λ (bs : List ℕ). mark_bytes Variables ++ (bs ++ h.0)) (sym (bytes_2 body h.2 parts.0)) in
    number_seen input h.0 n here (below_2 body parts.0) _ refl
start_seen input bytes (Err e) h = start_refused input e h

variables_seen : (input : List ℕ) → AreBytes input → VariablesSeen input (read_variables 0 input)
variables_seen input bytes = start_seen input bytes _ (body_seen Variables 0 input)

-- the whole file
abbrev FileSeen : List ℕ → Result Schedule FileFault → Type 0
FileSeen input (Ok s) = (input ≡ file_of s) × IsWithinLimits s
FileSeen input (Err e) = (b : Beginning) × HasFault input b e

-- the lines after the first record
abbrev lines_after_first : List ℕ → ℕ → LinesRead
lines_after_first input n = lines_from n (record_size Variables) (drop (record_size Variables) input)

schedule_seen : (n : ℕ) (tail : List ℕ) → 0 < n → n ≤ MOST_VARIABLES → (ls : List Line) (fault : Option FileFault)
    → Ended (record { variables = n; lines = [] }) tail ls fault
    → FileSeen (variables_record n ++ tail) (schedule_unless (record { variables = n; lines = ls }) fault)
schedule_seen n tail some few ls None h = (
  ap (λ bs. variables_record n ++ bs) h.0
      ∙ sym (append_assoc (variables_record n) (flat_map line_records ls) (mark_bytes End)),
  record { some = some; few = few; lines_pass = h.1 },
)
schedule_seen n tail some few ls (Some e) h = h

of_variables : (input : List ℕ) → AreBytes input → (r : Result ℕ FileFault) → VariablesSeen input r
    → FileSeen input (schedule_read (with_variables r (lines_after_first input)))
of_variables input bytes (Ok n) h =
    let tail = h.0 in
    let s : Schedule = record { variables = n; lines = [] } in
    let within : IsWithinLimits s = record { some = h.2; few = h.3; lines_pass = tt } in
    let tail_bytes = (bytes_parts (variables_record n) tail (subst AreBytes h.1 bytes)).1 in
    let seen = lines_seen (length tail) s tail (omega arith) within tail_bytes in
    let file = schedule_seen n tail h.2 h.3 _ _ seen in
    subst (λ bs. FileSeen bs (schedule_read (with_variables (Ok n) (lines_after_first bs)))) (sym h.1) file
of_variables input bytes (Err e) h = (Nothing, record { right = tt; rest = input; begins = refl; cause = h })

file_seen : (input : List ℕ) → AreBytes input → FileSeen input (read_schedule input)
file_seen input bytes = of_variables input bytes _ (variables_seen input bytes)

pub reads_only : ReadsOnly
reads_only input s bytes h = subst (FileSeen input) h (file_seen input bytes)

pub faults_have_cause : FaultsHaveCause
faults_have_cause input e bytes h = subst (FileSeen input) h (file_seen input bytes)
