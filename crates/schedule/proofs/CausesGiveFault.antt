-- A file that begins right and then has the cause of a fault is read up to there, and gives that fault.
use Rattle.std.proofs.Common.{◌≡◌, ℕ, suc, ◌+◌, ◌-◌, ◌*◌, ◌^◌, ◌<◌, ◌≤◌, true, false, ◌&&◌, leb, ltb, ◌⊎◌, List, []}
use Rattle.std.proofs.Common.{◌∷◌, ◌++◌, length, drop, ℤ, nat_abs, Some, Err, Result, sym, refl, ap, ◌∙◌, subst, inl}
use Rattle.std.proofs.Common.{inr, append_assoc, arith, length-append, w32, SFits}
use Rattle.std.specs.List.{AllByRecursion, flat_map}
use Rattle.std.proofs.lemmas.Bool.{le-leb, lt-leb, lt-ltb, le-ltb, and_left, and_right}
use Rattle.std.proofs.lemmas.Nat.{from_be_bytes-to_be_bytes_2}
use Rattle.fault.specs.declared.book.BookFault.TheVariants.{Variables as BadVariables}
use Rattle.fault.specs.declared.file.FileFault.{FileFault}
use Rattle.fault.specs.declared.file.FileFault.TheVariants.{Trailing, Line as LineAt, Book as BookAt}
use Rattle.pb.specs.declared.constraint.TheConstants.{MOST_TERMS, MOST_BOUND}
use Rattle.pb.specs.declared.line_fault.LineFault.{LineFault}
use Rattle.pb.specs.declared.line_fault.LineFault.TheVariants.{Relation as BadRelation, Bound as BadBound}
use Rattle.pb.specs.declared.line_fault.LineFault.TheVariants.{Terms as TooMany, Literal as BadLiteral}
use Rattle.pb.specs.declared.line_fault.LineFault.TheVariants.{Weight as BadWeight}
use Rattle.pb.specs.declared.relation.Relation.{Relation}
use Rattle.pb.specs.declared.term.Term.{Term}
use Rattle.pb.specs.declared.variables.TheConstants.{MOST_VARIABLES}
use Rattle.pb.specs.Lines.{Line}
use Rattle.pb.specs.Checks.{relation_number, checked_head, literal_named, weight_small, terms_fault, IsTermInRange}
use Rattle.schedule.specs.declared.mark.Mark.TheVariants.{Variables, Line as LineMark, Term as TermMark, End}
use Rattle.schedule.specs.Records.{record_size, record_body, line_body}
use Rattle.schedule.specs.Reading.{◌>>=◌, read_variables, some_variables, read_terms, read_line_of, next_line, judged}
use Rattle.schedule.specs.Reading.{line_or_fault, line_fault, with_variables, lines_from, read_file, Schedule}
use Rattle.schedule.specs.Reading.{schedule_read}
use Rattle.schedule.specs.Writing.{mark_bytes, variables_record, header_record, term_record, line_records, records_of}
use Rattle.schedule.specs.Writing.{IsWithinLimits, reading_of}
use Rattle.schedule.specs.Faults.{Beginning, BegunLine, begun_records, bytes_of, whole_part, IsBegun, IsRight}
use Rattle.schedule.specs.Faults.{IsLiteralOut, IsWeightOut, ReachesTerm, Cause, CausesGiveFault}
use Rattle.schedule.specs.Faults.Beginning.{Nothing, WholeLines, WithinLine}
use Rattle.schedule.specs.Faults.MayCome.{StartsFile, StartsLine, EndsFile, GoesOnWithTerm}
use Rattle.schedule.specs.Faults.Cause.{CutInMark, CutInBody, OtherMark, ByteAfterEnd, VariablesOut, RelationOut}
use Rattle.schedule.specs.Faults.Cause.{BoundOut, TermsOut, LiteralOut, WeightOut}
use Rattle.schedule.proofs.Counting.{length-terms}
use Rattle.schedule.proofs.ReadingBack.{relation_back, terms_back, begun_back, header_read, line_back, fits_4}
use Rattle.schedule.proofs.RecordFaults.{Refuses, EndsInMark, EndsInBody, OtherLetters, refused, line_cut}
use Rattle.schedule.proofs.RecordFaults.{line_cut_short, line_other, end_trails}
use Rattle.schedule.proofs.Steps.{fault_read}
use Rattle.schedule.proofs.Terms.{behind}
use Rattle.schedule.proofs.WholeFiles.{variables_back, read_up_to, schedule_of_reading}

-- where the file's first record is due
stopped_at_start : (rest : List ℕ) (e : FileFault) → read_variables 0 rest ≡ Err e
    → read_file rest ≡ reading_of (whole_part Nothing) (Some e)
stopped_at_start rest e h =
    ap (λ r. with_variables r (λ n. lines_from n (record_size Variables) (drop (record_size Variables) rest))) h

refused_at_start : (rest : List ℕ) (e : FileFault) → Refuses Variables 0 rest e
    → read_file rest ≡ reading_of (whole_part Nothing) (Some e)
refused_at_start rest e h =
    stopped_at_start rest e (ap (λ r. r >>= some_variables 0) (refused Variables 0 rest e h))

-- where a line or the end is due
stopped_between : (s : Schedule) (rest : List ℕ) (e : FileFault) → IsWithinLimits s
    → next_line s.variables (length (records_of s)) rest ≡ Err e
    → read_file (records_of s ++ rest) ≡ reading_of s (Some e)
stopped_between s rest e right h =
    read_up_to s rest (Some e) right (fault_read s.variables (length (records_of s)) rest e h)

refused_between : (s : Schedule) (rest : List ℕ) (e : FileFault) → IsWithinLimits s
    → line_body (length (records_of s)) rest ≡ Err e
    → read_file (records_of s ++ rest) ≡ reading_of s (Some e)
refused_between s rest e right h =
    let at = length (records_of s) in
    stopped_between s rest e right (ap (λ r. r >>= read_line_of at rest >>= judged s.variables at) h)

-- where a term is due
behind_fault : (ts : List Term) (r : Result (List Term) FileFault) (e : FileFault) → r ≡ Err e → behind ts r ≡ Err e
behind_fault ts r e h = ap (behind ts) h

next_refused : (k at : ℕ) (rest : List ℕ) (e : FileFault) → record_body TermMark at rest ≡ Err e
    → read_terms (suc k) at rest ≡ Err e
next_refused k at rest e h = rw h refl

begun_refused : (n at : ℕ) (b : BegunLine) (rest : List ℕ) (e : FileFault) → IsBegun b
    → Refuses TermMark (at + length (begun_records b)) rest e
    → next_line n at (begun_records b ++ rest) ≡ Err e
begun_refused n at b rest e begun h =
    let header = header_record (relation_number b.relation) b.announced b.bound in
    let behind_it = flat_map term_record b.terms ++ rest in
    let left : b.announced ≡ length b.terms + suc (b.announced - suc (length b.terms)) = omega (arith, begun.due) in
    let size = length-terms b.terms in
    let there : at + length (begun_records b)
    ≡ at + record_size LineMark + record_size TermMark * length b.terms = omega arith in
    let due = subst (λ o. record_body TermMark o rest ≡ Err e) there (refused TermMark _ rest e h) in
    let terms = ap (λ k. read_terms k (at + record_size LineMark) behind_it) left
    ∙ terms_back b.terms (suc (b.announced - suc (length b.terms))) (at + record_size LineMark) rest begun.terms_fit
    ∙ behind_fault b.terms _ e (next_refused _ _ rest e due) in
    ap (next_line n at) (append_assoc header (flat_map term_record b.terms) rest)
    ∙ ap (λ r. r >>= judged n at) (begun_back b.relation b.bound b.announced at behind_it begun.header)
    ∙ rw terms refl

refused_within : (s : Schedule) (b : BegunLine) (rest : List ℕ) (e : FileFault) → IsWithinLimits s → IsBegun b
    → Refuses TermMark (length (bytes_of (WithinLine s b))) rest e
    → read_file (bytes_of (WithinLine s b) ++ rest) ≡ reading_of s (Some e)
refused_within s b rest e right begun h =
    let there = subst (λ o. Refuses TermMark o rest e) (length-append (records_of s) (begun_records b)) h in
    ap read_file (append_assoc (records_of s) (begun_records b) rest)
    ∙ stopped_between s (begun_records b ++ rest) e right
    (begun_refused s.variables (length (records_of s)) b rest e begun there)

-- a term out of range
module _ (n : ℕ) where
  in_range_before : (i : ℕ) (before rest : List Term) → AllByRecursion (IsTermInRange n) before
      → terms_fault n i (before ++ rest) ≡ terms_fault n (i + length before) rest
  in_range_before i [] rest h = let here : i ≡ i + 0 = omega arith in ap (λ k. terms_fault n k rest) here
  in_range_before i (t ∷ before) rest h =
      let on : suc i + length before ≡ i + suc (length before) = omega arith in
      let named : literal_named n t.literal ≡ true = rw (lt-ltb 0 _ h.0.0, le-leb _ n h.0.1) refl in
      let small : weight_small t.weight ≡ true = le-leb _ _ h.0.2 in
      rw (named, small) (in_range_before (suc i) before rest h.1 ∙ ap (λ k. terms_fault n k rest) on)

  literal_out : (i : ℕ) (t : Term) (rest : List Term) → IsLiteralOut n t
      → terms_fault n i (t ∷ rest) ≡ Some (BadLiteral i)
  literal_out i t rest (inl none) =
      let named : literal_named n t.literal ≡ false = and_left _ _ (le-ltb 0 (nat_abs t.literal) (omega arith)) in
      rw named refl
  literal_out i t rest (inr over) =
      let named : literal_named n t.literal ≡ false = and_right _ _ (lt-leb _ n over) in
      rw named refl

  weight_out : (i : ℕ) (t : Term) (rest : List Term) → IsWeightOut n t
      → terms_fault n i (t ∷ rest) ≡ Some (BadWeight i)
  weight_out i t rest out =
      let named : literal_named n t.literal ≡ true = rw (lt-ltb 0 _ out.0, le-leb _ n out.1) refl in
      let small : weight_small t.weight ≡ false = lt-leb _ _ out.2 in
      rw (named, small) refl

  term_refused : (at : ℕ) (l : Line) (before : List Term) (t : Term) (rest : List ℕ) (e : LineFault)
      → ReachesTerm n l before t
      → ((after : List Term) → terms_fault n (suc (length before)) (t ∷ after) ≡ Some e)
      → next_line n at (line_records l ++ rest) ≡ line_fault at e
  term_refused at l before t rest e reaches h =
      let first : suc (length before) ≡ 1 + length before = omega arith in
      let found : terms_fault n 1 l.terms ≡ Some e = ap (terms_fault n 1) reaches.parts
      ∙ in_range_before 1 before (t ∷ reaches.after) reaches.in_range
      ∙ ap (λ k. terms_fault n k (t ∷ reaches.after)) (sym first) ∙ h reaches.after in
      ap (λ r. r >>= judged n at) (line_back l at rest reaches.header reaches.terms_fit)
      ∙ ap (line_or_fault at l) found

-- a number of variables out of range
variables_out : (n : ℕ) → (n ≡ 0) ⊎ (MOST_VARIABLES < n) → (ltb 0 n && leb n MOST_VARIABLES) ≡ false
variables_out n (inl none) = and_left _ _ (le-ltb 0 n (omega arith))
variables_out n (inr over) = and_right (ltb 0 n) _ (lt-leb n MOST_VARIABLES over)

variables_refused : (n : ℕ) (rest : List ℕ) → n < 2 ^ 16 → (n ≡ 0) ⊎ (MOST_VARIABLES < n)
    → read_variables 0 (variables_record n ++ rest) ≡ Err (BookAt 0 BadVariables)
variables_refused n rest fits out =
    variables_back n rest fits ∙ rw (from_be_bytes-to_be_bytes_2 n fits, variables_out n out) refl

-- a first record of a line whose relation, bound or number of terms is out of range
header_refused : (n at number terms : ℕ) (bound : ℤ) (rest : List ℕ) (e : LineFault) → SFits w32 bound
    → checked_head number bound terms ≡ Err e
    → next_line n at (header_record number terms bound ++ rest) ≡ line_fault at e
header_refused n at number terms bound rest e fits h =
    ap (λ r. r >>= judged n at) (header_read number terms at bound rest fits) ∙ rw h refl

bound_out : (r : Relation) (bound : ℤ) (terms : ℕ) → MOST_BOUND < nat_abs bound
    → checked_head (relation_number r) bound terms ≡ Err BadBound
bound_out r bound terms over = rw (relation_back r, lt-leb (nat_abs bound) MOST_BOUND over) refl

terms_out : (r : Relation) (bound : ℤ) (terms : ℕ) → nat_abs bound ≤ MOST_BOUND → MOST_TERMS < terms
    → checked_head (relation_number r) bound terms ≡ Err TooMany
terms_out r bound terms bounded over =
    rw (relation_back r, le-leb (nat_abs bound) MOST_BOUND bounded, lt-leb terms MOST_TERMS over) refl

-- where a term's fault stands
term_place : (at : ℕ) (before : List Term)
    → at + record_size TermMark * suc (length before)
    ≡ at + record_size LineMark + record_size TermMark * length before
term_place at before = omega arith

-- whatever the cause
caused : (b : Beginning) (rest : List ℕ) (e : FileFault) → IsRight b → Cause b rest e
    → read_file (bytes_of b ++ rest) ≡ reading_of (whole_part b) (Some e)
caused b all e right (CutInMark Nothing rest few) = refused_at_start rest e (EndsInMark rest few)
caused b all e right (CutInMark (WholeLines s) rest few) =
    refused_between s rest e right (line_cut (length (records_of s)) rest few)
caused b all e right (CutInMark (WithinLine s l) rest few) =
    refused_within s l rest e right.0 right.1 (EndsInMark rest few)
caused b all e right (CutInBody Nothing m rest StartsFile few) =
    refused_at_start (mark_bytes Variables ++ rest) e (EndsInBody rest few)
caused b all e right (CutInBody (WholeLines s) m rest StartsLine few) =
    refused_between s (mark_bytes LineMark ++ rest) e right (line_cut_short (length (records_of s)) rest few)
caused b all e right (CutInBody (WholeLines s) m rest EndsFile few) = absurd (omega arith)
caused b all e right (CutInBody (WithinLine s l) m rest GoesOnWithTerm few) =
    refused_within s l (mark_bytes TermMark ++ rest) e right.0 right.1 (EndsInBody rest few)
caused b all e right (OtherMark Nothing x y rest other) =
    refused_at_start (x ∷ y ∷ rest) e (OtherLetters x y rest (other Variables StartsFile))
caused b all e right (OtherMark (WholeLines s) x y rest other) =
    refused_between s (x ∷ y ∷ rest) e right
    (line_other (length (records_of s)) x y rest (other LineMark StartsLine) (other End EndsFile))
caused b all e right (OtherMark (WithinLine s l) x y rest other) =
    refused_within s l (x ∷ y ∷ rest) e right.0 right.1 (OtherLetters x y rest (other TermMark GoesOnWithTerm))
caused b all e right (ByteAfterEnd s x rest) =
    refused_between s (mark_bytes End ++ x ∷ rest) (Trailing (length (records_of s) + record_size End)) right
    (end_trails (length (records_of s)) x rest)
    ∙ ap (λ o. reading_of s (Some (Trailing o))) (sym (length-append (records_of s) (mark_bytes End)))
caused b all e right (VariablesOut n rest fits out) =
    stopped_at_start (variables_record n ++ rest) e (variables_refused n rest fits out)
caused b all e right (RelationOut s number terms bound rest fits none) =
    stopped_between s (header_record number terms bound ++ rest) e right
    (header_refused s.variables (length (records_of s)) number terms bound rest BadRelation fits (rw none refl))
caused b all e right (BoundOut s r terms bound rest fits over) =
    stopped_between s (header_record (relation_number r) terms bound ++ rest) e right
    (header_refused s.variables (length (records_of s)) (relation_number r) terms bound rest BadBound fits
    (bound_out r bound terms over))
caused b all e right (TermsOut s r terms bound rest bounded over) =
    stopped_between s (header_record (relation_number r) terms bound ++ rest) e right
    (header_refused s.variables (length (records_of s)) (relation_number r) terms bound rest TooMany
    (fits_4 bound bounded)
    (terms_out r bound terms bounded over))
caused b all e right (LiteralOut s l before t rest reaches out) =
    let at = length (records_of s) in
    stopped_between s (line_records l ++ rest) e right
    (term_refused s.variables at l before t rest (BadLiteral (suc (length before))) reaches
    (λ after. literal_out s.variables (suc (length before)) t after out)
    ∙ ap (λ o. Err (LineAt o (BadLiteral (suc (length before))))) (term_place at before))
caused b all e right (WeightOut s l before t rest reaches out) =
    let at = length (records_of s) in
    stopped_between s (line_records l ++ rest) e right
    (term_refused s.variables at l before t rest (BadWeight (suc (length before))) reaches
    (λ after. weight_out s.variables (suc (length before)) t after out)
    ∙ ap (λ o. Err (LineAt o (BadWeight (suc (length before))))) (term_place at before))

pub causes_give_fault : CausesGiveFault
causes_give_fault input b e h =
    let read = ap read_file h.begins ∙ caused b h.rest e h.right h.cause in
    (ap schedule_read read ∙ schedule_of_reading (whole_part b) (Some e), read)
