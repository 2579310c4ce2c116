-- What the next line, the end or a fault stood as in the file, after the records of a schedule.
use Rattle.std.proofs.Common.{◌≡◌, ◌≢◌, ℕ, suc, ◌+◌, ◌*◌, Bool, true, false, cond, eqb, List, [], ◌∷◌, ◌++◌, length}
use Rattle.std.proofs.Common.{drop, ℤ, Some, None, Ok, Err, Option, Result, sym, refl, ap, ◌∙◌, subst, inl, inr}
use Rattle.std.proofs.Common.{append_assoc, arith, length-append, w32, SFits}
use Rattle.std.specs.List.{AllByRecursion, flat_map}
use Rattle.std.proofs.lemmas.Bool.{false≢true, and_parts, eqb-true, ne_eqb}
use Rattle.std.proofs.lemmas.List.{drop_at}
use Rattle.fault.specs.declared.file.FileFault.{FileFault}
use Rattle.fault.specs.declared.file.FileFault.TheVariants.{Trailing, Line as LineAt}
use Rattle.pb.specs.declared.line_fault.LineFault.{LineFault}
use Rattle.pb.specs.declared.line_fault.LineFault.TheVariants.{Relation as BadRelation, Bound as BadBound}
use Rattle.pb.specs.declared.line_fault.LineFault.TheVariants.{Terms as TooMany, Literal as BadLiteral}
use Rattle.pb.specs.declared.line_fault.LineFault.TheVariants.{Weight as BadWeight}
use Rattle.pb.specs.declared.relation.Relation.{Relation}
use Rattle.pb.specs.declared.term.Term.{Term}
use Rattle.pb.specs.Lines.{Line}
use Rattle.pb.specs.Checks.{relation_number, checked_head, PassesChecks}
use Rattle.schedule.specs.declared.mark.Mark.{Mark}
use Rattle.schedule.specs.declared.mark.Mark.TheVariants.{Line as LineMark, Term as TermMark, End}
use Rattle.schedule.specs.Records.{first_letter, second_letter, is_mark, body_size, record_size, record_body}
use Rattle.schedule.specs.Records.{some_body, line_body, relation_in, terms_in, bound_in}
use Rattle.schedule.specs.Reading.{◌>>=◌, head_or_fault, offset_of_fault, read_terms, read_line, read_line_of}
use Rattle.schedule.specs.Reading.{read_line_with, next_line, judged, line_or_fault, Schedule}
use Rattle.schedule.specs.Writing.{AreBytes, mark_bytes, header_record, term_record, line_records, records_of}
use Rattle.schedule.specs.Writing.{IsWithinLimits}
use Rattle.schedule.specs.Faults.{BegunLine, Beginning, begun_records, bytes_of, FitsRecord, IsHeaderInRange}
use Rattle.schedule.specs.Faults.{ReachesTerm, MayCome, Cause, HasFault}
use Rattle.schedule.specs.Faults.Beginning.{WholeLines, WithinLine}
use Rattle.schedule.specs.Faults.MayCome.{StartsLine, EndsFile, GoesOnWithTerm}
use Rattle.schedule.specs.Faults.Cause.{CutInMark, CutInBody, OtherMark, ByteAfterEnd, RelationOut, BoundOut}
use Rattle.schedule.specs.Faults.Cause.{TermsOut, LiteralOut, WeightOut}
use Rattle.schedule.proofs.Counting.{length-terms}
use Rattle.schedule.proofs.RecordFaults.{Refuses, EndsInMark, EndsInBody, OtherLetters}
use Rattle.schedule.proofs.RecordsSeen.{bytes_parts, BodySeen, body_seen, TermsSeen, terms_seen}
use Rattle.schedule.proofs.HeadersSeen.{header_written, HeaderSeen, header_seen, OutAt, TermsJudged, terms_judged}

no_term : (s : Schedule) (b : BegunLine) (x y : ℕ) → x ∷ y ∷ [] ≢ mark_bytes TermMark → (m : Mark)
    → MayCome (WithinLine s b) m → x ∷ y ∷ [] ≢ mark_bytes m
no_term s b x y other m GoesOnWithTerm = other

module _ (s : Schedule) where
  -- the first record of a line, or the end
  abbrev FirstSeen : List ℕ → Result (Option (List ℕ)) FileFault → Type 0
  FirstSeen rest (Ok None) = rest ≡ mark_bytes End
  FirstSeen rest (Ok (Some body)) =
      (tail : List ℕ) × (rest ≡ mark_bytes LineMark ++ (body ++ tail)) × (length body ≡ body_size LineMark)
  FirstSeen rest (Err e) = Cause (WholeLines s) rest e

  -- the rest does not begin with the end
  abbrev NotEnd : List ℕ → Type 0
  NotEnd rest = (x y : ℕ) (tail : List ℕ) → rest ≡ x ∷ y ∷ tail → x ∷ y ∷ [] ≢ mark_bytes End

  no_mark_here : (x y : ℕ) → x ∷ y ∷ [] ≢ mark_bytes LineMark → x ∷ y ∷ [] ≢ mark_bytes End → (m : Mark)
      → MayCome (WholeLines s) m → x ∷ y ∷ [] ≢ mark_bytes m
  no_mark_here x y not_line not_end m StartsLine = not_line
  no_mark_here x y not_line not_end m EndsFile = not_end

  line_refused : (rest : List ℕ) (e : FileFault) → NotEnd rest → Refuses LineMark (length (records_of s)) rest e
      → Cause (WholeLines s) rest e
  line_refused all e not_end (EndsInMark rest few) = CutInMark (WholeLines s) rest few
  line_refused all e not_end (EndsInBody rest few) = CutInBody (WholeLines s) LineMark rest StartsLine few
  line_refused all e not_end (OtherLetters x y rest other) =
      OtherMark (WholeLines s) x y rest (no_mark_here x y other (not_end x y rest refl))

  first_or_refused : (rest : List ℕ) (r : Result (List ℕ) FileFault) → NotEnd rest
      → BodySeen LineMark (length (records_of s)) rest r → FirstSeen rest (some_body r)
  first_or_refused rest (Ok body) not_end h = h
  first_or_refused rest (Err e) not_end h = line_refused rest e not_end h

  line_first : (rest : List ℕ) → NotEnd rest
      → FirstSeen rest (some_body (record_body LineMark (length (records_of s)) rest))
  line_first rest not_end = first_or_refused rest _ not_end (body_seen LineMark (length (records_of s)) rest)

  -- the letters of the end
  own_end : (x y : ℕ) → x ∷ y ∷ [] ≡ mark_bytes End → is_mark End x y ≡ true
  own_end x y h =
      let first : x ≡ first_letter End = cc in
      let second : y ≡ second_letter End = cc in
      rw (first, second) refl

  end_letters : (x y : ℕ) → is_mark End x y ≡ true → x ∷ y ∷ [] ≡ mark_bytes End
  end_letters x y h =
      let p = and_parts _ _ h in
      let first = eqb-true x _ p.0 in
      let second = eqb-true y _ p.1 in
      cc

  ended : (x y : ℕ) (tail : List ℕ) → x ∷ y ∷ [] ≡ mark_bytes End
      → FirstSeen (x ∷ y ∷ tail)
      (cond
      (eqb (length (x ∷ y ∷ tail)) (record_size End))
      (Ok None)
      (Err (Trailing (length (records_of s) + record_size End))))
  ended x y [] is = is
  ended x y (z ∷ tail) is =
      let long : eqb (length (x ∷ y ∷ z ∷ tail)) (record_size End) ≡ false = ne_eqb _ _ (λ e. omega arith) in
      let bytes : x ∷ y ∷ z ∷ tail ≡ mark_bytes End ++ z ∷ tail = ap (λ (bs : List ℕ). bs ++ z ∷ tail) is in
      let there = length-append (records_of s) (mark_bytes End) in
      let cause = subst (λ o. Cause (WholeLines s) (mark_bytes End ++ z ∷ tail) (Trailing o)) there
      (ByteAfterEnd s z tail) in
      let fault = Trailing (length (records_of s) + record_size End) in
      rw long (subst (λ bs. Cause (WholeLines s) bs fault) (sym bytes) cause)

  marked_end : (x y : ℕ) (tail : List ℕ) (b : Bool) → is_mark End x y ≡ b
      → FirstSeen (x ∷ y ∷ tail)
      (cond b
      (cond
      (eqb (length (x ∷ y ∷ tail)) (record_size End))
      (Ok None)
      (Err (Trailing (length (records_of s) + record_size End))))
      (some_body (record_body LineMark (length (records_of s)) (x ∷ y ∷ tail))))
  marked_end x y tail true is = ended x y tail (end_letters x y is)
  marked_end x y tail false other =
      line_first (x ∷ y ∷ tail) (λ a b t e same.
      let first : x ≡ a = cc in
      let second : y ≡ b = cc in
      false≢true (sym other ∙ rw (first, second) (own_end a b same)))

  first_seen : (rest : List ℕ) → FirstSeen rest (line_body (length (records_of s)) rest)
  first_seen [] = line_first [] (λ x y tail e. absurd cc)
  first_seen (x ∷ []) = line_first (x ∷ []) (λ a b tail e. absurd cc)
  first_seen (x ∷ (y ∷ tail)) = marked_end x y tail _ refl

-- where a term is due
within_cause : (s : Schedule) (b : BegunLine) (rest : List ℕ) (e : FileFault)
    → Refuses TermMark (length (bytes_of (WithinLine s b))) rest e → Cause (WithinLine s b) rest e
within_cause s b all e (EndsInMark rest few) = CutInMark (WithinLine s b) rest few
within_cause s b all e (EndsInBody rest few) = CutInBody (WithinLine s b) TermMark rest GoesOnWithTerm few
within_cause s b all e (OtherLetters x y rest other) = OtherMark (WithinLine s b) x y rest (no_term s b x y other)

module _ (s : Schedule) (right : IsWithinLimits s) where
  -- a line before its terms are judged
  abbrev LineSeen : List ℕ → Result (Option Line) FileFault → Type 0
  LineSeen rest (Ok None) = rest ≡ mark_bytes End
  LineSeen rest (Ok (Some l)) =
      (tail : List ℕ) × (rest ≡ line_records l ++ tail) × IsHeaderInRange l.bound (length l.terms)
      × AllByRecursion FitsRecord l.terms
  LineSeen rest (Err e) = (b : Beginning) × HasFault (records_of s ++ rest) b e

  -- a fault where a line or the end is due
  between : (rest here : List ℕ) (e : FileFault) → rest ≡ here → Cause (WholeLines s) here e → LineSeen rest (Err e)
  between rest here e is cause =
      (WholeLines s, record { right = right; rest = here; begins = ap (λ bs. records_of s ++ bs) is; cause = cause })

  module _ (rest tail : List ℕ) (number terms : ℕ) (bound : ℤ)
      (here : rest ≡ header_record number terms bound ++ tail) (r : Relation) (is : number ≡ relation_number r) where
    named : rest ≡ header_record (relation_number r) terms bound ++ tail
    named = here ∙ ap (λ k. header_record k terms bound ++ tail) is

    with_terms : (q : Result (List Term) FileFault) → IsHeaderInRange bound terms
        → TermsSeen terms (length (records_of s) + record_size LineMark) tail q
        → LineSeen rest (q >>= λ ts. Ok (Some (record { relation = r; bound = bound; terms = ts })))
    with_terms (Ok ts) in_range h =
        let header = header_record (relation_number r) terms bound in
        let all = named ∙ ap (λ bs. header ++ bs) h.1 ∙ sym (append_assoc header (flat_map term_record ts) h.0)
        ∙ ap (λ k. (header_record (relation_number r) k bound ++ flat_map term_record ts) ++ h.0) (sym h.2) in
        (h.0, all, subst (IsHeaderInRange bound) (sym h.2) in_range, h.3)
    with_terms (Err e) in_range h =
        let header = header_record (relation_number r) terms bound in
        let begun : BegunLine = record { relation = r; bound = bound; announced = terms; terms = h.0 } in
        let stands = named ∙ ap (λ bs. header ++ bs) h.2 ∙ sym (append_assoc header (flat_map term_record h.0) h.1) in
        let at = length (records_of s) in
        let both = length-append (records_of s) (begun_records begun) in
        let size = length-terms h.0 in
        let there : at + record_size LineMark + record_size TermMark * length h.0
        ≡ length (bytes_of (WithinLine s begun)) = omega arith in (
          WithinLine s begun,
          record {
            right = (right, record { header = in_range; due = h.3; terms_fit = h.4 });
            rest = h.1;
            begins =
                ap (λ bs. records_of s ++ bs) stands ∙ sym (append_assoc (records_of s) (begun_records begun) h.1);
            cause = within_cause s begun h.1 e (subst (λ o. Refuses TermMark o h.1 e) there h.5);
          },
        )

  module _ (rest tail : List ℕ) (bytes : AreBytes tail) where
    of_header : (number terms : ℕ) (bound : ℤ) → rest ≡ header_record number terms bound ++ tail → SFits w32 bound
        → (q : Result Relation LineFault) → HeaderSeen number bound terms q
        → LineSeen rest (head_or_fault (length (records_of s)) q >>= λ r.
        read_terms terms (length (records_of s) + record_size LineMark) tail >>= λ ts.
        Ok (Some (record { relation = r; bound = bound; terms = ts })))
    of_header number terms bound here fits (Ok r) h =
        with_terms rest tail number terms bound here r h.0 _ (h.1, h.2)
        (terms_seen terms (length (records_of s) + record_size LineMark) tail bytes)
    of_header number terms bound here fits (Err BadRelation) none =
        between rest _ _ here (RelationOut s number terms bound tail fits none)
    of_header number terms bound here fits (Err BadBound) h =
        between rest _ _ (named rest tail number terms bound here h.0 h.1) (BoundOut s h.0 terms bound tail fits h.2)
    of_header number terms bound here fits (Err TooMany) h =
        between rest _ _ (named rest tail number terms bound here h.0 h.1) (TermsOut s h.0 terms bound tail h.2 h.3)
    of_header number terms bound here fits (Err (BadLiteral i)) h = absurd h
    of_header number terms bound here fits (Err (BadWeight i)) h = absurd h

    with_body : (body : List ℕ) → rest ≡ mark_bytes LineMark ++ (body ++ tail) → length body ≡ body_size LineMark
        → AreBytes body
        → LineSeen rest (read_line_with (length (records_of s)) rest body)
    with_body body here size body_bytes =
        let checked = checked_head (relation_in body) (bound_in body) (terms_in body) in
        let written = header_written body size body_bytes in
        let stands = here ∙ ap (λ bs. bs ++ tail) (sym written.0) in
        let past : drop (record_size LineMark) rest ≡ tail = ap (drop (record_size LineMark)) here
        ∙ drop_at body tail (body_size LineMark) size in
        subst
        (λ bs. LineSeen rest (head_or_fault (length (records_of s)) checked >>= λ r.
        read_terms (terms_in body) (length (records_of s) + record_size LineMark) bs >>= λ ts.
        Ok (Some (record { relation = r; bound = bound_in body; terms = ts }))))
        (sym past)
        (of_header (relation_in body) (terms_in body) (bound_in body) stands written.1 _
        (header_seen (relation_in body) (terms_in body) (bound_in body)))

  of_first : (rest : List ℕ) → AreBytes rest → (o : Result (Option (List ℕ)) FileFault) → FirstSeen s rest o
      → LineSeen rest (o >>= read_line_of (length (records_of s)) rest)
  of_first rest bytes (Ok None) h = h
  of_first rest bytes (Ok (Some body)) h =
      let parts = bytes_parts body h.0 (subst AreBytes h.1 bytes).1.1 in
      with_body rest h.0 parts.1 body h.1 h.2 parts.0
  of_first rest bytes (Err e) h = between rest rest e refl h

  line_seen : (rest : List ℕ) → AreBytes rest → LineSeen rest (read_line (length (records_of s)) rest)
  line_seen rest bytes = of_first rest bytes _ (first_seen s rest)

  -- and when they are judged
  abbrev pub NextSeen : List ℕ → Result (Option Line) FileFault → Type 0
  NextSeen rest (Ok None) = rest ≡ mark_bytes End
  NextSeen rest (Ok (Some l)) = (tail : List ℕ) × (rest ≡ line_records l ++ tail) × PassesChecks s.variables l
  NextSeen rest (Err e) = (b : Beginning) × HasFault (records_of s ++ rest) b e

  module _ (rest tail : List ℕ) (l : Line) (here : rest ≡ line_records l ++ tail)
      (header : IsHeaderInRange l.bound (length l.terms)) (fits : AllByRecursion FitsRecord l.terms) where
    reaches : (e : LineFault) (o : OutAt s.variables 1 l.terms e) → ReachesTerm s.variables l o.before o.term
    reaches e o = record { header = header; terms_fit = fits; after = o.after; parts = o.parts; in_range = o.in_range }

    -- a fault of the term with this number stands where its record does
    at_term : (e : LineFault) (k : ℕ) (fault : ℕ → LineFault) → e ≡ fault (1 + k)
        → ((i : ℕ) → offset_of_fault (length (records_of s)) (fault i)
        ≡ length (records_of s) + record_size TermMark * i)
        → LineAt (length (records_of s) + record_size LineMark + record_size TermMark * k) (fault (suc k))
        ≡ LineAt (offset_of_fault (length (records_of s)) e) e
    at_term e k fault is place =
        let at = length (records_of s) in
        let next : 1 + k ≡ suc k = omega arith in
        let there : at + record_size LineMark + record_size TermMark * k
        ≡ at + record_size TermMark * suc k = omega arith in
        ap (λ o. LineAt o (fault (suc k))) (there ∙ sym (place (suc k)))
        ∙ ap (λ x. LineAt (offset_of_fault at x) x) (sym (is ∙ ap fault next))

    term_out : (e : LineFault) → OutAt s.variables 1 l.terms e
        → NextSeen rest (Err (LineAt (offset_of_fault (length (records_of s)) e) e))
    term_out e o =
        let k = length o.before in
        let stands : FileFault → Type 0 = λ x. (b : Beginning) × HasFault (records_of s ++ rest) b x in
        elim o.out [
          | inl p ↦ subst stands (at_term e k BadLiteral p.0 (λ i. refl))
              (between rest _ _ here (LiteralOut s l o.before o.term tail (reaches e o) p.1))
          | inr p ↦ subst stands (at_term e k BadWeight p.0 (λ i. refl))
              (between rest _ _ here (WeightOut s l o.before o.term tail (reaches e o) p.1))
        ]

    line_judged : (q : Option LineFault) → TermsJudged s.variables 1 l.terms q
        → NextSeen rest (line_or_fault (length (records_of s)) l q)
    line_judged None fine = (tail, here, record { bounded = header.0; few = header.1; fine = fine })
    line_judged (Some e) out = term_out e out

  of_line : (rest : List ℕ) (o : Result (Option Line) FileFault) → LineSeen rest o
      → NextSeen rest (o >>= judged s.variables (length (records_of s)))
  of_line rest (Ok None) h = h
  of_line rest (Ok (Some l)) h = line_judged rest h.0 l h.1 h.2 h.3 _ (terms_judged s.variables 1 l.terms)
  of_line rest (Err e) h = h

  pub next_seen : (rest : List ℕ) → AreBytes rest → NextSeen rest (next_line s.variables (length (records_of s)) rest)
  next_seen rest bytes = of_line rest _ (line_seen rest bytes)
