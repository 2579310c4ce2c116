-- What a record or a row of terms that was read stood as in the file, and what stood there where none was read.
use Rattle.std.proofs.Common.{◌≡◌, ℕ, zero, suc, ◌+◌, ◌*◌, ◌<◌, Bool, true, false, cond, leb, List, [], ◌∷◌, ◌++◌}
use Rattle.std.proofs.Common.{length, take, drop, Ok, Err, Result, sym, refl, ap, ◌∙◌, subst, append_assoc, arith}
use Rattle.std.proofs.Common.{w16}
use Rattle.std.specs.Int.{cast_signed, cast_unsigned, from_be_bytes, to_be_bytes}
use Rattle.std.specs.List.{AllByRecursion, flat_map}
use Rattle.std.proofs.lemmas.Bool.{false≢true, and_parts, eqb-true, leb-true, leb-false}
use Rattle.std.proofs.lemmas.List.{take-append-drop, length-take-le, drop_at}
use Rattle.fault.specs.declared.file.FileFault.{FileFault}
use Rattle.fault.specs.declared.file.FileFault.TheVariants.{Short, Mark as WrongMark}
use Rattle.pb.specs.declared.term.Term.{Term}
use Rattle.schedule.specs.declared.mark.Mark.{Mark}
use Rattle.schedule.specs.declared.mark.Mark.TheVariants.{Variables, Line as LineMark, Term as TermMark, End}
use Rattle.schedule.specs.Records.{first_letter, second_letter, is_mark, body_size, record_size, record_body, term_in}
use Rattle.schedule.specs.Reading.{◌>>=◌, read_terms}
use Rattle.schedule.specs.Writing.{AreBytes, mark_bytes, term_record}
use Rattle.schedule.specs.Faults.{FitsRecord}
use Rattle.schedule.proofs.Numbers.{signed_bytes_2, signed_bytes_4, signed_fits_2, signed_fits_4}
use Rattle.schedule.proofs.RecordFaults.{Refuses, EndsInMark, EndsInBody, OtherLetters}

-- parts of bytes are bytes
pub bytes_parts : (xs ys : List ℕ) → AreBytes (xs ++ ys) → AreBytes xs × AreBytes ys
bytes_parts [] ys h = (tt, h)
bytes_parts (x ∷ xs) ys h = let p = bytes_parts xs ys h.1 in ((h.0, p.0), p.1)

-- a record
abbrev pub BodySeen : Mark → ℕ → List ℕ → Result (List ℕ) FileFault → Type 0
BodySeen m at rest (Ok body) =
    (tail : List ℕ) × (rest ≡ mark_bytes m ++ (body ++ tail)) × (length body ≡ body_size m)
BodySeen m at rest (Err e) = Refuses m at rest e

pub own_letters : (m : Mark) → is_mark m (first_letter m) (second_letter m) ≡ true
own_letters Variables = refl
own_letters LineMark = refl
own_letters TermMark = refl
own_letters End = refl

size_seen : (m : Mark) (at : ℕ) (rest : List ℕ) (b : Bool) → leb (body_size m) (length rest) ≡ b
    → BodySeen m at (mark_bytes m ++ rest) (cond b (Ok (take (body_size m) rest)) (Err (Short at)))
size_seen m at rest true enough =
    let whole : take (body_size m) rest ++ drop (body_size m) rest ≡ rest = take-append-drop (body_size m) rest in
    let size = length-take-le (body_size m) rest (leb-true _ _ enough) in
    (drop (body_size m) rest, ap (λ r. mark_bytes m ++ r) (sym whole), size)
size_seen m at rest false few = EndsInBody rest (leb-false _ _ few)

mark_seen : (m : Mark) (at x y : ℕ) (rest : List ℕ) (b : Bool) → is_mark m x y ≡ b
    → BodySeen m at (x ∷ y ∷ rest)
    (cond b
    (cond (leb (body_size m) (length rest)) (Ok (take (body_size m) rest)) (Err (Short at)))
    (Err (WrongMark at)))
mark_seen m at x y rest true same =
    let enough = leb (body_size m) (length rest) in
    let r : Result (List ℕ) FileFault = cond enough (Ok (take (body_size m) rest)) (Err (Short at)) in
    let p = and_parts _ _ same in
    let first = eqb-true x _ p.0 in
    let second = eqb-true y _ p.1 in
    subst (λ a. BodySeen m at (a ∷ y ∷ rest) r) (sym first)
    (subst (λ b. BodySeen m at (first_letter m ∷ b ∷ rest) r) (sym second) (size_seen m at rest _ refl))
mark_seen m at x y rest false other =
    OtherLetters x y rest (λ e.
    let first : x ≡ first_letter m = cc in
    let second : y ≡ second_letter m = cc in
    false≢true
    (sym other ∙ ap (λ a. is_mark m a y) first ∙ ap (λ b. is_mark m (first_letter m) b) second ∙ own_letters m))

pub body_seen : (m : Mark) (at : ℕ) (rest : List ℕ) → BodySeen m at rest (record_body m at rest)
body_seen m at [] = EndsInMark [] (omega arith)
body_seen m at (x ∷ []) = EndsInMark (x ∷ []) (omega arith)
body_seen m at (x ∷ (y ∷ rest)) = mark_seen m at x y rest _ refl

-- a term
pub term_written : (body : List ℕ) → length body ≡ body_size TermMark → AreBytes body
    → (term_record (term_in body) ≡ mark_bytes TermMark ++ body) × FitsRecord (term_in body)
term_written (a ∷ (b ∷ (c ∷ (d ∷ (h ∷ (l ∷ [])))))) size bytes =
    let weight = a ∷ b ∷ c ∷ d ∷ [] in
    let literal = h ∷ l ∷ [] in
    let parts = bytes_parts weight literal bytes in
    let last = to_be_bytes w16 (cast_unsigned w16 (cast_signed w16 (from_be_bytes w16 literal))) in
    let same = ap (λ (bs : List ℕ). mark_bytes TermMark ++ (bs ++ last)) (signed_bytes_4 weight refl parts.0)
    ∙ ap (λ (bs : List ℕ). mark_bytes TermMark ++ (weight ++ bs)) (signed_bytes_2 literal refl parts.1) in
    (same, (signed_fits_4 weight parts.0, signed_fits_2 literal parts.1))
term_written _ size bytes = absurd (omega arith)

-- a row of terms: all that were asked for, or those that had come where the next was refused
abbrev pub TermsSeen : ℕ → ℕ → List ℕ → Result (List Term) FileFault → Type 0
TermsSeen k at rest (Ok ts) =
    (tail : List ℕ) × (rest ≡ flat_map term_record ts ++ tail) × (length ts ≡ k) × AllByRecursion FitsRecord ts
TermsSeen k at rest (Err e) =
    (ts : List Term) × (tail : List ℕ) × (rest ≡ flat_map term_record ts ++ tail) × (length ts < k)
    × AllByRecursion FitsRecord ts × Refuses TermMark (at + record_size TermMark * length ts) tail e

module _ (k at : ℕ) (rest body tail : List ℕ) (here : rest ≡ mark_bytes TermMark ++ (body ++ tail))
    (size : length body ≡ body_size TermMark) (bytes : AreBytes body) where
  one_more : (ts : List Term) (left : List ℕ) → tail ≡ flat_map term_record ts ++ left
      → rest ≡ flat_map term_record (term_in body ∷ ts) ++ left
  one_more ts left there =
      let written = (term_written body size bytes).0 in
      here ∙ ap (λ bs. mark_bytes TermMark ++ (body ++ bs)) there
      ∙ sym (append_assoc (mark_bytes TermMark ++ body) (flat_map term_record ts) left)
      ∙ ap (λ bs. (bs ++ flat_map term_record ts) ++ left) (sym written)

  term_first : (r : Result (List Term) FileFault) → TermsSeen k (at + record_size TermMark) tail r
      → TermsSeen (suc k) at rest (r >>= λ ts. Ok (term_in body ∷ ts))
  term_first (Ok ts) h = (h.0, one_more ts h.0 h.1, ap suc h.2, ((term_written body size bytes).1, h.3))
  term_first (Err e) h =
      let on : at + record_size TermMark + record_size TermMark * length h.0
      ≡ at + record_size TermMark * suc (length h.0) = omega arith in (
        term_in body ∷ h.0,
        h.1,
        one_more h.0 h.1 h.2,
        omega (arith, h.3),
        ((term_written body size bytes).1, h.4),
        subst (λ o. Refuses TermMark o h.1 e) on h.5,
      )

term_next : (k at : ℕ) (rest : List ℕ) → AreBytes rest → (r : Result (List ℕ) FileFault) → BodySeen TermMark at rest r
    → ((tail : List ℕ) → AreBytes tail
    → TermsSeen k (at + record_size TermMark) tail (read_terms k (at + record_size TermMark) tail))
    → TermsSeen (suc k) at rest (r >>= λ body.
    read_terms k (at + record_size TermMark) (drop (record_size TermMark) rest) >>= λ ts.
    Ok (term_in body ∷ ts))
term_next k at rest bytes (Ok body) h later =
    let tail = h.0 in
    let parts = bytes_parts body tail (subst AreBytes h.1 bytes).1.1 in
    let past : drop (record_size TermMark) rest ≡ tail = ap (drop (record_size TermMark)) h.1
    ∙ drop_at body tail (body_size TermMark) h.2 in
    let seen = term_first k at rest body tail h.1 h.2 parts.0 _ (later tail parts.1) in
    subst
    (λ bs. TermsSeen (suc k) at rest (read_terms k (at + record_size TermMark) bs >>= λ ts. Ok (term_in body ∷ ts)))
    (sym past) seen
term_next k at rest bytes (Err e) h later =
    let here : at ≡ at + record_size TermMark * 0 = omega arith in
    ([], rest, refl, omega arith, tt, subst (λ o. Refuses TermMark o rest e) here h)

pub terms_seen : (k at : ℕ) (rest : List ℕ) → AreBytes rest → TermsSeen k at rest (read_terms k at rest)
terms_seen zero at rest bytes = (rest, refl, refl, tt)
terms_seen (suc k) at rest bytes =
    term_next k at rest bytes (record_body TermMark at rest) (body_seen TermMark at rest)
    (terms_seen k (at + record_size TermMark))
