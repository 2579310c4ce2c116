-- Where a record with a mark that is due does not stand whole: the rest ends within it, or begins with other letters.
use Rattle.std.proofs.Common.{◌≡◌, ◌≢◌, ℕ, ◌+◌, ◌<◌, false, leb, eqb, suc, List, [], ◌∷◌, ◌++◌, length, Err, refl}
use Rattle.std.proofs.Common.{arith}
use Rattle.std.proofs.lemmas.Bool.{false_from_ne_true, and_parts, eqb-true, ne_eqb, lt-leb}
use Rattle.std.proofs.lemmas.Bool.Decides.{nat_tests}
use Rattle.fault.specs.declared.file.FileFault.{FileFault}
use Rattle.fault.specs.declared.file.FileFault.TheVariants.{Short, Mark as WrongMark, Trailing}
use Rattle.schedule.specs.declared.mark.Mark.{Mark}
use Rattle.schedule.specs.declared.mark.Mark.TheVariants.{Line as LineMark, End}
use Rattle.schedule.specs.declared.mark.TheConstants.{MARK_SIZE}
use Rattle.schedule.specs.Records.{is_mark, body_size, record_size, record_body, line_body}
use Rattle.schedule.specs.Writing.{mark_bytes}

pub data Refuses (m : Mark) (at : ℕ) : List ℕ → FileFault → Type 0 where
  EndsInMark : (rest : List ℕ) → length rest < MARK_SIZE → Refuses m at rest (Short at)
  EndsInBody : (rest : List ℕ) → length rest < body_size m → Refuses m at (mark_bytes m ++ rest) (Short at)
  OtherLetters : (x y : ℕ) (rest : List ℕ) → x ∷ y ∷ [] ≢ mark_bytes m → Refuses m at (x ∷ y ∷ rest) (WrongMark at)

pub other_letters : (m : Mark) (x y : ℕ) → x ∷ y ∷ [] ≢ mark_bytes m → is_mark m x y ≡ false
other_letters m x y other =
    false_from_ne_true (is_mark m x y) (λ same.
    let p = and_parts _ _ same in
    let first = eqb-true x _ p.0 in
    let second = eqb-true y _ p.1 in
    other cc)

within_mark : (m : Mark) (at : ℕ) (rest : List ℕ) → length rest < MARK_SIZE → record_body m at rest ≡ Err (Short at)
within_mark m at [] h = refl
within_mark m at (x ∷ []) h = refl
within_mark m at (x ∷ (y ∷ rest)) h = absurd (omega arith)

within_body : (m : Mark) (at : ℕ) (rest : List ℕ) → length rest < body_size m
    → record_body m at (mark_bytes m ++ rest) ≡ Err (Short at)
within_body m at rest h =
    let few : leb (body_size m) (length rest) ≡ false = lt-leb (body_size m) (length rest) h in
    grind (arith, nat_tests)

pub refused : (m : Mark) (at : ℕ) (rest : List ℕ) (e : FileFault) → Refuses m at rest e → record_body m at rest ≡ Err e
refused m at all e (EndsInMark rest h) = within_mark m at rest h
refused m at all e (EndsInBody rest h) = within_body m at rest h
refused m at all e (OtherLetters x y rest h) = rw (other_letters m x y h) refl

-- the same of a line's first record, or the end
pub line_cut : (at : ℕ) (rest : List ℕ) → length rest < MARK_SIZE → line_body at rest ≡ Err (Short at)
line_cut at [] h = refl
line_cut at (x ∷ []) h = refl
line_cut at (x ∷ (y ∷ rest)) h = absurd (omega arith)

pub line_cut_short : (at : ℕ) (rest : List ℕ) → length rest < body_size LineMark
    → line_body at (mark_bytes LineMark ++ rest) ≡ Err (Short at)
line_cut_short at rest h = rw (within_body LineMark at rest h) refl

pub line_other : (at x y : ℕ) (rest : List ℕ) → x ∷ y ∷ [] ≢ mark_bytes LineMark → x ∷ y ∷ [] ≢ mark_bytes End
    → line_body at (x ∷ y ∷ rest) ≡ Err (WrongMark at)
line_other at x y rest not_line not_end = rw (other_letters End x y not_end, other_letters LineMark x y not_line) refl

pub end_trails : (at x : ℕ) (rest : List ℕ)
    → line_body at (mark_bytes End ++ x ∷ rest) ≡ Err (Trailing (at + record_size End))
end_trails at x rest =
    let long : eqb (suc (suc (suc (length rest)))) (record_size End) ≡ false = ne_eqb _ _ (λ e. omega arith) in
    rw long refl
