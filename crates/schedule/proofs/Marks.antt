-- A rest that begins with no mark has no record of the mark that is due, and is not at the end.
use Rattle.std.proofs.Common.{◌≡◌, ℕ, ◌≤◌, false, List, [], ◌∷◌, length, Err, refl, arith}
use Rattle.fault.specs.declared.file.FileFault.TheVariants.{Mark as WrongMark}
use Rattle.schedule.specs.declared.mark.Mark.{Mark}
use Rattle.schedule.specs.declared.mark.Mark.TheVariants.{End}
use Rattle.schedule.specs.Records.{is_mark, record_body, is_at_end}

pub no_record : (due : Mark) (at : ℕ) (rest : List ℕ) → 2 ≤ length rest
    → ((x y : ℕ) (tail : List ℕ) → rest ≡ x ∷ y ∷ tail → is_mark due x y ≡ false)
    → record_body due at rest ≡ Err (WrongMark at)
no_record due at [] l n = absurd (omega arith)
no_record due at (x ∷ []) l n = absurd (omega arith)
no_record due at (x ∷ (y ∷ tail)) l n = rw (n x y tail refl)

pub no_end : (rest : List ℕ) → ((m : Mark) (x y : ℕ) (tail : List ℕ) → rest ≡ x ∷ y ∷ tail → is_mark m x y ≡ false)
    → is_at_end rest ≡ false
no_end [] n = refl
no_end (x ∷ []) n = refl
no_end (x ∷ (y ∷ tail)) n = n End x y tail refl
