-- A number written as two or four bytes reads back, and bytes read as a number are those of that number; and so signed
-- ones, in two's complement.
use Rattle.std.proofs.Common.{◌≡◌, ℕ, ◌<◌, ◌^◌, zero, suc, List, [], ◌∷◌, length, get_or, ℤ, ap, refl, ◌∙◌, arith}
use Rattle.std.proofs.Common.{w16, w32, SFits}
use Rattle.std.specs.Int.{cast_signed, cast_unsigned, from_be_bytes, to_be_bytes}
use Rattle.std.proofs.lemmas.Int.{to_z-of_z, of_z-to_z}
use Rattle.std.proofs.lemmas.Nat.{be_bytes_2, be_bytes_4, from_be_bytes-to_be_bytes_2, from_be_bytes-to_be_bytes_4}
use Rattle.std.proofs.Math.Facts.{Fits-of_z, Fits-of_lt, Fits-lt-pow, sfits_to_z}
use Rattle.schedule.specs.Writing.{AreBytes}

-- signed numbers that fit read back
pub signed_back_2 : (z : ℤ) → SFits w16 z
    → cast_signed w16 (from_be_bytes w16 (to_be_bytes w16 (cast_unsigned w16 z))) ≡ z
signed_back_2 z fits =
    ap (cast_signed w16) (from_be_bytes-to_be_bytes_2 (cast_unsigned w16 z) (Fits-lt-pow (Fits-of_z fits)))
    ∙ to_z-of_z w16 z fits

pub signed_back_4 : (z : ℤ) → SFits w32 z
    → cast_signed w32 (from_be_bytes w32 (to_be_bytes w32 (cast_unsigned w32 z))) ≡ z
signed_back_4 z fits =
    ap (cast_signed w32) (from_be_bytes-to_be_bytes_4 (cast_unsigned w32 z) (Fits-lt-pow (Fits-of_z fits)))
    ∙ to_z-of_z w32 z fits

-- each byte, and 0 past the last
each_byte : (bytes : List ℕ) → AreBytes bytes → (i : ℕ) → get_or bytes i 0 < 256
each_byte [] h i = omega arith
each_byte (b ∷ bytes) h zero = h.0
each_byte (b ∷ bytes) h (suc i) = each_byte bytes h.1 i

pub below_2 : (bytes : List ℕ) → AreBytes bytes → from_be_bytes w16 bytes < 2 ^ 16
below_2 bytes h = omega (arith, each_byte bytes h 0, each_byte bytes h 1)

below_4 : (bytes : List ℕ) → AreBytes bytes → from_be_bytes w32 bytes < 2 ^ 32
below_4 bytes h = omega (arith, each_byte bytes h 0, each_byte bytes h 1, each_byte bytes h 2, each_byte bytes h 3)

-- what bytes are read as fits
pub signed_fits_2 : (bytes : List ℕ) → AreBytes bytes → SFits w16 (cast_signed w16 (from_be_bytes w16 bytes))
signed_fits_2 bytes h = sfits_to_z (Fits-of_lt (below_2 bytes h))

pub signed_fits_4 : (bytes : List ℕ) → AreBytes bytes → SFits w32 (cast_signed w32 (from_be_bytes w32 bytes))
signed_fits_4 bytes h = sfits_to_z (Fits-of_lt (below_4 bytes h))

-- bytes are those of the number that they are read as
pub bytes_2 : (bytes : List ℕ) → length bytes ≡ 2 → AreBytes bytes → to_be_bytes w16 (from_be_bytes w16 bytes) ≡ bytes
bytes_2 bytes size h = be_bytes_2 bytes _ size (each_byte bytes h) refl

pub signed_bytes_2 : (bytes : List ℕ) → length bytes ≡ 2 → AreBytes bytes
    → to_be_bytes w16 (cast_unsigned w16 (cast_signed w16 (from_be_bytes w16 bytes))) ≡ bytes
signed_bytes_2 bytes size h = ap (to_be_bytes w16) (of_z-to_z w16 _ (below_2 bytes h)) ∙ bytes_2 bytes size h

pub signed_bytes_4 : (bytes : List ℕ) → length bytes ≡ 4 → AreBytes bytes
    → to_be_bytes w32 (cast_unsigned w32 (cast_signed w32 (from_be_bytes w32 bytes))) ≡ bytes
signed_bytes_4 bytes size h =
    ap (to_be_bytes w32) (of_z-to_z w32 _ (below_4 bytes h)) ∙ be_bytes_4 bytes _ size (each_byte bytes h) refl
