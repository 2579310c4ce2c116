-- A row is its literals, each with a space, and its end; that of a well-formed clause is short.
use Rattle.std.proofs.Common.{◌≡◌, suc, ◌+◌, ◌*◌, ◌^◌, ◌<◌, ◌≤◌, true, leb, ltb, List, [], ◌∷◌, length, ℤ, pos, negsuc}
use Rattle.std.proofs.Common.{nat_abs, arith, length-append}
use Rattle.std.specs.Fmt.{signed_decimal}
use Rattle.std.specs.List.{sum_by}
use Rattle.std.proofs.lemmas.Fmt.{length-decimal-le}
use Rattle.std.proofs.lemmas.List.Sums.{sum_by-cons}
use Rattle.std.proofs.lemmas.Bool.{and_parts, leb-true}
use Rattle.cnf.specs.Clauses.{Clause, literal_formed, literals_formed, well_formed}
use Rattle.cnf.specs.declared.clause.TheConstants.{MOST_LITERALS, LAST_NUMBER}
use Rattle.cnf.specs.Text.{row_of}

pub row_length : (ls : List ℤ) → sum_by (λ l. length (signed_decimal l) + 1) ls + 2 ≡ length (row_of ls)
row_length [] = omega arith
row_length (l ∷ ls) =
    omega (
      arith,
      sum_by-cons (λ l. length (signed_decimal l) + 1) l ls,
      length-append (signed_decimal l) (32 ∷ row_of ls),
      row_length ls,
    )

short_literal : (l : ℤ) → nat_abs l ≤ LAST_NUMBER → length (signed_decimal l) ≤ 6
short_literal (pos n) h = omega (arith, length-decimal-le 5 n (omega arith) (omega arith) (omega arith))
short_literal (negsuc n) h = omega (arith, length-decimal-le 5 (suc n) (omega arith) (omega arith) (omega arith))

short_row : (ls : List ℤ) → literals_formed ls ≡ true → length (row_of ls) ≤ 7 * length ls + 2
short_row [] h = omega arith
short_row (l ∷ ls) h =
    let p = and_parts (literal_formed l) (literals_formed ls) h in
    let k : nat_abs l ≤ LAST_NUMBER = leb-true _ _ (and_parts (ltb 0 (nat_abs l)) _ p.0).1 in
    omega (arith, length-append (signed_decimal l) (32 ∷ row_of ls), short_literal l k, short_row ls p.1)

pub few_bytes : (c : Clause) → well_formed c ≡ true
    → sum_by (λ l. length (signed_decimal l) + 1) c.literals + 2 < 2 ^ 64
few_bytes c h =
    let p = and_parts (leb (length c.literals) MOST_LITERALS) _ h in
    omega (arith, row_length c.literals, short_row c.literals p.1, leb-true _ _ p.0)
