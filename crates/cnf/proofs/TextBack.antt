-- A text is read as it was written: digits make the number, a space ends it, and each row's 0 ends its clause.
use Rattle.std.proofs.Common.{◌≡◌, ℕ, suc, ◌+◌, ◌-◌, ◌*◌, ◌/◌, ◌%◌, ◌^◌, ◌<◌, Bool, true, false, ◌&&◌, ◌||◌, eqb, ltb}
use Rattle.std.proofs.Common.{leb, List, [], ◌∷◌, ◌++◌, ℤ, pos, negsuc, nat_abs, Some, None, decimal, Option, sym}
use Rattle.std.proofs.Common.{refl, ap, ◌∙◌, append_assoc, arith}
use Rattle.std.specs.Fmt.{signed_decimal}
use Rattle.std.proofs.lemmas.Fmt.{decimal_by_steps}
use Rattle.std.proofs.lemmas.Bool.{and_parts, and_from, or_from, ne_eqb, le-leb, leb-true}
use Rattle.cnf.specs.Cells.{flat_layout}
use Rattle.cnf.specs.Clauses.{Clause, literal_formed, literals_formed, all_well_formed}
use Rattle.cnf.specs.Layouts.{Faithful, written}
use Rattle.cnf.specs.Marks.{marks, IsPart}
use Rattle.cnf.specs.Text.{row_of, is_feed, is_space, with_digit, with_number, numbers_from, numbers, clauses_of}
use Rattle.cnf.specs.Text.{read_text}
use Rattle.cnf.specs.Text.{or_none, text_layout, text_of, TextReadsBack}
use Rattle.cnf.proofs.CellsBack.{cells_back}
use Rattle.cnf.proofs.Marking.{marks_append, part_behind}

formed_small : (l : ℤ) → literal_formed l ≡ true → nat_abs l < 2 ^ 64
formed_small l h = omega (arith, leb-true _ _ (and_parts (ltb 0 (nat_abs l)) _ h).1)

-- one digit
digit_read : (minus : Bool) (digits : Option ℕ) (d : ℕ) (rest : List ℕ) → d < 10
    → numbers_from minus digits ((48 + d) ∷ rest) ≡ numbers_from minus (Some (with_digit digits d)) rest
digit_read minus digits d rest h =
    let gap : (is_space (48 + d) || is_feed (48 + d)) ≡ false =
    or_from _ _ (ne_eqb (48 + d) 32 (λ e. omega arith)) (ne_eqb (48 + d) 10 (λ e. omega arith)) in
    let digit : (leb 48 (48 + d) && leb (48 + d) 57) ≡ true =
    and_from _ _ (le-leb 48 (48 + d) (omega arith)) (le-leb (48 + d) 57 (omega arith)) in
    let value : 48 + d - 48 ≡ d = omega arith in
    rw (gap, digit, value) refl

-- all digits of a number
decimal_read : (minus : Bool) (n : ℕ) (rest : List ℕ) → n < 2 ^ 64
    → numbers_from minus None (decimal n ++ rest) ≡ numbers_from minus (Some n) rest
decimal_read minus n rest small =
    decimal_by_steps
    (λ k ds. (after : List ℕ) → numbers_from minus None (ds ++ after) ≡ numbers_from minus (Some k) after)
    (λ k h after. digit_read minus None k after h)
    (λ k ds h front after.
    ap (numbers_from minus None) (append_assoc ds ((48 + k % 10) ∷ []) after) ∙ front ((48 + k % 10) ∷ after)
    ∙ digit_read minus (Some (k / 10)) (k % 10) after (omega arith)
    ∙ ap (λ m. numbers_from minus (Some m) after) (let e : 10 * (k / 10) + k % 10 ≡ k = omega arith in e))
    n small rest

-- a literal and the space after it
pub literal_read : (l : ℤ) (rest : List ℕ) → nat_abs l < 2 ^ 64
    → numbers (signed_decimal l ++ (32 ∷ rest)) ≡ with_number l (numbers rest)
literal_read (pos n) rest h = decimal_read false n (32 ∷ rest) h
literal_read (negsuc n) rest h = decimal_read true (suc n) (32 ∷ rest) h

-- a row, and all rows
row_read : (ls : List ℤ) (rest : List ℕ) (zs : List ℤ) → literals_formed ls ≡ true → numbers rest ≡ Some zs
    → numbers (row_of ls ++ rest) ≡ Some ((ls ++ pos 0 ∷ []) ++ zs)
row_read [] rest zs h e = ap (with_number (pos 0)) e
row_read (l ∷ ls) rest zs h e =
    let p = and_parts _ _ h in
    ap numbers (append_assoc (signed_decimal l) (32 ∷ row_of ls) rest)
    ∙ literal_read l (row_of ls ++ rest) (formed_small l p.0) ∙ ap (with_number l) (row_read ls rest zs p.1 e)

text_read : (cs : List Clause) → all_well_formed cs ≡ true → numbers (text_of cs) ≡ Some (written flat_layout cs)
text_read [] h = refl
text_read (c ∷ cs) h =
    let p = and_parts _ _ h in
    row_read c.literals (text_of cs) (written flat_layout cs) (and_parts _ _ p.0).1 (text_read cs p.1)

text_back : (cs : List Clause) → all_well_formed cs ≡ true → read_text (text_of cs) ≡ Some cs
text_back cs h = ap clauses_of (text_read cs h) ∙ ap Some (cells_back cs h)

pub text_reads_back : TextReadsBack
text_reads_back =
    record {
      back = text_back;
      apart = λ cs ds h k e. ap or_none (sym (text_back cs h) ∙ ap read_text e ∙ text_back ds k);
    }

-- a written number has no byte below the minus, so that neither spaces nor line feeds stand in it
digits_without : (b n : ℕ) → b < 45 → n < 2 ^ 64 → marks (λ x. eqb x b) (decimal n) ≡ 0
digits_without b n low small =
    decimal_by_steps (λ k ds. marks (λ x. eqb x b) ds ≡ 0)
    (λ k h. one k)
    (λ k ds h e. omega (arith, marks_append (λ x. eqb x b) ds ((48 + k % 10) ∷ []), e, one (k % 10)))
    n small
  where
    one : (d : ℕ) → marks (λ x. eqb x b) ((48 + d) ∷ []) ≡ 0
    one d = rw (ne_eqb (48 + d) b (λ e. omega arith)) refl

pub number_without : (b : ℕ) (l : ℤ) → b < 45 → nat_abs l < 2 ^ 64 → marks (λ x. eqb x b) (signed_decimal l) ≡ 0
number_without b (pos n) low small = digits_without b n low small
number_without b (negsuc n) low small =
    rw (ne_eqb 45 b (λ e. omega arith)) (omega (arith, digits_without b (suc n) low small))

row_part : (ls : List ℤ) → literals_formed ls ≡ true → IsPart is_feed (row_of ls)
row_part [] h = record { one = refl; last = refl }
row_part (l ∷ ls) h =
    let p = and_parts _ _ h in
    part_behind is_feed (signed_decimal l) (32 ∷ row_of ls) (number_without 10 l (omega arith) (formed_small l p.0))
    (part_behind is_feed (32 ∷ []) (row_of ls) refl (row_part ls p.1))

pub text_faithful : Faithful text_layout
text_faithful =
    record { part = λ c h. row_part c.literals (and_parts _ _ h).1; back = λ cs h. ap or_none (text_back cs h) }
