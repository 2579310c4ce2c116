-- Well-formed clauses have no literal 0, so that each 0 in the cells ends a clause, and the cells read back as the
-- clauses.
use Rattle.std.proofs.Common.{◌≡◌, ℕ, ◌<◌, true, false, cond, eqb, List, [], ◌∷◌, ◌++◌, ℤ, pos, negsuc, nat_abs, refl}
use Rattle.std.proofs.Common.{ap, ◌∙◌, append_assoc, arith}
use Rattle.std.specs.Ordering.{int_eq}
use Rattle.std.proofs.lemmas.Bool.Decides.{same_from_decides, Decides-eqb, Decides-int_eq, Decides-like}
use Rattle.std.proofs.lemmas.Bool.{and_parts, ne_eqb, ltb-true}
use Rattle.cnf.specs.Cells.{is_zero, onto_first, clauses_in, flat_layout}
use Rattle.cnf.specs.Clauses.{Clause, of_literals, literal_formed, literals_formed, all_well_formed}
use Rattle.cnf.specs.Layouts.{Faithful, written}
use Rattle.cnf.specs.Marks.{marks}
use Rattle.cnf.proofs.Marking.{part_from}

-- a cell ends a clause exactly where it equals 0
pub equals_zero : (l : ℤ) → int_eq l (pos 0) ≡ is_zero l
equals_zero (pos n) =
    same_from_decides _ _ (Decides-int_eq (pos n) (pos 0))
    (Decides-like (eqb n 0) (ap pos) (λ e. cc) (Decides-eqb n 0))
equals_zero (negsuc n) = refl

some_not_zero : (l : ℤ) → 0 < nat_abs l → is_zero l ≡ false
some_not_zero (pos n) h = ne_eqb n 0 (λ e. omega arith)
some_not_zero (negsuc n) h = refl

formed_not_zero : (l : ℤ) → literal_formed l ≡ true → is_zero l ≡ false
formed_not_zero l h = some_not_zero l (ltb-true 0 (nat_abs l) (and_parts _ _ h).0)

no_zeros : (ls : List ℤ) → literals_formed ls ≡ true → marks is_zero ls ≡ 0
no_zeros [] h = refl
no_zeros (l ∷ ls) h =
    let p = and_parts _ _ h in
    let e : ◌≡◌ {A = ℕ} (cond (is_zero l) 1 0) 0 = rw (formed_not_zero l p.0) refl in
    omega (arith, e, no_zeros ls p.1)

-- the cells of one clause, and of all
one_back : (ls : List ℤ) (rest : List ℤ) → literals_formed ls ≡ true
    → clauses_in (ls ++ pos 0 ∷ rest) ≡ of_literals ls ∷ clauses_in rest
one_back [] rest h = refl
one_back (l ∷ ls) rest h =
    let p = and_parts _ _ h in
    ap (λ b. cond b (of_literals [] ∷ clauses_in (ls ++ pos 0 ∷ rest))
    (onto_first l (clauses_in (ls ++ pos 0 ∷ rest))))
    (formed_not_zero l p.0)
    ∙ ap (onto_first l) (one_back ls rest p.1)

pub cells_back : (cs : List Clause) → all_well_formed cs ≡ true → clauses_in (written flat_layout cs) ≡ cs
cells_back [] h = refl
cells_back (c ∷ cs) h =
    let p = and_parts _ _ h in
    let f = and_parts _ _ p.0 in
    ap clauses_in (append_assoc c.literals (pos 0 ∷ []) (written flat_layout cs))
    ∙ one_back c.literals (written flat_layout cs) f.1
    ∙ ap (λ ds. c ∷ ds) (cells_back cs p.1)

pub cells_faithful : Faithful flat_layout
cells_faithful =
    record {
      part = λ c h. part_from is_zero c.literals (pos 0) (no_zeros c.literals (and_parts _ _ h).1) refl;
      back = cells_back;
    }
