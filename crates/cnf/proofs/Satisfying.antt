-- Satisfaction of clauses after others, of a beginning, and by assignments that agree on the variables named.
use Rattle.std.proofs.Common.{◌≡◌, ℕ, zero, suc, Bool, true, false, not, ltb, leb, ◌&&◌, ◌||◌, List, [], ◌∷◌, ◌++◌}
use Rattle.std.proofs.Common.{take, ℤ, pos, negsuc, nat_abs, refl, ap, ◌∙◌}
use Rattle.std.proofs.lemmas.Bool.{and_parts, and_from, leb-true, ltb-true}
use Rattle.cnf.specs.Clauses.{Clause, some_holds, satisfies, satisfies_all, literals_within, names_within, numbered_to}
use Rattle.cnf.specs.Laws.{AgreeTo, Satisfaction}
use Rattle.pb.specs.Meaning.{Assignment, holds}

and_assoc : (x y z : Bool) → (x && (y && z)) ≡ ((x && y) && z)
and_assoc true y z = refl
and_assoc false y z = refl

pub satisfies_append : (a : Assignment) (cs ds : List Clause)
    → satisfies_all a (cs ++ ds) ≡ (satisfies_all a cs && satisfies_all a ds)
satisfies_append a [] ds = refl
satisfies_append a (c ∷ cs) ds =
    ap (λ b. satisfies a c && b) (satisfies_append a cs ds)
    ∙ and_assoc (satisfies a c) (satisfies_all a cs) (satisfies_all a ds)

satisfies_begin : (a : Assignment) (n : ℕ) (cs : List Clause) → satisfies_all a cs ≡ true
    → satisfies_all a (take n cs) ≡ true
satisfies_begin a zero cs h = refl
satisfies_begin a (suc n) [] h = refl
satisfies_begin a (suc n) (c ∷ cs) h = let p = and_parts _ _ h in and_from _ _ p.0 (satisfies_begin a n cs p.1)

names_append : (named : ℕ → Bool) (cs ds : List Clause)
    → names_within named (cs ++ ds) ≡ (names_within named cs && names_within named ds)
names_append named [] ds = refl
names_append named (c ∷ cs) ds =
    ap (λ b. literals_within named c.literals && b) (names_append named cs ds)
    ∙ and_assoc (literals_within named c.literals) (names_within named cs) (names_within named ds)

module _ (named : ℕ → Bool) (a b : Assignment) (same : (v : ℕ) → named v ≡ true → a v ≡ b v) where
  holds_agree : (l : ℤ) → named (nat_abs l) ≡ true → holds a l ≡ holds b l
  holds_agree (pos v) h = same v h
  holds_agree (negsuc v) h = ap not (same (suc v) h)

  some_agree : (ls : List ℤ) → literals_within named ls ≡ true → some_holds a ls ≡ some_holds b ls
  some_agree [] h = refl
  some_agree (l ∷ ls) h =
      let p = and_parts _ _ h in
      ap (λ x. x || some_holds a ls) (holds_agree l p.0) ∙ ap (λ x. holds b l || x) (some_agree ls p.1)

  satisfies_agree : (cs : List Clause) → names_within named cs ≡ true → satisfies_all a cs ≡ satisfies_all b cs
  satisfies_agree [] h = refl
  satisfies_agree (c ∷ cs) h =
      let p = and_parts _ _ h in
      ap (λ x. x && satisfies_all a cs) (some_agree c.literals p.0)
      ∙ ap (λ x. satisfies b c && x) (satisfies_agree cs p.1)

satisfies_agree_to : (n : ℕ) (a b : Assignment) (cs : List Clause)
    → names_within (numbered_to n) cs ≡ true → AgreeTo n a b → satisfies_all a cs ≡ satisfies_all b cs
satisfies_agree_to n a b cs h same =
    satisfies_agree (numbered_to n) a b
    (λ v is. let p = and_parts (ltb 0 v) (leb v n) is in same v (ltb-true 0 v p.0) (leb-true v n p.1)) cs h

pub satisfaction : Satisfaction
satisfaction =
    record {
      append = satisfies_append;
      begin = satisfies_begin;
      agree = λ named a b cs h same. satisfies_agree named a b same cs h;
      agree_to = satisfies_agree_to;
      names = names_append;
    }
