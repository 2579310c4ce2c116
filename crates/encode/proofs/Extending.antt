-- What the clauses of one line mean carries over to those of many: the next line's auxiliaries are new, so what
-- extends to a model of the clauses before extends further, and in one way.
use Rattle.std.proofs.Common.{◌≡◌, ℕ, suc, ◌+◌, ◌-◌, ◌<◌, ◌≤◌, Bool, true, ◌&&◌, cond, leb, ◌⊎◌, List, [], ◌∷◌, ◌++◌}
use Rattle.std.proofs.Common.{ℤ, nat_abs, sym, refl, ◌∙◌, subst, inl, inr, arith}
use Rattle.std.proofs.lemmas.Bool.{leb-true, ltb-true, le-leb, lt-leb, lt-ltb, and_parts, and_from, or_cases}
use Rattle.std.proofs.lemmas.Bool.{cond-true, cond-false, cases_lt}
use Rattle.cnf.specs.Clauses.{Clause, satisfies_all, literals_within, names_within, numbered_to}
use Rattle.cnf.proofs.Satisfying.{satisfaction}
use Rattle.encode.specs.Law.{Encoding, InReach, Lawful, AgreeUpTo, is_of_line}
use Rattle.encode.specs.Extending.{Extending}
use Rattle.encode.specs.Models.{Model}
use Rattle.encode.proofs.Modelling.{models_extend}
use Rattle.pb.specs.Lines.{Working}
use Rattle.pb.specs.Meaning.{Assignment, met}

-- clauses that name only what passes a test name only what passes a wider one
module _ (p q : ℕ → Bool) (wider : (x : ℕ) → p x ≡ true → q x ≡ true) where
  literals_wider : (ls : List ℤ) → literals_within p ls ≡ true → literals_within q ls ≡ true
  literals_wider [] h = refl
  literals_wider (l ∷ ls) h =
      let s = and_parts _ _ h in
      and_from _ _ (wider (nat_abs l) s.0) (literals_wider ls s.1)

  names_wider : (cs : List Clause) → names_within p cs ≡ true → names_within q cs ≡ true
  names_wider [] h = refl
  names_wider (c ∷ cs) h =
      let s = and_parts _ _ h in
      and_from _ _ (literals_wider c.literals s.0) (names_wider cs s.1)

numbered_low : (last x : ℕ) → numbered_to last x ≡ true → x ≤ last
numbered_low last x is = leb-true x last (and_parts _ _ is).1

numbered_further : (m k : ℕ) → m ≤ k → (x : ℕ) → numbered_to m x ≡ true → numbered_to k x ≡ true
numbered_further m k h x is =
    let low = numbered_low m x is in
    and_from _ _ (and_parts _ _ is).0 (le-leb x k (omega arith))

-- assignments that agree on the numbers that clauses name satisfy them alike
pub satisfied_alike : (last : ℕ) (ds : List Clause) → names_within (numbered_to last) ds ≡ true
    → (u v : Assignment) → AgreeUpTo last u v → satisfies_all u ds ≡ satisfies_all v ds
satisfied_alike last ds names u v same =
    satisfaction.agree_to last u v ds names (λ x some low. same x low)

pub nothing_extending : (n before : ℕ) → n ≤ before → Extending n before before (λ _. true) []
nothing_extending n before known =
    record {
      known = known;
      grows = omega arith;
      names = refl;
      some = λ a v agrees h. (v, (λ x k. refl), refl);
      only = λ a v agrees h. refl;
      one = λ u v same p q. same;
    }

pub variables_extending : (n before : ℕ) (wanted : Assignment → Bool) (ds : List Clause) → n ≤ before
    → names_within (numbered_to n) ds ≡ true → ((a : Assignment) → satisfies_all a ds ≡ wanted a)
    → Extending n before before wanted ds
variables_extending n before wanted ds known names says =
    let alike = satisfied_alike n ds names in
    record {
      known = known;
      grows = omega arith;
      names = names_wider (numbered_to n) (numbered_to before) (numbered_further n before known) ds names;
      some = λ a v agrees h. (v, (λ x k. refl), alike v a agrees ∙ says a ∙ h);
      only = λ a v agrees h. sym (says a) ∙ sym (alike v a agrees) ∙ h;
      one = λ u v same p q. same;
    }

pub alike_extending : (n before after : ℕ) (wanted other : Assignment → Bool) (ds : List Clause)
    → ((a : Assignment) → wanted a ≡ other a)
    → Extending n before after wanted ds → Extending n before after other ds
alike_extending n before after wanted other ds same d =
    record {
      known = d.known;
      grows = d.grows;
      names = d.names;
      some = λ a v agrees h. d.some a v agrees (same a ∙ h);
      only = λ a v agrees h. sym (same a) ∙ d.only a v agrees h;
      one = d.one;
    }

module _ (n before between after : ℕ) (first next : Assignment → Bool) (ds es : List Clause)
    (d : Extending n before between first ds) (e : Extending n between after next es) where
  both_satisfied : (v : Assignment) → satisfies_all v (ds ++ es) ≡ true
      → (satisfies_all v ds ≡ true) × (satisfies_all v es ≡ true)
  both_satisfied v h = and_parts _ _ (sym (satisfaction.append v ds es) ∙ h)

  both_some : (a v : Assignment) → AgreeUpTo n v a → (first a && next a) ≡ true
      → (u : Assignment) × AgreeUpTo before u v × (satisfies_all u (ds ++ es) ≡ true)
  both_some a v agrees h =
      let known = d.known in
      let grown = d.grows in
      let wanted = and_parts _ _ h in
      let start = d.some a v agrees wanted.0 in
      let rest = e.some a start.0 (λ x k. start.1 x (omega arith) ∙ agrees x k) wanted.1 in
      let low : AgreeUpTo before rest.0 v = λ x k. rest.1 x (omega arith) ∙ start.1 x k in
      let kept = satisfied_alike between ds d.names rest.0 start.0 rest.1 in
      (rest.0, low, satisfaction.append rest.0 ds es ∙ and_from _ _ (kept ∙ start.2) rest.2)

  both_names : names_within (numbered_to after) (ds ++ es) ≡ true
  both_names =
      let wider = numbered_further between after e.grows in
      satisfaction.names (numbered_to after) ds es
      ∙ and_from _ _ (names_wider (numbered_to between) (numbered_to after) wider ds d.names) e.names

  pub further_extending : Extending n before after (λ a. first a && next a) (ds ++ es)
  further_extending =
      let grown = d.grows in
      let on = e.grows in
      record {
        known = d.known;
        grows = omega arith;
        names = both_names;
        some = both_some;
        only = λ a v agrees h.
            let s = both_satisfied v h in
            and_from _ _ (d.only a v agrees s.0) (e.only a v agrees s.1);
        one = λ u v same p q.
            let s = both_satisfied u p in
            let t = both_satisfied v q in
            e.one u v (d.one u v same s.0 t.0) s.1 t.1;
      }

-- the clauses of a line name the variables 1 to n, and auxiliaries of its own, whose numbers come after those taken
of_line_parts : (n before k x : ℕ)
    → is_of_line n (suc before) k x ≡ true → ((0 < x) × (x ≤ n)) ⊎ ((before < x) × (x ≤ before + k))
of_line_parts n before k x h = elim (or_cases _ _ h) [
  | inl v ↦ let p = and_parts _ _ v in inl (ltb-true 0 x p.0, leb-true x n p.1)
  | inr y ↦
      let p = and_parts _ _ y in
      let far = ltb-true x (suc before + k) p.1 in
      inr (leb-true (suc before) x p.0, omega arith)
]

of_line_numbered : (n before k : ℕ) → n ≤ before
    → (x : ℕ) → is_of_line n (suc before) k x ≡ true → numbered_to (before + k) x ≡ true
of_line_numbered n before k known x h = elim (of_line_parts n before k x h) [
  | inl v ↦ and_from _ _ (lt-ltb 0 x v.0) (le-leb x (before + k) (omega (arith, v.1)))
  | inr y ↦ and_from _ _ (lt-ltb 0 x (omega (arith, y.0))) (le-leb x (before + k) y.1)
]

-- v up to `before`, and u from there on
abbrev joined : ℕ → Assignment → Assignment → Assignment
joined before v u x = cond (leb x before) (v x) (u x)

joined_low : (before : ℕ) (v u : Assignment) → AgreeUpTo before (joined before v u) v
joined_low before v u x h = cond-true _ _ _ (le-leb x before h)

joined_of_line : (n before k : ℕ) (v u : Assignment) → n ≤ before → AgreeUpTo n v u
    → (x : ℕ) → is_of_line n (suc before) k x ≡ true → joined before v u x ≡ u x
joined_of_line n before k v u known same x h = elim (of_line_parts n before k x h) [
  | inl w ↦ joined_low before v u x (omega (arith, w.1)) ∙ same x w.1
  | inr y ↦ cond-false _ _ _ (lt-leb x before y.0)
]

-- what agrees up to `before`, and on the k numbers after it
agree_further : (before k : ℕ) (u v : Assignment) → AgreeUpTo before u v
    → ((j : ℕ) → j < k → u (suc before + j) ≡ v (suc before + j)) → AgreeUpTo (before + k) u v
agree_further before k u v same new x h = elim (cases_lt before x) [
  | inl over ↦
      let here : suc before + (x - suc before) ≡ x = omega arith in
      subst (λ y. u y ≡ v y) here (new (x - suc before) (omega arith))
  | inr below ↦ same x below
]

-- the clauses of a line
module _ (e : Encoding) (law : Lawful e) (n before : ℕ) (w : Working) (r : InReach e n (suc before) w) where
  line_some : (a v : Assignment) → AgreeUpTo n v a → met a w ≡ true
      → (u : Assignment) × AgreeUpTo before u v × (satisfies_all u (e.clauses w (suc before)) ≡ true)
  line_some a v agrees h =
      let above = r.above in
      let ds = e.clauses w (suc before) in
      let takes = e.takes w (suc before) in
      let m = (models_extend e law n (suc before) w r a).some h in
      let u = joined before v m.0 in
      let same = joined_of_line n before takes v m.0 (omega arith) (λ x k. agrees x k ∙ sym (m.1.agrees x k)) in
      let names = law.names n (suc before) w r in (
        u,
        joined_low before v m.0,
        satisfaction.agree (is_of_line n (suc before) takes) u m.0 ds names same ∙ m.1.satisfied,
      )

  line_one : (u v : Assignment) → AgreeUpTo before u v
      → satisfies_all u (e.clauses w (suc before)) ≡ true → satisfies_all v (e.clauses w (suc before)) ≡ true
      → AgreeUpTo (before + e.takes w (suc before)) u v
  line_one u v same p q =
      let above = r.above in
      let ds = e.clauses w (suc before) in
      let of_u : Model n ds u u = record { agrees = λ x k. refl; satisfied = p } in
      let of_v : Model n ds u v = record { agrees = λ x k. sym (same x (omega arith)); satisfied = q } in
      let values = (models_extend e law n (suc before) w r u).one u v of_u of_v in
      agree_further before (e.takes w (suc before)) u v same values

  pub line_extending : Extending n before (before + e.takes w (suc before)) (λ a. met a w) (e.clauses w (suc before))
  line_extending =
      let above = r.above in
      let takes = e.takes w (suc before) in
      let numbered = of_line_numbered n before takes (omega arith) in
      record {
        known = omega arith;
        grows = omega arith;
        names =
            names_wider (is_of_line n (suc before) takes) (numbered_to (before + takes)) numbered
            (e.clauses w (suc before)) (law.names n (suc before) w r);
        some = line_some;
        only = λ a v agrees h.
            (models_extend e law n (suc before) w r a).only v (record { agrees = agrees; satisfied = h });
        one = line_one;
      }
