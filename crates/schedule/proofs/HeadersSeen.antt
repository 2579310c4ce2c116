-- What a line's first record says that was read, in order or not; and what is wrong with the first term out of range.
use Rattle.std.proofs.Common.{◌≡◌, ℕ, suc, ◌+◌, ◌<◌, ◌≤◌, Bool, true, false, cond, leb, ltb, ◌⊎◌, List, [], ◌∷◌, ◌++◌}
use Rattle.std.proofs.Common.{length, ℤ, nat_abs, Some, None, Ok, Err, Option, Result, sym, refl, ap, ◌∙◌, inl, inr}
use Rattle.std.proofs.Common.{arith, w32, SFits}
use Rattle.std.specs.List.{AllByRecursion}
use Rattle.std.proofs.lemmas.Bool.{and_parts, and_cases, leb-true, leb-false, ltb-true, ltb-false}
use Rattle.std.proofs.lemmas.Bool.Decides.{nat_tests}
use Rattle.pb.specs.declared.constraint.TheConstants.{MOST_TERMS, MOST_BOUND}
use Rattle.pb.specs.declared.line_fault.LineFault.{LineFault}
use Rattle.pb.specs.declared.line_fault.LineFault.TheVariants.{Relation as BadRelation, Bound as BadBound}
use Rattle.pb.specs.declared.line_fault.LineFault.TheVariants.{Terms as TooMany, Literal as BadLiteral}
use Rattle.pb.specs.declared.line_fault.LineFault.TheVariants.{Weight as BadWeight}
use Rattle.pb.specs.declared.relation.Relation.{Relation}
use Rattle.pb.specs.declared.relation.Relation.TheVariants.{AtLeast, AtMost, Exactly, MoreThan, LessThan}
use Rattle.pb.specs.declared.term.Term.{Term}
use Rattle.pb.specs.Checks.{relation_number, relation_of, checked_relation, checked_head, literal_named, weight_small}
use Rattle.pb.specs.Checks.{terms_fault, IsTermInRange}
use Rattle.schedule.specs.declared.mark.Mark.TheVariants.{Line as LineMark}
use Rattle.schedule.specs.Records.{body_size, relation_in, terms_in, bound_in}
use Rattle.schedule.specs.Writing.{AreBytes, mark_bytes, header_record}
use Rattle.schedule.specs.Faults.{IsLiteralOut, IsWeightOut}
use Rattle.schedule.proofs.Numbers.{signed_bytes_4, signed_fits_4}

-- the record
pub header_written : (body : List ℕ) → length body ≡ body_size LineMark → AreBytes body
    → (header_record (relation_in body) (terms_in body) (bound_in body) ≡ mark_bytes LineMark ++ body) × SFits w32
    (bound_in body)
header_written (number ∷ (terms ∷ (a ∷ (b ∷ (c ∷ (d ∷ [])))))) size bytes =
    let bound = a ∷ b ∷ c ∷ d ∷ [] in
    let same = signed_bytes_4 bound refl bytes.1.1 in
    (ap (λ (bs : List ℕ). mark_bytes LineMark ++ (number ∷ terms ∷ bs)) same, signed_fits_4 bound bytes.1.1)
header_written _ size bytes = absurd (omega arith)

-- the relation, the bound and the number of terms
-- the relation of a number is the one that has it
relation_named : (n : ℕ) (r : Relation) → relation_of n ≡ Some r → n ≡ relation_number r
relation_named n AtLeast h = grind (arith, nat_tests)
relation_named n AtMost h = grind (arith, nat_tests)
relation_named n Exactly h = grind (arith, nat_tests)
relation_named n MoreThan h = grind (arith, nat_tests)
relation_named n LessThan h = grind (arith, nat_tests)

abbrev pub HeaderSeen : ℕ → ℤ → ℕ → Result Relation LineFault → Type 0
HeaderSeen number bound terms (Ok r) = (number ≡ relation_number r) × (nat_abs bound ≤ MOST_BOUND)
    × (terms ≤ MOST_TERMS)
HeaderSeen number bound terms (Err BadRelation) = relation_of number ≡ None
HeaderSeen number bound terms (Err BadBound) =
    (r : Relation) × (number ≡ relation_number r) × (MOST_BOUND < nat_abs bound)
HeaderSeen number bound terms (Err TooMany) =
    (r : Relation) × (number ≡ relation_number r) × (nat_abs bound ≤ MOST_BOUND) × (MOST_TERMS < terms)
HeaderSeen number bound terms (Err (BadLiteral i)) = ⊥
HeaderSeen number bound terms (Err (BadWeight i)) = ⊥

sized_seen : (number terms : ℕ) (bound : ℤ) (r : Relation) → number ≡ relation_number r → (p q : Bool)
    → leb (nat_abs bound) MOST_BOUND ≡ p → leb terms MOST_TERMS ≡ q
    → HeaderSeen number bound terms (cond p (cond q (Ok r) (Err TooMany)) (Err BadBound))
sized_seen number terms bound r is true true small few = (is, leb-true _ _ small, leb-true _ _ few)
sized_seen number terms bound r is true false small many = (r, is, leb-true _ _ small, leb-false _ _ many)
sized_seen number terms bound r is false q large few = (r, is, leb-false _ _ large)

relation_seen : (number terms : ℕ) (bound : ℤ) (o : Option Relation) → relation_of number ≡ o
    → HeaderSeen number bound terms (checked_relation o bound terms)
relation_seen number terms bound None none = none
relation_seen number terms bound (Some r) is =
    sized_seen number terms bound r (relation_named number r is) _ _ refl refl

pub header_seen : (number terms : ℕ) (bound : ℤ) → HeaderSeen number bound terms (checked_head number bound terms)
header_seen number terms bound = relation_seen number terms bound (relation_of number) refl

-- the terms: those before the first that is out of range, and what is wrong with it
pub record OutAt (n i : ℕ) (ts : List Term) (e : LineFault) : Type 0 where
  pub before : List Term
  pub term : Term
  pub after : List Term
  pub parts : ts ≡ before ++ term ∷ after
  pub in_range : AllByRecursion (IsTermInRange n) before
  pub out : ((e ≡ BadLiteral (i + length before)) × IsLiteralOut n term)
      ⊎ ((e ≡ BadWeight (i + length before)) × IsWeightOut n term)

abbrev pub TermsJudged : ℕ → ℕ → List Term → Option LineFault → Type 0
TermsJudged n i ts None = terms_fault n i ts ≡ None
TermsJudged n i ts (Some e) = OutAt n i ts e

literal_is_out : (n : ℕ) (t : Term) → literal_named n t.literal ≡ false → IsLiteralOut n t
literal_is_out n t h = elim (and_cases (ltb 0 (nat_abs t.literal)) (leb (nat_abs t.literal) n) h) [
  | inl none ↦ inl (omega (arith, ltb-false 0 (nat_abs t.literal) none))
  | inr over ↦ inr (leb-false (nat_abs t.literal) n over)
]

weight_is_out : (n : ℕ) (t : Term) → literal_named n t.literal ≡ true → weight_small t.weight ≡ false → IsWeightOut n t
weight_is_out n t named large =
    let p = and_parts _ _ named in
    (ltb-true 0 _ p.0, leb-true _ n p.1, leb-false _ _ large)

later_out : (n i : ℕ) (t : Term) (ts : List Term) (e : LineFault) → IsTermInRange n t → OutAt n (suc i) ts e
    → OutAt n i (t ∷ ts) e
later_out n i t ts e ok o =
    let on : suc i + length o.before ≡ i + suc (length o.before) = omega arith in
    record {
      before = t ∷ o.before;
      term = o.term;
      after = o.after;
      parts = ap (λ us. t ∷ us) o.parts;
      in_range = (ok, o.in_range);
      out = elim o.out [
        | inl l ↦ inl (l.0 ∙ ap BadLiteral on, l.1)
        | inr w ↦ inr (w.0 ∙ ap BadWeight on, w.1)
      ];
    }

first_out : (n i : ℕ) (t : Term) (ts : List Term) (p q : Bool) (o : Option LineFault) → literal_named n t.literal ≡ p
    → weight_small t.weight ≡ q
    → terms_fault n (suc i) ts ≡ o → TermsJudged n (suc i) ts o
    → cond p (cond q o (Some (BadWeight i))) (Some (BadLiteral i)) ≡ terms_fault n i (t ∷ ts)
    → TermsJudged n i (t ∷ ts) (cond p (cond q o (Some (BadWeight i))) (Some (BadLiteral i)))
first_out n i t ts true true None named small is later whole = sym whole
first_out n i t ts true true (Some e) named small is later whole =
    let p = and_parts _ _ named in
    later_out n i t ts e (ltb-true 0 _ p.0, leb-true _ n p.1, leb-true _ _ small) later
first_out n i t ts true false o named large is later whole =
    let here : i ≡ i + 0 = omega arith in
    record {
      before = [];
      term = t;
      after = ts;
      parts = refl;
      in_range = tt;
      out = inr (ap BadWeight here, weight_is_out n t named large);
    }
first_out n i t ts false q o other small is later whole =
    let here : i ≡ i + 0 = omega arith in
    record {
      before = [];
      term = t;
      after = ts;
      parts = refl;
      in_range = tt;
      out = inl (ap BadLiteral here, literal_is_out n t other);
    }

pub terms_judged : (n i : ℕ) (ts : List Term) → TermsJudged n i ts (terms_fault n i ts)
terms_judged n i [] = refl
terms_judged n i (t ∷ ts) = first_out n i t ts _ _ _ refl refl refl (terms_judged n (suc i) ts) refl
