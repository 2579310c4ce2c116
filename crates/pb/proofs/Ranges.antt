-- The check finds nothing in just the lines of which everything is in range; and how large the net weights of terms in
-- range get, and what these lower the bound by.
use Rattle.std.proofs.Common.{◌≡◌, ℕ, suc, ◌*◌, ◌≤◌, Bool, true, false, cond, eqb, ltb, leb, ◌≢◌, List, [], ◌∷◌}
use Rattle.std.proofs.Common.{length}
use Rattle.std.proofs.Common.{ℤ, pos, negsuc, neg_ℤ, nat_abs, None, Some, Option, refl, arith}
use Rattle.std.specs.List.{AllByRecursion}
use Rattle.std.proofs.lemmas.Int.{ints}
use Rattle.std.proofs.lemmas.Bool.{and_parts, and_from, leb-true, ltb-true, le-leb, lt-ltb}
use Rattle.std.proofs.lemmas.Bool.Decides.{nat_tests}
use Rattle.pb.specs.declared.constraint.TheConstants.{MOST_TERMS}
use Rattle.pb.specs.declared.term.TheConstants.{MOST_WEIGHT}
use Rattle.pb.specs.declared.working.TheConstants.{MOST_WEIGHT_SUM}
use Rattle.pb.specs.declared.line_fault.LineFault.{LineFault}
use Rattle.pb.specs.declared.term.Term.{Term}
use Rattle.pb.specs.Checks.{literal_named, weight_small, terms_fault, line_check, PassesChecks, IsTermInRange}
use Rattle.pb.specs.Checks.{IsLineInRange}
use Rattle.pb.specs.Laws.{CheckIsExact}
use Rattle.pb.specs.Lines.{Line}
use Rattle.pb.specs.Normal.{weight_under, share, net, lowering, lowered}

-- where two tests, one after the other, have found no fault, both have been passed
both_passed : (a b : Bool) (o : Option LineFault) (x y : LineFault) → cond a (cond b o (Some x)) (Some y) ≡ None
    → (a ≡ true) × (b ≡ true) × (o ≡ None)
both_passed true true o x y h = (refl, refl, h)
both_passed true false o x y h = cc
both_passed false b o x y h = cc

pub terms_in_range : (n m i : ℕ) (ts : List Term) → n ≤ m → terms_fault n i ts ≡ None
    → AllByRecursion (IsTermInRange m) ts
terms_in_range n m i [] most h = tt
terms_in_range n m i (t ∷ ts) most h =
    let p = both_passed (literal_named n t.literal) (weight_small t.weight) _ _ _ h in
    let named = and_parts (ltb 0 (nat_abs t.literal)) (leb (nat_abs t.literal) n) p.0 in
    let l = leb-true (nat_abs t.literal) n named.1 in
    ((ltb-true _ _ named.0, omega arith, leb-true _ _ p.1), terms_in_range n m (suc i) ts most p.2)

no_fault_in_range : (n i : ℕ) (ts : List Term) → AllByRecursion (IsTermInRange n) ts → terms_fault n i ts ≡ None
no_fault_in_range n i [] h = refl
no_fault_in_range n i (t ∷ ts) h =
    let named : literal_named n t.literal ≡ true = and_from _ _ (lt-ltb _ _ h.0.0) (le-leb _ _ h.0.1) in
    let small : weight_small t.weight ≡ true = le-leb _ _ h.0.2 in
    rw (named, small) (no_fault_in_range n (suc i) ts h.1)

pub passes_from_check : (n : ℕ) (l : Line) → line_check n l ≡ None → PassesChecks n l
passes_from_check n l h =
    let p = both_passed _ _ _ _ _ h in
    record { bounded = leb-true _ _ p.0; few = leb-true _ _ p.1; fine = p.2 }

pub check_from_passes : (n : ℕ) (l : Line) → PassesChecks n l → line_check n l ≡ None
check_from_passes n l h =
    let bounded = le-leb _ _ h.bounded in
    let few = le-leb _ _ h.few in
    rw (bounded, few) h.fine

range_from_passes : (n : ℕ) (l : Line) → PassesChecks n l → IsLineInRange n l
range_from_passes n l h = record {
  bounded = h.bounded;
  few = h.few;
  terms = terms_in_range n n 1 l.terms (omega arith) h.fine;
}

passes_from_range : (n : ℕ) (l : Line) → IsLineInRange n l → PassesChecks n l
passes_from_range n l h = record {
  bounded = h.bounded;
  few = h.few;
  fine = no_fault_in_range n 1 l.terms h.terms;
}

pub check_is_exact : CheckIsExact
check_is_exact n l = record {
  passes = (passes_from_check n l, check_from_passes n l);
  in_range = (range_from_passes n l, passes_from_range n l);
}

pub share_on_other : (v : ℕ) (l w : ℤ) → v ≢ nat_abs l → share v l w ≡ pos 0
share_on_other v (pos l) w h = grind (arith, nat_tests)
share_on_other v (negsuc l) w h = grind (arith, nat_tests)

-- how large: so much for each term
pub share_small : (v : ℕ) (l w : ℤ) → nat_abs w ≤ MOST_WEIGHT → nat_abs (share v l w) ≤ MOST_WEIGHT
share_small v (pos l) w h =
    elim (eqb l v) as (λ b. nat_abs (cond b w (pos 0)) ≤ MOST_WEIGHT) [ true ↦ h | false ↦ omega arith ]
share_small v (negsuc l) w h =
    elim (eqb (suc l) v) as (λ b. nat_abs (cond b (neg_ℤ w) (pos 0)) ≤ MOST_WEIGHT) [
      | true ↦ omega (arith, ints)
      | false ↦ omega arith
    ]

pub under_small : (n : ℕ) (b : Bool) (t : Term) → IsTermInRange n t → nat_abs (weight_under b t) ≤ MOST_WEIGHT
under_small n true t h = omega (arith, ints, h.2)
under_small n false t h = h.2

net_small : (n : ℕ) (b : Bool) (ts : List Term) (v : ℕ) → AllByRecursion (IsTermInRange n) ts
    → nat_abs (net b ts v) ≤ MOST_WEIGHT * length ts
net_small n b [] v h = omega arith
net_small n b (t ∷ ts) v h =
    let one = share_small v t.literal (weight_under b t) (under_small n b t h.0) in
    let rest = net_small n b ts v h.1 in
    omega (arith, ints)

pub lowering_small : (l w : ℤ) → nat_abs w ≤ MOST_WEIGHT → nat_abs (lowering l w) ≤ MOST_WEIGHT
lowering_small (pos l) w h = omega arith
lowering_small (negsuc l) w h = h

lowered_small : (n : ℕ) (b : Bool) (ts : List Term) → AllByRecursion (IsTermInRange n) ts
    → nat_abs (lowered b ts) ≤ MOST_WEIGHT * length ts
lowered_small n b [] h = omega arith
lowered_small n b (t ∷ ts) h =
    let one = lowering_small t.literal (weight_under b t) (under_small n b t h.0) in
    let rest = lowered_small n b ts h.1 in
    omega (arith, ints)

-- what the terms of one line come to
pub net_within : (n : ℕ) (b : Bool) (ts : List Term) (v : ℕ) → length ts ≤ MOST_TERMS
    → AllByRecursion (IsTermInRange n) ts → nat_abs (net b ts v) ≤ MOST_WEIGHT_SUM
net_within n b ts v few h = let m = net_small n b ts v h in omega arith

pub lowered_within : (n : ℕ) (b : Bool) (ts : List Term) → length ts ≤ MOST_TERMS
    → AllByRecursion (IsTermInRange n) ts → nat_abs (lowered b ts) ≤ MOST_WEIGHT_SUM
lowered_within n b ts few h = let m = lowered_small n b ts h in omega arith
