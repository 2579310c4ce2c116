-- What a working line forces holds wherever the line is met, and is a literal of one of the variables; where nothing
-- is forced, no term alone forces anything.
use Rattle.std.proofs.Common.{◌≡◌, ℕ, zero, suc, ◌+◌, ◌-◌, ◌<◌, ◌≤◌, Bool, true, false, cond, not, ltb, ◌⊎◌, List, []}
use Rattle.std.proofs.Common.{◌∷◌, ℤ, pos, negsuc, neg_ℤ, nat_abs, Some, None, Option, sym, refl, ap, ◌∙◌, inl, inr}
use Rattle.std.proofs.Common.{arith}
use mathlib.Core.Bool.{not-not}
use Rattle.std.specs.List.{AllByRecursion}
use Rattle.std.proofs.lemmas.Bool.{leb-true, ltb-true, ltb-false, le-ltb, eqb-true}
use Rattle.pb.specs.declared.working.Sense.{Sense}
use Rattle.pb.specs.declared.working.Sense.TheVariants.{AtLeast, Exactly}
use Rattle.pb.specs.declared.working.WorkingTerm.{WorkingTerm}
use Rattle.pb.specs.Sums.{weight_sum}
use Rattle.pb.specs.Meaning.{Assignment, holds, weighed, reaches}
use Rattle.pb.specs.WorkingForm.{normal_terms}
use Rattle.pb.specs.Settled.{forced_least, forced_exactly, forced_by, Unforced}
use Rattle.pb.specs.Laws.{ForcedHolds, ForcedNone, ForcedInRange}
use Rattle.pb.proofs.Firsts.{normal_first}
use Rattle.pb.proofs.Scaling.{counts_below, weighed_below}

-- the first of two answers, or the second
pub either_found : (b : Bool) (x l : ℤ) (o : Option ℤ) → cond b (Some x) o ≡ Some l
    → ((b ≡ true) × (x ≡ l)) ⊎ (o ≡ Some l)
either_found true x l o h = inl (refl, cc)
either_found false x l o h = inr h

neither_found : (b : Bool) (x : ℤ) (o : Option ℤ) → cond b (Some x) o ≡ None → (b ≡ false) × (o ≡ None)
neither_found true x o h = cc
neither_found false x o h = (refl, h)

pub none_found : (l : ℤ) → ◌≡◌ {A = Option ℤ} None (Some l) → ⊥
none_found l h = cc

-- a line that forces a literal has the weights to reach its bound
pub reached_found : (b : Bool) (l : ℤ) (o : Option ℤ) → cond b None o ≡ Some l → o ≡ Some l
reached_found true l o h = absurd (none_found l h)
reached_found false l o h = h

-- the complement of a literal has its variable, and holds where the literal does not
pub variable_of_complement : (l : ℤ) → nat_abs (neg_ℤ l) ≡ nat_abs l
variable_of_complement (pos zero) = refl
variable_of_complement (pos (suc v)) = refl
variable_of_complement (negsuc v) = refl

pub complement_holds : (a : Assignment) (l : ℤ) → 0 < nat_abs l → holds a (neg_ℤ l) ≡ not (holds a l)
complement_holds a (pos zero) h = absurd (omega arith)
complement_holds a (pos (suc v)) h = refl
complement_holds a (negsuc v) h = sym (not-not (a (suc v)))

-- a weight without which the sum does not reach the bound counts, and one above what is reached does not; x of y is
-- weighed besides
counts_where_needed : (b : Bool) (w x y sum k reached : ℕ) → x ≤ y → reached + (w + y) ≤ sum + (cond b w 0 + x)
    → k ≤ reached
    → ltb (sum - w) k ≡ true → b ≡ true
counts_where_needed true w x y sum k reached m h q e = refl
counts_where_needed false w x y sum k reached m h q e = absurd (omega (arith, ltb-true _ _ e))

uncounted_where_above : (b : Bool) (w x k : ℕ) → cond b w 0 + x ≤ k → ltb k w ≡ true → b ≡ false
uncounted_where_above true w x k h e = absurd (omega (arith, ltb-true _ _ e))
uncounted_where_above false w x k h e = refl

-- along the terms: of a line that comes to `reached`, no more is missing among the terms left than from the whole sum
least_holds : (a : Assignment) (sum k reached : ℕ) (ts : List WorkingTerm) (l : ℤ)
    → reached + weight_sum ts ≤ sum + weighed a ts → k ≤ reached → forced_least sum k ts ≡ Some l → holds a l ≡ true
least_holds a sum k reached [] l m q h = absurd (none_found l h)
least_holds a sum k reached (t ∷ ts) l m q h =
    let e = weighed_below a ts in
    let d = counts_below (holds a t.literal) t.weight in
    let b = holds a t.literal in
    elim (either_found (ltb (sum - t.weight) k) t.literal l (forced_least sum k ts) h) [
      | inl p ↦ rw (← p.1) (counts_where_needed b t.weight (weighed a ts) (weight_sum ts) sum k reached e m q p.0)
      | inr p ↦ least_holds a sum k reached ts l (omega arith) q p
    ]

-- and of an "exactly" line no more is weighed among the terms left than its bound
exactly_holds : (a : Assignment) (n below sum k : ℕ) (ts : List WorkingTerm) (l : ℤ) → normal_terms n below ts ≡ true
    → k + weight_sum ts ≤ sum + weighed a ts → weighed a ts ≤ k → forced_exactly sum k ts ≡ Some l → holds a l ≡ true
exactly_holds a n below sum k [] l g m q h = absurd (none_found l h)
exactly_holds a n below sum k (t ∷ ts) l g m q h =
    let f = normal_first n below t ts g in
    let e = weighed_below a ts in
    let d = counts_below (holds a t.literal) t.weight in
    let b = holds a t.literal in
    let o = forced_exactly sum k ts in
    let same : k ≤ k = omega arith in
    let opposite = complement_holds a t.literal (omega arith) in
    elim (either_found (ltb k t.weight) (neg_ℤ t.literal) l (cond (ltb (sum - t.weight) k) (Some t.literal) o) h) [
      | inl p ↦ rw (← p.1) (opposite ∙ ap not (uncounted_where_above b t.weight (weighed a ts) k q p.0))
      | inr r ↦ elim (either_found (ltb (sum - t.weight) k) t.literal l o r) [
        | inl p ↦ rw (← p.1) (counts_where_needed b t.weight (weighed a ts) (weight_sum ts) sum k k e m same p.0)
        | inr p ↦ exactly_holds a n (nat_abs t.literal) sum k ts l f.rest (omega arith) (omega arith) p
      ]
    ]

by_holds : (s : Sense) (a : Assignment) (n k : ℕ) (ts : List WorkingTerm) (l : ℤ) → normal_terms n 0 ts ≡ true
    → reaches s (weighed a ts) k ≡ true → forced_by s (weight_sum ts) k ts ≡ Some l → holds a l ≡ true
by_holds AtLeast a n k ts l g m h =
    least_holds a (weight_sum ts) k (weighed a ts) ts l (omega arith) (leb-true _ _ m) h
by_holds Exactly a n k ts l g m h =
    let e = eqb-true (weighed a ts) k m in
    exactly_holds a n 0 (weight_sum ts) k ts l g (omega arith) (omega arith) h

pub forced_holds : ForcedHolds
forced_holds n w l g h a m =
    let found = reached_found (ltb (weight_sum w.terms) w.bound) l _ h in
    by_holds w.sense a n w.bound w.terms l g.terms_are m found

-- a literal of one of the variables 1 to n
least_in_range : (n below sum k : ℕ) (ts : List WorkingTerm) (l : ℤ) → normal_terms n below ts ≡ true
    → forced_least sum k ts ≡ Some l → (0 < nat_abs l) × (nat_abs l ≤ n)
least_in_range n below sum k [] l g h = absurd (none_found l h)
least_in_range n below sum k (t ∷ ts) l g h =
    let f = normal_first n below t ts g in
    elim (either_found (ltb (sum - t.weight) k) t.literal l (forced_least sum k ts) h) [
      | inl p ↦ let e = ap nat_abs p.1 in (omega arith, omega arith)
      | inr p ↦ least_in_range n (nat_abs t.literal) sum k ts l f.rest p
    ]

exactly_in_range : (n below sum k : ℕ) (ts : List WorkingTerm) (l : ℤ) → normal_terms n below ts ≡ true
    → forced_exactly sum k ts ≡ Some l → (0 < nat_abs l) × (nat_abs l ≤ n)
exactly_in_range n below sum k [] l g h = absurd (none_found l h)
exactly_in_range n below sum k (t ∷ ts) l g h =
    let f = normal_first n below t ts g in
    let o = forced_exactly sum k ts in
    let c = variable_of_complement t.literal in
    elim (either_found (ltb k t.weight) (neg_ℤ t.literal) l (cond (ltb (sum - t.weight) k) (Some t.literal) o) h) [
      | inl p ↦ let e = ap nat_abs p.1 in (omega arith, omega arith)
      | inr r ↦ elim (either_found (ltb (sum - t.weight) k) t.literal l o r) [
        | inl p ↦ let e = ap nat_abs p.1 in (omega arith, omega arith)
        | inr p ↦ exactly_in_range n (nat_abs t.literal) sum k ts l f.rest p
      ]
    ]

by_in_range : (s : Sense) (n sum k : ℕ) (ts : List WorkingTerm) (l : ℤ) → normal_terms n 0 ts ≡ true
    → forced_by s sum k ts ≡ Some l → (0 < nat_abs l) × (nat_abs l ≤ n)
by_in_range AtLeast n sum k ts l g h = least_in_range n 0 sum k ts l g h
by_in_range Exactly n sum k ts l g h = exactly_in_range n 0 sum k ts l g h

pub forced_in_range : ForcedInRange
forced_in_range n w l g h =
    let found = reached_found (ltb (weight_sum w.terms) w.bound) l _ h in
    by_in_range w.sense n (weight_sum w.terms) w.bound w.terms l g.terms_are found

least_none : (sum k : ℕ) (ts : List WorkingTerm) → forced_least sum k ts ≡ None
    → AllByRecursion (Unforced AtLeast sum k) ts
least_none sum k [] h = tt
least_none sum k (t ∷ ts) h =
    let p = neither_found (ltb (sum - t.weight) k) t.literal (forced_least sum k ts) h in
    (ltb-false _ _ p.0, least_none sum k ts p.1)

exactly_none : (sum k : ℕ) (ts : List WorkingTerm) → forced_exactly sum k ts ≡ None
    → AllByRecursion (Unforced Exactly sum k) ts
exactly_none sum k [] h = tt
exactly_none sum k (t ∷ ts) h =
    let o = forced_exactly sum k ts in
    let p = neither_found (ltb k t.weight) (neg_ℤ t.literal) (cond (ltb (sum - t.weight) k) (Some t.literal) o) h in
    let q = neither_found (ltb (sum - t.weight) k) t.literal o p.1 in
    ((ltb-false _ _ p.0, ltb-false _ _ q.0), exactly_none sum k ts q.1)

none_reached : (sum k : ℕ) (o : Option ℤ) → k ≤ sum → cond (ltb sum k) None o ≡ None → o ≡ None
none_reached sum k o g h = rw (le-ltb sum k g) at h

by_none : (s : Sense) (sum k : ℕ) (ts : List WorkingTerm) → forced_by s sum k ts ≡ None
    → AllByRecursion (Unforced s sum k) ts
by_none AtLeast sum k ts h = least_none sum k ts h
by_none Exactly sum k ts h = exactly_none sum k ts h

pub forced_none : ForcedNone
forced_none w h g =
    let sum = weight_sum w.terms in
    by_none w.sense sum w.bound w.terms (none_reached sum w.bound (forced_by w.sense sum w.bound w.terms) g h)
