-- Of the sets that an assignment misses, none of whose literals holds: outside of each is at least what counts, and
-- where less than the bound counts, one of them is least.
use Rattle.std.proofs.Common.{◌≡◌, ℕ, ◌+◌, ◌/◌, ◌^◌, ◌<◌, ◌≤◌, Bool, true, false, cond, ◌&&◌, leb, List, [], ◌∷◌}
use Rattle.std.proofs.Common.{◌++◌, length, ℤ, refl, ◌∙◌, inl, inr, arith}
use Rattle.std.proofs.lemmas.Bool.{and_from, or_parts, or_from, lt-ltb, le-leb, cases_Bool, cases_lt, false≢true}
use Rattle.cnf.specs.Clauses.{some_holds}
use Rattle.pb.specs.declared.working.WorkingTerm.{WorkingTerm}
use Rattle.pb.specs.Meaning.{Assignment, holds}
use Rattle.encode.specs.Direct.{has_first, sum_outside, each_lifts, is_least, literal_by, literals_in}
use Rattle.encode.proofs.Masks.{put, at_put, put_below}

-- the sum of the weights whose literals hold, or whose complements do
abbrev pub weighed_by : Bool → Assignment → List WorkingTerm → ℕ
weighed_by flip v [] = 0
weighed_by flip v (t ∷ ts) = cond (holds v (literal_by flip t.literal)) t.weight 0 + weighed_by flip v ts

first_missed : (b : Bool) (v : Assignment) (l : ℤ) (ls : List ℤ) (w : ℕ)
    → some_holds v (cond b (l ∷ []) [] ++ ls) ≡ false
    → (cond (holds v l) w 0 ≤ cond b 0 w) × (some_holds v ls ≡ false)
first_missed true v l ls w h =
    let p = or_parts (holds v l) (some_holds v ls) h in
    (rw p.0 (omega arith), p.1)
first_missed false v l ls w h =
    (elim (holds v l) as (λ b. cond b w 0 ≤ w) [ true ↦ omega arith | false ↦ omega arith ], h)

pub missed_outside : (flip : Bool) (v : Assignment) (ts : List WorkingTerm) (mask : ℕ)
    → some_holds v (literals_in flip ts mask) ≡ false → weighed_by flip v ts ≤ sum_outside ts mask
missed_outside flip v [] mask h = omega arith
missed_outside flip v (t ∷ ts) mask h =
    let rest = literals_in flip ts (mask / 2) in
    let p = first_missed (has_first mask) v (literal_by flip t.literal) rest t.weight h in
    let e = missed_outside flip v ts (mask / 2) p.1 in
    omega arith

-- a missed set of the last terms, where `sum` is what is outside among the terms before, with what counts among
-- these. What is outside among all is then the sum, with what is outside among these, less what counts among them:
-- it is under the bound, and each weight in the set lifts it, or more than it, to the bound
record Missed (flip : Bool) (v : Assignment) (bound : ℕ) (ts : List WorkingTerm) (sum : ℕ) : Type 0 where
  mask : ℕ
  below : mask < 2 ^ length ts
  none_holds : some_holds v (literals_in flip ts mask) ≡ false
  under : sum + sum_outside ts mask < bound + weighed_by flip v ts
  lifting : (s : ℕ) → sum + sum_outside ts mask ≤ s + weighed_by flip v ts → each_lifts ts mask s bound ≡ true

-- one more term in front, in the set or not
first_misses : (b : Bool) (v : Assignment) (l : ℤ) (ls : List ℤ) → (b ≡ true → holds v l ≡ false)
    → some_holds v ls ≡ false → some_holds v (cond b (l ∷ []) [] ++ ls) ≡ false
first_misses true v l ls f h = or_from (holds v l) (some_holds v ls) (f refl) h
first_misses false v l ls f h = h

first_lifts : (b : Bool) (bound s w : ℕ) → (b ≡ true → bound ≤ s + w) → cond b (leb bound (s + w)) true ≡ true
first_lifts true bound s w g = le-leb bound (s + w) (g refl)
first_lifts false bound s w g = refl

module _ (flip : Bool) (v : Assignment) (bound : ℕ) (t : WorkingTerm) (ts : List WorkingTerm) where
  extended : (b : Bool) (sum next : ℕ)
      → sum + cond b 0 t.weight ≡ next + cond (holds v (literal_by flip t.literal)) t.weight 0
      → (b ≡ true → holds v (literal_by flip t.literal) ≡ false) → (b ≡ true → bound ≤ next + t.weight)
      → Missed flip v bound ts next → Missed flip v bound (t ∷ ts) sum
  extended b sum next e f g m =
      let l = literal_by flip t.literal in
      let out = at_put (λ c n. cond c 0 t.weight + sum_outside ts n) b m.mask in
      let most = missed_outside flip v ts m.mask m.none_holds in
      record {
        mask = put b m.mask;
        below = put_below b m.mask (length ts) m.below;
        none_holds =
            at_put (λ c n. some_holds v (cond c (l ∷ []) [] ++ literals_in flip ts n)) b m.mask
            ∙ first_misses b v l (literals_in flip ts m.mask) f m.none_holds;
        under = omega arith;
        lifting = λ s h.
            at_put (λ c n. cond c (leb bound (s + t.weight)) true && each_lifts ts n s bound) b m.mask
            ∙ and_from _ _
            (first_lifts b bound s t.weight (λ k. omega (arith, g k)))
            (m.lifting s (omega arith));
      }

  -- a term that counts is outside, and so is another whose weight leaves the sum under the bound; since the sum only
  -- grows, a weight that lifts it to the bound once lifts it at the end
  missed_first : (sum : ℕ) → ((next : ℕ) → next < bound → Missed flip v bound ts next)
      → sum < bound → Missed flip v bound (t ∷ ts) sum
  missed_first sum after h = elim (cases_Bool (holds v (literal_by flip t.literal))) [
    | inl e ↦
        extended false sum sum (rw e refl) (λ k. absurd (false≢true k)) (λ k. absurd (false≢true k)) (after sum h)
    | inr e ↦ elim (cases_lt (sum + t.weight) bound) [
      | inl k ↦
          let next = sum + t.weight in
          extended false sum next (rw e (omega arith)) (λ j. absurd (false≢true j)) (λ j. absurd (false≢true j))
          (after next k)
      | inr k ↦ extended true sum sum (rw e refl) (λ _. e) (λ _. k) (after sum h)
    ]
  ]

missed : (flip : Bool) (v : Assignment) (bound : ℕ) (ts : List WorkingTerm) (sum : ℕ)
    → sum < bound → Missed flip v bound ts sum
missed flip v bound [] sum h =
    record { mask = 0; below = omega arith; none_holds = refl; under = omega arith; lifting = λ s k. refl }
missed flip v bound (t ∷ ts) sum h = missed_first flip v bound t ts sum (missed flip v bound ts) h

pub least_missed : (flip : Bool) (v : Assignment) (bound : ℕ) (ts : List WorkingTerm) → weighed_by flip v ts < bound
    → (mask : ℕ)
    × (mask < 2 ^ length ts)
    × (is_least ts bound mask ≡ true)
    × (some_holds v (literals_in flip ts mask) ≡ false)
least_missed flip v bound ts h =
    let m = missed flip v bound ts (weighed_by flip v ts) h in (
      m.mask,
      m.below,
      and_from _ _ (lt-ltb _ _ (omega arith)) (m.lifting (sum_outside ts m.mask) (omega arith)),
      m.none_holds,
    )
