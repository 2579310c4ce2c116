-- The sums, the divisor and the searches of the definitions, as those of lists.
use Rattle.std.proofs.Common.{◌≡◌, ℕ, zero, suc, ◌+◌, ◌-◌, ◌<◌, nat_lt, Bool, true, false, cond, List, [], ◌∷◌, length}
use Rattle.std.proofs.Common.{get_or, reverse, fold, filter, sum_by, ℤ, neg_ℤ, Option, Some, None, MatchOption}
use Rattle.std.proofs.Common.{sym, refl, ap, ◌∙◌, zero-add, arith}
use Rattle.std.specs.Option.{option_or}
use Rattle.std.proofs.lemmas.List.Sums.{sum_by-cons, fold-append}
use Rattle.std.proofs.lemmas.List.{reverse-append}
use Rattle.pb.specs.declared.working.Sense.{Sense}
use Rattle.pb.specs.declared.working.Sense.TheVariants.{AtLeast, Exactly}
use Rattle.pb.specs.declared.working.WorkingTerm.{WorkingTerm}
use Rattle.pb.specs.Settled.{forced_by, same_literal, weight_on}
use Rattle.pb.specs.Sums.{weight_sum}
use Rattle.pb.specs.Tightened.{divisor_of, gcd}
use Rattle.lines.proofs.EachTerm.{no_term}

abbrev pub weight_of_term : WorkingTerm → ℕ
weight_of_term t = t.weight

-- the terms on a literal
abbrev pub terms_on : ℤ → List WorkingTerm → List WorkingTerm
terms_on l ts = filter (λ t. same_literal t.literal l) ts

pub total_is : (ts : List WorkingTerm) → sum_by weight_of_term ts ≡ weight_sum ts
total_is [] = refl
total_is (t ∷ ts) = sum_by-cons weight_of_term t ts ∙ ap (λ n. t.weight + n) (total_is ts)

total_on_cons : (on : Bool) (t : WorkingTerm) (ts : List WorkingTerm) (n : ℕ) → sum_by weight_of_term ts ≡ n
    → sum_by weight_of_term (cond on (t ∷ ts) ts) ≡ cond on t.weight 0 + n
total_on_cons true t ts n e = sum_by-cons weight_of_term t ts ∙ ap (λ m. t.weight + m) e
total_on_cons false t ts n e = e ∙ sym (zero-add n)

pub total_on_is : (l : ℤ) (ts : List WorkingTerm) → sum_by weight_of_term (terms_on l ts) ≡ weight_on l ts
total_on_is l [] = refl
total_on_is l (t ∷ ts) =
    total_on_cons (same_literal t.literal l) t (terms_on l ts) (weight_on l ts) (total_on_is l ts)

pub divisor_is : (ts : List WorkingTerm) → fold (λ d t. gcd t.weight d) 0 (reverse ts) ≡ divisor_of ts
divisor_is [] = refl
divisor_is (t ∷ ts) =
    ap (fold (λ d u. gcd u.weight d) 0) (reverse-append (t ∷ []) ts)
    ∙ fold-append (λ d u. gcd u.weight d) 0 (reverse ts) (t ∷ [])
    ∙ ap (gcd t.weight) (divisor_is ts)

-- what the term at a place forces
abbrev pub forced_at : Sense → ℕ → ℕ → List WorkingTerm → ℕ → Option ℤ
forced_at s sum k ts i = forced_by s sum k (get_or ts i no_term ∷ [])

-- what the first term that forces something forces, or that none does
abbrev pub FirstForced : Sense → ℕ → ℕ → List WorkingTerm → Option ℤ → Type 0
FirstForced s sum k ts r =
    MatchOption r ((i : ℕ) → i < length ts → forced_at s sum k ts i ≡ None)
    (λ l. (i : ℕ) × (i < length ts) × (forced_at s sum k ts i ≡ Some l)
    × ((j : ℕ) → j < i → forced_at s sum k ts j ≡ None))

-- a choice, or else another, or else nothing
one_or : (b : Bool) (x : ℤ) (o : Option ℤ) → cond b (Some x) o ≡ option_or (cond b (Some x) None) o
one_or true x o = refl
one_or false x o = refl

two_or : (b c : Bool) (x y : ℤ) (o : Option ℤ)
    → cond b (Some x) (cond c (Some y) o) ≡ option_or (cond b (Some x) (cond c (Some y) None)) o
two_or true c x y o = refl
two_or false c x y o = one_or c y o

forced_cons : (s : Sense) (sum k : ℕ) (t : WorkingTerm) (ts : List WorkingTerm)
    → forced_by s sum k (t ∷ ts) ≡ option_or (forced_by s sum k (t ∷ [])) (forced_by s sum k ts)
forced_cons AtLeast sum k t ts = one_or (nat_lt (sum - t.weight) k) t.literal (forced_by AtLeast sum k ts)
forced_cons Exactly sum k t ts =
    let left = forced_by Exactly sum k ts in
    two_or (nat_lt k t.weight) (nat_lt (sum - t.weight) k) (neg_ℤ t.literal) t.literal left

pub first_is : (s : Sense) (sum k : ℕ) (ts : List WorkingTerm) (r : Option ℤ) → FirstForced s sum k ts r
    → r ≡ forced_by s sum k ts
first_is AtLeast sum k [] None h = refl
first_is Exactly sum k [] None h = refl
first_is s sum k [] (Some l) h = absurd (omega (arith, h.1))
first_is s sum k (t ∷ ts) None h =
    let here : forced_by s sum k (t ∷ []) ≡ None = h 0 (omega arith) in
    let later = first_is s sum k ts None (λ i p. h (suc i) (omega arith)) in
    rw (forced_cons s sum k t ts, here) later
first_is s sum k (t ∷ ts) (Some l) (zero, p, e, before) = rw (forced_cons s sum k t ts, e) refl
first_is s sum k (t ∷ ts) (Some l) (suc i, p, e, before) =
    let here : forced_by s sum k (t ∷ []) ≡ None = before 0 (omega arith) in
    let later = first_is s sum k ts (Some l) (i, omega arith, e, λ j q. before (suc j) (omega arith)) in
    rw (forced_cons s sum k t ts, here) later
