-- What saturating the weights at a bound, and dividing them by a common divisor, do to sums, to what an assignment
-- weighs, and to terms in normal form.
use Prim.Native.Nat.{◌∣◌}
use Rattle.std.proofs.Common.{◌≡◌, ℕ, zero, suc, ◌+◌, ◌*◌, ◌/◌, ◌<◌, ◌≤◌, min, Bool, true, false, cond, List}
use Rattle.std.proofs.Common.{[], ◌∷◌, length, nat_abs, sym, refl, ap, add-mul, div-le_self, div-one, arith}
use Rattle.std.proofs.Math.Nat.{div-mul_cancel}
use Rattle.std.specs.Int.{div_ceil}
use Rattle.std.specs.List.{AllByRecursion}
use Rattle.pb.specs.declared.working.WorkingTerm.{WorkingTerm}
use Rattle.pb.specs.Meaning.{Assignment, holds, weighed}
use Rattle.pb.specs.Sums.{weight_sum}
use Rattle.pb.specs.WorkingForm.{normal_terms}
use Rattle.pb.specs.Tightened.{saturated, divided}
use Rattle.pb.proofs.Divisors.{div_ceil-above, DividesAll, AllPositive}
use Rattle.pb.proofs.Firsts.{normal_first, first_normal}

-- what one term counts
counts_saturated : (b : Bool) (w k x y : ℕ) → y ≤ x → min x k ≤ y
    → (cond b (min w k) 0 + y ≤ cond b w 0 + x) × (min (cond b w 0 + x) k ≤ cond b (min w k) 0 + y)
counts_saturated true w k x y h g = (omega arith, omega arith)
counts_saturated false w k x y h g = (omega arith, omega arith)

counts_divided : (b : Bool) (w d : ℕ) → d ∣ w → cond b w 0 ≡ cond b (w / d) 0 * d
counts_divided true w d h = sym (div-mul_cancel d h)
counts_divided false w d h = omega arith

pub counts_below : (b : Bool) (w : ℕ) → cond b w 0 ≤ w
counts_below true w = omega arith
counts_below false w = omega arith

-- an assignment weighs no more than the sum
pub weighed_below : (a : Assignment) (ts : List WorkingTerm) → weighed a ts ≤ weight_sum ts
weighed_below a [] = omega arith
weighed_below a (t ∷ ts) =
    let first = counts_below (holds a t.literal) t.weight in
    let others = weighed_below a ts in
    omega arith

-- saturated terms weigh no more than before, and reach the bound where the terms did
pub weighed_saturated : (a : Assignment) (k : ℕ) (ts : List WorkingTerm)
    → (weighed a (saturated k ts) ≤ weighed a ts) × (min (weighed a ts) k ≤ weighed a (saturated k ts))
weighed_saturated a k [] = (omega arith, omega arith)
weighed_saturated a k (t ∷ ts) =
    let e = weighed_saturated a k ts in
    counts_saturated (holds a t.literal) t.weight k _ _ e.0 e.1

pub sum_saturated : (k : ℕ) (ts : List WorkingTerm)
    → (weight_sum (saturated k ts) ≤ weight_sum ts) × (min (weight_sum ts) k ≤ weight_sum (saturated k ts))
sum_saturated k [] = (omega arith, omega arith)
sum_saturated k (t ∷ ts) = let e = sum_saturated k ts in (omega arith, omega arith)

pub length_saturated : (k : ℕ) (ts : List WorkingTerm) → length (saturated k ts) ≡ length ts
length_saturated k [] = refl
length_saturated k (t ∷ ts) = ap suc (length_saturated k ts)

pub saturated_positive : (k : ℕ) (ts : List WorkingTerm) → 0 < k → AllPositive ts → AllPositive (saturated k ts)
saturated_positive k [] h g = tt
saturated_positive k (t ∷ ts) h g = let p = g.0 in (omega arith, saturated_positive k ts h g.1)

pub saturated_within : (k : ℕ) (ts : List WorkingTerm) → AllByRecursion (λ t. t.weight ≤ k) (saturated k ts)
saturated_within k [] = tt
saturated_within k (t ∷ ts) = (omega arith, saturated_within k ts)

pub saturated_same : (k : ℕ) (ts : List WorkingTerm) → AllByRecursion (λ t. t.weight ≤ k) ts → saturated k ts ≡ ts
saturated_same k [] h = refl
saturated_same k (t ∷ ts) h =
    let p = h.0 in
    let e : min t.weight k ≡ t.weight = omega arith in
    let d = saturated_same k ts h.1 in
    rw (e, d)

-- divided by a common divisor, the terms weigh that part of what they did
pub weighed_divided : (a : Assignment) (d : ℕ) (ts : List WorkingTerm) → DividesAll d ts
    → weighed a ts ≡ weighed a (divided d ts) * d
weighed_divided a d [] h = omega arith
weighed_divided a d (t ∷ ts) h =
    let b = holds a t.literal in
    let first = counts_divided b t.weight d h.0 in
    let others = weighed_divided a d ts h.1 in
    let both = add-mul (cond b (t.weight / d) 0) (weighed a (divided d ts)) d in
    omega arith

pub sum_divided : (d : ℕ) (ts : List WorkingTerm) → DividesAll d ts → weight_sum ts ≡ weight_sum (divided d ts) * d
sum_divided d [] h = omega arith
sum_divided d (t ∷ ts) h =
    let first = counts_divided true t.weight d h.0 in
    let others = sum_divided d ts h.1 in
    let both = add-mul (t.weight / d) (weight_sum (divided d ts)) d in
    omega arith

pub sum_divided_below : (d : ℕ) (ts : List WorkingTerm) → weight_sum (divided d ts) ≤ weight_sum ts
sum_divided_below d [] = omega arith
sum_divided_below d (t ∷ ts) =
    let first = div-le_self t.weight d in
    let others = sum_divided_below d ts in
    omega arith

pub length_divided : (d : ℕ) (ts : List WorkingTerm) → length (divided d ts) ≡ length ts
length_divided d [] = refl
length_divided d (t ∷ ts) = ap suc (length_divided d ts)

factor_positive : (q d : ℕ) → 0 < q * d → 0 < q
factor_positive zero d h = absurd (omega arith)
factor_positive (suc q) d h = omega arith

pub divided_positive : (d : ℕ) (ts : List WorkingTerm) → DividesAll d ts → AllPositive ts → AllPositive (divided d ts)
divided_positive d [] h g = tt
divided_positive d (t ∷ ts) h g =
    let first = counts_divided true t.weight d h.0 in
    let p = g.0 in
    (factor_positive (t.weight / d) d (omega arith), divided_positive d ts h.1 g.1)

pub divided_within : (k d : ℕ) (ts : List WorkingTerm) → 0 < d → DividesAll d ts
    → AllByRecursion (λ t. t.weight ≤ k) ts → AllByRecursion (λ t. t.weight ≤ div_ceil k d) (divided d ts)
divided_within k d [] l h g = tt
divided_within k d (t ∷ ts) l h g =
    let first = counts_divided true t.weight d h.0 in
    let p = g.0 in
    (div_ceil-above k d (t.weight / d) l (omega arith), divided_within k d ts l h.1 g.1)

pub divided_one : (ts : List WorkingTerm) → divided 1 ts ≡ ts
divided_one [] = refl
divided_one (t ∷ ts) = let e = div-one t.weight in let d = divided_one ts in rw (e, d)

-- terms in normal form have positive weights, and stay in normal form with others
first_positive : (n below : ℕ) (t : WorkingTerm) (ts : List WorkingTerm) → normal_terms n below (t ∷ ts) ≡ true
    → 0 < t.weight
first_positive n below t ts h = (normal_first n below t ts h).heavy

others_normal : (n below : ℕ) (t : WorkingTerm) (ts : List WorkingTerm) → normal_terms n below (t ∷ ts) ≡ true
    → normal_terms n (nat_abs t.literal) ts ≡ true
others_normal n below t ts h = (normal_first n below t ts h).rest

reweighed : (n below x : ℕ) (t : WorkingTerm) (ts us : List WorkingTerm) → normal_terms n below (t ∷ ts) ≡ true → 0 < x
    → normal_terms n (nat_abs t.literal) us ≡ true
    → normal_terms n below (record { weight = x; literal = t.literal } ∷ us) ≡ true
reweighed n below x t ts us h p g =
    let f = normal_first n below t ts h in
    first_normal n below (record { weight = x; literal = t.literal }) us
    (record { heavy = p; above = f.above; named = f.named; rest = g })

pub normal_positive : (n below : ℕ) (ts : List WorkingTerm) → normal_terms n below ts ≡ true → AllPositive ts
normal_positive n below [] h = tt
normal_positive n below (t ∷ ts) h =
    (first_positive n below t ts h, normal_positive n _ ts (others_normal n below t ts h))

pub normal_saturated : (n below k : ℕ) (ts : List WorkingTerm) → 0 < k → normal_terms n below ts ≡ true
    → normal_terms n below (saturated k ts) ≡ true
normal_saturated n below k [] l h = refl
normal_saturated n below k (t ∷ ts) l h =
    let p = first_positive n below t ts h in
    reweighed n below (min t.weight k) t ts (saturated k ts) h (omega arith)
    (normal_saturated n _ k ts l (others_normal n below t ts h))

pub normal_divided : (n below d : ℕ) (ts : List WorkingTerm) → AllPositive (divided d ts)
    → normal_terms n below ts ≡ true → normal_terms n below (divided d ts) ≡ true
normal_divided n below d [] p h = refl
normal_divided n below d (t ∷ ts) p h =
    reweighed n below (t.weight / d) t ts (divided d ts) h p.0
    (normal_divided n _ d ts p.1 (others_normal n below t ts h))
