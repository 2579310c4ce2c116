-- What is gathered and raised from net weights depends only on those of the variables at hand; the terms gathered from
-- a line's net weights are in normal form, no more than the line has, and weigh no more than these.
use Rattle.std.proofs.Common.{◌≡◌, ℕ, zero, suc, ◌+◌, ◌*◌, ◌<◌, ◌≤◌, Bool, true, ◌≢◌, List, [], ◌∷◌, ◌++◌, length, ℤ}
use Rattle.std.proofs.Common.{pos, negsuc, nat_abs, refl, ap, inl, inr, arith}
use Rattle.std.specs.List.{AllByRecursion}
use Rattle.std.proofs.lemmas.List.{length-append}
use Rattle.std.proofs.lemmas.Int.{ints}
use Rattle.std.proofs.lemmas.Bool.{cases_eq, le-leb, lt-ltb}
use Rattle.pb.specs.declared.term.TheConstants.{MOST_WEIGHT}
use Rattle.pb.specs.declared.term.Term.{Term}
use Rattle.pb.specs.declared.working.WorkingTerm.{WorkingTerm}
use Rattle.pb.specs.Checks.{IsTermInRange}
use Rattle.pb.specs.Normal.{weight_under, net, term_of, raise_of, gathered, raised}
use Rattle.pb.specs.Sums.{weight_sum}
use Rattle.pb.specs.WorkingForm.{normal_terms}
use Rattle.pb.proofs.Ranges.{share_on_other, share_small, under_small}

-- two functions that agree on the k variables from v on
abbrev AgreeFrom : ℕ → ℕ → (ℕ → ℤ) → (ℕ → ℤ) → Type 0
AgreeFrom k v f g = (u : ℕ) → v ≤ u → u < v + k → f u ≡ g u

rest_agrees : (k v : ℕ) (f g : ℕ → ℤ) → AgreeFrom (suc k) v f g → AgreeFrom k (suc v) f g
rest_agrees k v f g h u low high = h u (omega arith) (omega arith)

pub gathered_same : (k v : ℕ) (f g : ℕ → ℤ) → AgreeFrom k v f g → gathered k v f ≡ gathered k v g
gathered_same zero v f g h = refl
gathered_same (suc k) v f g h =
    let here : f v ≡ g v = h v (omega arith) (omega arith) in
    let rest = gathered_same k (suc v) f g (rest_agrees k v f g h) in
    rw (here, rest) refl

pub raised_same : (k v : ℕ) (f g : ℕ → ℤ) → AgreeFrom k v f g → raised k v f ≡ raised k v g
raised_same zero v f g h = refl
raised_same (suc k) v f g h =
    let here : f v ≡ g v = h v (omega arith) (omega arith) in
    let rest = raised_same k (suc v) f g (rest_agrees k v f g h) in
    rw (here, rest) refl

-- a variable has at most one term
one_term : (v : ℕ) (z : ℤ) → length (term_of v z) ≤ 1
one_term v (pos zero) = omega arith
one_term v (pos (suc p)) = omega arith
one_term v (negsuc p) = omega arith

-- functions that differ at one variable u gather lists whose lengths differ by at most one
gathered_near : (k v u : ℕ) (f g : ℕ → ℤ) → ((w : ℕ) → w ≢ u → f w ≡ g w)
    → length (gathered k v f) ≤ suc (length (gathered k v g))
gathered_near zero v u f g h = omega arith
gathered_near (suc k) v u f g h =
    simp length-append (elim (cases_eq v u) [
      | inl same ↦
          let one = one_term v (f v) in
          let rest = ap length (gathered_same k (suc v) f g (λ w low high. h w (λ e. omega arith))) in
          omega arith
      | inr other ↦
          let here = ap (λ z. length (term_of v z)) (h v other) in
          let rest = gathered_near k (suc v) u f g h in
          omega arith
    ])

gathered_none : (k v : ℕ) → gathered k v (λ _. pos 0) ≡ []
gathered_none zero v = refl
gathered_none (suc k) v = gathered_none k (suc v)

-- a term changes the net weight of its own variable alone
net_elsewhere : (b : Bool) (t : Term) (ts : List Term) (w : ℕ) → w ≢ nat_abs t.literal → net b (t ∷ ts) w ≡ net b ts w
net_elsewhere b t ts w other = let o = share_on_other w t.literal (weight_under b t) other in omega (arith, ints)

pub gathered_few : (n v : ℕ) (b : Bool) (ts : List Term) → length (gathered n v (net b ts)) ≤ length ts
gathered_few n v b [] = let e = ap length (gathered_none n v) in omega arith
gathered_few n v b (t ∷ ts) =
    let near = gathered_near n v (nat_abs t.literal) (net b (t ∷ ts)) (net b ts) (net_elsewhere b t ts) in
    let few = gathered_few n v b ts in
    omega arith

-- a term weighs the size of its net weight
term_weight : (v : ℕ) (z : ℤ) → weight_sum (term_of v z) ≡ nat_abs z
term_weight v (pos zero) = refl
term_weight v (pos (suc p)) = omega arith
term_weight v (negsuc p) = omega arith

weight_append : (xs ys : List WorkingTerm) → weight_sum (xs ++ ys) ≡ weight_sum xs + weight_sum ys
weight_append [] ys = omega arith
weight_append (x ∷ xs) ys = let e = weight_append xs ys in omega arith

gathered_weight : (k v : ℕ) (f : ℕ → ℤ)
    → weight_sum (gathered (suc k) v f) ≡ nat_abs (f v) + weight_sum (gathered k (suc v) f)
gathered_weight k v f =
    let e = weight_append (term_of v (f v)) (gathered k (suc v) f) in
    let d = term_weight v (f v) in
    omega arith

-- functions that differ at one variable u, and there by at most d, gather terms that weigh at most d more
weight_near : (k v u d : ℕ) (f g : ℕ → ℤ) → ((w : ℕ) → w ≢ u → f w ≡ g w) → nat_abs (f u) ≤ d + nat_abs (g u)
    → weight_sum (gathered k v f) ≤ d + weight_sum (gathered k v g)
weight_near zero v u d f g h m = omega arith
weight_near (suc k) v u d f g h m =
    let fs = gathered_weight k v f in
    let gs = gathered_weight k v g in
    elim (cases_eq v u) [
      | inl same ↦
          let here : nat_abs (f v) ≤ d + nat_abs (g v) = rw same m in
          let rest = ap weight_sum (gathered_same k (suc v) f g (λ w low high. h w (λ e. omega arith))) in
          omega arith
      | inr other ↦
          let here = ap nat_abs (h v other) in
          let rest = weight_near k (suc v) u d f g h m in
          omega arith
    ]

pub gathered_light : (n v m : ℕ) (b : Bool) (ts : List Term) → AllByRecursion (IsTermInRange m) ts
    → weight_sum (gathered n v (net b ts)) ≤ MOST_WEIGHT * length ts
gathered_light n v m b [] h = let e = ap weight_sum (gathered_none n v) in omega arith
gathered_light n v m b (t ∷ ts) h =
    let u = nat_abs t.literal in
    let one = share_small u t.literal (weight_under b t) (under_small m b t h.0) in
    let more : nat_abs (net b (t ∷ ts) u) ≤ MOST_WEIGHT + nat_abs (net b ts u) = omega (arith, ints) in
    let near = weight_near n v u MOST_WEIGHT (net b (t ∷ ts)) (net b ts) (net_elsewhere b t ts) more in
    let light = gathered_light n v m b ts h.1 in
    omega arith

-- the bound is raised by no more than the terms weigh
pub raise_small : (z : ℤ) → raise_of z ≤ nat_abs z
raise_small (pos p) = omega arith
raise_small (negsuc p) = omega arith

pub raised_light : (k v : ℕ) (f : ℕ → ℤ) → raised k v f ≤ weight_sum (gathered k v f)
raised_light zero v f = omega arith
raised_light (suc k) v f =
    let e = gathered_weight k v f in
    let one = raise_small (f v) in
    let rest = raised_light k (suc v) f in
    omega arith

-- the term of a variable above `below`, before terms that are in normal form above that variable and above what lies
-- below it
normal_more : (n below v : ℕ) (z : ℤ) (ts : List WorkingTerm) → below < v → v ≤ n
    → ((low : ℕ) → low < suc v → normal_terms n low ts ≡ true) → normal_terms n below (term_of v z ++ ts) ≡ true
normal_more n below zero z ts h m rest = absurd (omega arith)
normal_more n below (suc v) (pos zero) ts h m rest = rest below (omega arith)
normal_more n below (suc v) (pos (suc p)) ts h m rest =
    rw (lt-ltb 0 (suc p) (omega arith), lt-ltb below (suc v) h, le-leb (suc v) n m) (rest (suc v) (omega arith))
normal_more n below (suc v) (negsuc p) ts h m rest =
    rw (lt-ltb 0 (suc p) (omega arith), lt-ltb below (suc v) h, le-leb (suc v) n m) (rest (suc v) (omega arith))

pub gathered_is_normal : (n k v : ℕ) (f : ℕ → ℤ) → v + k ≤ suc n → (below : ℕ) → below < v
    → normal_terms n below (gathered k v f) ≡ true
gathered_is_normal n zero v f most below h = refl
gathered_is_normal n (suc k) v f most below h =
    normal_more n below v (f v) (gathered k (suc v) f) h (omega arith)
    (gathered_is_normal n k (suc v) f (omega arith))
