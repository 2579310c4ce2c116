-- The sum of what the true ones of a run of variables count: it is linear, a literal's share comes to what the literal
-- counts, and the terms gathered from net weights weigh as much as these, raised.
use Rattle.std.proofs.Common.{◌≡◌, ℕ, zero, suc, ◌+◌, ◌<◌, ◌≤◌, Bool, true, false, cond, not, eqb, List, [], ◌∷◌, ◌++◌}
use Rattle.std.proofs.Common.{ℤ, pos, negsuc, ◌+ℤ◌, neg_ℤ, nat_abs, refl, inl, inr, arith}
use Rattle.std.proofs.lemmas.Int.{ints}
use Rattle.std.proofs.lemmas.Bool.{ne_eqb, eq-eqb, cases_eq}
use Rattle.pb.specs.Normal.{share, lowering, term_of, raise_of, gathered, raised}
use Rattle.pb.specs.Meaning.{Assignment, holds, weighed}
use Rattle.pb.specs.declared.working.WorkingTerm.{WorkingTerm}

-- the sum of f over those of the k variables from v on that are true
abbrev pub spread : ℕ → ℕ → (ℕ → ℤ) → Assignment → ℤ
spread zero v f a = pos 0
spread (suc k) v f a = cond (a v) (f v) (pos 0) +ℤ spread k (suc v) f a

cond_plus : (b : Bool) (x y : ℤ) → cond b (x +ℤ y) (pos 0) ≡ cond b x (pos 0) +ℤ cond b y (pos 0)
cond_plus true x y = refl
cond_plus false x y = refl

pub spread_plus : (k v : ℕ) (f g : ℕ → ℤ) (a : Assignment)
    → spread k v (λ u. f u +ℤ g u) a ≡ spread k v f a +ℤ spread k v g a
spread_plus zero v f g a = refl
spread_plus (suc k) v f g a =
    let e = spread_plus k (suc v) f g a in
    let d = cond_plus (a v) (f v) (g v) in
    omega (arith, ints)

cond_none : (b : Bool) → cond b (pos 0) (pos 0) ≡ pos 0
cond_none true = refl
cond_none false = refl

pub spread_none : (k v : ℕ) (a : Assignment) → spread k v (λ u. pos 0) a ≡ pos 0
spread_none zero v a = refl
spread_none (suc k) v a = let e = spread_none k (suc v) a in let d = cond_none (a v) in omega (arith, ints)

-- a weight on one variable alone
abbrev single : ℕ → ℤ → ℕ → ℤ
single l w u = cond (eqb l u) w (pos 0)

single_at : (l : ℕ) (w : ℤ) → single l w l ≡ w
single_at l w = rw (eq-eqb l l refl)

single_off : (l u : ℕ) (w : ℤ) → (l ≡ u → ⊥) → single l w u ≡ pos 0
single_off l u w h = rw (ne_eqb l u h)

spread_before : (k v l : ℕ) (w : ℤ) (a : Assignment) → l < v → spread k v (single l w) a ≡ pos 0
spread_before zero v l w a h = refl
spread_before (suc k) v l w a h =
    let e = spread_before k (suc v) l w a (omega arith) in
    let d = cond_none (a v) in
    rw (single_off l v w (λ p. omega arith)) (omega (arith, ints))

spread_first : (k v : ℕ) (w : ℤ) (a : Assignment) → spread (suc k) v (single v w) a ≡ cond (a v) w (pos 0)
spread_first k v w a =
    let e = spread_before k (suc v) v w a (omega arith) in
    rw (single_at v w) (omega (arith, ints))

spread_single : (k v l : ℕ) (w : ℤ) (a : Assignment) → v ≤ l → l < v + k
    → spread k v (single l w) a ≡ cond (a l) w (pos 0)
spread_single zero v l w a h g = absurd (omega arith)
spread_single (suc k) v l w a h g = elim (cases_eq l v) [
  | inl p ↦ rw p (spread_first k v w a)
  | inr p ↦
      let e = spread_single k (suc v) l w a (omega arith) (omega arith) in
      let d = cond_none (a v) in
      rw (single_off l v w p) (omega (arith, ints))
]

cond_opposite : (b : Bool) (w : ℤ) → cond b (neg_ℤ w) (pos 0) +ℤ w ≡ cond (not b) w (pos 0)
cond_opposite true w = omega (arith, ints)
cond_opposite false w = omega (arith, ints)

-- what a literal of one of these variables counts
pub spread_share : (k v : ℕ) (z w : ℤ) (a : Assignment) → v ≤ nat_abs z → nat_abs z < v + k
    → spread k v (λ u. share u z w) a +ℤ lowering z w ≡ cond (holds a z) w (pos 0)
spread_share k v (pos l) w a h g = let e = spread_single k v l w a h g in omega (arith, ints)
spread_share k v (negsuc l) w a h g =
    let e = spread_single k v (suc l) (neg_ℤ w) a h g in
    let d = cond_opposite (a (suc l)) w in
    omega (arith, ints)

weighed_append : (a : Assignment) (xs ys : List WorkingTerm) → weighed a (xs ++ ys) ≡ weighed a xs + weighed a ys
weighed_append a [] ys = omega arith
weighed_append a (x ∷ xs) ys = let e = weighed_append a xs ys in omega arith

-- the one term of a variable of positive net weight, and of one of negative net weight
counts_true : (b : Bool) (p : ℕ) → pos (cond b (suc p) 0 + 0) ≡ cond b (pos (suc p)) (pos 0) +ℤ pos 0
counts_true true p = omega (arith, ints)
counts_true false p = refl

counts_false : (b : Bool) (p : ℕ) → pos (cond (not b) (suc p) 0 + 0) ≡ cond b (negsuc p) (pos 0) +ℤ pos (suc p)
counts_false true p = omega (arith, ints)
counts_false false p = omega (arith, ints)

-- the term of variable v, of net weight z
weighed_term : (a : Assignment) (v : ℕ) (z : ℤ) → 0 < v
    → pos (weighed a (term_of v z)) ≡ cond (a v) z (pos 0) +ℤ pos (raise_of z)
weighed_term a zero z h = absurd (omega arith)
weighed_term a (suc v) (pos zero) h = let d = cond_none (a (suc v)) in omega (arith, ints)
weighed_term a (suc v) (pos (suc p)) h = counts_true (a (suc v)) p
weighed_term a (suc v) (negsuc p) h = counts_false (a (suc v)) p

pub weighed_gathered : (k v : ℕ) (f : ℕ → ℤ) (a : Assignment) → 0 < v
    → pos (weighed a (gathered k v f)) ≡ spread k v f a +ℤ pos (raised k v f)
weighed_gathered zero v f a h = refl
weighed_gathered (suc k) v f a h =
    let e = weighed_gathered k (suc v) f a (omega arith) in
    let d = weighed_term a v (f v) h in
    rw (weighed_append a (term_of v (f v)) (gathered k (suc v) f)) (omega (arith, ints))
