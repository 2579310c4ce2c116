-- Terms in normal form are a first term in normal form and the rest above it, and stay in normal form above a lower
-- number; a line without terms is in normal form where its bound is 0 or 1.
use Rattle.std.proofs.Common.{◌≡◌, ℕ, ◌<◌, ◌≤◌, true, ltb, leb, List, [], ◌∷◌, nat_abs, refl, arith}
use Rattle.std.proofs.lemmas.Bool.{and_parts, and_from, leb-true, ltb-true, le-leb, lt-ltb}
use Rattle.pb.specs.declared.working.Sense.TheVariants.{AtLeast}
use Rattle.pb.specs.declared.working.WorkingTerm.{WorkingTerm}
use Rattle.pb.specs.WorkingForm.{normal_terms, IsNormal}

-- the first of terms that are in normal form
pub record IsFirst (n below : ℕ) (t : WorkingTerm) (ts : List WorkingTerm) : Type 0 where
  pub heavy : 0 < t.weight
  pub above : below < nat_abs t.literal
  pub named : nat_abs t.literal ≤ n
  pub rest : normal_terms n (nat_abs t.literal) ts ≡ true

pub normal_first : (n below : ℕ) (t : WorkingTerm) (ts : List WorkingTerm) → normal_terms n below (t ∷ ts) ≡ true
    → IsFirst n below t ts
normal_first n below t ts h =
    let p = and_parts (ltb 0 t.weight) _ h in
    let q = and_parts (ltb below (nat_abs t.literal)) _ p.1 in
    let r = and_parts (leb (nat_abs t.literal) n) _ q.1 in
    record { heavy = ltb-true _ _ p.0; above = ltb-true _ _ q.0; named = leb-true _ _ r.0; rest = r.1 }

pub first_normal : (n below : ℕ) (t : WorkingTerm) (ts : List WorkingTerm) → IsFirst n below t ts
    → normal_terms n below (t ∷ ts) ≡ true
first_normal n below t ts f =
    and_from _ _ (lt-ltb _ _ f.heavy)
    (and_from _ _ (lt-ltb _ _ f.above)
    (and_from _ _ (le-leb _ _ f.named) f.rest))

-- variables that rise from above a number rise from above a lower one
pub normal_lower : (n low high : ℕ) (ts : List WorkingTerm) → low ≤ high → normal_terms n high ts ≡ true
    → normal_terms n low ts ≡ true
normal_lower n low high [] e h = refl
normal_lower n low high (t ∷ ts) e h =
    let f = normal_first n high t ts h in
    first_normal n low t ts (record { heavy = f.heavy; above = omega arith; named = f.named; rest = f.rest })

pub no_terms_is_normal : (n b : ℕ) → b ≤ 1 → IsNormal n (record { sense = AtLeast; bound = b; terms = [] })
no_terms_is_normal n b h =
    record { terms_are = refl; few = omega arith; light = omega arith; near = omega arith }
