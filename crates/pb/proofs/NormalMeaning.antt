-- The normal form of a line that passes its checks is met by just the assignments that meet the line: what its terms
-- weigh is as far above its bound as the line's total, negated or not, is above the threshold.
use Rattle.std.proofs.Common.{◌≡◌, ℕ, Bool, true, false, cond, ◌&&◌, List, [], ◌∷◌, ℤ, pos, negsuc, ◌+ℤ◌, ◌-ℤ◌, neg_ℤ}
use Rattle.std.proofs.Common.{refl, ap, ◌∙◌, arith}
use lib.Signed.{le_z}
use Rattle.std.specs.List.{AllByRecursion}
use Rattle.std.proofs.lemmas.Int.{ints}
use Rattle.std.proofs.lemmas.Bool.Decides.{nat_tests}
use Rattle.pb.specs.declared.relation.Relation.{Relation}
use Rattle.pb.specs.declared.relation.Relation.TheVariants.{AtLeast, AtMost, Exactly, MoreThan, LessThan}
use Rattle.pb.specs.declared.term.Term.{Term}
use Rattle.pb.specs.declared.working.Sense.{Sense}
use Rattle.pb.specs.declared.working.Sense.TheVariants.{AtLeast as LeastOf, Exactly as Just}
use Rattle.pb.specs.declared.working.WorkingTerm.{WorkingTerm}
use Rattle.pb.specs.Checks.{IsTermInRange}
use Rattle.pb.specs.Normal.{sense_of, negated, threshold, weight_under, share, net, lowered, gathered, raised, floored}
use Rattle.pb.specs.Meaning.{Assignment, holds, total, stands, weighed, met}
use Rattle.pb.specs.Laws.{NormalKeeps}
use Rattle.pb.proofs.Ranges.{terms_in_range}
use Rattle.pb.proofs.Spreads.{spread, spread_plus, spread_none, spread_share, weighed_gathered}

-- the total, with every weight negated or not
abbrev counted : Bool → Assignment → List Term → ℤ
counted b a [] = pos 0
counted b a (t ∷ ts) = cond (holds a t.literal) (weight_under b t) (pos 0) +ℤ counted b a ts

abbrev signed : Bool → ℤ → ℤ
signed true z = neg_ℤ z
signed false z = z

counted_term : (b h : Bool) (t : Term) → cond h (weight_under b t) (pos 0) ≡ signed b (cond h t.weight (pos 0))
counted_term true true t = refl
counted_term true false t = refl
counted_term false h t = refl

signed_plus : (b : Bool) (x y : ℤ) → signed b (x +ℤ y) ≡ signed b x +ℤ signed b y
signed_plus true x y = omega (arith, ints)
signed_plus false x y = refl

counted_total : (b : Bool) (a : Assignment) (ts : List Term) → counted b a ts ≡ signed b (total a ts)
counted_total true a [] = refl
counted_total false a [] = refl
counted_total b a (t ∷ ts) =
    let first = counted_term b (holds a t.literal) t in
    let others = counted_total b a ts in
    let both = signed_plus b (cond (holds a t.literal) t.weight (pos 0)) (total a ts) in
    omega (arith, ints)

counted_net : (n : ℕ) (b : Bool) (a : Assignment) (ts : List Term) → AllByRecursion (IsTermInRange n) ts
    → counted b a ts ≡ spread n 1 (net b ts) a +ℤ lowered b ts
counted_net n b a [] h = let e = spread_none n 1 a in omega (arith, ints)
counted_net n b a (t ∷ ts) h =
    let shares : ℕ → ℤ = λ u. share u t.literal (weight_under b t) in
    let first = spread_share n 1 t.literal (weight_under b t) a (omega (arith, h.0.0)) (omega (arith, h.0.1)) in
    let others = counted_net n b a ts h.1 in
    let both : spread n 1 (net b (t ∷ ts)) a ≡ spread n 1 shares a +ℤ spread n 1 (net b ts) a =
    spread_plus n 1 shares (net b ts) a in
    omega (arith, ints)

-- how a total has to stand to the threshold
abbrev compared : Sense → ℤ → ℤ → Bool
compared LeastOf t c = le_z c t
compared Just t c = le_z c t && le_z t c

compared_signed : (r : Relation) (t b : ℤ)
    → compared (sense_of r) (signed (negated r) t) (threshold r b) ≡ stands r t b
compared_signed AtLeast t b = refl
compared_signed AtMost t b = grind (arith, ints)
compared_signed Exactly t b = refl
compared_signed MoreThan t b = grind (arith, ints)
compared_signed LessThan t b = grind (arith, ints)

-- a bound z may take the place of the threshold c if the terms weigh as far above z as t is above c
met_floored : (a : Assignment) (s : Sense) (ts : List WorkingTerm) (z t c : ℤ) → pos (weighed a ts) -ℤ z ≡ t -ℤ c
    → met a (floored s z ts) ≡ compared s t c
met_floored a LeastOf ts (pos m) t c h = grind (arith, ints, nat_tests)
met_floored a LeastOf ts (negsuc m) t c h = grind (arith, ints, nat_tests)
met_floored a Just ts (pos m) t c h = grind (arith, ints, nat_tests)
met_floored a Just ts (negsuc m) t c h = grind (arith, ints, nat_tests)

met_counted : (n : ℕ) (a : Assignment) (s : Sense) (b : Bool) (ts : List Term) (c : ℤ)
    → AllByRecursion (IsTermInRange n) ts
    → met a (floored s ((c -ℤ lowered b ts) +ℤ pos (raised n 1 (net b ts))) (gathered n 1 (net b ts)))
    ≡ compared s (counted b a ts) c
met_counted n a s b ts c h =
    let e = counted_net n b a ts h in
    let d = weighed_gathered n 1 (net b ts) a (omega arith) in
    met_floored a s (gathered n 1 (net b ts)) _ (counted b a ts) c (omega (arith, ints))

pub normal_keeps : NormalKeeps
normal_keeps n l s a =
    let r = l.relation in
    let b = negated r in
    let c = threshold r l.bound in
    met_counted n a (sense_of r) b l.terms c (terms_in_range n n 1 l.terms (omega arith) s.fine)
    ∙ ap (λ t. compared (sense_of r) t c) (counted_total b a l.terms)
    ∙ compared_signed r (total a l.terms) l.bound
