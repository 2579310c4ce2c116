-- The normal form of a line that passes its checks is in normal form, and has no more terms than the line.
use Rattle.std.proofs.Common.{◌≡◌, ℕ, suc, ◌≤◌, true, List, length, ℤ, pos, negsuc, ◌+ℤ◌, ◌-ℤ◌, nat_abs, arith}
use Rattle.std.proofs.lemmas.Int.{ints}
use Rattle.pb.specs.declared.constraint.TheConstants.{MOST_BOUND, MOST_TERMS}
use Rattle.pb.specs.declared.working.TheConstants.{MOST_WEIGHT_SUM, MOST_WORKING_BOUND}
use Rattle.pb.specs.declared.relation.Relation.{Relation}
use Rattle.pb.specs.declared.relation.Relation.TheVariants.{AtLeast, AtMost, Exactly, MoreThan, LessThan}
use Rattle.pb.specs.declared.working.Sense.{Sense}
use Rattle.pb.specs.declared.working.Sense.TheVariants.{AtLeast as LeastOf, Exactly as Just}
use Rattle.pb.specs.declared.working.WorkingTerm.{WorkingTerm}
use Rattle.pb.specs.Normal.{sense_of, negated, threshold, net, lowered, gathered, raised, floored}
use Rattle.pb.specs.Sums.{weight_sum}
use Rattle.pb.specs.WorkingForm.{normal_terms, IsNormal}
use Rattle.pb.specs.Laws.{NormalIsNormal}
use Rattle.pb.proofs.Firsts.{no_terms_is_normal}
use Rattle.pb.proofs.Ranges.{terms_in_range, lowered_within}
use Rattle.pb.proofs.Gathered.{gathered_few, gathered_light, raised_light, gathered_is_normal}

pub threshold_within : (r : Relation) (b : ℤ) → nat_abs b ≤ MOST_BOUND → nat_abs (threshold r b) ≤ suc MOST_BOUND
threshold_within AtLeast b h = omega arith
threshold_within AtMost b h = omega (arith, ints)
threshold_within Exactly b h = omega arith
threshold_within MoreThan b h = omega (arith, ints)
threshold_within LessThan b h = omega (arith, ints)

-- terms in normal form with a bound in range, once that is not below 0
floored_is_normal : (n : ℕ) (s : Sense) (z : ℤ) (ts : List WorkingTerm) → normal_terms n 0 ts ≡ true
    → length ts ≤ MOST_TERMS → weight_sum ts ≤ MOST_WEIGHT_SUM → nat_abs z ≤ MOST_WORKING_BOUND
    → IsNormal n (floored s z ts) × (length (floored s z ts).terms ≤ length ts)
floored_is_normal n LeastOf (pos b) ts is_normal few light near =
    (record { terms_are = is_normal; few = few; light = light; near = near }, omega arith)
floored_is_normal n Just (pos b) ts is_normal few light near =
    (record { terms_are = is_normal; few = few; light = light; near = near }, omega arith)
floored_is_normal n LeastOf (negsuc b) ts is_normal few light near =
    (record { terms_are = is_normal; few = few; light = light; near = omega arith }, omega arith)
floored_is_normal n Just (negsuc b) ts is_normal few light near =
    (no_terms_is_normal n 1 (omega arith), omega arith)

pub normal_is_normal : NormalIsNormal
normal_is_normal n l s =
    let r = l.relation in
    let b = negated r in
    let f = net b l.terms in
    let in_range = terms_in_range n n 1 l.terms (omega arith) s.fine in
    let most = threshold_within r l.bound s.bounded in
    let low = lowered_within n b l.terms s.few in_range in
    let weight = gathered_light n 1 n b l.terms in_range in
    let raise = raised_light n 1 f in
    let few = gathered_few n 1 b l.terms in
    let terms = s.few in
    let z : ℤ = (threshold r l.bound -ℤ lowered b l.terms) +ℤ pos (raised n 1 f) in
    let near : nat_abs z ≤ MOST_WORKING_BOUND = omega (arith, ints) in
    let is_normal = gathered_is_normal n n 1 f (omega arith) 0 (omega arith) in
    let p = floored_is_normal n (sense_of r) z (gathered n 1 f) is_normal (omega arith) (omega arith) near in
    (p.0, omega (arith, p.1, few))
