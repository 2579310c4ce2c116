-- The table of net weights, one term on, and how large its entries get on the way.
use Rattle.std.proofs.Common.{◌≡◌, ℕ, ◌*◌, ◌<◌, ◌≤◌, Bool, true, false, List, length, drop, set, ℤ, pos, negsuc, ◌+ℤ◌}
use Rattle.std.proofs.Common.{neg_ℤ, nat_abs, sym, refl, ap, ◌∙◌, inl, inr, arith}
use lib.Signed.{lt_z}
use Rattle.std.specs.List.{AllByRecursion}
use Rattle.std.proofs.lemmas.List.{get_or-set_same, get_or-set_other, length-drop}
use Rattle.std.proofs.ByRecursion.{All-drop}
use Rattle.std.proofs.lemmas.Int.{ints}
use Rattle.std.proofs.lemmas.Bool.{cases_eq}
use Rattle.std.proofs.lemmas.Bool.Decides.{nat_tests}
use Rattle.pb.specs.declared.constraint.TheConstants.{MOST_TERMS}
use Rattle.pb.specs.declared.term.Term.{Term}
use Rattle.pb.specs.declared.variables.TheConstants.{MOST_VARIABLES}
use Rattle.pb.specs.declared.working.TheConstants.{MOST_WEIGHT_SUM}
use Rattle.pb.specs.Checks.{IsTermInRange}
use Rattle.pb.specs.Normal.{share, net, lowered}
use Rattle.pb.proofs.Ranges.{share_on_other, net_within, lowered_within}
use Rattle.lines.specs.Nets.{net_in}

-- a weight as it counts for the literal's variable
abbrev pub signed_by : ℤ → ℤ → ℤ
signed_by (pos l) w = w
signed_by (negsuc l) w = neg_ℤ w

pub share_on_own : (l w : ℤ) → share (nat_abs l) l w ≡ signed_by l w
share_on_own (pos l) w = grind (arith, nat_tests)
share_on_own (negsuc l) w = grind (arith, nat_tests)

-- a term's weight goes to its variable's place, and to no other
pub net_in-set : (table : List ℤ) (l w x : ℤ) (i : ℕ) → i ≡ nat_abs l → i < length table
    → x ≡ net_in table i +ℤ signed_by l w → (v : ℕ) → net_in (set table i x) v ≡ net_in table v +ℤ share v l w
net_in-set table l w x i m h e v =
    elim (cases_eq v i) [
      | inl same ↦
          let own = ap (λ u. share u l w) (same ∙ m) ∙ share_on_own l w in
          let set_here = get_or-set_same table i x (pos 0) h in
          rw (own, same, set_here) e
      | inr other ↦
          let none = share_on_other v l w (λ n. other (n ∙ sym m)) in
          let as_before = get_or-set_other table i v x (pos 0) other in
          omega (arith, ints)
    ]

-- by the literal's sign
pub signed_by-negative : (l w : ℤ) → lt_z l (pos 0) ≡ true → signed_by l w ≡ neg_ℤ w
signed_by-negative (pos l) w h = grind (arith, nat_tests)
signed_by-negative (negsuc l) w h = refl

pub signed_by-positive : (l w : ℤ) → lt_z l (pos 0) ≡ false → signed_by l w ≡ w
signed_by-positive (pos l) w h = refl
signed_by-positive (negsuc l) w h = grind arith

-- what some of a line's terms come to is what all of them do, less what the terms left would add
few_left : (i : ℕ) (ts : List Term) → length ts ≤ MOST_TERMS → length (drop i ts) ≤ MOST_TERMS
few_left i ts few = simp length-drop (omega arith)

pub net_so_far : (b : Bool) (ts : List Term) (i v : ℕ) (x : ℤ) → length ts ≤ MOST_TERMS
    → AllByRecursion (IsTermInRange MOST_VARIABLES) ts → x +ℤ net b (drop i ts) v ≡ net b ts v
    → nat_abs x ≤ 2 * MOST_WEIGHT_SUM
net_so_far b ts i v x few h e =
    let rest = All-drop (IsTermInRange MOST_VARIABLES) i ts h in
    let all = net_within MOST_VARIABLES b ts v few h in
    let left = net_within MOST_VARIABLES b (drop i ts) v (few_left i ts few) rest in
    omega (arith, ints)

pub lowered_so_far : (b : Bool) (ts : List Term) (i : ℕ) (x : ℤ) → length ts ≤ MOST_TERMS
    → AllByRecursion (IsTermInRange MOST_VARIABLES) ts → x +ℤ lowered b (drop i ts) ≡ lowered b ts
    → nat_abs x ≤ 2 * MOST_WEIGHT_SUM
lowered_so_far b ts i x few h e =
    let rest = All-drop (IsTermInRange MOST_VARIABLES) i ts h in
    let all = lowered_within MOST_VARIABLES b ts few h in
    let left = lowered_within MOST_VARIABLES b (drop i ts) (few_left i ts few) rest in
    omega (arith, ints)
