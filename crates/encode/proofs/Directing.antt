-- The direct encoder keeps its law: its first list says that the terms count the bound or more, and for "exactly" its
-- second says that their complements count what the bound leaves of the sum or more.
use Rattle.std.proofs.Common.{◌≡◌, ℕ, ◌+◌, ◌-◌, Bool, true, false, cond, not, ◌&&◌, leb, List, [], ◌∷◌, sym, refl, ap}
use Rattle.std.proofs.Common.{◌∙◌, arith}
use Rattle.std.specs.List.{AllByRecursion}
use Rattle.std.proofs.lemmas.Bool.Decides.{nat_tests}
use Rattle.cnf.specs.Clauses.{satisfies_all}
use Rattle.cnf.proofs.Satisfying.{satisfies_append}
use Rattle.pb.specs.declared.working.Sense.{Sense}
use Rattle.pb.specs.declared.working.Sense.TheVariants.{AtLeast, Exactly}
use Rattle.pb.specs.declared.working.WorkingTerm.{WorkingTerm}
use Rattle.pb.specs.Lines.{Working}
use Rattle.pb.specs.Meaning.{Assignment, holds, weighed, reaches, met}
use Rattle.pb.specs.Sums.{weight_sum}
use Rattle.pb.proofs.Settling.{complement_holds}
use Rattle.encode.specs.Law.{Lawful, InReach, AgreeUpTo}
use Rattle.encode.specs.Direct.{set_clauses, direct_clauses, direct_list, direct_encoding}
use Rattle.encode.proofs.DirectNaming.{direct_short}
use Rattle.encode.proofs.LeastLists.{set_clauses_satisfied}
use Rattle.encode.proofs.LeastSets.{weighed_by}
use Rattle.encode.proofs.ShortClauses.{short_names, short_formed}
use Rattle.encode.proofs.Terms.{OnVariable, in_reach_on, weighed_agrees}

-- of a weight either its literal or its complement counts
either_counts : (b : Bool) (w : ℕ) → cond (not b) w 0 + cond b w 0 ≡ w
either_counts true w = omega arith
either_counts false w = omega arith

both_count : (n : ℕ) (v : Assignment) (ts : List WorkingTerm)
    → AllByRecursion (OnVariable n) ts → weighed_by true v ts + weighed_by false v ts ≡ weight_sum ts
both_count n v [] h = refl
both_count n v (t ∷ ts) h =
    let e = both_count n v ts h.1 in
    let d = either_counts (holds v t.literal) t.weight in
    rw (complement_holds v t.literal h.0.0) (omega arith)

-- what is at least the bound, and leaves at least what the bound leaves of the sum, is the bound
exactly_both : (count other sum bound : ℕ)
    → other + count ≡ sum → (leb bound count && leb (sum - bound) other) ≡ reaches Exactly count bound
exactly_both count other sum bound e = grind (arith, nat_tests)

direct_satisfied : (n : ℕ) (v : Assignment) (s : Sense) (bound : ℕ) (ts : List WorkingTerm)
    → AllByRecursion (OnVariable n) ts
    → satisfies_all v (direct_clauses s bound ts) ≡ reaches s (weighed_by false v ts) bound
direct_satisfied n v AtLeast bound ts h = set_clauses_satisfied false ts bound v
direct_satisfied n v Exactly bound ts h =
    let rest = weight_sum ts - bound in
    satisfies_append v (set_clauses false ts bound) (set_clauses true ts rest)
    ∙ rw (set_clauses_satisfied false ts bound v, set_clauses_satisfied true ts rest v)
    (exactly_both (weighed_by false v ts) (weighed_by true v ts) (weight_sum ts) bound (both_count n v ts h))

-- what the literals themselves count is what the terms weigh
weighed_by_literals : (v : Assignment) (ts : List WorkingTerm) → weighed_by false v ts ≡ weighed v ts
weighed_by_literals v [] = refl
weighed_by_literals v (t ∷ ts) = ap (λ x. cond (holds v t.literal) t.weight 0 + x) (weighed_by_literals v ts)

direct_means : (n first : ℕ) (w : Working) → InReach direct_encoding n first w
    → (a v : Assignment) → AgreeUpTo n v a → satisfies_all v (direct_list w first) ≡ met a w
direct_means n first w h a v agree =
    let on = in_reach_on h in
    direct_satisfied n v w.sense w.bound w.terms on
    ∙ ap (λ x. reaches w.sense x w.bound) (weighed_by_literals v w.terms ∙ weighed_agrees n a v agree w.terms on)

pub direct_lawful : Lawful direct_encoding
direct_lawful =
    record {
      names = λ n first w h. short_names _ _ (direct_short n first w h);
      formed = λ n first w h. short_formed n first 0 h.above h.below _ (direct_short n first w h);
      means = λ n first w h a v agree.
          let e = direct_means n first w h a v agree in
          (λ k. (sym e ∙ k, λ j none. absurd (omega arith)), λ k. e ∙ k.0);
    }
