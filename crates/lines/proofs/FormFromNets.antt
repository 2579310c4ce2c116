-- The normal form of a line, from a table of its net weights.
use Rattle.std.proofs.Common.{◌≡◌, ℕ, suc, ◌+◌, ◌<◌, ◌≤◌, List, length, drop, ℤ, pos, ◌+ℤ◌, ◌-ℤ◌, nat_abs, sym, refl}
use Rattle.std.proofs.Common.{ap, ◌∙◌, subst, arith, w32, to_z, of_z}
use Rattle.std.proofs.lemmas.Int.{ints}
use Rattle.pb.specs.declared.constraint.TheConstants.{MOST_BOUND}
use Rattle.pb.specs.declared.variables.TheConstants.{MOST_VARIABLES}
use Rattle.pb.specs.declared.working.TheConstants.{MOST_WEIGHT_SUM}
use Rattle.pb.specs.declared.working.Sense.{Sense}
use Rattle.pb.specs.declared.working.WorkingHead.{WorkingHead}
use Rattle.pb.specs.declared.working.WorkingTerm.{WorkingTerm}
use Rattle.pb.specs.Lines.{Line, Working, impossible_line, line_in}
use Rattle.pb.specs.Checks.{PassesChecks}
use Rattle.pb.specs.Normal.{sense_of, negated, threshold, net, lowered, gathered, raised, floored, normal}
use Rattle.pb.specs.Meaning.{met}
use Rattle.pb.specs.WorkingForm.{IsNormal}
use Rattle.pb.proofs.Gathered.{gathered_same, raised_same, gathered_few, gathered_light, raised_light}
use Rattle.pb.proofs.NormalMeaning.{normal_keeps}
use Rattle.pb.proofs.Normalizing.{normal_is_normal, threshold_within}
use Rattle.pb.proofs.Ranges.{check_from_passes, terms_in_range, lowered_within}
use Rattle.lines.specs.declared.nets.Nets.{Nets}
use Rattle.lines.specs.CheckedLine.{checked_variables, checked_line}
use Rattle.lines.specs.Nets.{net_in, IsNetsOf}
use Rattle.lines.specs.Forms.{Formed}

-- a working line of these parts
abbrev working : Sense → ℕ → List WorkingTerm → Working
working s m ts = record { sense = s; bound = m; terms = ts }

-- where a bound stops, as a bound of its own or nowhere
abbrev pub StopsAt : Sense → ℤ → ℕ → Type 0
StopsAt s z m = (ts : List WorkingTerm) → floored s z ts ≡ record { sense = s; bound = m; terms = ts }

abbrev pub StopsNowhere : Sense → ℤ → Type 0
StopsNowhere s z = (ts : List WorkingTerm) → floored s z ts ≡ impossible_line

-- the bound of a line before it is stopped at 0, by the line's own net weights and by those of a table
abbrev pub moved : Line → ℕ → (ℕ → ℤ) → ℤ
moved l n f = (threshold l.relation l.bound -ℤ lowered (negated l.relation) l.terms) +ℤ pos (raised n 1 f)

module _ (n : ℕ) (l : Line) (table : List ℤ) (known : n ≤ MOST_VARIABLES)
    (tabled : IsNetsOf (negated l.relation) l.terms table) where
  abbrev nets : ℕ → ℤ
  nets = net (negated l.relation) l.terms

  agree : (u : ℕ) → 1 ≤ u → u < 1 + n → net_in table u ≡ nets u
  agree u low high = tabled u (omega arith)

  gathered_from : gathered n 1 (net_in table) ≡ gathered n 1 nets
  gathered_from = gathered_same n 1 (net_in table) nets agree

  raised_from : raised n 1 (net_in table) ≡ raised n 1 nets
  raised_from = raised_same n 1 (net_in table) nets agree

  pub gathered_from_few : length (gathered n 1 (net_in table)) ≤ length l.terms
  gathered_from_few = rw gathered_from (gathered_few n 1 (negated l.relation) l.terms)

  pub raised_from_light : PassesChecks n l → raised n 1 (net_in table) ≤ MOST_WEIGHT_SUM
  raised_from_light s =
      let same = raised_from in
      let low = raised_light n 1 nets in
      let in_range = terms_in_range n n 1 l.terms (omega arith) s.fine in
      let light = gathered_light n 1 n (negated l.relation) l.terms in_range in
      let few = s.few in
      omega arith

  -- by where the bound stops
  module _ (s : Sense) (z : ℤ) (d : s ≡ sense_of l.relation) (e : z ≡ moved l n (net_in table)) where
    normal_from : normal n l ≡ floored s z (gathered n 1 (net_in table))
    normal_from = rw (d, e, raised_from, gathered_from) refl

    pub normal_met : (m : ℕ) → StopsAt s z m → (ts : List WorkingTerm) → ts ≡ gathered n 1 (net_in table)
        → normal n l ≡ record { sense = s; bound = m; terms = ts }
    normal_met m h ts t = normal_from ∙ h (gathered n 1 (net_in table)) ∙ ap (working s m) (sym t)

    pub normal_unmet : StopsNowhere s z → normal n l ≡ impossible_line
    normal_unmet h = normal_from ∙ h (gathered n 1 (net_in table))

-- what else an answer says follows from its being the normal form
pub formed : (n : ℕ) (l : Line) (f : WorkingHead) (before after : List WorkingTerm) → PassesChecks n l
    → length l.terms ≤ length after → normal n l ≡ line_in f after → f.count ≤ length l.terms
    → drop f.count after ≡ drop f.count before → Formed n l f before after
formed n l f before after s room e few beyond =
    record {
      fine = check_from_passes n l s;
      form_is = e;
      meaning = λ a. ap (met a) (sym e) ∙ normal_keeps n l s a;
      is_normal = subst (IsNormal n) e (normal_is_normal n l s).0;
      few = few;
      within = omega arith;
      beyond = beyond;
    }

-- the new bound as it is computed, through the bits of each part
abbrev pub by_bits : ℤ → ℤ → ℕ → ℤ
by_bits b low raise =
    let difference = to_z w32 (of_z w32 (to_z w32 (of_z w32 b) -ℤ to_z w32 (of_z w32 low))) in
    to_z w32 (of_z w32 (difference +ℤ to_z w32 raise))

-- the net weights of a line l of a job of n variables, with the line's bound and what lowers it
module _ (nets : Nets) (n : ℕ) (l : Line) (m : checked_variables nets.line ≡ n) (same : checked_line nets.line ≡ l)
    (b low : ℤ) (from : b ≡ threshold l.relation l.bound)
    (by : low ≡ lowered (negated (checked_line nets.line).relation) (checked_line nets.line).terms) where
  pub parts_small : (nat_abs b ≤ suc MOST_BOUND) × (nat_abs low ≤ MOST_WEIGHT_SUM)
  parts_small =
      let own = checked_line nets.line in
      let s = nets.line.passes in
      let most = threshold_within own.relation own.bound s.bounded in
      let is_own : b ≡ threshold own.relation own.bound =
      from ∙ ap (λ (k : Line). threshold k.relation k.bound) (sym same) in
      let few = nets.line.variables.few in
      let in_range = terms_in_range (checked_variables nets.line) MOST_VARIABLES 1 own.terms few s.fine in
      let least = lowered_within MOST_VARIABLES (negated own.relation) own.terms s.few in_range in
      (omega (arith, ints), omega (arith, ints))

  pub new_bound : (raise : ℕ) → raise ≡ raised (checked_variables nets.line) 1 (net_in nets.table)
      → raise ≤ MOST_WEIGHT_SUM → by_bits b low raise ≡ moved l n (net_in nets.table)
  new_bound raise lift few =
      let small = parts_small in
      let lows : low ≡ lowered (negated l.relation) l.terms =
      by ∙ ap (λ (k : Line). lowered (negated k.relation) k.terms) same in
      let lifts : raise ≡ raised n 1 (net_in nets.table) = lift ∙ ap (λ k. raised k 1 (net_in nets.table)) m in
      omega (arith, ints)

pub tabled_from : (nets : Nets) (l : Line) → checked_line nets.line ≡ l
    → IsNetsOf (negated l.relation) l.terms nets.table
tabled_from nets l same = subst (λ (k : Line). IsNetsOf (negated k.relation) k.terms nets.table) same nets.tabled
