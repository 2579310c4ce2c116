-- A line's fault stands within the line's records, so that its offset fits.
use Rattle.std.proofs.Common.{◌≡◌, ℕ, suc, ◌+◌, ◌*◌, ◌≤◌, Bool, true, false, cond, leb, List, [], ◌∷◌, length}
use Rattle.std.proofs.Common.{nat_abs, Some, Option, arith}
use Rattle.pb.specs.declared.constraint.TheConstants.{MOST_TERMS, MOST_BOUND}
use Rattle.pb.specs.declared.line_fault.LineFault.{LineFault}
use Rattle.pb.specs.declared.line_fault.LineFault.TheVariants.{Bound as BadBound, Terms as TooMany}
use Rattle.pb.specs.declared.line_fault.LineFault.TheVariants.{Literal as BadLiteral, Weight as BadWeight}
use Rattle.pb.specs.declared.term.Term.{Term}
use Rattle.pb.specs.Lines.{Line}
use Rattle.pb.specs.Checks.{literal_named, weight_small, terms_fault, line_check}
use Rattle.schedule.specs.declared.mark.Mark.TheVariants.{Term as TermMark}
use Rattle.schedule.specs.Reading.{offset_of_fault, line_size}
use Rattle.schedule.specs.Records.{record_size}

-- the fault that is found is this one, that one or a later one
first_or : (P : LineFault → Type 0) (a b : Bool) (x y e : LineFault) (later : Option LineFault)
    → P x → P y → (later ≡ Some e → P e) → cond a (cond b later (Some y)) (Some x) ≡ Some e → P e
first_or P true true x y e later p q r h = r h
first_or P true false x y e later p q r h = let same : y ≡ e = cc in rw (← same) q
first_or P false b x y e later p q r h = let same : x ≡ e = cc in rw (← same) p

terms_within : (at n i : ℕ) (ts : List Term) (e : LineFault) → terms_fault n i ts ≡ Some e
    → offset_of_fault at e ≤ at + record_size TermMark * (i + length ts)
terms_within at n i [] e h = cc
terms_within at n i (t ∷ ts) e h =
    first_or (λ x. offset_of_fault at x ≤ at + record_size TermMark * (i + suc (length ts)))
    (literal_named n t.literal) (weight_small t.weight) (BadLiteral i) (BadWeight i) e (terms_fault n (suc i) ts)
    (omega arith) (omega arith)
    (λ k. omega (arith, terms_within at n (suc i) ts e k)) h

pub fault_within : (at n : ℕ) (l : Line) (e : LineFault) → line_check n l ≡ Some e
    → offset_of_fault at e ≤ at + line_size l
fault_within at n l e h =
    first_or (λ x. offset_of_fault at x ≤ at + line_size l)
    (leb (nat_abs l.bound) MOST_BOUND) (leb (length l.terms) MOST_TERMS) BadBound TooMany e (terms_fault n 1 l.terms)
    (omega arith) (omega arith)
    (λ k. omega (arith, terms_within at n 1 l.terms e k)) h
