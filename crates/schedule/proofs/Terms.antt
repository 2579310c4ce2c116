-- A row of terms that is read one by one: what one term more, or one that is refused, makes of what is left to read.
use Rattle.std.proofs.Common.{◌≡◌, ℕ, suc, ◌+◌, ◌-◌, ◌<◌, List, [], ◌∷◌, ◌++◌, drop, Ok, Err, Result, sym, refl, ap}
use Rattle.std.proofs.Common.{◌∙◌, append_assoc, arith}
use Rattle.std.proofs.lemmas.List.{drop-drop}
use Rattle.fault.specs.declared.file.FileFault.{FileFault}
use Rattle.pb.specs.declared.term.Term.{Term}
use Rattle.schedule.specs.declared.mark.Mark.TheVariants.{Term as TermMark}
use Rattle.schedule.specs.Records.{record_size, record_body, term_in}
use Rattle.schedule.specs.Reading.{◌>>=◌, read_terms}

-- the terms read, with more behind them
abbrev pub behind : List Term → Result (List Term) FileFault → Result (List Term) FileFault
behind ts r = r >>= λ more. Ok (ts ++ more)

behind_more : (ts : List Term) (t : Term) (r : Result (List Term) FileFault)
    → behind ts (r >>= λ more. Ok (t ∷ more)) ≡ behind (ts ++ t ∷ []) r
behind_more ts t (Ok more) = ap Ok (sym (append_assoc ts (t ∷ []) more))
behind_more ts t (Err e) = refl

-- one record on
one_more : (k at : ℕ) (rest body : List ℕ) (ts : List Term) → record_body TermMark at rest ≡ Ok body
    → behind ts (read_terms (suc k) at rest)
    ≡ behind (ts ++ term_in body ∷ []) (read_terms k (at + record_size TermMark) (drop (record_size TermMark) rest))
one_more k at rest body ts e =
    rw e (behind_more ts (term_in body) (read_terms k (at + record_size TermMark) (drop (record_size TermMark) rest)))

module _ (count at i : ℕ) (input : List ℕ) (ts : List Term) (more : i < count) where
  left : behind ts (read_terms (count - i) at (drop at input))
      ≡ behind ts (read_terms (suc (count - (i + 1))) at (drop at input))
  left = let e : count - i ≡ suc (count - (i + 1)) = omega arith in rw e

  pub term_more : (body : List ℕ) → record_body TermMark at (drop at input) ≡ Ok body
      → behind ts (read_terms (count - i) at (drop at input))
      ≡ behind (ts ++ term_in body ∷ []) (read_terms (count - (i + 1)) (at + 8) (drop (at + 8) input))
  term_more body e = left ∙ one_more (count - (i + 1)) at (drop at input) body ts e ∙ rw drop-drop

  pub term_refused : (e : FileFault) → record_body TermMark at (drop at input) ≡ Err e
      → behind ts (read_terms (count - i) at (drop at input)) ≡ Err e
  term_refused e r = left ∙ rw r
