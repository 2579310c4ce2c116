-- The first fault of a line's terms, one term on.
use Rattle.std.proofs.Common.{◌≡◌, ℕ, ◌+◌, ◌<◌, true, List, length, get_or, drop, refl, ◌∙◌, add-one}
use Rattle.std.proofs.lemmas.List.{at_drop_more}
use Rattle.pb.specs.declared.term.Term.{Term}
use Rattle.pb.specs.Checks.{literal_named, weight_small, terms_fault}

pub fault_further_on : (n i : ℕ) (ts : List Term) (d : Term) → i < length ts
    → literal_named n (get_or ts i d).literal ≡ true → weight_small (get_or ts i d).weight ≡ true
    → terms_fault n (i + 1) (drop i ts) ≡ terms_fault n (i + 1 + 1) (drop (i + 1) ts)
fault_further_on n i ts d h l w = at_drop_more (terms_fault n (i + 1)) ts i d h ∙ rw (l, w, add-one (i + 1)) refl
