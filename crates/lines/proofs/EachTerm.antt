-- A loop that changes each term alone maps the terms.
use Rattle.std.proofs.Common.{◌≡◌, ℕ, ◌+◌, ◌<◌, List, ◌++◌, map, length, get_or, take, drop, set, pos}
use Rattle.std.proofs.lemmas.List.{get_or_default}
use Rattle.std.proofs.lemmas.List.Edits.{map_over_more}
use Rattle.pb.specs.declared.working.WorkingTerm.{WorkingTerm}

-- what stands for a term where a list has no more
abbrev pub no_term : WorkingTerm
no_term = record { weight = 0; literal = pos 0 }

pub each_more : (f : WorkingTerm → WorkingTerm) (xs ys : List WorkingTerm) (i : ℕ) → i < length xs → i < length ys
    → ys ≡ map f (take i xs) ++ drop i xs
    → set ys i (f (get_or ys i no_term)) ≡ map f (take (i + 1) xs) ++ drop (i + 1) xs
each_more f xs ys i h here e =
    let one = get_or_default ys i no_term (get_or ys i no_term) here in
    map_over_more f xs ys i (get_or ys i no_term) h e one
