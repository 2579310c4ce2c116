-- A turn of the loop that moves the terms of other variables to the front.
use Rattle.std.proofs.Common.{◌≡◌, ℕ, ◌+◌, ◌-◌, ◌<◌, ◌≤◌, cond, eqb, List, [], ◌∷◌, ◌++◌, length, get_or, take, drop}
use Rattle.std.proofs.Common.{set, ℤ, nat_abs, sym, ap, ◌∙◌, arith}
use Rattle.std.proofs.lemmas.List.{append_assoc, at_drop_more, drop-drop, drop-set-lt, get_or-drop, take_more_set}
use Rattle.std.proofs.lemmas.Bool.{eq-eqb, ne_eqb}
use Rattle.pb.specs.declared.working.WorkingTerm.{WorkingTerm}
use Rattle.pb.specs.Settled.{others}
use Rattle.lines.proofs.EachTerm.{no_term}

-- of the table xs, which is ys now, the terms before place i that are to be kept stand in the first n places, and from
-- there on nothing moved
pub record KeptSoFar (l : ℤ) (xs ys : List WorkingTerm) (n i : ℕ) : Type 0 where
  pub behind : n ≤ i
  pub front : take n ys ++ others l (drop i xs) ≡ others l xs
  pub rest : drop n ys ≡ drop n xs

-- so the term at place i is the one that stood there
unmoved_at : (xs ys : List WorkingTerm) (n i : ℕ) → n ≤ i → drop n ys ≡ drop n xs
    → get_or ys i no_term ≡ get_or xs i no_term
unmoved_at xs ys n i h e =
    let place : n + (i - n) ≡ i = omega arith in
    ap (λ k. get_or ys k no_term) (sym place)
    ∙ sym (get_or-drop n ys (i - n) no_term)
    ∙ ap (λ zs. get_or zs (i - n) no_term) e
    ∙ get_or-drop n xs (i - n) no_term
    ∙ ap (λ k. get_or xs k no_term) place

-- the terms to be kept from a place on
others_from : (l : ℤ) (xs : List WorkingTerm) (i : ℕ) → i < length xs
    → others l (drop i xs)
    ≡ cond (eqb (nat_abs (get_or xs i no_term).literal) (nat_abs l)) [] (get_or xs i no_term ∷ [])
    ++ others l (drop (i + 1) xs)
others_from l xs i h = at_drop_more (others l) xs i no_term h

pub kept_without : (l : ℤ) (xs ys : List WorkingTerm) (n i : ℕ) → KeptSoFar l xs ys n i → i < length xs
    → nat_abs (get_or ys i no_term).literal ≡ nat_abs l → KeptSoFar l xs ys n (i + 1)
kept_without l xs ys n i k h e =
    let t = get_or xs i no_term in
    let same = unmoved_at xs ys n i k.behind k.rest in
    let test = eq-eqb _ _ (ap (λ (u : WorkingTerm). nat_abs u.literal) (sym same) ∙ e) in
    let left = others_from l xs i h ∙ ap (λ b. cond b [] (t ∷ []) ++ others l (drop (i + 1) xs)) test in
    record {
      behind = omega (arith, k.behind);
      front = ap (λ us. take n ys ++ us) (sym left) ∙ k.front;
      rest = k.rest;
    }

pub kept_with : (l : ℤ) (xs ys : List WorkingTerm) (n i : ℕ) → KeptSoFar l xs ys n i → i < length xs
    → length ys ≡ length xs → (nat_abs (get_or ys i no_term).literal ≡ nat_abs l → ⊥)
    → KeptSoFar l xs (set ys n (get_or ys i no_term)) (n + 1) (i + 1)
kept_with l xs ys n i k h s d =
    let t = get_or xs i no_term in
    let u = get_or ys i no_term in
    let later = others l (drop (i + 1) xs) in
    let b = k.behind in
    let same = unmoved_at xs ys n i b k.rest in
    let within : n < length ys = omega arith in
    let test = ne_eqb _ _ (λ e. d (ap (λ (u : WorkingTerm). nat_abs u.literal) same ∙ e)) in
    let left = others_from l xs i h
    ∙ ap (λ b. cond b [] (t ∷ []) ++ later) test
    ∙ ap (λ v. v ∷ later) (sym same) in
    let moved = ap (λ us. us ++ later) (take_more_set ys n u within) ∙ append_assoc (take n ys) (u ∷ []) later in
    record {
      behind = omega arith;
      front = moved ∙ ap (λ us. take n ys ++ us) (sym left) ∙ k.front;
      rest =
          drop-set-lt (n + 1) ys n u (omega arith)
          ∙ sym (drop-drop 1 n ys)
          ∙ ap (drop 1) k.rest
          ∙ drop-drop 1 n xs;
    }
