-- A row in words: each literal with the space behind it, and then 0 and a line feed, where no space stands.
use Rattle.std.proofs.Common.{◌≡◌, ℕ, zero, suc, ◌+◌, ◌-◌, ◌<◌, ◌≤◌, true, ltb, List, [], ◌∷◌, ◌++◌, length, get_or}
use Rattle.std.proofs.Common.{take, drop, ℤ, pos, nat_abs, sym, refl, ap, ◌∙◌, append_assoc, arith, length-append}
use Rattle.std.specs.List.{between, flat_map, AllByRecursion}
use Rattle.std.specs.Fmt.{signed_decimal}
use Rattle.std.proofs.lemmas.List.{take_all, take_at, take-take, take-append-le, take_more}
use Rattle.std.proofs.lemmas.Slice.{between_is}
use Rattle.std.proofs.lemmas.Bool.{and_parts, leb-true}
use Rattle.cnf.specs.Clauses.{literal_formed, literals_formed}
use Rattle.cnf.specs.declared.clause.TheConstants.{LAST_NUMBER}
use Rattle.cnf.specs.Marks.{place_after_mark, IsPart}
use Rattle.cnf.specs.Text.{row_of, is_space}
use Rattle.cnf.proofs.TextBack.{number_without}
use Rattle.cnf.proofs.Marking.{part_from, after_parts, joined_push, joined_shorter, joined_between}

abbrev pub word : ℤ → List ℕ
word l = signed_decimal l ++ 32 ∷ []

abbrev pub row_end : List ℕ
row_end = 48 ∷ 10 ∷ []

row_words : (ls : List ℤ) → row_of ls ≡ flat_map word ls ++ row_end
row_words [] = refl
row_words (l ∷ ls) =
    ap (λ xs. signed_decimal l ++ (32 ∷ xs)) (row_words ls)
    ∙ sym (append_assoc (signed_decimal l) (32 ∷ []) (flat_map word ls ++ row_end))
    ∙ sym (append_assoc (word l) (flat_map word ls) row_end)

words_parts : (ls : List ℤ) → literals_formed ls ≡ true → AllByRecursion (λ l. IsPart is_space (word l)) ls
words_parts [] h = tt
words_parts (l ∷ ls) h =
    let p = and_parts (literal_formed l) (literals_formed ls) h in
    let k : nat_abs l ≤ LAST_NUMBER = leb-true _ _ (and_parts (ltb 0 (nat_abs l)) _ p.0).1 in (
      part_from is_space (signed_decimal l) 32 (number_without 32 l (omega arith) (omega arith)) refl,
      words_parts ls p.1,
    )

module _ (row : List ℕ) (ls : List ℤ) (is : row ≡ row_of ls) (formed : literals_formed ls ≡ true) where
  in_words : row ≡ flat_map word ls ++ row_end
  in_words = is ∙ row_words ls

  size_of_row : length row ≡ length (flat_map word ls) + 2
  size_of_row = ap length in_words ∙ length-append (flat_map word ls) row_end

  space_at : (k : ℕ)
      → place_after_mark is_space k row
      ≡ length (flat_map word (take k ls)) + place_after_mark is_space (k - length ls) row_end
  space_at k =
      ap (place_after_mark is_space k) in_words ∙ after_parts is_space word k ls row_end (words_parts ls formed)

  -- the k-th word ends within the row exactly where there is a k-th literal
  pub space_within : (k : ℕ) → k ≤ length ls → place_after_mark is_space k row ≡ length (flat_map word (take k ls))
  space_within k h =
      space_at k
      ∙ omega (arith, ap (λ n. place_after_mark is_space n row_end) (let e : k - length ls ≡ 0 = omega arith in e))

  past_end : (m : ℕ) → 0 < m → place_after_mark is_space m row_end ≡ 2
  past_end zero h = absurd (omega arith)
  past_end (suc m) h = refl

  pub space_beyond : (k : ℕ) → length ls < k → place_after_mark is_space k row ≡ length row
  space_beyond k h =
      space_at k
      ∙ omega (
        arith,
        past_end (k - length ls) (omega arith),
        size_of_row,
        ap (λ xs. length (flat_map word xs)) (take_all k ls (omega arith)),
      )

  pub space_short : (k : ℕ) → k ≤ length ls → place_after_mark is_space k row < length row
  space_short k h = omega (arith, space_within k h, size_of_row, joined_shorter word k ls)

  -- the k-th literal's bytes, without the space behind them
  pub word_at : (k from to : ℕ) → k < length ls → from ≡ place_after_mark is_space k row
      → to ≡ place_after_mark is_space (suc k) row → between from (to - 1) row ≡ signed_decimal (get_or ls k (pos 0))
  word_at k from to h a b =
      let l = get_or ls k (pos 0) in
      let text = flat_map word ls in
      let start : from ≡ length (flat_map word (take k ls)) = a ∙ space_within k (omega arith) in
      let end : to ≡ length (flat_map word (take (k + 1) ls)) =
      b ∙ ap (λ n. place_after_mark is_space n row) (let e : suc k ≡ k + 1 = omega arith in e)
      ∙ space_within (k + 1) (omega arith) in
      let more : flat_map word (take (k + 1) ls) ≡ flat_map word (take k ls) ++ word l =
      ap (flat_map word) (take_more ls k (pos 0) h) ∙ joined_push word (take k ls) l in
      let size : to ≡ from + (length (signed_decimal l) + 1) =
      omega (
        arith,
        start,
        end,
        ap length more,
        length-append (flat_map word (take k ls)) (word l),
        length-append (signed_decimal l) (32 ∷ []),
      ) in
      let inside : to ≤ length text = omega (arith, end, joined_shorter word (k + 1) ls) in
      let whole : take (to - from) (drop from row) ≡ word l =
      ap (λ xs. take (to - from) (drop from xs)) in_words ∙ between_is (text ++ row_end) from to
      ∙ ap (drop from) (take-append-le to text row_end inside) ∙ sym (between_is text from to)
      ∙ ap (λ n. between n to text) start ∙ ap (λ n. between (length (flat_map word (take k ls))) n text) end
      ∙ joined_between word k ls (pos 0) h in
      let less : to - 1 - from ≡ length (signed_decimal l) = omega arith in
      let all : to - from ≡ length (signed_decimal l) + 1 = omega arith in
      shorter l (drop from row) (to - from) (to - 1 - from) whole less all
    where
      shorter : (l : ℤ) (xs : List ℕ) (m n : ℕ) → take m xs ≡ word l → n ≡ length (signed_decimal l)
          → m ≡ length (signed_decimal l) + 1 → take n xs ≡ signed_decimal l
      shorter l xs m n e f g =
          sym (take-take n m xs (omega arith)) ∙ ap (take n) e ∙ take_at (signed_decimal l) (32 ∷ []) n (sym f)
