-- Where the parts of a list end: after one element more; and of parts joined one after another the k-th ends where the
-- first k do.
use Rattle.std.proofs.Common.{◌≡◌, ℕ, zero, suc, ◌+◌, ◌-◌, ◌<◌, ◌≤◌, Bool, true, false, cond, List, [], ◌∷◌, ◌++◌}
use Rattle.std.proofs.Common.{length, get_or, take, drop, sym, refl, ap, ◌∙◌, append_assoc, append-nil, add-one, inl}
use Rattle.std.proofs.Common.{inr, arith, length-append}
use Rattle.std.proofs.lemmas.List.{at_drop_more, take-append-drop, take_at, take_all, drop_at, take_more, drop_more}
use Rattle.std.proofs.lemmas.Bool.{cases_lt}
use Rattle.std.specs.List.{between, flat_map, AllByRecursion}
use Rattle.cnf.specs.Marks.{marks, place_after_mark, IsPart}

module _ {X : Type 0} (mark : X → Bool) where
  -- one element on, which is a mark or not
  pub after_step : (xs : List X) (i k left : ℕ) (x : X) (b : Bool) → i < length xs → 0 < k → x ≡ get_or xs i x
      → b ≡ mark x → left ≡ cond b (k - 1) k
      → place_after_mark mark k (drop i xs) ≡ 1 + place_after_mark mark left (drop (i + 1) xs)
  after_step xs i zero left x b h p e q r = absurd (omega arith)
  after_step xs i (suc k) left x b h p e q r =
      let less : suc k - 1 ≡ k = omega arith in
      at_drop_more (place_after_mark mark (suc k)) xs i x h
      ∙ ap (λ y. suc (place_after_mark mark (cond (mark y) k (suc k)) (drop (i + 1) xs))) (sym e)
      ∙ ap (λ c. suc (place_after_mark mark (cond c k (suc k)) (drop (i + 1) xs))) (sym q)
      ∙ ap (λ j. suc (place_after_mark mark (cond b j (suc k)) (drop (i + 1) xs))) (sym less)
      ∙ ap (λ j. suc (place_after_mark mark j (drop (i + 1) xs))) (sym r) ∙ omega arith

  pub after_within : (k : ℕ) (xs : List X) → place_after_mark mark k xs ≤ length xs
  after_within zero xs = omega arith
  after_within (suc k) [] = omega arith
  after_within (suc k) (x ∷ xs) = omega (arith, after_within (cond (mark x) k (suc k)) xs)

  -- where the next part ends too, it ends later
  pub after_next : (k : ℕ) (xs : List X) → place_after_mark mark (suc k) xs < length xs
      → place_after_mark mark k xs < place_after_mark mark (suc k) xs
  after_next k [] h = absurd (omega arith)
  after_next zero (x ∷ xs) h = omega arith
  after_next (suc k) (x ∷ xs) h =
      elim (mark x) as
      (λ b. suc (place_after_mark mark (cond b (suc k) (suc (suc k))) xs) < suc (length xs)
      → suc (place_after_mark mark (cond b k (suc k)) xs)
      < suc (place_after_mark mark (cond b (suc k) (suc (suc k))) xs)) [
        | true ↦ λ l. omega (arith, after_next k xs (omega arith))
        | false ↦ λ l. omega (arith, after_next (suc k) xs (omega arith))
      ] h

  pub after_more : (k : ℕ) (xs : List X) → place_after_mark mark k xs ≤ place_after_mark mark (k + 1) xs
  after_more k xs =
      rw add-one (
      elim (cases_lt (place_after_mark mark (suc k) xs) (length xs)) [
        | inl inside ↦ omega (arith, after_next k xs inside)
        | inr beyond ↦ omega (arith, after_within k xs)
      ]
      )

  -- another test that finds the same marks finds the same places
  pub after_same : (other : X → Bool) → ((x : X) → mark x ≡ other x) → (k : ℕ) (xs : List X)
      → place_after_mark mark k xs ≡ place_after_mark other k xs
  after_same other same zero xs = refl
  after_same other same (suc k) [] = refl
  after_same other same (suc k) (x ∷ xs) =
      ap (λ b. suc (place_after_mark mark (cond b k (suc k)) xs)) (same x)
      ∙ ap suc (after_same other same (cond (other x) k (suc k)) xs)

  pub marks_append : (xs ys : List X) → marks mark (xs ++ ys) ≡ marks mark xs + marks mark ys
  marks_append [] ys = omega arith
  marks_append (x ∷ xs) ys = omega (arith, marks_append xs ys)

  marks_within : (xs : List X) → marks mark xs ≤ length xs
  marks_within [] = omega arith
  marks_within (x ∷ xs) =
      elim (mark x) as (λ b. cond b 1 0 + marks mark xs ≤ suc (length xs)) [
        | true ↦ omega (arith, marks_within xs)
        | false ↦ omega (arith, marks_within xs)
      ]

  -- there are no more parts than elements
  pub parts_long : {Y : Type 0} (f : Y → List X) (ys : List Y) → AllByRecursion (λ y. IsPart mark (f y)) ys
      → length ys ≤ length (flat_map f ys)
  parts_long f [] h = omega arith
  parts_long f (y ∷ ys) h =
      omega (arith, parts_long f ys h.1, marks_within (f y), h.0.one, length-append (f y) (flat_map f ys))

  -- past a front without marks nothing changes but the place
  pub after_past : (k : ℕ) (xs ys : List X) → marks mark xs ≡ 0
      → place_after_mark mark (suc k) (xs ++ ys) ≡ length xs + place_after_mark mark (suc k) ys
  after_past k [] ys h = omega arith
  after_past k (x ∷ xs) ys h =
      elim (mark x) as
      (λ b. cond b 1 0 + marks mark xs ≡ 0
      → suc (place_after_mark mark (cond b k (suc k)) (xs ++ ys))
      ≡ suc (length xs) + place_after_mark mark (suc k) ys) [
        | true ↦ λ e. absurd (omega arith)
        | false ↦ λ e. omega (arith, after_past k xs ys (omega arith))
      ] h

  -- a part stays one behind a front without marks; a mark alone is one
  pub part_behind : (xs ys : List X) → marks mark xs ≡ 0 → IsPart mark ys → IsPart mark (xs ++ ys)
  part_behind xs ys none p =
      record {
        one = omega (arith, marks_append xs ys, p.one);
        last = omega (arith, after_past 0 xs ys none, p.last, length-append xs ys);
      }

  pub part_from : (xs : List X) (x : X) → marks mark xs ≡ 0 → mark x ≡ true → IsPart mark (xs ++ x ∷ [])
  part_from xs x none e =
      let c : ◌≡◌ {A = ℕ} (cond (mark x) 1 0) 1 = rw e refl in
      let n = ap (λ b. place_after_mark mark (cond b 0 1) []) e in
      part_behind xs (x ∷ []) none (record { one = omega (arith, c); last = omega (arith, n) })

  -- past a part, one mark fewer is left
  after_part : (k : ℕ) (xs ys : List X) → marks mark xs ≡ 1 → place_after_mark mark 1 xs ≡ length xs
      → place_after_mark mark (suc k) (xs ++ ys) ≡ length xs + place_after_mark mark k ys
  after_part k [] ys one last = absurd (omega arith)
  after_part k (x ∷ xs) ys one last =
      elim (mark x) as
      (λ b. cond b 1 0 + marks mark xs ≡ 1 → suc (place_after_mark mark (cond b 0 1) xs) ≡ suc (length xs)
      → suc (place_after_mark mark (cond b k (suc k)) (xs ++ ys)) ≡ suc (length xs) + place_after_mark mark k ys) [
        | true ↦ λ e f. only xs (omega arith)
        | false ↦ λ e f. omega (arith, after_part k xs ys (omega arith) (omega arith))
      ] one last
    where
      only : (zs : List X) → length zs ≡ 0
          → suc (place_after_mark mark k (zs ++ ys)) ≡ suc (length zs) + place_after_mark mark k ys
      only [] h = omega arith
      only (z ∷ zs) h = absurd (omega arith)

  -- parts joined one after another, and a rest: the k-th part ends where the first k do, and then come those of the
  -- rest
  pub after_parts : {Y : Type 0} (f : Y → List X) (k : ℕ) (ys : List Y) (rest : List X)
      → AllByRecursion (λ y. IsPart mark (f y)) ys
      → place_after_mark mark k (flat_map f ys ++ rest)
      ≡ length (flat_map f (take k ys)) + place_after_mark mark (k - length ys) rest
  after_parts f k [] rest h =
      ap (λ n. place_after_mark mark n rest) (let e : k ≡ k - 0 = omega arith in e)
      ∙ omega (arith, ap (λ ys. length (flat_map f ys)) (take_all k [] (omega arith)))
  after_parts f zero (y ∷ ys) rest h =
      ap (λ n. place_after_mark mark n rest) (let e : 0 ≡ 0 - suc (length ys) = omega arith in e) ∙ omega arith
  after_parts f (suc k) (y ∷ ys) rest h =
      ap (place_after_mark mark (suc k)) (append_assoc (f y) (flat_map f ys) rest)
      ∙ after_part k (f y) (flat_map f ys ++ rest) h.0.one h.0.last
      ∙ omega (
        arith,
        after_parts f k ys rest h.1,
        length-append (f y) (flat_map f (take k ys)),
        ap (λ n. place_after_mark mark n rest) (let e : suc k - suc (length ys) ≡ k - length ys = omega arith in e),
      )

  pub after_joined : {Y : Type 0} (f : Y → List X) (k : ℕ) (ys : List Y) → AllByRecursion (λ y. IsPart mark (f y)) ys
      → place_after_mark mark k (flat_map f ys) ≡ length (flat_map f (take k ys))
  after_joined f k ys h =
      ap (place_after_mark mark k) (sym (append-nil (flat_map f ys))) ∙ after_parts f k ys [] h
      ∙ omega (arith, after_within (k - length ys) [])

-- lists joined one after another, and the first of them
module _ {X Y : Type 0} (f : Y → List X) where
  pub joined_append : (ys zs : List Y) → flat_map f (ys ++ zs) ≡ flat_map f ys ++ flat_map f zs
  joined_append [] zs = refl
  joined_append (y ∷ ys) zs =
      ap (λ xs. f y ++ xs) (joined_append ys zs) ∙ sym (append_assoc (f y) (flat_map f ys) (flat_map f zs))

  pub joined_push : (ys : List Y) (y : Y) → flat_map f (ys ++ y ∷ []) ≡ flat_map f ys ++ f y
  joined_push ys y = joined_append ys (y ∷ []) ∙ ap (λ xs. flat_map f ys ++ xs) (append-nil (f y))

  pub joined_split : (k : ℕ) (ys : List Y) → flat_map f ys ≡ flat_map f (take k ys) ++ flat_map f (drop k ys)
  joined_split k ys = ap (flat_map f) (sym (take-append-drop k ys)) ∙ joined_append (take k ys) (drop k ys)

  pub joined_front : (k : ℕ) (ys : List Y)
      → take (length (flat_map f (take k ys))) (flat_map f ys) ≡ flat_map f (take k ys)
  joined_front k ys =
      ap (take (length (flat_map f (take k ys)))) (joined_split k ys)
      ∙ take_at (flat_map f (take k ys)) (flat_map f (drop k ys)) _ refl

  pub joined_shorter : (k : ℕ) (ys : List Y) → length (flat_map f (take k ys)) ≤ length (flat_map f ys)
  joined_shorter k ys =
      omega (arith, ap length (joined_split k ys), length-append (flat_map f (take k ys)) (flat_map f (drop k ys)))

  -- the k-th of them, between where those before it end and where it ends
  pub joined_between : (k : ℕ) (ys : List Y) (y : Y) → k < length ys
      → between (length (flat_map f (take k ys))) (length (flat_map f (take (k + 1) ys))) (flat_map f ys)
      ≡ f (get_or ys k y)
  joined_between k ys y h =
      let front = flat_map f (take k ys) in
      let item = f (get_or ys k y) in
      let more : flat_map f (take (k + 1) ys) ≡ front ++ item =
      ap (flat_map f) (take_more ys k y h) ∙ joined_push (take k ys) (get_or ys k y) in
      let size : length (flat_map f (take (k + 1) ys)) - length front ≡ length item =
      omega (arith, ap length more, length-append front item) in
      let rest : drop (length front) (flat_map f ys) ≡ item ++ flat_map f (drop (k + 1) ys) =
      ap (drop (length front)) (joined_split k ys) ∙ drop_at front (flat_map f (drop k ys)) _ refl
      ∙ ap (flat_map f) (drop_more ys k y h) in
      ap (take (length (flat_map f (take (k + 1) ys)) - length front)) rest
      ∙ take_at item (flat_map f (drop (k + 1) ys)) _ (sym size)
