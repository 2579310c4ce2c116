-- A memory that shows clauses, of any layout to rely on: one clause more, the first clauses alone, and one clause's
-- part.
use Rattle.std.proofs.Common.{◌≡◌, ℕ, zero, suc, ◌+◌, ◌<◌, ◌≤◌, true, List, [], ◌∷◌, ◌++◌, length, get_or, take, sym}
use Rattle.std.proofs.Common.{refl, ap, ◌∙◌, arith, length-append, length-take}
use Rattle.std.proofs.lemmas.List.{length_push, length-take-le}
use Rattle.std.proofs.lemmas.Bool.{and_parts, and_from, le-leb, leb-true}
use Rattle.std.specs.List.{between, AllByRecursion}
use Rattle.cnf.specs.Calls.{Begins}
use Rattle.cnf.specs.Clauses.{Clause, well_formed, all_well_formed}
use Rattle.cnf.specs.Layouts.{Layout, Faithful, Shows, written, has_room}
use Rattle.cnf.specs.Marks.{IsPart, place_after_mark}
use Rattle.cnf.proofs.Marking.{after_joined, parts_long, joined_push, joined_front, joined_shorter, joined_between}

pub formed_append : (cs ds : List Clause) → all_well_formed cs ≡ true → all_well_formed ds ≡ true
    → all_well_formed (cs ++ ds) ≡ true
formed_append [] ds h k = k
formed_append (c ∷ cs) ds h k = let p = and_parts _ _ h in and_from _ _ p.0 (formed_append cs ds p.1 k)

pub formed_take : (n : ℕ) (cs : List Clause) → all_well_formed cs ≡ true → all_well_formed (take n cs) ≡ true
formed_take zero cs h = refl
formed_take (suc n) [] h = refl
formed_take (suc n) (c ∷ cs) h = let p = and_parts _ _ h in and_from _ _ p.0 (formed_take n cs p.1)

module _ {X : Type 0} (layout : Layout X) where
  -- every beginning of clauses that there is room for has room
  pub room_begins : (room : ℕ) → Begins (has_room layout room)
  room_begins room n cs h = le-leb _ _ (let a = leb-true _ _ h in omega (arith, joined_shorter layout.write n cs))

  -- what the used front of a memory is written of has room in the memory
  pub front_room : (all : List X) (used : ℕ) → written layout (layout.read (take used all)) ≡ take used all
      → has_room layout (length all) (layout.read (take used all)) ≡ true
  front_room all used shown = le-leb _ _ (omega (arith, ap length shown, length-take used all))

  module _ (faithful : Faithful layout) where
    parts : (cs : List Clause) → all_well_formed cs ≡ true
        → AllByRecursion (λ c. IsPart layout.mark (layout.write c)) cs
    parts [] h = tt
    parts (c ∷ cs) h = let p = and_parts _ _ h in (faithful.part c p.0, parts cs p.1)

    -- what is written of well-formed clauses shows them
    shows_written : (cs : List Clause) (count : ℕ) → all_well_formed cs ≡ true → length cs ≡ count
        → Shows layout (written layout cs) count
    shows_written cs count formed n =
        let back = faithful.back cs formed in
        record {
          formed = ap all_well_formed back ∙ formed;
          shown = ap (written layout) back;
          counted = ap length back ∙ n;
        }

    pub shows_none : Shows layout [] 0
    shows_none = shows_written [] 0 refl refl

    module _ {front : List X} {count : ℕ} (s : Shows layout front count) where
      pub shows_few : count ≤ length front
      shows_few =
          omega (
            arith,
            parts_long layout.mark layout.write (layout.read front) (parts _ s.formed),
            s.counted,
            ap length s.shown,
          )

      -- one clause more
      more_written : (c : Clause) → written layout (layout.read front ++ c ∷ []) ≡ front ++ layout.write c
      more_written c = joined_push layout.write (layout.read front) c ∙ ap (λ xs. xs ++ layout.write c) s.shown

      more_formed : (c : Clause) → well_formed c ≡ true → all_well_formed (layout.read front ++ c ∷ []) ≡ true
      more_formed c h = formed_append (layout.read front) (c ∷ []) s.formed (and_from _ _ h refl)

      pub read_more : (c : Clause) → well_formed c ≡ true
          → layout.read (front ++ layout.write c) ≡ layout.read front ++ c ∷ []
      read_more c h = ap layout.read (sym (more_written c))
          ∙ faithful.back (layout.read front ++ c ∷ []) (more_formed c h)

      pub shows_more : (c : Clause) (n : ℕ) → well_formed c ≡ true → n ≡ count + 1
          → Shows layout (front ++ layout.write c) n
      shows_more c n h e =
          let k : length (layout.read front ++ c ∷ []) ≡ n =
          omega (arith, length_push (layout.read front) c, s.counted) in
          rw (← more_written c) (shows_written (layout.read front ++ c ∷ []) n (more_formed c h) k)

      -- there is room for it exactly when its part fits
      more_size : (c : Clause)
          → length (written layout (layout.read front ++ c ∷ [])) ≡ length front + length (layout.write c)
      more_size c = ap length (more_written c) ∙ length-append front (layout.write c)

      pub room_more : (room : ℕ) (c : Clause) → length front + length (layout.write c) ≤ room
          → has_room layout room (layout.read front ++ c ∷ []) ≡ true
      room_more room c h = le-leb _ _ (omega (arith, more_size c))

      -- the first clauses alone end after so many marks
      abbrev first_length : ℕ → ℕ
      first_length k = length (written layout (take k (layout.read front)))

      pub after_first : (k : ℕ) → place_after_mark layout.mark k front ≡ first_length k
      after_first k =
          ap (place_after_mark layout.mark k) (sym s.shown)
          ∙ after_joined layout.mark layout.write k (layout.read front) (parts _ s.formed)

      pub first_written : (k : ℕ)
          → take (place_after_mark layout.mark k front) front ≡ written layout (take k (layout.read front))
      first_written k =
          ap (λ n. take n front) (after_first k)
          ∙ ap (take (first_length k)) (sym s.shown)
          ∙ joined_front layout.write k (layout.read front)

      pub read_first : (k : ℕ)
          → layout.read (take (place_after_mark layout.mark k front) front) ≡ take k (layout.read front)
      read_first k = ap layout.read (first_written k) ∙ faithful.back _ (formed_take k _ s.formed)

      pub shows_first : (k : ℕ) → k ≤ count → Shows layout (take (place_after_mark layout.mark k front) front) k
      shows_first k h =
          rw (first_written k)
          (shows_written (take k (layout.read front)) k (formed_take k _ s.formed)
          (length-take-le k _ (omega (arith, s.counted))))

      -- the part of one clause
      pub part_of : (k : ℕ) (d : Clause) → k < count
          → between (place_after_mark layout.mark k front) (place_after_mark layout.mark (k + 1) front) front
          ≡ layout.write (get_or (layout.read front) k d)
      part_of k d h =
          ap (λ n. between n (place_after_mark layout.mark (k + 1) front) front) (after_first k)
          ∙ ap (λ n. between (first_length k) n front) (after_first (k + 1))
          ∙ ap (between (first_length k) (first_length (k + 1))) (sym s.shown)
          ∙ joined_between layout.write k (layout.read front) d (omega (arith, s.counted))
