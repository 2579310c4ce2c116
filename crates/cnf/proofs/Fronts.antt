-- A memory whose used front shows clauses, of any layout to rely on: after a clause was written behind the front,
-- after the front was cut, and where one clause's part lies.
use Rattle.std.proofs.Common.{◌≡◌, ℕ, ◌+◌, ◌<◌, ◌≤◌, true, List, [], ◌∷◌, ◌++◌, length, get_or, take, drop, sym, refl}
use Rattle.std.proofs.Common.{ap, ◌∙◌, subst, arith}
use Rattle.std.proofs.lemmas.List.{length-take-le, take-take}
use Rattle.std.proofs.lemmas.Slice.{between_is}
use Rattle.std.specs.List.{between}
use Rattle.cnf.specs.Clauses.{Clause, well_formed}
use Rattle.cnf.specs.Layouts.{Layout, Faithful, Shows, Front, has_room}
use Rattle.cnf.specs.Marks.{place_after_mark}
use Rattle.cnf.specs.Tables.{overwritten}
use Rattle.cnf.proofs.Showing.{shows_few, read_more, shows_more, room_more, read_first, shows_first, part_of}
use Rattle.cnf.proofs.Marking.{after_within, after_more}
use Rattle.cnf.proofs.Overwriting.{overwritten_front, overwritten_length}

module _ {X : Type 0} (layout : Layout X) (faithful : Faithful layout) {all : List X} {used count : ℕ}
    (f : Front layout all used count) where
  front_size : length (take used all) ≡ used
  front_size = length-take-le used all f.inside

  pub few : count ≤ length all
  few = omega (arith, shows_few layout faithful f.shows, front_size)

  -- whether there is room for one clause more
  pub has_more : (c : Clause) → used + length (layout.write c) ≤ length all
      → has_room layout (length all) (layout.read (take used all) ++ c ∷ []) ≡ true
  has_more c h = room_more layout faithful f.shows (length all) c (omega (arith, front_size))

  -- a clause was written behind the front
  module _ (c : Clause) {after : List X} (end : ℕ) (formed : well_formed c ≡ true)
      (room : used + length (layout.write c) ≤ length all) (put : after ≡ overwritten used (layout.write c) all)
      (ends : end ≡ used + length (layout.write c)) where
    put_front : take end after ≡ take used all ++ layout.write c
    put_front = ap (take end) put ∙ overwritten_front used (layout.write c) all room end ends

    pub put_shows : Shows layout (take end after) (count + 1)
    put_shows =
        subst (λ xs. Shows layout xs (count + 1)) (sym put_front)
        (shows_more layout faithful f.shows c (count + 1) formed refl)

    pub put_reads : layout.read (take end after) ≡ layout.read (take used all) ++ c ∷ []
    put_reads = ap layout.read put_front ∙ read_more layout faithful f.shows c formed

    pub put_keeps : Front layout after end (count + 1)
    put_keeps =
        record {
          inside = omega (arith, ap length put, overwritten_length used (layout.write c) all room);
          shows = put_shows;
        }

  -- the front was cut after so many marks
  module _ (keep end : ℕ) (ends : end ≡ place_after_mark layout.mark keep (take used all)) where
    pub cut_within : end ≤ used
    cut_within = omega (arith, after_within layout.mark keep (take used all), front_size)

    cut_front : take end all ≡ take (place_after_mark layout.mark keep (take used all)) (take used all)
    cut_front = sym (take-take end used all cut_within) ∙ ap (λ n. take n (take used all)) ends

    pub cut_shows : keep ≤ count → Shows layout (take end all) keep
    cut_shows h = subst (λ xs. Shows layout xs keep) (sym cut_front) (shows_first layout faithful f.shows keep h)

    pub cut_reads : layout.read (take end all) ≡ take keep (layout.read (take used all))
    cut_reads = ap layout.read cut_front ∙ read_first layout faithful f.shows keep

    pub cut_keeps : keep ≤ count → Front layout all end keep
    cut_keeps h = record { inside = omega (arith, cut_within, f.inside); shows = cut_shows h }

  -- the part of one clause, between two marks
  module _ (k from to : ℕ) (d : Clause) (there : k < count)
      (starts : from ≡ place_after_mark layout.mark k (take used all))
      (ends : to ≡ place_after_mark layout.mark (k + 1) (take used all)) where
    pub part_is : between from to all ≡ layout.write (get_or (layout.read (take used all)) k d)
    part_is =
        between_is all from to ∙ ap (drop from) (sym (take-take to used all (cut_within (k + 1) to ends)))
        ∙ sym (between_is (take used all) from to)
        ∙ ap (λ n. between n to (take used all)) starts
        ∙ ap (λ n. between (place_after_mark layout.mark k (take used all)) n (take used all)) ends
        ∙ part_of layout faithful f.shows k d there

    pub part_inside : (from ≤ to) × (to ≤ length all)
    part_inside = (
      omega (arith, starts, ends, after_more layout.mark k (take used all)),
      omega (arith, cut_within (k + 1) to ends, f.inside),
    )
