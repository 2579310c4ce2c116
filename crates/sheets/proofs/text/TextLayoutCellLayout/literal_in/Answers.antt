-- The j-th word of a row is its j-th literal, where there is one.
use Rattle.std.proofs.Common.{◌≡◌, ℕ, zero, suc, ◌-◌, ◌<◌, ◌≤◌, true, ltb, List, [], ◌∷◌, length, get_or, ℤ, pos}
use Rattle.std.proofs.Common.{nat_abs, sym, ap, ◌∙◌, inl, inr, arith, rules}
use Rattle.std.proofs.lemmas.Option.{slice_get-get_or, slice_get_past}
use Rattle.std.proofs.lemmas.Bool.{cases_lt, and_parts, leb-true}
use Rattle.cnf.specs.Clauses.{literal_formed, literals_formed}
use Rattle.cnf.specs.declared.clause.TheConstants.{LAST_NUMBER}
use Rattle.cnf.specs.Marks.{place_after_mark}
use Rattle.cnf.specs.Text.{is_space}
use Rattle.cnf.proofs.Asking.{literal_next}
use Rattle.cnf.proofs.Marking.{after_next}
use Rattle.sheets.proofs.Words.{space_beyond, space_short, word_at}
use Rattle.sheets.proofs.text.TextLayoutCellLayout.literal_in.Goals as goal
use Rattle.sheets.proofs.text.TextLayoutCellLayout.literal_in.Goals.{After-after_mark-to}

formed_at : (ls : List ℤ) (k : ℕ) → literals_formed ls ≡ true → k < length ls
    → nat_abs (get_or ls k (pos 0)) ≤ LAST_NUMBER
formed_at [] k h l = absurd (omega arith)
formed_at (x ∷ ls) zero h l =
    leb-true _ _ (and_parts (ltb 0 (nat_abs x)) _ (and_parts (literal_formed x) (literals_formed ls) h).0).1
formed_at (x ∷ ls) (suc k) h l = formed_at ls k (and_parts (literal_formed x) (literals_formed ls) h).1 (omega arith)

-- the word's end, as that after the words before it
its_end : (c : After-after_mark-to)
    → c.after_mark-to.result ≡ place_after_mark is_space (suc c.in_ok-checked_sub.field-0) c.args.row.now
its_end c =
    let place = c.in_ok-checked_sub.ensures in
    c.after_mark-to.ensures
    ∙ ap (λ n. place_after_mark is_space n c.args.row.now)
    (let e : c.args.j ≡ suc c.in_ok-checked_sub.field-0 = omega (arith, place.0, place.1) in e)

pub returns-then-to-row : goal.returns-then-to-row
returns-then-to-row c d is formed =
    let k = c.in_ok-checked_sub.field-0 in
    let place = c.in_ok-checked_sub.ensures in
    let p = (and_parts _ (literals_formed d.literals) formed).1 in
    elim (cases_lt k (length d.literals)) [
      | inl inside ↦
          let ends = its_end (goal.at.returns-then-to-row c).After-after_mark-to in
          absurd (omega (arith, ends, space_short c.args.row.now d.literals is p (suc k) inside))
      | inr over ↦ sym (slice_get_past d.literals k over) ∙ literal_next d c.args.j k (omega (arith, place.0, place.1))
    ]

pub slice_bounds-number_in-count : goal.slice_bounds-number_in-count
slice_bounds-number_in-count c =
    let end = its_end (goal.at.slice_bounds-number_in-count c).After-after_mark-to in
    omega (
      arith,
      end,
      c.after_mark-from.ensures,
      after_next is_space c.in_ok-checked_sub.field-0 c.args.row.now (omega (arith, end)),
    )

pub slice_bounds-number_in-start : goal.slice_bounds-number_in-start
slice_bounds-number_in-start c =
    let h : c.after_mark-from.result ≤ c.after_mark-to.result - 1 = slice_bounds-number_in-count c in
    search rules

pub returns : goal.returns
returns c d is formed =
    let row = c.args.row.now in
    let k = c.in_ok-checked_sub.field-0 in
    let place = c.in_ok-checked_sub.ensures in
    let p = (and_parts _ (literals_formed d.literals) formed).1 in
    let end = its_end (goal.at.returns c).After-after_mark-to in
    elim (cases_lt k (length d.literals)) [
      | inl inside ↦
          c.number_in.ensures (get_or d.literals k (pos 0))
          (word_at row d.literals is p k _ _ inside c.after_mark-from.ensures end)
          (formed_at d.literals k p inside)
          ∙ sym (slice_get-get_or d.literals k (pos 0) inside)
          ∙ literal_next d c.args.j k (omega (arith, place.0, place.1))
      | inr over ↦ absurd (omega (arith, end, space_beyond row d.literals is p (suc k) (omega arith)))
    ]
