-- Each step writes the literal that comes next in the row, and a space.
use Rattle.std.proofs.Common.{◌≡◌, ◌+◌, ◌≤◌, [], ◌∷◌, ◌++◌, length, get_or, drop, pos, sym, ap, ◌∙◌, append_assoc}
use Rattle.std.proofs.Common.{arith}
use Rattle.std.proofs.Common.{length-append, w32, SFits, rules}
use Rattle.std.specs.Fmt.{signed_decimal}
use Rattle.std.proofs.lemmas.List.{at_drop_more}
use Rattle.std.proofs.lemmas.Int.{to_z-of_z}
use Rattle.cnf.specs.Tables.{overwritten}
use Rattle.cnf.specs.Text.{row_of}
use Rattle.cnf.proofs.Overwriting.{overwritten_next}
use Rattle.sheets.proofs.text.TextLayoutCellLayout.put.Goals as goal

pub loop-literal-preserved : goal.loop-literal-preserved
loop-literal-preserved c =
    let s = c.literals-literals.result.now in
    let i = c.loop-literal.literal-index in
    let l = get_or s i (pos 0) in
    let same = ap (λ xs. length (row_of xs)) c.literals-literals.ensures in
    let room : c.args.at + length (row_of s) ≤ length c.args.bytes.now = omega (arith, same, c.requires) in
    let rest = row_of (drop (i + 1) s) in
    let word = signed_decimal l ++ 32 ∷ [] in
    let f : SFits w32 l = search rules in
    let back = to_z-of_z w32 l f in
    let to = c.loop-literal.to in
    let before = c.loop-literal.bytes in
    let written =
    c.put_literal-to.ensures.after ∙ ap (λ z. overwritten to (signed_decimal z ++ 32 ∷ []) before) back in
    let ends = c.put_literal-to.ensures.ends ∙ ap (λ z. to + length (signed_decimal z) + 1) back in
    let next : word ++ rest ≡ row_of (drop i s) =
    append_assoc (signed_decimal l) (32 ∷ []) rest ∙ sym (at_drop_more row_of s i (pos 0) c.loop-literal-test.true) in
    let size = ap length next in
    let more = length-append word rest in
    let sizes = length-append (signed_decimal l) (32 ∷ []) in (
      overwritten_next to word rest (row_of (drop i s)) before (omega arith) next written (omega arith)
          ∙ c.loop-literal.invariant.0,
      omega arith,
    )
