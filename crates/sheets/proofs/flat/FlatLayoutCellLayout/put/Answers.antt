-- The clause is copied, and 0 stands after it.
use Rattle.std.proofs.Common.{◌≡◌, slice_set, ◌+◌, ◌-◌, ◌<◌, [], ◌∷◌, ◌++◌, length, length-append, pos}
use Rattle.std.proofs.Common.{refl, ap, ◌∙◌, arith}
use borrow.Rule.Slice.PartMut.{put_mid}
use Rattle.cnf.proofs.Overwriting.{overwritten_length, overwritten_next, overwritten_one, overwritten_part}
use Rattle.sheets.proofs.flat.FlatLayoutCellLayout.put.Goals as goal

pub returns : goal.returns
returns c =
    let clause = c.args.clause.literals.now in
    let before = c.args.cells.now in
    let at = c.args.at in
    let room : at + length clause < length before = omega (arith, c.requires, length-append clause (pos 0 ∷ [])) in
    let read : c.literals-literals.result.now ≡ clause = c.literals-literals.ensures in
    let size = at + length c.literals-literals.result.now - at in
    let copy = c.copy_from_slice.ensures.after ∙ read in
    let copied = overwritten_part at size clause _ before copy (omega (arith, ap length read)) in
    ap (λ n. slice_set (put_mid at size before c.copy_from_slice.new.self) n (pos 0)) (ap (λ xs. at + length xs) read)
    ∙ overwritten_one (at + length clause) (pos 0) _
    (omega (arith, ap length copied, overwritten_length at clause before (omega arith)))
    ∙ overwritten_next at clause (pos 0 ∷ []) (clause ++ pos 0 ∷ []) before (omega arith) refl copied refl
