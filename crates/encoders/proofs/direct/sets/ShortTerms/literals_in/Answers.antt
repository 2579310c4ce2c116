-- Each turn moves at most one literal from what is left to what is chosen.
use Rattle.std.proofs.Common.{◌≡◌, ◌+◌, ◌/◌, ◌^◌, [], ◌∷◌, get_or, drop, pos, sym, ◌∙◌, append_assoc, arith, w16, w32}
use Rattle.std.proofs.Common.{SFits, to_z, of_z, rules}
use Rattle.std.proofs.lemmas.Int.{to_z-of_z}
use Rattle.pb.specs.declared.working.WorkingTerm.{WorkingTerm}
use Rattle.encode.specs.Direct.{literal_by, literals_in}
use Rattle.encoders.proofs.MaskPlaces.{literals_more}
use Rattle.encoders.proofs.direct.sets.ShortTerms.literals_in.Goals as goal
use Rattle.encoders.proofs.direct.sets.ShortTerms.literals_in.Goals.{then-is_in_set, else-is_in_set}

abbrev no_term : WorkingTerm
no_term = record { weight = 0; literal = pos 0 }

pub loop-place-preserved : goal.loop-place-preserved
loop-place-preserved c =
    let ts = c.args.self.terms.now in
    let flip = c.args.flip in
    let i = c.loop-place.place in
    let literal = (get_or ts i no_term).literal in
    let next = literals_more flip c.args.mask ts i no_term c.loop-place-test.true in
    let inv = c.loop-place.invariant in
    elim c.if-is_in_set.branch [
      | then-is_in_set w ↦
          let lit : SFits w16 literal = search rules in
          let res : SFits w32 w.literal_by.result = search rules in
          let z : to_z w32 (of_z w32 w.literal_by.result) ≡ literal_by flip literal =
          to_z-of_z w32 _ res ∙ simp to_z-of_z at w.literal_by.ensures
          in
          let more = rw (sym c.is_in_set.ensures ∙ w.if-is_in_set.true) at next in
          let rest = literals_in flip (drop (i + 1) ts) (c.args.mask / 2 ^ (i + 1)) in
          let after = append_assoc c.loop-place.literals.items (literal_by flip literal ∷ []) rest in
          rw w.literals-is (cc (w.push.ensures.items, z, more, inv.0, after), omega (arith, inv.1))
      | else-is_in_set w ↦
          let more = rw (sym c.is_in_set.ensures ∙ w.if-is_in_set.false) at next in
          rw w.literals-is (cc (more, inv.0), omega (arith, inv.1))
    ]
