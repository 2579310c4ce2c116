-- Each turn keeps its term, or does not.
use Rattle.std.proofs.Common.{◌≡◌, get_or, nat_abs, sym, ◌∙◌, w16, w32, SFits, to_z, of_z, rules}
use Rattle.std.proofs.lemmas.Int.{to_z-of_z}
use Rattle.lines.proofs.EachTerm.{no_term}
use Rattle.lines.proofs.KeptTerms.{kept_without, kept_with}
use Rattle.lines.proofs.reducing.keep_others.Goals as goal
use Rattle.lines.proofs.reducing.keep_others.Goals.{then-from-variable, else-from-variable}

pub loop-i-preserved : goal.loop-i-preserved
loop-i-preserved c =
    let xs = c.args.terms.now in
    let ys = c.loop-i.terms in
    let n = c.loop-i.count in
    let i = c.loop-i.i in
    let kept = c.loop-i.invariant in
    let test = c.loop-i-test.true in
    let l = to_z w32 (of_z w32 c.args.literal) in
    let own = c.unsigned_abs-variable.ensures.value in
    let f : SFits w16 (get_or ys i no_term).literal = search rules in
    let e : c.from.result ≡ nat_abs (get_or ys i no_term).literal =
    c.from.ensures ∙ simp to_z-of_z at c.unsigned_abs.ensures.value in
    elim c.if-from-variable.branch [
      | then-from-variable w ↦
          let other =
          λ (n : nat_abs (get_or ys i no_term).literal ≡ nat_abs l). w.if-from-variable.true (e ∙ n ∙ sym own) in
          simp (w.terms-is, w.count-is) (kept_with l xs ys n i kept test c.loop-i.auto.terms other)
      | else-from-variable w ↦
          let same = sym e ∙ w.if-from-variable.false ∙ own in
          simp (w.terms-is, w.count-is) (kept_without l xs ys n i kept test same)
    ]
