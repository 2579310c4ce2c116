-- What is below the limit is the sheet that was lent, and the limit is that of what it held.
use Rattle.std.proofs.Common.{refl, sym, ap, ◌∙◌}
use Rattle.output.specs.declared.TheConstants.{MOST_INPUT}
use Rattle.output.proofs.Limiting.{first_bytes, same_outcome, same_meaning}
use Rattle.output.proofs.write_limited.Goals as goal

pub returns : goal.returns
returns g c =
    let lent = c.translate.ensures.stays.same ∙ c.new-limited.ensures.same in
    let input = first_bytes MOST_INPUT _ c.args.file.now c.min-seen.ensures in
    let before = ap g.S.Sheet.held c.new-limited.ensures.below in
    let after = ap g.S.Sheet.held (sym (c.sheet-1.given.1 (sym lent))) in
    record {
      cases = same_outcome c.translate.result (rw (c.new-limited.ensures.most, c.new-limited.ensures.below) refl) input
          before after c.translate.ensures.cases;
      means = same_meaning c.translate.result input before after c.translate.ensures.means;
    }
