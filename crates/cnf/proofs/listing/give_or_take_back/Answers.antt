-- After clauses were given there are no fewer than before.
use Rattle.std.proofs.Common.{length, ap, arith}
use Rattle.cnf.proofs.GivingEach.{each_longer}
use Rattle.cnf.proofs.listing.give_or_take_back.Goals as goal

pub overflow_sub-result : goal.overflow_sub-result
overflow_sub-result g c =
    let s = c.args.sheet.now in
    let longer = each_longer (g.S.Sheet.fits s) (g.S.Sheet.held s) (g.L.Listing.clauses c.args.list.now) in
    omega (arith, c.count-before.ensures, c.count.ensures, ap length c.in-Ok.ensures.after, longer)
