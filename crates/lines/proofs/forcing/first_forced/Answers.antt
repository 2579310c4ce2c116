-- The search finds the first term that forces something, which is the definition's.
use Rattle.std.proofs.Common.{rules}
use Rattle.lines.proofs.AsLists.{FirstForced, first_is}
use Rattle.lines.proofs.forcing.first_forced.Goals as goal

pub returns : goal.returns
returns c =
    let s = c.args.sense in
    let ts = c.args.terms.now in
    let found : FirstForced s c.args.sum c.args.bound ts c.find_map.result = search rules in
    first_is s c.args.sum c.args.bound ts c.find_map.result found
