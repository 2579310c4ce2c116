-- All literals of a clause that is not too long are tested.
use Rattle.std.proofs.Common.{◌≡◌, ◌&&◌, sym, ap, ◌∙◌, rules, tests}
use Rattle.std.proofs.lemmas.Bool.{le-leb}
use Rattle.std.proofs.lemmas.Iterator.{YieldsList-from_slice}
use Rattle.std.proofs.lemmas.Iterator.Search.{all_from_yields_List}
use Rattle.std.specs.List.{list_all}
use Rattle.cnf.specs.Clauses.{literal_formed, literals_formed}
use Rattle.cnf.proofs.Forming.{formed_all}
use Rattle.cnf.proofs.clause.is_well_formed.Goals as goal

pub returns-then-clause-le-MOST_LITERALS : goal.returns-then-clause-le-MOST_LITERALS
returns-then-clause-le-MOST_LITERALS c =
    let ls = c.args.clause.now in
    let few = le-leb _ _ c.if-clause-le-MOST_LITERALS.true in
    let all : c.all.result ≡ list_all literal_formed ls =
    all_from_yields_List literal_formed _ _ _ c.all.ensures.ran (YieldsList-from_slice ls cc)
    (λ x b q k. search (rules, tests)) in
    all ∙ formed_all ls ∙ sym (ap (λ b. b && literals_formed ls) few)
