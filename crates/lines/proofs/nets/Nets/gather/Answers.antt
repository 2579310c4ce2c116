-- A turn writes the term of its variable, if it has one.
use Rattle.std.proofs.Common.{◌≡◌, ℕ, ◌+◌, ◌≤◌, [], ◌∷◌, length, pos, sym, ap, ◌∙◌, arith, w32, SFits, rules}
use Rattle.std.proofs.lemmas.List.{length-take-le}
use Rattle.std.proofs.lemmas.Int.{ints, to_z-of_z}
use Rattle.pb.specs.Normal.{term_of, gathered}
use Rattle.lines.specs.CheckedLine.{checked_variables, checked_line}
use Rattle.lines.specs.Nets.{net_in}
use Rattle.lines.specs.declared.nets.Nets.{Nets}
use Rattle.lines.proofs.FormFromNets.{gathered_from_few}
use Rattle.lines.proofs.WrittenTerms.{Written, written_none, written_room, written_one, written_all}
use Rattle.lines.proofs.nets.Nets.gather.Goals as goal
use Rattle.lines.proofs.nets.Nets.gather.Goals.{Joined-net-ne0, then-net-ne0, else-net-ne0}

few_terms : (nets : Nets) (n room : ℕ) → n ≡ checked_variables nets.line → length (checked_line nets.line).terms ≤ room
    → length (gathered n 1 (net_in nets.table)) ≤ room
few_terms nets n room e h =
    let l = nets.line in
    let few = gathered_from_few (checked_variables l) (checked_line l) nets.table l.variables.few nets.tabled in
    rw e (omega arith)

pub bounds-form-count : goal.bounds-form-count
bounds-form-count c =
    let f = net_in c.args.self.now.table in
    let n = c.count-v-end.result in
    let v = c.loop-v.v in
    let fits : SFits w32 (f c.from.result) = search rules in
    let one : term_of v (f v) ≡ c.term_from.result ∷ [] =
    ap (λ u. term_of v (f u)) (sym c.from.ensures) ∙ (simp to_z-of_z at c.term_from.ensures) in
    let few = few_terms c.args.self.now n _ c.count-v-end.ensures c.requires in
    let room = written_room n v f _ _ _ c.loop-v.invariant c.loop-v-test.true few _ one in
    let long = c.loop-v.invariant.long in
    omega arith

turned_on : (c : Joined-net-ne0)
    → Written c.count-v-end.result (c.loop-v.v + 1) (net_in c.args.self.now.table)
    c.if-net-ne0.count c.if-net-ne0.form c.args.form.now
turned_on c =
    let n = c.count-v-end.result in
    let f = net_in c.args.self.now.table in
    let v = c.loop-v.v in
    let few = few_terms c.args.self.now n _ c.count-v-end.ensures c.requires in
    elim c.if-net-ne0.branch [
      | then-net-ne0 w ↦
          let fits : SFits w32 (f c.from.result) = search rules in
          let one : term_of v (f v) ≡ w.term_from.result ∷ [] =
          ap (λ u. term_of v (f u)) (sym c.from.ensures) ∙ (simp to_z-of_z at w.term_from.ensures) in
          let room = written_room n v f _ _ _ c.loop-v.invariant c.loop-v-test.true few _ one in
          rw (w.count-is, w.form-is) (written_one n v f _ _ _ c.loop-v.invariant c.loop-v-test.true room _ one)
      | else-net-ne0 w ↦
          let zero : f c.from.result ≡ pos 0 = omega (arith, ints, w.if-net-ne0.false) in
          let none : term_of v (f v) ≡ [] =
          ap (λ u. term_of v (f u)) (sym c.from.ensures) ∙ ap (λ z. term_of v z) zero in
          rw (w.count-is, w.form-is) (written_none n v f _ _ _ c.loop-v.invariant c.loop-v-test.true none)
    ]

pub loop-v-preserved : goal.loop-v-preserved
loop-v-preserved c = turned_on (goal.at.loop-v-preserved c).Joined-net-ne0

pub returns-after-net-ne0 : goal.returns-after-net-ne0
returns-after-net-ne0 c =
    let f = net_in c.args.self.now.table in
    let t = turned_on (goal.at.returns-after-net-ne0 c).Joined-net-ne0 in
    let past = written_all c.count-v-end.result (c.loop-v.v + 1) f _ _ _ t (omega arith) in
    let all = past ∙ ap (λ n. gathered n 1 f) c.count-v-end.ensures in
    let within = t.within in
    let long = t.long in
    let taken = length-take-le c.if-net-ne0.count c.if-net-ne0.form (omega arith) in
    record { number = sym taken ∙ ap length all; terms = all; rest = t.beyond }
