-- What is written so far, with the terms of the variables left, is all that is gathered.
use Rattle.lines.specs.Nets.{net_in}
use Rattle.lines.proofs.WrittenTerms.{Written}
use Rattle.lines.proofs.nets.Nets.gather.Given as goal

abbrev pub invariant-loop-v : goal.invariant-loop-v
invariant-loop-v l = Written l.v-end l.v (net_in l.self.table) l.count l.form l.initial.form
