-- What an assignment makes of a line: its total, and whether it meets the line.
use Rattle.std.specs.Prelude.{ℕ, suc, ◌+◌, Bool, cond, not, ◌&&◌, List, [], ◌∷◌, ℤ, pos, negsuc, ◌+ℤ◌, ◌==◌, true}
use Rattle.std.specs.Prelude.{int_le, int_lt, nat_le}
use Rattle.pb.specs.declared.relation.Relation.{Relation}
use Rattle.pb.specs.declared.relation.Relation.TheVariants.{AtLeast, AtMost, Exactly, MoreThan, LessThan}
use Rattle.pb.specs.declared.term.Term.{Term}
use Rattle.pb.specs.declared.working.Sense.{Sense}
use Rattle.pb.specs.declared.working.Sense.TheVariants.{AtLeast as LeastOf, Exactly as Just}
use Rattle.pb.specs.declared.working.WorkingTerm.{WorkingTerm}
use Rattle.pb.specs.Lines.{Line, Working}

-- an assignment gives each variable true or false
abbrev pub Assignment : Type 0
Assignment = ℕ → Bool

-- v holds where variable v is true, and -v where it is false
abbrev pub holds : Assignment → ℤ → Bool
holds a (pos v) = a v
holds a (negsuc v) = not (a (suc v))

-- the sum of the weights whose literals hold
abbrev pub total : Assignment → List Term → ℤ
total a [] = pos 0
total a (t ∷ ts) = cond (holds a t.literal) t.weight (pos 0) +ℤ total a ts

-- whether a total stands in a relation to a bound
abbrev pub stands : Relation → ℤ → ℤ → Bool
stands AtLeast t b = int_le b t
stands AtMost t b = int_le t b
stands Exactly t b = int_le b t && int_le t b
stands MoreThan t b = int_lt b t
stands LessThan t b = int_lt t b

-- whether an assignment meets a line
abbrev pub meets : Assignment → Line → Bool
meets a l = stands l.relation (total a l.terms) l.bound

-- the same of working lines, whose weights and bounds are not negative
abbrev pub weighed : Assignment → List WorkingTerm → ℕ
weighed a [] = 0
weighed a (t ∷ ts) = cond (holds a t.literal) t.weight 0 + weighed a ts

abbrev pub reaches : Sense → ℕ → ℕ → Bool
reaches LeastOf t b = nat_le b t
reaches Just t b = t == b

abbrev pub met : Assignment → Working → Bool
met a w = reaches w.sense (weighed a w.terms) w.bound

-- whether an assignment meets every line of a list
abbrev pub meets_each : Assignment → List Line → Bool
meets_each a [] = true
meets_each a (l ∷ ls) = meets a l && meets_each a ls
