-- The normal form of a line: "at least" or "exactly", a bound that is not negative, and for each variable at most one
-- term, of positive weight, by rising variable.
use Rattle.std.specs.Prelude.{ℕ, zero, suc, ◌+◌, Bool, true, false, cond, List, [], ◌∷◌, ◌++◌, ℤ, pos, negsuc, ◌+ℤ◌}
use Rattle.std.specs.Prelude.{◌-ℤ◌, neg_ℤ, ◌==◌}
use Rattle.pb.specs.declared.relation.Relation.{Relation}
use Rattle.pb.specs.declared.relation.Relation.TheVariants.{AtLeast, AtMost, Exactly, MoreThan, LessThan}
use Rattle.pb.specs.declared.term.Term.{Term}
use Rattle.pb.specs.declared.working.Sense.{Sense}
use Rattle.pb.specs.declared.working.Sense.TheVariants.{AtLeast as LeastOf, Exactly as Just}
use Rattle.pb.specs.declared.working.WorkingTerm.{WorkingTerm}
use Rattle.pb.specs.Lines.{Line, Working, impossible_line}

-- first the relation: "more than b" is "at least b + 1" and "less than b" is "at most b - 1"; "at most b" is
-- "at least -b" with every weight negated
abbrev pub sense_of : Relation → Sense
sense_of AtLeast = LeastOf
sense_of AtMost = LeastOf
sense_of Exactly = Just
sense_of MoreThan = LeastOf
sense_of LessThan = LeastOf

abbrev pub negated : Relation → Bool
negated AtLeast = false
negated AtMost = true
negated Exactly = false
negated MoreThan = false
negated LessThan = true

abbrev pub threshold : Relation → ℤ → ℤ
threshold AtLeast b = b
threshold AtMost b = neg_ℤ b
threshold Exactly b = b
threshold MoreThan b = b +ℤ pos 1
threshold LessThan b = pos 1 -ℤ b

abbrev pub weight_under : Bool → Term → ℤ
weight_under true t = neg_ℤ t.weight
weight_under false t = t.weight

-- what a weight on a literal adds to the net weight of variable v: itself on v, its opposite on -v
abbrev pub share : ℕ → ℤ → ℤ → ℤ
share v (pos l) w = cond (l == v) w (pos 0)
share v (negsuc l) w = cond (suc l == v) (neg_ℤ w) (pos 0)

-- the weights of v less those of -v
abbrev pub net : Bool → List Term → ℕ → ℤ
net negate [] v = pos 0
net negate (t ∷ ts) v = share v t.literal (weight_under negate t) +ℤ net negate ts v

-- a weight on -v is one on v of the opposite sign, with the bound lowered by it
abbrev pub lowering : ℤ → ℤ → ℤ
lowering (pos l) w = pos 0
lowering (negsuc l) w = w

abbrev pub lowered : Bool → List Term → ℤ
lowered negate [] = pos 0
lowered negate (t ∷ ts) = lowering t.literal (weight_under negate t) +ℤ lowered negate ts

-- the term of a variable by its net weight, and how far that raises the bound
abbrev pub term_of : ℕ → ℤ → List WorkingTerm
term_of v (pos zero) = []
term_of v (pos (suc p)) = record { weight = suc p; literal = pos v } ∷ []
term_of v (negsuc p) = record { weight = suc p; literal = neg_ℤ (pos v) } ∷ []

abbrev pub raise_of : ℤ → ℕ
raise_of (pos p) = 0
raise_of (negsuc p) = suc p

-- the terms of so many variables from v on, by their net weights, and how far they raise the bound together
abbrev pub gathered : ℕ → ℕ → (ℕ → ℤ) → List WorkingTerm
gathered zero v f = []
gathered (suc k) v f = term_of v (f v) ++ gathered k (suc v) f

abbrev pub raised : ℕ → ℕ → (ℕ → ℤ) → ℕ
raised zero v f = 0
raised (suc k) v f = raise_of (f v) + raised k (suc v) f

-- last the bound: below 0, "at least" stops at 0 and "exactly" cannot be met
abbrev pub floored : Sense → ℤ → List WorkingTerm → Working
floored s (pos b) ts = record { sense = s; bound = b; terms = ts }
floored LeastOf (negsuc b) ts = record { sense = LeastOf; bound = 0; terms = ts }
floored Just (negsuc b) ts = impossible_line

-- the normal form of a line of a job of n variables
abbrev pub normal : ℕ → Line → Working
normal n l =
    let negate = negated l.relation in
    let nets = net negate l.terms in
    floored (sense_of l.relation)
    ((threshold l.relation l.bound -ℤ lowered negate l.terms) +ℤ pos (raised n 1 nets))
    (gathered n 1 nets)
