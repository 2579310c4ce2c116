-- The direct encoder: a clause for each least set of terms that an assignment cannot all miss.
-- A set of terms is a mask, whose lowest bit stands for the first term.
use Rattle.std.specs.Prelude.{ℕ, zero, suc, ◌+◌, ◌-◌, ◌/◌, ◌%◌, ◌^◌, Bool, true, false, cond, ◌&&◌, List, [], ◌∷◌}
use Rattle.std.specs.Prelude.{◌++◌, length, ℤ, neg_ℤ, ◌==◌, nat_le, nat_lt}
use Rattle.cnf.specs.Clauses.{Clause}
use Rattle.encode.specs.declared.reaches.TheConstants.{MOST_DIRECT_TERMS}
use Rattle.encode.specs.Law.{Encoding}
use Rattle.encode.specs.Parts.{disjunction}
use Rattle.pb.specs.declared.working.Sense.{Sense}
use Rattle.pb.specs.declared.working.Sense.TheVariants.{AtLeast, Exactly}
use Rattle.pb.specs.declared.working.WorkingTerm.{WorkingTerm}
use Rattle.pb.specs.Lines.{Working}
use Rattle.pb.specs.Sums.{weight_sum}

-- whether the first term is in the set
abbrev pub has_first : ℕ → Bool
has_first mask = mask % 2 == 1

-- the sum of the weights outside a set
abbrev pub sum_outside : List WorkingTerm → ℕ → ℕ
sum_outside [] mask = 0
sum_outside (t ∷ ts) mask = cond (has_first mask) 0 t.weight + sum_outside ts (mask / 2)

-- whether each weight in a set brings the sum to the bound or above
abbrev pub each_lifts : List WorkingTerm → ℕ → ℕ → ℕ → Bool
each_lifts [] mask sum bound = true
each_lifts (t ∷ ts) mask sum bound =
    cond (has_first mask) (nat_le bound (sum + t.weight)) true && each_lifts ts (mask / 2) sum bound

-- the weights outside total below the bound, and would not if any one term of the set were outside too
abbrev pub is_least : List WorkingTerm → ℕ → ℕ → Bool
is_least ts bound mask = nat_lt (sum_outside ts mask) bound && each_lifts ts mask (sum_outside ts mask) bound

-- the literals of a set, in term order, or their complements
abbrev pub literal_by : Bool → ℤ → ℤ
literal_by true l = neg_ℤ l
literal_by false l = l

abbrev pub literals_in : Bool → List WorkingTerm → ℕ → List ℤ
literals_in flip [] mask = []
literals_in flip (t ∷ ts) mask =
    cond (has_first mask) (literal_by flip t.literal ∷ []) [] ++ literals_in flip ts (mask / 2)

-- the clause of a set, if it is a least one
abbrev pub set_clause : Bool → List WorkingTerm → ℕ → ℕ → List Clause
set_clause flip ts bound mask = cond (is_least ts bound mask) (disjunction (literals_in flip ts mask)) []

-- the clauses of so many masks, from one on, and of all
abbrev pub set_clauses_from : ℕ → ℕ → Bool → List WorkingTerm → ℕ → List Clause
set_clauses_from zero mask flip ts bound = []
set_clauses_from (suc k) mask flip ts bound =
    set_clause flip ts bound mask ++ set_clauses_from k (suc mask) flip ts bound

abbrev pub set_clauses : Bool → List WorkingTerm → ℕ → List Clause
set_clauses flip ts bound = set_clauses_from (2 ^ length ts) 0 flip ts bound

-- "exactly" is "at least", and then the same weights on the complements with what the bound leaves of the sum; where
-- the bound is above the sum, nothing is left and no total lies below 0
abbrev pub direct_clauses : Sense → ℕ → List WorkingTerm → List Clause
direct_clauses AtLeast bound ts = set_clauses false ts bound
direct_clauses Exactly bound ts = set_clauses false ts bound ++ set_clauses true ts (weight_sum ts - bound)

abbrev pub direct_list : Working → ℕ → List Clause
direct_list w first = direct_clauses w.sense w.bound w.terms

-- the lines that the direct encoder takes
abbrev pub direct_reach : Working → Bool
direct_reach w = nat_le (length w.terms) MOST_DIRECT_TERMS

-- it has no auxiliaries, so that their value is of no account
abbrev pub direct_encoding : Encoding
direct_encoding =
    record {
      reach = λ w first. direct_reach w;
      takes = λ w first. 0;
      clauses = direct_list;
      value = λ w first a m. false;
    }
