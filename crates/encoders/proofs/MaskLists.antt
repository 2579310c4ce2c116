-- The clauses of a list by masks: at a mask; and of a line by its two lists.
use Rattle.std.proofs.Common.{◌≡◌, ℕ, suc, ◌+◌, ◌-◌, ◌^◌, ◌<◌, Bool, List, [], ◌++◌, length, true, false, refl, ap}
use Rattle.std.proofs.Common.{◌∙◌, append-nil, add-one, arith}
use Rattle.pb.specs.declared.working.Sense.{Sense}
use Rattle.pb.specs.declared.working.Sense.TheVariants.{AtLeast, Exactly}
use Rattle.pb.specs.declared.working.WorkingTerm.{WorkingTerm}
use Rattle.pb.specs.Sums.{weight_sum}
use Rattle.cnf.specs.Clauses.{Clause}
use Rattle.encode.specs.Direct.{set_clause, set_clauses_from, set_clauses, direct_clauses}

-- what is left of a list at a mask
abbrev pub clauses_from : Bool → List WorkingTerm → ℕ → ℕ → List Clause
clauses_from flip ts bound mask = set_clauses_from (2 ^ length ts - mask) mask flip ts bound

pub clauses_more : (flip : Bool) (ts : List WorkingTerm) (bound mask : ℕ) → mask < 2 ^ length ts
    → clauses_from flip ts bound mask ≡ set_clause flip ts bound mask ++ clauses_from flip ts bound (mask + 1)
clauses_more flip ts bound mask h =
    let k : 2 ^ length ts - mask ≡ suc (2 ^ length ts - (mask + 1)) = omega arith in
    ap (λ n. set_clauses_from n mask flip ts bound) k ∙ rw add-one refl

-- a line's second list, and its two with the bounds that the code has for them
abbrev pub second : Sense → ℕ → List WorkingTerm → List Clause
second AtLeast bound ts = []
second Exactly bound ts = set_clauses true ts (weight_sum ts - bound)

pub two_lists : (s : Sense) (bound : ℕ) (ts : List WorkingTerm) (n : ℕ)
    → n ≡ bound → direct_clauses s bound ts ≡ set_clauses false ts n ++ second s bound ts
two_lists AtLeast bound ts n e = rw (e, append-nil)
two_lists Exactly bound ts n e = rw e

pub second_list : (s : Sense) (bound : ℕ) (ts : List WorkingTerm) (n : ℕ)
    → s ≡ Exactly → n ≡ weight_sum ts - bound → second s bound ts ≡ set_clauses true ts n
second_list s bound ts n k e = rw (k, e)
