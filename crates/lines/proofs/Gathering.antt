-- What is gathered from the net weights of the variables from v to n, one variable on, and what is raised.
use Rattle.std.proofs.Common.{◌≡◌, ℕ, zero, suc, ◌+◌, ◌-◌, ◌<◌, ◌≤◌, List, [], ◌++◌, length, take, drop, sum_by, ℤ}
use Rattle.std.proofs.Common.{pos, refl, ap, add-one, ◌∙◌, drop-cons, arith}
use Rattle.std.proofs.lemmas.List.Sums.{sum_by-cons}
use Rattle.pb.specs.Normal.{term_of, raise_of, gathered, raised}
use Rattle.lines.specs.Nets.{net_in}

-- what is raised is the sum over that part of the table
pub raised_sum : (k v : ℕ) (table : List ℤ) → v + k ≤ length table
    → sum_by raise_of (take k (drop v table)) ≡ raised k v (net_in table)
raised_sum zero v table h = refl
raised_sum (suc k) v table h =
    let inside : v < length table = omega arith in
    let rest = raised_sum k (suc v) table (omega arith) in
    rw (drop-cons table v (pos 0))
    (sum_by-cons raise_of (net_in table v) (take k (drop (suc v) table))
    ∙ ap (λ n. raise_of (net_in table v) + n) rest)

pub gathered_more : (n v : ℕ) (f : ℕ → ℤ) → v ≤ n
    → gathered (n + 1 - v) v f ≡ term_of v (f v) ++ gathered (n + 1 - (v + 1)) (v + 1) f
gathered_more n v f h =
    let k : n + 1 - v ≡ suc (n - v) = omega arith in
    let l : n + 1 - (v + 1) ≡ n - v = omega arith in
    rw (k, l, add-one v) refl

-- past the last variable nothing is left
pub gathered_past : (n v : ℕ) (f : ℕ → ℤ) → n < v → gathered (n + 1 - v) v f ≡ []
gathered_past n v f h = ap (λ k. gathered k v f) (let e : n + 1 - v ≡ 0 = omega arith in e)
