-- The order encoder keeps its law: what its clauses name, that they are well-formed, and which assignments satisfy
-- them.
use Rattle.std.proofs.Common.{◌≡◌, ℕ, ◌+◌, ◌<◌, true, ◌↔◌, List, length, take, nat_abs, Decides, refl, arith}
use lib.Seq.{take-length}
use Rattle.std.specs.List.{AllByRecursion}
use Rattle.std.proofs.ByRecursion.{All-take, All-weaker}
use Rattle.std.proofs.lemmas.Bool.Decides.{Decides-at, Decides-like}
use Rattle.pb.specs.declared.working.Sense.{Sense}
use Rattle.pb.specs.declared.working.WorkingTerm.{WorkingTerm}
use Rattle.pb.specs.Lines.{Working}
use Rattle.pb.specs.Meaning.{Assignment, weighed, met, reaches}
use Rattle.cnf.specs.Clauses.{satisfies_all}
use Rattle.cnf.proofs.Satisfying.{satisfies_append}
use Rattle.encode.specs.Law.{Lawful, InReach, AgreeUpTo}
use Rattle.encode.specs.Order.{columns, rows_clauses, last_clauses, order_encoding, order_list, order_takes}
use Rattle.encode.specs.Order.{order_value}
use Rattle.encode.proofs.Matrix.{Rows, row_at, row_zero, rows_decide, decides_then, last_satisfied}
use Rattle.encode.proofs.OrderNaming.{order_short}
use Rattle.encode.proofs.Places.{Filled, filled_placed, placed_filled}
use Rattle.encode.proofs.ShortClauses.{short_names, short_formed}
use Rattle.encode.proofs.Terms.{OnVariable, in_reach_on, weighed_agrees}

-- what an assignment makes of the terms up to each row
abbrev totals : Assignment → List WorkingTerm → ℕ → ℕ
totals a ts r = weighed a (take r ts)

-- of assignments a and v that make the same of the terms
module _ (a v : Assignment) (first c : ℕ) (ts : List WorkingTerm)
    (same : (r : ℕ) → totals v ts r ≡ totals a ts r) where
  rows_filled : Rows v first c 0 0 ts → Filled v first (length ts) c (totals a ts)
  rows_filled rows r h = let e = same r in row_at v first c (omega arith) (omega arith) (rows r h)

  filled_rows : Filled v first (length ts) c (totals a ts) → Rows v first c 0 0 ts
  filled_rows rows r h = let e = same r in row_at v first c (omega arith) (omega arith) (rows r h)

module _ (a v : Assignment) (n first : ℕ) (above : n < first) (agree : AgreeUpTo n v a) where
  -- the rows are satisfied just where the matrix has its values
  rows_fill : (c : ℕ) (ts : List WorkingTerm) → AllByRecursion (OnVariable n) ts
      → Decides (satisfies_all v (rows_clauses first c 0 ts)) (Filled v first (length ts) c (totals a ts))
  rows_fill c ts on =
      let same : (r : ℕ) → totals v ts r ≡ totals a ts r =
      λ r. weighed_agrees n a v agree (take r ts) (All-take (OnVariable n) r ts on)
      in
      let some = All-weaker (OnVariable n) (λ t. 0 < nat_abs t.literal) (λ t h. h.0) ts on in
      Decides-like _ (rows_filled a v first c ts same) (filled_rows a v first c ts same)
      (rows_decide v first c (omega arith) 0 0 ts some (row_zero v first c))

  -- and the last clauses then, as the last row has the whole total, just where the line is met
  last_meets : (s : Sense) (k : ℕ) (ts : List WorkingTerm)
      → Filled v first (length ts) (columns s k) (totals a ts)
      → satisfies_all v (last_clauses s first (columns s k) (length ts) k) ≡ reaches s (weighed a ts) k
  last_meets s k ts all =
      last_satisfied v s first (length ts) k (weighed a ts) (omega arith)
      (rw take-length at (all (length ts) (omega arith)))

  order_decides : (s : Sense) (k : ℕ) (ts : List WorkingTerm) → AllByRecursion (OnVariable n) ts
      → Decides (satisfies_all v (order_list (record { sense = s; bound = k; terms = ts }) first))
      (Filled v first (length ts) (columns s k) (totals a ts) × (reaches s (weighed a ts) k ≡ true))
  order_decides s k ts on =
      let c = columns s k in
      Decides-at _ _ (satisfies_append v (rows_clauses first c 0 ts) (last_clauses s first c (length ts) k))
      (decides_then _ _ (rows_fill c ts on) (λ all. Decides-at _ _ (last_meets s k ts all) (λ e. e, λ e. e)))

order_means : (n first : ℕ) (w : Working) → InReach order_encoding n first w
    → (a v : Assignment) → AgreeUpTo n v a
    → (satisfies_all v (order_list w first) ≡ true)
    ↔ ((met a w ≡ true) × ((m : ℕ) → m < order_takes w → v (first + m) ≡ order_value w a m))
order_means n first w h a v agree =
    let rows = length w.terms in
    let c = columns w.sense w.bound in
    let f = totals a w.terms in
    Decides-like _
    (λ q. (q.1, filled_placed v first rows c f q.0))
    (λ q. (placed_filled v first rows c f refl q.1, q.0))
    (order_decides a v n first h.above agree w.sense w.bound w.terms (in_reach_on h))

pub order_lawful : Lawful order_encoding
order_lawful =
    record {
      names = λ n first w h. short_names _ _ (order_short n first w (in_reach_on h));
      formed = λ n first w h.
          short_formed n first (order_takes w) h.above h.below _ (order_short n first w (in_reach_on h));
      means = order_means;
    }
