-- Worked cases: the clauses that the order encoder makes of small lines, and where its reach ends.
use Rattle.std.specs.Prelude.{◌≡◌, true, false, [], ◌∷◌, length, pos, negsuc}
use Rattle.pb.specs.declared.working.Sense.TheVariants.{AtLeast, Exactly}
use Rattle.pb.specs.Lines.{Working, empty_line, impossible_line}
use Rattle.pb.specs.Worked.{working_term}
use Rattle.cnf.specs.Clauses.{of_literals}
use Rattle.encode.specs.DirectWorked.{working_line, of_ones}
use Rattle.encode.specs.Order.{order_list, order_reach}

-- 2·1 + 1·2 at least 2
abbrev pub two_terms : Working
two_terms = working_line AtLeast 2 (working_term 2 (pos 1) ∷ working_term 1 (pos 2) ∷ [])

pub record OrderWorkedCases : Type 0 where
  -- its auxiliaries are 3 and 4 in the first row, and 5 and 6 in the second
  pub matrix : order_list two_terms 3
      ≡ of_literals (negsuc 0 ∷ pos 3 ∷ []) ∷ of_literals (pos 1 ∷ negsuc 2 ∷ [])
      ∷ of_literals (negsuc 0 ∷ pos 4 ∷ []) ∷ of_literals (pos 1 ∷ negsuc 3 ∷ [])
      ∷ of_literals (negsuc 2 ∷ pos 5 ∷ []) ∷ of_literals (negsuc 1 ∷ pos 5 ∷ [])
      ∷ of_literals (pos 2 ∷ pos 3 ∷ negsuc 4 ∷ [])
      ∷ of_literals (negsuc 3 ∷ pos 6 ∷ []) ∷ of_literals (negsuc 1 ∷ negsuc 2 ∷ pos 6 ∷ [])
      ∷ of_literals (pos 2 ∷ pos 4 ∷ negsuc 5 ∷ []) ∷ of_literals (pos 3 ∷ negsuc 5 ∷ [])
      ∷ of_literals (pos 6 ∷ []) ∷ []
  pub twelve : length (order_list two_terms 3) ≡ 12
  -- no terms: at least 1 is the clause that nothing satisfies, at least 0 and exactly 0 are none
  pub impossible : order_list impossible_line 1 ≡ of_literals [] ∷ []
  pub always : order_list empty_line 1 ≡ []
  pub no_terms_exactly_zero : order_list (of_ones Exactly 0 0) 1 ≡ []
  -- 1·1 at least 0: no column
  pub at_least_zero : order_list (of_ones AtLeast 1 0) 2 ≡ []
  -- 1·1 exactly 0: one column
  pub exactly_zero : order_list (of_ones Exactly 1 0) 2
      ≡ of_literals (negsuc 0 ∷ pos 2 ∷ []) ∷ of_literals (pos 1 ∷ negsuc 1 ∷ [])
      ∷ of_literals (negsuc 1 ∷ []) ∷ []
  -- 1·1 exactly 1, its whole sum: s(1, 1) and not s(1, 2)
  pub exactly_sum : order_list (of_ones Exactly 1 1) 2
      ≡ of_literals (negsuc 0 ∷ pos 2 ∷ []) ∷ of_literals (pos 1 ∷ negsuc 1 ∷ [])
      ∷ of_literals (pos 1 ∷ negsuc 2 ∷ []) ∷ of_literals (negsuc 2 ∷ [])
      ∷ of_literals (pos 2 ∷ []) ∷ of_literals (negsuc 2 ∷ []) ∷ []
  -- 1·1 at least 2, above the sum: s(1, 2) is never and has to be
  pub above_sum : order_list (of_ones AtLeast 1 2) 2
      ≡ of_literals (negsuc 0 ∷ pos 2 ∷ []) ∷ of_literals (pos 1 ∷ negsuc 1 ∷ [])
      ∷ of_literals (pos 1 ∷ negsuc 2 ∷ []) ∷ of_literals (negsuc 2 ∷ [])
      ∷ of_literals (pos 3 ∷ []) ∷ []
  -- 1·1 exactly 2, above the sum
  pub exactly_above_sum : order_list (of_ones Exactly 1 2) 2
      ≡ of_literals (negsuc 0 ∷ pos 2 ∷ []) ∷ of_literals (pos 1 ∷ negsuc 1 ∷ [])
      ∷ of_literals (pos 1 ∷ negsuc 2 ∷ []) ∷ of_literals (negsuc 2 ∷ [])
      ∷ of_literals (pos 1 ∷ negsuc 3 ∷ []) ∷ of_literals (negsuc 3 ∷ [])
      ∷ of_literals (pos 3 ∷ []) ∷ of_literals (negsuc 3 ∷ []) ∷ []
  -- 64 terms and 256 columns are in reach; one column more is not, nor one term more
  pub most : order_reach (of_ones AtLeast 64 256) ≡ true
  pub most_exactly : order_reach (of_ones Exactly 64 255) ≡ true
  pub a_column_more : order_reach (of_ones AtLeast 64 257) ≡ false
  pub exactly_has_one_more : order_reach (of_ones Exactly 64 256) ≡ false
  pub a_term_more : order_reach (of_ones AtLeast 65 256) ≡ false
  -- 1·1 at least 16,384 takes as many auxiliaries as are in reach, and exactly 16,384 one more
  pub most_of_one_term : order_reach (of_ones AtLeast 1 16384) ≡ true
  pub one_more : order_reach (of_ones Exactly 1 16384) ≡ false
