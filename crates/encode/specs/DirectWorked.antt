-- Worked cases of the direct encoder: the whole list of small lines, and which lines are in reach.
use Rattle.std.specs.Prelude.{◌≡◌, ℕ, true, false, List, [], ◌∷◌, replicate, pos, negsuc}
use Rattle.cnf.specs.Clauses.{of_literals}
use Rattle.pb.specs.declared.working.Sense.{Sense}
use Rattle.pb.specs.declared.working.Sense.TheVariants.{AtLeast, Exactly}
use Rattle.pb.specs.declared.working.WorkingTerm.{WorkingTerm}
use Rattle.pb.specs.Lines.{Working, empty_line, impossible_line}
use Rattle.pb.specs.Worked.{working_term}
use Rattle.encode.specs.Direct.{direct_list, direct_reach}

-- a line, and one of so many terms of weight 1
abbrev pub working_line : Sense → ℕ → List WorkingTerm → Working
working_line sense k ts = record { sense = sense; bound = k; terms = ts }

abbrev pub of_ones : Sense → ℕ → ℕ → Working
of_ones sense n k = working_line sense k (replicate n (working_term 1 (pos 1)))

-- 1·1 + 2·2, and 3·3 more
abbrev pub one_two : List WorkingTerm
one_two = working_term 1 (pos 1) ∷ working_term 2 (pos 2) ∷ []

abbrev pub one_two_three : List WorkingTerm
one_two_three = working_term 1 (pos 1) ∷ working_term 2 (pos 2) ∷ working_term 3 (pos 3) ∷ []

pub record DirectWorkedCases : Type 0 where
  -- 1·1 + 2·2 + 3·3 at least 4: (1 2), (3)
  pub least_sets : direct_list (working_line AtLeast 4 one_two_three) 4
      ≡ of_literals (pos 1 ∷ pos 2 ∷ []) ∷ of_literals (pos 3 ∷ []) ∷ []
  -- no terms, at least 1: the empty clause; and at least 0: none
  pub never : direct_list impossible_line 1 ≡ of_literals [] ∷ []
  pub always : direct_list empty_line 1 ≡ []
  -- and exactly 0: none; exactly 1: the empty clause
  pub no_terms_exactly_zero : direct_list (of_ones Exactly 0 0) 1 ≡ []
  pub no_terms_exactly_one : direct_list (of_ones Exactly 0 1) 1 ≡ of_literals [] ∷ []
  -- 1·1 + 2·2 at least 0: none; and at least 4, above the sum: the empty clause
  pub at_least_zero : direct_list (working_line AtLeast 0 one_two) 3 ≡ []
  pub at_least_above : direct_list (working_line AtLeast 4 one_two) 3 ≡ of_literals [] ∷ []
  -- 1·1 + 2·2 exactly 0: (-1), (-2)
  pub none_counts : direct_list (working_line Exactly 0 one_two) 3
      ≡ of_literals (negsuc 0 ∷ []) ∷ of_literals (negsuc 1 ∷ []) ∷ []
  -- 1·1 + 2·2 exactly 3: (1), (2)
  pub all_count : direct_list (working_line Exactly 3 one_two) 3
      ≡ of_literals (pos 1 ∷ []) ∷ of_literals (pos 2 ∷ []) ∷ []
  -- 1·1 + 2·2 exactly 1: (1 2) of the literals, and (-2) of the complements
  pub one_counts : direct_list (working_line Exactly 1 one_two) 3
      ≡ of_literals (pos 1 ∷ pos 2 ∷ []) ∷ of_literals (negsuc 1 ∷ []) ∷ []
  -- 1·1 exactly 2, above the sum: the empty clause, and nothing of the complements
  pub above_sum : direct_list (of_ones Exactly 1 2) 2 ≡ of_literals [] ∷ []
  -- twelve terms are in reach, and thirteen are not
  pub most : direct_reach (of_ones AtLeast 12 1) ≡ true
  pub one_more : direct_reach (of_ones AtLeast 13 1) ≡ false
