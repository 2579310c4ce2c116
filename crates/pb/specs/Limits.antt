-- How far a line may go.
use Rattle.std.specs.Prelude.{◌≡◌}
use Rattle.pb.specs.declared.constraint.TheConstants.{MOST_TERMS, MOST_BOUND}
use Rattle.pb.specs.declared.term.TheConstants.{MOST_WEIGHT}
use Rattle.pb.specs.declared.variables.TheConstants.{MOST_VARIABLES}
use Rattle.pb.specs.declared.working.TheConstants.{MOST_WEIGHT_SUM, MOST_WORKING_BOUND}

pub record LineLimits : Type 0 where
  pub variables : MOST_VARIABLES ≡ 256
  pub terms : MOST_TERMS ≡ 64
  pub weight : MOST_WEIGHT ≡ 10000
  pub bound : MOST_BOUND ≡ 1000000
  -- and its normal form
  pub weight_sum : MOST_WEIGHT_SUM ≡ 640000
  pub working_bound : MOST_WORKING_BOUND ≡ 2280001
