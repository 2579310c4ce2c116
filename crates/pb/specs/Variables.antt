-- How many variables a job has.
use Rattle.std.specs.Prelude.{ℕ}
use Rattle.pb.specs.declared.variables.Variables.{Variables}

abbrev pub variable_count : Variables → ℕ
variable_count v = v.count
