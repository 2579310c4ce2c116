-- A well-formed clause has few literals, and each is short.
use Rattle.std.proofs.Common.{◌<◌, ◌+◌, ◌^◌, length, ap, arith}
use Rattle.std.specs.Fmt.{signed_decimal}
use Rattle.std.specs.List.{sum_by}
use Rattle.cnf.specs.Clauses.{of_literals}
use Rattle.sheets.proofs.Lengths.{row_length, few_bytes}
use Rattle.sheets.proofs.writing.row_size.Goals as goal
use Rattle.sheets.proofs.writing.row_size.Goals.{After-literals}

few : (c : After-literals) → sum_by (λ l. length (signed_decimal l) + 1) c.literals.result.now + 2 < 2 ^ 64
few c =
    omega (
      arith,
      few_bytes (of_literals c.args.clause.literals.now) c.args.clause.formed,
      ap (sum_by (λ l. length (signed_decimal l) + 1)) c.literals.ensures,
    )

pub literals_size-requires : goal.literals_size-requires
literals_size-requires c = omega (arith, few c)

pub overflow_add-result : goal.overflow_add-result
overflow_add-result c = omega (arith, few (goal.at.overflow_add-result c).After-literals, c.literals_size.ensures)

pub returns : goal.returns
returns c =
    omega (
      arith,
      row_length c.args.clause.literals.now,
      c.literals_size.ensures,
      ap (sum_by (λ l. length (signed_decimal l) + 1)) c.literals.ensures,
    )
