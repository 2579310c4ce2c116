-- Which clause a formed one is.
use Rattle.cnf.specs.Clauses.{Clause, of_literals}
use Rattle.cnf.specs.declared.clause.FormedClause.{FormedClause}

abbrev pub clause_in : FormedClause → Clause
clause_in c = of_literals c.literals.now
