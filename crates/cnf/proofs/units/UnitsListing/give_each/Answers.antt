-- The laws of unit clauses hold whatever was given.
use Rattle.cnf.proofs.UnitLists.{unit_clauses}
use Rattle.cnf.proofs.units.UnitsListing.give_each.Goals as goal

pub returns-in_err-give-clause-laws : goal.returns-in_err-give-clause-laws
returns-in_err-give-clause-laws g c = unit_clauses

pub returns-clause-laws : goal.returns-clause-laws
returns-clause-laws g c = unit_clauses
