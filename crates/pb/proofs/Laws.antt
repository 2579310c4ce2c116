-- The laws of each call, for its contract.
use Rattle.pb.proofs.Naming.{forced_is_named, reduced_drops_variable, reduced_names_no_more}
use Rattle.pb.proofs.Naming.{reduced_same_where_unnamed}
use Rattle.pb.proofs.Naming.{tighten_names_no_more}
use Rattle.pb.proofs.Reducing.{reduced_keeps}
use Rattle.pb.proofs.Settling.{forced_holds, forced_in_range, forced_none}
use Rattle.pb.proofs.Tightening.{tighten_keeps, tighten_is_tight, tighten_once}

pub ruleset forced_laws = (forced_holds, forced_in_range, forced_is_named, forced_none)

pub ruleset reduced_laws = (reduced_keeps, reduced_drops_variable, reduced_names_no_more, reduced_same_where_unnamed)

pub ruleset tightened_laws = (tighten_keeps, tighten_is_tight, tighten_once, tighten_names_no_more)
