use Rattle.std.proofs.Common.{rules}
use Rattle.ppd_rerun_ran.proofs.alike.is_part.Goals as goal

pub deref-requires : goal.deref-requires
deref-requires c = search rules depth 1 fits 30

pub get-requires : goal.get-requires
get-requires c = search rules depth 1 fits 30

pub get-requires-in-Nested : goal.get-requires-in-Nested
get-requires-in-Nested c = search rules depth 1 fits 30

pub is_event-requires : goal.is_event-requires
is_event-requires c = search rules depth 1 fits 30

pub is_nested-requires : goal.is_nested-requires
is_nested-requires c = search rules depth 1 fits 30

pub returns-in-None : goal.returns-in-None
returns-in-None c = search rules depth 1 fits 30

pub returns-in-Some : goal.returns-in-Some
returns-in-Some c = search rules depth 1 fits 30
