use Rattle.std.proofs.Common.{rules}
use Rattle.ppd_io.proofs.host.HostShelfShelf.store.Goals as goal

pub is_want_of_memory-requires : goal.is_want_of_memory-requires
is_want_of_memory-requires g c = search rules depth 1 fits 30

pub returns-in-Err : goal.returns-in-Err
returns-in-Err g c = search rules depth 1 fits 30

pub returns-in-Err-2 : goal.returns-in-Err-2
returns-in-Err-2 g c = search rules depth 1 fits 30

pub returns-in-Ok : goal.returns-in-Ok
returns-in-Ok g c = search rules depth 1 fits 30

pub saturating_add-self-requires : goal.saturating_add-self-requires
saturating_add-self-requires g c = search rules depth 1 fits 30

pub write-requires : goal.write-requires
write-requires g c = search rules depth 1 fits 30
