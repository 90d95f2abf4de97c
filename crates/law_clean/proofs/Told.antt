-- The law of cut logs, from the beginning that ends with the synchronization.
use Rattle.std.proofs.Common.{refl}
use Rattle.law_clean.specs.Laws.{CutsAreReplayed}
use Rattle.law_clean.proofs.CutEdges.{replays_of_cut}

pub cuts_replayed : CutsAreReplayed
cuts_replayed program policy budget before rest p i k x v whole edge_is is_sync there clear at =
    replays_of_cut program policy budget _ p i v whole
    (record { before = before; rest = rest; schedule_is = refl; edge_is = edge_is; is_sync = is_sync; there = there }) clear x at k
