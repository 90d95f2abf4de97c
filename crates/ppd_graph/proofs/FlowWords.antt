-- What the proofs speak of: the parts of the definitions, each by a name of its own.
use Rattle.std.specs.Prelude.{ℕ, List, Option, nat_le, nat_lt, Bool, ◌&&◌, unwrap_or, is_some}
use Rattle.std.specs.Option.{option_map_or}
use Rattle.ppd_graph.specs.Entry.{Entry}
use Rattle.ppd_model.specs.Extents.{Extent}
use Rattle.ppd_graph.specs.Ends.{syncs_before}
use Rattle.ppd_model.specs.RecordedSets.{sync_in}

-- the edge in which an interval begins: that of its prelog
abbrev pub begins_in : List Entry → Option Extent → ℕ
begins_in entries o = option_map_or (λ x. syncs_before entries x.prelog) o 0

-- entry n stands in the interval: after its prelog and not after its postlog, or the end inside it
abbrev pub is_in_extent : ℕ → Extent → Bool
is_in_extent n x = nat_lt x.prelog n && nat_le n (unwrap_or x.last 0)

-- the entry is a synchronization
abbrev pub is_sync : Entry → Bool
is_sync e = is_some (sync_in e)
