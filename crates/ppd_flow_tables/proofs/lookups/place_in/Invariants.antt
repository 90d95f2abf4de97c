use Rattle.std.specs.List.{position_from}
use Rattle.std.specs.Option.{unwrap_or}
use Rattle.std.proofs.Common.{◌≡◌, drop}
use Rattle.ppd_graph.specs.Seen.{is_item_of, place_of}
use Rattle.ppd_flow_tables.proofs.lookups.place_in.Given as goal

abbrev pub invariant-loop-place : goal.invariant-loop-place
invariant-loop-place l =
    unwrap_or (position_from (is_item_of l.interval) l.place (drop l.place l.items)) 0 ≡ place_of l.interval l.items
