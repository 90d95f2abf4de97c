use Rattle.std.proofs.Common.{◌≡◌, ◌+◌, ◌-◌, ◌*◌, ◌++◌, map, take}
use Rattle.law_flow.specs.Joined.{events_of_items, joined}
use Rattle.ppd_graph.specs.Seen.{Seen}
use Rattle.ppd_whole_writes.proofs.events.+joining.Given as goal

abbrev pub decreases-add_interval : goal.decreases-add_interval
decreases-add_interval l = 2 * l.depth

abbrev pub decreases-add_item : goal.decreases-add_item
decreases-add_item l = 2 * l.depth + 1

abbrev pub invariant-add_interval-loop-item : goal.invariant-add_interval-loop-item
invariant-add_interval-loop-item l =
    (x : Seen) → x.items ≡ l.rows
    → map (λ e. e.now) l.events.items ≡ map (λ e. e.now) l.fn.events.items ++ events_of_items (joined (l.depth - 1) x) (take l.item-index l.items)
