-- What stands in the children of a node, while a loop goes over them.
use Rattle.std.proofs.Common.{◌≡◌, ℕ, ◌+◌, ◌<◌, ◌≤◌, List, take, length, get_or}
use Rattle.ppd_parse.specs.declared.node.Node.{Node}
use Rattle.ppd_check_names.specs.Nodes.{children_of}
use Rattle.ppd_check_names.specs.Cost.{total, plain_at, nested_at, plain_below, nested_below}
use Rattle.ppd_check_names.proofs.Table.Costs.{total_more, some_at, plain_all, nested_all, plain_part, nested_part}

-- one child more
pub next_child : (ns : List Node) (k : ℕ) (cs : List ℕ) → k < length cs
    → (total (plain_at ns) (take (k + 1) cs) ≡ total (plain_at ns) (take k cs) + plain_at ns (get_or cs k 0))
    × (total (nested_at ns) (take (k + 1) cs) ≡ total (nested_at ns) (take k cs) + nested_at ns (get_or cs k 0))
    × (1 ≤ plain_at ns (get_or cs k 0) + nested_at ns (get_or cs k 0))
next_child ns k cs h = (total_more (plain_at ns) cs k 0 h, total_more (nested_at ns) cs k 0 h, some_at ns (get_or cs k 0))

-- those so far and the next one are no more than all
pub child_part : (ns : List Node) (i k : ℕ) (cs : List ℕ) → cs ≡ children_of ns i → k < length cs
    → (total (plain_at ns) (take k cs) + plain_at ns (get_or cs k 0) ≤ plain_below ns i)
    × (total (nested_at ns) (take k cs) + nested_at ns (get_or cs k 0) ≤ nested_below ns i)
    × (1 ≤ plain_at ns (get_or cs k 0) + nested_at ns (get_or cs k 0))
child_part ns i k cs e h = (plain_part ns i k 0 cs e h, nested_part ns i k 0 cs e h, some_at ns (get_or cs k 0))

-- all of them
pub all_children : (ns : List Node) (i k : ℕ) (cs : List ℕ) → cs ≡ children_of ns i → length cs ≤ k
    → (total (plain_at ns) (take k cs) ≡ plain_below ns i) × (total (nested_at ns) (take k cs) ≡ nested_below ns i)
all_children ns i k cs e h = (plain_all ns i k cs e h, nested_all ns i k cs e h)
