use Rattle.std.proofs.Common.{◌≡◌, ◌++◌, length, map, reverse, take}
use Rattle.ppd_parse.specs.Renumbered.{node_of}
use Rattle.ppd_parse.proofs.numbering.renumber.Given as goal

abbrev pub invariant-loop-growth : goal.invariant-loop-growth
invariant-loop-growth l = record {
  done : l.nodes.items ++ map (node_of l.count) (reverse l.growths.items) ≡ map (node_of l.count) (reverse l.fn.grove.nodes.items);
  left : l.growths.items ≡ take (length l.growths.items) l.fn.grove.nodes.items;
}

abbrev pub decreases-loop-growth : goal.decreases-loop-growth
decreases-loop-growth l = length l.growths.items
