-- The nodes of a tree that has grown, numbered from the last one on.
use Rattle.std.specs.Prelude.{◌-◌, ℕ, List, length, map, reverse}
use Rattle.ppd_parse.specs.declared.node.Growth.{Growth}
use Rattle.ppd_parse.specs.declared.node.Node.{Node}

-- the new numbers, where there are n nodes
abbrev pub turned : ℕ → List ℕ → List ℕ
turned n ids = map (λ c. n - 1 - c) ids

abbrev pub node_of : ℕ → Growth → Node
node_of n g = record { rule = g.rule; token = g.token; children = turned n g.children.items }

abbrev pub renumbered : List Growth → List Node
renumbered gs = map (node_of (length gs)) (reverse gs)
