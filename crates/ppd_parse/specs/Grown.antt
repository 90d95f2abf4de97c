-- What holds of the nodes that the parser made, and of those of them that have no parent yet.
use Rattle.std.specs.Prelude.{◌≡◌, ◌<◌, ◌++◌, ℕ, List, [], length, slice_index_or, Some}
use Rattle.std.specs.List.{flat_map, sum_by}
use Rattle.ppd_ast.specs.Tally.{IsOnce}
use Rattle.ppd_parse.specs.declared.token.Token.{Token}
use Rattle.ppd_parse.specs.declared.symbol.Rule.{Rule}
use Rattle.ppd_parse.specs.declared.symbol.Rule.TheVariants as R
use Rattle.ppd_parse.specs.declared.node.Growth.{Growth}
use Rattle.ppd_parse.specs.Below.{AreBelow}
use Rattle.ppd_parse.specs.Size.{weigh_node, weigh_all}
use Rattle.ppd_parse.specs.Table.{shapes_of}

-- the children of all nodes
abbrev pub children_in : List Growth → List ℕ
children_in ns = flat_map (λ n. n.children.items) ns

-- the children of a node stand before it
abbrev pub AreRising : List Growth → Type 0
AreRising ns = (k : ℕ) (d : Growth) → k < length ns → AreBelow k (slice_index_or ns k d).children.items

-- each node is a child or without a parent, once
abbrev pub AreOnce : List Growth → List ℕ → Type 0
AreOnce ns roots = (c : ℕ) → c < length ns → IsOnce (children_in ns ++ roots) c

-- a node with a token is a leaf and has no children
abbrev pub IsLeafy : Growth → Type 0
IsLeafy n = (x : Token) → n.token ≡ Some x → (n.rule ≡ R.Leaf) × (n.children.items ≡ [])

abbrev pub AreLeafy : List Growth → Type 0
AreLeafy ns = (k : ℕ) (d : Growth) → k < length ns → IsLeafy (slice_index_or ns k d)

-- no node is outside the trees: they have as many of each kind
abbrev pub AreCounted : List Growth → List ℕ → Type 0
AreCounted ns roots =
    (m : ℕ) (w : Rule → ℕ) → sum_by (λ n. weigh_node m w n.token n.rule) ns ≡ weigh_all m w (shapes_of ns roots)

abbrev pub IsGrown : List Growth → List ℕ → Type 0
IsGrown ns roots = AreBelow (length ns) roots × AreRising ns × AreOnce ns roots × AreLeafy ns × AreCounted ns roots
