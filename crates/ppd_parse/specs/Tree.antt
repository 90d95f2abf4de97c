-- The table of nodes that a parse answers: the tree that it stands for, and how its nodes are numbered.
use Rattle.std.specs.Prelude.{◌≡◌, ◌≢◌, ◌<◌, ◌+◌, ◌-◌, ℕ, List, [], ◌∷◌, length, map, slice_index_or, All, Some, None}
use Rattle.std.specs.List.{flat_map}
use Rattle.ppd_ast.specs.Tally.{IsOnce}
use Rattle.ppd_parse.specs.declared.token.Token.{Token}
use Rattle.ppd_parse.specs.declared.symbol.Rule.TheVariants as R
use Rattle.ppd_parse.specs.declared.node.Node.{Node}
use Rattle.ppd_parse.specs.Grammar.{Shape}
use Rattle.ppd_parse.specs.Table.{no_shape, shape_or}

-- the trees of the nodes from number i on: a leaf's is its token, another's its rule over its children's; child c of
-- node i stands in place c - (i + 1) of the nodes after it
abbrev pub trees_from : ℕ → List Node → List Shape
trees_from i [] = []
trees_from i (n ∷ ns) =
    let after : List Shape = trees_from (i + 1) ns in
    shape_or n.token n.rule (map (λ c. slice_index_or after (c - (i + 1)) no_shape) n.children) ∷ after

-- the tree that the table stands for, from node 0
abbrev pub tree_of : List Node → Shape
tree_of ns = slice_index_or (trees_from 0 ns) 0 no_shape

-- the children of all nodes
abbrev pub children_of : List Node → List ℕ
children_of ns = flat_map (λ n. n.children) ns

-- Node 0 is the root. The children of a node are nodes with larger numbers, and each node but the root is the child
-- of one node, once: none is shared, none is stray. The leaves are the nodes with a token, and have no children.
pub record IsTable (ns : List Node) : Type 0 where
  pub some : 0 < length ns
  pub larger : (i : ℕ) (d : Node) → i < length ns
      → All (λ c. (i < c) × (c < length ns)) (slice_index_or ns i d).children
  pub once : (c : ℕ) → 0 < c → c < length ns → IsOnce (children_of ns) c
  pub leaves : (i : ℕ) (d : Node) (x : Token) → i < length ns → (slice_index_or ns i d).token ≡ Some x
      → ((slice_index_or ns i d).rule ≡ R.Leaf) × ((slice_index_or ns i d).children ≡ [])
  pub inner : (i : ℕ) (d : Node) → i < length ns → (slice_index_or ns i d).token ≡ None
      → (slice_index_or ns i d).rule ≢ R.Leaf
