-- The trees of a table of nodes.
use Rattle.std.specs.Prelude.{ℕ, List, [], ◌∷◌, ◌++◌, map, Option, Some, None, slice_index_or}
use Rattle.ppd_parse.specs.declared.token.Token.{Token}
use Rattle.ppd_parse.specs.declared.symbol.Rule.{Rule}
use Rattle.ppd_parse.specs.declared.symbol.Rule.TheVariants as R
use Rattle.ppd_parse.specs.declared.node.Growth.{Growth}
use Rattle.ppd_parse.specs.Grammar.{Shape, leaf, node, forest}

abbrev pub no_shape : Shape
no_shape = node R.Leaf (forest [])

abbrev pub shape_or : Option Token → Rule → List Shape → Shape
shape_or (Some x) r f = leaf x
shape_or None r f = node r (forest f)

abbrev pub at_ids : List Shape → List ℕ → List Shape
at_ids ts ids = map (λ i. slice_index_or ts i no_shape) ids

abbrev pub shape_of : List Shape → Growth → Shape
shape_of ts n = shape_or n.token n.rule (at_ids ts n.children.items)

-- the tree of each node, over those of the nodes before it
abbrev pub table : List Shape → List Growth → List Shape
table ts [] = ts
table ts (n ∷ ns) = table (ts ++ shape_of ts n ∷ []) ns

abbrev pub shapes_of : List Growth → List ℕ → List Shape
shapes_of ns ids = at_ids (table [] ns) ids
