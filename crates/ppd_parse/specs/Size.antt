-- How many nodes trees have, and how many of some rule.
use Rattle.std.specs.Prelude.{◌+◌, ℕ, List, [], ◌∷◌, Option, Some, None}
use Rattle.ppd_parse.specs.declared.token.Token.{Token}
use Rattle.ppd_parse.specs.declared.symbol.Rule.{Rule}
use Rattle.ppd_parse.specs.Grammar.{Shape, Shapes, leaf, node, no_shapes, shape_then}

-- m for each token of a tree, and w r for each node of rule r
abbrev mutual
  pub weigh : ℕ → (Rule → ℕ) → Shape → ℕ
  weigh m w (leaf x) = m
  weigh m w (node r f) = w r + weigh_in m w f

  pub weigh_in : ℕ → (Rule → ℕ) → Shapes → ℕ
  weigh_in m w no_shapes = 0
  weigh_in m w (shape_then t ts) = weigh m w t + weigh_in m w ts

abbrev pub weigh_all : ℕ → (Rule → ℕ) → List Shape → ℕ
weigh_all m w [] = 0
weigh_all m w (t ∷ ts) = weigh m w t + weigh_all m w ts

-- the same for a node
abbrev pub weigh_node : ℕ → (Rule → ℕ) → Option Token → Rule → ℕ
weigh_node m w (Some x) r = m
weigh_node m w None r = w r
