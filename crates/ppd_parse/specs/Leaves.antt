-- The tokens of a tree, in source order.
use Rattle.std.specs.Prelude.{List, [], ◌∷◌, ◌++◌}
use Rattle.ppd_parse.specs.declared.token.Token.{Token}
use Rattle.ppd_parse.specs.Grammar.{Shape, Shapes, leaf, node, no_shapes, shape_then}

abbrev mutual
  pub leaves : Shape → List Token
  leaves (leaf x) = x ∷ []
  leaves (node r f) = leaves_in f

  pub leaves_in : Shapes → List Token
  leaves_in no_shapes = []
  leaves_in (shape_then t ts) = leaves t ++ leaves_in ts

abbrev pub leaves_of : List Shape → List Token
leaves_of [] = []
leaves_of (t ∷ ts) = leaves t ++ leaves_of ts
