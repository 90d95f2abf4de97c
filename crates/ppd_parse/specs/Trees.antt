-- The trees over tokens, and the tokens with where they stand.
use Rattle.std.specs.Prelude.{◌+◌, Bool, true, false, List, [], ◌∷◌, map, nat_le, if◌then◌else◌}
use Rattle.ppd_ast.specs.declared.limits.TheConstants.{MOST_OPEN}
use Rattle.ppd_parse.specs.declared.token.Token.{Token}
use Rattle.ppd_parse.specs.declared.token.TokenKind.{TokenKind}
use Rattle.ppd_parse.specs.declared.token.TokenKind.TheVariants as T
use Rattle.ppd_parse.specs.declared.token.Kind.{Kind}
use Rattle.ppd_parse.specs.declared.token.Kind.TheVariants as K
use Rattle.ppd_parse.specs.declared.symbol.Level.{Level}
use Rattle.ppd_parse.specs.declared.symbol.Level.TheVariants as L
use Rattle.ppd_parse.specs.declared.symbol.Rule.{Rule}
use Rattle.ppd_parse.specs.declared.symbol.At.{At}

-- what a token is to the grammar
abbrev pub kind_of : TokenKind → Kind
kind_of (T.Name text) = K.Name
kind_of (T.Number value) = K.Number
kind_of (T.Word kind) = kind
kind_of (T.Mark kind) = kind
kind_of T.End = K.End

mutual
  pub data Shape : Type 0 where
    leaf : Token → Shape
    node : Rule → Shapes → Shape

  pub data Shapes : Type 0 where
    no_shapes : Shapes
    shape_then : Shape → Shapes → Shapes

abbrev pub forest : List Shape → Shapes
forest [] = no_shapes
forest (t ∷ ts) = shape_then t (forest ts)

-- a token with where it stands: how many constructs are open at it, and whether it stands in an expression
pub record Marked : Type 0 where
  pub token : Token
  pub at : At

abbrev pub kind_at : Marked → Kind
kind_at x = kind_of x.token.kind

-- the binary operators of each level
abbrev pub is_operator : Level → Kind → Bool
is_operator L.Product K.StarMark = true
is_operator L.Product K.SlashMark = true
is_operator L.Product K.PercentMark = true
is_operator L.Sum K.PlusMark = true
is_operator L.Sum K.MinusMark = true
is_operator L.Compare K.LessMark = true
is_operator L.Compare K.AtMostMark = true
is_operator L.Compare K.MoreMark = true
is_operator L.Compare K.AtLeastMark = true
is_operator L.Equal K.EqualMark = true
is_operator L.Equal K.UnequalMark = true
is_operator L.And K.AndMark = true
is_operator L.Or K.OrMark = true
is_operator _ _ = false

-- one more construct is open; one more than the limit stands for all above it
abbrev pub deeper : At → At
deeper a = record a { depth = if nat_le a.depth MOST_OPEN then a.depth + 1 else a.depth }

abbrev pub inside : At → At
inside a = record { depth = a.depth; inside = true }

-- outside every construct
abbrev pub outside : At
outside = record { depth = 0; inside = false }

abbrev pub tokens_of : List Marked → List Token
tokens_of zs = map (λ x. x.token) zs
