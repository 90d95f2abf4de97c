-- The grammar of the language: each of its left sides with what it is made up of. It knows no limits and no parser.
use Rattle.std.specs.Prelude.{◌≡◌, ◌≢◌, true, false, List, [], ◌∷◌, ◌++◌, slice_get, IfSome}
use Rattle.ppd_parse.specs.declared.token.Kind.{Kind}
use Rattle.ppd_parse.specs.declared.token.Kind.TheVariants as K
use Rattle.ppd_parse.specs.declared.symbol.Level.{Level}
use Rattle.ppd_parse.specs.declared.symbol.Level.TheVariants as L
use Rattle.ppd_parse.specs.declared.symbol.Rule.{Rule}
use Rattle.ppd_parse.specs.declared.symbol.Rule.TheVariants as R
use Rattle.ppd_parse.specs.declared.symbol.At.{At}
use Rattle.ppd_parse.specs.Trees.{Shape, leaf, node, forest, Marked, kind_at, is_operator, deeper}

-- the left sides; a tier has the binary operators of its level and all that binds more strongly
pub data Side : Type 0 where
  source_side : Side
  shared_side : Side
  shared_item_side : Side
  sems_side : Side
  chans_side : Side
  function_side : Side
  params_side : Side
  process_side : Side
  block_side : Side
  local_side : Side
  local_item_side : Side
  value_side : Side
  place_side : Side
  change_side : Side
  stmt_side : Side
  expr_side : Side
  tier : Level → Side
  unary_side : Side

infixr 60 ◌·◌
infixr 50 ◌∣◌
-- what stands on a right side
pub data Phrase : Type 0 where
  -- a token of the kind
  word : Kind → Phrase
  -- a token that is a binary operator of the level
  binary : Level → Phrase
  -- what is made up as the left side says
  the : Side → Phrase
  -- one after the other
  ◌·◌ : Phrase → Phrase → Phrase
  -- one or the other
  ◌∣◌ : Phrase → Phrase → Phrase
  -- any number of times
  many : Phrase → Phrase
  -- at most once
  maybe : Phrase → Phrase
  -- nothing, where the next token is not of the kind
  unless : Kind → Phrase
  -- in one more open construct
  opened : Phrase → Phrase
  -- in an expression
  measured : Phrase → Phrase
  -- the trees become one node
  made : Rule → Phrase → Phrase

abbrev pub parens : Phrase → Phrase
parens f = opened (word K.LeftParen · f · word K.RightParen)

abbrev pub brackets : Phrase → Phrase
brackets f = opened (word K.LeftBracket · f · word K.RightBracket)

-- what is more tightly bound than the operators of a level
abbrev pub below : Level → Side
below L.Product = unary_side
below L.Sum = tier L.Product
below L.Compare = tier L.Sum
below L.Equal = tier L.Compare
below L.And = tier L.Equal
below L.Or = tier L.And

-- a call; where it is a value, its name is marked as the first token of an expression is
abbrev pub call : Phrase → Phrase
call name = made R.Call (name · parens (maybe (the expr_side · many (word K.Comma · the expr_side))))

abbrev pub called : Phrase
called = call (measured (word K.Name))

abbrev pub received : Phrase
received = word K.RecvWord · parens (word K.Name)

-- The right sides. An else belongs to the nearest open if: an if stands without one only where no else is next. The
-- value of an assignment that is a statement of its own is no expression: with an expression the assignment is a
-- change.
abbrev pub phrase : Side → Phrase
phrase source_side =
    made R.Source
    (many (the shared_side ∣ the sems_side ∣ the chans_side ∣ the function_side ∣ the process_side) · word K.End)
phrase shared_side =
    made R.Shared
    (word K.SharedWord · word K.IntWord · the shared_item_side · many (word K.Comma · the shared_item_side)
    · word K.Semicolon)
phrase shared_item_side =
    made R.Sitem
    (word K.Name · maybe (word K.AssignMark · maybe (word K.MinusMark) · word K.Number) ∣ word K.Name
    · brackets (word K.Number))
phrase sems_side =
    made R.Sems (word K.SemWord · word K.Name · maybe (word K.AssignMark · word K.Number)
    · many (word K.Comma · word K.Name · maybe (word K.AssignMark · word K.Number)) · word K.Semicolon)
phrase chans_side =
    made R.Chans
    (word K.ChanWord · word K.Name · brackets (word K.Number)
    · many (word K.Comma · word K.Name · brackets (word K.Number)) · word K.Semicolon)
phrase function_side =
    made R.Function
    ((word K.IntWord ∣ word K.VoidWord) · word K.Name · parens (maybe (the params_side)) · the block_side)
phrase params_side =
    made R.Params
    (word K.VoidWord ∣ word K.IntWord · word K.Name · many (word K.Comma · word K.IntWord · word K.Name))
phrase process_side = made R.Process (word K.ProcessWord · word K.Name · the block_side)
phrase block_side = made R.Block (opened (word K.LeftBrace · many (the local_side ∣ the stmt_side) · word K.RightBrace))
phrase local_side =
    made R.Local (word K.IntWord · the local_item_side · many (word K.Comma · the local_item_side) · word K.Semicolon)
phrase local_item_side =
    made R.Litem (word K.Name · maybe (word K.AssignMark · the value_side) ∣ word K.Name · brackets (word K.Number))
phrase value_side = made R.Value (received ∣ called ∣ the expr_side)
phrase place_side = made R.Place (word K.Name · maybe (brackets (the expr_side)))
phrase change_side =
    made R.Change
    (the place_side · (word K.AssignMark ∣ word K.AddMark ∣ word K.SubtractMark) · the expr_side ∣ the place_side
    · (word K.IncreaseMark ∣ word K.DecreaseMark))
phrase stmt_side = made R.Stmt (
    the block_side
    ∣ word K.Semicolon
    ∣ the change_side · word K.Semicolon
    ∣ the place_side · word K.AssignMark · made R.Value (received ∣ called) · word K.Semicolon
    ∣ call (word K.Name) · word K.Semicolon
    ∣ word K.IfWord · parens (the expr_side) · opened (the stmt_side)
    · (word K.ElseWord · opened (the stmt_side) ∣ unless K.ElseWord)
    ∣ word K.WhileWord · parens (the expr_side) · opened (the stmt_side)
    ∣ word K.ForWord
    · parens
    (maybe (word K.IntWord · word K.Name · word K.AssignMark · the expr_side ∣ the change_side)
    · word K.Semicolon · maybe (the expr_side) · word K.Semicolon · maybe (the change_side))
    · opened (the stmt_side)
    ∣ word K.ReturnWord · maybe (called ∣ the expr_side) · word K.Semicolon
    ∣ word K.TakeWord · parens (word K.Name) · word K.Semicolon
    ∣ word K.GiveWord · parens (word K.Name) · word K.Semicolon
    ∣ word K.SendWord · parens (word K.Name · word K.Comma · the expr_side) · word K.Semicolon
    ∣ word K.PrintWord · parens (the expr_side) · word K.Semicolon
    ∣ word K.AssertWord · parens (the expr_side) · word K.Semicolon)
phrase expr_side = measured (the (tier L.Or))
phrase (tier l) = the (below l) ∣ made R.Binary (the (tier l) · binary l · the (below l))
phrase unary_side =
    made R.Unary
    (opened ((word K.NotMark ∣ word K.MinusMark) · the unary_side) ∣ parens (the expr_side) ∣ word K.Number
    ∣ the place_side)

-- Is f a ts t rest: the tokens ts begin with the phrase f, at a place a, and go on with rest; t are its trees.
pub data Is : Phrase → At → List Marked → List Shape → List Marked → Type 0 where
  token : {k : Kind} {a : At} {x : Marked} {rest : List Marked} → kind_at x ≡ k → x.at ≡ a
      → Is (word k) a (x ∷ rest) (leaf x.token ∷ []) rest
  sign : {l : Level} {a : At} {x : Marked} {rest : List Marked} → is_operator l (kind_at x) ≡ true → x.at ≡ a
      → Is (binary l) a (x ∷ rest) (leaf x.token ∷ []) rest
  side : {y : Side} {a : At} {t : List Shape} {ts rest : List Marked} → Is (phrase y) a ts t rest
      → Is (the y) a ts t rest
  both : {f g : Phrase} {a : At} {t u : List Shape} {ts mid rest : List Marked} → Is f a ts t mid → Is g a mid u rest
      → Is (f · g) a ts (t ++ u) rest
  left : {f g : Phrase} {a : At} {t : List Shape} {ts rest : List Marked} → Is f a ts t rest → Is (f ∣ g) a ts t rest
  right : {f g : Phrase} {a : At} {t : List Shape} {ts rest : List Marked} → Is g a ts t rest → Is (f ∣ g) a ts t rest
  done : {f : Phrase} {a : At} {ts : List Marked} → Is (many f) a ts [] ts
  more : {f : Phrase} {a : At} {t u : List Shape} {ts mid rest : List Marked} → Is f a ts t mid
      → Is (many f) a mid u rest → Is (many f) a ts (t ++ u) rest
  absent : {f : Phrase} {a : At} {ts : List Marked} → Is (maybe f) a ts [] ts
  present : {f : Phrase} {a : At} {t : List Shape} {ts rest : List Marked} → Is f a ts t rest → Is (maybe f) a ts t rest
  ended : {k : Kind} {a : At} {ts : List Marked} → IfSome (slice_get ts 0) (λ x. kind_at x ≢ k)
      → Is (unless k) a ts [] ts
  within : {f : Phrase} {a : At} {t : List Shape} {ts rest : List Marked} → Is f (deeper a) ts t rest
      → Is (opened f) a ts t rest
  counted : {f : Phrase} {a : At} {t : List Shape} {ts rest : List Marked} → Is f (record a { inside = true }) ts t rest
      → Is (measured f) a ts t rest
  grouped : {r : Rule} {f : Phrase} {a : At} {t : List Shape} {ts rest : List Marked} → Is f a ts t rest
      → Is (made r f) a ts (node r (forest t) ∷ []) rest

-- the marked tokens are a program with this tree: a source outside every construct
abbrev pub IsProgram : List Marked → List Shape → Type 0
IsProgram ts f = Is (the source_side) (record { depth = 0; inside = false }) ts f []
