-- The grammar as the parser reads it: which lists of tokens are which trees, with what begins alike read once.
--
-- A production is a list of parts: a symbol Here, Deeper (in one more open construct) or Inside (an
-- expression), or a Wrap, which makes one node of its construct's trees so far. Lists of the language
-- are symbols that end with what closes them, optional parts symbols of their own; neither makes a
-- node. Where a call, a place, a change and the assignment of a value begin with the same tokens,
-- these are read first, and the rest (StmtRest, PlaceRest, Assigned, AssignedRest, NamedRest) wraps
-- them as what they turned out to be. A binary operator wraps what its level has read so far as its
-- left operand, so every level groups to the left. It reads what the language's grammar reads.
pub use Rattle.ppd_parse.specs.Trees.{
  kind_of,
  Shape,
  Shapes,
  leaf,
  node,
  no_shapes,
  shape_then,
  forest,
  Marked,
  kind_at,
  is_operator,
  deeper,
  inside,
  outside,
  tokens_of,
}
use Rattle.std.specs.Prelude.{◌≡◌, ◌≢◌, ◌-◌, ℕ, true, false, List, [], ◌∷◌, ◌++◌, map, length, take, drop}
use Rattle.ppd_parse.specs.declared.token.Kind.{Kind}
use Rattle.ppd_parse.specs.declared.token.Kind.TheVariants as K
use Rattle.ppd_parse.specs.declared.symbol.Level.{Level}
use Rattle.ppd_parse.specs.declared.symbol.Level.TheVariants as L
use Rattle.ppd_parse.specs.declared.symbol.Rule.{Rule}
use Rattle.ppd_parse.specs.declared.symbol.Rule.TheVariants as R
use Rattle.ppd_parse.specs.declared.symbol.Symbol.{Symbol}
use Rattle.ppd_parse.specs.declared.symbol.Symbol.TheVariants as S
use Rattle.ppd_parse.specs.declared.symbol.At.{At}
use Rattle.ppd_parse.specs.declared.symbol.Part.{Part}
use Rattle.ppd_parse.specs.declared.symbol.Part.TheVariants as P
use Rattle.ppd_parse.specs.declared.symbol.Want.{Want}
use Rattle.ppd_parse.specs.declared.symbol.Want.TheVariants.{Get, Close}

-- the trees from the base on become one node
abbrev pub close : Rule → ℕ → List Shape → List Shape
close r b s = take b s ++ node r (forest (drop b s)) ∷ []

-- the ways in which a symbol is made up; those of one symbol stand together
pub data Production : Symbol → Type 0 where
  source : Production S.Source
  items_end : Production S.Items
  items_shared : Production S.Items
  items_sems : Production S.Items
  items_chans : Production S.Items
  items_function : Production S.Items
  items_process : Production S.Items
  shared : Production S.Shared
  shared_end : Production S.SharedItems
  shared_more : Production S.SharedItems
  shared_item : Production S.SharedItem
  no_start : Production S.SharedStart
  start : Production S.SharedStart
  shared_length : Production S.SharedStart
  start_plain : Production S.StartValue
  start_minus : Production S.StartValue
  sems : Production S.Sems
  no_sem_start : Production S.SemStart
  sem_start : Production S.SemStart
  sems_end : Production S.SemItems
  sems_more : Production S.SemItems
  chans : Production S.Chans
  chans_end : Production S.ChanItems
  chans_more : Production S.ChanItems
  function_int : Production S.Function
  function_void : Production S.Function
  no_params : Production S.ParamsEnd
  some_params : Production S.ParamsEnd
  params_void : Production S.Params
  params_int : Production S.Params
  params_end : Production S.ParamItems
  params_more : Production S.ParamItems
  process : Production S.Process
  block : Production S.Block
  stmts_end : Production S.Stmts
  stmts_local : Production S.Stmts
  stmts_more : Production S.Stmts
  local : Production S.Local
  local_end : Production S.LocalItems
  local_more : Production S.LocalItems
  local_item : Production S.LocalItem
  no_local_start : Production S.LocalStart
  local_start : Production S.LocalStart
  local_length : Production S.LocalStart
  value_recv : Production S.Value
  value_plain : Production S.Value
  call_or_name : Production S.CallOrExpr
  other_expr : Production S.CallOrExpr
  named_call : Production S.NamedRest
  named_expr : Production S.NamedRest
  no_args : Production S.Args
  some_args : Production S.Args
  args_end : Production S.ArgsMore
  args_more : Production S.ArgsMore
  place : Production S.Place
  no_index : Production S.PlaceEnd
  index : Production S.PlaceEnd
  change : Production S.Change
  assign : Production S.ChangeEnd
  add : Production S.ChangeEnd
  subtract : Production S.ChangeEnd
  increase : Production S.ChangeEnd
  decrease : Production S.ChangeEnd
  expr : Production S.Expr
  expr_rest : Production S.ExprRest
  unary_place : Production S.Unary
  unary_other : Production S.Unary
  minus : Production S.OtherUnary
  negation : Production S.OtherUnary
  parens : Production S.OtherUnary
  number : Production S.OtherUnary
  stmt_block : Production S.Stmt
  stmt_empty : Production S.Stmt
  stmt_name : Production S.Stmt
  stmt_if : Production S.Stmt
  stmt_while : Production S.Stmt
  stmt_for : Production S.Stmt
  stmt_return : Production S.Stmt
  stmt_take : Production S.Stmt
  stmt_give : Production S.Stmt
  stmt_send : Production S.Stmt
  stmt_print : Production S.Stmt
  stmt_assert : Production S.Stmt
  rest_call : Production S.StmtRest
  rest_element : Production S.StmtRest
  rest_scalar : Production S.StmtRest
  rest_assign : Production S.PlaceRest
  rest_add : Production S.PlaceRest
  rest_subtract : Production S.PlaceRest
  rest_increase : Production S.PlaceRest
  rest_decrease : Production S.PlaceRest
  assigned_recv : Production S.Assigned
  assigned_name : Production S.Assigned
  assigned_other : Production S.Assigned
  assigned_call : Production S.AssignedRest
  assigned_expr : Production S.AssignedRest
  no_else : Production S.ElsePart
  some_else : Production S.ElsePart
  for_plain : Production S.ForStart
  for_local : Production S.ForStart
  for_change : Production S.ForStart
  for_ever : Production S.ForTest
  for_while : Production S.ForTest
  for_still : Production S.ForStep
  for_step : Production S.ForStep
  return_plain : Production S.ReturnEnd
  return_value : Production S.ReturnEnd
  operand : (l : Level) → Production (S.Operand l)
  chain_end : (l : Level) → Production (S.Chain l)
  chain_more : (l : Level) → Production (S.Chain l)

-- an operand of a level: what binds more strongly
abbrev pub operand_parts : Level → List Part
operand_parts L.Product = P.Here S.Unary ∷ []
operand_parts L.Sum = P.Here S.Unary ∷ P.Here (S.Chain L.Product) ∷ []
operand_parts L.Compare = P.Here S.Unary ∷ P.Here (S.Chain L.Product) ∷ P.Here (S.Chain L.Sum) ∷ []
operand_parts L.Equal =
    P.Here S.Unary ∷ P.Here (S.Chain L.Product) ∷ P.Here (S.Chain L.Sum) ∷ P.Here (S.Chain L.Compare) ∷ []
operand_parts L.And =
    P.Here S.Unary ∷ P.Here (S.Chain L.Product) ∷ P.Here (S.Chain L.Sum) ∷ P.Here (S.Chain L.Compare)
    ∷ P.Here (S.Chain L.Equal) ∷ []
operand_parts L.Or =
    P.Here S.Unary ∷ P.Here (S.Chain L.Product) ∷ P.Here (S.Chain L.Sum) ∷ P.Here (S.Chain L.Compare)
    ∷ P.Here (S.Chain L.Equal) ∷ P.Here (S.Chain L.And) ∷ []

-- the parts of a production, in order
abbrev pub parts : {s : Symbol} → Production s → List Part
parts source = P.Here S.Items ∷ P.Wrap R.Source ∷ []
parts items_end = P.Here (S.Exact K.End) ∷ []
parts items_shared = P.Here S.Shared ∷ P.Here S.Items ∷ []
parts items_sems = P.Here S.Sems ∷ P.Here S.Items ∷ []
parts items_chans = P.Here S.Chans ∷ P.Here S.Items ∷ []
parts items_function = P.Here S.Function ∷ P.Here S.Items ∷ []
parts items_process = P.Here S.Process ∷ P.Here S.Items ∷ []
parts shared =
    P.Here (S.Exact K.SharedWord) ∷ P.Here (S.Exact K.IntWord) ∷ P.Here S.SharedItem ∷ P.Here S.SharedItems
    ∷ P.Wrap R.Shared ∷ []
parts shared_end = P.Here (S.Exact K.Semicolon) ∷ []
parts shared_more = P.Here (S.Exact K.Comma) ∷ P.Here S.SharedItem ∷ P.Here S.SharedItems ∷ []
parts shared_item = P.Here (S.Exact K.Name) ∷ P.Here S.SharedStart ∷ P.Wrap R.Sitem ∷ []
parts no_start = []
parts start = P.Here (S.Exact K.AssignMark) ∷ P.Here S.StartValue ∷ []
parts shared_length =
    P.Deeper (S.Exact K.LeftBracket) ∷ P.Deeper (S.Exact K.Number) ∷ P.Deeper (S.Exact K.RightBracket) ∷ []
parts start_plain = P.Here (S.Exact K.Number) ∷ []
parts start_minus = P.Here (S.Exact K.MinusMark) ∷ P.Here (S.Exact K.Number) ∷ []
parts sems =
    P.Here (S.Exact K.SemWord) ∷ P.Here (S.Exact K.Name) ∷ P.Here S.SemStart ∷ P.Here S.SemItems ∷ P.Wrap R.Sems ∷ []
parts no_sem_start = []
parts sem_start = P.Here (S.Exact K.AssignMark) ∷ P.Here (S.Exact K.Number) ∷ []
parts sems_end = P.Here (S.Exact K.Semicolon) ∷ []
parts sems_more = P.Here (S.Exact K.Comma) ∷ P.Here (S.Exact K.Name) ∷ P.Here S.SemStart ∷ P.Here S.SemItems ∷ []
parts chans =
    P.Here (S.Exact K.ChanWord) ∷ P.Here (S.Exact K.Name) ∷ P.Deeper (S.Exact K.LeftBracket)
    ∷ P.Deeper (S.Exact K.Number) ∷ P.Deeper (S.Exact K.RightBracket) ∷ P.Here S.ChanItems ∷ P.Wrap R.Chans ∷ []
parts chans_end = P.Here (S.Exact K.Semicolon) ∷ []
parts chans_more =
    P.Here (S.Exact K.Comma) ∷ P.Here (S.Exact K.Name) ∷ P.Deeper (S.Exact K.LeftBracket)
    ∷ P.Deeper (S.Exact K.Number) ∷ P.Deeper (S.Exact K.RightBracket) ∷ P.Here S.ChanItems ∷ []
parts function_int =
    P.Here (S.Exact K.IntWord) ∷ P.Here (S.Exact K.Name) ∷ P.Deeper (S.Exact K.LeftParen) ∷ P.Deeper S.ParamsEnd
    ∷ P.Here S.Block ∷ P.Wrap R.Function ∷ []
parts function_void =
    P.Here (S.Exact K.VoidWord) ∷ P.Here (S.Exact K.Name) ∷ P.Deeper (S.Exact K.LeftParen) ∷ P.Deeper S.ParamsEnd
    ∷ P.Here S.Block ∷ P.Wrap R.Function ∷ []
parts no_params = P.Here (S.Exact K.RightParen) ∷ []
parts some_params = P.Here S.Params ∷ P.Here (S.Exact K.RightParen) ∷ []
parts params_void = P.Here (S.Exact K.VoidWord) ∷ P.Wrap R.Params ∷ []
parts params_int = P.Here (S.Exact K.IntWord) ∷ P.Here (S.Exact K.Name) ∷ P.Here S.ParamItems ∷ P.Wrap R.Params ∷ []
parts params_end = []
parts params_more =
    P.Here (S.Exact K.Comma) ∷ P.Here (S.Exact K.IntWord) ∷ P.Here (S.Exact K.Name) ∷ P.Here S.ParamItems ∷ []
parts process = P.Here (S.Exact K.ProcessWord) ∷ P.Here (S.Exact K.Name) ∷ P.Here S.Block ∷ P.Wrap R.Process ∷ []
parts block = P.Deeper (S.Exact K.LeftBrace) ∷ P.Deeper S.Stmts ∷ P.Wrap R.Block ∷ []
parts stmts_end = P.Here (S.Exact K.RightBrace) ∷ []
parts stmts_local = P.Here S.Local ∷ P.Here S.Stmts ∷ []
parts stmts_more = P.Here S.Stmt ∷ P.Here S.Stmts ∷ []
parts local = P.Here (S.Exact K.IntWord) ∷ P.Here S.LocalItem ∷ P.Here S.LocalItems ∷ P.Wrap R.Local ∷ []
parts local_end = P.Here (S.Exact K.Semicolon) ∷ []
parts local_more = P.Here (S.Exact K.Comma) ∷ P.Here S.LocalItem ∷ P.Here S.LocalItems ∷ []
parts local_item = P.Here (S.Exact K.Name) ∷ P.Here S.LocalStart ∷ P.Wrap R.Litem ∷ []
parts no_local_start = []
parts local_start = P.Here (S.Exact K.AssignMark) ∷ P.Here S.Value ∷ []
parts local_length =
    P.Deeper (S.Exact K.LeftBracket) ∷ P.Deeper (S.Exact K.Number) ∷ P.Deeper (S.Exact K.RightBracket) ∷ []
parts value_recv =
    P.Here (S.Exact K.RecvWord) ∷ P.Deeper (S.Exact K.LeftParen) ∷ P.Deeper (S.Exact K.Name)
    ∷ P.Deeper (S.Exact K.RightParen) ∷ P.Wrap R.Value ∷ []
parts value_plain = P.Here S.CallOrExpr ∷ P.Wrap R.Value ∷ []
parts call_or_name = P.Inside (S.Exact K.Name) ∷ P.Here S.NamedRest ∷ []
parts other_expr = P.Inside S.OtherUnary ∷ P.Inside S.ExprRest ∷ []
parts named_call = P.Deeper (S.Exact K.LeftParen) ∷ P.Deeper S.Args ∷ P.Wrap R.Call ∷ []
parts named_expr = P.Inside S.PlaceEnd ∷ P.Wrap R.Place ∷ P.Wrap R.Unary ∷ P.Inside S.ExprRest ∷ []
parts no_args = P.Here (S.Exact K.RightParen) ∷ []
parts some_args = P.Here S.Expr ∷ P.Here S.ArgsMore ∷ []
parts args_end = P.Here (S.Exact K.RightParen) ∷ []
parts args_more = P.Here (S.Exact K.Comma) ∷ P.Here S.Expr ∷ P.Here S.ArgsMore ∷ []
parts place = P.Here (S.Exact K.Name) ∷ P.Here S.PlaceEnd ∷ P.Wrap R.Place ∷ []
parts no_index = []
parts index = P.Deeper (S.Exact K.LeftBracket) ∷ P.Deeper S.Expr ∷ P.Deeper (S.Exact K.RightBracket) ∷ []
parts change = P.Here S.Place ∷ P.Here S.ChangeEnd ∷ P.Wrap R.Change ∷ []
parts assign = P.Here (S.Exact K.AssignMark) ∷ P.Here S.Expr ∷ []
parts add = P.Here (S.Exact K.AddMark) ∷ P.Here S.Expr ∷ []
parts subtract = P.Here (S.Exact K.SubtractMark) ∷ P.Here S.Expr ∷ []
parts increase = P.Here (S.Exact K.IncreaseMark) ∷ []
parts decrease = P.Here (S.Exact K.DecreaseMark) ∷ []
parts expr = P.Inside S.Unary ∷ P.Inside S.ExprRest ∷ []
parts expr_rest =
    P.Here (S.Chain L.Product) ∷ P.Here (S.Chain L.Sum) ∷ P.Here (S.Chain L.Compare) ∷ P.Here (S.Chain L.Equal)
    ∷ P.Here (S.Chain L.And) ∷ P.Here (S.Chain L.Or) ∷ []
parts unary_place = P.Here S.Place ∷ P.Wrap R.Unary ∷ []
parts unary_other = P.Here S.OtherUnary ∷ []
parts minus = P.Deeper (S.Exact K.MinusMark) ∷ P.Deeper S.Unary ∷ P.Wrap R.Unary ∷ []
parts negation = P.Deeper (S.Exact K.NotMark) ∷ P.Deeper S.Unary ∷ P.Wrap R.Unary ∷ []
parts parens = P.Deeper (S.Exact K.LeftParen) ∷ P.Deeper S.Expr ∷ P.Deeper (S.Exact K.RightParen) ∷ P.Wrap R.Unary ∷ []
parts number = P.Here (S.Exact K.Number) ∷ P.Wrap R.Unary ∷ []
parts stmt_block = P.Here S.Block ∷ P.Wrap R.Stmt ∷ []
parts stmt_empty = P.Here (S.Exact K.Semicolon) ∷ P.Wrap R.Stmt ∷ []
parts stmt_name = P.Here (S.Exact K.Name) ∷ P.Here S.StmtRest ∷ []
parts stmt_if =
    P.Here (S.Exact K.IfWord) ∷ P.Deeper (S.Exact K.LeftParen) ∷ P.Deeper S.Expr ∷ P.Deeper (S.Exact K.RightParen)
    ∷ P.Deeper S.Stmt ∷ P.Here S.ElsePart ∷ P.Wrap R.Stmt ∷ []
parts stmt_while =
    P.Here (S.Exact K.WhileWord) ∷ P.Deeper (S.Exact K.LeftParen) ∷ P.Deeper S.Expr ∷ P.Deeper (S.Exact K.RightParen)
    ∷ P.Deeper S.Stmt ∷ P.Wrap R.Stmt ∷ []
parts stmt_for =
    P.Here (S.Exact K.ForWord) ∷ P.Deeper (S.Exact K.LeftParen) ∷ P.Deeper S.ForStart ∷ P.Deeper S.ForTest
    ∷ P.Deeper S.ForStep ∷ P.Deeper S.Stmt ∷ P.Wrap R.Stmt ∷ []
parts stmt_return = P.Here (S.Exact K.ReturnWord) ∷ P.Here S.ReturnEnd ∷ P.Wrap R.Stmt ∷ []
parts stmt_take =
    P.Here (S.Exact K.TakeWord) ∷ P.Deeper (S.Exact K.LeftParen) ∷ P.Deeper (S.Exact K.Name)
    ∷ P.Deeper (S.Exact K.RightParen) ∷ P.Here (S.Exact K.Semicolon) ∷ P.Wrap R.Stmt ∷ []
parts stmt_give =
    P.Here (S.Exact K.GiveWord) ∷ P.Deeper (S.Exact K.LeftParen) ∷ P.Deeper (S.Exact K.Name)
    ∷ P.Deeper (S.Exact K.RightParen) ∷ P.Here (S.Exact K.Semicolon) ∷ P.Wrap R.Stmt ∷ []
parts stmt_send =
    P.Here (S.Exact K.SendWord) ∷ P.Deeper (S.Exact K.LeftParen) ∷ P.Deeper (S.Exact K.Name)
    ∷ P.Deeper (S.Exact K.Comma) ∷ P.Deeper S.Expr ∷ P.Deeper (S.Exact K.RightParen) ∷ P.Here (S.Exact K.Semicolon)
    ∷ P.Wrap R.Stmt ∷ []
parts stmt_print =
    P.Here (S.Exact K.PrintWord) ∷ P.Deeper (S.Exact K.LeftParen) ∷ P.Deeper S.Expr ∷ P.Deeper (S.Exact K.RightParen)
    ∷ P.Here (S.Exact K.Semicolon) ∷ P.Wrap R.Stmt ∷ []
parts stmt_assert =
    P.Here (S.Exact K.AssertWord) ∷ P.Deeper (S.Exact K.LeftParen) ∷ P.Deeper S.Expr
    ∷ P.Deeper (S.Exact K.RightParen) ∷ P.Here (S.Exact K.Semicolon) ∷ P.Wrap R.Stmt ∷ []
parts rest_call =
    P.Deeper (S.Exact K.LeftParen) ∷ P.Deeper S.Args ∷ P.Wrap R.Call ∷ P.Here (S.Exact K.Semicolon) ∷ P.Wrap R.Stmt
    ∷ []
parts rest_element =
    P.Deeper (S.Exact K.LeftBracket) ∷ P.Deeper S.Expr ∷ P.Deeper (S.Exact K.RightBracket) ∷ P.Wrap R.Place
    ∷ P.Here S.PlaceRest ∷ []
parts rest_scalar = P.Wrap R.Place ∷ P.Here S.PlaceRest ∷ []
parts rest_assign = P.Here (S.Exact K.AssignMark) ∷ P.Here S.Assigned ∷ []
parts rest_add =
    P.Here (S.Exact K.AddMark) ∷ P.Here S.Expr ∷ P.Wrap R.Change ∷ P.Here (S.Exact K.Semicolon) ∷ P.Wrap R.Stmt ∷ []
parts rest_subtract =
    P.Here (S.Exact K.SubtractMark) ∷ P.Here S.Expr ∷ P.Wrap R.Change ∷ P.Here (S.Exact K.Semicolon) ∷ P.Wrap R.Stmt
    ∷ []
parts rest_increase =
    P.Here (S.Exact K.IncreaseMark) ∷ P.Wrap R.Change ∷ P.Here (S.Exact K.Semicolon) ∷ P.Wrap R.Stmt ∷ []
parts rest_decrease =
    P.Here (S.Exact K.DecreaseMark) ∷ P.Wrap R.Change ∷ P.Here (S.Exact K.Semicolon) ∷ P.Wrap R.Stmt ∷ []
parts assigned_recv =
    P.Here (S.Exact K.RecvWord) ∷ P.Deeper (S.Exact K.LeftParen) ∷ P.Deeper (S.Exact K.Name)
    ∷ P.Deeper (S.Exact K.RightParen) ∷ P.Wrap R.Value ∷ P.Here (S.Exact K.Semicolon) ∷ P.WrapBack R.Stmt ∷ []
parts assigned_name = P.Inside (S.Exact K.Name) ∷ P.Here S.AssignedRest ∷ []
parts assigned_other =
    P.Inside S.OtherUnary ∷ P.Inside S.ExprRest ∷ P.WrapBack R.Change ∷ P.Here (S.Exact K.Semicolon)
    ∷ P.WrapBack R.Stmt ∷ []
parts assigned_call =
    P.Deeper (S.Exact K.LeftParen) ∷ P.Deeper S.Args ∷ P.Wrap R.Call ∷ P.Wrap R.Value ∷ P.Here (S.Exact K.Semicolon)
    ∷ P.WrapBack R.Stmt ∷ []
parts assigned_expr =
    P.Inside S.PlaceEnd ∷ P.Wrap R.Place ∷ P.Wrap R.Unary ∷ P.Inside S.ExprRest ∷ P.WrapBack R.Change
    ∷ P.Here (S.Exact K.Semicolon) ∷ P.WrapBack R.Stmt ∷ []
parts no_else = []
parts some_else = P.Here (S.Exact K.ElseWord) ∷ P.Deeper S.Stmt ∷ []
parts for_plain = P.Here (S.Exact K.Semicolon) ∷ []
parts for_local =
    P.Here (S.Exact K.IntWord) ∷ P.Here (S.Exact K.Name) ∷ P.Here (S.Exact K.AssignMark) ∷ P.Here S.Expr
    ∷ P.Here (S.Exact K.Semicolon) ∷ []
parts for_change = P.Here S.Change ∷ P.Here (S.Exact K.Semicolon) ∷ []
parts for_ever = P.Here (S.Exact K.Semicolon) ∷ []
parts for_while = P.Here S.Expr ∷ P.Here (S.Exact K.Semicolon) ∷ []
parts for_still = P.Here (S.Exact K.RightParen) ∷ []
parts for_step = P.Here S.Change ∷ P.Here (S.Exact K.RightParen) ∷ []
parts return_plain = P.Here (S.Exact K.Semicolon) ∷ []
parts return_value = P.Here S.CallOrExpr ∷ P.Here (S.Exact K.Semicolon) ∷ []
parts (operand l) = operand_parts l
parts (chain_end l) = []
parts (chain_more l) = P.Here (S.Operator l) ∷ P.Here (S.Operand l) ∷ P.Wrap R.Binary ∷ P.Here (S.Chain l) ∷ []

-- An optional part is left out only where the next token does not begin it: so an else belongs to the nearest open
-- if. A name before a parenthesis is a call, and no expression.
abbrev pub Stands : {s : Symbol} → Production s → Kind → Type 0
Stands no_start k = (k ≢ K.AssignMark) × (k ≢ K.LeftBracket)
Stands no_sem_start k = (k ≢ K.AssignMark)
Stands params_end k = (k ≢ K.Comma)
Stands no_local_start k = (k ≢ K.AssignMark) × (k ≢ K.LeftBracket)
Stands named_expr k = (k ≢ K.LeftParen)
Stands no_index k = (k ≢ K.LeftBracket)
Stands assigned_expr k = (k ≢ K.LeftParen)
Stands no_else k = (k ≢ K.ElseWord)
Stands (chain_end l) k = is_operator l k ≡ false
Stands _ k = Unit {0}

abbrev pub MayStand : {s : Symbol} → Production s → List Marked → Type 0
MayStand p [] = Unit {0}
MayStand p (x ∷ ts) = Stands p (kind_at x)

-- a part at a place, where the trees of its construct begin at the base; two trees stand before the base in WrapBack
abbrev pub want_in : At → ℕ → Part → Want
want_in a b (P.Here y) = Get y a b
want_in a b (P.Deeper y) = Get y (deeper a) b
want_in a b (P.Inside y) = Get y (inside a) b
want_in a b (P.Wrap r) = Close r b
want_in a b (P.WrapBack r) = Close r (b - 2)

abbrev pub wants_in : At → ℕ → List Part → List Want
wants_in a b ps = map (want_in a b) ps

-- a rest of a construct goes on with the construct's trees; every other symbol begins its own
abbrev pub base_in : Symbol → ℕ → ℕ → ℕ
base_in S.NamedRest b n = b
base_in S.ExprRest b n = b
base_in S.StmtRest b n = b
base_in S.PlaceRest b n = b
base_in S.AssignedRest b n = b
base_in (S.Chain l) b n = b
base_in _ b n = n

-- Reads w s ts t rest: with the trees s before it, the tokens ts begin with what is wanted and go on with rest, and t
-- are the trees then.
mutual
  pub data Reads : Want → List Shape → List Marked → List Shape → List Marked → Type 0 where
    exact : {k : Kind} {a : At} {b : ℕ} {s : List Shape} {x : Marked} {rest : List Marked} → kind_at x ≡ k → x.at ≡ a
        → Reads (Get (S.Exact k) a b) s (x ∷ rest) (s ++ leaf x.token ∷ []) rest
    operator : {l : Level} {a : At} {b : ℕ} {s : List Shape} {x : Marked} {rest : List Marked}
        → is_operator l (kind_at x) ≡ true → x.at ≡ a
        → Reads (Get (S.Operator l) a b) s (x ∷ rest) (s ++ leaf x.token ∷ []) rest
    wrap : {r : Rule} {b : ℕ} {s : List Shape} {ts : List Marked} → Reads (Close r b) s ts (close r b s) ts
    by : {y : Symbol} {a : At} {b : ℕ} {s t : List Shape} {ts rest : List Marked} → (p : Production y)
        → MayStand p ts → ReadsAll (wants_in a (base_in y b (length s)) (parts p)) s ts t rest
        → Reads (Get y a b) s ts t rest

  pub data ReadsAll : List Want → List Shape → List Marked → List Shape → List Marked → Type 0 where
    nothing : {s : List Shape} {ts : List Marked} → ReadsAll [] s ts s ts
    next : {w : Want} {ws : List Want} {s t u : List Shape} {ts mid rest : List Marked} → Reads w s ts t mid
        → ReadsAll ws t mid u rest → ReadsAll (w ∷ ws) s ts u rest
