-- What stacks the parser has: what may follow an expression or a list of parameters, and the end of the source.
use Rattle.std.specs.Prelude.{Bool, true, false, List, [], ◌∷◌, Option, Some, None, ◌||◌}
use Rattle.ppd_parse.specs.declared.token.Kind.{Kind}
use Rattle.ppd_parse.specs.declared.token.Kind.TheVariants as K
use Rattle.ppd_parse.specs.declared.symbol.Level.TheVariants as L
use Rattle.ppd_parse.specs.declared.symbol.Symbol.{Symbol}
use Rattle.ppd_parse.specs.declared.symbol.Symbol.TheVariants as S
use Rattle.ppd_parse.specs.declared.symbol.Want.{Want}
use Rattle.ppd_parse.specs.declared.symbol.Want.TheVariants.{Get, Close}
use Rattle.ppd_parse.specs.Grammar.{is_operator}

-- a first token of a symbol, if its shortest form has any
abbrev pub lead_of : Symbol → Option Kind
lead_of (S.Exact k) = Some k
lead_of (S.Operator L.Product) = Some K.StarMark
lead_of (S.Operator L.Sum) = Some K.PlusMark
lead_of (S.Operator L.Compare) = Some K.LessMark
lead_of (S.Operator L.Equal) = Some K.EqualMark
lead_of (S.Operator L.And) = Some K.AndMark
lead_of (S.Operator L.Or) = Some K.OrMark
lead_of (S.Operand l) = Some K.Number
lead_of (S.Chain l) = None
lead_of S.Source = Some K.End
lead_of S.Items = Some K.End
lead_of S.Shared = Some K.SharedWord
lead_of S.SharedItems = Some K.Semicolon
lead_of S.SharedItem = Some K.Name
lead_of S.SharedStart = Some K.AssignMark
lead_of S.StartValue = Some K.Number
lead_of S.Sems = Some K.SemWord
lead_of S.SemStart = Some K.AssignMark
lead_of S.SemItems = Some K.Semicolon
lead_of S.Chans = Some K.ChanWord
lead_of S.ChanItems = Some K.Semicolon
lead_of S.Function = Some K.VoidWord
lead_of S.ParamsEnd = Some K.RightParen
lead_of S.Params = Some K.VoidWord
lead_of S.ParamItems = None
lead_of S.Process = Some K.ProcessWord
lead_of S.Block = Some K.LeftBrace
lead_of S.Stmts = Some K.RightBrace
lead_of S.Local = Some K.IntWord
lead_of S.LocalItems = Some K.Semicolon
lead_of S.LocalItem = Some K.Name
lead_of S.LocalStart = Some K.LeftBracket
lead_of S.Value = Some K.RecvWord
lead_of S.CallOrExpr = Some K.Name
lead_of S.NamedRest = Some K.LeftParen
lead_of S.Args = Some K.RightParen
lead_of S.ArgsMore = Some K.RightParen
lead_of S.Place = Some K.Name
lead_of S.PlaceEnd = Some K.LeftBracket
lead_of S.Change = Some K.Name
lead_of S.ChangeEnd = Some K.IncreaseMark
lead_of S.Expr = Some K.Number
lead_of S.ExprRest = None
lead_of S.Unary = Some K.Number
lead_of S.OtherUnary = Some K.Number
lead_of S.Stmt = Some K.Semicolon
lead_of S.StmtRest = Some K.LeftParen
lead_of S.PlaceRest = Some K.IncreaseMark
lead_of S.Assigned = Some K.RecvWord
lead_of S.AssignedRest = Some K.LeftParen
lead_of S.ElsePart = Some K.ElseWord
lead_of S.ForStart = Some K.Semicolon
lead_of S.ForTest = Some K.Semicolon
lead_of S.ForStep = Some K.RightParen
lead_of S.ReturnEnd = Some K.Semicolon

abbrev pub kind_or : Option Kind → Kind → Kind
kind_or (Some k) j = k
kind_or None j = j

-- a token with which the stack can go on
abbrev pub lead : List Want → Kind
lead [] = K.End
lead (Get y a b ∷ ws) = kind_or (lead_of y) (lead ws)
lead (Close r b ∷ ws) = lead ws

abbrev pub is_binary : Kind → Bool
is_binary k =
    is_operator L.Product k
    || (is_operator L.Sum k
    || (is_operator L.Compare k || (is_operator L.Equal k || (is_operator L.And k || is_operator L.Or k))))

abbrev pub is_assign : Kind → Bool
is_assign K.AssignMark = true
is_assign _ = false

abbrev pub is_comma : Kind → Bool
is_comma K.Comma = true
is_comma _ = false

abbrev pub Unless : Bool → Type 0 → Type 0
Unless true A = ⊥
Unless false A = A

-- only ends of nodes are left
abbrev pub HasEndsAlone : List Want → Type 0
HasEndsAlone [] = Unit {0}
HasEndsAlone (Close r b ∷ ws) = HasEndsAlone ws
HasEndsAlone (Get y a b ∷ ws) = ⊥

abbrev pub IsGood : List Want → Type 0
IsGood [] = Unit {0}
IsGood (Close r b ∷ ws) = IsGood ws
IsGood (Get (S.Exact K.End) a b ∷ ws) = HasEndsAlone ws
IsGood (Get S.Source a b ∷ ws) = HasEndsAlone ws
IsGood (Get S.Items a b ∷ ws) = HasEndsAlone ws
IsGood (Get S.Params a b ∷ ws) = Unless (is_comma (lead ws)) (IsGood ws)
IsGood (Get S.ParamItems a b ∷ ws) = Unless (is_comma (lead ws)) (IsGood ws)
IsGood (Get (S.Operand l) a b ∷ ws) = Unless (is_binary (lead ws)) (IsGood ws)
IsGood (Get (S.Chain l) a b ∷ ws) = Unless (is_binary (lead ws)) (IsGood ws)
IsGood (Get S.Expr a b ∷ ws) = Unless (is_binary (lead ws)) (IsGood ws)
IsGood (Get S.ExprRest a b ∷ ws) = Unless (is_binary (lead ws)) (IsGood ws)
IsGood (Get S.NamedRest a b ∷ ws) = Unless (is_binary (lead ws)) (IsGood ws)
IsGood (Get S.CallOrExpr a b ∷ ws) = Unless (is_binary (lead ws)) (IsGood ws)
IsGood (Get S.Value a b ∷ ws) = Unless (is_binary (lead ws)) (IsGood ws)
IsGood (Get S.LocalStart a b ∷ ws) = Unless (is_binary (lead ws)) (IsGood ws)
IsGood (Get S.LocalItem a b ∷ ws) = Unless (is_binary (lead ws)) (IsGood ws)
IsGood (Get S.ChangeEnd a b ∷ ws) = Unless (is_binary (lead ws)) (IsGood ws)
IsGood (Get S.Change a b ∷ ws) = Unless (is_binary (lead ws)) (IsGood ws)
IsGood (Get _ a b ∷ ws) = IsGood ws
