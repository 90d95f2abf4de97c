-- How many moves the parser still makes for what it wants: those before it reads a token, and those for what may be
-- empty.
-- What begins with a token for sure costs nothing until it is next: its token pays for it.
use Rattle.std.specs.Prelude.{◌+◌, ◌≤◌, ℕ, List, [], ◌∷◌, Option, Some, None, nat_lt, if◌then◌else◌}
use Rattle.ppd_parse.specs.declared.symbol.Symbol.{Symbol}
use Rattle.ppd_parse.specs.declared.symbol.Symbol.TheVariants as S
use Rattle.ppd_parse.specs.declared.symbol.At.{At}
use Rattle.ppd_parse.specs.declared.symbol.Want.{Want}
use Rattle.ppd_parse.specs.declared.symbol.Want.TheVariants.{Get, Close}

-- the moves for a symbol that may be empty, or that goes on with what is read
abbrev pub weight : Symbol → ℕ
weight S.SharedStart = 1
weight S.SemStart = 1
weight S.ParamItems = 1
weight S.LocalStart = 1
weight (S.Chain l) = 1
weight S.PlaceEnd = 1
weight S.ElsePart = 1
weight S.ExprRest = 7
weight S.NamedRest = 11
weight S.AssignedRest = 13
weight _ = 0

-- the moves for a symbol that is next, up to a token, where it begins with one for sure
abbrev pub opening : Symbol → ℕ
opening (S.Exact k) = 1
opening (S.Operator l) = 1
opening S.Items = 5
opening S.ParamsEnd = 5
opening S.Stmt = 6
opening S.Unary = 6
opening S.Change = 6
opening S.StmtRest = 6
opening S.Source = 7
opening S.Stmts = 7
opening S.ForStart = 7
opening S.ForStep = 7
opening (S.Operand l) = 12
opening S.CallOrExpr = 13
opening S.Expr = 14
opening S.ReturnEnd = 14
opening S.Value = 15
opening S.Args = 15
opening S.Assigned = 15
opening S.ForTest = 15
opening _ = 4

-- the moves for a symbol that is next, up to a token, which may be that of a symbol behind it
abbrev pub moves_to_token : Symbol → ℕ
moves_to_token y = if nat_lt 0 (weight y) then 15 else opening y

abbrev pub weight_all : List Want → ℕ
weight_all [] = 0
weight_all (Get y a b ∷ ws) = weight y + weight_all ws
weight_all (Close r b ∷ ws) = 1 + weight_all ws

abbrev pub lead_all : List Want → ℕ
lead_all [] = 0
lead_all (Get y a b ∷ ws) = moves_to_token y
lead_all (Close r b ∷ ws) = lead_all ws

abbrev pub rank : List Want → ℕ
rank ws = weight_all ws + lead_all ws

-- a token that was read pays for 15 moves
abbrev pub Paid : Option At → ℕ → ℕ → List Want → List Want → Type 0
Paid (Some at) before now olds news = now + rank news ≤ before + rank olds + 15
Paid None before now olds news = Unit {0}

-- where a token was read, the stack is within the peak
abbrev pub Held : Option At → ℕ → ℕ → Type 0
Held (Some at) height peak = height ≤ peak
Held None height peak = Unit {0}
