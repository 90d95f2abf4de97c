-- Places and values by their nodes, as the code sees them.
use Rattle.std.specs.Prelude.{ℕ, ◌<◌, List, [], ◌∷◌, length, Option, Some, None, ◌+◌}
use Rattle.ppd_ast.specs.declared.program.Place.{Place}
use Rattle.ppd_ast.specs.Term as T
use Rattle.ppd_parse.specs.declared.node.Node.{Node}
use Rattle.ppd_check_stmts.specs.declared.values.Goal.{Goal}
use Rattle.ppd_check_stmts.specs.declared.values.Goal.TheVariants.{Scalar, Item}
use Rattle.ppd_check_stmts.specs.declared.values.Value.{Value}
use Rattle.ppd_check_stmts.specs.declared.values.Value.TheVariants.{Plain, Result, Received}
use Rattle.ppd_check_names.specs.Syntax as S
use Rattle.ppd_check_names.specs.Reading.{name_at, formulas}
use Rattle.ppd_check_names.specs.declared.frame.Frame.{Frame}
use Rattle.ppd_check_stmts.specs.Code as C
use Rattle.ppd_check_stmts.specs.Code.{Spot, Act}
use Rattle.ppd_check_stmts.specs.Statements.{put}
use Rattle.ppd_check_names.specs.Frames.{with_hidden}
use Rattle.ppd_check_names.specs.Nodes.{label_name, operand_formula, phrases_below, IsOperand}
use Rattle.ppd_check_names.specs.Cost.{nested_below, operand_nodes, plain_below}

abbrev pub goal_said : List Node → Goal → S.Goal
goal_said ns (Scalar x) = S.scalar (label_name x)
goal_said ns (Item x i) = S.item (label_name x) (operand_formula ns i)

abbrev pub value_said_by : List Node → Value → S.Value
value_said_by ns (Plain e) = S.plain (operand_formula ns e)
value_said_by ns (Result i) = S.result (name_at (phrases_below ns i) 0) (formulas (phrases_below ns i))
value_said_by ns (Received x) = S.received (label_name x)

-- their nodes are in the table
abbrev pub IsGoal : List Node → Goal → Type 0
IsGoal ns (Scalar x) = Unit {0}
IsGoal ns (Item x i) = IsOperand ns i

abbrev pub IsValue : List Node → Value → Type 0
IsValue ns (Plain e) = IsOperand ns e
IsValue ns (Result i) = i < length ns
IsValue ns (Received x) = Unit {0}

-- the cell of a place that is a local scalar
abbrev pub local_cell : Spot → Option ℕ
local_cell (C.local c) = Some c
local_cell m = None

-- a value from a call or a channel into a place: straight into a local scalar, or through a hidden one
abbrev pub through_acts : Option ℕ → Spot → S.Value → Frame → List Act
through_acts (Some c) m v f = put f.scopes c v ∷ []
through_acts None m v f = put f.scopes f.cells v ∷ C.set m (T.local f.cells) ∷ []

abbrev pub through_frame : Option ℕ → Place → Frame → Frame
through_frame (Some c) p f = f
through_frame None p f = with_hidden p f

abbrev pub goal_nodes : List Node → Goal → ℕ
goal_nodes ns (Scalar x) = 0
goal_nodes ns (Item x a) = operand_nodes ns a

abbrev pub value_nodes : List Node → Value → ℕ
value_nodes ns (Plain a) = operand_nodes ns a
value_nodes ns (Result i) = plain_below ns i + nested_below ns i
value_nodes ns (Received x) = 0
