-- Expressions by their parts, as the code sees them.
use Rattle.std.specs.Prelude.{◌≡◌, ℕ, List, ◌++◌, length, ◌+◌}
use Rattle.ppd_ast.specs.declared.program.Op.TheVariants as O
use Rattle.ppd_ast.specs.declared.program.Expr.{Expr}
use Rattle.ppd_ast.specs.declared.program.Expr.TheVariants as E
use Rattle.ppd_parse.specs.declared.token.Kind.{Kind}
use Rattle.ppd_parse.specs.declared.token.Kind.TheVariants as K
use Rattle.ppd_parse.specs.declared.node.Node.{Node}
use Rattle.ppd_check_stmts.specs.declared.forms.Operator.{Operator}
use Rattle.ppd_check_stmts.specs.declared.forms.Operator.TheVariants.{Either, Both, Two}
use Rattle.ppd_check_stmts.specs.declared.forms.Form.{Form}
use Rattle.ppd_check_stmts.specs.declared.forms.Form.TheVariants.{Number, Variable, Element, Negated, Inverted, Inside, Joined}
use Rattle.ppd_ast.specs.Term.{Term}
use Rattle.ppd_check_stmts.specs.Table.{flat, root}
use Rattle.ppd_check_names.specs.Syntax.{Formula, number, variable, element, negated, inverted, two, both, either}
use Rattle.ppd_check_names.specs.Nodes.{label_name, operand_formula, IsOperand, IsAfter}
use Rattle.ppd_check_names.specs.Cost.{operand_nodes}

-- the operator of a mark; of any other token a remainder
abbrev pub operator_of : Kind → Operator
operator_of K.OrMark = Either
operator_of K.AndMark = Both
operator_of K.EqualMark = Two O.Eq
operator_of K.UnequalMark = Two O.Ne
operator_of K.AtMostMark = Two O.Le
operator_of K.AtLeastMark = Two O.Ge
operator_of K.LessMark = Two O.Lt
operator_of K.MoreMark = Two O.Gt
operator_of K.PlusMark = Two O.Add
operator_of K.MinusMark = Two O.Sub
operator_of K.StarMark = Two O.Mul
operator_of K.SlashMark = Two O.Div
operator_of _ = Two O.Rem

abbrev pub joined_by : Operator → Formula → Formula → Formula
joined_by Either a b = either a b
joined_by Both a b = both a b
joined_by (Two op) a b = two op a b

-- the expression of a form over the nodes of its parts
abbrev pub form_formula : List Node → Form → Formula
form_formula ns (Number n) = number n
form_formula ns (Variable t) = variable (label_name t)
form_formula ns (Element t i) = element (label_name t) (operand_formula ns i)
form_formula ns (Negated a) = negated (operand_formula ns a)
form_formula ns (Inverted a) = inverted (operand_formula ns a)
form_formula ns (Inside a) = operand_formula ns a
form_formula ns (Joined op a b) = joined_by op (operand_formula ns a) (operand_formula ns b)

-- the parts are nodes of the table after node i
abbrev pub ArePartsAfter : List Node → ℕ → Form → Type 0
ArePartsAfter ns i (Number n) = Unit {0}
ArePartsAfter ns i (Variable t) = Unit {0}
ArePartsAfter ns i (Element t a) = IsOperand ns a × IsAfter i a
ArePartsAfter ns i (Negated a) = IsOperand ns a × IsAfter i a
ArePartsAfter ns i (Inverted a) = IsOperand ns a × IsAfter i a
ArePartsAfter ns i (Inside a) = IsOperand ns a × IsAfter i a
ArePartsAfter ns i (Joined op a b) = (IsOperand ns a × IsAfter i a) × (IsOperand ns b × IsAfter i b)

-- an expression over the numbers of its operands
abbrev pub joined_expr : Operator → ℕ → ℕ → Expr
joined_expr Either a b = E.Or a b
joined_expr Both a b = E.And a b
joined_expr (Two op) a b = E.Two op a b

-- a term's expressions were added, the last with number n
pub record Added (old : List Expr) (t : Term) (new : List Expr) (n : ℕ) : Type 0 where
  pub table : new ≡ old ++ flat (length old) t
  pub number : n ≡ root (length old) t

abbrev pub form_nodes : List Node → Form → ℕ
form_nodes ns (Number n) = 0
form_nodes ns (Variable t) = 1
form_nodes ns (Element t a) = 1 + operand_nodes ns a
form_nodes ns (Negated a) = 1 + operand_nodes ns a
form_nodes ns (Inverted a) = 1 + operand_nodes ns a
form_nodes ns (Inside a) = 1 + operand_nodes ns a
form_nodes ns (Joined op a b) = 1 + operand_nodes ns a + operand_nodes ns b
