-- How many nodes stand at a place of a table, by which the steps of the checker are bounded.
use Rattle.std.specs.Prelude.{◌≡◌, ℕ, ◌+◌, ◌*◌, ◌-◌, List, [], ◌∷◌, Option, Some, None, slice_get, slice_index_or}
use Rattle.ppd_ast.specs.declared.limits.TheConstants.{MOST_SHARED_CELLS}
use Rattle.ppd_parse.specs.declared.node.Node.{Node}
use Rattle.ppd_parse.specs.declared.symbol.Rule.{Rule}
use Rattle.ppd_parse.specs.declared.symbol.Rule.TheVariants as R
use Rattle.ppd_parse.specs.Size.{weigh}
use Rattle.ppd_check_names.specs.declared.nodes.Operand.{Operand}
use Rattle.ppd_check_names.specs.declared.nodes.Operand.TheVariants.{Constant, At}
use Rattle.ppd_check_names.specs.declared.globals.Globals.{Globals}
use Rattle.ppd_check_names.specs.Nodes.{tree_at, children_of, no_node}

-- the nodes of the tree of node i
unfoldable pub nodes_at : List Node → ℕ → ℕ
nodes_at ns i = weigh 1 (λ r. 1) (tree_at ns i)

abbrev pub rule_at : List Node → ℕ → Rule
rule_at ns i = (slice_index_or ns i no_node).rule

-- Statements, declarations of local variables and blocks stand inside one another; all else stands in them.

abbrev pub nested_by : Rule → ℕ → ℕ
nested_by R.Stmt n = n
nested_by R.Local n = n
nested_by R.Block n = n
nested_by _ n = 0

abbrev pub plain_by : Rule → ℕ → ℕ
plain_by R.Stmt n = 0
plain_by R.Local n = 0
plain_by R.Block n = 0
plain_by _ n = n

-- the nodes of the tree of node i where it stands for statements, and where it does not
unfoldable pub nested_at : List Node → ℕ → ℕ
nested_at ns i = nested_by (rule_at ns i) (nodes_at ns i)

unfoldable pub plain_at : List Node → ℕ → ℕ
plain_at ns i = plain_by (rule_at ns i) (nodes_at ns i)

-- those of a child, none where it is missing, and of all children
abbrev pub if_there : (ℕ → ℕ) → Option ℕ → ℕ
if_there f None = 0
if_there f (Some c) = f c

unfoldable pub nested_child : List Node → ℕ → ℕ → ℕ
nested_child ns i k = if_there (nested_at ns) (slice_get (children_of ns i) k)

unfoldable pub plain_child : List Node → ℕ → ℕ → ℕ
plain_child ns i k = if_there (plain_at ns) (slice_get (children_of ns i) k)

abbrev pub total : (ℕ → ℕ) → List ℕ → ℕ
total f [] = 0
total f (c ∷ cs) = f c + total f cs

unfoldable pub nested_below : List Node → ℕ → ℕ
nested_below ns i = total (nested_at ns) (children_of ns i)

unfoldable pub plain_below : List Node → ℕ → ℕ
plain_below ns i = total (plain_at ns) (children_of ns i)

-- those of an operand, of the parts of an expression with itself, of an index, and below a call or of a value
abbrev pub operand_nodes : List Node → Operand → ℕ
operand_nodes ns (Constant n) = 0
operand_nodes ns (At i) = plain_at ns i

-- the nodes of the functions and processes that are declared
unfoldable pub heads_nodes : List Node → Globals → ℕ
heads_nodes ns g = total (nodes_at ns) g.functions + total (nodes_at ns) g.processes

-- twice the start values that there is still room for: a turn for each, and its element
unfoldable pub starts_left : Globals → ℕ
starts_left g = 2 * (MOST_SHARED_CELLS - g.cells)

-- no function and no process was added
abbrev pub SameHeads : Globals → Globals → Type 0
SameHeads old new = (new.functions ≡ old.functions) × (new.processes ≡ old.processes)
