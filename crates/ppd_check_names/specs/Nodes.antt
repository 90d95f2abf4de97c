-- What the nodes of a table say, by their numbers.
use Rattle.std.specs.Prelude.{◌≡◌, ℕ, ◌<◌, List, [], map, length, slice_index_or, None}
use Rattle.ppd_parse.specs.declared.token.Token.{Token}
use Rattle.ppd_parse.specs.declared.symbol.Rule.{Rule}
use Rattle.ppd_parse.specs.declared.symbol.Rule.TheVariants as R
use Rattle.ppd_parse.specs.declared.node.Node.{Node}
use Rattle.ppd_parse.specs.Grammar.{Shape}
use Rattle.ppd_parse.specs.Table.{no_shape}
use Rattle.ppd_parse.specs.Tree.{trees_from}
use Rattle.ppd_check_names.specs.declared.nodes.Label.{Label}
use Rattle.ppd_check_names.specs.declared.nodes.Operand.{Operand}
use Rattle.ppd_check_names.specs.declared.nodes.Operand.TheVariants.{Constant, At}
use Rattle.ppd_check_names.specs.Syntax.{Name, Formula, number}
use Rattle.ppd_check_names.specs.Reading.{Phrase, token, as_formula, made, said}
use Rattle.ppd_check_names.specs.declared.level.Source.{Source}

-- the tree of node i
abbrev pub tree_at : List Node → ℕ → Shape
tree_at ns i = slice_index_or (trees_from 0 ns) i no_shape

-- what node i says, and what its children say
unfoldable pub phrase_of : List Node → ℕ → Phrase
phrase_of ns i = said (tree_at ns i)

abbrev pub no_node : Node
no_node = record { rule = R.Leaf; token = None; children = [] }

abbrev pub children_of : List Node → ℕ → List ℕ
children_of ns i = (slice_index_or ns i no_node).children

abbrev pub phrases_of : List Node → List ℕ → List Phrase
phrases_of ns ids = map (phrase_of ns) ids

unfoldable pub phrases_below : List Node → ℕ → List Phrase
phrases_below ns i = phrases_of ns (children_of ns i)

-- The phrase is a token, or what the rule makes of phrases.
abbrev pub SaysBy : Rule → List Phrase → Phrase → Type 0
SaysBy R.Leaf ps p = (t : Token) × (p ≡ token t)
SaysBy r ps p = p ≡ made r ps

-- the expression of an operand
abbrev pub operand_formula : List Node → Operand → Formula
operand_formula ns (Constant n) = number n
operand_formula ns (At i) = as_formula (phrase_of ns i)

-- an operand at a node of a table, and one after node i
abbrev pub IsOperand : List Node → Operand → Type 0
IsOperand ns (Constant n) = Unit {0}
IsOperand ns (At c) = c < length ns

abbrev pub IsAfter : ℕ → Operand → Type 0
IsAfter i (Constant n) = Unit {0}
IsAfter i (At c) = i < c

-- the name of a label
abbrev pub label_name : Label → Name
label_name l = record { text = l.text.now; place = l.place }

-- what the children of a source's node say
abbrev pub below : Source → ℕ → List Phrase
below s i = phrases_below s.nodes.now i
