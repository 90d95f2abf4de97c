-- What the bodies of a source have, against the nodes of their functions and processes.
use Rattle.ppd_check.specs.Sources.{entered}
use Rattle.ppd_check_names.specs.Frames.{declared}
use Rattle.std.proofs.Common.{◌≡◌, ap, ◌∙◌, ℕ, ◌+◌, ◌*◌, ◌≤◌, arith, Bool, true, false, List, [], ◌∷◌, length, map, Option, None, drop, ◌++◌, length-append, length-drop, fold}
use Rattle.std.specs.List.{flat_map}
use Rattle.ppd_ast.specs.declared.program.Stmt.{Stmt}
use Rattle.ppd_parse.specs.declared.node.Node.{Node}
use Rattle.ppd_parse.specs.declared.symbol.Rule.TheVariants as R
use Rattle.ppd_parse.specs.Grammar.{Shape, forest}
use Rattle.ppd_parse.specs.Size.{weigh_in}
use Rattle.ppd_parse.proofs.Sizes.{weigh_made}
use Rattle.ppd_check_names.specs.declared.frame.Frame.{Frame}
use Rattle.ppd_check_names.specs.Cost.{nodes_at, total, plain_at, nested_at, plain_below, nested_below}
use Rattle.ppd_check_stmts.specs.Elements.{stmts_elements}
use Rattle.ppd_check_names.specs.Holding.{head_said}
use Rattle.ppd_check_names.specs.Nodes.{tree_at, children_of, phrase_of, phrases_below}
use Rattle.ppd_check_names.specs.Reading.{Phrase, last, as_names, as_block, all_said}
use Rattle.ppd_check_stmts.specs.Statements.{row_code, after_row}
use Rattle.ppd_check_names.specs.Syntax.{Row}
use Rattle.ppd_check_stmts.specs.Table.{stmts}
use Rattle.ppd_check_names.proofs.Table.Costs.{weigh_trees, total_apart, nodes_apart}
use Rattle.ppd_check_stmts.proofs.Costs.Rows.{row_size, row_load}
use Rattle.ppd_check_stmts.proofs.Costs.Phrases.{children_said}
use Rattle.ppd_check_stmts.proofs.Costs.Tables.{row_holds}
use Rattle.ppd_check_names.proofs.Table.Trees.{all_said_forest}
use Rattle.ppd_check_names.specs.Names.{Scope}
use Rattle.ppd_check.specs.Bodies.{}
use Rattle.ppd_check_names.specs.Globals.{Head}
use Rattle.ppd_check.proofs.Filling.{params_count}

-- the parameters and the statements of a body, by the nodes below its head
below_said : (ns : List Node) (cs : List ℕ) → length (flat_map as_names (map (phrase_of ns) cs)) + row_size (as_block (last (map (phrase_of ns) cs))).row ≤ 9 * total (nodes_at ns) cs
below_said ns cs =
    let f : List Shape = map (tree_at ns) cs in
    let said : length (flat_map as_names (all_said (forest f))) + row_size (as_block (last (all_said (forest f)))).row ≤ 9 * weigh_in 1 (λ r. 1) (forest f) = children_said (forest f) in
    let same : length (flat_map as_names (all_said (forest f))) + row_size (as_block (last (all_said (forest f)))).row ≡ length (flat_map as_names (map (phrase_of ns) cs)) + row_size (as_block (last (map (phrase_of ns) cs))).row = ap (λ (ps : List Phrase). length (flat_map as_names ps) + row_size (as_block (last ps)).row) (all_said_forest ns cs) in
    omega (arith, said, same, weigh_made 1 (λ r. 1) R.Leaf f, weigh_trees ns cs)

head_of_few : (b : Bool) (ps : List Phrase) (n : ℕ) → length (flat_map as_names ps) + row_size (as_block (last ps)).row ≤ n → length (head_said b ps).params + row_size (head_said b ps).block.row ≤ n
head_of_few true ps n h = omega (arith, h)
head_of_few false ps n h = omega (arith, h)

pub head_few : (ns : List Node) (i : ℕ) (b : Bool) → length (head_said b (phrases_below ns i)).params + row_size (head_said b (phrases_below ns i)).block.row ≤ 9 * plain_below ns i + 9 * nested_below ns i
unfolding phrases_below plain_below nested_below
head_few ns i b =
    let cs : List ℕ = children_of ns i in
    let apart : total (nodes_at ns) cs ≡ total (plain_at ns) cs + total (nested_at ns) cs = total_apart (nodes_at ns) (plain_at ns) (nested_at ns) cs (nodes_apart ns) in
    head_of_few b (map (phrase_of ns) cs) _ (omega (arith, below_said ns cs, apart))

-- the statements of a row, with the variables after it
pub elements_some : (ss : List Stmt) → length ss ≤ stmts_elements ss
elements_some [] = omega arith
elements_some (s ∷ ss) = omega (arith, elements_some ss)

pub row_few : (b : ℕ) (q : Option ℕ) (n m : ℕ) (r : Row) (f : Frame) → length (stmts b q n m (row_code r f)) + length (after_row r f).variables ≤ length f.variables + row_size r
row_few b q n m r f = omega (arith, elements_some (stmts b q n m (row_code r f)), row_holds b q n m (row_code r f), row_load r f)

pub inside_few : (old new inside added : List Stmt) (start : ℕ) → new ≡ old ++ added → start ≡ length old → inside ≡ drop start new → length inside ≡ length added
inside_few old new inside added start e s i = omega (arith, ap (λ (l : List Stmt). length l) i, length-drop start new, ap (λ (l : List Stmt). length l) e, length-append old added, s)

-- the variables of a body after its parameters, and after all its statements
pub body_few : (ns : List Node) (i : ℕ) (b : Bool) (scopes : List Scope) (f g h : Frame) → f ≡ entered scopes → g ≡ fold (declared None) f (head_said b (phrases_below ns i)).params → h ≡ after_row (head_said b (phrases_below ns i)).block.row g
    → (length g.variables ≤ 9 * plain_below ns i + 9 * nested_below ns i) × (length h.variables ≤ 9 * plain_below ns i + 9 * nested_below ns i)
body_few ns i b scopes f g h d e l =
    let x : Head = head_said b (phrases_below ns i) in
    let said : length x.params + row_size x.block.row ≤ 9 * plain_below ns i + 9 * nested_below ns i = head_few ns i b in
    let params : length g.variables ≡ length f.variables + length x.params = ap (λ (k : Frame). length k.variables) e ∙ params_count x.params f in
    let begun : length f.variables ≡ 0 = ap (λ (k : Frame). length k.variables) d in
    let last : length h.variables ≡ length (after_row x.block.row g).variables = ap (λ (k : Frame). length k.variables) l in
    (omega (arith, said, params, begun), omega (arith, said, params, begun, last, row_few 0 None 0 0 x.block.row g))
