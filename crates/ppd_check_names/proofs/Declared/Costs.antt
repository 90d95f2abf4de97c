-- What declaring costs: room for start values, and the nodes of what is declared.
use Rattle.std.proofs.Common.{◌≡◌, refl, ap, ℕ, ◌+◌, ◌-◌, ◌*◌, ◌≤◌, arith, List, [], ◌∷◌, ◌++◌, length, Some, Result, Ok, Err, OnOk}
use Rattle.ppd_ast.specs.declared.limits.TheConstants.{MOST_SHARED_CELLS}
use Rattle.ppd_parse.specs.declared.node.Node.{Node}
use Rattle.ppd_check_names.specs.declared.globals.Globals.{Globals}
use Rattle.ppd_check_names.specs.Cost.{nodes_at, total, plain_below, nested_below, heads_nodes, starts_left, SameHeads}
use Rattle.ppd_check_names.specs.Declaring.{nothing}
use Rattle.ppd_check_names.specs.Nodes.{phrases_below}
use Rattle.ppd_check_names.specs.Frames.{after_cells}
use Rattle.ppd_check_names.proofs.Table.Costs.{children_few, total_append}
use Rattle.ppd_check_names.proofs.Table.Trees.{count_below}

pub left_same : (g h : Globals) → h.cells ≡ g.cells → starts_left h ≡ starts_left g
unfolding starts_left
left_same g h e = ap (λ n. 2 * (MOST_SHARED_CELLS - n)) e

pub left_less : (g h : Globals) → g.cells ≤ h.cells → starts_left h ≤ starts_left g
unfolding starts_left
left_less g h l = omega (arith, l)

pub left_filled : (g h : Globals) (n : ℕ) → h.cells ≡ after_cells g.cells (Some n) → h.cells ≤ MOST_SHARED_CELLS → starts_left h + 2 * n ≤ starts_left g
unfolding starts_left
left_filled g h n e l = omega (arith, e, l)

pub left_nothing : starts_left nothing ≡ 2048
unfolding starts_left
left_nothing = refl

pub heads_nothing : (ns : List Node) → heads_nodes ns nothing ≡ 0
unfolding heads_nodes
heads_nothing ns = refl

pub heads_same : (ns : List Node) (g h : Globals) → SameHeads g h → heads_nodes ns h ≡ heads_nodes ns g
unfolding heads_nodes
heads_same ns g h e = omega (arith, ap (total (nodes_at ns)) e.0, ap (total (nodes_at ns)) e.1)

pub heads_function : (ns : List Node) (g h : Globals) (i : ℕ) → h.functions ≡ g.functions ++ i ∷ [] → h.processes ≡ g.processes → heads_nodes ns h ≡ heads_nodes ns g + nodes_at ns i
unfolding heads_nodes
heads_function ns g h i e f = omega (arith, ap (total (nodes_at ns)) e, ap (total (nodes_at ns)) f, total_append (nodes_at ns) g.functions (i ∷ []))

pub heads_process : (ns : List Node) (g h : Globals) (i : ℕ) → h.functions ≡ g.functions → h.processes ≡ g.processes ++ i ∷ [] → heads_nodes ns h ≡ heads_nodes ns g + nodes_at ns i
unfolding heads_nodes
heads_process ns g h i e f = omega (arith, ap (total (nodes_at ns)) e, ap (total (nodes_at ns)) f, total_append (nodes_at ns) g.processes (i ∷ []))

pub heads_apart : (ns : List Node) (g : Globals) (fs qs : List ℕ) → fs ≡ g.functions → qs ≡ g.processes → total (nodes_at ns) fs + total (nodes_at ns) qs ≡ heads_nodes ns g
unfolding heads_nodes
heads_apart ns g fs qs e f = omega (arith, ap (total (nodes_at ns)) e, ap (total (nodes_at ns)) f)

pub ok_any : {X E : Type 0} (r : Result X E) (P : Type 0) → P → OnOk r P
ok_any (Ok x) P p = p
ok_any (Err e) P p = tt

pub phrases_few : (ns : List Node) (i : ℕ) → length (phrases_below ns i) ≤ plain_below ns i + nested_below ns i
phrases_few ns i = omega (arith, count_below ns i, children_few ns i)
