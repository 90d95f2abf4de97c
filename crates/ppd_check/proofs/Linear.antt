-- The table of a source holds at most 9 elements for each node of its tree, and 27 for each byte.
use Rattle.std.proofs.Common.{◌≡◌, refl, sym, ap, ◌∙◌, ℕ, ◌+◌, ◌*◌, ◌≤◌, arith, Bool, true, false, List, [], ◌∷◌, ◌++◌, length, Some, None}
use Rattle.std.specs.List.{flat_map}
use Rattle.std.proofs.lemmas.List.{length-append, length-map}
use Rattle.ppd_ast.specs.declared.program.Program.{Program}
use Rattle.ppd_parse.specs.declared.token.Token.{Token}
use Rattle.ppd_parse.specs.Formed.{AreFormed}
use Rattle.ppd_parse.proofs.FormedTokens.{formed}
use Rattle.ppd_parse.specs.Grammar.{Shape}
use Rattle.ppd_parse.specs.Limits.{IsTree}
use Rattle.ppd_parse.specs.declared.node.Node.{Node}
use Rattle.ppd_parse.proofs.Vocabulary.{size_of}
use Rattle.ppd_parse.specs.Tree.{tree_of, IsTable}
use Rattle.ppd_parse.proofs.FromLanguage.{program_parsed}
use Rattle.ppd_parse.proofs.Sizes.{program_size}
use Rattle.ppd_parse.proofs.Counted.{counted_from}
use Rattle.ppd_check_names.specs.declared.frame.Frame.{Frame}
use Rattle.ppd_check_names.specs.Names.{Scope}
use Rattle.ppd_check.specs.Read.{IsTreeOf}
use Rattle.ppd_check_names.specs.Reading.{source_of}
use Rattle.ppd_check_names.specs.Fitted.{fitted}
use Rattle.ppd_check_stmts.specs.Statements.{row_code}
use Rattle.ppd_check_names.specs.Frames.{variable_of}
use Rattle.ppd_check_names.specs.Syntax.{Item, shared, shared_array, semaphore, channel, function, process}
use Rattle.ppd_check_stmts.specs.Table.{terms}
use Rattle.ppd_check.specs.Sources.{entered, entry, ends_with_return, head_code, head_frame, heads, codes, core_of, faults_in, close_code}
use Rattle.ppd_check_names.specs.Globals.{Head, Globals, no_globals, with_item, globals, sem, chan}
use Rattle.ppd_check_names.specs.Holding.{with_items}
use Rattle.ppd_check.proofs.Filling.{params_count}
use Rattle.ppd_check_stmts.proofs.Table.Writing.{length_flats}
use Rattle.ppd_check_stmts.specs.Elements.{elements_of}
use Rattle.ppd_check.proofs.LinearNodes.{tree_within}
use Rattle.ppd_check_stmts.proofs.Costs.Tables.{load}
use Rattle.ppd_check.proofs.Tables.{length_vars, heads_load, heads_hold}
use Rattle.ppd_check_stmts.proofs.Costs.Rows.{row_size, load_join, row_load}
use Rattle.ppd_check_stmts.proofs.Costs.Phrases.{item_size, items_size, items_few}

-- Functions and processes.

abbrev head_size : Head → ℕ
head_size h = 3 + length h.params + row_size h.block.row

abbrev heads_size : List Head → ℕ
heads_size [] = 0
heads_size (h ∷ hs) = head_size h + heads_size hs

heads_append : (xs ys : List Head) → heads_size (xs ++ ys) ≡ heads_size xs + heads_size ys
heads_append [] ys = omega arith
heads_append (h ∷ xs) ys = omega (arith, heads_append xs ys)

close_load : (h : Head) (b e : Bool) → h.process ≡ b → ends_with_return h.block.row ≡ e → load (close_code h) ≤ 2
close_load h true e i j = rw (i) (omega arith)
close_load h false true i j = rw (i) (rw (j) (omega arith))
close_load h false false i j = rw (i) (rw (j) (omega arith))

head_few : (scope : Scope) (h : Head) → 1 + length (head_frame scope h).variables + load (head_code scope h) ≤ head_size h
head_few scope h =
    let f : Frame = entry scope h in
    omega (
      arith,
      load_join (row_code h.block.row f) (close_code h),
      row_load h.block.row f,
      params_count h.params (entered (scope ∷ [])),
      close_load h h.process (ends_with_return h.block.row) refl refl,
    )

heads_few : (scope : Scope) (hs : List Head) → heads_load scope hs ≤ heads_size hs
heads_few scope [] = omega arith
heads_few scope (h ∷ hs) = omega (arith, head_few scope h, heads_few scope hs)

-- What is declared.

abbrev globals_size : Globals → ℕ
globals_size g = length g.shared + length g.semaphores + length g.channels + heads_size g.functions + heads_size g.processes

item_more : (i : Item) (g : Globals) → globals_size (with_item i g) ≡ globals_size g + item_size i
item_more (shared x v) g = omega (arith, length-append g.shared (variable_of x None ∷ []))
item_more (shared_array x n) g = omega (arith, length-append g.shared (variable_of x (Some (fitted 16 n.value)) ∷ []))
item_more (semaphore x n) g = omega (arith, length-append g.semaphores (record { name = x; number = n.value } ∷ []))
item_more (channel x n) g = omega (arith, length-append g.channels (record { name = x; number = n.value } ∷ []))
item_more (function gives x params b) g = omega (arith, heads_append g.functions (record { process = false; gives = gives; name = x; params = params; block = b } ∷ []))
item_more (process x b) g = omega (arith, heads_append g.processes (record { process = true; gives = false; name = x; params = []; block = b } ∷ []))

items_more : (is : List Item) (g : Globals) → globals_size (with_items is g) ≡ globals_size g + items_size is
items_more [] g = omega arith
items_more (i ∷ is) g = omega (arith, item_more i g, items_more is (with_item i g))

-- The laws.

core_holds : (t : Shape) → elements_of (core_of (source_of t)) ≤ globals_size (globals (source_of t))
core_holds t =
    let g : Globals = globals (source_of t) in
    omega (
      arith,
      length_flats 0 (flat_map terms (codes g)),
      heads_hold g.scope 0 0 0 (heads g),
      heads_few g.scope (heads g),
      heads_append g.functions g.processes,
      length_vars 0 g.shared,
      length-map g.semaphores sem,
      length-map g.channels chan,
    )

-- a table against its tree
pub core_few : (t : Shape) → elements_of (core_of (source_of t)) ≤ 9 * size_of (t ∷ [])
core_few t = omega (arith, core_holds t, items_more (source_of t).items no_globals, items_few t)

pub table_few : (t : Shape) (p : Program) → (faults_in (source_of t) ≡ []) × (p ≡ core_of (source_of t)) → elements_of p ≤ 9 * size_of (t ∷ [])
table_few t p a = omega (arith, ap elements_of a.1, core_few t)

pub nodes_few : (ns : List Node) (p : Program) → IsTable ns → (faults_in (source_of (tree_of ns)) ≡ []) × (p ≡ core_of (source_of (tree_of ns))) → elements_of p ≤ 9 * length ns
nodes_few ns p table a = omega (arith, table_few (tree_of ns) p a, tree_within ns table)

-- a tree against its tokens, and these against the bytes
tree_few : (ts : List Token) (t : Shape) → IsTree ts (t ∷ []) → size_of (t ∷ []) ≤ 3 * length ts
tree_few ts t tree =
    let tokens : length tree.marked ≡ length ts = sym (length-map tree.marked (λ x. x.token)) ∙ ap length tree.tokens in
    omega (arith, tokens, program_size (program_parsed tree.program))

tokens_few : (len : ℕ) (ts : List Token) → AreFormed len ts → length ts ≤ len + 1
tokens_few len [] formed = omega arith
tokens_few len (t ∷ ts) formed = omega (arith, counted_from 0 len t ts formed.each formed.rise)

pub parsed_few : (bytes : List ℕ) (t : Shape) → IsTreeOf bytes t → size_of (t ∷ []) ≤ 3 * (length bytes + 1)
parsed_few bytes t p = omega (arith, tree_few p.tokens t p.parsed, tokens_few (length bytes) p.tokens (formed bytes p.tokens p.lexed))
