-- The table of an accepted source that is not too large is a valid program, by what its names give.
use Rattle.std.proofs.Common.{◌≡◌, ◌∙◌, subst, ℕ, ◌+◌, ◌<◌, ◌≤◌, nat_lt, nat_le, Bool, true, false, arith, List, [], ◌∷◌, ◌++◌, length, IsTrue, not, map}
use Rattle.std.specs.List.{AllByRecursion, flat_map}
use Rattle.std.proofs.lemmas.List.Elements.{recursion_from_All}
use Rattle.std.proofs.lemmas.Bool.Decides.{nat_tests}
use Rattle.ppd_ast.specs.declared.limits.TheConstants.{MOST_FUNCTIONS}
use Rattle.ppd_ast.specs.declared.program.Program.{Program}
use Rattle.ppd_ast.specs.Table.{AreChildrenBelow}
use Rattle.ppd_ast.specs.Valid.{Follow, IsValid, IsValidBody, IsValidStmt}
use Rattle.ppd_parse.specs.Grammar.{Shape}
use Rattle.ppd_check.specs.Placed.{place_of}
use Rattle.ppd_check_names.specs.declared.fault.Fault.{Fault}
use Rattle.ppd_check_names.specs.declared.fault.Cause.TheVariants.{NoProcess}
use Rattle.ppd_check_names.specs.Faults.{if_so}
use Rattle.ppd_check_names.specs.Fitted.{fitted}
use Rattle.ppd_check_names.specs.Names.{Scope}
use Rattle.ppd_check_stmts.specs.Code.{Code}
use Rattle.ppd_check_names.specs.Reading.{source_of}
use Rattle.ppd_check_stmts.specs.Table.{terms}
use Rattle.ppd_check_stmts.specs.Statements.{row_faults}
use Rattle.ppd_check.specs.Sources.{head_faults, params_faults, past_statements, heads, codes, bodies, all_stmts, entered, entry, core_of, faults_in, return_faults}
use Rattle.ppd_check_names.specs.Globals.{Head, Globals, no_globals, globals, items_faults, count_faults}
use Rattle.ppd_check.proofs.Vocabulary.Sizes.{SourceFits}
use Rattle.ppd_check_stmts.proofs.Table.Writing.{length_flats}
use Rattle.ppd_check.proofs.Heading.{length_bodies}
use Rattle.ppd_check.proofs.Valid.Facts.{HeadNames, SourceNames}
use Rattle.ppd_check.proofs.Valid.Items.{IsFunction, IsProcess, AreSorted, tree_sorted, AreFit, source_fit, within_limits}
use Rattle.ppd_check.proofs.Valid.Lists.{EachFrom, all_parts, each_append, each_at, nil_parts, stands_all}
use Rattle.ppd_check.proofs.Valid.Sizes.{HeadFits, head_sized}
use Rattle.ppd_check.proofs.Valid.Terms.{all_children_below}
use Rattle.ppd_check.proofs.Valid.Uses.{used_once}
use Rattle.ppd_check.proofs.Valid.Bodies.{IsRightHead, heads_valid, follow}
use Rattle.ppd_check.proofs.Limits.Said.{all_join}

-- Functions and processes.

-- the functions come first
functions_first : (n j : ℕ) (hs : List Head) → j + length hs ≤ n → AllByRecursion IsFunction hs → EachFrom (λ i h. h.process ≡ nat_le n i) j hs
functions_first n j [] l h = tt
functions_first n j (f ∷ hs) l h = (h.0.0 ∙ later n j (omega (arith, l)), functions_first n (j + 1) hs (omega (arith, l)) h.1)
  where
    later : (n j : ℕ) → j < n → false ≡ nat_le n j
    later n j l = grind (arith, nat_tests, l)

processes_then : (n j : ℕ) (hs : List Head) → n ≤ j → AllByRecursion IsProcess hs → EachFrom (λ i h. h.process ≡ nat_le n i) j hs
processes_then n j [] l h = tt
processes_then n j (p ∷ hs) l h = (h.0.0 ∙ past n j l, processes_then n (j + 1) hs (omega (arith, l)) h.1)
  where
    past : (n j : ℕ) → n ≤ j → true ≡ nat_le n j
    past n j l = grind (arith, nat_tests, l)

heads_placed : (g : Globals) (n : ℕ) → AreSorted g → length g.functions ≡ n → EachFrom (λ i h. h.process ≡ nat_le n i) 0 (heads g)
heads_placed g n s e =
    each_append (λ i h. h.process ≡ nat_le n i) 0 n g.functions g.processes (omega (arith, e)) (functions_first n 0 g.functions (omega (arith, e)) s.functions) (processes_then n n g.processes (omega arith) s.processes)

-- What an accepted source breaks no rule of.

flat_nil : {X Y : Type 0} (f : X → List Y) (xs : List X) → flat_map f xs ≡ [] → AllByRecursion (λ x. f x ≡ []) xs
flat_nil f [] e = tt
flat_nil f (x ∷ xs) e = let n : (f x ≡ []) × (flat_map f xs ≡ []) = nil_parts (f x) (flat_map f xs) e in (n.0, flat_nil f xs n.1)

heads_unbroken : (t : Shape) → (faults_in (source_of t) ≡ []) → AllByRecursion (λ h. head_faults (globals (source_of t)).scope h ≡ []) (heads (globals (source_of t)))
heads_unbroken t a =
    let g : Globals = globals (source_of t) in
    let bodies_part : List Fault = flat_map (head_faults g.scope) (heads g) in
    let table_part : List Fault = past_statements (map place_of (all_stmts 0 0 0 (codes g))) in
    let end_part : List Fault = if_so (not (nat_lt 0 (length g.processes))) (source_of t).end NoProcess in
    let x = nil_parts (items_faults (source_of t).items no_globals) _ a in
    let y = nil_parts (count_faults g) _ x.1 in
    let z = nil_parts end_part (bodies_part ++ table_part) y.1 in
    flat_nil (head_faults g.scope) (heads g) (nil_parts bodies_part table_part z.1).0

head_returns : (scope : Scope) (h : Head) → head_faults scope h ≡ [] → return_faults h ≡ []
head_returns scope h e =
    let x = nil_parts (params_faults h.params (entered (scope ∷ []))) _ e in
    let y = nil_parts (row_faults h.block.row (entry scope h)) _ x.1 in
    (nil_parts (return_faults h) _ y.1).0

not_process : (b : Bool) → b ≡ false → IsTrue b → ⊥
not_process true e t = cc
not_process false e t = cc

functions_right : (p : Program) (scope : Scope) (hs : List Head) → AllByRecursion IsFunction hs → AllByRecursion (λ h. head_faults scope h ≡ []) hs → AllByRecursion (HeadNames p scope) hs → AllByRecursion HeadFits hs
    → AllByRecursion (IsRightHead p scope) hs
functions_right p scope [] h e f s = tt
functions_right p scope (x ∷ hs) h e f s =
    (record { passes = h.0.1; returns = head_returns scope x e.0; plain = λ t. absurd (not_process x.process h.0.0 t); names = f.0; sizes = head_sized scope x s.0 }, functions_right p scope hs h.1 e.1 f.1 s.1)

processes_right : (p : Program) (scope : Scope) (hs : List Head) → AllByRecursion IsProcess hs → AllByRecursion (λ h. head_faults scope h ≡ []) hs → AllByRecursion (HeadNames p scope) hs → AllByRecursion HeadFits hs
    → AllByRecursion (IsRightHead p scope) hs
processes_right p scope [] h e f s = tt
processes_right p scope (x ∷ hs) h e f s =
    (record { passes = h.0.3; returns = head_returns scope x e.0; plain = λ t. (h.0.1, h.0.2); names = f.0; sizes = head_sized scope x s.0 }, processes_right p scope hs h.1 e.1 f.1 s.1)

heads_right : (p : Program) (scope : Scope) (g : Globals) → AreSorted g → AreFit g → AllByRecursion (λ h. head_faults scope h ≡ []) (heads g) → AllByRecursion (HeadNames p scope) (heads g)
    → AllByRecursion (IsRightHead p scope) (heads g)
heads_right p scope g s f e n =
    let es = all_parts (λ h. head_faults scope h ≡ []) g.functions g.processes e in
    let ns = all_parts (HeadNames p scope) g.functions g.processes n in
    all_join (IsRightHead p scope) g.functions g.processes (functions_right p scope g.functions s.functions es.0 ns.0 f.functions) (processes_right p scope g.processes s.processes es.1 ns.1 f.processes)

-- The whole table.

small : (n : ℕ) → fitted 16 n ≤ MOST_FUNCTIONS → n ≡ fitted 16 n
small n h = omega (arith, h)

-- the law, from what names and sizes give
pub core_valid : (t : Shape) → (faults_in (source_of t) ≡ []) → SourceNames t → SourceFits (source_of t) → IsValid (core_of (source_of t))
core_valid t a n fits =
    let p : Program = core_of (source_of t) in
    let g : Globals = globals (source_of t) in
    let hs : List Head = heads g in
    let cs : List Code = codes g in
    let fit : AreFit g = source_fit (source_of t) fits in
    let few : length g.functions ≡ p.functions = small (length g.functions) n.counted.functions in
    let many : length p.bodies ≡ length hs = length_bodies g.scope 0 hs in
    let short : 0 + length hs < 65536 = omega (arith, many, n.counted.processes, n.counted.functions) in
    let valid : EachFrom (IsValidBody p) 0 (bodies g.scope 0 hs) × EachFrom (IsValidStmt p) 0 (all_stmts 0 0 0 cs) =
    heads_valid p g.scope hs 0 0 0 short (stands_all p.bodies) (stands_all p.stmts) (stands_all p.exprs)
    (heads_right p g.scope g (tree_sorted t) fit (heads_unbroken t a) (recursion_from_All (HeadNames p g.scope) hs n.heads))
    (heads_placed g p.functions (tree_sorted t) few) in
    let all : 0 + length p.stmts ≡ length p.stmts = omega arith in
    record {
      limits = within_limits t n.counted fit;
      children = each_at AreChildrenBelow p.exprs (all_children_below 0 (flat_map terms cs));
      once = λ e h. used_once e cs (subst (λ n. e < n) (length_flats 0 (flat_map terms cs)) h);
      cells = n.cells;
      ranges = subst (Follow 0 p.bodies) all (follow g.scope hs 0 0 0);
      bodies = each_at (IsValidBody p) p.bodies valid.0;
      stmts = each_at (IsValidStmt p) p.stmts valid.1;
    }
