-- The numbers of an accepted source are within the limits.
use Rattle.std.proofs.Common.{◌≡◌, refl, sym, subst, ◌∙◌, ℕ, ◌+◌, ◌-◌, ◌^◌, ◌<◌, ◌≤◌, arith, Bool, true, false, ◌&&◌, nat_lt, nat_le, List, [], ◌∷◌, ◌++◌, map, length, not}
use Rattle.std.specs.List.{All, flat_map}
use Rattle.std.proofs.lemmas.List.{length-append, length-map}
use Rattle.std.proofs.lemmas.List.Elements.{All-nil, All-push, All-weaker, All-map}
use Rattle.std.proofs.lemmas.Bool.{ltb-true}
use Rattle.ppd_ast.specs.declared.limits.TheConstants.{MOST_STATEMENTS, MOST_FUNCTIONS, MOST_PROCESSES, MOST_SHARED_CELLS, MOST_SEMAPHORES, MOST_CHANNELS, MOST_START, LEAST_CAPACITY, MOST_CAPACITY}
use Rattle.ppd_ast.specs.Cells.{CoverCells}
use Rattle.ppd_check.specs.Placed.{place_of}
use Rattle.ppd_check_names.specs.declared.fault.Cause.TheVariants.{NoProcess, BadSize}
use Rattle.ppd_check_names.specs.declared.fault.Fault.{Fault}
use Rattle.ppd_check_names.specs.declared.fault.Limit.TheVariants as L
use Rattle.ppd_check_names.specs.Faults.{if_so}
use Rattle.ppd_check_names.specs.Fitted.{fitted}
use Rattle.ppd_check_names.specs.declared.nodes.Number.{Number}
use Rattle.ppd_check_names.specs.Syntax.{Item, shared, shared_array, semaphore, channel, function, process, Source}
use Rattle.ppd_check_names.specs.Frames.{twice_faults, size_faults}
use Rattle.ppd_check.specs.Sources.{past_statements, head_faults, heads, codes, vars, bodies, core_of, faults_in, all_stmts}
use Rattle.ppd_check.proofs.Heading.{length_bodies}
use Rattle.ppd_check_names.specs.Globals.{Object, Globals, no_globals, item_name, item_size_faults, with_item, globals, items_faults, past, past_cells, count_faults, sem, chan}
use Rattle.ppd_check_names.specs.Holding.{with_items}
use Rattle.ppd_check_names.proofs.Words.{head_name, object_name}
use Rattle.ppd_check_names.proofs.Declared.Counted.{end_cells, le_true}
use Rattle.ppd_check.proofs.Named.Terms.{nil_left, nil_right, unless_true}
use Rattle.ppd_check.proofs.Named.Cells.{total, cells_total, cells_within, cover_cells}
use Rattle.ppd_check.proofs.Named.Counts.{few_statements, few_names}
use Rattle.ppd_check.proofs.Named.Items.{items_starts}
use Rattle.ppd_check.proofs.Valid.Facts.{AreCounted}

-- Sizes.

both_true : (a b : Bool) → a && b ≡ true → (a ≡ true) × (b ≡ true)
both_true true true h = (refl, refl)
both_true true false h = cc
both_true false b h = cc

pub sized : (least most : ℕ) (n : Number) → size_faults least most n ≡ [] → (least ≤ n.value) × (n.value ≤ most)
sized least most n h =
    let both : (nat_le least n.value ≡ true) × (nat_le n.value most ≡ true) =
    both_true (nat_le least n.value) (nat_le n.value most) (unless_true (nat_le least n.value && nat_le n.value most) n.place BadSize h) in
    (le_true least n.value both.0, le_true n.value most both.1)

abbrev pub StartsWithin : Object → Type 0
StartsWithin o = o.number ≤ MOST_START

abbrev pub HoldsWithin : Object → Type 0
HoldsWithin o = (LEAST_CAPACITY ≤ o.number) × (o.number ≤ MOST_CAPACITY)

-- start values and capacities are in their ranges
pub record AreSized (g : Globals) : Type 0 where
  pub semaphores : All StartsWithin g.semaphores
  pub channels : All HoldsWithin g.channels

item_sized : (i : Item) (g : Globals) → item_size_faults i ≡ [] → AreSized g → AreSized (with_item i g)
item_sized (shared x v) g h a = record { semaphores = a.semaphores; channels = a.channels }
item_sized (shared_array x n) g h a = record { semaphores = a.semaphores; channels = a.channels }
item_sized (semaphore x n) g h a =
    record {
      semaphores = All-push StartsWithin g.semaphores (record { name = x; number = n.value }) a.semaphores (sized 0 MOST_START n h).1;
      channels = a.channels;
    }
item_sized (channel x n) g h a =
    record {
      semaphores = a.semaphores;
      channels = All-push HoldsWithin g.channels (record { name = x; number = n.value }) a.channels (sized LEAST_CAPACITY MOST_CAPACITY n h);
    }
item_sized (function gives x params b) g h a = record { semaphores = a.semaphores; channels = a.channels }
item_sized (process x b) g h a = record { semaphores = a.semaphores; channels = a.channels }

items_sized : (is : List Item) (g : Globals) → items_faults is g ≡ [] → AreSized g → AreSized (with_items is g)
items_sized [] g h a = a
items_sized (i ∷ is) g h a =
    let h1 : item_size_faults i ++ items_faults is (with_item i g) ≡ [] = nil_right (twice_faults g.scope (item_name i)) (item_size_faults i ++ items_faults is (with_item i g)) h in
    items_sized is (with_item i g) (nil_right (item_size_faults i) (items_faults is (with_item i g)) h1)
    (item_sized i g (nil_left (item_size_faults i) (items_faults is (with_item i g)) h1) a)

-- What an accepted source declares.

-- no rule is broken by the items, by their counts, by the bodies, or by the count of statements
pub record BreaksNone (s : Source) : Type 0 where
  pub items : items_faults s.items no_globals ≡ []
  pub counts : count_faults (globals s) ≡ []
  pub process : 0 < length (globals s).processes
  pub bodies : flat_map (head_faults (globals s).scope) (heads (globals s)) ≡ []
  pub statements : past_statements (map place_of (all_stmts 0 0 0 (codes (globals s)))) ≡ []

pub breaks_none : (s : Source) → faults_in s ≡ [] → BreaksNone s
breaks_none s h =
    let g : Globals = globals s in
    let f4 : List Fault = past_statements (map place_of (all_stmts 0 0 0 (codes g))) in
    let f3 : List Fault = flat_map (head_faults g.scope) (heads g) ++ f4 in
    let f2 : List Fault = if_so (not (nat_lt 0 (length g.processes))) s.end NoProcess ++ f3 in
    let f1 : List Fault = count_faults g ++ f2 in
    let h1 : f1 ≡ [] = nil_right (items_faults s.items no_globals) f1 h in
    let h2 : f2 ≡ [] = nil_right (count_faults g) f2 h1 in
    let h3 : f3 ≡ [] = nil_right (if_so (not (nat_lt 0 (length g.processes))) s.end NoProcess) f3 h2 in
    record {
      items = nil_left (items_faults s.items no_globals) f1 h;
      counts = nil_left (count_faults g) f2 h1;
      process = ltb-true 0 (length g.processes) (unless_true (nat_lt 0 (length g.processes)) s.end NoProcess (nil_left (if_so (not (nat_lt 0 (length g.processes))) s.end NoProcess) f3 h2));
      bodies = nil_left (flat_map (head_faults g.scope) (heads g)) f4 h3;
      statements = nil_right (flat_map (head_faults g.scope) (heads g)) f4 h3;
    }

pub source_sized : (s : Source) → BreaksNone s → AreSized (globals s)
source_sized s none = items_sized s.items no_globals none.items (record { semaphores = All-nil StartsWithin; channels = All-nil HoldsWithin })

-- as many of each sort as there may be
pub record AreFew (g : Globals) : Type 0 where
  pub functions : length g.functions ≤ MOST_FUNCTIONS
  pub processes : length g.processes ≤ MOST_PROCESSES
  pub semaphores : length g.semaphores ≤ MOST_SEMAPHORES
  pub channels : length g.channels ≤ MOST_CHANNELS
  pub shared : past_cells MOST_SHARED_CELLS L.Shared 0 g.shared ≡ []

pub are_few : (g : Globals) → count_faults g ≡ [] → AreFew g
are_few g h =
    let f4 : List Fault = past_cells MOST_SHARED_CELLS L.Shared 0 g.shared in
    let f3 : List Fault = past MOST_CHANNELS L.Channels (map object_name g.channels) ++ f4 in
    let f2 : List Fault = past MOST_SEMAPHORES L.Semaphores (map object_name g.semaphores) ++ f3 in
    let f1 : List Fault = past MOST_PROCESSES L.Processes (map head_name g.processes) ++ f2 in
    let h1 : f1 ≡ [] = nil_right (past MOST_FUNCTIONS L.Functions (map head_name g.functions)) f1 h in
    let h2 : f2 ≡ [] = nil_right (past MOST_PROCESSES L.Processes (map head_name g.processes)) f2 h1 in
    let h3 : f3 ≡ [] = nil_right (past MOST_SEMAPHORES L.Semaphores (map object_name g.semaphores)) f3 h2 in
    record {
      functions = few head_name g.functions MOST_FUNCTIONS (few_names MOST_FUNCTIONS L.Functions (map head_name g.functions) (nil_left (past MOST_FUNCTIONS L.Functions (map head_name g.functions)) f1 h));
      processes = few head_name g.processes MOST_PROCESSES (few_names MOST_PROCESSES L.Processes (map head_name g.processes) (nil_left (past MOST_PROCESSES L.Processes (map head_name g.processes)) f2 h1));
      semaphores = few object_name g.semaphores MOST_SEMAPHORES (few_names MOST_SEMAPHORES L.Semaphores (map object_name g.semaphores) (nil_left (past MOST_SEMAPHORES L.Semaphores (map object_name g.semaphores)) f3 h2));
      channels = few object_name g.channels MOST_CHANNELS (few_names MOST_CHANNELS L.Channels (map object_name g.channels) (nil_left (past MOST_CHANNELS L.Channels (map object_name g.channels)) f4 h3));
      shared = nil_right (past MOST_CHANNELS L.Channels (map object_name g.channels)) f4 h3;
    }
  where
    few : {X Y : Type 0} (f : X → Y) (xs : List X) (most : ℕ) → length (map f xs) ≤ most → length xs ≤ most
    few f xs most le = subst (λ n. n ≤ most) (length-map xs f) le

-- The limits of the table.

few_shared : MOST_SHARED_CELLS < 2 ^ 16 - 1
few_shared = omega arith

-- the shared variables share no cell and cover the shared cells, each of which has one start value
pub shared_cells : (s : Source) → AreFew (globals s) → CoverCells (vars 0 (globals s).shared) (length (globals s).starts)
shared_cells s few =
    subst (λ n. CoverCells (vars 0 (globals s).shared) n) (sym (items_starts s.items no_globals refl)) (cover_cells MOST_SHARED_CELLS L.Shared few_shared (globals s).shared few.shared)

few_starts : (s : Source) → AreFew (globals s) → length (globals s).starts ≤ MOST_SHARED_CELLS
few_starts s few =
    let a : length (globals s).starts ≡ total (globals s).shared = items_starts s.items no_globals refl in
    let b : end_cells 0 (globals s).shared ≡ 0 + total (globals s).shared = cells_total MOST_SHARED_CELLS L.Shared few_shared 0 (globals s).shared few.shared in
    let c : end_cells 0 (globals s).shared ≤ MOST_SHARED_CELLS = cells_within MOST_SHARED_CELLS L.Shared few_shared 0 (globals s).shared (omega arith) few.shared in
    omega (arith, a, b, c)

-- numbers within the limits are not capped
pub functions_fit : (n : ℕ) → n ≤ MOST_FUNCTIONS → fitted 16 n ≡ n
functions_fit n h = omega (arith, h)

pub start_fits : (n : ℕ) → n ≤ MOST_START → fitted 32 n ≡ n
start_fits n h = omega (arith, h)

pub capacity_fits : (n : ℕ) → n ≤ MOST_CAPACITY → fitted 8 n ≡ n
capacity_fits n h = omega (arith, h)

-- the numbers of a program's parts, its start values and its capacities are as the limits have it
pub counted : (s : Source) → BreaksNone s → AreCounted (core_of s)
counted s none =
    record {
      stmts = subst (λ n. n ≤ MOST_STATEMENTS) (length-map (all_stmts 0 0 0 (codes (globals s))) place_of) (few_statements (map place_of (all_stmts 0 0 0 (codes (globals s)))) none.statements);
      functions = subst (λ n. n ≤ MOST_FUNCTIONS) (sym fit) few.functions;
      process = bounds.0;
      processes = bounds.1;
      starts = few_starts s few;
      sem_count = subst (λ n. n ≤ MOST_SEMAPHORES) (sym (length-map (globals s).semaphores sem)) few.semaphores;
      sems = starts;
      chan_count = subst (λ n. n ≤ MOST_CHANNELS) (sym (length-map (globals s).channels chan)) few.channels;
      chans = holds;
    }
  where
    few : AreFew (globals s)
    few = are_few (globals s) none.counts

    sizes : AreSized (globals s)
    sizes = source_sized s none

    fit : fitted 16 (length (globals s).functions) ≡ length (globals s).functions
    fit = functions_fit (length (globals s).functions) few.functions

    many : length (bodies (globals s).scope 0 (heads (globals s))) ≡ length (globals s).functions + length (globals s).processes
    many = length_bodies (globals s).scope 0 (heads (globals s)) ∙ length-append (globals s).functions (globals s).processes

    between : (f f' ps n : ℕ) → f' ≡ f → n ≡ f + ps → 0 < ps → ps ≤ MOST_PROCESSES → (f' < n) × (n ≤ f' + MOST_PROCESSES)
    between f f' ps n a b c d = (omega (arith, a, b, c), omega (arith, a, b, d))

    bounds : (fitted 16 (length (globals s).functions) < length (bodies (globals s).scope 0 (heads (globals s)))) × (length (bodies (globals s).scope 0 (heads (globals s))) ≤ fitted 16 (length (globals s).functions) + MOST_PROCESSES)
    bounds = between (length (globals s).functions) (fitted 16 (length (globals s).functions)) (length (globals s).processes) (length (bodies (globals s).scope 0 (heads (globals s)))) fit many none.process few.processes

    starts : All (λ x. x.start ≤ MOST_START) (map sem (globals s).semaphores)
    starts =
        All-map (λ x. x.start ≤ MOST_START) sem (globals s).semaphores
        (All-weaker StartsWithin (λ o. fitted 32 o.number ≤ MOST_START) (λ o h. subst (λ n. n ≤ MOST_START) (sym (start_fits o.number h)) h) (globals s).semaphores sizes.semaphores)

    holds : All (λ x. (LEAST_CAPACITY ≤ x.capacity) × (x.capacity ≤ MOST_CAPACITY)) (map chan (globals s).channels)
    holds =
        All-map (λ x. (LEAST_CAPACITY ≤ x.capacity) × (x.capacity ≤ MOST_CAPACITY)) chan (globals s).channels
        (All-weaker HoldsWithin (λ o. (LEAST_CAPACITY ≤ fitted 8 o.number) × (fitted 8 o.number ≤ MOST_CAPACITY))
        (λ o h. subst (λ n. (LEAST_CAPACITY ≤ n) × (n ≤ MOST_CAPACITY)) (sym (capacity_fits o.number h.1)) h) (globals s).channels sizes.channels)
