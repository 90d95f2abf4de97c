-- The names of an accepted source mean what is there, and each of its bodies names only that.
use Rattle.std.proofs.Common.{◌≡◌, refl, sym, ap, subst, ◌∙◌, ℕ, ◌+◌, ◌<◌, ◌≤◌, arith, Bool, true, false, if◌then◌else◌, List, [], ◌∷◌, ◌++◌, map, length, Some, None, IsSomeAnd, slice_get, fold}
use Rattle.std.specs.List.{flat_map}
use Rattle.std.proofs.lemmas.List.{append_assoc, length-append, length-map}
use Rattle.ppd_ast.specs.declared.limits.TheConstants.{MOST_FUNCTIONS, MOST_LOCAL_CELLS}
use Rattle.ppd_ast.specs.declared.program.Var.{Var}
use Rattle.ppd_ast.specs.declared.program.Program.{Program}
use Rattle.ppd_ast.specs.Cells.{CoverCells, AreParams}
use Rattle.ppd_check_names.specs.declared.fault.Fault.{Fault}
use Rattle.ppd_check_names.specs.declared.fault.Limit.TheVariants as L
use Rattle.ppd_check_names.specs.declared.frame.Variable.{Variable}
use Rattle.ppd_check_names.specs.declared.frame.Frame.{Frame}
use Rattle.ppd_check_names.specs.declared.meaning.Meaning.TheVariants as M
use Rattle.ppd_check_names.specs.Fitted.{fitted}
use Rattle.ppd_check_names.specs.Names.{Scope}
use Rattle.ppd_check_stmts.specs.Code as C
use Rattle.ppd_check_stmts.specs.Code.{act, done}
use Rattle.ppd_check_names.specs.Syntax.{Name, Item, shared, shared_array, semaphore, channel, function, process}
use Rattle.ppd_check_stmts.specs.Statements.{row_code, row_faults}
use Rattle.ppd_check_names.specs.Frames.{variable_of, declared}
use Rattle.ppd_check.specs.Sources.{params_faults, entered, entry, ends_with_return, head_code, head_frame, head_faults, heads, vars, body, bodies, close_code, return_faults}
use Rattle.ppd_check_names.specs.Globals.{Head, Globals, no_globals, with_item, past_cells, sem, chan}
use Rattle.ppd_check_names.specs.Holding.{with_items}
use Rattle.ppd_check_names.proofs.Declared.Counted.{end_cells}
use Rattle.ppd_check.proofs.Named.Rightly.{IsThere, AreThere, AreNamedRightly}
use Rattle.ppd_check.proofs.Named.Terms.{nil_left, nil_right, declare_there}
use Rattle.ppd_check.proofs.Named.Acts.{bare_back_rightly, finish_rightly}
use Rattle.ppd_check.proofs.Named.Frames.{LeadsTo, leads_itself, leads_further, last_there, row_leads, IsOnTheWay, declared_on, row_on}
use Rattle.ppd_check.proofs.Named.Rows.{HasSteps, row_rightly, join_rightly}
use Rattle.ppd_check.proofs.Named.Cells.{total, cells_total, cells_within, cover_cells, params_first}
use Rattle.ppd_check.proofs.Named.Items.{table_of, HasAll, has_itself, has_items, has_further, item_cells, flat_map_at, body_at, params_lead, cells_faults, few_locals, few_params}

-- Names of the whole source.

longer : {X : Type 0} (xs : List X) (x : X) (ys : List X) → LeadsTo (xs ++ x ∷ []) ys → length xs < length ys
longer xs x ys l =
    let a : length ((xs ++ x ∷ []) ++ l.0) ≡ length (xs ++ x ∷ []) + length l.0 = length-append (xs ++ x ∷ []) l.0 in
    let b : length (xs ++ x ∷ []) ≡ length xs + 1 = length-append xs (x ∷ []) in
    let c : length ys ≡ length ((xs ++ x ∷ []) ++ l.0) = ap length l.1 in
    omega (arith, a, b, c)

-- a number below a length is still below it where it is capped
capped_byte : (n m : ℕ) → n < m → fitted 8 n < m
capped_byte n m h = omega (arith, h)

capped_short : (n m : ℕ) → n < m → m ≤ MOST_FUNCTIONS → fitted 16 n < fitted 16 m
capped_short n m h le = omega (arith, h, le)

short_same : (n m : ℕ) → n < m → m ≤ MOST_FUNCTIONS → fitted 16 n ≡ n
short_same n m h le = omega (arith, h, le)

-- what the rules leave of what is declared: few functions, and bodies that break none
pub record IsAllowed (g : Globals) : Type 0 where
  pub functions : length g.functions ≤ MOST_FUNCTIONS
  pub bodies : flat_map (head_faults g.scope) (heads g) ≡ []

-- a function's number is that of its body
function_there : (g : Globals) (locals : List Var) (before : List Head) (h : Head) → IsAllowed g → LeadsTo (before ++ h ∷ []) g.functions
    → IsThere (table_of g) locals (M.Function (fitted 16 (length before)) (length h.params) h.gives)
function_there g locals before h allowed lead = (
  capped_short (length before) (length g.functions) below allowed.functions,
  subst (λ k. IsSomeAnd (slice_get (bodies g.scope 0 (heads g)) k) (λ b. (length h.params ≡ b.params) × (h.gives ≡ b.value)))
      (sym (short_same (length before) (length g.functions) below allowed.functions)) there,
)
  where
    below : length before < length g.functions
    below = longer before h g.functions lead

    is : heads g ≡ before ++ h ∷ (lead.0 ++ g.processes)
    is =
        ap (λ l. l ++ g.processes) (lead.1 ∙ append_assoc before (h ∷ []) lead.0)
        ∙ append_assoc before (h ∷ lead.0) g.processes

    breaks_none : head_faults g.scope h ≡ []
    breaks_none = flat_map_at (head_faults g.scope) before h (lead.0 ++ g.processes) (subst (λ l. flat_map (head_faults g.scope) l ≡ []) is allowed.bodies)

    at : (m : ℕ) × (slice_get (bodies g.scope 0 (before ++ h ∷ (lead.0 ++ g.processes))) (length before) ≡ Some (body g.scope m h))
    at = body_at g.scope 0 before h (lead.0 ++ g.processes)

    there : IsSomeAnd (slice_get (bodies g.scope 0 (heads g)) (length before)) (λ b. (length h.params ≡ b.params) × (h.gives ≡ b.value))
    there =
        subst (λ l. IsSomeAnd (slice_get (bodies g.scope 0 l) (length before)) (λ b. (length h.params ≡ b.params) × (h.gives ≡ b.value))) (sym is)
        (subst (λ o. IsSomeAnd o (λ b. (length h.params ≡ b.params) × (h.gives ≡ b.value))) (sym at.1) (sym (few_params g.scope h breaks_none), refl))

-- what the next item declares is there
item_there : (g : Globals) (locals : List Var) (i : Item) (k : Globals) → IsAllowed g → k.cells ≡ end_cells 0 k.shared → AreThere (table_of g) locals k.scope → HasAll (with_item i k) g
    → AreThere (table_of g) locals (with_item i k).scope
item_there g locals (shared x v) k allowed cells there has =
    declare_there (table_of g) locals k.scope x.text _ (last_there g.shared k.shared (variable_of x None) k.cells has.shared cells) there
item_there g locals (shared_array x n) k allowed cells there has =
    declare_there (table_of g) locals k.scope x.text _ (last_there g.shared k.shared (variable_of x (Some (fitted 16 n.value))) k.cells has.shared cells) there
item_there g locals (semaphore x n) k allowed cells there has =
    declare_there (table_of g) locals k.scope x.text (M.Semaphore (fitted 8 (length k.semaphores)))
    (subst (λ m. fitted 8 (length k.semaphores) < m) (sym (length-map g.semaphores sem)) (capped_byte (length k.semaphores) (length g.semaphores) (longer k.semaphores _ g.semaphores has.semaphores))) there
item_there g locals (channel x n) k allowed cells there has =
    declare_there (table_of g) locals k.scope x.text (M.Channel (fitted 8 (length k.channels)))
    (subst (λ m. fitted 8 (length k.channels) < m) (sym (length-map g.channels chan)) (capped_byte (length k.channels) (length g.channels) (longer k.channels _ g.channels has.channels))) there
item_there g locals (function gives x params b) k allowed cells there has =
    declare_there (table_of g) locals k.scope x.text (M.Function (fitted 16 (length k.functions)) (length params) gives)
    (function_there g locals k.functions (record { process = false; gives = gives; name = x; params = params; block = b }) allowed has.functions) there
item_there g locals (process x b) k allowed cells there has = declare_there (table_of g) locals k.scope x.text M.Process tt there

items_there : (g : Globals) (locals : List Var) (is : List Item) (k : Globals) → IsAllowed g → k.cells ≡ end_cells 0 k.shared → AreThere (table_of g) locals k.scope → HasAll (with_items is k) g
    → AreThere (table_of g) locals (with_items is k).scope
items_there g locals [] k allowed cells there has = there
items_there g locals (i ∷ is) k allowed cells there has =
    items_there g locals is (with_item i k) allowed (item_cells i k cells)
    (item_there g locals i k allowed cells there (has_further (with_item i k) (with_items is (with_item i k)) g (has_items is (with_item i k)) has))
    has

-- each name of the source's scope means what is there
pub names_there : (is : List Item) (locals : List Var) → IsAllowed (with_items is no_globals) → AreThere (table_of (with_items is no_globals)) locals (with_items is no_globals).scope
names_there is locals allowed =
    items_there (with_items is no_globals) locals is no_globals allowed refl tt (has_itself (with_items is no_globals))

-- Bodies.

params_on : (p : Program) (vs : List Variable) (xs : List Name) (f : Frame) → IsOnTheWay p vs f → LeadsTo (fold (declared None) f xs).variables vs → IsOnTheWay p vs (fold (declared None) f xs)
params_on p vs [] f way l = way
params_on p vs (x ∷ xs) f way l = params_on p vs xs (declared None f x) (declared_on p vs x None f way (leads_further _ _ _ (params_grow xs (declared None f x)) l)) l
  where
    params_grow : (xs : List Name) (f : Frame) → LeadsTo f.variables (fold (declared None) f xs).variables
    params_grow [] f = leads_itself f.variables
    params_grow (x ∷ xs) f = leads_further _ _ _ (variable_of x None ∷ [], refl) (params_grow xs (declared None f x))

close_rightly : (p : Program) (locals : List Var) (h : Head) → AreNamedRightly p locals (close_code h)
close_rightly p locals h = go h.process (ends_with_return h.block.row)
  where
    go : (a b : Bool) → AreNamedRightly p locals (if a then act h.block.close C.finish done else if b then done else act h.block.close (C.give_back None) done)
    go true b = (finish_rightly p locals, tt)
    go false true = tt
    go false false = (bare_back_rightly p locals, tt)

entry_on : (p : Program) (scope : Scope) (h : Head) → AreThere p (vars 0 (head_frame scope h).variables) scope → IsOnTheWay p (head_frame scope h).variables (entry scope h)
entry_on p scope h there =
    params_on p (head_frame scope h).variables h.params (entered (scope ∷ []))
    (record { cells = refl; leads = ((head_frame scope h).variables, refl); names = (tt, (there, tt)) })
    (row_leads h.block.row (entry scope h))

-- the code of a body names only what is there
pub head_rightly : (p : Program) (scope : Scope) (h : Head) → AreThere p (vars 0 (head_frame scope h).variables) scope → HasSteps h.block.row → head_faults scope h ≡ []
    → AreNamedRightly p (vars 0 (head_frame scope h).variables) (head_code scope h)
head_rightly p scope h there steps e =
    join_rightly p (vars 0 (head_frame scope h).variables) (row_code h.block.row (entry scope h)) (close_code h)
    (row_rightly p (head_frame scope h).variables h.block.row (entry scope h) (entry_on p scope h there) (leads_itself (head_frame scope h).variables) steps breaks_none)
    (close_rightly p (vars 0 (head_frame scope h).variables) h)
  where
    breaks_none : row_faults h.block.row (entry scope h) ≡ []
    breaks_none =
        let f3 : List Fault = past_cells MOST_LOCAL_CELLS L.Locals 0 (head_frame scope h).variables in
        let f2 : List Fault = return_faults h ++ f3 in
        let f1 : List Fault = row_faults h.block.row (entry scope h) ++ f2 in
        nil_left (row_faults h.block.row (entry scope h)) f2 (nil_right (params_faults h.params (entered (scope ∷ []))) f1 e)

-- the frame of a function or a process: its variables share no cell and cover its cells, which are few, and its parameters come first
pub record HasFrame (scope : Scope) (h : Head) : Type 0 where
  pub frame : (head_frame scope h).cells ≤ MOST_LOCAL_CELLS
  pub cells : CoverCells (vars 0 (head_frame scope h).variables) (head_frame scope h).cells
  pub params : AreParams (vars 0 (head_frame scope h).variables) (fitted 16 (length h.params))

frame_of : (vs : List Variable) (cells n : ℕ) (xs : List Name) → cells ≡ end_cells 0 vs → n ≤ length xs → LeadsTo (map (λ x. variable_of x None) xs) vs → past_cells MOST_LOCAL_CELLS L.Locals 0 vs ≡ []
    → (cells ≤ MOST_LOCAL_CELLS) × CoverCells (vars 0 vs) cells × AreParams (vars 0 vs) n
frame_of vs cells n xs is few lead h =
    let a : end_cells 0 vs ≤ MOST_LOCAL_CELLS = cells_within MOST_LOCAL_CELLS L.Locals few_locals 0 vs (omega arith) h in
    let b : end_cells 0 vs ≡ 0 + total vs = cells_total MOST_LOCAL_CELLS L.Locals few_locals 0 vs h in
    let c : total vs ≡ cells = omega (arith, b, is) in (
      subst (λ k. k ≤ MOST_LOCAL_CELLS) (sym is) a,
      subst (λ k. CoverCells (vars 0 vs) k) c (cover_cells MOST_LOCAL_CELLS L.Locals few_locals vs h),
      subst (λ l. AreParams (vars 0 l) n) (sym lead.1)
          (params_first MOST_LOCAL_CELLS L.Locals few_locals xs lead.0 n few (subst (λ l. past_cells MOST_LOCAL_CELLS L.Locals 0 l ≡ []) lead.1 h)),
    )

short_at_most : (n : ℕ) → fitted 16 n ≤ n
short_at_most n = omega arith

pub head_has_frame : (p : Program) (scope : Scope) (h : Head) → AreThere p (vars 0 (head_frame scope h).variables) scope → head_faults scope h ≡ [] → HasFrame scope h
head_has_frame p scope h there e =
    let way : IsOnTheWay p (head_frame scope h).variables (head_frame scope h) =
    row_on p (head_frame scope h).variables h.block.row (entry scope h) (entry_on p scope h there) (leads_itself (head_frame scope h).variables) in
    let facts = frame_of (head_frame scope h).variables (head_frame scope h).cells (fitted 16 (length h.params)) h.params way.cells (short_at_most (length h.params)) (params_lead scope h) (cells_faults scope h e) in
    record { frame = facts.0; cells = facts.1; params = facts.2 }
