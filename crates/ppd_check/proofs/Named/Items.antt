-- What is declared in the scope of a whole source is there.
use Rattle.ppd_ast.specs.declared.limits.TheConstants.{MOST_LOCAL_CELLS}
use Rattle.ppd_ast.specs.declared.program.Program.{Program}
use Rattle.ppd_check.proofs.Named.Cells.{cells_total, cells_within, total}
use Rattle.ppd_check.proofs.Named.Frames.{LeadsTo, leads_further, leads_itself, leads_on, row_leads}
use Rattle.ppd_check.proofs.Named.Terms.{nil_left, nil_right}
use Rattle.ppd_check.specs.Sources.{all_stmts, bodies, body, codes, entered, entry, head_code, head_faults, head_frame, heads, params_faults, return_faults, vars}
use Rattle.ppd_check_names.proofs.Declared.Counted.{end_cells, end_cells_more}
use Rattle.ppd_check_names.specs.Fitted.{fitted}
use Rattle.ppd_check_names.specs.Frames.{after_cells, declared, variable_of}
use Rattle.ppd_check_names.specs.Globals.{Globals, Head, chan, past_cells, sem, with_item}
use Rattle.ppd_check_names.specs.Holding.{with_items}
use Rattle.ppd_check_names.specs.Names.{Scope}
use Rattle.ppd_check_names.specs.Syntax.{Item, Name, channel, function, process, semaphore, shared, shared_array}
use Rattle.ppd_check_names.specs.declared.fault.Fault.{Fault}
use Rattle.ppd_check_names.specs.declared.fault.Limit.TheVariants as L
use Rattle.ppd_check_names.specs.declared.frame.Frame.{Frame}
use Rattle.ppd_check_names.specs.declared.frame.Variable.{Variable}
use Rattle.ppd_check_stmts.specs.Code.{count}
use Rattle.ppd_check_stmts.specs.Statements.{row_faults}
use Rattle.ppd_check_stmts.specs.Table.{flats, terms}
use Rattle.std.proofs.Common.{List, None, Some, [], ap, arith, fold, length, map, pos, refl, replicate, slice_get, subst, sym, ℕ, ℤ, ◌++◌, ◌+◌, ◌-◌, ◌<◌, ◌^◌, ◌∙◌, ◌∷◌, ◌≡◌, ◌≤◌}
use Rattle.std.proofs.lemmas.List.{append-nil, append_assoc, length-append, length-replicate}
use Rattle.std.specs.List.{flat_map}
use Rattle.std.specs.Prelude.{unwrap_or}

-- the table of what is declared
abbrev pub table_of : Globals → Program
table_of g =
    record {
      exprs = flats 0 (flat_map terms (codes g));
      stmts = all_stmts 0 0 0 (codes g);
      bodies = bodies g.scope 0 (heads g);
      functions = fitted 16 (length g.functions);
      shared = vars 0 g.shared;
      starts = g.starts;
      sems = map sem g.semaphores;
      chans = map chan g.channels;
    }

-- What is declared grows.

-- the second has declared all that the first has, and more
pub record HasAll (g k : Globals) : Type 0 where
  pub shared : LeadsTo g.shared k.shared
  pub semaphores : LeadsTo g.semaphores k.semaphores
  pub channels : LeadsTo g.channels k.channels
  pub functions : LeadsTo g.functions k.functions
  pub processes : LeadsTo g.processes k.processes

pub has_itself : (g : Globals) → HasAll g g
has_itself g =
    record {
      shared = leads_itself g.shared;
      semaphores = leads_itself g.semaphores;
      channels = leads_itself g.channels;
      functions = leads_itself g.functions;
      processes = leads_itself g.processes;
    }

pub has_further : (g h k : Globals) → HasAll g h → HasAll h k → HasAll g k
has_further g h k a b =
    record {
      shared = leads_further g.shared h.shared k.shared a.shared b.shared;
      semaphores = leads_further g.semaphores h.semaphores k.semaphores a.semaphores b.semaphores;
      channels = leads_further g.channels h.channels k.channels a.channels b.channels;
      functions = leads_further g.functions h.functions k.functions a.functions b.functions;
      processes = leads_further g.processes h.processes k.processes a.processes b.processes;
    }

pub has_item : (i : Item) (g : Globals) → HasAll g (with_item i g)
has_item (shared x v) g = let a : HasAll g g = has_itself g in record { shared = leads_on g.shared _; semaphores = a.semaphores; channels = a.channels; functions = a.functions; processes = a.processes }
has_item (shared_array x n) g = let a : HasAll g g = has_itself g in record { shared = leads_on g.shared _; semaphores = a.semaphores; channels = a.channels; functions = a.functions; processes = a.processes }
has_item (semaphore x n) g = let a : HasAll g g = has_itself g in record { shared = a.shared; semaphores = leads_on g.semaphores _; channels = a.channels; functions = a.functions; processes = a.processes }
has_item (channel x n) g = let a : HasAll g g = has_itself g in record { shared = a.shared; semaphores = a.semaphores; channels = leads_on g.channels _; functions = a.functions; processes = a.processes }
has_item (function gives x params b) g = let a : HasAll g g = has_itself g in record { shared = a.shared; semaphores = a.semaphores; channels = a.channels; functions = leads_on g.functions _; processes = a.processes }
has_item (process x b) g = let a : HasAll g g = has_itself g in record { shared = a.shared; semaphores = a.semaphores; channels = a.channels; functions = a.functions; processes = leads_on g.processes _ }

pub has_items : (is : List Item) (g : Globals) → HasAll g (with_items is g)
has_items [] g = has_itself g
has_items (i ∷ is) g = has_further g (with_item i g) (with_items is (with_item i g)) (has_item i g) (has_items is (with_item i g))

-- The cells of shared variables.

pub item_cells : (i : Item) (g : Globals) → g.cells ≡ end_cells 0 g.shared → (with_item i g).cells ≡ end_cells 0 (with_item i g).shared
item_cells (shared x v) g h = ap (λ c. after_cells c None) h ∙ sym (end_cells_more 0 g.shared (variable_of x None))
item_cells (shared_array x n) g h = ap (λ c. after_cells c (Some (fitted 16 n.value))) h ∙ sym (end_cells_more 0 g.shared (variable_of x (Some (fitted 16 n.value))))
item_cells (semaphore x n) g h = h
item_cells (channel x n) g h = h
item_cells (function gives x params b) g h = h
item_cells (process x b) g h = h

total_push : (xs : List Variable) (v : Variable) → total (xs ++ v ∷ []) ≡ total xs + unwrap_or v.length 1
total_push [] v = omega arith
total_push (x ∷ xs) v = let r : total (xs ++ v ∷ []) ≡ total xs + unwrap_or v.length 1 = total_push xs v in omega (arith, r)

more_starts : (starts more : List ℤ) (xs : List Variable) (v : Variable) → length starts ≡ total xs → length more ≡ unwrap_or v.length 1 → length (starts ++ more) ≡ total (xs ++ v ∷ [])
more_starts starts more xs v h e =
    let a : length (starts ++ more) ≡ length starts + length more = length-append starts more in
    let b : total (xs ++ v ∷ []) ≡ total xs + unwrap_or v.length 1 = total_push xs v in
    omega (arith, a, b, h, e)

item_starts : (i : Item) (g : Globals) → length g.starts ≡ total g.shared → length (with_item i g).starts ≡ total (with_item i g).shared
item_starts (shared x v) g h = more_starts g.starts (v ∷ []) g.shared (variable_of x None) h refl
item_starts (shared_array x n) g h =
    more_starts g.starts (replicate (fitted 16 n.value) (pos 0)) g.shared (variable_of x (Some (fitted 16 n.value))) h (length-replicate (fitted 16 n.value) (pos 0))
item_starts (semaphore x n) g h = h
item_starts (channel x n) g h = h
item_starts (function gives x params b) g h = h
item_starts (process x b) g h = h

-- each shared cell has one start value
pub items_starts : (is : List Item) (g : Globals) → length g.starts ≡ total g.shared → length (with_items is g).starts ≡ total (with_items is g).shared
items_starts [] g h = h
items_starts (i ∷ is) g h = items_starts is (with_item i g) (item_starts i g h)

-- A function's body.

pub flat_map_at : {X Y : Type 0} (f : X → List Y) (xs : List X) (x : X) (ys : List X) → flat_map f (xs ++ x ∷ ys) ≡ [] → f x ≡ []
flat_map_at f [] x ys h = nil_left (f x) (flat_map f ys) h
flat_map_at f (w ∷ xs) x ys h = flat_map_at f xs x ys (nil_right (f w) (flat_map f (xs ++ x ∷ ys)) h)

pub body_at : (scope : Scope) (n : ℕ) (hs : List Head) (h : Head) (more : List Head) → (m : ℕ) × (slice_get (bodies scope n (hs ++ h ∷ more)) (length hs) ≡ Some (body scope m h))
body_at scope n [] h more = (n, refl)
body_at scope n (k ∷ hs) h more = body_at scope (n + count (head_code scope k)) hs h more

params_variables : (xs : List Name) (f : Frame) → (fold (declared None) f xs).variables ≡ f.variables ++ map (λ x. variable_of x None) xs
params_variables [] f = sym (append-nil f.variables)
params_variables (x ∷ xs) f =
    params_variables xs (declared None f x) ∙ append_assoc f.variables (variable_of x None ∷ []) (map (λ x. variable_of x None) xs)

-- the parameters are a body's first variables
pub params_lead : (scope : Scope) (h : Head) → LeadsTo (map (λ x. variable_of x None) h.params) (head_frame scope h).variables
params_lead scope h =
    subst (λ l. LeadsTo l (head_frame scope h).variables) (params_variables h.params (entered (scope ∷ []))) (row_leads h.block.row (entry scope h))

names_total : (xs : List Name) (more : List Variable) → length xs ≤ total (map (λ x. variable_of x None) xs ++ more)
names_total [] more = omega arith
names_total (x ∷ xs) more = let r : length xs ≤ total (map (λ x. variable_of x None) xs ++ more) = names_total xs more in omega (arith, r)

-- the rules on a body's cells
pub cells_faults : (scope : Scope) (h : Head) → head_faults scope h ≡ [] → past_cells MOST_LOCAL_CELLS L.Locals 0 (head_frame scope h).variables ≡ []
cells_faults scope h e =
    let f3 : List Fault = past_cells MOST_LOCAL_CELLS L.Locals 0 (head_frame scope h).variables in
    let f2 : List Fault = return_faults h ++ f3 in
    let f1 : List Fault = row_faults h.block.row (entry scope h) ++ f2 in
    nil_right (return_faults h) f3 (nil_right (row_faults h.block.row (entry scope h)) f2 (nil_right (params_faults h.params (entered (scope ∷ []))) f1 e))

pub few_locals : MOST_LOCAL_CELLS < 2 ^ 16 - 1
few_locals = omega arith

pub few_params : (scope : Scope) (h : Head) → head_faults scope h ≡ [] → fitted 16 (length h.params) ≡ length h.params
few_params scope h e =
    let lead : LeadsTo (map (λ x. variable_of x None) h.params) (head_frame scope h).variables = params_lead scope h in
    let within : past_cells MOST_LOCAL_CELLS L.Locals 0 (head_frame scope h).variables ≡ [] = cells_faults scope h e in
    let a : end_cells 0 (head_frame scope h).variables ≤ MOST_LOCAL_CELLS = cells_within MOST_LOCAL_CELLS L.Locals few_locals 0 (head_frame scope h).variables (omega arith) within in
    let b : end_cells 0 (head_frame scope h).variables ≡ 0 + total (head_frame scope h).variables = cells_total MOST_LOCAL_CELLS L.Locals few_locals 0 (head_frame scope h).variables within in
    let c : length h.params ≤ total (head_frame scope h).variables = subst (λ l. length h.params ≤ total l) (sym lead.1) (names_total h.params lead.0) in
    short_small (length h.params) (omega (arith, a, b, c))
  where
    short_small : (n : ℕ) → n ≤ MOST_LOCAL_CELLS → fitted 16 n ≡ n
    short_small n le = omega (arith, le)
