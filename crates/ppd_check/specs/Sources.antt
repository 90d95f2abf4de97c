-- A whole source: what it declares, the rules that it breaks, and its program.
use Rattle.std.specs.Prelude.{◌≡◌, ℕ, ◌+◌, Bool, true, false, not, ◌&&◌, ◌||◌, nat_lt, List, [], ◌∷◌, ◌++◌, map, fold, length, Option, None, is_some, if◌then◌else◌}
use Rattle.std.specs.List.{flat_map, filter, count_by}
use Rattle.std.specs.Ordering.{is_le, nat_cmp, ordering_then}
use Rattle.ppd_ast.specs.declared.limits.TheConstants.{MOST_STATEMENTS, MOST_LOCAL_CELLS}
use Rattle.ppd_ast.specs.declared.program.Place.{Place}
use Rattle.ppd_ast.specs.declared.program.Var.{Var}
use Rattle.ppd_ast.specs.declared.program.Body.{Body}
use Rattle.ppd_ast.specs.declared.program.Stmt.{Stmt}
use Rattle.ppd_ast.specs.declared.program.Program.{Program}
use Rattle.ppd_check_names.specs.declared.fault.Cause.TheVariants.{ReturnPlace, NoProcess, TooMany}
use Rattle.ppd_check_names.specs.declared.fault.Limit.TheVariants as L
use Rattle.ppd_check_names.specs.declared.fault.Fault.{Fault}
use Rattle.ppd_check_names.specs.declared.frame.Variable.{Variable}
use Rattle.ppd_check_names.specs.declared.frame.Frame.{Frame}
use Rattle.ppd_check_names.specs.Fitted.{fitted}
use Rattle.ppd_check_names.specs.Faults.{at, if_so}
use Rattle.ppd_check_names.specs.Names.{Scope, innermost}
use Rattle.ppd_check_stmts.specs.Code.{Code, done, act, join}
use Rattle.ppd_check_stmts.specs.Code as C
use Rattle.ppd_check_stmts.specs.Table.{stmts, numbers, terms, flats, weights}
use Rattle.ppd_check_stmts.specs.Statements.{after_row, row_code, row_faults}
use Rattle.ppd_check_names.specs.Frames.{after_cells, declared, twice_faults}
use Rattle.ppd_check_names.specs.Syntax.{Name, Simple, Row, stop, simple, block, choice, repeat, count, give_back, shared, process, Source}
use Rattle.ppd_check_names.specs.Globals.{Head, Globals, sem, chan, no_globals, globals, items_faults, past_cells, count_faults}

-- the places up to which more statements stand than there may be
abbrev pub past_statements : List Place → List Fault
past_statements ps =
    map (λ q. at q (TooMany L.Statements))
    (filter (λ q. nat_lt MOST_STATEMENTS (count_by
    (λ p. is_le (ordering_then (nat_cmp p.line q.line) (nat_cmp p.column q.column))) ps)) ps)

-- Returns.

abbrev pub simple_returns : Simple → List Fault
simple_returns (give_back p v) = at p ReturnPlace ∷ []
simple_returns s = []

-- every `return` of a row, as one that stands where none may
abbrev pub returns : Row → List Fault
returns stop = []
returns (simple s r) = simple_returns s ++ returns r
returns (block b r) = returns b ++ returns r
returns (choice p e a b r) = returns a ++ (returns b ++ returns r)
returns (repeat p e b r) = returns b ++ returns r
returns (count p start e step b r) = returns b ++ returns r

-- The outermost row of a function that gives a value or none, up to its closing brace. A `return` that anything
-- follows is not last.
abbrev pub last_return : (gives : Bool) → (close : Place) → Row → List Fault
last_return gives close stop = if_so gives close ReturnPlace
last_return gives close (simple (give_back p v) stop) =
    if_so (not (is_some v && gives || not (is_some v) && not gives)) p ReturnPlace
last_return gives close (simple s r) = simple_returns s ++ last_return gives close r
last_return gives close (block b r) = returns b ++ last_return gives close r
last_return gives close (choice p e a b r) = returns a ++ (returns b ++ last_return gives close r)
last_return gives close (repeat p e b r) = returns b ++ last_return gives close r
last_return gives close (count p start e step b r) = returns b ++ last_return gives close r

-- Bodies.

abbrev pub params_faults : List Name → Frame → List Fault
params_faults [] f = []
params_faults (x ∷ xs) f = twice_faults (innermost f.scopes) x ++ params_faults xs (declared None f x)

-- a body's outermost scope inside others, and its parameters in it inside that of the source
abbrev pub entered : List Scope → Frame
entered scopes = record { scopes = [] ∷ scopes; variables = []; cells = 0; hidden = 0 }

abbrev pub entry : Scope → Head → Frame
entry scope h = fold (declared None) (entered (scope ∷ [])) h.params

abbrev pub ends_with_return : Row → Bool
ends_with_return stop = false
ends_with_return (simple (give_back p v) stop) = true
ends_with_return (simple s r) = ends_with_return r
ends_with_return (block b r) = ends_with_return r
ends_with_return (choice p e a b r) = ends_with_return r
ends_with_return (repeat p e b r) = ends_with_return r
ends_with_return (count p start e step b r) = ends_with_return r

-- what stands at the closing brace of a body, and the rules that its returns break
abbrev pub close_code : Head → Code
close_code h =
    if h.process then act h.block.close C.finish done
    else if ends_with_return h.block.row then done
    else act h.block.close (C.give_back None) done

abbrev pub return_faults : Head → List Fault
return_faults h = if h.process then returns h.block.row else last_return h.gives h.block.close h.block.row

-- the core statements of a body, with what stands at its closing brace
abbrev pub head_code : Scope → Head → Code
head_code scope h = join (row_code h.block.row (entry scope h)) (close_code h)

-- the frame at the closing brace
abbrev pub head_frame : Scope → Head → Frame
head_frame scope h = after_row h.block.row (entry scope h)

abbrev pub head_faults : Scope → Head → List Fault
head_faults scope h =
    params_faults h.params (entered (scope ∷ []))
    ++ (row_faults h.block.row (entry scope h)
    ++ (return_faults h
    ++ past_cells MOST_LOCAL_CELLS L.Locals 0 (head_frame scope h).variables))

-- functions in order, then processes in order
abbrev pub heads : Globals → List Head
heads g = g.functions ++ g.processes

abbrev pub codes : Globals → List Code
codes g = map (head_code g.scope) (heads g)

-- The program.

-- variables of which the first begins at a cell
abbrev pub vars : (base : ℕ) → List Variable → List Var
vars base [] = []
vars base (v ∷ vs) = record { name = v.name; base = base; len = v.length } ∷ vars (after_cells base v.length) vs

-- a body whose first statement has number n
abbrev pub body : Scope → ℕ → Head → Body
body scope n h =
    record {
      name = h.name.text;
      process = h.process;
      params = fitted 16 (length h.params);
      value = h.gives;
      cells = (head_frame scope h).cells;
      locals = vars 0 (head_frame scope h).variables;
      top = numbers n (head_code scope h);
      first = n;
      end = n + C.count (head_code scope h);
    }

abbrev pub bodies : Scope → ℕ → List Head → List Body
bodies scope n [] = []
bodies scope n (h ∷ hs) = body scope n h ∷ bodies scope (n + C.count (head_code scope h)) hs

-- the statements of bodies from number b on
abbrev pub all_stmts : (b n m : ℕ) → List Code → List Stmt
all_stmts b n m [] = []
all_stmts b n m (c ∷ cs) =
    stmts (fitted 16 b) None n m c ++ all_stmts (b + 1) (n + C.count c) (m + weights (terms c)) cs

-- the table of a source
abbrev pub core_of : Source → Program
core_of s =
    let g : Globals = globals s in
    record {
      exprs = flats 0 (flat_map terms (codes g));
      stmts = all_stmts 0 0 0 (codes g);
      bodies = bodies g.scope 0 (heads g);
      functions = fitted 16 (length g.functions);
      shared = vars 0 g.shared;
      starts = g.starts;
      sems = map sem g.semaphores;
      chans = map chan g.channels;
    }

-- every broken rule with its place
abbrev pub faults_in : Source → List Fault
faults_in s =
    let g : Globals = globals s in
    items_faults s.items no_globals
    ++ (count_faults g
    ++ (if_so (not (nat_lt 0 (length g.processes))) s.end NoProcess
    ++ (flat_map (head_faults g.scope) (heads g)
    ++ past_statements (map (λ x. x.place) (core_of s).stmts))))
