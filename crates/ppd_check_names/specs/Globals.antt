-- What a source declares in the scope that all of it sees, and the rules for it.
use Rattle.std.specs.Prelude.{ℕ, ℤ, pos, ◌+◌, Bool, true, false, nat_lt, List, [], ◌∷◌, ◌++◌, map, fold, drop, replicate, length, Option, Some, None}
use Rattle.ppd_ast.specs.declared.limits.TheConstants.{MOST_FUNCTIONS, MOST_PROCESSES, MOST_SHARED_CELLS, MOST_SEMAPHORES, MOST_CHANNELS, MOST_START, LEAST_CAPACITY, MOST_CAPACITY}
use Rattle.ppd_ast.specs.declared.program.Sem.{Sem}
use Rattle.ppd_ast.specs.declared.program.Chan.{Chan}
use Rattle.ppd_check_names.specs.declared.fault.Cause.TheVariants.{TooMany}
use Rattle.ppd_check_names.specs.declared.fault.Limit.{Limit}
use Rattle.ppd_check_names.specs.declared.fault.Limit.TheVariants as L
use Rattle.ppd_check_names.specs.declared.fault.Fault.{Fault}
use Rattle.ppd_check_names.specs.declared.frame.Variable.{Variable}
use Rattle.ppd_check_names.specs.Fitted.{fitted}
use Rattle.ppd_check_names.specs.Faults.{at, if_so}
use Rattle.ppd_check_names.specs.Names.{Scope, declare}
use Rattle.ppd_check_names.specs.Names as N
use Rattle.ppd_check_names.specs.Frames.{after_cells, variable_of, twice_faults, size_faults}
use Rattle.ppd_check_names.specs.Syntax.{Name, block, Block, Item, shared, shared_array, semaphore, channel, function, process, Source}

-- a function or a process
pub record Head : Type 0 where
  pub process : Bool
  pub gives : Bool
  pub name : Name
  pub params : List Name
  pub block : Block

-- a semaphore with its start value, or a channel with its capacity
pub record Object : Type 0 where
  pub name : Name
  pub number : ℕ

-- the same in the table
abbrev pub sem : Object → Sem
sem o = record { name = o.name.text; start = fitted 32 o.number }

abbrev pub chan : Object → Chan
chan o = record { name = o.name.text; capacity = fitted 8 o.number }

-- what is declared in the one scope that the whole source sees, and the first cell after the shared ones
pub record Globals : Type 0 where
  pub scope : Scope
  pub shared : List Variable
  pub cells : ℕ
  pub starts : List ℤ
  pub semaphores : List Object
  pub channels : List Object
  pub functions : List Head
  pub processes : List Head

abbrev pub no_globals : Globals
no_globals =
    record {
      scope = [];
      shared = [];
      cells = 0;
      starts = [];
      semaphores = [];
      channels = [];
      functions = [];
      processes = [];
    }

abbrev pub item_name : Item → Name
item_name (shared x v) = x
item_name (shared_array x n) = x
item_name (semaphore x n) = x
item_name (channel x n) = x
item_name (function gives x params b) = x
item_name (process x b) = x

abbrev pub with_shared_variable : Name → Option ℕ → List ℤ → Globals → Globals
with_shared_variable x length starts g =
    record g {
      scope = declare x.text (N.shared g.cells length) g.scope;
      shared = g.shared ++ variable_of x length ∷ [];
      cells = after_cells g.cells length;
      starts = g.starts ++ starts;
    }

-- what is declared after one more item: shared cells and semaphores, channels and functions are numbered in order
abbrev pub with_item : Item → Globals → Globals
with_item (shared x v) g = with_shared_variable x None (v ∷ []) g
with_item (shared_array x n) g =
    with_shared_variable x (Some (fitted 16 n.value)) (replicate (fitted 16 n.value) (pos 0)) g
with_item (semaphore x n) g =
    record g {
      scope = declare x.text (N.semaphore (fitted 8 (length g.semaphores))) g.scope;
      semaphores = g.semaphores ++ record { name = x; number = n.value } ∷ [];
    }
with_item (channel x n) g =
    record g {
      scope = declare x.text (N.channel (fitted 8 (length g.channels))) g.scope;
      channels = g.channels ++ record { name = x; number = n.value } ∷ [];
    }
with_item (function gives x params b) g =
    record g {
      scope = declare x.text (N.function (fitted 16 (length g.functions)) (length params) gives) g.scope;
      functions = g.functions
          ++ record { process = false; gives = gives; name = x; params = params; block = b } ∷ [];
    }
with_item (process x b) g =
    record g {
      scope = declare x.text N.process g.scope;
      processes = g.processes ++ record { process = true; gives = false; name = x; params = []; block = b } ∷ [];
    }

abbrev pub globals : Source → Globals
globals s = fold (λ g i. with_item i g) no_globals s.items

abbrev pub item_size_faults : Item → List Fault
item_size_faults (shared_array x n) = size_faults 1 MOST_SHARED_CELLS n
item_size_faults (semaphore x n) = size_faults 0 MOST_START n
item_size_faults (channel x n) = size_faults LEAST_CAPACITY MOST_CAPACITY n
item_size_faults i = []

abbrev pub items_faults : List Item → Globals → List Fault
items_faults [] g = []
items_faults (i ∷ is) g = twice_faults g.scope (item_name i) ++ (item_size_faults i ++ items_faults is (with_item i g))

-- those after the first n are too many
abbrev pub past : ℕ → Limit → List Name → List Fault
past n limit names = map (λ x. at x.place (TooMany limit)) (drop n names)

-- the variables with a cell past the limit, where the first begins at cell n
abbrev pub past_cells : (most : ℕ) → Limit → (n : ℕ) → List Variable → List Fault
past_cells most limit n [] = []
past_cells most limit n (v ∷ vs) =
    if_so (nat_lt most (after_cells n v.length)) v.place (TooMany limit)
    ++ past_cells most limit (after_cells n v.length) vs

abbrev pub count_faults : Globals → List Fault
count_faults g =
    past MOST_FUNCTIONS L.Functions (map (λ h. h.name) g.functions)
    ++ (past MOST_PROCESSES L.Processes (map (λ h. h.name) g.processes)
    ++ (past MOST_SEMAPHORES L.Semaphores (map (λ o. o.name) g.semaphores)
    ++ (past MOST_CHANNELS L.Channels (map (λ o. o.name) g.channels)
    ++ past_cells MOST_SHARED_CELLS L.Shared 0 g.shared)))
