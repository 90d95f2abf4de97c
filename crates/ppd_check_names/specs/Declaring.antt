-- What a source has declared so far, as the code keeps it: semaphores and channels as in the table, functions and
-- processes by their nodes. Start values are kept as far as the shared cells are not too many.
use Rattle.std.specs.Prelude.{ℕ, ℤ, pos, Bool, nat_le, nat_lt, List, [], ◌∷◌, ◌++◌, length, replicate, Option, Some, if◌then◌else◌}
use Rattle.ppd_ast.specs.declared.limits.TheConstants.{MOST_SHARED_CELLS, MOST_SEMAPHORES, MOST_CHANNELS}
use Rattle.ppd_ast.specs.declared.program.Place.{Place}
use Rattle.ppd_check_names.specs.declared.fault.Cause.TheVariants.{TooMany}
use Rattle.ppd_check_names.specs.declared.fault.Limit.{Limit}
use Rattle.ppd_check_names.specs.declared.fault.Limit.TheVariants as L
use Rattle.ppd_check_names.specs.declared.fault.Fault.{Fault}
use Rattle.ppd_check_names.specs.declared.globals.Globals.{Globals}
use Rattle.ppd_check_names.specs.Faults.{if_so}
use Rattle.ppd_check_names.specs.declared.globals.Sort.{Sort}
use Rattle.ppd_check_names.specs.declared.globals.Sort.TheVariants.{Array, Semaphore, Channel}
use Rattle.ppd_check_names.specs.Fitted.{fitted}
use Rattle.ppd_check_names.specs.Names.{Meaning, Scope, declare, innermost, in_innermost}
use Rattle.ppd_check_names.specs.Names as N
use Rattle.ppd_check_names.specs.Frames.{after_cells, variable_of, twice_faults}
use Rattle.ppd_check_names.specs.Syntax.{Name}

-- nothing yet, in one scope
abbrev pub nothing : Globals
nothing = record {
  scopes = [] ∷ [];
  shared = [];
  cells = 0;
  starts = [];
  sems = [];
  chans = [];
  functions = [];
  processes = [];
}

-- a name with its meaning
abbrev pub named : Name → Meaning → List Scope → List Scope
named x m scopes = in_innermost (declare x.text m) scopes

-- a shared variable without its start values, and one with them
abbrev pub placed : Name → Option ℕ → Globals → Globals
placed x n g =
    record g {
      scopes = named x (N.shared g.cells n) g.scopes;
      shared = g.shared ++ variable_of x n ∷ [];
      cells = after_cells g.cells n;
    }

abbrev pub kept : ℕ → List ℤ → List ℤ → List ℤ
kept cells starts more = if nat_le cells MOST_SHARED_CELLS then starts ++ more else starts

abbrev pub with_shared : Name → Option ℕ → List ℤ → Globals → Globals
with_shared x n more g = record (placed x n g) { starts = kept (after_cells g.cells n) g.starts more }

-- what is declared with a number; the elements of an array start at 0
abbrev pub with_numbered : Sort → Name → ℕ → Globals → Globals
with_numbered Array x n g = with_shared x (Some (fitted 16 n)) (replicate (fitted 16 n) (pos 0)) g
with_numbered Semaphore x n g =
    record g {
      scopes = named x (N.semaphore (fitted 8 (length g.sems))) g.scopes;
      sems = g.sems ++ record { name = x.text; start = fitted 32 n } ∷ [];
    }
with_numbered Channel x n g =
    record g {
      scopes = named x (N.channel (fitted 8 (length g.chans))) g.scopes;
      chans = g.chans ++ record { name = x.text; capacity = fitted 8 n } ∷ [];
    }

abbrev pub with_function : ℕ → Name → ℕ → Bool → Globals → Globals
with_function i x params gives g =
    record g {
      scopes = named x (N.function (fitted 16 (length g.functions)) params gives) g.scopes;
      functions = g.functions ++ i ∷ [];
    }

abbrev pub with_process : ℕ → Name → Globals → Globals
with_process i x g = record g { scopes = named x N.process g.scopes; processes = g.processes ++ i ∷ [] }

-- The rules that a declaration breaks, but for those on numbers.

abbrev pub twice : Name → Globals → List Fault
twice x g = twice_faults (innermost g.scopes) x

-- an item after so many others of its sort is too many
abbrev pub counted : (most count : ℕ) → Limit → Place → List Fault
counted most count limit p = if_so (nat_le most count) p (TooMany limit)

-- a variable that ends past the most cells is too many
abbrev pub celled : Name → Option ℕ → Globals → List Fault
celled x n g = if_so (nat_lt MOST_SHARED_CELLS (after_cells g.cells n)) x.place (TooMany L.Shared)

-- whether what is declared with a number is one too many
abbrev pub numbered_over : Sort → Name → ℕ → Globals → List Fault
numbered_over Array x n g = celled x (Some (fitted 16 n)) g
numbered_over Semaphore x n g = counted MOST_SEMAPHORES (length g.sems) L.Semaphores x.place
numbered_over Channel x n g = counted MOST_CHANNELS (length g.chans) L.Channels x.place
