-- What the items of a source declare, as the code keeps it and as it is defined.
use Rattle.std.specs.Prelude.{◌≡◌, ◌≤◌, ◌<◌, ℕ, ℤ, pos, neg_ℤ, if◌then◌else◌, Bool, true, false, not, ◌&&◌, List, [], ◌∷◌, ◌++◌, map, fold, length, Option, Some, None, nat_lt}
use Rattle.ppd_parse.specs.declared.token.Kind.TheVariants as K
use Rattle.std.specs.List.{All, flat_map}
use Rattle.ppd_ast.specs.declared.limits.TheConstants.{MOST_SHARED_CELLS, MOST_SEMAPHORES, MOST_CHANNELS, MOST_FUNCTIONS, MOST_PROCESSES}
use Rattle.ppd_parse.specs.declared.node.Node.{Node}
use Rattle.ppd_check_names.specs.declared.fault.Cause.TheVariants.{TooMany}
use Rattle.ppd_check_names.specs.declared.fault.Limit.TheVariants as L
use Rattle.ppd_check_names.specs.declared.fault.Fault.{Fault}
use Rattle.ppd_check_names.specs.declared.globals.Globals.{Globals}
use Rattle.ppd_check_names.specs.declared.level.Source.{Source}
use Rattle.ppd_check_names.specs.Faults.{if_so, first, first_of_both}
use Rattle.ppd_check_names.specs.Fitted.{fitted}
use Rattle.ppd_check_names.specs.Frames.{after_cells, twice_faults}
use Rattle.ppd_check_names.specs.Syntax.{stop, Item, shared, shared_array, semaphore, channel, function, process}
use Rattle.ppd_check_names.specs.Reading.{Phrase, phrase, last, kind, same_kind, number_at, name_at, value_of, as_token, nowhere, name_of, as_names, as_block, as_items}
use Rattle.ppd_check_names.specs.Nodes.{phrase_of, phrases_below}
use Rattle.ppd_check_names.specs.Declaring.{counted}
use Rattle.ppd_check_names.specs.Globals as S
use Rattle.ppd_check_names.specs.Globals.{Head, sem, chan, item_name, item_size_faults, with_item}

-- what is declared after more items
abbrev pub with_items : List Item → S.Globals → S.Globals
with_items is g = fold (λ g i. with_item i g) g is

-- the function or process that an item is
abbrev pub head_of : List Item → Head
head_of (function gives x params b ∷ is) =
    record { process = false; gives = gives; name = x; params = params; block = b }
head_of (process x b ∷ is) = record { process = true; gives = false; name = x; params = []; block = b }
head_of _ = record {
  process = false;
  gives = false;
  name = name_of nowhere;
  params = [];
  block = record { row = stop; close = nowhere.place };
}

-- the function or process at a node
abbrev pub head_at : List Node → ℕ → Head
head_at ns i = head_of (as_items (phrase_of ns i))

-- the function or process whose node has children that say this
abbrev pub head_said : (is_process : Bool) → List Phrase → Head
head_said is_process ps =
    record {
      process = is_process;
      gives = not is_process && same_kind K.IntWord (kind (phrase ps 0));
      name = name_at ps 1;
      params = if is_process then [] else flat_map as_names ps;
      block = as_block (last ps);
    }

-- a function or a process stands at the node
pub record IsHeadAt (ns : List Node) (is_process : Bool) (i : ℕ) : Type 0 where
  pub within : i < length ns
  pub said : head_at ns i ≡ head_said is_process (phrases_below ns i)

-- the code keeps what is declared
pub record Holds (ns : List Node) (g : Globals) (s : S.Globals) : Type 0 where
  pub scopes : g.scopes ≡ s.scope ∷ []
  pub shared : g.shared ≡ s.shared
  pub cells : g.cells ≡ s.cells
  pub starts : s.cells ≤ MOST_SHARED_CELLS → g.starts ≡ s.starts
  pub sems : g.sems ≡ map sem s.semaphores
  pub chans : g.chans ≡ map chan s.channels
  pub functions : map (head_at ns) g.functions ≡ s.functions
  pub processes : map (head_at ns) g.processes ≡ s.processes
  pub function_nodes : All (IsHeadAt ns false) g.functions
  pub process_nodes : All (IsHeadAt ns true) g.processes

-- whether an item is one too many
abbrev pub item_counted : Item → S.Globals → List Fault
item_counted (shared x v) s = if_so (nat_lt MOST_SHARED_CELLS (after_cells s.cells None)) x.place (TooMany L.Shared)
item_counted (shared_array x n) s =
    if_so (nat_lt MOST_SHARED_CELLS (after_cells s.cells (Some (fitted 16 n.value)))) x.place (TooMany L.Shared)
item_counted (semaphore x n) s = counted MOST_SEMAPHORES (length s.semaphores) L.Semaphores x.place
item_counted (channel x n) s = counted MOST_CHANNELS (length s.channels) L.Channels x.place
item_counted (function gives x params b) s = counted MOST_FUNCTIONS (length s.functions) L.Functions x.place
item_counted (process x b) s = counted MOST_PROCESSES (length s.processes) L.Processes x.place

-- the rules that an item breaks after others, and those that items do, each after those before it
abbrev pub noted_at : Item → S.Globals → List Fault
noted_at i s = (twice_faults s.scope (item_name i) ++ item_counted i s) ++ item_size_faults i

abbrev pub noted : List Item → S.Globals → List Fault
noted [] s = []
noted (i ∷ is) s = noted_at i s ++ noted is (with_item i s)

-- items were declared, and the rules that they break were noted
pub record Declares (ns : List Node) (is : List Item) (old new : Globals) (found found' : Option Fault) : Type 0 where
  pub holds : (s : S.Globals) → Holds ns old s → Holds ns new (with_items is s)
  pub notes : (s : S.Globals) → Holds ns old s → found' ≡ first_of_both found (first (noted is s))

-- the same for what a node says
abbrev pub DeclaresAt : Source → ℕ → (old new : Globals) → (found found' : Option Fault) → Type 0
DeclaresAt source i old new found found' =
    Declares source.nodes.now (as_items (phrase_of source.nodes.now i)) old new found found'

-- the start value that a shared scalar's declaration says
abbrev pub start_said : List Phrase → ℤ
start_said ps =
    if same_kind K.MinusMark (kind (phrase ps 2)) then neg_ℤ (pos (number_at ps 3).value)
    else value_of (as_token (phrase ps 2)).kind
