-- What the items of a source declare: functions before processes, and nothing that is too large.
use Rattle.std.proofs.Common.{◌≡◌, refl, ◌≤◌, true, false, List, [], ◌∷◌, map}
use Rattle.std.specs.List.{AllByRecursion}
use Rattle.std.proofs.lemmas.List.Elements.{All-from_recursion, recursion_from_All}
use Rattle.ppd_ast.specs.declared.limits.TheConstants.{MOST_START, LEAST_CAPACITY, MOST_CAPACITY}
use Rattle.ppd_ast.specs.declared.program.Sem.{Sem}
use Rattle.ppd_ast.specs.declared.program.Chan.{Chan}
use Rattle.ppd_ast.specs.Valid.{IsName, AreWithinLimits}
use Rattle.ppd_parse.specs.Grammar.{Shape}
use Rattle.ppd_check_names.specs.Syntax.{Source, Item, shared, shared_array, semaphore, channel, function, process}
use Rattle.ppd_check_names.specs.Reading.{source_of, said, as_items}
use Rattle.ppd_check.specs.Sources.{vars, core_of}
use Rattle.ppd_check_names.specs.Globals.{Head, Object, Globals, no_globals, with_item, globals, sem, chan}
use Rattle.ppd_check_names.specs.Holding.{with_items}
use Rattle.ppd_check.proofs.Vocabulary.Sizes.{IsShort, ItemFits, SourceFits}
use Rattle.ppd_check.proofs.Valid.Facts.{AreCounted}
use Rattle.ppd_check.proofs.Valid.Headers.{HeadersPass, ItemPasses, tree_passes}
use Rattle.ppd_check.proofs.Valid.Sizes.{AreShort, HeadFits, vars_short}
use Rattle.ppd_check.proofs.Limits.Said.{all_join}

-- Functions and processes.

abbrev pub IsFunction : Head → Type 0
IsFunction h = (h.process ≡ false) × HeadersPass h.block.row

abbrev pub IsProcess : Head → Type 0
IsProcess h = (h.process ≡ true) × (h.params ≡ []) × (h.gives ≡ false) × HeadersPass h.block.row

pub record AreSorted (g : Globals) : Type 0 where
  pub functions : AllByRecursion IsFunction g.functions
  pub processes : AllByRecursion IsProcess g.processes

item_sorted : (i : Item) (g : Globals) → ItemPasses i → AreSorted g → AreSorted (with_item i g)
item_sorted (shared x v) g h s = record { functions = s.functions; processes = s.processes }
item_sorted (shared_array x n) g h s = record { functions = s.functions; processes = s.processes }
item_sorted (semaphore x n) g h s = record { functions = s.functions; processes = s.processes }
item_sorted (channel x n) g h s = record { functions = s.functions; processes = s.processes }
item_sorted (function gives x params b) g h s = record { functions = all_join IsFunction g.functions _ s.functions ((refl, h), tt); processes = s.processes }
item_sorted (process x b) g h s = record { functions = s.functions; processes = all_join IsProcess g.processes _ s.processes ((refl, refl, refl, h), tt) }

items_sorted : (is : List Item) (g : Globals) → AllByRecursion ItemPasses is → AreSorted g → AreSorted (with_items is g)
items_sorted [] g h s = s
items_sorted (i ∷ is) g h s = items_sorted is (with_item i g) h.1 (item_sorted i g h.0 s)

pub tree_sorted : (t : Shape) → AreSorted (globals (source_of t))
tree_sorted t = items_sorted (as_items (said t)) no_globals (tree_passes t) (record { functions = tt; processes = tt })

-- Sizes.

abbrev ObjectFits : Object → Type 0
ObjectFits o = IsShort o.name

pub record AreFit (g : Globals) : Type 0 where
  pub shared : AreShort g.shared
  pub semaphores : AllByRecursion ObjectFits g.semaphores
  pub channels : AllByRecursion ObjectFits g.channels
  pub functions : AllByRecursion HeadFits g.functions
  pub processes : AllByRecursion HeadFits g.processes

item_fit : (i : Item) (g : Globals) → ItemFits i → AreFit g → AreFit (with_item i g)
item_fit (shared x v) g h f = record {
  shared = all_join (λ v. IsName v.name) g.shared _ f.shared (h, tt);
  semaphores = f.semaphores;
  channels = f.channels;
  functions = f.functions;
  processes = f.processes;
}
item_fit (shared_array x n) g h f = record {
  shared = all_join (λ v. IsName v.name) g.shared _ f.shared (h, tt);
  semaphores = f.semaphores;
  channels = f.channels;
  functions = f.functions;
  processes = f.processes;
}
item_fit (semaphore x n) g h f = record {
  shared = f.shared;
  semaphores = all_join ObjectFits g.semaphores _ f.semaphores (h, tt);
  channels = f.channels;
  functions = f.functions;
  processes = f.processes;
}
item_fit (channel x n) g h f = record {
  shared = f.shared;
  semaphores = f.semaphores;
  channels = all_join ObjectFits g.channels _ f.channels (h, tt);
  functions = f.functions;
  processes = f.processes;
}
item_fit (function gives x params b) g h f = record {
  shared = f.shared;
  semaphores = f.semaphores;
  channels = f.channels;
  functions = all_join HeadFits g.functions _ f.functions (h, tt);
  processes = f.processes;
}
item_fit (process x b) g h f = record {
  shared = f.shared;
  semaphores = f.semaphores;
  channels = f.channels;
  functions = f.functions;
  processes = all_join HeadFits g.processes _ f.processes ((h.0, tt, h.1, h.2), tt);
}

items_fit : (is : List Item) (g : Globals) → AllByRecursion ItemFits is → AreFit g → AreFit (with_items is g)
items_fit [] g h f = f
items_fit (i ∷ is) g h f = items_fit is (with_item i g) h.1 (item_fit i g h.0 f)

pub source_fit : (s : Source) → SourceFits s → AreFit (globals s)
source_fit s h = items_fit s.items no_globals h (record { shared = tt; semaphores = tt; channels = tt; functions = tt; processes = tt })

-- The program's limits.

abbrev SemCounted : Sem → Type 0
SemCounted s = s.start ≤ MOST_START

abbrev ChanCounted : Chan → Type 0
ChanCounted c = (LEAST_CAPACITY ≤ c.capacity) × (c.capacity ≤ MOST_CAPACITY)

abbrev SemFits : Sem → Type 0
SemFits s = IsName s.name × (s.start ≤ MOST_START)

abbrev ChanFits : Chan → Type 0
ChanFits c = IsName c.name × (LEAST_CAPACITY ≤ c.capacity) × (c.capacity ≤ MOST_CAPACITY)

sems_fit : (os : List Object) → AllByRecursion ObjectFits os → AllByRecursion SemCounted (map sem os) → AllByRecursion SemFits (map sem os)
sems_fit [] h i = tt
sems_fit (o ∷ os) h i = ((h.0, i.0), sems_fit os h.1 i.1)

chans_fit : (os : List Object) → AllByRecursion ObjectFits os → AllByRecursion ChanCounted (map chan os) → AllByRecursion ChanFits (map chan os)
chans_fit [] h i = tt
chans_fit (o ∷ os) h i = ((h.0, i.0.0, i.0.1), chans_fit os h.1 i.1)

pub within_limits : (t : Shape) → AreCounted (core_of (source_of t)) → AreFit (globals (source_of t)) → AreWithinLimits (core_of (source_of t))
within_limits t c f =
    let g : Globals = globals (source_of t) in
    record {
      stmts = c.stmts;
      functions = c.functions;
      process = c.process;
      processes = c.processes;
      starts = c.starts;
      names = All-from_recursion (λ v. IsName v.name) (vars 0 g.shared) (vars_short 0 g.shared f.shared);
      sem_count = c.sem_count;
      sems = All-from_recursion SemFits (map sem g.semaphores) (sems_fit g.semaphores f.semaphores (recursion_from_All SemCounted (map sem g.semaphores) c.sems));
      chan_count = c.chan_count;
      chans = All-from_recursion ChanFits (map chan g.channels) (chans_fit g.channels f.channels (recursion_from_All ChanCounted (map chan g.channels) c.chans));
    }
