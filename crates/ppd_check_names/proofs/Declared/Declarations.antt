-- Items are declared one after another.
use Rattle.std.proofs.Common.{◌≡◌, refl, sym, ap, subst, ◌∙◌, ℕ, ℤ, pos, ◌≤◌, arith, Bool, true, false, if◌then◌else◌, nat_le, List, [], ◌∷◌, ◌++◌, map, length, replicate, Option, Some, None}
use Rattle.std.proofs.lemmas.List.{map-append, append-nil, append_assoc, length-map}
use Rattle.std.proofs.lemmas.List.Elements.{All-push}
use Rattle.ppd_ast.specs.declared.limits.TheConstants.{MOST_SHARED_CELLS, MOST_SEMAPHORES, MOST_CHANNELS, MOST_FUNCTIONS, MOST_PROCESSES}
use Rattle.ppd_ast.specs.declared.program.Sem.{Sem}
use Rattle.ppd_ast.specs.declared.program.Chan.{Chan}
use Rattle.ppd_parse.specs.declared.node.Node.{Node}
use Rattle.ppd_check_names.specs.declared.fault.Fault.{Fault}
use Rattle.ppd_check_names.specs.declared.fault.Limit.TheVariants as L
use Rattle.ppd_check_names.specs.declared.globals.Globals.{Globals}
use Rattle.ppd_check_names.specs.declared.globals.Sort.{Sort}
use Rattle.ppd_check_names.specs.declared.globals.Sort.TheVariants.{Array, Semaphore, Channel}
use Rattle.ppd_check_names.specs.Faults.{first, first_of_both}
use Rattle.ppd_check_names.specs.Fitted.{fitted}
use Rattle.ppd_check_names.specs.Names.{Meaning, Scope, innermost}
use Rattle.ppd_check_names.specs.Names as N
use Rattle.ppd_check_names.specs.Frames.{after_cells, variable_of, twice_faults, size_faults}
use Rattle.ppd_check_names.specs.declared.nodes.Number.{Number}
use Rattle.ppd_check_names.specs.Syntax.{Name, Block, Item, shared, shared_array, semaphore, channel, function, process}
use Rattle.ppd_check_names.specs.Reading.{as_items}
use Rattle.ppd_check_names.specs.Nodes.{phrase_of}
use Rattle.ppd_check_names.specs.Declaring.{named, kept, with_shared, with_numbered, with_function, with_process, twice, counted, celled, numbered_over}
use Rattle.ppd_check_names.specs.Items.{numbered_item, least_number, most_number}
use Rattle.ppd_check_names.specs.Holding.{head_of, head_at, IsHeadAt, Holds, item_counted, noted_at, noted, Declares}
use Rattle.ppd_check_names.specs.Globals as S
use Rattle.ppd_check_names.specs.Globals.{Object, item_name, item_size_faults, with_item, sem, chan}
use Rattle.ppd_check_names.specs.Holding.{with_items}
use Rattle.ppd_check_names.proofs.Found.First.{found_in_both, first_of_both_none}

with_both : (is js : List Item) (s : S.Globals) → with_items (is ++ js) s ≡ with_items js (with_items is s)
with_both [] js s = refl
with_both (i ∷ is) js s = with_both is js (with_item i s)

noted_both : (is js : List Item) (s : S.Globals) → noted (is ++ js) s ≡ noted is s ++ noted js (with_items is s)
noted_both [] js s = refl
noted_both (i ∷ is) js s =
    ap (λ l. noted_at i s ++ l) (noted_both is js (with_item i s))
    ∙ sym (append_assoc (noted_at i s) (noted is (with_item i s)) (noted js (with_items is (with_item i s))))

pub declares_both : (ns : List Node) (is js : List Item) (old mid new : Globals) (f f' f'' : Option Fault)
    → Declares ns is old mid f f' → Declares ns js mid new f' f'' → Declares ns (is ++ js) old new f f''
declares_both ns is js old mid new f f' f'' a b =
    record {
      holds = λ s h. subst (λ t. Holds ns new t) (sym (with_both is js s)) (b.holds (with_items is s) (a.holds s h));
      notes = λ s h.
          found_in_both f f' f'' (noted is s) (noted js (with_items is s)) (a.notes s h) (b.notes (with_items is s) (a.holds s h))
          ∙ ap (λ l. first_of_both f (first l)) (sym (noted_both is js s));
    }

-- one item, by what it adds and the rules that it breaks
declares_one : (ns : List Node) (i : Item) (old after new : Globals) (f f' f'' : Option Fault) (c : List Fault)
    → ((s : S.Globals) → Holds ns old s → Holds ns after (with_item i s)) → ((s : S.Globals) → Holds ns old s → c ≡ item_counted i s)
    → new ≡ after → f' ≡ first_of_both f (first (twice (item_name i) old ++ c)) → f'' ≡ first_of_both f' (first (item_size_faults i))
    → Declares ns (i ∷ []) old new f f''
declares_one ns i old after new f f' f'' c kept counts e a b =
    record {
      holds = λ s h. subst (λ g. Holds ns g (with_item i s)) (sym e) (kept s h);
      notes = λ s h.
          found_in_both f f' f'' (twice_faults s.scope (item_name i) ++ item_counted i s) (item_size_faults i)
          (a ∙ ap (λ l. first_of_both f (first (twice_faults (innermost l) (item_name i) ++ c))) h.scopes
          ∙ ap (λ d. first_of_both f (first (twice_faults s.scope (item_name i) ++ d))) (counts s h)) b
          ∙ ap (λ l. first_of_both f (first l)) (sym (append-nil (noted_at i s)));
    }

named_one : (x : Name) (m n : Meaning) (scopes : List Scope) (s : Scope) → scopes ≡ s ∷ [] → m ≡ n → named x m scopes ≡ N.declare x.text n s ∷ []
named_one x m n scopes s e is = ap (named x m) e ∙ ap (λ k. N.declare x.text k s ∷ []) is

-- as many are kept as are declared
as_many : {A B : Type 0} (g : A → B) (xs : List A) (ys : List B) → map g xs ≡ ys → length xs ≡ length ys
as_many g xs ys e = sym (length-map xs g) ∙ ap length e

pub declares_function : (ns : List Node) (i : ℕ) (gives : Bool) (x : Name) (params : List Name) (b : Block) (old new : Globals) (f f' : Option Fault)
    → IsHeadAt ns false i → as_items (phrase_of ns i) ≡ function gives x params b ∷ []
    → new ≡ with_function i x (length params) gives old → f' ≡ first_of_both f (first (twice x old ++ counted MOST_FUNCTIONS (length old.functions) L.Functions x.place))
    → Declares ns (function gives x params b ∷ []) old new f f'
declares_function ns i gives x params b old new f f' at is e a =
    declares_one ns (function gives x params b) old (with_function i x (length params) gives old) new f f' f' _ kept_function
    (λ s h. ap (λ k. counted MOST_FUNCTIONS k L.Functions x.place) (number s h)) e a (sym (first_of_both_none f'))
  where
    number : (s : S.Globals) → Holds ns old s → length old.functions ≡ length s.functions
    number s h = as_many (head_at ns) old.functions s.functions h.functions

    kept_function : (s : S.Globals) → Holds ns old s → Holds ns (with_function i x (length params) gives old) (with_item (function gives x params b) s)
    kept_function s h =
        record {
          scopes = named_one x _ _ old.scopes s.scope h.scopes (ap (λ k. N.function (fitted 16 k) (length params) gives) (number s h));
          shared = h.shared;
          cells = h.cells;
          starts = h.starts;
          sems = h.sems;
          chans = h.chans;
          functions = map-append (head_at ns) old.functions (i ∷ []) ∙ ap (λ l. l ++ head_at ns i ∷ []) h.functions ∙ ap (λ l. s.functions ++ head_of l ∷ []) is;
          processes = h.processes;
          function_nodes = All-push (IsHeadAt ns false) old.functions i h.function_nodes at;
          process_nodes = h.process_nodes;
        }

pub declares_process : (ns : List Node) (i : ℕ) (x : Name) (b : Block) (old new : Globals) (f f' : Option Fault)
    → IsHeadAt ns true i → as_items (phrase_of ns i) ≡ process x b ∷ []
    → new ≡ with_process i x old → f' ≡ first_of_both f (first (twice x old ++ counted MOST_PROCESSES (length old.processes) L.Processes x.place))
    → Declares ns (process x b ∷ []) old new f f'
declares_process ns i x b old new f f' at is e a =
    declares_one ns (process x b) old (with_process i x old) new f f' f' _ kept_process
    (λ s h. ap (λ k. counted MOST_PROCESSES k L.Processes x.place) (as_many (head_at ns) old.processes s.processes h.processes)) e a (sym (first_of_both_none f'))
  where
    kept_process : (s : S.Globals) → Holds ns old s → Holds ns (with_process i x old) (with_item (process x b) s)
    kept_process s h =
        record {
          scopes = named_one x _ _ old.scopes s.scope h.scopes refl;
          shared = h.shared;
          cells = h.cells;
          starts = h.starts;
          sems = h.sems;
          chans = h.chans;
          functions = h.functions;
          processes = map-append (head_at ns) old.processes (i ∷ []) ∙ ap (λ l. l ++ head_at ns i ∷ []) h.processes ∙ ap (λ l. s.processes ++ head_of l ∷ []) is;
          function_nodes = h.function_nodes;
          process_nodes = All-push (IsHeadAt ns true) old.processes i h.process_nodes at;
        }

-- Shared cells: the start values are kept while the cells are not too many.

cells_grow : (n : ℕ) (len : Option ℕ) → after_cells n len ≤ MOST_SHARED_CELLS → n ≤ MOST_SHARED_CELLS
cells_grow n len h = omega (arith, h)

kept_all : (c : ℕ) (a b more : List ℤ) → (c ≤ MOST_SHARED_CELLS → a ≡ b) → c ≤ MOST_SHARED_CELLS → kept c a more ≡ b ++ more
kept_all c a b more e h = ap (λ t. if t then a ++ more else a) (le_true c MOST_SHARED_CELLS h) ∙ ap (λ l. l ++ more) (e h)
  where
    le_true : (m n : ℕ) → m ≤ n → nat_le m n ≡ true
    le_true m n h = grind (arith, h)

holds_shared : (ns : List Node) (x : Name) (len : Option ℕ) (more : List ℤ) (old : Globals) (s t : S.Globals) → Holds ns old s
    → t ≡ record (S.with_shared_variable x len more s) { scope = N.declare x.text (N.shared s.cells len) s.scope }
    → Holds ns (with_shared x len more old) t
holds_shared ns x len more old s t h is =
    subst (λ u. Holds ns (with_shared x len more old) u) (sym is)
    (record {
      scopes = named_one x _ _ old.scopes s.scope h.scopes (ap (λ k. N.shared k len) h.cells);
      shared = ap (λ l. l ++ variable_of x len ∷ []) h.shared;
      cells = ap (λ k. after_cells k len) h.cells;
      starts = λ few.
          ap (λ k. kept (after_cells k len) old.starts more) h.cells
          ∙ kept_all (after_cells s.cells len) old.starts s.starts more (λ l. h.starts (cells_grow s.cells len l)) few;
      sems = h.sems;
      chans = h.chans;
      functions = h.functions;
      processes = h.processes;
      function_nodes = h.function_nodes;
      process_nodes = h.process_nodes;
    })

pub declares_scalar : (ns : List Node) (x : Name) (v : ℤ) (old new : Globals) (f f' : Option Fault)
    → new ≡ with_shared x None (v ∷ []) old → f' ≡ first_of_both f (first (twice x old ++ celled x None old))
    → Declares ns (shared x v ∷ []) old new f f'
declares_scalar ns x v old new f f' e a =
    declares_one ns (shared x v) old (with_shared x None (v ∷ []) old) new f f' f' _
    (λ s h. holds_shared ns x None (v ∷ []) old s (with_item (shared x v) s) h refl)
    (λ s h. ap (λ k. celled x None (record old { cells = k })) h.cells) e a (sym (first_of_both_none f'))

-- What is declared with a number.

-- a name, semaphores and channels more
holds_objects : (ns : List Node) (old : Globals) (s : S.Globals) (scopes : List Scope) (scope : Scope) (sems : List Sem) (semaphores : List Object) (chans : List Chan) (channels : List Object)
    → Holds ns old s → scopes ≡ scope ∷ [] → sems ≡ map sem semaphores → chans ≡ map chan channels
    → Holds ns (record old { scopes = scopes; sems = sems; chans = chans }) (record s { scope = scope; semaphores = semaphores; channels = channels })
holds_objects ns old s scopes scope sems semaphores chans channels h a b c =
    record {
      scopes = a;
      shared = h.shared;
      cells = h.cells;
      starts = h.starts;
      sems = b;
      chans = c;
      functions = h.functions;
      processes = h.processes;
      function_nodes = h.function_nodes;
      process_nodes = h.process_nodes;
    }

-- one more of what is kept and of what is declared
one_more : {A B : Type 0} (g : A → B) (xs : List B) (ys : List A) (y : A) → xs ≡ map g ys → xs ++ g y ∷ [] ≡ map g (ys ++ y ∷ [])
one_more g xs ys y e = ap (λ l. l ++ g y ∷ []) e ∙ sym (map-append g ys (y ∷ []))

pub declares_numbered : (ns : List Node) (sort : Sort) (x : Name) (n : Number) (old new : Globals) (f f' f'' : Option Fault)
    → new ≡ with_numbered sort x n.value old → f' ≡ first_of_both f (first (twice x old ++ numbered_over sort x n.value old))
    → f'' ≡ first_of_both f' (first (size_faults (least_number sort) (most_number sort) n)) → Declares ns (numbered_item sort x n ∷ []) old new f f''
declares_numbered ns Array x n old new f f' f'' =
    declares_one ns (shared_array x n) old (with_numbered Array x n.value old) new f f' f'' _
    (λ s h. holds_shared ns x (Some (fitted 16 n.value)) (replicate (fitted 16 n.value) (pos 0)) old s (with_item (shared_array x n) s) h refl)
    (λ s h. ap (λ k. celled x (Some (fitted 16 n.value)) (record old { cells = k })) h.cells)
declares_numbered ns Semaphore x n old new f f' f'' =
    declares_one ns (semaphore x n) old (with_numbered Semaphore x n.value old) new f f' f'' _
    (λ s h. holds_objects ns old s _ _ _ _ _ _ h (named_one x _ _ old.scopes s.scope h.scopes (ap (λ k. N.semaphore (fitted 8 k)) (number s h)))
    (one_more sem old.sems s.semaphores (record { name = x; number = n.value }) h.sems) h.chans)
    (λ s h. ap (λ k. counted MOST_SEMAPHORES k L.Semaphores x.place) (number s h))
  where
    number : (s : S.Globals) → Holds ns old s → length old.sems ≡ length s.semaphores
    number s h = sym (as_many sem s.semaphores old.sems (sym h.sems))
declares_numbered ns Channel x n old new f f' f'' =
    declares_one ns (channel x n) old (with_numbered Channel x n.value old) new f f' f'' _
    (λ s h. holds_objects ns old s _ _ _ _ _ _ h (named_one x _ _ old.scopes s.scope h.scopes (ap (λ k. N.channel (fitted 8 k)) (number s h))) h.sems
    (one_more chan old.chans s.channels (record { name = x; number = n.value }) h.chans))
    (λ s h. ap (λ k. counted MOST_CHANNELS k L.Channels x.place) (number s h))
  where
    number : (s : S.Globals) → Holds ns old s → length old.chans ≡ length s.channels
    number s h = sym (as_many chan s.channels old.chans (sym h.chans))
