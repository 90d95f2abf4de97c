-- Declarations, node after node.
use Rattle.std.proofs.Common.{◌≡◌, refl, sym, ap, subst, ◌∙◌, ℕ, ◌+◌, ◌<◌, ◌≤◌, true, false, List, [], ◌∷◌, ◌++◌, take, length, get_or, Option}
use Rattle.std.specs.List.{flat_map}
use Rattle.std.proofs.lemmas.List.{take_more, take_all, map-append, append-nil, length-map}
use Rattle.std.proofs.lemmas.List.Concat.{flat_map-append}
use Rattle.std.proofs.lemmas.List.Elements.{All-nil}
use Rattle.ppd_parse.specs.declared.node.Node.{Node}
use Rattle.ppd_check_names.specs.declared.fault.Fault.{Fault}
use Rattle.ppd_check_names.specs.declared.globals.Globals.{Globals}
use Rattle.ppd_check_names.specs.Faults.{first, first_of_both}
use Rattle.ppd_check_names.specs.Syntax.{Item}
use Rattle.ppd_check_names.specs.Reading.{Phrase, as_items}
use Rattle.ppd_check_names.specs.Nodes.{phrase_of, phrases_of, phrases_below, children_of}
use Rattle.ppd_check_names.specs.Declaring.{nothing}
use Rattle.ppd_check_names.specs.Holding.{head_at, IsHeadAt, Holds, Declares}
use Rattle.ppd_check_names.specs.Globals as S
use Rattle.ppd_check_names.specs.Globals.{no_globals, items_faults, count_faults}
use Rattle.ppd_check_names.specs.Holding.{with_items}
use Rattle.ppd_check_names.proofs.Declared.Counted.{noted_all}
use Rattle.ppd_check_names.proofs.Declared.Declarations.{declares_both}

-- one child more of a list
pub declares_next : (ns : List Node) (cs : List ℕ) (i c : ℕ) (old mid new : Globals) (f f' f'' : Option Fault) → i < length cs → c ≡ get_or cs i c
    → Declares ns (flat_map as_items (phrases_of ns (take i cs))) old mid f f' → Declares ns (as_items (phrase_of ns c)) mid new f' f''
    → Declares ns (flat_map as_items (phrases_of ns (take (i + 1) cs))) old new f f''
declares_next ns cs i c old mid new f f' f'' h is a b =
    subst (λ l. Declares ns l old new f f'') joined
    (declares_both ns (flat_map as_items (phrases_of ns (take i cs))) (as_items (phrase_of ns c)) old mid new f f' f'' a b)
  where
    joined : flat_map as_items (phrases_of ns (take i cs)) ++ as_items (phrase_of ns c) ≡ flat_map as_items (phrases_of ns (take (i + 1) cs))
    joined =
        ap (λ l. flat_map as_items (phrases_of ns (take i cs)) ++ l) (sym (append-nil (as_items (phrase_of ns c))))
        ∙ sym (flat_map-append as_items (phrases_of ns (take i cs)) (phrases_of ns (c ∷ [])))
        ∙ ap (flat_map as_items) (sym (map-append (phrase_of ns) (take i cs) (c ∷ [])))
        ∙ ap (λ l. flat_map as_items (phrases_of ns l)) (ap (λ d. take i cs ++ d ∷ []) is ∙ sym (take_more cs i c h))

pub declares_below : (ns : List Node) (i k : ℕ) (cs : List ℕ) (old new : Globals) (f f' : Option Fault) → cs ≡ children_of ns i → length cs ≤ k
    → Declares ns (flat_map as_items (phrases_of ns (take k cs))) old new f f' → Declares ns (flat_map as_items (phrases_below ns i)) old new f f'
unfolding phrases_below
declares_below ns i k cs old new f f' is h a = subst (λ l. Declares ns (flat_map as_items (phrases_of ns l)) old new f f') (take_all k cs h ∙ is) a

-- A whole source, from nothing.

holds_none : (ns : List Node) → Holds ns nothing no_globals
holds_none ns =
    record {
      scopes = refl;
      shared = refl;
      cells = refl;
      starts = λ few. refl;
      sems = refl;
      chans = refl;
      functions = refl;
      processes = refl;
      function_nodes = All-nil (IsHeadAt ns false);
      process_nodes = All-nil (IsHeadAt ns true);
    }

held_first : (ns : List Node) (g : Globals) → g ≡ nothing → Holds ns g no_globals
held_first ns g e = subst (λ h. Holds ns h no_globals) (sym e) (holds_none ns)

pub noted_source : (ns : List Node) (is : List Item) (old new : Globals) (f f' : Option Fault) → old ≡ nothing → Declares ns is old new f f'
    → f' ≡ first_of_both f (first (items_faults is no_globals ++ count_faults (with_items is no_globals)))
noted_source ns is old new f f' e a = a.notes no_globals (held_first ns old e) ∙ ap (first_of_both f) (noted_all is)

-- as many processes as nodes of them
pub processes_held : (ns : List Node) (g : Globals) (s : S.Globals) → Holds ns g s → length g.processes ≡ length s.processes
processes_held ns g s h = sym (length-map g.processes (head_at ns)) ∙ ap length h.processes

-- what a phrase says as items was declared
pub declares_said : (ns : List Node) (p : Phrase) (is : List Item) (old new : Globals) (f f' : Option Fault) → as_items p ≡ is → Declares ns is old new f f' → Declares ns (as_items p) old new f f'
declares_said ns p is old new f f' e d = subst (λ (js : List Item). Declares ns js old new f f') (sym e) d
