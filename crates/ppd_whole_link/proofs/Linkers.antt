-- What is kept of a linked process is what it came to by its events.
use Rattle.std.proofs.Common.{◌≡◌, ℕ, ◌+◌, Bool, List, [], ◌∷◌, ◌++◌, Option, Some, None, refl, ap, ap₂, sym, ◌∙◌}
use Rattle.std.specs.Prelude.{fold, if◌then◌else◌}
use Rattle.std.specs.FinMap.{get, get-empty}
use Rattle.std.specs.Ordering.{nat_cmp}
use Rattle.std.proofs.lemmas.List.Sums.{fold-append}
use Rattle.ppd_ast.specs.declared.program.Program.{Program}
use Rattle.ppd_sem.specs.declared.event.Event.{Event}
use Rattle.law_flow.specs.Following.{edge_past}
use Rattle.law_flow.specs.Linked.{Linking, link_on}
use Rattle.law_flow.specs.Linked as linked
use Rattle.law_flow.specs.Writers.{Mark, Marking, mark_event, marked, marks_of, own_write, unmarked, writes}
use Rattle.ppd_whole_link.specs.declared.linker.Linker.{Linker}
use Rattle.ppd_whole_link.specs.Laws.{IsLinkerOf, LinkersAreLinked, linking_after}
use Rattle.ppd_whole_link.specs.Linkers.{link, linker_after, own_in, unlinked}
use Rattle.ppd_whole_link.specs.Runs.{follow, follower_of}
use Rattle.ppd_whole_link.specs.declared.follower.Follower.{Follower}
use Rattle.ppd_whole_link.proofs.Keeping.{begun_as, follow_as}
use Rattle.ppd_whole_link.proofs.Marked.{own_on}

marking : ℕ → List Event → Marking
marking c es = fold (mark_event c) unmarked es

record Agree (x : Linking) (y : Linker) : Type 0 where
  is : IsLinkerOf x y
  number : (c : ℕ) → (fold (mark_event c) unmarked x.past).number ≡ x.followed.number
  edge : (c : ℕ) → (fold (mark_event c) unmarked x.past).edge ≡ x.followed.edge

marking_on : (c : ℕ) (es : List Event) (e : Event) → fold (mark_event c) unmarked (es ++ e ∷ []) ≡ mark_event c (fold (mark_event c) unmarked es) e
marking_on c es e = fold-append (mark_event c) unmarked es (e ∷ [])

one_agrees : (program : Program) (p : ℕ) (x : Linking) (y : Linker) (e : Event) → Agree x y → Agree (link_on program p x e) (link program p y e)
one_agrees program p x y e h = record {
  is = record {
    follower = ap (λ (f : Follower). follow program p f e) h.is.follower ∙ sym (follow_as program p x.followed e);
    own = λ c i.
        let edge_is : y.follower.edge ≡ (fold (mark_event c) unmarked x.past).edge = ap (λ (f : Follower). f.edge) h.is.follower ∙ sym (h.edge c) in
        let number_is : y.follower.number ≡ (fold (mark_event c) unmarked x.past).number = ap (λ (f : Follower). f.number) h.is.follower ∙ sym (h.number c) in
        own_on c i e.number y.follower.edge y.follower.number e.writes y.own (marks_of c x.past) (h.is.own c i)
        ∙ ap₂ (λ (j n : ℕ). own_write i (if writes c e then marked (record { edge = j; number = n }) (marks_of c x.past) else marks_of c x.past)) edge_is number_is
        ∙ sym (ap (λ (m : Marking). own_write i m.marks) (marking_on c x.past e));
  };
  number = λ c. ap (λ (m : Marking). m.number) (marking_on c x.past e) ∙ ap (λ (n : ℕ). n + 1) (h.number c);
  edge = λ c. ap (λ (m : Marking). m.edge) (marking_on c x.past e) ∙ ap (λ (i : ℕ). edge_past i e.number) (h.edge c);
}

all_agree : (program : Program) (p : ℕ) (x : Linking) (y : Linker) (es : List Event) → Agree x y → Agree (fold (link_on program p) x es) (fold (link program p) y es)
all_agree program p x y [] h = h
all_agree program p x y (e ∷ es) h = all_agree program p (link_on program p x e) (link program p y e) es (one_agrees program p x y e h)

pub linkers_are : LinkersAreLinked
linkers_are program p es =
    let start : Agree (linked.unlinked program p) (unlinked program p) = record {
      is = record { follower = sym (begun_as program p); own = λ c i. ap (own_in i) (get-empty nat_cmp c) };
      number = λ c. refl;
      edge = λ c. refl;
    } in
    (all_agree program p (linked.unlinked program p) (unlinked program p) es start).is
