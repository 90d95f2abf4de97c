-- Each process of which intervals are replayed for the edges of an item has an item that one of the edges comes from.
use Rattle.ppd_model.specs.declared.entry.At.{At}
use Rattle.ppd_flow.specs.Answers.{answer_if}
use Rattle.ppd_flow.specs.Far.{far_in, far_of_item, far_of_pair, far_of_reads, far_of_spot, far_of_sync, process_of}
use Rattle.ppd_flow.specs.SharedCells.{answer_of, edge_unless_found, seens_in}
use Rattle.ppd_graph.specs.Control.{control_origin}
use Rattle.ppd_graph.specs.Ends.{end_interval, end_item}
use Rattle.ppd_graph.specs.Found.{and_more, before_others, edges_if, event_edges, item_edges, last_edges, pair_edges, read_edge, read_edges, read_if, sync_edges, with_edge}
use Rattle.ppd_graph.specs.Looked.{Looked, look_map}
use Rattle.ppd_graph.specs.Seen.{Seen}
use Rattle.ppd_graph.specs.Shared.{Missing, edge_of_place, greatest_before, origin_in, own_or, pair_of, pair_place, seen_at, walk_in, written_at, written_or_start}
use Rattle.ppd_graph.specs.Walk.{walk}
use Rattle.ppd_graph.specs.declared.walked.Walked.{Walked}
use Rattle.ppd_graph.specs.declared.walked.Walked.TheVariants.{Found, Passed, Stopped}
use Rattle.ppd_flow_past.specs.ByReplays.{first_failed_in}
use Rattle.ppd_model.specs.declared.flow_error.FlowError.{FlowError}
use Rattle.ppd_flow_past.specs.declared.past.Past.{Past}
use Rattle.ppd_graph.specs.declared.paired.Paired.{Paired}
use Rattle.ppd_graph.specs.declared.paired.Paired.TheVariants.{Initial, Node, Nothing}
use Rattle.ppd_model.specs.FlowbackEdges.{bare_edge}
use Rattle.ppd_model.specs.declared.flow.EdgeKind.TheVariants.{Control}
use Rattle.ppd_model.specs.declared.flow.FlowEdge.{FlowEdge}
use Rattle.ppd_model.specs.declared.flow.Item.{Item}
use Rattle.ppd_model.specs.declared.flow.Item.TheVariants as item
use Rattle.ppd_model.specs.declared.flow.Origin.TheVariants as origin
use Rattle.ppd_model.specs.declared.graph.EdgeId.{EdgeId}
use Rattle.ppd_sem.specs.declared.event.Access.{Access}
use Rattle.ppd_sem.specs.declared.event.Event.{Event}
use Rattle.ppd_sem.specs.declared.event.Spot.{Spot}
use Rattle.ppd_sem.specs.declared.event.Spot.TheVariants.{Local, Shared}
use Rattle.ppd_slice.proofs.Flows.{replays}
use Rattle.ppd_slice.specs.Slices.{flow_of, unless_failed}
use Rattle.ppd_slice_search.specs.Reach.{IsIn, at, place_of, places_of}
use Rattle.ppd_slice_search.specs.declared.reached.ItemAt.{ItemAt}
use Rattle.std.proofs.Common.{Err, List, None, Ok, Option, Result, Some, [], ap, inl, inr, refl, subst, sym, ℕ, ◌++◌, ◌∙◌, ◌∷◌, ◌≡◌, ◌⊎◌}
use Rattle.std.specs.Prelude.{get_or, slice_get}

-- one of these edges comes from an item of the process
abbrev pub HasOrigin : ℕ → List FlowEdge → Type 0
HasOrigin q es = (b : ItemAt) × IsIn b (places_of es) × (b.process ≡ q)

pub in_behind : {A : Type 0} (xs ys : List A) (x : A) → IsIn x ys → IsIn x (xs ++ ys)
in_behind [] ys x m = m
in_behind (y ∷ xs) ys x m = inr (in_behind xs ys x m)

pub in_front : {A : Type 0} (xs ys : List A) (x : A) → IsIn x xs → IsIn x (xs ++ ys)
in_front [] ys x m = absurd m
in_front (y ∷ xs) ys x (inl e) = inl e
in_front (y ∷ xs) ys x (inr m) = inr (in_front xs ys x m)

pub in_either : {A : Type 0} (xs ys : List A) (x : A) → IsIn x (xs ++ ys) → IsIn x xs ⊎ IsIn x ys
in_either [] ys x m = inr m
in_either (y ∷ xs) ys x (inl e) = inl (inl e)
in_either (y ∷ xs) ys x (inr m) = elim (in_either xs ys x m) [ inl l ↦ inl (inr l) | inr r ↦ inr r ]

-- of the first edge, or of another
of_first : (q k i : ℕ) (e : FlowEdge) (es : List FlowEdge) → e.from ≡ origin.Item q k i → HasOrigin q (e ∷ es)
of_first q k i e es is =
    (at q k i, in_front (place_of e.from) (places_of es) (at q k i) (subst (λ o. IsIn (at q k i) (place_of o)) (sym is) (inl refl)), refl)

of_rest : (q : ℕ) (e : FlowEdge) (es : List FlowEdge) → HasOrigin q es → HasOrigin q (e ∷ es)
of_rest q e es (b, m, is) = (b, in_behind (place_of e.from) (places_of es) b m, is)

of_front : (q : ℕ) (es fs : List FlowEdge) → HasOrigin q es → HasOrigin q (es ++ fs)
of_front q [] fs (b, m, is) = absurd m
of_front q (e ∷ es) fs (b, m, is) = elim (in_either (place_of e.from) (places_of es) b m) [
  | inl l ↦ (b, in_front (place_of e.from) (places_of (es ++ fs)) b l, is)
  | inr r ↦ of_rest q e (es ++ fs) (of_front q es fs (b, r, is))
]

of_behind : (q : ℕ) (es fs : List FlowEdge) → HasOrigin q fs → HasOrigin q (es ++ fs)
of_behind q [] fs h = h
of_behind q (e ∷ es) fs h = of_rest q e (es ++ fs) (of_behind q es fs h)

abbrev ok_in : {A : Type 0} → A → Result A Missing → A
ok_in d (Ok x) = x
ok_in d (Err m) = d

same_ok : {A : Type 0} (x y : A) → ◌≡◌ {A = Result A Missing} (Ok x) (Ok y) → x ≡ y
same_ok {A = A} x y e = ap (ok_in {A = A} x) e

module _ (past : Past) (p k j q : ℕ) where
  abbrev xs : List Seen
  xs = seens_in past

  abbrev FromThere : FlowEdge → Type 0
  FromThere e = (m i : ℕ) × (e.from ≡ origin.Item q m i)

  -- a read of what another edge wrote comes from there
  module _ (a : Access) (c : ℕ) (e : FlowEdge) where
    by_walk : (b : EdgeId) (w : Walked) → read_if a (origin_in (written_at past.logs.now c b w)) ≡ Ok e
        → IsIn q (b.process ∷ []) → FromThere e
    by_walk b (Found m i v) f (inl s) =
        (m, i, ap (λ (d : FlowEdge). d.from) (sym (same_ok _ _ f)) ∙ ap (λ x. origin.Item x m i) (sym s))
    by_walk b (Found m i v) f (inr s) = absurd s
    by_walk b Stopped f s = absurd (cc)
    by_walk b Passed f s = absurd (cc)

    by_edge : (w : Walked) (o : Option EdgeId)
        → read_if a (own_or p w (look_map origin_in (written_or_start past.program.now past.logs.now xs c o))).found ≡ Ok e
        → IsIn q (process_of (edge_unless_found w o)) → FromThere e
    by_edge (Found m i v) o f s = absurd s
    by_edge Stopped None f s = absurd s
    by_edge Stopped (Some b) f s = by_walk b (walk_in past.logs.now xs c b).found f s
    by_edge Passed None f s = absurd s
    by_edge Passed (Some b) f s = by_walk b (walk_in past.logs.now xs c b).found f s

  of_read : (a : Access) (spot : Spot) (e : FlowEdge)
      → (read_edge past.program.now past.plan.now past.logs.now xs p k j a spot).found ≡ Ok e
      → IsIn q (far_of_spot past.program.now past.logs.now xs p k j spot) → FromThere e
  of_read a (Local frame c) e f s = absurd s
  of_read a (Shared c) e f s =
      by_edge a c e (walk (seen_at xs p) c k j).found (greatest_before past.program.now past.logs.now (edge_of_place past.logs.now xs p k j) c) f s

  of_reads : (reads : List Access) (es : List FlowEdge)
      → (read_edges past.program.now past.plan.now past.logs.now xs p k j reads).found ≡ Ok es
      → IsIn q (far_of_reads past.program.now past.logs.now xs p k j reads) → HasOrigin q es
  of_reads [] es f s = absurd s
  of_reads (a ∷ as') es f s =
      by (read_edge past.program.now past.plan.now past.logs.now xs p k j a a.spot).found refl
      (read_edges past.program.now past.plan.now past.logs.now xs p k j as').found refl f
      (in_either (far_of_spot past.program.now past.logs.now xs p k j a.spot) (far_of_reads past.program.now past.logs.now xs p k j as') q s)
      (of_reads as')
    where
      others : Looked (ℕ × ℕ) (Result (List FlowEdge) Missing)
      others = read_edges past.program.now past.plan.now past.logs.now xs p k j as'

      by : (r : Result FlowEdge Missing) → (read_edge past.program.now past.plan.now past.logs.now xs p k j a a.spot).found ≡ r
          → (rs : Result (List FlowEdge) Missing) → (read_edges past.program.now past.plan.now past.logs.now xs p k j as').found ≡ rs
          → (before_others r others).found ≡ Ok es
          → IsIn q (far_of_spot past.program.now past.logs.now xs p k j a.spot) ⊎ IsIn q (far_of_reads past.program.now past.logs.now xs p k j as')
          → ((fs : List FlowEdge) → (read_edges past.program.now past.plan.now past.logs.now xs p k j as').found ≡ Ok fs
          → IsIn q (far_of_reads past.program.now past.logs.now xs p k j as') → HasOrigin q fs)
          → HasOrigin q es
      by (Ok e) g (Ok fs) h t (inl m) go =
          let there = of_read a a.spot e g m in
          subst (HasOrigin q) (same_ok (e ∷ fs) es (sym (ap (with_edge e) h) ∙ t)) (of_first q there.0 there.1 e fs there.2)
      by (Ok e) g (Ok fs) h t (inr m) go = subst (HasOrigin q) (same_ok (e ∷ fs) es (sym (ap (with_edge e) h) ∙ t)) (of_rest q e fs (go fs h m))
      by (Ok e) g (Err x) h t m go = absurd (cc (sym (ap (with_edge e) h) ∙ t))
      by (Err x) g rs h t m go = absurd (cc)

  -- so does the edge of a pair
  of_pair : (pair : Paired) → IsIn q (far_of_pair pair) → HasOrigin q (pair_edges (pair_place past.logs.now xs pair).found)
  of_pair Nothing s = absurd s
  of_pair Initial s = absurd s
  of_pair (Node a) (inl e) =
      let entries = get_or past.logs.now.lists a.process [] in
      (at a.process (end_interval entries a.sync) (end_item entries (seen_at xs a.process) a.sync), inl refl, sym e)
  of_pair (Node a) (inr m) = absurd m

  of_sync : (number : Option ℕ) → IsIn q (far_of_sync past.program.now past.logs.now xs p k j number)
      → HasOrigin q (sync_edges past.program.now past.logs.now xs p k j number).found
  of_sync None s = absurd s
  of_sync (Some number) s = of_pair (pair_of past.program.now past.logs.now xs p k j) s

  module _ (es : List FlowEdge) where
    of_event : (e : Event) → (event_edges past.program.now past.plan.now past.logs.now xs p k j e).found ≡ Ok es
        → IsIn q (far_of_item past.program.now past.logs.now xs p k j (Some (item.Own e))) → HasOrigin q es
    of_event e f s =
        by (read_edges past.program.now past.plan.now past.logs.now xs p k j e.reads).found refl f
        (in_either (far_of_reads past.program.now past.logs.now xs p k j e.reads) (far_of_sync past.program.now past.logs.now xs p k j e.number) q s)
        (of_sync e.number)
      where
        syncs : List FlowEdge
        syncs = (sync_edges past.program.now past.logs.now xs p k j e.number).found

        control : List FlowEdge
        control = bare_edge Control (control_origin past.program.now past.plan.now (seen_at xs p) p k j e.stmt).found ∷ []

        by : (r : Result (List FlowEdge) Missing)
            → (read_edges past.program.now past.plan.now past.logs.now xs p k j e.reads).found ≡ r
            → (and_more r (last_edges past.program.now past.plan.now past.logs.now xs p k j e)).found ≡ Ok es
            → IsIn q (far_of_reads past.program.now past.logs.now xs p k j e.reads) ⊎ IsIn q (far_of_sync past.program.now past.logs.now xs p k j e.number)
            → (IsIn q (far_of_sync past.program.now past.logs.now xs p k j e.number) → HasOrigin q syncs)
            → HasOrigin q es
        by (Ok fs) g t (inl m) pair = subst (HasOrigin q) (same_ok (fs ++ (syncs ++ control)) es t) (of_front q fs (syncs ++ control) (of_reads e.reads fs g m))
        by (Ok fs) g t (inr m) pair =
            subst (HasOrigin q) (same_ok (fs ++ (syncs ++ control)) es t) (of_behind q fs (syncs ++ control) (of_front q syncs control (pair m)))
        by (Err x) g t m pair = absurd (cc)

    of_item : (t : Item) → (item_edges past.program.now past.plan.now past.logs.now xs p k j t).found ≡ Ok es
        → IsIn q (far_of_item past.program.now past.logs.now xs p k j (Some t)) → HasOrigin q es
    of_item (item.Own e) f s = of_event e f s
    of_item (item.Nested m b values closed) f s = absurd s

    answered : (r : Result (List FlowEdge) Missing) → answer_of r ≡ Ok es → r ≡ Ok es
    answered (Ok fs) f = ap (λ (x : Result (List FlowEdge) FlowError). as_missing x) f
      where
        as_missing : Result (List FlowEdge) FlowError → Result (List FlowEdge) Missing
        as_missing (Ok gs) = Ok gs
        as_missing (Err x) = Ok fs
    answered (Err m) f = absurd (cc)

    of_answer : (o : Option Item) → answer_if (edges_if past.program.now past.plan.now past.logs.now xs p k j o).found ≡ Ok es
        → IsIn q (far_of_item past.program.now past.logs.now xs p k j o) → HasOrigin q es
    of_answer None f s = absurd s
    of_answer (Some t) f s = of_item t (answered (item_edges past.program.now past.plan.now past.logs.now xs p k j t).found f) s

    unfailed : (o : Option At) (r : Result (List FlowEdge) FlowError) → unless_failed o r ≡ Ok es → r ≡ Ok es
    unfailed None r f = f
    unfailed (Some failure) r f = absurd (cc)

    -- each of the processes is that of an origin
    pub from_far : flow_of past (at p k j) ≡ Ok es → IsIn q (far_in past p k j) → HasOrigin q es
    from_far f s =
        of_answer (slice_get (get_or (seen_at xs p).items k []) j)
        (unfailed (first_failed_in past (replays past (at p k j))) (answer_if (edges_if past.program.now past.plan.now past.logs.now xs p k j (slice_get (get_or (seen_at xs p).items k []) j)).found) f) s
