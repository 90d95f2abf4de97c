-- What is answered for the slice of an item is what the edges of the run reach.
use Rattle.ppd_flow_past.specs.PastSetting.{past_setting}
use Rattle.std.specs.Prelude.{slice_get, unwrap_or, get_or, ok_or}
use Rattle.std.specs.Result.{result_unwrap_or}
use Rattle.std.proofs.Common.{◌≡◌, ℕ, zero, suc, ◌+◌, List, [], ◌∷◌, map, Option, Some, None, Result, Ok, Err, refl, ap, sym, ◌∙◌}
use Rattle.ppd_ast.specs.declared.plan.Plan.{Plan}
use Rattle.ppd_ast.specs.declared.plan.Policy.{Policy}
use Rattle.ppd_ast.specs.declared.program.Program.{Program}
use Rattle.ppd_ast.specs.Valid.{IsValid}
use Rattle.ppd_model.specs.declared.entry.At.{At}
use Rattle.ppd_flow.specs.Answers.{answer_if}
use Rattle.ppd_flow.specs.Runs.{IsOfRun, splits_in, story_in}
use Rattle.ppd_flow.proofs.OfRuns.{answered, gives_edges, seens_are}
use Rattle.ppd_graph.specs.Found.{edges_if as found_if, found_edges}
use Rattle.ppd_graph.specs.Seen.{seen_of}
use Rattle.ppd_graph.specs.Shared.{Missing, seen_at}
use Rattle.ppd_model.specs.declared.flow_error.FlowError.{FlowError}
use Rattle.ppd_model.specs.declared.flow_error.FlowError.TheVariants.{Diverged, NoEvent, Sets, Memory}
use Rattle.ppd_flow_past.specs.declared.past.Past.{Past}
use Rattle.ppd_flow_past.specs.ByReplays.{cost, failure_or, first_failed_in}
use Rattle.ppd_flow_past.specs.Honest.{ReplaysAreSeen}
use Rattle.ppd_flow_past.specs.SeenBy.{failed_in}
use Rattle.ppd_flow.specs.SharedCells.{seens_in}
use Rattle.law_flow.specs.Loops.AllOwnParts.{AllOwnPartsAreFound}
use Rattle.law_flow.specs.Edges.Assembled.{EdgesAreFound}
use Rattle.ppd_model.specs.declared.flow.FlowEdge.{FlowEdge}
use Rattle.ppd_model.specs.declared.flow.Item.{Item}
use Rattle.ppd_model.specs.FlowbackEdges.{edges}
use Rattle.ppd_model.proofs.EdgeWords.{edges_if, edges_in, part_in}
use Rattle.ppd_model.specs.Intervals.{Part, Span, Split}
use Rattle.ppd_slice_search.specs.declared.reached.ItemAt.{ItemAt}
use Rattle.ppd_slice_search.specs.declared.reached.Reached.{Reached}
use Rattle.ppd_slice_search.specs.Laws.{ReachesAreSlices, SlicesAreOne}
use Rattle.ppd_slice_search.specs.OfRuns.{origins, reach}
use Rattle.ppd_slice_search.specs.Reach.{IsReach, at, item_of, places_of}
use Rattle.ppd_slice_search.proofs.Levels.{reach_as}
use Rattle.ppd_slice.specs.Slices.{IsSlice, SlicesAreOfRuns, flow_of, origins_in, slice_or_none, unless_failed}
use Rattle.ppd_slice.proofs.Flows.{none_flow}

clash : {X : Type 0} {o : Option X} {x : X} → o ≡ None → o ≡ Some x → ⊥
clash a b = cc (a, b)

-- ---- items that are there

record IsPlaced (xs : List Split) (p k j : ℕ) : Type 0 where
  split : Split
  span : Span
  part : Part
  split_is : slice_get xs p ≡ Some split
  span_is : slice_get split.spans k ≡ Some span
  part_is : slice_get span.parts j ≡ Some part

placed : (program : Program) (plan : Plan) (xs : List Split) (p k j : ℕ) (es : List FlowEdge) → edges_in program plan xs k j (slice_get xs p) ≡ Some es → IsPlaced xs p k j
placed program plan xs p k j es e = by (slice_get xs p) refl e
  where
    in_span : (x : Split) → slice_get xs p ≡ Some x → (i : Span) → slice_get x.spans k ≡ Some i → (q : Option Part) → slice_get i.parts j ≡ q → edges_if program plan xs x q ≡ Some es → IsPlaced xs p k j
    in_span x f i g None n m = absurd (cc)
    in_span x f i g (Some q) n m = record { split = x; span = i; part = q; split_is = f; span_is = g; part_is = n }

    in_split : (x : Split) → slice_get xs p ≡ Some x → (o : Option Span) → slice_get x.spans k ≡ o → edges_if program plan xs x (part_in o j) ≡ Some es → IsPlaced xs p k j
    in_split x f None g m = absurd (cc)
    in_split x f (Some i) g m = in_span x f i g (slice_get i.parts j) refl m

    by : (o : Option Split) → slice_get xs p ≡ o → edges_in program plan xs k j o ≡ Some es → IsPlaced xs p k j
    by None f m = absurd (cc)
    by (Some x) f m = in_split x f (slice_get x.spans k) refl m

-- ---- nothing is seen of a process that is not there

no_items : (xs : List Split) (p k : ℕ) → slice_get xs p ≡ None → get_or (seen_at (map (λ x. seen_of x) xs) p).items k [] ≡ []
no_items [] p k e = by k
  where
    by : (k : ℕ) → ◌≡◌ {A = List Item} (get_or [] k []) []
    by zero = refl
    by (suc k) = refl
no_items (x ∷ xs) zero k e = absurd (cc)
no_items (x ∷ xs) (suc p) k e = no_items xs p k e

no_item : (j : ℕ) → ◌≡◌ {A = Option Item} (slice_get [] j) None
no_item zero = refl
no_item (suc j) = refl

-- ---- a past of a run

module _ (law : ReplaysAreSeen) (found : EdgesAreFound) (own : AllOwnPartsAreFound) (past : Past) (policy : Policy) (h : List ℕ) (v : IsValid past.program.now) (r : IsOfRun past policy h) where
  abbrev of_run : ItemAt → Option (List FlowEdge)
  of_run b = edges (past_setting past) (story_in past h) b.process b.interval b.item

  never : (ms : List (ℕ × ℕ)) → first_failed_in past ms ≡ None
  never ms = by (first_failed_in past ms) refl
    where
      wrong : {e : FlowError} → ◌≡◌ {A = Result (List (ℕ × ℕ)) FlowError} (Err e) (Ok ms) → ⊥
      wrong e = cc

      by : (o : Option At) → first_failed_in past ms ≡ o → o ≡ None
      by None e = refl
      by (Some failure) e = absurd (wrong (answered law past policy h v r ms (Ok ms) (Ok ms) 0 0 (Err (Diverged failure.process failure.entry)) refl e))

  never_failed : (q m n : ℕ) → failed_in past q m ≡ Some n → ⊥
  never_failed q m n e = clash (never ((q, m) ∷ [])) (ap (λ o. failure_or q o None) e)

  module _ (b : ItemAt) where
    abbrev found_there : Option (Result (List FlowEdge) Missing)
    found_there = (found_edges past.program.now past.plan.now past.logs.now (seens_in past) b.process b.interval b.item).found

    abbrev needed : List (ℕ × ℕ)
    needed = (found_edges past.program.now past.plan.now past.logs.now (seens_in past) b.process b.interval b.item).replays

    -- of a process of the run
    there : (x : Split) → slice_get (splits_in past h) b.process ≡ Some x → (o : Option (Result (List FlowEdge) Missing)) → found_there ≡ o → answer_if o ≡ ok_or (of_run b) NoEvent
    there x at None e =
        gives_edges law found own past b.process b.interval b.item 0 0 (Err NoEvent) v (never needed, ap answer_if e) policy h x r at
    there x at (Some (Ok es)) e =
        gives_edges law found own past b.process b.interval b.item 0 (0 + cost past needed) (Ok es) v (never needed, ap answer_if e, refl) policy h x r at
    there x at (Some (Err m)) e =
        gives_edges law found own past b.process b.interval b.item 0 0 (Err (Sets m.process m.entry m.cell)) v (never needed, ap answer_if e) policy h x r at

    -- of no process of it
    nowhere : slice_get (splits_in past h) b.process ≡ None → found_there ≡ None
    nowhere at =
        let gone : get_or (seen_at (seens_in past) b.process).items b.interval [] ≡ [] =
        ap (λ xs. get_or (seen_at xs b.process).items b.interval []) (seens_are law past policy h v r) ∙ no_items (splits_in past h) b.process b.interval at in
        ap (λ o. (found_if past.program.now past.plan.now past.logs.now (seens_in past) b.process b.interval b.item o).found)
        (ap (λ (is : List Item). slice_get is b.item) gone ∙ no_item b.item)

    answer_is : answer_if found_there ≡ ok_or (of_run b) NoEvent
    answer_is = by (slice_get (splits_in past h) b.process) refl
      where
        by : (o : Option Split) → slice_get (splits_in past h) b.process ≡ o → answer_if found_there ≡ ok_or (of_run b) NoEvent
        by (Some x) e = there x e found_there refl
        by None e =
            ap answer_if (nowhere e)
            ∙ sym (ap (λ o. ok_or (edges_in past.program.now past.plan.now (splits_in past h) b.interval b.item o) NoEvent) e)

    flow_is : flow_of past b ≡ ok_or (of_run b) NoEvent
    flow_is = ap (λ o. unless_failed o (answer_if found_there)) (never needed) ∙ answer_is

    origins_are : origins (past_setting past) (story_in past h) b ≡ origins_in past b
    origins_are = by (of_run b) ∙ ap (λ found. places_of (result_unwrap_or found [])) (sym flow_is)
      where
        by : (o : Option (List FlowEdge)) → places_of (unwrap_or o []) ≡ places_of (result_unwrap_or (ok_or o NoEvent) [])
        by None = refl
        by (Some es) = refl

  some_edges : (o : Option (List FlowEdge)) (es : List FlowEdge) → ok_or o NoEvent ≡ Ok es → o ≡ Some es
  some_edges None es e = absurd (cc)
  some_edges (Some xs) es e = let same : xs ≡ es = cc in ap Some same

  no_edges : (o : Option (List FlowEdge)) → ok_or o NoEvent ≡ Err NoEvent → o ≡ None
  no_edges None e = refl
  no_edges (Some es) e = absurd (cc)

  never_misses : (o : Option (List FlowEdge)) (q n c : ℕ) → ok_or o NoEvent ≡ Err (Sets q n c) → ⊥
  never_misses None q n c e = cc
  never_misses (Some es) q n c e = cc

  module _ (reaches : ReachesAreSlices) (one : SlicesAreOne) (a : ItemAt) where
    abbrev of_item : List Reached
    of_item = reach (past_setting past) (story_in past h) a.process a.interval a.item

    reached : (es : List FlowEdge) → of_run a ≡ Some es → IsReach (origins_in past) a of_item
    reached es e =
        let i : IsPlaced (splits_in past h) a.process a.interval a.item = placed past.program.now past.plan.now (splits_in past h) a.process a.interval a.item es e in
        reach_as (origins (past_setting past) (story_in past h)) (origins_in past) a of_item
        (reaches (past_setting past) (story_in past h) a.process a.interval a.item i.split i.span i.part i.split_is i.span_is i.part_is)
        (λ q m. origins_are (item_of q))

    slice_is : (rs : List Reached) → IsSlice past a rs → ◌≡◌ {A = Result (List Reached) FlowError} (Ok rs) (slice_or_none (of_run a) of_item)
    slice_is rs s =
        let es = s.first in
        let some : of_run a ≡ Some es.0 = some_edges (of_run a) es.0 (sym (flow_is a) ∙ es.1) in
        let same : rs ≡ of_item = one (origins_in past) a rs of_item s.reach (reached es.0 some) in
        ap (λ (ss : List Reached). Ok ss) same ∙ sym (ap (λ o. slice_or_none o of_item) some)

    none_is : flow_of past a ≡ Err NoEvent → ◌≡◌ {A = Result (List Reached) FlowError} (Err NoEvent) (slice_or_none (of_run a) of_item)
    none_is e = sym (ap (λ o. slice_or_none o of_item) (no_edges (of_run a) (sym (flow_is a) ∙ e)))

pub slices_of_runs : ReplaysAreSeen → EdgesAreFound → AllOwnPartsAreFound → ReachesAreSlices → SlicesAreOne → SlicesAreOfRuns
slices_of_runs law found own reaches one past a (Ok rs) v s = λ policy h r. slice_is law found own past policy h v r reaches one a rs s
slices_of_runs law found own reaches one past a (Err NoEvent) v s = λ policy h r. none_is law found own past policy h v r reaches one a (none_flow past a s)
slices_of_runs law found own reaches one past a (Err (Diverged q n)) v s = λ policy h r. absurd (never_failed law found own past policy h v r q s.1.0 n s.1.1)
slices_of_runs law found own reaches one past a (Err (Sets q n c)) v s = λ policy h r.
    absurd (never_misses law found own past policy h v r (edges (past_setting past) (story_in past h) s.1.0.process s.1.0.interval s.1.0.item) q n c (sym (flow_is law found own past policy h v r s.1.0) ∙ s.1.1))
slices_of_runs law found own reaches one past a (Err Memory) v s = λ policy h r. tt
