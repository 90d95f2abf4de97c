-- The replays for each edge of an item have at most twice the own steps of the near intervals, and so for all.
use Rattle.ppd_model.specs.Setting.{Setting}
use Rattle.std.proofs.Common.{◌≡◌, ℕ, ◌+◌, ◌*◌, ◌≤◌, List, [], ◌∷◌, ◌++◌, Option, Some, None, Result, Ok, Err, refl, ap, sym, ◌∙◌, subst, arith, length, length-append}
use Rattle.std.specs.Prelude.{option_map, slice_get, is_some, get_or}
use Rattle.std.proofs.lemmas.Option.{none-some}
use Rattle.ppd_ast.specs.Valid.{IsValid}
use Rattle.ppd_sem.specs.Blocks.{block_kind}
use Rattle.ppd_model.specs.declared.flow.EdgeKind.TheVariants.{Control}
use Rattle.ppd_model.specs.declared.flow.FlowEdge.{FlowEdge}
use Rattle.ppd_model.specs.declared.flow.Item.TheVariants as item
use Rattle.ppd_model.specs.declared.trace.TracedEvent.{TracedEvent}
use Rattle.ppd_model.specs.FlowbackEdges.{bare_edge, edges, part_at}
use Rattle.ppd_model.proofs.EdgeWords.{edges_if as model_edges_if, edges_in, part_in}
use Rattle.ppd_model.specs.Intervals.{Part, own, nested, Span, Split, items_of, splits}
use Rattle.ppd_model.proofs.IntervalWords.{item_of_event, item_of_span}
use Rattle.ppd_model.specs.Logs.{closed_logs}
use Rattle.ppd_model.specs.NearIntervals.{near_steps}
use Rattle.ppd_model.specs.Races.{races}
use Rattle.ppd_model.specs.Schedule.{run}
use Rattle.ppd_model.specs.Story.{story}
use Rattle.ppd_model.specs.World.{World}
use Rattle.ppd_model.proofs.Changes.{some}
use Rattle.ppd_model.proofs.Items.{items_whole}
use Rattle.ppd_model.proofs.Tested.{In, here as first_in}
use Rattle.ppd_graph.specs.Control.{control_origin}
use Rattle.ppd_graph.specs.Found.{and_more, edges_if, event_edges, found_edges, last_edges, read_edges, sync_edges}
use Rattle.ppd_graph.specs.Looked.{Looked}
use Rattle.ppd_graph.specs.Own.{edges_of_nested}
use Rattle.ppd_graph.specs.Seen.{Seen, seen_of}
use Rattle.ppd_graph.specs.Shared.{Missing, of_process, seen_at}
use Rattle.law_flow.specs.Edges.Assembled.{HasOwnParts}
use Rattle.law_flow.specs.Edges.SharedEdges.{all_seen}
use Rattle.law_flow.proofs.Edges.Assembled.{assembled}
use Rattle.law_flow.proofs.Edges.Back.Walks.{map_at}
use Rattle.law_flow.proofs.Edges.StepEvents.Processes.{Facts, facts}
use Rattle.law_flow.specs.Costs.Bounds.{EdgesCostLittle, steps_of_all}
use Rattle.law_flow.proofs.Costs.Own.Near.{both_steps, one_little}
use Rattle.law_flow.proofs.Edges.PartItems.{first_of, item_at, item_if}
use Rattle.law_flow.proofs.Costs.Own.Parts.{both_times, twice}
use Rattle.law_flow.proofs.Costs.Edges.Answers.{in_left, in_right, not_ok, ok_is}
use Rattle.law_flow.proofs.Costs.Edges.Items.{and_one, control_here, nested_little, reads_little, sync_little}
use Rattle.law_flow.proofs.Costs.Words.{Words, words_of}

module _ (setting : Setting) (h : List ℕ) (w : World) (v : IsValid setting.program) (r : run setting h ≡ Some w) (free : races setting h ≡ []) (p k j : ℕ) (x : Split)
    (there : slice_get (splits setting (story setting h)) p ≡ Some x) (es : List FlowEdge) (edges_are : edges setting (story setting h) p k j ≡ Some es) where
  abbrev words : Words
  words = words_of setting h p k j

  open words use {xs, logs, seens, N, steps}

  f : Facts setting h v p x
  f = facts setting h v p x there

  seen_is : seen_at (all_seen setting h) p ≡ seen_of x
  seen_is = f.seen_is

  -- ---- the item

  own_little : (i : Span) → slice_get x.spans k ≡ Some i → steps (of_process p (k ∷ [])) ≤ N
  own_little i at = one_little setting h p k j x there es edges_are k first_in

  module _ (i : Span) (at : slice_get x.spans k ≡ Some i) where
    module _ (n : ℕ) (ev : TracedEvent) (place : part_at x k j ≡ Some (own n)) (at_event : slice_get x.trace.events n ≡ Some ev) (answer : (event_edges setting.program setting.plan logs seens p k j ev.event).found ≡ Ok es) where
      abbrev sync : List FlowEdge
      sync = (sync_edges setting.program logs seens p k j ev.event.number).found

      abbrev last : FlowEdge
      last = bare_edge Control (control_origin setting.program setting.plan (seen_at seens p) p k j ev.event.stmt).found

      abbrev more : Looked (ℕ × ℕ) (List FlowEdge)
      more = last_edges setting.program setting.plan logs seens p k j ev.event

      by_reads : (t : Result (List FlowEdge) Missing) → (read_edges setting.program setting.plan logs seens p k j ev.event.reads).found ≡ t
          → steps (event_edges setting.program setting.plan logs seens p k j ev.event).replays ≤ length es * (N + N)
      by_reads (Err m) z = absurd (not_ok (sym (ap (λ (t : Result (List FlowEdge) Missing). (and_more t more).found) z) ∙ answer))
      by_reads (Ok rs) z =
          let are : rs ++ (sync ++ last ∷ []) ≡ es = ok_is (sym (ap (λ (t : Result (List FlowEdge) Missing). (and_more t more).found) z) ∙ answer) in
          let a = reads_little setting h v p k j x there es edges_are n ev place at_event i at ev.event.reads rs z (λ e q. subst (λ l. In e l) are (in_left e rs (sync ++ last ∷ []) q)) in
          let b = sync_little setting h v p k j x there es edges_are ev.event.number (λ e q. subst (λ l. In e l) are (in_right e rs (sync ++ last ∷ []) (in_left e sync (last ∷ []) q))) in
          let c = control_here setting h v p k j x there es edges_are i at ev.event.stmt in
          let rest = and_one setting h v p k j x there es edges_are i at (steps (sync_edges setting.program logs seens p k j ev.event.number).replays) (steps (of_process p (control_origin setting.program setting.plan (seen_at seens p) p k j ev.event.stmt).replays)) (length sync) b c in
          let sum = both_steps xs (sync_edges setting.program logs seens p k j ev.event.number).replays (of_process p (control_origin setting.program setting.plan (seen_at seens p) p k j ev.event.stmt).replays) in
          let all = both_steps xs (read_edges setting.program setting.plan logs seens p k j ev.event.reads).replays more.replays in
          let long : length es ≡ length rs + (length sync + 1) = sym (ap length are) ∙ length-append rs (sync ++ last ∷ []) ∙ ap (λ u. length rs + u) (length-append sync (last ∷ [])) in
          subst (λ u. steps (event_edges setting.program setting.plan logs seens p k j ev.event).replays ≤ u * (N + N)) (sym long)
          (subst (λ (t : Result (List FlowEdge) Missing). steps ((read_edges setting.program setting.plan logs seens p k j ev.event.reads).replays ++ (and_more t more).replays) ≤ (length rs + (length sync + 1)) * (N + N)) (sym z)
          (subst (λ s. s ≤ (length rs + (length sync + 1)) * (N + N)) (sym all)
          (both_times (steps (read_edges setting.program setting.plan logs seens p k j ev.event.reads).replays) (steps more.replays) (length rs) (length sync + 1) (N + N) a
          (subst (λ s. s ≤ (length sync + 1) * (N + N)) (sym sum) rest))))

      event_little : steps (event_edges setting.program setting.plan logs seens p k j ev.event).replays ≤ length es * (N + N)
      event_little = by_reads (read_edges setting.program setting.plan logs seens p k j ev.event.reads).found refl

    item_is : (q : Part) → slice_get i.parts j ≡ Some q → slice_get (get_or (seen_at seens p).items k []) j ≡ item_if x (Some q)
    item_is q g =
        ap (λ (s : Seen). slice_get (get_or s.items k []) j) seen_is ∙ ap (λ l. slice_get l j) (map_at (items_of x) x.spans k i [] at)
        ∙ item_at x i.parts j ((items_whole setting h p x v there).whole k i at) ∙ ap (item_if x) g

  module _ (parts : HasOwnParts setting.program setting.plan (splits setting (story setting h)) x p k j) where
    found : (found_edges setting.program setting.plan logs seens p k j).found ≡ Some (Ok es)
    found = assembled setting h w v r free p k j x there parts ∙ ap (option_map (λ y. Ok y)) edges_are

    -- what is replayed for this item, after its interval
    rest_little : (i : Span) → slice_get x.spans k ≡ Some i → (q : Part) → slice_get i.parts j ≡ Some q → steps (edges_if setting.program setting.plan logs seens p k j (slice_get (get_or (seen_at seens p).items k []) j)).replays ≤ length es * (N + N)
    rest_little i at (own n) g = by (slice_get x.trace.events n) refl
      where
        place : part_at x k j ≡ Some (own n)
        place = ap (λ o. part_in o j) at ∙ g

        by : (o : Option TracedEvent) → slice_get x.trace.events n ≡ o → steps (edges_if setting.program setting.plan logs seens p k j (slice_get (get_or (seen_at seens p).items k []) j)).replays ≤ length es * (N + N)
        by None z =
            let is : slice_get (get_or (seen_at seens p).items k []) j ≡ None = item_is i at (own n) g ∙ ap (λ o. first_of (item_of_event o)) z in
            absurd (none-some (Ok es) (sym (ap (λ o. (edges_if setting.program setting.plan logs seens p k j o).found) is) ∙ found))
        by (Some ev) z =
            let is : slice_get (get_or (seen_at seens p).items k []) j ≡ Some (item.Own ev.event) = item_is i at (own n) g ∙ ap (λ o. first_of (item_of_event o)) z in
            let here : (event_edges setting.program setting.plan logs seens p k j ev.event).found ≡ Ok es = some (sym (ap (λ o. (edges_if setting.program setting.plan logs seens p k j o).found) is) ∙ found) in
            subst (λ o. steps (edges_if setting.program setting.plan logs seens p k j o).replays ≤ length es * (N + N)) (sym is) (event_little i at n ev place z here)
    rest_little i at (nested m) g = by (slice_get x.spans m) refl
      where
        by : (o : Option Span) → slice_get x.spans m ≡ o → steps (edges_if setting.program setting.plan logs seens p k j (slice_get (get_or (seen_at seens p).items k []) j)).replays ≤ length es * (N + N)
        by None z =
            let is : slice_get (get_or (seen_at seens p).items k []) j ≡ None = item_is i at (nested m) g ∙ ap (λ o. first_of (item_of_span m o)) z in
            absurd (none-some (Ok es) (sym (ap (λ o. (edges_if setting.program setting.plan logs seens p k j o).found) is) ∙ found))
        by (Some s) z =
            let is : slice_get (get_or (seen_at seens p).items k []) j ≡ Some (item.Nested m s.block s.values (is_some s.closed)) = item_is i at (nested m) g ∙ ap (λ o. first_of (item_of_span m o)) z in
            let here : (edges_of_nested setting.program setting.plan (seen_at seens p) p k j m s.block s.values (block_kind setting.plan s.block)).found ≡ es = ok_is (some (sym (ap (λ o. (edges_if setting.program setting.plan logs seens p k j o).found) is) ∙ found)) in
            subst (λ o. steps (edges_if setting.program setting.plan logs seens p k j o).replays ≤ length es * (N + N)) (sym is) (nested_little setting h v p k j x there es edges_are i at m s.block s.values (block_kind setting.plan s.block) here)

    pub all_little : steps_of_all (splits setting (story setting h)) (found_edges setting.program setting.plan (closed_logs setting h) (all_seen setting h) p k j).replays
        ≤ 2 * (length es + 1) * near_steps setting (story setting h) p k j
    all_little = by (slice_get x.spans k) refl (sym (ap (edges_in setting.program setting.plan xs k j) there) ∙ edges_are)
      where
        by_part : (i : Span) → slice_get x.spans k ≡ Some i → (o : Option Part) → slice_get i.parts j ≡ o → model_edges_if setting.program setting.plan xs x o ≡ Some es → steps (found_edges setting.program setting.plan logs seens p k j).replays ≤ 2 * (length es + 1) * N
        by_part i at None g e = absurd (none-some es e)
        by_part i at (Some q) g e =
            let a = own_little i at in
            let b = rest_little i at q g in
            let rest : List (ℕ × ℕ) = (edges_if setting.program setting.plan logs seens p k j (slice_get (get_or (seen_at seens p).items k []) j)).replays in
            let sum : steps ((p, k) ∷ rest) ≡ steps (of_process p (k ∷ [])) + steps rest = both_steps xs ((p, k) ∷ []) rest in
            let up : N + length es * (N + N) ≤ 2 * (length es + 1) * N = twice (length es) N in
            total (steps ((p, k) ∷ rest)) (steps (of_process p (k ∷ []))) (steps rest) (length es * (N + N)) (2 * (length es + 1) * N) sum a b up
          where
            total : (s a b y z : ℕ) → s ≡ a + b → a ≤ N → b ≤ y → N + y ≤ z → s ≤ z
            total s a b y z e1 l1 l2 l3 = omega (arith, e1, l1, l2, l3)

        by : (o : Option Span) → slice_get x.spans k ≡ o → model_edges_if setting.program setting.plan xs x (part_in (slice_get x.spans k) j) ≡ Some es → steps (found_edges setting.program setting.plan logs seens p k j).replays ≤ 2 * (length es + 1) * N
        by None g e = absurd (none-some es (sym (ap (λ s. model_edges_if setting.program setting.plan xs x (part_in s j)) g) ∙ e))
        by (Some i) g e = by_part i g (slice_get i.parts j) refl (sym (ap (λ s. model_edges_if setting.program setting.plan xs x (part_in s j)) g) ∙ e)

pub edges_cheap : EdgesCostLittle
edges_cheap setting h w p k j x es v r free there parts e = all_little setting h w v r free p k j x there es e parts
