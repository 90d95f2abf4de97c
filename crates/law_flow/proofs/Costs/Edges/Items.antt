-- The replays for the reads of an event, for a synchronization, for control, and for an interval.
use Rattle.ppd_model.specs.Setting.{Setting}
use Rattle.law_flow.proofs.Costs.Edges.Answers.{in_left, not_ok, ok_is}
use Rattle.law_flow.proofs.Costs.Edges.Shared.{origin_little, shared_little}
use Rattle.law_flow.proofs.Costs.Own.Near.{both_steps, parts_steps}
use Rattle.law_flow.proofs.Costs.Own.Outer.{AllStand}
use Rattle.law_flow.proofs.Costs.Own.Parts.{both_times, one_times}
use Rattle.law_flow.proofs.Costs.Own.Reads.{control_little, local_little}
use Rattle.law_flow.proofs.Costs.Words.{Words, words_of}
use Rattle.law_flow.proofs.Edges.Near.Tree.{HasTree, has_tree}
use Rattle.law_flow.proofs.Edges.Spans.Facts.{Logged}
use Rattle.law_flow.proofs.Edges.StepEvents.Processes.{Facts, closed_told, facts}
use Rattle.law_flow.specs.Edges.SharedEdges.{all_seen}
use Rattle.ppd_ast.specs.Valid.{IsValid}
use Rattle.ppd_ast.specs.declared.plan.BlockKind.{BlockKind}
use Rattle.ppd_ast.specs.declared.plan.BlockKind.TheVariants as block
use Rattle.ppd_graph.specs.Control.{control_origin}
use Rattle.ppd_graph.specs.Ends.{end_interval, end_item}
use Rattle.ppd_graph.specs.Found.{before_others, pair_edges, read_edge, read_edges, read_if, sync_edges, with_edge}
use Rattle.ppd_graph.specs.Locals.{local_origin}
use Rattle.ppd_graph.specs.Looked.{Looked}
use Rattle.ppd_graph.specs.Own.{edges_of_nested, frame_at, left_edges, returned_edges}
use Rattle.ppd_graph.specs.declared.paired.Paired.{Paired}
use Rattle.ppd_graph.specs.declared.paired.Paired.TheVariants.{Initial, Node, Nothing}
use Rattle.ppd_graph.specs.Seen.{Seen, last_item, seen_of}
use Rattle.ppd_graph.specs.Shared.{Missing, of_process, pair_of, pair_place, seen_at, shared_origin}
use Rattle.ppd_model.proofs.Tested.{In, here as first_in, there as later_in}
use Rattle.ppd_model.specs.FlowbackEdges.{bare_edge, edges, part_at}
use Rattle.ppd_model.specs.Intervals.{Span, Split, own, splits}
use Rattle.ppd_model.specs.Logs.{closed_logs}
use Rattle.ppd_model.specs.Story.{steps_of, story, told}
use Rattle.ppd_model.specs.declared.flow.EdgeKind.TheVariants.{Control, Left, Returned, Sync}
use Rattle.ppd_model.specs.declared.flow.FlowEdge.{FlowEdge}
use Rattle.ppd_model.specs.declared.flow.Origin.{Origin}
use Rattle.ppd_model.specs.declared.flow.Origin.TheVariants as origin
use Rattle.ppd_model.specs.declared.trace.TracedEvent.{TracedEvent}
use Rattle.ppd_sem.specs.Blocks.{postlog_cells}
use Rattle.ppd_sem.specs.declared.event.Access.{Access}
use Rattle.ppd_sem.specs.declared.event.Spot.{Spot}
use Rattle.ppd_sem.specs.declared.event.Spot.TheVariants.{Local, Shared}
use Rattle.std.proofs.Common.{Err, List, None, Ok, Option, Result, Some, [], ap, arith, length, length-append, refl, subst, suc, sym, ℕ, ℤ, ◌*◌, ◌++◌, ◌+◌, ◌∙◌, ◌∷◌, ◌≡◌, ◌≤◌}
use Rattle.std.specs.Prelude.{get_or, slice_get, ◌-◌}

module _ (setting : Setting) (h : List ℕ) (v : IsValid setting.program) (p k j : ℕ) (x : Split)
    (there : slice_get (splits setting (story setting h)) p ≡ Some x) (es : List FlowEdge) (edges_are : edges setting (story setting h) p k j ≡ Some es) where
  abbrev words : Words
  words = words_of setting h p k j

  open words use {xs, logs, seens, N, steps}

  f : Facts setting h v p x
  f = facts setting h v p x there

  tree : HasTree x
  tree =
      let t = closed_told setting h v p x there in
      subst (λ y. HasTree y) t.0 (has_tree setting.program setting.plan (story setting h) p setting.budget (steps_of (get_or (told setting h).moments p [])))

  abbrev F : ℕ → ℕ → ℕ → Type 0
  F = Logged (get_or (closed_logs setting h).lists p []) x.trace.events

  stands : AllStand (Logged (get_or (closed_logs setting h).lists p []) x.trace.events) x
  stands m i g = let q = f.told_by.placed m i g in (q.first, q.stands)

  seen_is : seen_at (all_seen setting h) p ≡ seen_of x
  seen_is = f.seen_is

  -- ---- the reads of an event

  module _ (n : ℕ) (ev : TracedEvent) (place : part_at x k j ≡ Some (own n)) (at_event : slice_get x.trace.events n ≡ Some ev) where
    module _ (i : Span) (at : slice_get x.spans k ≡ Some i) where
      local_read : (frame c : ℕ) (e : FlowEdge) → In e es → e.from ≡ (local_origin setting.program setting.plan (seen_at seens p) p k j frame c).found → steps (of_process p (local_origin setting.program setting.plan (seen_at seens p) p k j frame c).replays) ≤ N + N
      local_read frame c e g is =
          subst (λ (s : Seen). steps (of_process p (local_origin setting.program setting.plan s p k j frame c).replays) ≤ N + N) (sym seen_is)
          (local_little setting h p k j x there es edges_are tree F stands i at c j frame e g (is ∙ ap (λ (s : Seen). (local_origin setting.program setting.plan s p k j frame c).found) seen_is))

      read_little : (a : Access) (spot : Spot) (e : FlowEdge) → (read_edge setting.program setting.plan logs seens p k j a spot).found ≡ Ok e → In e es → steps (read_edge setting.program setting.plan logs seens p k j a spot).replays ≤ N + N
      read_little a (Local frame c) e found g = local_read frame c e g (ap (λ (y : FlowEdge). y.from) (sym (ok_is found)))
      read_little a (Shared c) e found g = by (shared_origin setting.program logs seens p k j c).found refl
        where
          by : (t : Result Origin Missing) → (shared_origin setting.program logs seens p k j c).found ≡ t → steps (shared_origin setting.program logs seens p k j c).replays ≤ N + N
          by (Ok from) z = shared_little setting h v p k j x there es edges_are n ev place at_event c from e g (ap (λ (y : FlowEdge). y.from) (sym (ok_is (sym (ap (read_if a) z) ∙ found)))) z
          by (Err m) z = absurd (not_ok (sym (ap (read_if a) z) ∙ found))

      pub reads_little : (as' : List Access) (rs : List FlowEdge) → (read_edges setting.program setting.plan logs seens p k j as').found ≡ Ok rs → ((e : FlowEdge) → In e rs → In e es) → steps (read_edges setting.program setting.plan logs seens p k j as').replays ≤ length rs * (N + N)
      reads_little [] rs found all = subst (λ l. 0 ≤ length l * (N + N)) (ok_is found) (omega arith)
      reads_little (a ∷ as') rs found all = by (λ more y all'. reads_little as' more y all') (read_edge setting.program setting.plan logs seens p k j a a.spot).found refl (read_edges setting.program setting.plan logs seens p k j as').found refl
        where
          first : Looked (ℕ × ℕ) (Result FlowEdge Missing)
          first = read_edge setting.program setting.plan logs seens p k j a a.spot

          others : Looked (ℕ × ℕ) (Result (List FlowEdge) Missing)
          others = read_edges setting.program setting.plan logs seens p k j as'

          by : ((more : List FlowEdge) → (read_edges setting.program setting.plan logs seens p k j as').found ≡ Ok more → ((e : FlowEdge) → In e more → In e es) → steps (read_edges setting.program setting.plan logs seens p k j as').replays ≤ length more * (N + N))
              → (t : Result FlowEdge Missing) → (read_edge setting.program setting.plan logs seens p k j a a.spot).found ≡ t → (u : Result (List FlowEdge) Missing) → (read_edges setting.program setting.plan logs seens p k j as').found ≡ u
              → steps (read_edges setting.program setting.plan logs seens p k j (a ∷ as')).replays ≤ length rs * (N + N)
          by again (Err m) z u y = absurd (not_ok (sym (ap (λ (t : Result FlowEdge Missing). (before_others t others).found) z) ∙ found))
          by again (Ok e) z (Err m) y = absurd (not_ok (sym (ap (λ (t : Result FlowEdge Missing). (before_others t others).found) z ∙ ap (with_edge e) y) ∙ found))
          by again (Ok e) z (Ok more) y =
              let same : e ∷ more ≡ rs = ok_is (sym (ap (λ (t : Result FlowEdge Missing). (before_others t others).found) z ∙ ap (with_edge e) y) ∙ found) in
              let one = read_little a a.spot e z (all e (subst (λ l. In e l) same first_in)) in
              let rest = again more y (λ d i. all d (subst (λ l. In d l) same (later_in i))) in
              let sum = both_steps xs first.replays others.replays in
              subst (λ l. steps (read_edges setting.program setting.plan logs seens p k j (a ∷ as')).replays ≤ length l * (N + N)) same
              (subst (λ (t : Result FlowEdge Missing). steps (first.replays ++ (before_others t others).replays) ≤ suc (length more) * (N + N)) (sym z)
              (subst (λ s. s ≤ suc (length more) * (N + N)) (sym sum)
              (one_times (steps first.replays) (steps others.replays) (length more) (N + N) one rest)))

  -- ---- synchronization

  pub alone : (a : ℕ) → a ≤ N → a ≤ 1 * (N + N)
  alone a le = let r = one_times a 0 0 (N + N) (omega (arith, le)) (omega arith) in omega (arith, r)

  pub sync_little : (number : Option ℕ) → ((e : FlowEdge) → In e (sync_edges setting.program logs seens p k j number).found → In e es)
      → steps (sync_edges setting.program logs seens p k j number).replays ≤ length (sync_edges setting.program logs seens p k j number).found * (N + N)
  sync_little None all = omega arith
  sync_little (Some number) all = by (pair_of setting.program logs seens p k j) all
    where
      by : (u : Paired) → ((e : FlowEdge) → In e (pair_edges (pair_place logs seens u).found) → In e es) → steps (pair_place logs seens u).replays ≤ length (pair_edges (pair_place logs seens u).found) * (N + N)
      by Nothing all' = omega arith
      by Initial all' = omega arith
      by (Node a) all' =
          let m : ℕ = end_interval (get_or logs.lists a.process []) a.sync in
          let n : ℕ = end_item (get_or logs.lists a.process []) (seen_at seens a.process) a.sync in
          let e : FlowEdge = bare_edge Sync (origin.Item a.process m n) in
          alone (steps (of_process a.process (m ∷ []))) (origin_little setting h v p k j x there es edges_are a.process m n e (all' e first_in) refl)

  -- ---- an interval

  module _ (i : Span) (at : slice_get x.spans k ≡ Some i) where
    pub control_here : (s : ℕ) → steps (of_process p (control_origin setting.program setting.plan (seen_at seens p) p k j s).replays) ≤ N + N
    control_here s =
        subst (λ (z : Seen). steps (of_process p (control_origin setting.program setting.plan z p k j s).replays) ≤ N + N) (sym seen_is)
        (control_little setting h p k j x there es edges_are tree F stands i at j s)

    abbrev leaving : ℕ → ℕ → ℤ → FlowEdge
    leaving frame c u = record { kind = Left; spot = Some (Local frame c); value = Some u; from = (local_origin setting.program setting.plan (seen_at seens p) p k (j + 1) frame c).found }

    left_little : (frame : ℕ) (cs : List ℕ) (vs : List ℤ) → ((e : FlowEdge) → In e (left_edges setting.program setting.plan (seen_at seens p) p k j frame cs vs).found → In e es)
        → steps (of_process p (left_edges setting.program setting.plan (seen_at seens p) p k j frame cs vs).replays) ≤ length (left_edges setting.program setting.plan (seen_at seens p) p k j frame cs vs).found * (N + N)
    left_little frame [] vs all = omega arith
    left_little frame (c ∷ cs) [] all = omega arith
    left_little frame (c ∷ cs) (u ∷ vs) all =
        let one : steps (of_process p (local_origin setting.program setting.plan (seen_at seens p) p k (j + 1) frame c).replays) ≤ N + N =
        subst (λ (s : Seen). steps (of_process p (local_origin setting.program setting.plan s p k (j + 1) frame c).replays) ≤ N + N) (sym seen_is)
        (local_little setting h p k j x there es edges_are tree F stands i at c (j + 1) frame (leaving frame c u) (all (leaving frame c u) first_in) (ap (λ (s : Seen). (local_origin setting.program setting.plan s p k (j + 1) frame c).found) seen_is)) in
        let rest = left_little frame cs vs (λ e q. all e (later_in q)) in
        let sum = parts_steps xs p (local_origin setting.program setting.plan (seen_at seens p) p k (j + 1) frame c).replays (left_edges setting.program setting.plan (seen_at seens p) p k j frame cs vs).replays in
        subst (λ s. s ≤ suc (length (left_edges setting.program setting.plan (seen_at seens p) p k j frame cs vs).found) * (N + N)) (sym sum)
        (one_times (steps (of_process p (local_origin setting.program setting.plan (seen_at seens p) p k (j + 1) frame c).replays)) (steps (of_process p (left_edges setting.program setting.plan (seen_at seens p) p k j frame cs vs).replays))
        (length (left_edges setting.program setting.plan (seen_at seens p) p k j frame cs vs).found) (N + N) one rest)

    -- these and one more
    pub and_one : (a b n : ℕ) → a ≤ n * (N + N) → b ≤ N + N → a + b ≤ (n + 1) * (N + N)
    and_one a b n l l' = both_times a b n 1 (N + N) l (let o = one_times b 0 0 (N + N) l' (omega arith) in omega (arith, o))

    abbrev brought : ℕ → ℤ → FlowEdge
    brought m u = record { kind = Returned; spot = None; value = Some u; from = (last_item (seen_at seens p) p m).found }

    returned : (m : ℕ) (u : ℤ) (vs : List ℤ) → (returned_edges (seen_at seens p) p m (u ∷ vs)).found ++ bare_edge Control (origin.Item p k (j - 1)) ∷ [] ≡ es → steps (of_process p (returned_edges (seen_at seens p) p m (u ∷ vs)).replays) ≤ length es * (N + N)
    returned m u vs are =
        let a = origin_little setting h v p k j x there es edges_are p m (length (get_or (seen_at seens p).items m []) - 1) (brought m u) (subst (λ z. In (brought m u) z) are first_in) refl in
        let one = and_one (steps (of_process p (m ∷ []))) 0 1 (alone (steps (of_process p (m ∷ []))) a) (omega arith) in
        subst (λ l. steps (of_process p (m ∷ [])) ≤ length l * (N + N)) are (omega (arith, one))

    pub nested_little : (m b : ℕ) (vs : List ℤ) (kind : BlockKind) → (edges_of_nested setting.program setting.plan (seen_at seens p) p k j m b vs kind).found ≡ es
        → steps (of_process p (edges_of_nested setting.program setting.plan (seen_at seens p) p k j m b vs kind).replays) ≤ length es * (N + N)
    nested_little m b vs (block.Loop l) are =
        let frame : ℕ = frame_at setting.program setting.plan (seen_at seens p) k j in
        let ls : List FlowEdge = (left_edges setting.program setting.plan (seen_at seens p) p k j frame (postlog_cells setting.plan b) vs).found in
        let last : FlowEdge = bare_edge Control (control_origin setting.program setting.plan (seen_at seens p) p k j l).found in
        let a = left_little frame (postlog_cells setting.plan b) vs (λ e q. subst (λ z. In e z) are (in_left e ls (last ∷ []) q)) in
        let c = control_here l in
        let sum = parts_steps xs p (left_edges setting.program setting.plan (seen_at seens p) p k j frame (postlog_cells setting.plan b) vs).replays (control_origin setting.program setting.plan (seen_at seens p) p k j l).replays in
        let long : length es ≡ length ls + 1 = sym (ap length are) ∙ length-append ls (last ∷ []) in
        subst (λ n. steps (of_process p (edges_of_nested setting.program setting.plan (seen_at seens p) p k j m b vs (block.Loop l)).replays) ≤ n * (N + N)) (sym long)
        (subst (λ s. s ≤ (length ls + 1) * (N + N)) (sym sum) (and_one _ _ (length ls) a c))
    nested_little m b [] (block.Function g) are = omega arith
    nested_little m b [] (block.Process g) are = omega arith
    nested_little m b (u ∷ vs) (block.Function g) are = returned m u vs are
    nested_little m b (u ∷ vs) (block.Process g) are = returned m u vs are
