-- What is found of an item by logs, their races and replays of cut logs is what is to be answered.
use Rattle.law_steps.specs.Policies.{setting_by}
use Rattle.ppd_model.specs.Setting.{setting_of}
use Rattle.law_clean.proofs.CleanItems.{IsIn, IsOwn, at', event_found, event_placed, inside_found, inside_placed, left_own, own_state}
use Rattle.law_clean.proofs.EdgeEnds.{EndsEdge, edge_ends, edge_own}
use Rattle.law_clean.proofs.FullEdges.{clean_edges_found}
use Rattle.law_clean.proofs.Items.{closed_stays, event_kept, part_kept, span_kept}
use Rattle.law_clean.proofs.PastRaces.{both, edge_of_race, either, grows_to, has_unclean, leads_unclean, race_of_edge, unclean_has}
use Rattle.law_clean.proofs.PastWords.{first_item}
use Rattle.law_clean.proofs.Places.{begun_later, begun_left, count_all, item_there, left_all, no_item_there}
use Rattle.law_clean.proofs.Prefixes.{edge_same}
use Rattle.law_clean.proofs.Ranges.{IsFirst, NonePasses, first_between, is_first, is_none}
use Rattle.law_clean.proofs.Reached.{total_syncs}
use Rattle.law_clean.proofs.SeenCut.{has_split, one_of}
use Rattle.law_clean.specs.Answers.{CleanOr, answer_of, by_part, clean, is_reached, no_item, unclean, unclean_or}
use Rattle.law_clean.specs.Pasts.{Lies, any_raced, first_raced, is_clean, is_past, is_same_edge, left_edge, lies}
use Rattle.law_clean.specs.Search.{by_first, by_item, clean_by, edge_of_item, from_first, is_unclean, leads_from_race, seens, with_edges}
use Rattle.law_flow.proofs.Places.LeafTells.{split_is}
use Rattle.law_flow.proofs.Edges.LogPlaces.EdgeEnds.{IsAt, at_place}
use Rattle.law_flow.proofs.Edges.LogPlaces.EdgePlaces.{count_below}
use Rattle.law_flow.proofs.Edges.Near.Nearby.{counted}
use Rattle.law_flow.proofs.Edges.Near.Tree.{IsParent, IsTree, has_tree}
use Rattle.law_flow.proofs.Edges.PartItems.{first_of, item_if}
use Rattle.law_flow.proofs.Edges.Spans.Facts.{count_to, syncs}
use Rattle.law_flow.proofs.Edges.Spans.Told.{IsPlaced}
use Rattle.law_flow.proofs.Edges.StepEvents.Processes.{Facts, facts}
use Rattle.law_flow.proofs.Edges.StepEvents.Timeline.{none_did}
use Rattle.law_flow.proofs.Edges.StepEvents.Writers.{edge_is_count}
use Rattle.law_flow.proofs.Vocabulary.Events.{synchronizes}
use Rattle.law_flow.specs.Edges.SharedEdges.{all_seen}
use Rattle.ppd_ast.proofs.ValidLaws.{slice_get_below, slice_get_there as get_there}
use Rattle.ppd_ast.specs.Valid.{IsValid}
use Rattle.ppd_ast.specs.declared.plan.Plan.{Plan}
use Rattle.ppd_ast.specs.declared.plan.Policy.{Policy}
use Rattle.ppd_ast.specs.declared.program.Program.{Program}
use Rattle.ppd_blocks.specs.Blocks.{plan_of}
use Rattle.ppd_model.specs.declared.entry.Entry.{Entry}
use Rattle.ppd_model.specs.declared.entry.Logs.{Logs}
use Rattle.ppd_graph.specs.Ends.{edge_at, first_edge, is_sync_item}
use Rattle.ppd_graph.specs.Found.{found_edges}
use Rattle.ppd_graph.specs.Seen.{Seen, seen_of}
use Rattle.ppd_graph.specs.Shared.{seen_at}
use Rattle.ppd_model.proofs.Accesses.{record_at}
use Rattle.ppd_model.proofs.Changes.{some}
use Rattle.ppd_model.proofs.EdgeWords.{edges_if, edges_in, part_in}
use Rattle.ppd_model.proofs.Forward.{records_closed}
use Rattle.ppd_model.proofs.IntervalWords.{item_of_event, item_of_span}
use Rattle.ppd_model.proofs.Items.{items_whole}
use Rattle.ppd_model.proofs.RecordedSyncs.{record_syncs}
use Rattle.ppd_model.proofs.Tested.{tests_before, tests_edges}
use Rattle.ppd_model.specs.FlowbackEdges.{edges, edges_of_event, edges_of_nested as model_edges_of_nested, part_at}
use Rattle.ppd_model.specs.Forward.{edge_in}
use Rattle.ppd_model.specs.HappenedBefore.{Before, EdgeBefore, across, earlier, edge, is_before, is_edge_before, node}
use Rattle.ppd_model.specs.Intervals.{Part, Span, Split, item_of, nested, own, splits}
use Rattle.ppd_model.specs.Items.{HasWholeItems}
use Rattle.ppd_model.specs.Logs.{closed_logs}
use Rattle.ppd_model.specs.NearIntervals.{edge_of_event}
use Rattle.ppd_model.specs.Races.{races}
use Rattle.ppd_model.specs.Record.{sync_record}
use Rattle.ppd_model.specs.RecordedSets.{record_in, sync_in}
use Rattle.ppd_model.specs.Schedule.{IsWhole, run}
use Rattle.ppd_model.specs.Story.{moment_of, story, told}
use Rattle.ppd_model.specs.Synchronizations.{Sync, sync_of}
use Rattle.ppd_model.specs.declared.flow.FlowEdge.{FlowEdge}
use Rattle.ppd_model.specs.declared.flow.Item.{Item}
use Rattle.ppd_model.specs.declared.flow.Item.TheVariants as item
use Rattle.ppd_model.specs.declared.graph.Race.{Race}
use Rattle.ppd_model.specs.declared.trace.TracedEvent.{TracedEvent}
use Rattle.ppd_model.specs.declared.tracing.Story.{Story}
use Rattle.ppd_sem.specs.declared.event.Event.{Event}
use Rattle.std.proofs.Common.{Bool, List, None, Ok, Option, Some, [], ap, ap₂, arith, eqb-true, false, if◌then◌else◌, inl, inr, length, refl, subst, suc, sym, true, true≢false, zero, ℕ, ◌&&◌, ◌++◌, ◌+◌, ◌<◌, ◌||◌, ◌∙◌, ◌∷◌, ◌≡◌, ◌≤◌, ◌⊎◌}
use Rattle.std.proofs.lemmas.Bool.{cases_eq, cases_lt, false_from_ne_true, le-leb, leb-false, leb-true, or_left, or_right}
use Rattle.std.proofs.lemmas.Option.{none-some}
use Rattle.std.specs.Option.{option_map_or}
use Rattle.std.specs.Prelude.{filter_map, find, get_or, is_some, nat_le, option_and_then, option_map, option_to_list, slice_get, unwrap_or}

not_both : (a b : Bool) → a ≡ true → (a && b) ≡ false → b ≡ false
not_both true b e f = f
not_both false b e f = absurd (true≢false (sym e))

neither : (a b : Bool) → (a || b) ≡ false → (a ≡ false) × (b ≡ false)
neither true b e = absurd (true≢false e)
neither false b e = (refl, e)

module _ (program : Program) (policy : Policy) (budget : ℕ) (h : List ℕ) (p k j : ℕ) (y : Split) (i0 : Span) (v : IsValid program) (whole : IsWhole (setting_by program policy budget) h)
    (at : slice_get (splits (setting_by program policy budget) (story (setting_by program policy budget) h)) p ≡ Some y)
    (at_k : slice_get y.spans k ≡ Some i0)
    (there : p < length (story (setting_by program policy budget) h).steps) where
  abbrev plan : Plan
  plan = plan_of program policy

  abbrev s : Story
  s = story (setting_of program plan budget) h

  abbrev Rec : List (List Sync)
  Rec = sync_record (setting_of program plan budget) h

  abbrev Rs : List Race
  Rs = races (setting_of program plan budget) h

  abbrev logs : Logs
  logs = closed_logs (setting_of program plan budget) h

  abbrev entries : List Entry
  entries = get_or logs.lists p []

  abbrev far : ℕ
  far = edge_in (setting_of program plan budget) h p

  abbrev begun : ℕ
  begun = first_edge (get_or logs.lists p []) k

  far_is : edge_in (setting_of program plan budget) h p ≡ length (filter_map sync_of (get_or s.steps p []))
  far_is = ap length (record_at s.steps p)

  fy : Facts (setting_of program plan budget) h v p y
  fy = facts (setting_of program plan budget) h v p y at

  y_whole : HasWholeItems (splits (setting_of program plan budget) s) y p
  y_whole = items_whole (setting_of program plan budget) h p y v at

  all_syncs : length (filter_map sync_in (get_or logs.lists p [])) ≡ edge_in (setting_of program plan budget) h p
  all_syncs = total_syncs (setting_of program plan budget) h p y at

  tree : IsTree y.spans y.running
  tree = subst (λ (w : Split). IsTree w.spans w.running) (split_is (setting_of program plan budget) h p y at) (has_tree program plan s p budget (get_or s.steps p []))

  -- ---- edges of items

  begun_le : begun ≤ left_edge (get_or logs.lists p []) k
  begun_le = begun_left (get_or logs.lists p []) k

  left_le : (m : ℕ) → left_edge (get_or logs.lists p []) m ≤ far
  left_le m = let a = left_all (get_or logs.lists p []) m in let b = all_syncs in omega (arith, a, b)

  span_of : (o : Option Span) (n : ℕ) (q : Part) → part_in o n ≡ Some q → (i : Span) × (o ≡ Some i) × (slice_get i.parts n ≡ Some q)
  span_of None n q e = absurd (none-some q e)
  span_of (Some i) n q e = (i, refl, e)

  event_at : (n : ℕ) → n < length y.trace.events → part_at y k j ≡ Some (own n) → edge_at (get_or logs.lists p []) (seen_of y) k j ≡ edge_of_event y n
  event_at n lt place = (at_place y (get_or logs.lists p []) fy.told_by k j n place lt).edge ∙ sym (counted y.trace.events n)

  event_le : (n : ℕ) → edge_of_event y n ≤ far
  event_le n =
      let a : edge_of_event y n ≡ count_to y.trace.events n = counted y.trace.events n in
      let b = count_all y.trace.events n in
      let c : syncs entries ≡ count_to y.trace.events (length y.trace.events) = fy.told_by.count in
      let d = all_syncs in
      omega (arith, a, b, c, d)

  event_begun : (n : ℕ) → n < length y.trace.events → part_at y k j ≡ Some (own n) → begun ≤ edge_of_event y n
  event_begun n lt place = let e : first_edge (get_or logs.lists p []) k + _ ≡ edge_of_event y n = event_at n lt place in omega (arith, e)

  -- a synchronization is not in the last edge
  sync_le : (n : ℕ) (f : TracedEvent) → slice_get y.trace.events n ≡ Some f → is_some f.event.number ≡ true → edge_of_event y n < far
  sync_le n f is sync =
      let a : edge_of_event y n ≡ count_to y.trace.events n = counted y.trace.events n in
      let b : count_to y.trace.events n < count_to y.trace.events (length y.trace.events) = count_below y.trace.events n (length y.trace.events) f is sync (slice_get_below y.trace.events n f is) in
      let c : syncs entries ≡ count_to y.trace.events (length y.trace.events) = fy.told_by.count in
      let d = all_syncs in
      omega (arith, a, b, c, d)

  inside_begun : (m : ℕ) (i : Span) → part_at y k j ≡ Some (nested m) → slice_get y.spans m ≡ Some i → begun ≤ left_edge (get_or logs.lists p []) m
  inside_begun m i place is =
      let span = span_of (slice_get y.spans k) j (nested m) place in
      let parent : IsParent y.spans k m span.0.round = tree.parent k j m span.0 span.1 span.2 in
      let one : IsPlaced (get_or logs.lists p []) y.trace.events y.spans k span.0 = fy.told_by.placed k span.0 span.1 in
      let two : IsPlaced (get_or logs.lists p []) y.trace.events y.spans m i = fy.told_by.placed m i is in
      let a = begun_later (get_or logs.lists p []) y.trace.events k m one.first two.first one.opened two.opened parent.below in
      let b = begun_left (get_or logs.lists p []) m in
      omega (arith, a, b)

  -- ---- edges whose past has a race

  abbrev Has : ℕ → Bool
  Has i = any_raced (is_past program Rec (edge p i)) Rs

  grown : (e i : ℕ) → e ≤ i → i ≤ far → Has e ≡ true → Has i ≡ true
  grown e i le up h' = let f : edge_in (setting_of program plan budget) h p ≡ length (filter_map sync_of (get_or s.steps p [])) = far_is in grows_to program s p there e i le (omega (arith, up, f)) h'

  -- the first of them from the one in which the interval begins
  abbrev first : Option ℕ
  first = first_raced program Rec Rs (get_or logs.lists p []) p k

  first_none : NonePasses Has begun (far + 1) → first ≡ None
  first_none none = is_none Has begun far none

  first_is : (u : ℕ) → IsFirst Has begun (far + 1) u → first ≡ Some u
  first_is u f = is_first Has begun far u f

  -- no such item, or this edge, where the interval reaches it
  abbrev reached : Option ℕ → CleanOr
  reached z = if is_reached (left_edge (get_or logs.lists p []) k) z then unclean_or p z no_item else no_item

  -- ---- what is to be answered

  abbrev wanted : CleanOr
  wanted = by_part (setting_of program plan budget) h p k j first y (slice_get i0.parts j)

  abbrev by_spans : Split → Option Span → CleanOr
  by_spans x o = option_map_or (λ i. by_part (setting_of program plan budget) h p k j first x (slice_get i.parts j)) o no_item

  answer_is : answer_of (setting_of program plan budget) h p k j ≡ by_part (setting_of program plan budget) h p k j first y (slice_get i0.parts j)
  answer_is = ap (λ (o : Option Split). option_map_or (λ x. by_spans x (slice_get x.spans k)) o no_item) at ∙ ap (by_spans y) at_k

  abbrev here : Part → Lies
  here q = lies (get_or logs.lists p []) y q

  not_clean : (q : Part) → is_clean program s p (here q) ≡ false → by_part (setting_of program plan budget) h p k j first y (Some q) ≡ unclean_or p first no_item
  not_clean q e =
      ap (λ b. if b then first_item (item_of y q) (unwrap_or (edges (setting_of program plan budget) s p k j) []) else unclean_or p first no_item) e

  is_so : (q : Part) → is_clean program s p (here q) ≡ true → by_part (setting_of program plan budget) h p k j first y (Some q) ≡ first_item (item_of y q) (unwrap_or (edges (setting_of program plan budget) s p k j) [])
  is_so q e =
      ap (λ b. if b then first_item (item_of y q) (unwrap_or (edges (setting_of program plan budget) s p k j) []) else unclean_or p first no_item) e

  raced_part : (q : Part) (e : ℕ) → (here q).edge ≡ e → e ≤ far → Has e ≡ true → is_clean program s p (here q) ≡ false
  raced_part q e is le h' =
      let f : edge_in (setting_of program plan budget) h p ≡ length (filter_map sync_of (get_or s.steps p [])) = far_is in
      has_unclean program s p there (here q) (omega (arith, is, le, f)) (subst (λ z. Has z ≡ true) (sym is) h')

  -- a race that leads to the synchronization which ends an edge is in the past of the next edge
  leads_next : (e : ℕ) → e < far → leads_from_race program Rec Rs (edge p e) ≡ true → Has (e + 1) ≡ true
  leads_next e lt leads =
      let f = edge_of_race (λ a. is_before program Rec (node a.process a.edge) (node p e)) Rs leads in
      let b : Before program Rec (node f.0.process f.0.edge) (node p e) = (tests_before program Rec (node f.0.process f.0.edge) (node p e)).0 f.2 in
      race_of_edge (is_past program Rec (edge p (e + 1))) Rs f.0 f.1
      (or_right (is_same_edge f.0 (edge p (e + 1))) (is_edge_before program Rec f.0 (edge p (e + 1))) ((tests_edges program Rec f.0 (edge p (e + 1))).1 (next f.0.process f.0.edge b)))
    where
      next : (q i : ℕ) → Before program Rec (node q i) (node p e) → EdgeBefore program Rec (edge q i) (edge p (e + 1))
      next q i b = elim (cases_eq q p) [
        | inr apart ↦ across apart e refl b
        | inl same ↦
            let none : edge_in (setting_of program plan budget) [] p ≡ 0 = edge_is_count (setting_of program plan budget) [] p ∙ ap (λ ts. length (filter_map sync_of ts)) (none_did program plan budget p) in
            let ends : EndsEdge (setting_of program plan budget) h p e = edge_ends (setting_of program plan budget) h p e lt none in
            let one : length (option_to_list (sync_of (moment_of program plan (told (setting_of program plan budget) ends.before) p).taken)) ≡ 1 = one_of (sync_of (moment_of program plan (told (setting_of program plan budget) ends.before) p).taken) ends.is_sync in
            let grew : edge_in (setting_of program plan budget) (ends.before ++ p ∷ []) p ≡ edge_in (setting_of program plan budget) ends.before p + length (option_to_list (sync_of (moment_of program plan (told (setting_of program plan budget) ends.before) p).taken)) =
            edge_own (setting_of program plan budget) ends.before p ends.there in
            let is : edge_in (setting_of program plan budget) ends.before p ≡ e = ends.edge_is in
            let under : i < edge_in (setting_of program plan budget) (ends.before ++ p ∷ []) q =
            records_closed (setting_of program plan budget) (ends.before ++ p ∷ []) ends.rest whole.last (subst (λ l. run (setting_of program plan budget) l ≡ Some whole.last) ends.schedule_is whole.runs) (node q i) (node p e)
            (subst (λ l. Before program (sync_record (setting_of program plan budget) l) (node q i) (node p e)) ends.schedule_is b) (omega (arith, grew, one, is)) in
            let mine : i < edge_in (setting_of program plan budget) (ends.before ++ p ∷ []) p = subst (λ z. i < edge_in (setting_of program plan budget) (ends.before ++ p ∷ []) z) same under in
            earlier same (omega (arith, mine, grew, one, is))
      ]

  -- ---- where the first edge whose past has a race is one in which the interval begins

  part_of : (q : Part) → part_at y k j ≡ Some q → ((n : ℕ) × (q ≡ own n) × (n < length y.trace.events)) ⊎ ((m : ℕ) × (i : Span) × (q ≡ nested m) × (slice_get y.spans m ≡ Some i))
  part_of (own n) place = let t = item_there y (splits (setting_of program plan budget) s) p k j (own n) y_whole place in by (slice_get y.trace.events n) refl t.2
    where
      by : (o : Option TracedEvent) → slice_get y.trace.events n ≡ o → first_of (item_of_event o) ≡ Some (item_there y (splits (setting_of program plan budget) s) p k j (own n) y_whole place).0
          → ((m : ℕ) × (own n ≡ own m) × (m < length y.trace.events)) ⊎ ((m : ℕ) × (i : Span) × (own n ≡ nested m) × (slice_get y.spans m ≡ Some i))
      by None is f = absurd (none-some _ f)
      by (Some e) is f = inl (n, refl, slice_get_below y.trace.events n e is)
  part_of (nested m) place = let t = item_there y (splits (setting_of program plan budget) s) p k j (nested m) y_whole place in by (slice_get y.spans m) refl t.2
    where
      by : (o : Option Span) → slice_get y.spans m ≡ o → first_of (item_of_span m o) ≡ Some (item_there y (splits (setting_of program plan budget) s) p k j (nested m) y_whole place).0
          → ((n : ℕ) × (nested m ≡ own n) × (n < length y.trace.events)) ⊎ ((n : ℕ) × (i : Span) × (nested m ≡ nested n) × (slice_get y.spans n ≡ Some i))
      by None is f = absurd (none-some _ f)
      by (Some i) is f = inr (m, i, refl, is)

  -- the edge of a part: from the one in which the interval begins to the last
  edge_between : (q : Part) → part_at y k j ≡ Some q → (begun ≤ (here q).edge) × ((here q).edge ≤ far)
  edge_between q place = elim (part_of q place) [
    | inl event ↦
        let place' : part_at y k j ≡ Some (own event.0) = place ∙ ap (λ z. Some z) event.1 in
        (subst (λ z. begun ≤ (here z).edge) (sym event.1) (event_begun event.0 event.2 place'), subst (λ z. (here z).edge ≤ far) (sym event.1) (event_le event.0))
    | inr span ↦
        let place' : part_at y k j ≡ Some (nested span.0) = place ∙ ap (λ z. Some z) span.2 in
        (subst (λ z. begun ≤ (here z).edge) (sym span.2) (inside_begun span.0 span.1 place' span.3), subst (λ z. (here z).edge ≤ far) (sym span.2) (left_le span.0))
  ]

  begins_raced : (u : ℕ) → IsFirst Has begun (far + 1) u → u ≤ begun → (o : Option Part) → slice_get i0.parts j ≡ o → by_part (setting_of program plan budget) h p k j first y o ≡ unclean (edge p u)
  begins_raced u f le None e =
      let a : u ≤ left_edge (get_or logs.lists p []) k = (let b = begun_le in omega (arith, le, b)) in
      ap reached (first_is u f) ∙ ap (λ b. if b then unclean (edge p u) else no_item) (le-leb u (left_edge (get_or logs.lists p []) k) a)
  begins_raced u f le (Some q) e =
      let place : part_at y k j ≡ Some q = ap (λ w. part_in w j) at_k ∙ e in
      let between = edge_between q place in
      let low = between.0 in
      let raced : Has (here q).edge ≡ true = grown u (here q).edge (omega (arith, le, low)) between.1 f.passes in
      not_clean q (raced_part q (here q).edge refl between.1 raced) ∙ ap (λ z. unclean_or p z no_item) (first_is u f)

  -- ---- where it is later, or there is none

  module _ (o : Option ℕ) (inside : (u : ℕ) → o ≡ Some u → u ≤ edge_in (setting_by program policy budget) h p)
      (clear : (e : ℕ) → e ≤ edge_in (setting_by program policy budget) h p → IsIn (edge_in (setting_by program policy budget) h p) o e
      → any_raced (is_past program (sync_record (setting_by program policy budget) h) (edge p e)) (races (setting_by program policy budget) h) ≡ false)
      (pos : (u : ℕ) → o ≡ Some u → 0 < u)
      (raced : (u : ℕ) → o ≡ Some u → IsFirst Has begun (far + 1) u) (none : o ≡ None → NonePasses Has begun (far + 1)) where
    abbrev xs : List Seen
    xs = seens (setting_of program plan budget) logs Rec Rs p k j o

    own_is : IsOwn program policy budget h p k j y v whole at there o inside clear
    own_is = own_state program policy budget h p k j y v whole at there o inside clear o refl pos

    abbrev g : List ℕ
    g = own_is.begun.before

    abbrev rest : List ℕ
    rest = own_is.begun.rest

    abbrev x : Split
    x = own_is.begun.split

    at_y : slice_get (splits (setting_of program plan budget) (story (setting_of program plan budget) (own_is.begun.before ++ own_is.begun.rest))) p ≡ Some y
    at_y = subst (λ l. slice_get (splits (setting_of program plan budget) (story (setting_of program plan budget) l)) p ≡ Some y) own_is.begun.schedule_is at

    entries_same : get_or (closed_logs (setting_of program plan budget) (own_is.begun.before ++ own_is.begun.rest)).lists p [] ≡ get_or logs.lists p []
    entries_same = ap (λ l. get_or (closed_logs (setting_of program plan budget) l).lists p []) (sym own_is.begun.schedule_is)

    kept : (q : Part) → part_at x k j ≡ Some q → part_at y k j ≡ Some q
    kept q e = part_kept program policy budget g rest p v x y own_is.begun.there at_y k j q e

    placed : (q : Part) → part_at y k j ≡ Some q → IsIn far o (here q).edge → part_at x k j ≡ Some q
    placed q place is = elim (part_of q place) [
      | inl event ↦
          subst (λ z. part_at x k j ≡ Some z) (sym event.1)
          (event_placed program policy budget h p k j y v whole at there o inside clear own_is event.0 (place ∙ ap (λ z. Some z) event.1) event.2 (subst (λ z. IsIn far o (here z).edge) event.1 is))
      | inr span ↦
          subst (λ z. part_at x k j ≡ Some z) (sym span.2)
          (inside_placed program policy budget h p k j y v whole at there o inside clear own_is span.0 span.1 (place ∙ ap (λ z. Some z) span.2) span.3 (subst (λ z. IsIn far o (here z).edge) span.2 is))
    ]

    -- how far it was seen
    seen_to : (u : ℕ) → o ≡ Some u → u ≤ edge_in (setting_of program plan budget) own_is.begun.before p
    seen_to u e = elim own_is.kind [
      | inl whole_log ↦ absurd (none-some u (sym whole_log.0 ∙ e))
      | inr found ↦ (let same : found.0 ≡ u = some (sym found.1 ∙ e) in let up = found.2 in omega (arith, same, up))
    ]

    -- an interval that was left before it has all its parts
    all_parts : (u : ℕ) → o ≡ Some u → left_edge (get_or logs.lists p []) k < u → (q : Part) → part_at y k j ≡ Some q → part_at x k j ≡ Some q
    all_parts u e lt q place =
        let l = left_own program policy budget h p k j y v whole at there o inside clear own_is k i0 at_k u e (seen_to u e) (subst (λ z. IsIn far z (left_edge (get_or logs.lists p []) k)) (sym e) lt) in
        let stays : slice_get y.spans k ≡ Some l.0 = closed_stays program policy budget g rest p v x y own_is.begun.there at_y k l.0 l.1 l.2 in
        ap (λ w. part_in w j) (l.1 ∙ sym stays) ∙ place

    late : (q : Part) → part_at y k j ≡ Some q → (u : ℕ) → o ≡ Some u → u ≤ (here q).edge → by_part (setting_of program plan budget) h p k j first y (Some q) ≡ unclean (edge p u)
    late q place u e le =
        let between = edge_between q place in
        let f = raced u e in
        not_clean q (raced_part q (here q).edge refl between.1 (grown u (here q).edge le between.1 f.passes)) ∙ ap (λ z. unclean_or p z no_item) (first_is u f)

    -- ---- no such item by then

    first_o : (z : Option ℕ) → o ≡ z → first ≡ z
    first_o None e = first_none (none e)
    first_o (Some u) e = first_is u (raced u e)

    reach_none : part_at x k j ≡ None → (z : Option ℕ) → o ≡ z → (r : Option Part) → slice_get i0.parts j ≡ r → reached z ≡ by_part (setting_of program plan budget) h p k j first y r
    reach_none gone z e None f = ap reached (sym (first_o z e))
    reach_none gone None e (Some q) f =
        let place : part_at y k j ≡ Some q = ap (λ w. part_in w j) at_k ∙ f in
        absurd (none-some q (sym gone ∙ placed q place (subst (λ z. IsIn far z (here q).edge) (sym e) (edge_between q place).1)))
    reach_none gone (Some u) e (Some q) f =
        let place : part_at y k j ≡ Some q = ap (λ w. part_in w j) at_k ∙ f in
        elim (cases_lt (here q).edge u) [
          | inl lt ↦ absurd (none-some q (sym gone ∙ placed q place (subst (λ z. IsIn far z (here q).edge) (sym e) lt)))
          | inr ge ↦ elim (cases_lt (left_edge (get_or logs.lists p []) k) u) [
            | inl less ↦ absurd (none-some q (sym gone ∙ all_parts u e less q place))
            | inr reach ↦
                ap (λ b. if b then unclean (edge p u) else no_item) (le-leb u (left_edge (get_or logs.lists p []) k) reach) ∙ sym (late q place u e ge)
          ]
        ]

    -- ---- an item

    -- a synchronization is not in the last edge
    ends_before : (q : Part) → part_at y k j ≡ Some q → (here q).ends ≡ true → (here q).edge < far
    ends_before q place ends = elim (part_of q place) [
      | inl event ↦
          let f = get_there y.trace.events event.0 event.2 in
          subst (λ z. (here z).edge < far) (sym event.1) (sync_le event.0 f.0 f.1 (sym (ap (λ (o : Option TracedEvent). is_some (option_and_then (λ e. e.event.number) o)) f.1) ∙ ap (λ z. (here z).ends) (sym event.1) ∙ ends))
      | inr span ↦ absurd (true≢false (sym ends ∙ ap (λ z. (here z).ends) span.2))
    ]

    record IsHere (q : Part) (t : Item) : Type 0 where
      edge_is : edge_of_item (setting_of program plan budget) logs Rec Rs p k j xs t ≡ (here q).edge
      sync_is : is_sync_item t ≡ (here q).ends
      item_is : IsIn far o (here q).edge → item_of y q ≡ t ∷ []

    x_whole : HasWholeItems (splits (setting_of program plan budget) (story (setting_of program plan budget) own_is.begun.before)) own_is.begun.split p
    x_whole = items_whole (setting_of program plan budget) g p x v own_is.begun.there

    is_here : (q : Part) (t : Item) → part_at x k j ≡ Some q → item_if x (Some q) ≡ Some t → IsHere q t
    is_here (own n) t place it = by (slice_get x.trace.events n) refl it
      where
        by : (w : Option TracedEvent) → slice_get x.trace.events n ≡ w → first_of (item_of_event w) ≡ Some t → IsHere (own n) t
        by None is f = absurd (none-some t f)
        by (Some e) is f =
            let l = event_kept program policy budget g rest p v x y own_is.begun.there at_y n e is in
            let same : item.Own e.event ≡ t = some f in
            let event : (l.0).event ≡ e.event = ap (λ (w : TracedEvent). w.event) l.2 in
            let edge : edge_at (get_or logs.lists p []) (seen_at xs p) k j ≡ edge_of_event y n =
            ap (λ z. edge_at (get_or logs.lists p []) z k j) own_is.begun.seen_is
            ∙ edge_same program policy budget g rest p v x y own_is.begun.there at_y (get_or logs.lists p []) k j (own n) place
            ∙ event_at n (slice_get_below y.trace.events n l.0 l.1) (kept (own n) place) in
            record {
              edge_is = ap (edge_of_item (setting_of program plan budget) logs Rec Rs p k j xs) (sym same) ∙ edge;
              sync_is = ap is_sync_item (sym same) ∙ ap (λ (w : Event). is_some w.number) (sym event) ∙ sym (ap (λ (o : Option TracedEvent). is_some (option_and_then (λ e. e.event.number) o)) l.1);
              item_is = λ inn. ap item_of_event l.1 ∙ ap (λ (w : Event). item.Own w ∷ []) event ∙ ap (λ z. z ∷ []) same;
            }
    is_here (nested m) t place it = by (slice_get x.spans m) refl it
      where
        by : (w : Option Span) → slice_get x.spans m ≡ w → first_of (item_of_span m w) ≡ Some t → IsHere (nested m) t
        by None is f = absurd (none-some t f)
        by (Some i) is f =
            let same : item.Nested m i.block i.values (is_some i.closed) ≡ t = some f in
            record {
              edge_is = ap (edge_of_item (setting_of program plan budget) logs Rec Rs p k j xs) (sym same);
              sync_is = ap is_sync_item (sym same);
              item_is = λ inn. ap (item_of_span m) (stays i is inn) ∙ ap (λ z. z ∷ []) same;
            }
          where
            stays : (i : Span) → slice_get x.spans m ≡ Some i → IsIn far o (left_edge (get_or logs.lists p []) m) → slice_get y.spans m ≡ Some i
            stays i is inn = elim own_is.kind [
              | inl whole_log ↦ subst (λ (z : Split). slice_get z.spans m ≡ Some i) whole_log.1 is
              | inr found ↦
                  let at_m = span_kept program policy budget g rest p v x y own_is.begun.there at_y m i is in
                  let l = left_own program policy budget h p k j y v whole at there o inside clear own_is m at_m.0 at_m.1 found.0 found.1 found.2 inn in
                  let one : l.0 ≡ i = some (sym l.1 ∙ is) in
                  ap (λ z. slice_get y.spans z) refl ∙ closed_stays program policy budget g rest p v x y own_is.begun.there at_y m i is (subst (λ (z : Span). is_some z.closed ≡ true) one l.2)
            ]

    -- the edges of a clean item
    module _ (q : Part) (place : part_at y k j ≡ Some q) (inn : IsIn far o (here q).edge) (no : (here q).ends ≡ true → leads_from_race program Rec Rs (edge p (here q).edge) ≡ false) where
      le : (here q).edge ≤ far
      le = (edge_between q place).1

      within : (here q).edge ≤ length (filter_map sync_of (get_or s.steps p []))
      within = let f : edge_in (setting_of program plan budget) h p ≡ length (filter_map sync_of (get_or s.steps p [])) = far_is in let a = le in omega (arith, a, f)

      is_clean_so : is_clean program s p (here q) ≡ true
      is_clean_so = by (is_clean program s p (here q)) refl
        where
          by : (b : Bool) → is_clean program s p (here q) ≡ b → b ≡ true
          by true e = refl
          by false e = elim (unclean_has program s p there (here q) within e) [
            | inl has ↦ absurd (true≢false (sym has ∙ clear (here q).edge le inn))
            | inr leads ↦ absurd (true≢false (sym leads.1 ∙ no leads.0))
          ]

      same_edges : (found_edges program plan logs xs p k j).found ≡ (found_edges program plan logs (all_seen (setting_of program plan budget) h) p k j).found
      same_edges = elim (part_of q place) [
        | inl event ↦
            event_found program policy budget h p k j y v whole at there o inside clear own_is event.0 (place ∙ ap (λ z. Some z) event.1) event.2 (subst (λ z. IsIn far o (here z).edge) event.1 inn) (event_le event.0)
            (λ f is number. (sync_le event.0 f is number, subst (λ z. leads_from_race program Rec Rs (edge p (here z).edge) ≡ false) event.1 (no (ap (λ z. (here z).ends) event.1 ∙ ap (λ (o : Option TracedEvent). is_some (option_and_then (λ e. e.event.number) o)) is ∙ number))))
        | inr span ↦
            inside_found program policy budget h p k j y v whole at there o inside clear own_is span.0 span.1 (place ∙ ap (λ z. Some z) span.2) span.3 (subst (λ z. IsIn far o (here z).edge) span.2 inn)
      ]

      edges_are : (found_edges program plan logs xs p k j).found ≡ option_map (λ es. Ok es) (edges (setting_of program plan budget) s p k j)
      edges_are = same_edges ∙ clean_edges_found program policy budget h whole.last p k j y q v whole.runs at place there within is_clean_so

      some_edges : (es : List FlowEdge) × (edges (setting_of program plan budget) s p k j ≡ Some es)
      some_edges = elim (part_of q place) [
        | inl event ↦
            let f = get_there y.trace.events event.0 event.2 in
            (_, ap (edges_in program plan (splits (setting_of program plan budget) s) k j) at ∙ ap (edges_if program plan (splits (setting_of program plan budget) s) y) (place ∙ ap (λ z. Some z) event.1) ∙ ap (option_map (edges_of_event program (splits (setting_of program plan budget) s))) f.1)
        | inr span ↦
            (_, ap (edges_in program plan (splits (setting_of program plan budget) s) k j) at ∙ ap (edges_if program plan (splits (setting_of program plan budget) s) y) (place ∙ ap (λ z. Some z) span.2) ∙ ap (option_map (model_edges_of_nested plan (splits (setting_of program plan budget) s))) span.3)
      ]

      clean_answer : (t : Item) → item_of y q ≡ t ∷ [] → with_edges (setting_of program plan budget) logs Rec Rs p k j t (found_edges program plan logs xs p k j).found ≡ by_part (setting_of program plan budget) h p k j first y (Some q)
      clean_answer t it =
          let es = some_edges in
          ap (with_edges (setting_of program plan budget) logs Rec Rs p k j t) (edges_are ∙ ap (option_map (λ fs. Ok fs)) es.1)
          ∙ sym (ap₂ (λ ts fs. first_item ts (unwrap_or fs [])) it es.1) ∙ sym (is_so q is_clean_so)

    decide : (q : Part) (t : Item) → part_at y k j ≡ Some q → IsHere q t → (z : Option ℕ) → o ≡ z
        → (if is_unclean (setting_of program plan budget) logs Rec Rs p k j xs z t then unclean_or p z no_item else with_edges (setting_of program plan budget) logs Rec Rs p k j t (found_edges program plan logs xs p k j).found)
        ≡ by_part (setting_of program plan budget) h p k j first y (Some q)
    decide q t place here_is None e =
        let le : (here q).edge ≤ far = (edge_between q place).1 in
        let inn : IsIn far o (here q).edge = subst (λ z. IsIn far z (here q).edge) (sym e) le in
        clean_answer q place inn no_leads t (here_is.item_is inn)
      where
        no_leads : (here q).ends ≡ true → leads_from_race program Rec Rs (edge p (here q).edge) ≡ false
        no_leads ends = false_from_ne_true (leads_from_race program Rec Rs (edge p (here q).edge)) (λ leads.
            let lt = ends_before q place ends in
            true≢false (sym (leads_next (here q).edge lt leads) ∙ clear ((here q).edge + 1) (omega (arith, lt)) (subst (λ z. IsIn far z ((here q).edge + 1)) (sym e) (omega (arith, lt)))))
    decide q t place here_is (Some u) e =
        by (is_unclean (setting_of program plan budget) logs Rec Rs p k j xs (Some u) t) refl
      where
        at_edge : edge_of_item (setting_of program plan budget) logs Rec Rs p k j xs t ≡ (here q).edge
        at_edge = here_is.edge_is

        f : IsFirst Has begun (far + 1) u
        f = raced u e

        by : (b : Bool) → is_unclean (setting_of program plan budget) logs Rec Rs p k j xs (Some u) t ≡ b
            → (if b then unclean (edge p u) else with_edges (setting_of program plan budget) logs Rec Rs p k j t (found_edges program plan logs xs p k j).found) ≡ by_part (setting_of program plan budget) h p k j first y (Some q)
        by true is = elim (either (nat_le u (edge_of_item (setting_of program plan budget) logs Rec Rs p k j xs t)) (is_sync_item t && leads_from_race program Rec Rs (edge p (edge_of_item (setting_of program plan budget) logs Rec Rs p k j xs t))) is) [
          | inl le ↦ sym (late q place u e (let l : u ≤ edge_of_item (setting_of program plan budget) logs Rec Rs p k j xs t = leb-true u (edge_of_item (setting_of program plan budget) logs Rec Rs p k j xs t) le in let a = at_edge in omega (arith, l, a)))
          | inr lead ↦
              let b = both (is_sync_item t) (leads_from_race program Rec Rs (edge p (edge_of_item (setting_of program plan budget) logs Rec Rs p k j xs t))) lead in
              let within : (here q).edge ≤ length (filter_map sync_of (get_or s.steps p [])) = (let w : edge_in (setting_of program plan budget) h p ≡ length (filter_map sync_of (get_or s.steps p [])) = far_is in let a = (edge_between q place).1 in omega (arith, a, w)) in
              sym (not_clean q (leads_unclean program s p there (here q) within (sym here_is.sync_is ∙ b.0) (subst (λ z. leads_from_race program Rec Rs (edge p z) ≡ true) at_edge b.1))
              ∙ ap (λ z. unclean_or p z no_item) (first_is u f))
        ]
        by false is =
            let n = neither (nat_le u (edge_of_item (setting_of program plan budget) logs Rec Rs p k j xs t)) (is_sync_item t && leads_from_race program Rec Rs (edge p (edge_of_item (setting_of program plan budget) logs Rec Rs p k j xs t))) is in
            let lt : edge_of_item (setting_of program plan budget) logs Rec Rs p k j xs t < u = leb-false u (edge_of_item (setting_of program plan budget) logs Rec Rs p k j xs t) n.0 in
            let inn : IsIn far o (here q).edge = subst (λ z. IsIn far z (here q).edge) (sym e) (let a = at_edge in omega (arith, lt, a)) in
            clean_answer q place inn (λ ends. subst (λ z. leads_from_race program Rec Rs (edge p z) ≡ false) at_edge
            (not_both (is_sync_item t) (leads_from_race program Rec Rs (edge p (edge_of_item (setting_of program plan budget) logs Rec Rs p k j xs t))) (here_is.sync_is ∙ ends) n.1)) t (here_is.item_is inn)

    by_place : (w : Option Part) → part_at x k j ≡ w → by_first (setting_of program plan budget) logs Rec Rs p k j o ≡ by_part (setting_of program plan budget) h p k j first y (slice_get i0.parts j)
    by_place None e =
        ap (λ (q : Seen). by_item (setting_of program plan budget) logs Rec Rs p k j o xs (slice_get (get_or q.items k []) j)) own_is.begun.seen_is
        ∙ ap (by_item (setting_of program plan budget) logs Rec Rs p k j o xs) (no_item_there x (splits (setting_of program plan budget) (story (setting_of program plan budget) own_is.begun.before)) p k j x_whole e)
        ∙ reach_none e o refl (slice_get i0.parts j) refl
    by_place (Some q) e =
        let t = item_there x (splits (setting_of program plan budget) (story (setting_of program plan budget) own_is.begun.before)) p k j q x_whole e in
        let place : part_at y k j ≡ Some q = kept q e in
        let is : slice_get i0.parts j ≡ Some q = ap (λ w. part_in w j) (sym at_k) ∙ place in
        ap (λ (z : Seen). by_item (setting_of program plan budget) logs Rec Rs p k j o xs (slice_get (get_or z.items k []) j)) own_is.begun.seen_is
        ∙ ap (by_item (setting_of program plan budget) logs Rec Rs p k j o xs) t.1
        ∙ decide q t.0 place (is_here q t.0 e t.2) o refl
        ∙ ap (by_part (setting_of program plan budget) h p k j first y) (sym is)

    pub by_first_is : by_first (setting_of program plan budget) logs Rec Rs p k j o ≡ by_part (setting_of program plan budget) h p k j first y (slice_get i0.parts j)
    by_first_is = by_place (part_at x k j) refl

  -- ---- all of it

  below_clear : (e top : ℕ) → begun < top → NonePasses Has begun top → e < top → e ≤ far → Has e ≡ false
  below_clear e top lt none under le = elim (cases_lt e begun) [
    | inr ge ↦ none e ge under
    | inl low ↦ false_from_ne_true (Has e) (λ has. true≢false (sym (grown e begun (omega (arith, low)) (let a = begun_le in let b = left_le k in omega (arith, a, b)) has) ∙ none begun (omega arith) lt))
  ]

  begun_far : begun ≤ far
  begun_far = let a = begun_le in let b = left_le k in omega (arith, a, b)

  by_find : from_first (setting_of program plan budget) logs Rec Rs p k j first ≡ by_part (setting_of program plan budget) h p k j first y (slice_get i0.parts j)
  by_find = elim (first_between Has begun far) [
    | inl none ↦
        ap (from_first (setting_of program plan budget) logs Rec Rs p k j) none.0
        ∙ by_first_is None (λ u e. absurd (none-some u e)) (λ e le is. below_clear e (far + 1) (let b = begun_far in omega (arith, b)) none.1 (omega (arith, le)) le)
        (λ u e. absurd (none-some u e)) (λ u e. absurd (none-some u e)) (λ e. none.1)
    | inr found ↦ ap (from_first (setting_of program plan budget) logs Rec Rs p k j) found.1 ∙ by found.0 found.2 (nat_le found.0 begun) refl
  ]
    where
      by : (u : ℕ) → IsFirst Has begun (far + 1) u → (b : Bool) → nat_le u begun ≡ b
          → (if b then unclean (edge p u) else by_first (setting_of program plan budget) logs Rec Rs p k j (Some u)) ≡ by_part (setting_of program plan budget) h p k j first y (slice_get i0.parts j)
      by u f true is = sym (begins_raced u f (leb-true u begun is) (slice_get i0.parts j) refl)
      by u f false is =
          let lt : begun < u = leb-false u begun is in
          let up : u < far + 1 = f.to_is in
          by_first_is (Some u) (λ w e. subst (λ z. z ≤ far) (some e) (omega (arith, up))) (λ e le under. below_clear e u lt f.none under le)
          (λ w e. subst (λ z. 0 < z) (some e) (omega (arith, lt))) (λ w e. subst (λ z. IsFirst Has begun (far + 1) z) (some e) f) (λ e. absurd (none-some u (sym e)))

  pub answered_here : clean_by (setting_of program plan budget) logs Rs p k j ≡ answer_of (setting_of program plan budget) h p k j
  answered_here =
      ap (λ rec. from_first (setting_of program plan budget) logs rec Rs p k j (first_raced program rec Rs (get_or logs.lists p []) p k)) (record_syncs (setting_of program plan budget) h).closed
      ∙ by_find ∙ sym answer_is
