-- Where an edge with a step ends: the interval there and those round it are open in the edge.
use Rattle.ppd_model.specs.Setting.{Setting}
use Rattle.law_flow.proofs.Costs.Steps.Lasting.{Holds, are_begun}
use Rattle.law_flow.proofs.Costs.Steps.Moments.{cut_at, none_both}
use Rattle.law_flow.proofs.Costs.Steps.Open.{IsUnleft, open_if, tiled_unleft, unclosed}
use Rattle.law_flow.proofs.Costs.Steps.Prefixes.{IsHome, all_is, edge_of_step, home, runs_open, upto_long, zero_runs}
use Rattle.law_flow.proofs.Edges.Back.Walks.{items_are}
use Rattle.law_flow.proofs.Edges.LogPlaces.EdgeEnds.{EndsAt, at_sync, ending_is, place_of_event}
use Rattle.law_flow.proofs.Edges.LogPlaces.EdgePlaces.{first_edge_is, none_is}
use Rattle.law_flow.proofs.Edges.LogPlaces.Innermost.{innermost_is, innermost_none}
use Rattle.law_flow.proofs.Edges.Sources.InEdges.{sync_event}
use Rattle.law_flow.proofs.Edges.Sources.Members.{in_cases, no_member}
use Rattle.law_flow.proofs.Edges.Spans.Facts.{Logged, OpensAt, at, count_to, syncs}
use Rattle.law_flow.proofs.Edges.Spans.Tiles.{Stands, Tiles, outermost}
use Rattle.law_flow.proofs.Edges.Spans.Told.{AreTiled, IsPlaced, at_last, stands_of, syncs_last}
use Rattle.law_flow.proofs.Edges.StepEvents.Marks.{length_is}
use Rattle.law_flow.proofs.Edges.StepEvents.Processes.{Facts}
use Rattle.law_flow.proofs.Edges.StepEvents.Timeline.{cut_once, did}
use Rattle.law_flow.proofs.Edges.StepEvents.Writers.{AreNone, HasEvent, ev_at, ev_count, syncs_both, syncs_none}
use Rattle.law_flow.specs.Edges.Near.{IsOpenAt}
use Rattle.law_steps.proofs.StaticEdges.SharedCells.Writers.{events_in}
use Rattle.ppd_ast.specs.Valid.{IsValid}
use Rattle.ppd_model.specs.declared.entry.Entry.{Entry}
use Rattle.ppd_model.specs.declared.entry.Entry.TheVariants as entry
use Rattle.ppd_graph.specs.Ends.{end_interval, end_item, ending, first_edge, innermost_from, sync_item}
use Rattle.ppd_graph.specs.Seen.{seen_of}
use Rattle.ppd_model.proofs.ExtentWords.{Extending}
use Rattle.ppd_model.proofs.EdgeWords.{part_in}
use Rattle.ppd_model.proofs.Items.{items_whole}
use Rattle.ppd_model.proofs.Tested.{In}
use Rattle.ppd_model.specs.Extents.{extents}
use Rattle.ppd_model.specs.FlowbackEdges.{part_at}
use Rattle.ppd_model.specs.Intervals.{Part, Span, Split, item_of, own, splits}
use Rattle.ppd_model.specs.Items.{IsReferred}
use Rattle.ppd_model.specs.Logs.{closed_logs}
use Rattle.ppd_model.specs.NearIntervals.{is_open_in}
use Rattle.ppd_model.specs.RecordedSets.{RecordsAccesses, set_in, last_edge}
use Rattle.ppd_model.specs.Story.{story, told}
use Rattle.ppd_model.specs.Synchronizations.{sync_of}
use Rattle.ppd_model.specs.declared.trace.TracedEvent.{TracedEvent}
use Rattle.ppd_model.specs.declared.tracing.Taken.{Taken}
use Rattle.ppd_sem.specs.Described.{is_event}
use Rattle.std.proofs.Common.{List, None, Some, [], ap, ap₂, arith, false, inl, inr, length, refl, subst, sym, true, ℕ, ◌++◌, ◌+◌, ◌<◌, ◌∙◌, ◌∷◌, ◌≡◌, ◌≤◌}
use Rattle.std.proofs.lemmas.Bool.{cases_lt}
use Rattle.std.proofs.lemmas.List.{append-nil}
use Rattle.std.specs.List.{flat_map}
use Rattle.std.specs.Prelude.{filter_map, get_or, is_some, slice_get}

-- edge e ends at event n or after all events, at this place; all that is round the place is open in the edge
pub record IsEnd (setting : Setting) (h : List ℕ) (q : ℕ) (x : Split) (e : ℕ) : Type 0 where
  pub interval : ℕ
  pub span : Span
  pub there : slice_get x.spans interval ≡ Some span
  pub first : ℕ
  pub before : List Part
  pub after : List Part
  pub parts_are : span.parts ≡ before ++ after
  pub event : ℕ
  pub tiles : Tiles (Logged (get_or (closed_logs setting h).lists q []) x.trace.events) x.spans interval first before event
  pub stands : Stands (Logged (get_or (closed_logs setting h).lists q []) x.trace.events) x.spans interval span.round first
  pub within : event ≤ length x.trace.events
  pub count : count_to x.trace.events event ≡ e
  pub interval_is : end_interval (get_or (closed_logs setting h).lists q []) e ≡ interval
  pub item_is : end_item (get_or (closed_logs setting h).lists q []) (seen_of x) e ≡ length before
  pub opens : (z : ℕ) → In z (interval ∷ span.round) → IsOpenAt x e z

module _ (setting : Setting) (h : List ℕ) (v : IsValid setting.program) (q : ℕ) (x : Split) (f : Facts setting h v q x) where
  abbrev entries : List Entry
  entries = get_or (closed_logs setting h).lists q []

  abbrev events : List TracedEvent
  events = x.trace.events

  abbrev F : ℕ → ℕ → ℕ → Type 0
  F = Logged (get_or (closed_logs setting h).lists q []) x.trace.events

  abbrev r : RecordsAccesses (story setting h) q (get_or (closed_logs setting h).lists q [])
  r = f.records

  abbrev reads : List ℕ
  reads = set_in (story setting h) q (last_edge (story setting h) q) false

  abbrev writes : List ℕ
  writes = set_in (story setting h) q (last_edge (story setting h) q) true

  abbrev stop : Entry
  stop = entry.End r.status r.rest reads writes

  -- by a synchronization
  pub sync_end : (done : List Taken) (y : Taken) (rest : List Taken) → did (told setting h) q ≡ done ++ y ∷ rest → is_some (sync_of y) ≡ true
      → IsEnd setting h q x (length (filter_map sync_of done))
  sync_end done y rest e is =
      let finishes : is_event y.need ≡ true = sync_event y is in
      let ev : HasEvent setting h v q x f done y = ev_at setting h v q x f done y rest e finishes in
      let ends : EndsAt x entries (count_to events (events_in done)) (events_in done) =
      at_sync x entries f.told_by r.before r.status r.rest reads writes r.entries_are r.no_end (events_in done) (ev.is_sync ∙ is) in
      let count : count_to events (events_in done) ≡ length (filter_map sync_of done) = ev_count setting h v q x f done (y ∷ rest) e in
      let m : IsHome setting h v q x f done = home setting h v q x f done y rest e finishes in
      let placed : part_at x m.interval m.place ≡ Some (own (events_in done)) = ap (λ o. part_in o m.place) m.there ∙ m.part in
      let o : IsReferred (splits setting (story setting h)) x q (events_in done) = (items_whole setting h q x v f.there).events (events_in done) ev.within in
      let a = o.placed.once (end_interval entries (count_to events (events_in done))) (end_item entries (seen_of x) (count_to events (events_in done))) ends.there in
      let b = o.placed.once m.interval m.place placed in
      let p = place_of_event x entries f.told_by m.interval m.place (events_in done) m.span m.there m.part ev.within in
      let lt = ev.within in
      record {
        interval = m.interval;
        span = m.span;
        there = m.there;
        first = p.0.first;
        before = p.1;
        after = own (events_in done) ∷ p.2;
        parts_are = p.3;
        event = events_in done;
        tiles = p.5;
        stands = p.0.stands;
        within = omega (arith, lt);
        count = count;
        interval_is = ap (end_interval entries) (sym count) ∙ a.0 ∙ sym b.0;
        item_is = ap (end_item entries (seen_of x)) (sym count) ∙ a.1 ∙ sym b.1 ∙ sym p.4;
        opens = λ z i. runs_open setting h v q x f done y rest e z
            (subst (λ ks. In z ks) (sym m.runs) (subst (λ l. In z (m.interval ∷ l)) m.round i));
      }

  -- ---- the last edge, by a step of it

  module _ (done : List Taken) (y : Taken) (mid : List Taken) (are : did (told setting h) q ≡ done ++ y ∷ mid) (plain : sync_of y ≡ None) (still : AreNone mid) (finishes : is_event y.need ≡ true) where
    abbrev e : ℕ
    e = length (filter_map sync_of done)

    total : count_to x.trace.events (length x.trace.events) ≡ length (filter_map sync_of done)
    total =
        let all : did (told setting h) q ≡ (done ++ y ∷ mid) ++ [] = are ∙ sym (append-nil (done ++ y ∷ mid)) in
        let counted : count_to x.trace.events (events_in (done ++ y ∷ mid)) ≡ length (filter_map sync_of (done ++ y ∷ mid)) = ev_count setting h v q x f (done ++ y ∷ mid) [] all in
        let long : events_in (done ++ y ∷ mid) ≡ length x.trace.events =
        ap events_in (sym are) ∙ sym (length_is setting (story setting h) q (did (told setting h) q) f.steps_own f.steps_numbered (did (told setting h) q)) ∙ ap length (sym f.events_are) in
        let none : length (filter_map sync_of (y ∷ mid)) ≡ 0 = syncs_none (y ∷ mid) (plain, still) in
        let sum : length (filter_map sync_of (done ++ y ∷ mid)) ≡ length (filter_map sync_of done) + length (filter_map sync_of (y ∷ mid)) = syncs_both done (y ∷ mid) in
        ap (count_to x.trace.events) (sym long) ∙ (let z : count_to x.trace.events (events_in (done ++ y ∷ mid)) ≡ length (filter_map sync_of done) = omega (arith, counted, none, sum) in z)

    last_count : syncs r.before ≡ count_to x.trace.events (length x.trace.events)
    last_count =
        let z : syncs r.before + 0 ≡ syncs r.before = omega arith in
        sym z ∙ sym (ap syncs r.entries_are ∙ syncs_last r.before stop) ∙ f.told_by.count

    last_ending : ending (length (filter_map sync_of done)) entries ≡ length r.before
    last_ending = ap₂ (λ a es. ending a es) (sym total ∙ sym last_count) r.entries_are ∙ ending_is r.before stop [] refl r.no_end

    last_running : (at r.before).running ≡ x.running
    last_running = sym (ap (λ (w : Extending). w.running) (ap at r.entries_are ∙ at_last r.before stop)) ∙ f.told_by.same

    -- an interval that was opened before the step, or after it in the same edge, and runs at the end
    below : (i : Span) (m : ℕ) → slice_get x.spans m ≡ Some i → length done < i.opened → i.opened < length x.edges
    below i m g lt =
        let b = are_begun setting.program setting.plan (story setting h) q setting.budget (did (told setting h) q) m i (subst (λ (w : Split). slice_get w.spans m ≡ Some i) (sym (all_is setting h v q x f)) g) in
        elim b [
          | inl o ↦ absurd (omega (arith, o, lt))
          | inr under ↦ subst (λ (w : Split). i.opened < length w.edges) (all_is setting h v q x f) under
        ]

    later : (i : Span) → IsUnleft i → length done < i.opened → i.opened < length x.edges → is_open_in x (length (filter_map sync_of done)) i ≡ true
    later i unleft lt under =
        let long : length x.edges ≡ length (did (told setting h) q) =
        ap (λ (w : Split). length w.edges) (sym (all_is setting h v q x f)) ∙ upto_long setting h v q x f (did (told setting h) q) in
        let c = cut_at (did (told setting h) q) i.opened (omega (arith, long, under)) in
        let number = c.4 in
        let o = cut_once done y mid c.0 (c.1 ∷ c.2) (sym are ∙ c.3) (omega (arith, number, lt)) in
        let none : length (filter_map sync_of (y ∷ o.0)) ≡ 0 = syncs_none (y ∷ o.0) (plain, none_both o.0 (c.1 ∷ c.2) (subst AreNone o.2 still)) in
        let sum : length (filter_map sync_of (done ++ y ∷ o.0)) ≡ length (filter_map sync_of done) + length (filter_map sync_of (y ∷ o.0)) = syncs_both done (y ∷ o.0) in
        let same : length (filter_map sync_of c.0) ≡ length (filter_map sync_of done) = ap (λ l. length (filter_map sync_of l)) o.1 ∙ (let z : length (filter_map sync_of (done ++ y ∷ o.0)) ≡ length (filter_map sync_of done) = omega (arith, none, sum) in z) in
        open_if x.edges i i.opened (length (filter_map sync_of done)) (omega arith) (λ w g. absurd (unclosed i unleft w g))
        (ap (λ k. slice_get x.edges k) (sym c.4) ∙ edge_of_step setting h v q x f c.0 c.1 c.2 c.3 ∙ ap (λ k. Some k) same)

    open_running : (z : ℕ) → In z x.running → IsOpenAt x (length (filter_map sync_of done)) z
    open_running z i =
        let u : Holds IsUnleft x.spans z = tiled_unleft entries events x.spans x.running (length x.trace.events) f.told_by.tiled z i in
        record {
          span = u.0;
          is_there = u.1;
          is_open = elim (cases_lt (length done) u.0.opened) [
            | inr le ↦ open_if x.edges u.0 (length done) (length (filter_map sync_of done)) le (λ w g. absurd (unclosed u.0 u.2 w g)) (edge_of_step setting h v q x f done y mid are)
            | inl lt ↦ later u.0 u.2 lt (below u.0 z u.1 lt)
          ];
        }

    interval_by : (k : ℕ) → innermost_from (length r.before) 0 0 (extents (r.before ++ ([] ++ stop ∷ []))) ≡ k → end_interval entries (length (filter_map sync_of done)) ≡ k
    interval_by k g = ap (λ n. innermost_from n 0 0 (extents entries)) last_ending ∙ ap (λ es. innermost_from (length r.before) 0 0 (extents es)) r.entries_are ∙ g

    item_by : (k first : ℕ) (i : Span) → end_interval entries (length (filter_map sync_of done)) ≡ k → slice_get x.spans k ≡ Some i → OpensAt entries events k first → Tiles F x.spans k first i.parts (length x.trace.events)
        → end_item entries (seen_of x) (length (filter_map sync_of done)) ≡ length i.parts
    item_by k first i interval there opened tiles =
        ap (λ z. sync_item entries (length (filter_map sync_of done)) (first_edge entries z) (get_or (seen_of x).items z [])) interval
        ∙ ap₂ (λ a l. sync_item entries (length (filter_map sync_of done)) a l) (first_edge_is entries events k first opened) (items_are x 0 F k i there)
        ∙ ap (λ n. sync_item entries n (count_to events first) (flat_map (item_of x) i.parts)) (sym total)
        ∙ none_is x entries k first i.parts (length x.trace.events) tiles (omega arith)

    outer_first : (i : Span) (p : IsPlaced entries events x.spans 0 i) → i.round ≡ [] → p.first ≡ 0
    outer_first i p g = by (subst (λ l. Stands F x.spans 0 l p.first) g p.stands)
      where
        by : Stands F x.spans 0 [] p.first → p.first ≡ 0
        by (outermost a b) = b

    pub last_end : IsEnd setting h q x (length (filter_map sync_of done))
    last_end = cases x.running refl f.told_by.tiled
      where
        cases : (ks : List ℕ) → x.running ≡ ks → AreTiled entries events x.spans ks (length x.trace.events) → IsEnd setting h q x (length (filter_map sync_of done))
        cases [] g t =
            let p : IsPlaced entries events x.spans 0 t.span = f.told_by.placed 0 t.span t.there in
            let z : p.first ≡ 0 = outer_first t.span p t.round in
            let interval : end_interval entries (length (filter_map sync_of done)) ≡ 0 = interval_by 0 (innermost_none r.before [] r.status r.rest reads writes (last_running ∙ g)) in
            record {
              interval = 0;
              span = t.span;
              there = t.there;
              first = 0;
              before = t.span.parts;
              after = [];
              parts_are = sym (append-nil t.span.parts);
              event = length x.trace.events;
              tiles = t.parts;
              stands = subst (λ k. Stands F x.spans 0 t.span.round k) z p.stands;
              within = omega arith;
              count = total;
              interval_is = interval;
              item_is = item_by 0 0 t.span interval t.there (subst (λ k. OpensAt entries events 0 k) z p.opened) t.parts;
              opens = λ w i. elim (in_cases w 0 t.span.round i) [
                | inl same ↦ subst (λ k. IsOpenAt x (length (filter_map sync_of done)) k) (sym same) (runs_open setting h v q x f done y mid are 0 (zero_runs setting h v q x f done y mid are finishes))
                | inr more ↦ absurd (no_member (subst (λ l. In w l) t.round more))
              ];
            }
        cases (m ∷ ks) g t =
            let interval : end_interval entries (length (filter_map sync_of done)) ≡ m = interval_by m (innermost_is r.before [] r.status r.rest reads writes m ks (last_running ∙ g)) in
            record {
              interval = m;
              span = t.span;
              there = t.there;
              first = t.first;
              before = t.span.parts;
              after = [];
              parts_are = sym (append-nil t.span.parts);
              event = length x.trace.events;
              tiles = t.parts;
              stands = subst (λ l. Stands F x.spans m l t.first) (sym t.round) (stands_of entries events x.spans m ks t.first t.around);
              within = omega arith;
              count = total;
              interval_is = interval;
              item_is = item_by m t.first t.span interval t.there t.opened t.parts;
              opens = λ w i. open_running w (subst (λ l. In w l) (sym g) (subst (λ l. In w (m ∷ l)) t.round i));
            }
