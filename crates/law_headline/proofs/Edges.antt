-- What is told of a run by a schedule without a race are all flowback edges of that schedule.
use Rattle.ppd_model.specs.Setting.{Setting}
use Rattle.ppd_ast.specs.Valid.{IsValid}
use Rattle.ppd_model.specs.declared.flow_error.FlowError.TheVariants.{NoEvent}
use Rattle.ppd_model.proofs.EdgeWords.{edges_if, edges_in, part_in}
use Rattle.ppd_model.proofs.IntervalWords.{items_at, items_in, splits_from}
use Rattle.ppd_model.proofs.TraceWords.{events_from}
use Rattle.ppd_model.specs.FlowbackEdges.{edges, edges_of_event}
use Rattle.ppd_model.specs.FullTrace.{full_trace}
use Rattle.ppd_model.specs.Intervals.{Span, Split, items, items_of, split_of}
use Rattle.ppd_model.specs.Items.{IsReferred, ItemsAreWhole}
use Rattle.ppd_model.specs.Laws.{ProcessesFollowTheirSteps}
use Rattle.ppd_model.specs.Races.{edges_of_story, races_among}
use Rattle.ppd_model.specs.Story.{story}
use Rattle.ppd_model.specs.declared.flow.FlowEdge.{FlowEdge}
use Rattle.ppd_model.specs.declared.flow.Item.{Item}
use Rattle.ppd_model.specs.declared.trace.TracedEvent.{TracedEvent}
use Rattle.ppd_model.specs.declared.tracing.Story.{Story}
use Rattle.ppd_model.specs.declared.tracing.Taken.{Taken}
use Rattle.ppd_model.specs.declared.tracing.Tracing.{Tracing}
use Rattle.ppd_session.proofs.KnownWords.{at_interval, flow_told}
use Rattle.ppd_session.proofs.Tables.{flow_inside, flow_nowhere, flow_past}
use Rattle.ppd_session.specs.Known.{Flow, Known, Told, known_of_run, of_processes, told_of_split, unless_raced}
use Rattle.ppd_session.specs.Laws.{RunsAreAnswered}
use Rattle.ppd_session.specs.Questions.{asked}
use Rattle.ppd_session.specs.Texts.{answer_text, flow_at, flow_text, no_event, races_refusal, text_of, told_at, told_text}
use Rattle.ppd_text.specs.Edges.{why_text}
use Rattle.law_headline.proofs.Tables.{count_in, count_row, told_in, told_in_span, told_row}
use Rattle.law_headline.proofs.Values.{told_as, told_here}
use Rattle.law_headline.specs.Answered.{AreEdgesOf, AsksEdges, HasEdges, HasItsEdges, IsItem, MissesNoEdge, told_if}
use Rattle.law_headline.specs.Runs.{Run, plan_in, splits_in, story_in, setting_in}
use Rattle.std.proofs.Common.{Err, List, Ok, Option, [], ap, arith, get_or, inl, inr, length, lt-ltb, map, nat_lt, refl, suc, sym, true, zero, ℕ, ◌+◌, ◌<◌, ◌∙◌, ◌∷◌, ◌≡◌}
use Rattle.std.proofs.lemmas.Bool.{cases_lt}
use Rattle.std.proofs.lemmas.Option.{none-some, slice_get_past, slice_get_within}
use Rattle.std.specs.Option.{option_map_or, unwrap_or}
use Rattle.std.specs.Prelude.{None, Some, codes, if◌then◌else◌, ok_or, option_map, slice_get}

found : (o : Option (List FlowEdge)) (es : List FlowEdge) → ok_or o NoEvent ≡ Ok es → o ≡ Some es
found None es e = absurd (cc)
found (Some fs) es e = cc

-- an event of a process's trace is one of the process in its intervals
module _ (follow : ProcessesFollowTheirSteps) (setting : Setting) (h : List ℕ) where
  abbrev told_story : Story
  told_story = story setting h

  trace_at : (k p n : ℕ) (e : TracedEvent) (steps : List (List Taken)) → slice_get (get_or (events_from setting told_story k steps) p []) n ≡ Some e
      → (y : Split) × (slice_get (splits_from setting told_story k steps) p ≡ Some y) × (slice_get y.trace.events n ≡ Some e)
  trace_at k p zero e [] is = absurd (none-some e (nowhere p ∙ is))
    where
      nowhere : (p : ℕ) → ◌≡◌ {A = Option TracedEvent} None (slice_get (get_or [] p []) zero)
      nowhere zero = refl
      nowhere (suc p) = refl
  trace_at k p (suc n) e [] is = absurd (none-some e (nowhere p ∙ is))
    where
      nowhere : (p : ℕ) → ◌≡◌ {A = Option TracedEvent} None (slice_get (get_or [] p []) (suc n))
      nowhere zero = refl
      nowhere (suc p) = refl
  trace_at k zero n e (s ∷ rest) is = (
    split_of setting told_story k s,
    refl,
    ap (λ (t : Tracing). slice_get t.events n) ((follow setting h).split told_story k s) ∙ is,
  )
  trace_at k (suc p) n e (s ∷ rest) is = trace_at (k + 1) p n e rest is

module _ (items_whole : ItemsAreWhole) (r : Run) (valid : IsValid r.program) (h : List ℕ) (free : races_among (edges_of_story r.program (story_in r h)) ≡ []) where
  abbrev known : Known
  known = known_of_run (setting_in r) h

  abbrev xs : List Split
  xs = splits_in r h

  abbrev flows : ℕ → ℕ → ℕ → Flow
  flows = flow_told (setting_in r) (story_in r h)

  abbrev edges_at : (p k j : ℕ) → Option (List FlowEdge)
  edges_at p k j = edges (setting_in r) (story_in r h) p k j

  module _ (p k j : ℕ) where
    abbrev rows : List (List Told)
    rows = map told_of_split (splits_in r h)

    table : flow_at known p k j ≡ get_or (get_or (get_or (of_processes flows 0 (map told_of_split (splits_in r h))) p []) k []) j (Err NoEvent)
    table = ap (λ rs. get_or (get_or (get_or (of_processes flows 0 (unless_raced rs (map told_of_split (splits_in r h)))) p []) k []) j (Err NoEvent)) free

    gone : slice_get (get_or (map told_of_split (splits_in r h)) p []) k ≡ None → edges_at p k j ≡ None → flow_at known p k j ≡ ok_or (edges_at p k j) NoEvent
    gone e f = table ∙ (flow_nowhere flows (map told_of_split (splits_in r h)) p k j e ∙ sym (ap (λ o. ok_or o NoEvent) f))

    in_span : (y : Split) → slice_get xs p ≡ Some y → (o : Option Span) → slice_get y.spans k ≡ o → flow_at known p k j ≡ ok_or (edges_at p k j) NoEvent
    in_span y e None f =
        gone (told_row xs p k ∙ (ap (told_in k) e ∙ ap (told_in_span y) f))
        (ap (edges_in r.program (plan_in r) xs k j) e ∙ ap (λ o. edges_if r.program (plan_in r) xs y (part_in o j)) f)
    in_span y e (Some i) f =
        let is : slice_get (get_or (map told_of_split (splits_in r h)) p []) k ≡ Some (Ok (items_of y i)) = told_row xs p k ∙ (ap (told_in k) e ∙ ap (told_in_span y) f) in
        let count : length (items_of y i) ≡ length i.parts = (items_whole (setting_in r) h p y valid e).whole k i f in
        elim (cases_lt j (length (items_of y i))) [
          | inl lt ↦ table ∙ flow_inside flows (map told_of_split (splits_in r h)) p k j (items_of y i) is lt
          | inr le ↦
              table
              ∙ (flow_past flows (map told_of_split (splits_in r h)) p k j (items_of y i) is le
              ∙ sym (ap (λ o. ok_or o NoEvent) (ap (edges_in r.program (plan_in r) xs k j) e
              ∙ (ap (λ o. edges_if r.program (plan_in r) xs y (part_in o j)) f
              ∙ ap (edges_if r.program (plan_in r) xs y) (slice_get_past i.parts j (omega (arith, le, count)))))))
        ]

    -- of each item that is asked for its edges are answered
    pub flow_is : flow_at known p k j ≡ ok_or (edges_at p k j) NoEvent
    flow_is = by (slice_get xs p) refl
      where
        by : (o : Option Split) → slice_get xs p ≡ o → flow_at known p k j ≡ ok_or (edges_at p k j) NoEvent
        by (Some y) e = in_span y e (slice_get y.spans k) refl
        by None e = gone (told_row xs p k ∙ ap (told_in k) e) (ap (edges_in r.program (plan_in r) xs k j) e)

  pub edges_are : AreEdgesOf r h known
  edges_are p k j es e = found (edges_at p k j) es (sym (flow_is p k j) ∙ e)

  -- ---- no edge is missing

  event_has : ProcessesFollowTheirSteps → (p n : ℕ) (e : TracedEvent) → slice_get (get_or (full_trace (setting_in r) (story (setting_in r) h)).events p []) n ≡ Some e → HasItsEdges r h known p n e
  event_has follow p n e is =
      let at = trace_at follow (setting_in r) h 0 p n e (story_in r h).steps is in
      let y : Split = at.0 in
      let referred : IsReferred xs y p n = (items_whole (setting_in r) h p y valid at.1).events n (slice_get_within y.trace.events n e at.2) in
      record {
        interval = referred.interval;
        item = referred.item;
        place = referred.ref_is;
        edges =
            flow_is p referred.interval referred.item
            ∙ ap (λ o. ok_or o NoEvent) (ap (edges_in r.program (plan_in r) xs referred.interval referred.item) at.1
            ∙ (ap (edges_if r.program (plan_in r) xs y) referred.placed.there
            ∙ ap (option_map (edges_of_event r.program xs)) at.2));
      }

  module _ (p k j : ℕ) (item : Item) (es : List FlowEdge) (there : IsItem r h p k j item) (has : HasEdges r h p k j es) where
    counted_span : (y : Split) (o : Option Span) → slice_get y.spans k ≡ o → items_at y o ≡ Some there.0 → k < length y.spans
    counted_span y None f e = absurd (cc)
    counted_span y (Some i) f e = slice_get_within y.spans k i f

    counted : (o : Option Split) → items_in k o ≡ Some there.0 → k < count_in o
    counted None e = absurd (cc)
    counted (Some y) e = counted_span y (slice_get y.spans k) refl e

    interval_there : nat_lt k (length (get_or known.intervals p [])) ≡ true
    interval_there =
        let count = count_row xs p in
        let below = counted (slice_get xs p) there.1 in
        lt-ltb k (length (get_or known.intervals p [])) (omega (arith, count, below))

    told_is : told_at known p k ≡ Some (Ok there.0)
    told_is = told_here r valid h free p k ∙ (told_as k (slice_get xs p) ∙ ap told_if there.1)

    shown : told_text known p k (Some j) (told_at known p k) ≡ why_text r.program (plan_in r) j item es
    shown =
        ap (told_text known p k (Some j)) told_is
        ∙ (ap (λ (o : Option Item). option_map_or (λ i. flow_text known.program known.plan j i (flow_at known p k j)) o no_event) there.2
        ∙ ap (flow_text r.program (plan_in r) j item) (flow_is p k j ∙ ap (λ o. ok_or o NoEvent) has))

    answered : unwrap_or (races_refusal known.races) (at_interval known (Some p) k (λ q. told_text known q k (Some j) (told_at known q k))) ≡ why_text r.program (plan_in r) j item es
    answered =
        ap (λ rs. unwrap_or (races_refusal rs) (at_interval known (Some p) k (λ q. told_text known q k (Some j) (told_at known q k)))) free
        ∙ (ap (λ b. if b then told_text known p k (Some j) (told_at known p k) else codes "? block\n") interval_there ∙ shown)

    requested : (line : List ℕ) → AsksEdges r line p k j → text_of known line ≡ why_text r.program (plan_in r) j item es
    requested line a =
        ap (λ ws. answer_text known (asked r.program ws)) a.words_are
        ∙ rw (a.process_is, a.interval_is, a.item_is) answered

  pub misses_none : ProcessesFollowTheirSteps → RunsAreAnswered → MissesNoEdge r h known
  misses_none follow run_answered = record {
    lines = run_answered (setting_in r) h;
    events = event_has follow;
    items = λ p k j es e. flow_is p k j ∙ ap (λ o. ok_or o NoEvent) e;
    requested = λ line p k j item es a there has. requested p k j item es there has line a;
  }
