-- The intervals of a process by two stories: only the pairs of its events are looked up in the story.
use Rattle.std.proofs.Common.{◌≡◌, ℕ, zero, suc, Bool, true, false, List, [], ◌∷◌, ◌++◌, length, map, Option, Some, None, refl, ap, ap₂, sym, subst, ◌∙◌}
use Rattle.std.proofs.lemmas.List.{length-map, map-append}
use Rattle.std.specs.List.{flat_map}
use Rattle.std.specs.Prelude.{fold, slice_get, if◌then◌else◌}
use Rattle.ppd_ast.specs.declared.plan.Plan.{Plan}
use Rattle.ppd_ast.specs.declared.program.Program.{Program}
use Rattle.ppd_sem.specs.declared.event.Event.{Event}
use Rattle.ppd_sem.specs.declared.proc.Need.{Need}
use Rattle.ppd_sem.specs.declared.proc.Need.TheVariants.{Read, Enter, Budget, Stopped}
use Rattle.ppd_sem.specs.Described.{frame_of, is_event}
use Rattle.ppd_sem.specs.Process.{act}
use Rattle.ppd_model.specs.declared.flow.Item.{Item}
use Rattle.ppd_model.specs.declared.trace.EventId.{EventId}
use Rattle.ppd_model.specs.declared.trace.TracedEvent.{TracedEvent}
use Rattle.ppd_model.specs.declared.tracing.Story.{Story}
use Rattle.ppd_model.specs.declared.tracing.Taken.{Taken}
use Rattle.ppd_model.specs.declared.tracing.Tracing.{Tracing}
use Rattle.ppd_model.specs.FullTrace.{Tag, event_of, me_in, tagged_after, top_tags, trace_by, traced_by, with_event, with_test}
use Rattle.ppd_model.specs.Intervals.{Part, own, nested, Span, Split, control_by, innermost, item_of, items_of, left_by, split_step, with_marks, with_own, with_part, with_step}
use Rattle.ppd_model.proofs.IntervalWords.{begin_if, end_if, item_of_event}
use Rattle.ppd_model.specs.Marks.{Mark, closed, opened}
use Rattle.ppd_model.specs.Record.{edge_after}
use Rattle.ppd_graph.specs.Seen.{seen_of}

-- an event without its pair
abbrev pub bare : TracedEvent → TracedEvent
bare e = record e { paired = None }

abbrev pub events_for : List TracedEvent → Tracing → Tracing
events_for es t = record t { events = es }

abbrev pub split_for : List TracedEvent → Split → Split
split_for es x = record x { trace = events_for es x.trace }

abbrev AreBare : List TracedEvent → List TracedEvent → Type 0
AreBare es fs = map bare es ≡ map bare fs

-- one split with other pairs
pub record IsAlike (x y : Split) : Type 0 where
  pub events : List TracedEvent
  pub is : y ≡ split_for events x
  pub alike : map bare events ≡ map bare x.trace.events

many : (es fs : List TracedEvent) → AreBare es fs → length es ≡ length fs
many es fs e = sym (length-map es bare) ∙ ap length e ∙ length-map fs bare

module _ (program : Program) (plan : Plan) (s t : Story) (p : ℕ) where
  -- ---- the trace

  record HasEvents (x : Taken) (n : Need) (es : List TracedEvent) (tr : Tracing) : Type 0 where
    pub events : List TracedEvent
    pub is : trace_by program plan t p x n (events_for es tr) ≡ events_for events (trace_by program plan s p x n tr)
    pub alike : AreBare events (trace_by program plan s p x n tr).events

  same_event : (x : Taken) (es : List TracedEvent) (tr : Tracing) (e : Event) → bare (traced_by program t x (events_for es tr) e) ≡ bare (traced_by program s x tr e)
  same_event x es tr e = refl

  with_event_alike : (x : Taken) (es : List TracedEvent) (tr : Tracing) → AreBare es tr.events → (let e : Event = event_of program plan tr.proc x tr.proc.todo in
      with_event program plan t p x (events_for es tr) ≡ events_for (es ++ traced_by program t x tr e ∷ []) (with_event program plan s p x tr))
  with_event_alike x es tr h =
      ap (λ k. record tr {
        activations = tagged_after program tr.proc (Some (record { process = p; number = k })) x.need (with_test program (record { process = p; number = k }) (event_of program plan tr.proc x tr.proc.todo) tr.activations);
        answers = [];
        events = es ++ traced_by program t x tr (event_of program plan tr.proc x tr.proc.todo) ∷ [];
      }) (many es tr.events h)

  event_has : (x : Taken) (es : List TracedEvent) (tr : Tracing) → AreBare es tr.events → (let e : Event = event_of program plan tr.proc x tr.proc.todo in
      AreBare (es ++ traced_by program t x tr e ∷ []) (tr.events ++ traced_by program s x tr e ∷ []))
  event_has x es tr h =
      let e : Event = event_of program plan tr.proc x tr.proc.todo in
      map-append bare es (traced_by program t x tr e ∷ []) ∙ ap (λ zs. zs ++ bare (traced_by program s x tr e) ∷ []) h ∙ sym (map-append bare tr.events (traced_by program s x tr e ∷ []))

  trace_alike : (x : Taken) (n : Need) (es : List TracedEvent) (tr : Tracing) → AreBare es tr.events → HasEvents x n es tr
  trace_alike x (Read c) es tr h = record { events = es; is = refl; alike = h }
  trace_alike x (Enter b u) es tr h = record { events = es; is = refl; alike = h }
  trace_alike x Budget es tr h = record { events = es; is = refl; alike = h }
  trace_alike x Stopped es tr h = record { events = es; is = refl; alike = h }
  trace_alike x n es tr h = record {
    events = es ++ traced_by program t x tr (event_of program plan tr.proc x tr.proc.todo) ∷ [];
    is = with_event_alike x es tr h;
    alike = event_has x es tr h;
  }

  -- ---- intervals

  step_alike : (n : Need) (es : List TracedEvent) (x : Split) → with_step n (split_for es x) ≡ split_for es (with_step n x)
  step_alike Budget es x = refl
  step_alike Stopped es x = refl
  step_alike n es x = refl

  own_alike : (b : Bool) (k m : ℕ) (es : List TracedEvent) (x : Split) → k ≡ m → (if b then innermost (with_part (own k)) (split_for es x) else split_for es x) ≡ split_for es (if b then innermost (with_part (own m)) x else x)
  own_alike true k m es x e = ap (λ i. split_for es (innermost (with_part (own i)) x)) e
  own_alike false k m es x e = refl

  end_alike : (o : Option Mark) (tags : List Tag) (es : List TracedEvent) (x : Split) → end_if o tags (split_for es x) ≡ split_for es (end_if o tags x)
  end_alike None tags es x = refl
  end_alike (Some m) tags es x = refl

  begin_alike : (o : Option Mark) (frame : ℕ) (control : Option EventId) (es : List TracedEvent) (x : Split) → begin_if o frame control (split_for es x) ≡ split_for es (begin_if o frame control x)
  begin_alike None frame control es x = refl
  begin_alike (Some m) frame control es x = refl

  control_alike : (n : Need) (es : List TracedEvent) (tr : Tracing) → length es ≡ length tr.events → control_by program p (events_for es tr) n ≡ control_by program p tr n
  control_alike (Enter b u) es tr e = refl
  control_alike n es tr e = ap (λ k. Some (record { process = p; number = k })) e

  marks_alike : (n : Need) (es : List TracedEvent) (x : Split) → length es ≡ length x.trace.events → with_marks program plan p n (split_for es x) ≡ split_for es (with_marks program plan p n x)
  marks_alike n es x e =
      let o : Option Mark = opened program plan x.trace.proc n in
      let c : Option Mark = closed program plan x.trace.proc n in
      let f : ℕ = frame_of program plan x.trace.proc in
      let left : List Tag = left_by plan (me_in p x.trace) (top_tags x.trace.activations) n in
      ap₂ (λ k by'. begin_if o f by' (end_if c (left_by plan (record { process = p; number = k }) (top_tags x.trace.activations) n) (split_for es x))) e (control_alike n es x.trace e)
      ∙ ap (begin_if o f (control_by program p x.trace n)) (end_alike c left es x)
      ∙ begin_alike o f (control_by program p x.trace n) es (end_if c left x)

  split_alike : (es : List TracedEvent) (x : Split) (st : Taken) → AreBare es x.trace.events → IsAlike (split_step program plan s p x st) (split_step program plan t p (split_for es x) st)
  split_alike es x st h =
      let k = many es x.trace.events h in
      let r : HasEvents st st.need es x.trace = trace_alike st st.need es x.trace h in
      let inner : with_marks program plan p st.need (with_own st.need (with_step st.need (split_for es x))) ≡ split_for es (with_marks program plan p st.need (with_own st.need (with_step st.need x))) =
      ap (λ y. with_marks program plan p st.need (with_own st.need y)) (step_alike st.need es x)
      ∙ ap (with_marks program plan p st.need) (own_alike (is_event st.need) (length es) (length (with_step st.need x).trace.events) es (with_step st.need x) (k ∙ kept st.need x))
      ∙ marks_alike st.need es (with_own st.need (with_step st.need x)) (k ∙ kept st.need x ∙ kept_own (is_event st.need) (with_step st.need x)) in
      record {
        events = r.events;
        is = ap₂ (λ (y : Split) (w : Tracing). record y { trace = record w { proc = act program plan x.trace.proc st.answer }; edges = x.edges ++ x.edge ∷ []; edge = edge_after x.edge st }) inner r.is;
        alike = r.alike;
      }
    where
      kept : (n : Need) (x : Split) → length x.trace.events ≡ length (with_step n x).trace.events
      kept Budget x = refl
      kept Stopped x = refl
      kept n x = refl

      kept_own : (b : Bool) (x : Split) → length x.trace.events ≡ length (if b then innermost (with_part (own (length x.trace.events))) x else x).trace.events
      kept_own true x = refl
      kept_own false x = refl

  -- after all these steps
  pub splits_alike : (steps : List Taken) (x y : Split) → IsAlike x y → IsAlike (fold (split_step program plan s p) x steps) (fold (split_step program plan t p) y steps)
  splits_alike [] x y h = h
  splits_alike (st ∷ steps) x y h =
      splits_alike steps (split_step program plan s p x st) (split_step program plan t p y st)
      (subst (λ z. IsAlike (split_step program plan s p x st) (split_step program plan t p z st)) (sym h.is) (split_alike h.events x st h.alike))

-- ---- what is seen of them

same_item : (es fs : List TracedEvent) (n : ℕ) → AreBare es fs → item_of_event (slice_get es n) ≡ item_of_event (slice_get fs n)
same_item es fs n e = sym (of_bare es n) ∙ ap (λ zs. item_of_event (slice_get zs n)) e ∙ of_bare fs n
  where
    of_bare : (es : List TracedEvent) (n : ℕ) → item_of_event (slice_get (map bare es) n) ≡ item_of_event (slice_get es n)
    of_bare [] n = refl
    of_bare (e ∷ es) zero = refl
    of_bare (e ∷ es) (suc n) = of_bare es n

items_alike : (x y : Split) → IsAlike x y → (i : Span) → items_of y i ≡ items_of x i
items_alike x y h i = ap (λ z. items_of z i) h.is ∙ by i.parts
  where
    one : (q : Part) → item_of (split_for h.events x) q ≡ item_of x q
    one (own n) = same_item h.events x.trace.events n h.alike
    one (nested m) = refl

    by : (ps : List Part) → flat_map (item_of (split_for h.events x)) ps ≡ flat_map (item_of x) ps
    by [] = refl
    by (q ∷ ps) = ap₂ (λ a b. a ++ b) (one q) (by ps)

pub seen_alike : (x y : Split) → IsAlike x y → seen_of y ≡ seen_of x
seen_alike x y h =
    let spans : y.spans ≡ x.spans = ap (λ (z : Split). z.spans) h.is in
    ap₂ (λ (items : List (List Item)) (is : List Span). record { items = items; blocks = map (λ i. i.block) is; rounds = map (λ i. i.round) is })
    (ap (map (items_of y)) spans ∙ all x.spans) spans
  where
    all : (is : List Span) → map (items_of y) is ≡ map (items_of x) is
    all [] = refl
    all (i ∷ is) = ap₂ (λ a b. a ∷ b) (items_alike x y h i) (all is)
