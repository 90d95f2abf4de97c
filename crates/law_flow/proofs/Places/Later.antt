-- The intervals and events of a process at later times.
use Rattle.std.proofs.Common.{◌≡◌, ℕ, ◌+◌, Bool, true, false, cond, List, [], ◌∷◌, ◌++◌, Option, Some, None, refl, ap, sym, subst, ◌∙◌, length, append-nil, append_assoc, true≢false, inl, inr}
use Rattle.std.proofs.lemmas.Bool.{cases_eq}
use Rattle.std.specs.Prelude.{fold, option_map, slice_get, is_some}
use Rattle.ppd_ast.specs.declared.plan.Plan.{Plan}
use Rattle.ppd_ast.specs.declared.program.Program.{Program}
use Rattle.ppd_sem.specs.Described.{frame_of, is_event}
use Rattle.ppd_sem.specs.declared.proc.Need.{Need}
use Rattle.ppd_sem.specs.declared.proc.Need.TheVariants as n
use Rattle.ppd_model.specs.declared.trace.EventId.{EventId}
use Rattle.ppd_model.specs.declared.trace.TracedEvent.{TracedEvent}
use Rattle.ppd_model.specs.declared.tracing.Tracing.{Tracing}
use Rattle.ppd_model.specs.FullTrace.{Tag, me_in, top_tags, trace_by}
use Rattle.ppd_model.specs.Intervals.{Part, own, nested, Span, Split, change_first, control_by, innermost, left_by, new_span, split_step, with_own, with_part, with_step}
use Rattle.ppd_model.proofs.IntervalWords.{begin_if, end_if}
use Rattle.ppd_model.specs.Marks.{Mark, closed, opened}
use Rattle.ppd_model.specs.declared.tracing.Story.{Story}
use Rattle.ppd_model.specs.declared.tracing.Taken.{Taken}
use Rattle.ppd_model.specs.World.{change}
use Rattle.ppd_model.proofs.Changes.{change-at, change-else, some}
use Rattle.ppd_model.proofs.Items.{own_keeps, step_keeps, first_length}
use Rattle.ppd_model.proofs.CountedOn.{kept_at}
use Rattle.law_flow.specs.Places.Levels.{IsLater, IsLaterSpan, Level, StandsIn, numbers}
use Rattle.law_flow.proofs.Vocabulary.Levels.{begin_level, end_level, levels_after, own_level, with_event}
use Rattle.law_flow.proofs.Places.Levels.{begin_if_stands, end_if_stands, event_stands, quiet_stands}

abbrev pub SpansLater : List Span → List Span → Type 0
SpansLater xs ys = (k : ℕ) (i : Span) → slice_get xs k ≡ Some i
    → (j : Span) × (slice_get ys k ≡ Some j) × IsLaterSpan i j

same_span : (i : Span) → IsLaterSpan i i
same_span i = record {
  block = refl;
  round = refl;
  frame = refl;
  control = refl;
  more = [];
  parts =
      sym (append-nil i.parts);
  stays = λ c. refl;
}

span_then : (i j k : Span) → IsLaterSpan i j → IsLaterSpan j k → IsLaterSpan i k
span_then i j k h g = record {
  block = g.block ∙ h.block;
  round = g.round ∙ h.round;
  frame = g.frame ∙ h.frame;
  control = g.control ∙ h.control;
  more = h.more ++ g.more;
  parts = g.parts ∙ ap (λ ps. ps ++ g.more) h.parts ∙ append_assoc i.parts h.more g.more;
  stays = λ c. g.stays (ap (λ (i : Span). is_some i.closed) (h.stays c) ∙ c) ∙ h.stays c;
}

spans_same : (xs : List Span) → SpansLater xs xs
spans_same xs k i e = (i, e, same_span i)

spans_then : (xs ys zs : List Span) → SpansLater xs ys → SpansLater ys zs → SpansLater xs zs
spans_then xs ys zs h g k i e =
    let a = h k i e in
    let b = g k a.0 a.1 in
    (b.0, b.1, span_then i a.0 b.0 a.2 b.2)

pub later_same : (x : Split) → IsLater x x
later_same x = record { events = λ m e at. at; spans = spans_same x.spans }

pub later_then : (x y z : Split) → IsLater x y → IsLater y z → IsLater x z
later_then x y z h g = record {
  events = λ m e at. g.events m e (h.events m e at);
  spans =
      spans_then x.spans y.spans z.spans h.spans g.spans;
}

-- ---- each change

changed_later : (f : Span → Span) (m : ℕ) (spans : List Span) → ((i : Span) → slice_get spans m ≡ Some i
    → IsLaterSpan i (f i)) → SpansLater spans (change f m spans)
changed_later f m spans h k i e = elim (cases_eq k m) [
  | inl same ↦
      let here : slice_get spans m ≡ Some i = subst (λ z. slice_get spans z ≡ Some i) same e in (
        f i,
        subst (λ z. slice_get (change f m spans) z ≡ Some (f i)) (sym same) (change-at f m spans
            ∙ ap (option_map f) here),
        h i here,
      )
  | inr other ↦ (i, change-else f m k spans other ∙ e, same_span i)
]

first_later : (f : Span → Span) → ((i : Span) → is_some i.closed ≡ false → IsLaterSpan i (f i))
    → (x : Split) (ls : List Level) → StandsIn x ls → SpansLater x.spans (change_first f x.running x.spans)
first_later f h x ls s = subst (λ ks. SpansLater x.spans (change_first f ks x.spans)) (sym s.running) (by ls s)
  where
    by : (ls : List Level) → StandsIn x ls → SpansLater x.spans (change_first f (numbers ls) x.spans)
    by [] s = spans_same x.spans
    by (l ∷ ls) s = changed_later f l.interval x.spans (λ i e. h i (ap (λ (i : Span). is_some i.closed) (some (sym e ∙ s.levels.0.there))
        ∙ s.levels.0.runs))

part_later : (q : Part) (i : Span) → is_some i.closed ≡ false → IsLaterSpan i (with_part q i)
part_later q i runs = record {
  block = refl;
  round = refl;
  frame = refl;
  control = refl;
  more = q ∷ [];
  parts =
      refl;
  stays = λ c. absurd (true≢false (sym c ∙ runs));
}

-- ---- the parts of a step

pub step_later : (need : Need) (x : Split) (ls : List Level) → StandsIn x ls
    → StandsIn (with_step need x) ls × (SpansLater x.spans (with_step need x).spans
    × (length (with_step need x).spans ≡ length x.spans))
step_later n.Budget x ls s = (s, (spans_same x.spans, refl))
step_later n.Stopped x ls s = (s, (spans_same x.spans, refl))
step_later need x ls s = (
  quiet_stands (λ i. record i { steps = i.steps + 1 }) (record {
    same_closed = λ i. refl;
    same_block =
        λ i. refl;
    same_round = λ i. refl;
  }) (λ i. refl) x ls s,
  (
    first_later (λ i. record i { steps = i.steps + 1 }) (λ i runs. record {
      block = refl;
      round = refl;
      frame =
          refl;
      control = refl;
      more = [];
      parts = sym (append-nil i.parts);
      stays = λ c. absurd (true≢false (sym c
          ∙ runs));
    }) x ls s,
    first_length (λ i. record i { steps = i.steps + 1 }) x.running x.spans,
  ),
)

pub own_later : (need : Need) (x : Split) (ls : List Level) → StandsIn x ls
    → StandsIn (with_own need x) (own_level need (length x.trace.events) ls)
    × (SpansLater x.spans (with_own need x).spans × (length (with_own need x).spans ≡ length x.spans))
own_later need x ls s = by (is_event need)
  where
    by : (b : Bool)
        → StandsIn (cond b (innermost (with_part (own (length x.trace.events))) x) x)
        (cond b (with_event (length x.trace.events) ls) ls)
        × (SpansLater x.spans (cond b (innermost (with_part (own (length x.trace.events))) x) x).spans
        × (length (cond b (innermost (with_part (own (length x.trace.events))) x) x).spans ≡ length x.spans))
    by true = (
      event_stands (length x.trace.events) x ls s,
      (
        first_later (with_part (own (length x.trace.events)))
            (part_later (own (length x.trace.events))) x ls s,
        first_length
            (with_part (own (length x.trace.events))) x.running x.spans,
      ),
    )
    by false = (s, (spans_same x.spans, refl))

end_later : (m : Option Mark) (left : List Tag) (x : Split) (ls : List Level) → StandsIn x ls
    → SpansLater x.spans (end_if m left x).spans × (length (end_if m left x).spans ≡ length x.spans)
end_later None left x ls s = (spans_same x.spans, refl)
end_later (Some m) left x ls s = (
  first_later (λ i. record i { closed = Some (length x.edges); values = m.values; left = left })
      (λ i runs. record {
        block = refl;
        round = refl;
        frame = refl;
        control = refl;
        more = [];
        parts =
            sym (append-nil i.parts);
        stays = λ c. absurd (true≢false (sym c ∙ runs));
      }) x ls s,
  first_length (λ i. record i { closed = Some (length x.edges); values = m.values; left = left }) x.running x.spans,
)

begin_later : (m : Option Mark) (frame : ℕ) (control : Option EventId) (x : Split) (ls : List Level) → StandsIn x ls
    → SpansLater x.spans (begin_if m frame control x).spans
begin_later None frame control x ls s k i e = spans_same x.spans k i e
begin_later (Some m) frame control x ls s k i e =
    let a = first_later (with_part (nested (length x.spans))) (part_later (nested (length x.spans))) x ls s k i e in (
      a.0,
      kept_at (change_first (with_part (nested (length x.spans))) x.running x.spans)
          (new_span (innermost (with_part (nested (length x.spans))) x) m.block frame control ∷ []) k a.0 a.1,
      a.2,
    )

-- ---- one step

events_later : (program : Program) (plan : Plan) (story : Story) (p : ℕ) (t : Tracing) (x : Taken) (need : Need)
    (k : ℕ) (e : TracedEvent)
    → slice_get t.events k ≡ Some e → slice_get (trace_by program plan story p x need t).events k ≡ Some e
events_later program plan story p t x (n.Read c) k e at = at
events_later program plan story p t x (n.Enter b u) k e at = at
events_later program plan story p t x n.Budget k e at = at
events_later program plan story p t x n.Stopped k e at = at
events_later program plan story p t x need k e at = kept_at t.events _ k e at

module _ (program : Program) (plan : Plan) (story : Story) (p : ℕ) where
  -- a step leads to the levels told, and to a later time
  pub step_stands : (x : Split) (t : Taken) (ls : List Level) → StandsIn x ls
      → StandsIn (split_step program plan story p x t) (levels_after program plan t.need x ls)
      × IsLater x (split_step program plan story p x t)
  step_stands x t ls s =
      let a : Split = with_step t.need x in
      let first = step_later t.need x ls s in
      let b : Split = with_own t.need a in
      let second = own_later t.need a ls first.0 in
      let end_mark : Option Mark = closed program plan b.trace.proc t.need in
      let tags : List Tag = left_by plan (me_in p b.trace) (top_tags b.trace.activations) t.need in
      let c : Split = end_if end_mark tags b in
      let owned : List Level = own_level t.need (length a.trace.events) ls in
      let third : StandsIn c (end_level end_mark owned) = end_if_stands end_mark tags b owned second.0 in
      let third_later = end_later end_mark tags b owned second.0 in
      let begin_mark : Option Mark = opened program plan b.trace.proc t.need in
      let frame : ℕ = frame_of program plan b.trace.proc in
      let control : Option EventId = control_by program p b.trace t.need in
      let fourth : StandsIn (begin_if begin_mark frame control c) (begin_level begin_mark (length c.spans)
      (end_level end_mark owned)) = begin_if_stands begin_mark frame control c (end_level end_mark owned) third in
      let fourth_later = begin_later begin_mark frame control c (end_level end_mark owned) third in
      let a_trace : a.trace ≡ x.trace = (step_keeps t.need x).1 in
      let b_trace : b.trace ≡ x.trace = (own_keeps t.need a).1 ∙ a_trace in
      let size : length c.spans ≡ length x.spans = third_later.1 ∙ second.1.1 ∙ first.1.1 in
      let told : begin_level begin_mark (length c.spans) (end_level end_mark owned)
      ≡ levels_after program plan t.need x ls =
      ap (λ k. begin_level begin_mark k (end_level end_mark owned)) size
      ∙ ap (λ (u : Tracing). begin_level begin_mark (length x.spans)
      (end_level end_mark (own_level t.need (length u.events) ls))) a_trace
      ∙ ap (λ (u : Tracing). begin_level (opened program plan u.proc t.need) (length x.spans)
      (end_level (closed program plan u.proc t.need) (own_level t.need (length x.trace.events) ls))) b_trace in
      let now : StandsIn (begin_if begin_mark frame control c) (levels_after program plan t.need x ls) =
      subst (λ ms. StandsIn (begin_if begin_mark frame control c) ms) told fourth in (
        record { running = now.running; levels = now.levels },
        record {
          events = λ k e at. events_later program plan story p x.trace t t.need k e at;
          spans = spans_then x.spans a.spans (begin_if begin_mark frame control c).spans first.1.0
              (spans_then a.spans b.spans (begin_if begin_mark frame control c).spans second.1.0
              (spans_then b.spans c.spans (begin_if begin_mark frame control c).spans third_later.0 fourth_later));
        },
      )

  -- all later steps lead to a later time
  pub steps_later : (x : Split) (ls : List Level) (steps : List Taken) → StandsIn x ls
      → IsLater x (fold (split_step program plan story p) x steps)
  steps_later x ls [] s = later_same x
  steps_later x ls (t ∷ ts) s =
      let one = step_stands x t ls s in
      later_then x (split_step program plan story p x t) (fold (split_step program plan story p)
      (split_step program plan story p x t) ts) one.1
      (steps_later (split_step program plan story p x t) (levels_after program plan t.need x ls) ts one.0)

  -- the levels after all these steps
  abbrev pub levels_to : Split → List Taken → List Level → List Level
  levels_to x [] ls = ls
  levels_to x (t ∷ ts) ls = levels_to (split_step program plan story p x t) ts (levels_after program plan t.need x ls)

  pub steps_stand : (x : Split) (ls : List Level) (steps : List Taken) → StandsIn x ls
      → StandsIn (fold (split_step program plan story p) x steps) (levels_to x steps ls)
  steps_stand x ls [] s = s
  steps_stand x ls (t ∷ ts) s =
      steps_stand (split_step program plan story p x t) (levels_after program plan t.need x ls) ts
      (step_stands x t ls s).0

  -- the event of a step is the next part of the first level
  pub event_placed : (x : Split) (t : Taken) (l : Level) (ls : List Level) → StandsIn x (l ∷ ls)
      → is_event t.need ≡ true
      → (j : Span) × (slice_get (split_step program plan story p x t).spans l.interval ≡ Some j) × (more : List Part)
      × (j.parts ≡ (l.parts ++ own (length x.trace.events) ∷ []) ++ more)
  event_placed x t l ls s event =
      let a : Split = with_step t.need x in
      let first = step_later t.need x (l ∷ ls) s in
      let b : Split = with_own t.need a in
      let second = own_later t.need a (l ∷ ls) first.0 in
      let a_trace : a.trace ≡ x.trace = (step_keeps t.need x).1 in
      let owned : own_level t.need (length a.trace.events) (l ∷ ls) ≡ with_event (length x.trace.events) (l ∷ ls) =
      ap (λ e. cond e (with_event (length a.trace.events) (l ∷ ls)) (l ∷ ls)) event
      ∙ ap (λ (u : Tracing). with_event (length u.events) (l ∷ ls)) a_trace in
      let stands : StandsIn b (with_event (length x.trace.events) (l ∷ ls)) = subst (StandsIn b) owned second.0 in
      let end_mark : Option Mark = closed program plan b.trace.proc t.need in
      let tags : List Tag = left_by plan (me_in p b.trace) (top_tags b.trace.activations) t.need in
      let c : Split = end_if end_mark tags b in
      let third : StandsIn c (end_level end_mark (with_event (length x.trace.events) (l ∷ ls))) =
      end_if_stands end_mark tags b (with_event (length x.trace.events) (l ∷ ls)) stands in
      let later : SpansLater b.spans (split_step program plan story p x t).spans =
      spans_then b.spans c.spans (split_step program plan story p x t).spans
      (end_later end_mark tags b (with_event (length x.trace.events) (l ∷ ls)) stands).0
      (begin_later (opened program plan b.trace.proc t.need) (frame_of program plan b.trace.proc)
      (control_by program p b.trace t.need) c (end_level end_mark (with_event (length x.trace.events) (l ∷ ls)))
      third) in
      let g = later l.interval stands.levels.0.span stands.levels.0.there in (
        g.0,
        g.1,
        g.2.more,
        g.2.parts ∙ ap (λ ps. ps ++ g.2.more) (stands.levels.0.parts_are
            ∙ append-nil (l.parts ++ own (length x.trace.events) ∷ [])),
      )
