-- What is held of a process, step by step, is what the story has.
use Rattle.ppd_model.specs.Setting.{Setting, setting_of}
use Rattle.std.proofs.Common.{◌≡◌, ℕ, zero, suc, ◌+◌, Bool, true, false, List, [], ◌∷◌, ◌++◌, Option, Some, None, refl, ap, ap₂, sym, ◌∙◌, arith, length, map, if◌then◌else◌}
use Rattle.std.specs.Prelude.{drop, fold, option_map, slice_get, is_some}
use Rattle.std.specs.List.{flat_map}
use Rattle.std.proofs.lemmas.List.{length-map, map-append}
use Rattle.std.proofs.lemmas.Option.{none-some, slice_get-map}
use Rattle.ppd_ast.specs.declared.plan.Plan.{Plan}
use Rattle.ppd_ast.specs.declared.program.Program.{Program}
use Rattle.ppd_sem.specs.declared.event.Event.{Event}
use Rattle.ppd_sem.specs.declared.proc.Need.{Need}
use Rattle.ppd_sem.specs.declared.proc.Need.TheVariants as n
use Rattle.ppd_sem.specs.declared.proc.Proc.{Proc}
use Rattle.ppd_sem.specs.Described.{frame_of, is_event}
use Rattle.ppd_sem.specs.Process.{act, started}
use Rattle.ppd_model.specs.declared.flow.Item.{Item}
use Rattle.ppd_model.specs.declared.trace.EventId.{EventId}
use Rattle.ppd_model.specs.declared.trace.TracedEvent.{TracedEvent}
use Rattle.ppd_model.specs.declared.tracing.Tracing.{Tracing}
use Rattle.ppd_model.specs.FullTrace.{Tag, event_of, me_in, top_tags, trace_by}
use Rattle.ppd_model.specs.Intervals.{Span, Split, own, nested, begun_split, change_first, control_by, innermost, item_of, items, left_by, new_span, split_of, split_step, with_marks, with_own, with_part, with_step}
use Rattle.ppd_model.proofs.IntervalWords.{begin_if, end_if, items_at, items_in, splits_from}
use Rattle.ppd_model.specs.Intervals as s
use Rattle.ppd_model.proofs.IntervalWords as words
use Rattle.ppd_model.specs.Marks.{Mark, closed, opened}
use Rattle.ppd_model.specs.declared.tracing.Story.{Story}
use Rattle.ppd_model.specs.declared.tracing.Taken.{Taken}
use Rattle.ppd_model.proofs.Changes.{change-none, some}
use Rattle.ppd_model.proofs.Lists.{map_change}
use Rattle.ppd_model.proofs.Items.{own_keeps, step_keeps}
use Rattle.ppd_rerun_ran.specs.declared.held.Kept.{Kept}
use Rattle.ppd_rerun_ran.specs.declared.held.Part.{Part}
use Rattle.ppd_rerun_ran.specs.declared.held.Part.TheVariants.{Own, Nested}
use Rattle.ppd_rerun_ran.specs.Holding.{Course, Holding, change_inner, course, entered_by, held_item, held_items, held_on, hold_entered, hold_event, hold_left, item_of_event, item_of_kept, items_of_kept, left_with, new_kept, with_one}

-- ---- what is held

abbrev pub part_of : s.Part → Part
part_of (own n) = Own n
part_of (nested n) = Nested n

abbrev pub bare : Span → Kept
bare i = record { block = i.block; parts = map part_of i.parts; values = i.values; closed = is_some i.closed }

abbrev pub bare_event : TracedEvent → Event
bare_event e = e.event

abbrev pub held_with : List Event → Split → Holding
held_with events x = record { events = events; spans = map bare x.spans; running = x.running }

abbrev pub held_of : Split → Holding
held_of x = held_with (map bare_event x.trace.events) x

abbrev pub course_of : Split → Course
course_of x = record { proc = x.trace.proc; held = held_of x }

one_part : (part : s.Part) (i : Span) → bare (with_part part i) ≡ with_one (part_of part) (bare i)
one_part part i = ap (λ (ps : List Part). record { block = i.block; parts = ps; values = i.values; closed = is_some i.closed }) (map-append part_of i.parts (part ∷ []))

-- ---- lists

first_change : (f : Span → Span) (g : Kept → Kept) → ((i : Span) → bare (f i) ≡ g (bare i)) → (ks : List ℕ) (spans : List Span) → map bare (change_first f ks spans) ≡ change_inner g ks (map bare spans)
first_change f g same [] spans = refl
first_change f g same (k ∷ ks) spans = map_change bare f g k spans same

quiet_inner : (ks : List ℕ) (xs : List Kept) → change_inner (λ (i : Kept). i) ks xs ≡ xs
quiet_inner [] xs = refl
quiet_inner (k ∷ ks) xs = change-none (λ (i : Kept). i) k xs (λ i. refl)

-- ---- one step

after_step : (need : Need) (events : List Event) (x : Split) → held_with events (with_step need x) ≡ held_with events x
after_step n.Budget events x = refl
after_step n.Stopped events x = refl
after_step need events x =
    ap (λ (spans : List Kept). record { events = events; spans = spans; running = x.running })
    (first_change (λ (i : Span). record i { steps = i.steps + 1 }) (λ (i : Kept). i) (λ i. refl) x.running x.spans
    ∙ quiet_inner x.running (map bare x.spans))

after_own : (b : Bool) (e : Event) (events : List Event) (x : Split) → length events ≡ length x.trace.events
    → held_with (if b then events ++ e ∷ [] else events) (if b then innermost (with_part (own (length x.trace.events))) x else x)
    ≡ hold_event b e (held_with events x)
after_own true e events x same =
    ap (λ (spans : List Kept). record { events = events ++ e ∷ []; spans = spans; running = x.running })
    (first_change (with_part (own (length x.trace.events))) (with_one (Own (length x.trace.events))) (one_part (own (length x.trace.events))) x.running x.spans
    ∙ ap (λ (m : ℕ). change_inner (with_one (Own m)) x.running (map bare x.spans)) (sym same))
after_own false e events x same = refl

after_left : (o : Option Mark) (left : List Tag) (events : List Event) (x : Split) → held_with events (end_if o left x) ≡ hold_left o (held_with events x)
after_left None left events x = refl
after_left (Some m) left events x =
    ap (λ (spans : List Kept). record { events = events; spans = spans; running = drop 1 x.running })
    (first_change (λ (i : Span). record i { closed = Some (length x.edges); values = m.values; left = left }) (left_with m.values) (λ i. refl) x.running x.spans)

abbrev block_of_mark : Option Mark → Option ℕ
block_of_mark o = option_map (λ (m : Mark). m.block) o

after_entered : (o : Option Mark) (frame : ℕ) (control : Option EventId) (events : List Event) (x : Split) → held_with events (begin_if o frame control x) ≡ hold_entered (block_of_mark o) (held_with events x)
after_entered None frame control events x = refl
after_entered (Some m) frame control events x =
    ap₂ (λ (ys : List Kept) (k : ℕ). record { events = events; spans = ys; running = k ∷ x.running }) spans count
  where
    count : length x.spans ≡ length (map bare x.spans)
    count = sym (length-map x.spans bare)

    spans : map bare (change_first (with_part (nested (length x.spans))) x.running x.spans ++ new_span (innermost (with_part (nested (length x.spans))) x) m.block frame control ∷ [])
        ≡ change_inner (with_one (Nested (length (map bare x.spans)))) x.running (map bare x.spans) ++ new_kept m.block ∷ []
    spans =
        map-append bare (change_first (with_part (nested (length x.spans))) x.running x.spans) (new_span (innermost (with_part (nested (length x.spans))) x) m.block frame control ∷ [])
        ∙ ap (λ (ys : List Kept). ys ++ new_kept m.block ∷ [])
        (first_change (with_part (nested (length x.spans))) (with_one (Nested (length x.spans))) (one_part (nested (length x.spans))) x.running x.spans
        ∙ ap (λ (k : ℕ). change_inner (with_one (Nested k)) x.running (map bare x.spans)) count)

entered_is : (program : Program) (plan : Plan) (s : Proc) (need : Need) → block_of_mark (opened program plan s need) ≡ entered_by need
entered_is program plan s (n.Enter b u) = refl
entered_is program plan s (n.Invoke (Some b) u) = refl
entered_is program plan s (n.Invoke None u) = refl
entered_is program plan s need = refl

module _ (program : Program) (plan : Plan) (story : Story) (p : ℕ) where
  events_after : (need : Need) (step : Taken) (t : Tracing) → map bare_event (trace_by program plan story p step need t).events
      ≡ (if is_event need then map bare_event t.events ++ event_of program plan t.proc step t.proc.todo ∷ [] else map bare_event t.events)
  events_after (n.Read c) step t = refl
  events_after (n.Enter b u) step t = refl
  events_after n.Budget step t = refl
  events_after n.Stopped step t = refl
  events_after need step t = map-append bare_event t.events _

  -- the trace is the same through a step's own parts
  keeps_trace : (need : Need) (x : Split) → (with_own need (with_step need x)).trace ≡ x.trace
  keeps_trace need x = (own_keeps need (with_step need x)).1 ∙ (step_keeps need x).1

  module _ (x : Split) (step : Taken) where
    abbrev need : Need
    need = step.need

    abbrev proc : Proc
    proc = x.trace.proc

    abbrev event : Event
    event = event_of program plan proc step proc.todo

    abbrev old : List Event
    old = map bare_event x.trace.events

    abbrev new : List Event
    new = if is_event need then old ++ event ∷ [] else old

    abbrev y : Split
    y = with_own need (with_step need x)

    marks : held_with new (with_marks program plan p need y) ≡ hold_entered (entered_by need) (hold_left (closed program plan proc need) (held_with new y))
    marks =
        after_entered (opened program plan y.trace.proc need) (frame_of program plan y.trace.proc) (control_by program p y.trace need) new
        (end_if (closed program plan y.trace.proc need) (left_by plan (me_in p y.trace) (top_tags y.trace.activations) need) y)
        ∙ ap (λ (o : Option ℕ). hold_entered o (held_with new (end_if (closed program plan y.trace.proc need) (left_by plan (me_in p y.trace) (top_tags y.trace.activations) need) y))) (entered_is program plan y.trace.proc need)
        ∙ ap (λ (h : Holding). hold_entered (entered_by need) h)
        (after_left (closed program plan y.trace.proc need) (left_by plan (me_in p y.trace) (top_tags y.trace.activations) need) new y)
        ∙ ap (λ (t : Tracing). hold_entered (entered_by need) (hold_left (closed program plan t.proc need) (held_with new y))) (keeps_trace need x)

    owns : held_with new y ≡ hold_event (is_event need) event (held_of x)
    owns =
        after_own (is_event need) event old (with_step need x)
        (length-map x.trace.events bare_event ∙ sym (ap (λ (t : Tracing). length t.events) (step_keeps need x).1))
        ∙ ap (λ (h : Holding). hold_event (is_event need) event h) (after_step need old x)

    held_next : course_of (split_step program plan story p x step) ≡ held_on program plan (course_of x) step
    held_next =
        ap (λ (h : Holding). record { proc = act program plan proc step.answer; held = h })
        (ap (λ (es : List Event). held_with es (with_marks program plan p need y)) (events_after need step x.trace)
        ∙ marks
        ∙ ap (λ (h : Holding). hold_entered (entered_by need) (hold_left (closed program plan proc need) h)) owns)

  -- ---- all steps

  held_all : (x : Split) (steps : List Taken) → course_of (fold (split_step program plan story p) x steps) ≡ fold (held_on program plan) (course_of x) steps
  held_all x [] = refl
  held_all x (step ∷ steps) =
      held_all (split_step program plan story p x step) steps
      ∙ ap (λ (g : Course). fold (held_on program plan) g steps) (held_next x step)

  pub held_is : (budget : ℕ) (steps : List Taken) → course_of (split_of (setting_of program plan budget) story p steps) ≡ course (setting_of program plan budget) p steps
  held_is budget steps = held_all (begun_split program plan p (started program plan p budget)) steps

-- ---- items

pub item_is : (x : Split) (part : s.Part) → held_item (held_of x) (part_of part) ≡ item_of x part
item_is x (own m) = ap item_of_event (slice_get-map bare_event x.trace.events m) ∙ by (slice_get x.trace.events m)
  where
    by : (o : Option TracedEvent) → item_of_event (option_map bare_event o) ≡ words.item_of_event o
    by None = refl
    by (Some e) = refl
item_is x (nested m) = ap (item_of_kept m) (slice_get-map bare x.spans m) ∙ by (slice_get x.spans m)
  where
    by : (o : Option Span) → item_of_kept m (option_map bare o) ≡ words.item_of_span m o
    by None = refl
    by (Some i) = refl

pub items_are : (x : Split) (parts : List s.Part) → flat_map (held_item (held_of x)) (map part_of parts) ≡ flat_map (item_of x) parts
items_are x [] = refl
items_are x (part ∷ parts) = ap₂ (λ (a b : List Item). a ++ b) (item_is x part) (items_are x parts)

items_at_is : (x : Split) (k : ℕ) → held_items (held_of x) k ≡ items_at x (slice_get x.spans k)
items_at_is x k = ap (items_of_kept (held_of x)) (slice_get-map bare x.spans k) ∙ by (slice_get x.spans k)
  where
    by : (o : Option Span) → items_of_kept (held_of x) (option_map bare o) ≡ items_at x o
    by None = refl
    by (Some i) = ap (λ (is : List Item). Some is) (items_are x i.parts)

-- process p of a story in its intervals
split_at : (setting : Setting) (story : Story) (q p : ℕ) (lists : List (List Taken)) (steps : List Taken) → slice_get lists p ≡ Some steps
    → slice_get (splits_from setting story q lists) p ≡ Some (split_of setting story (q + p) steps)
split_at setting story q p [] steps e = absurd (none-some steps e)
split_at setting story q zero (xs ∷ rest) steps e =
    let here : q ≡ q + zero = omega arith in
    ap₂ (λ (r : ℕ) (ys : List Taken). Some (split_of setting story r ys)) here (some e)
split_at setting story q (suc p) (xs ∷ rest) steps e =
    let here : (q + 1) + p ≡ q + suc p = omega arith in
    split_at setting story (q + 1) p rest steps e ∙ ap (λ (r : ℕ). Some (split_of setting story r steps)) here

-- what is held of a process that is there in a story gives the items of each of its intervals
pub held_items_are : (setting : Setting) (story : Story) (p k : ℕ) (steps : List Taken) → slice_get story.steps p ≡ Some steps
    → held_items (course setting p steps).held k ≡ items setting story p k
held_items_are setting story p k steps e =
    let x : Split = split_of setting story p steps in
    let zero_more : 0 + p ≡ p = omega arith in
    ap (λ (g : Course). held_items g.held k) (sym (held_is setting.program setting.plan story p setting.budget steps))
    ∙ items_at_is x k
    ∙ ap (items_in k) (sym (split_at setting story 0 p story.steps steps e ∙ ap (λ (r : ℕ). Some (split_of setting story r steps)) zero_more))
