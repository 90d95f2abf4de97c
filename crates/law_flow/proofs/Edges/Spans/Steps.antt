-- After each step of a process its entries tell of its intervals and events.
use Rattle.std.proofs.Common.{◌≡◌, ℕ, ◌<◌, ℤ, Bool, true, false, List, [], ◌∷◌, ◌++◌, Option, Some, None, refl, ap, ap₂, sym, subst, ◌∙◌, arith, length, true≢false, inl, inr, ◌⊎◌, if◌then◌else◌}
use Rattle.std.specs.Prelude.{⊤, drop, is_some}
use Rattle.std.proofs.lemmas.List.{append-nil}
use Rattle.std.proofs.lemmas.Option.{none-some}
use Rattle.ppd_ast.specs.declared.plan.Plan.{Plan}
use Rattle.ppd_ast.specs.declared.program.Program.{Program}
use Rattle.ppd_ast.specs.declared.status.Status.{Status}
use Rattle.ppd_ast.specs.declared.status.SyncKind.{SyncKind}
use Rattle.ppd_model.specs.declared.entry.Entry.{Entry}
use Rattle.ppd_model.specs.declared.entry.Entry.TheVariants as entry
use Rattle.ppd_sem.specs.Described.{frame_of, is_event}
use Rattle.ppd_sem.specs.Process.{need_of}
use Rattle.ppd_sem.specs.declared.proc.Need.{Need}
use Rattle.ppd_sem.specs.declared.proc.Need.TheVariants as n
use Rattle.ppd_sem.specs.declared.proc.Proc.{Proc}
use Rattle.ppd_sem.specs.declared.proc.Todo.{Todo}
use Rattle.ppd_sem.proofs.Progress.{need_at_status, need_at_todo}
use Rattle.ppd_model.specs.declared.trace.EventId.{EventId}
use Rattle.ppd_model.specs.declared.trace.TracedEvent.{TracedEvent}
use Rattle.ppd_model.specs.declared.state.Logging.{Logging}
use Rattle.ppd_model.specs.declared.tracing.Story.{Story}
use Rattle.ppd_model.specs.declared.tracing.Taken.{Taken}
use Rattle.ppd_model.specs.declared.tracing.Tracing.{Tracing}
use Rattle.ppd_model.specs.FullTrace.{Tag, event_of, me_in, top_tags, trace_by, traced_by}
use Rattle.ppd_model.specs.Intervals.{own, nested, Span, Split, change_first, control_by, innermost, left_by, split_step, with_marks, with_own, with_part, with_step}
use Rattle.ppd_model.proofs.IntervalWords.{begin_if, end_if}
use Rattle.ppd_model.specs.Logs.{ends, entries_of, passed_value, status_of, syncs as sync_entries, units, block_entries}
use Rattle.ppd_model.specs.Marks.{Mark, closed, opened}
use Rattle.ppd_model.specs.Story.{unit_started}
use Rattle.ppd_model.specs.Synchronizations.{Sync, kind_of_sync, numbered, sync_of}
use Rattle.ppd_model.proofs.Items.{own_keeps, step_keeps}
use Rattle.ppd_model.proofs.WrittenSpans.{in_order}
use Rattle.ppd_model.proofs.Extents.{ended_length}
use Rattle.law_flow.proofs.Edges.Spans.Facts.{at}
use Rattle.law_flow.proofs.Edges.Spans.Opened.{close_told, open_told}
use Rattle.law_flow.proofs.Edges.Spans.Told.{IsTold}
use Rattle.law_flow.proofs.Edges.Spans.Parted.{Comes, entry_told, event_told, quiet_told}

-- a step has a number only where it is a synchronization
abbrev pub IsNumbered : Taken → Type 0
IsNumbered t = kind_of_sync t.need ≡ None → t.number ≡ None

-- so it is with each of these
abbrev pub AreNumbered : List Taken → Type 0
AreNumbered [] = ⊤
AreNumbered (t ∷ ts) = IsNumbered t × AreNumbered ts

-- ---- parts of a step

step_told : (need : Need) (es : List Entry) (events : List TracedEvent) (x : Split) → IsTold es events x.spans x.running → IsTold es events (with_step need x).spans (with_step need x).running
step_told n.Budget es events x h = h
step_told n.Stopped es events x h = h
step_told need es events x h = quiet_told es events x.spans x.running h

units_told : (o : Option ℕ) (values : List ℤ) (es : List Entry) (events : List TracedEvent) (spans : List Span) (running : List ℕ) → IsTold es events spans running → IsTold (es ++ units o values) events spans running
units_told None values es events spans running h = subst (λ l. IsTold l events spans running) (sym (append-nil es)) h
units_told (Some u) values es events spans running h = entry_told es events spans running (entry.Unit u values) refl refl refl h

pub end_told : (st : Status) (rest : ℕ) (reads writes : List ℕ) (es : List Entry) (events : List TracedEvent) (spans : List Span) (running : List ℕ) → IsTold es events spans running → IsTold (es ++ entry.End st rest reads writes ∷ []) events spans running
end_told st rest reads writes es events spans running h =
    entry_told es events spans running (entry.End st rest reads writes) refl (ended_length (at es).entry (at es).running (at es).intervals) refl h

ends_told : (l : Logging) (o : Option Status) (es : List Entry) (events : List TracedEvent) (spans : List Span) (running : List ℕ) → IsTold es events spans running → IsTold (es ++ ends l o) events spans running
ends_told l None es events spans running h = subst (λ k. IsTold k events spans running) (sym (append-nil es)) h
ends_told l (Some s) es events spans running h = end_told s l.rest l.reads l.writes es events spans running h

-- an interval may be left, and one may begin
marks_told : (o c : Option Mark) (l : Logging) (t : Taken) (sy : Option Sync) (frame : ℕ) (control : Option EventId) (tags : List Tag) (es : List Entry) (events : List TracedEvent) (x : Split)
    → (o ≡ None) ⊎ ((c ≡ None) × (sy ≡ None)) → 0 < length x.running → IsTold (es ++ sync_entries l t sy) events x.spans x.running
    → IsTold (((es ++ block_entries entry.Prelog o) ++ sync_entries l t sy) ++ block_entries entry.Postlog c) events (begin_if o frame control (end_if c tags x)).spans (begin_if o frame control (end_if c tags x)).running
marks_told None None l t sy frame control tags es events x apart lt h =
    subst (λ k. IsTold k events x.spans x.running) (sym (append-nil ((es ++ []) ++ sync_entries l t sy)))
    (subst (λ k. IsTold (k ++ sync_entries l t sy) events x.spans x.running) (sym (append-nil es)) h)
marks_told None (Some k) l t sy frame control tags es events x apart lt h = by x.running refl
  where
    by : (ks : List ℕ) → x.running ≡ ks → IsTold (((es ++ []) ++ sync_entries l t sy) ++ block_entries entry.Postlog (Some k)) events (end_if (Some k) tags x).spans (end_if (Some k) tags x).running
    by [] e = absurd (let z : length x.running ≡ 0 = ap length e in omega (arith, z, lt))
    by (m ∷ rest) e =
        let told : IsTold ((es ++ []) ++ sync_entries l t sy) events x.spans (m ∷ rest) =
        subst (λ r. IsTold ((es ++ []) ++ sync_entries l t sy) events x.spans r) e (subst (λ z. IsTold (z ++ sync_entries l t sy) events x.spans x.running) (sym (append-nil es)) h) in
        subst (λ r. IsTold (((es ++ []) ++ sync_entries l t sy) ++ block_entries entry.Postlog (Some k)) events (change_first (λ i. record i { closed = Some (length x.edges); values = k.values; left = tags }) r x.spans) (drop 1 r)) (sym e)
        (close_told ((es ++ []) ++ sync_entries l t sy) events x.spans m rest k.block k.values (length x.edges) k.values tags told)
marks_told (Some k) c l t sy frame control tags es events x (inl e) lt h = absurd (none-some k (sym e))
marks_told (Some k) None l t None frame control tags es events x (inr e) lt h = by x.running refl
  where
    by : (ks : List ℕ) → x.running ≡ ks → IsTold (((es ++ block_entries entry.Prelog (Some k)) ++ []) ++ []) events (begin_if (Some k) frame control x).spans (begin_if (Some k) frame control x).running
    by [] f = absurd (let z : length x.running ≡ 0 = ap length f in omega (arith, z, lt))
    by (m ∷ rest) f =
        let told : IsTold es events x.spans (m ∷ rest) = subst (λ r. IsTold es events x.spans r) f (subst (λ z. IsTold z events x.spans x.running) (append-nil es) h) in
        subst (λ z. IsTold z events (begin_if (Some k) frame control x).spans (begin_if (Some k) frame control x).running) (sym (append-nil ((es ++ block_entries entry.Prelog (Some k)) ++ [])))
        (subst (λ z. IsTold z events (begin_if (Some k) frame control x).spans (begin_if (Some k) frame control x).running) (sym (append-nil (es ++ block_entries entry.Prelog (Some k))))
        (subst (λ r. IsTold (es ++ block_entries entry.Prelog (Some k)) events (change_first (with_part (nested (length x.spans))) r x.spans ++ (record { block = k.block; round = x.running; frame = frame; control = control; parts = []; steps = 0; opened = length x.edges; closed = None; values = []; left = [] }) ∷ []) (length x.spans ∷ r)) (sym f)
        (open_told es events x.spans m rest k.block k.values (record { block = k.block; round = x.running; frame = frame; control = control; parts = []; steps = 0; opened = length x.edges; closed = None; values = []; left = [] }) told f refl refl)))
marks_told (Some k) (Some j) l t sy frame control tags es events x (inr e) lt h = absurd (none-some j (sym e.0))
marks_told (Some k) None l t (Some s) frame control tags es events x (inr e) lt h = absurd (none-some s (sym e.1))

-- a step that enters a block neither leaves one nor synchronizes
apart : (program : Program) (plan : Plan) (s : Proc) (need : Need) (o : Option ℕ) → (opened program plan s need ≡ None) ⊎ ((closed program plan s need ≡ None) × (numbered (kind_of_sync need) o ≡ None))
apart program plan s (n.Enter b u) o = inr (refl, refl)
apart program plan s (n.Invoke b u) o = inr (refl, refl)
apart program plan s need o = inl refl

-- ---- one step

-- an event is of a statement that is to do
pub headed : (program : Program) (plan : Plan) (s : Proc) → is_event (need_of program plan s) ≡ true → (t : Todo) × (ts : List Todo) × (s.todo ≡ t ∷ ts)
headed program plan s e = by s.status refl s.todo refl
  where
    by : (o : Option Status) → s.status ≡ o → (todo : List Todo) → s.todo ≡ todo → (t : Todo) × (ts : List Todo) × (s.todo ≡ t ∷ ts)
    by (Some x) f todo g = absurd (true≢false (sym e ∙ ap is_event (need_at_status program plan s (Some x) f)))
    by None f [] g = absurd (true≢false (sym e ∙ ap is_event (need_at_todo program plan s [] f g)))
    by None f (t ∷ ts) g = (t, ts, g)

module _ (program : Program) (plan : Plan) (story' : Story) (p : ℕ) where
  abbrev pub new_event : Taken → Tracing → TracedEvent
  new_event t u = traced_by program story' t u (event_of program plan u.proc t u.proc.todo)

  abbrev pub told_events : Bool → Taken → Tracing → List TracedEvent
  told_events b t u = if b then u.events ++ new_event t u ∷ [] else u.events

  pub events_are : (t : Taken) (u : Tracing) (need : Need) → (trace_by program plan story' p t need u).events ≡ told_events (is_event need) t u
  events_are t u (n.Read c) = refl
  events_are t u (n.Enter b w) = refl
  events_are t u n.Budget = refl
  events_are t u n.Stopped = refl
  events_are t u need = refl

  pub no_sync : (need : Need) → is_event need ≡ false → kind_of_sync need ≡ None
  no_sync (n.Read c) e = refl
  no_sync (n.Enter b w) e = refl
  no_sync n.Budget e = refl
  no_sync n.Stopped e = refl
  no_sync need e = absurd (true≢false e)

  -- the event, and the entry of its synchronization
  own_told : (t : Taken) (l : Logging) (es : List Entry) (x : Split) → t.need ≡ need_of program plan x.trace.proc → IsNumbered t → 0 < length x.running → IsTold es x.trace.events x.spans x.running
      → IsTold (es ++ sync_entries l t (sync_of t)) (told_events (is_event t.need) t x.trace) (with_own t.need x).spans (with_own t.need x).running
  own_told t l es x mine w lt h = by (is_event t.need) refl
    where
      kinds : (k : Option (SyncKind × ℕ)) → kind_of_sync t.need ≡ k → (o : Option ℕ) → t.number ≡ o → (new_event t x.trace).event.number ≡ t.number
          → Comes es (new_event t x.trace) (sync_entries l t (sync_of t))
      kinds None e o f number = inl (ap (λ k. sync_entries l t (numbered k t.number)) e, ap is_some (number ∙ w e))
      kinds (Some k) e None f number = inl (ap₂ (λ a b. sync_entries l t (numbered a b)) e f, ap is_some (number ∙ f))
      kinds (Some k) e (Some i) f number = inr (
        entry.Sync k.0 k.1 i (passed_value t.need t.answer) l.reads l.writes,
        ap₂ (λ a b. sync_entries l t (numbered a b)) e f,
        ap is_some (number ∙ f),
        refl,
        refl,
        refl,
      )

      by : (b : Bool) → is_event t.need ≡ b
          → IsTold (es ++ sync_entries l t (sync_of t)) (told_events b t x.trace) (if b then innermost (with_part (own (length x.trace.events))) x else x).spans (if b then innermost (with_part (own (length x.trace.events))) x else x).running
      by true e =
          let head = headed program plan x.trace.proc (ap is_event (sym mine) ∙ e) in
          let number : (new_event t x.trace).event.number ≡ t.number = ap (λ todo. (event_of program plan x.trace.proc t todo).number) head.2 in
          event_told es x.trace.events x.spans x.running (new_event t x.trace) (sync_entries l t (sync_of t)) lt (kinds (kind_of_sync t.need) refl t.number refl number) h
      by false e =
          subst (λ k. IsTold k x.trace.events x.spans x.running) (sym (ap (λ o. es ++ sync_entries l t (numbered o t.number)) (no_sync t.need e) ∙ append-nil es)) h

  pub by_step : (t : Taken) (values : List ℤ) (l : Logging) (x : Split) → t.need ≡ need_of program plan x.trace.proc → l.proc ≡ x.trace.proc → IsNumbered t → 0 < length x.running → IsTold l.entries x.trace.events x.spans x.running
      → IsTold (l.entries ++ entries_of program plan l (record { taken = t; unit_values = values })) (split_step program plan story' p x t).trace.events (split_step program plan story' p x t).spans (split_step program plan story' p x t).running
  by_step t values l x mine proc w lt h =
      let a : Split = with_step t.need x in
      let b : Split = with_own t.need a in
      let same_a = step_keeps t.need x in
      let same_b = own_keeps t.need a in
      let trace_b : b.trace ≡ x.trace = same_b.1 ∙ same_a.1 in
      let es : List Entry = l.entries in
      let told : List TracedEvent = told_events (is_event t.need) t x.trace in
      let quiet : IsTold es a.trace.events a.spans a.running = subst (λ (u : Tracing). IsTold es u.events a.spans a.running) (sym same_a.1) (step_told t.need es x.trace.events x h) in
      let owned' : IsTold (es ++ sync_entries l t (sync_of t)) (told_events (is_event t.need) t a.trace) b.spans b.running =
      own_told t l es a (mine ∙ ap (λ (u : Tracing). need_of program plan u.proc) (sym same_a.1)) w (subst (λ ks. 0 < length ks) (sym same_a.0) lt) quiet in
      let owned : IsTold (es ++ sync_entries l t (sync_of t)) told b.spans b.running = subst (λ (u : Tracing). IsTold (es ++ sync_entries l t (sync_of t)) (told_events (is_event t.need) t u) b.spans b.running) same_a.1 owned' in
      let lt_b : 0 < length b.running = subst (λ ks. 0 < length ks) (sym (same_b.0 ∙ same_a.0)) lt in
      let proc_b : b.trace.proc ≡ l.proc = ap (λ (u : Tracing). u.proc) trace_b ∙ sym proc in
      let marked = marks_told (opened program plan b.trace.proc t.need) (closed program plan b.trace.proc t.need) l t (sync_of t) (frame_of program plan b.trace.proc) (control_by program p b.trace t.need)
      (left_by plan (me_in p b.trace) (top_tags b.trace.activations) t.need) es told b (apart program plan b.trace.proc t.need t.number) lt_b owned in
      let here : IsTold (((es ++ block_entries entry.Prelog (opened program plan l.proc t.need)) ++ sync_entries l t (sync_of t)) ++ block_entries entry.Postlog (closed program plan l.proc t.need)) told (with_marks program plan p t.need b).spans (with_marks program plan p t.need b).running =
      subst (λ (s : Proc). IsTold (((es ++ block_entries entry.Prelog (opened program plan s t.need)) ++ sync_entries l t (sync_of t)) ++ block_entries entry.Postlog (closed program plan s t.need)) told (with_marks program plan p t.need b).spans (with_marks program plan p t.need b).running) proc_b marked in
      let marked_es : List Entry = ((es ++ block_entries entry.Prelog (opened program plan l.proc t.need)) ++ sync_entries l t (sync_of t)) ++ block_entries entry.Postlog (closed program plan l.proc t.need) in
      let all_es : List Entry = (marked_es ++ units (unit_started t.need) values) ++ ends l (status_of t.need) in
      let all : IsTold all_es told (with_marks program plan p t.need b).spans (with_marks program plan p t.need b).running = ends_told l (status_of t.need) (marked_es ++ units (unit_started t.need) values) told (with_marks program plan p t.need b).spans (with_marks program plan p t.need b).running
      (units_told (unit_started t.need) values marked_es told (with_marks program plan p t.need b).spans (with_marks program plan p t.need b).running here) in
      subst (λ k. IsTold k (split_step program plan story' p x t).trace.events (with_marks program plan p t.need b).spans (with_marks program plan p t.need b).running)
      (sym (in_order es (block_entries entry.Prelog (opened program plan l.proc t.need)) (sync_entries l t (sync_of t)) (block_entries entry.Postlog (closed program plan l.proc t.need)) (units (unit_started t.need) values) (ends l (status_of t.need))))
      (subst (λ k. IsTold all_es k (with_marks program plan p t.need b).spans (with_marks program plan p t.need b).running) (sym (events_are t x.trace t.need)) all)

  -- a process that has stopped does nothing
  pub at_stop : (t : Taken) (values : List ℤ) (l : Logging) (x : Split) → t.need ≡ n.Stopped → IsTold l.entries x.trace.events x.spans x.running
      → IsTold (l.entries ++ entries_of program plan l (record { taken = t; unit_values = values })) (split_step program plan story' p x t).trace.events (split_step program plan story' p x t).spans (split_step program plan story' p x t).running
  at_stop t values l x e h =
      subst (λ (need : Need).
      IsTold (l.entries ++ (block_entries entry.Prelog (opened program plan l.proc need) ++ sync_entries l t (numbered (kind_of_sync need) t.number) ++ block_entries entry.Postlog (closed program plan l.proc need) ++ units (unit_started need) values ++ ends l (status_of need)))
      (trace_by program plan story' p t need x.trace).events (with_marks program plan p need (with_own need (with_step need x))).spans (with_marks program plan p need (with_own need (with_step need x))).running)
      (sym e) (subst (λ k. IsTold k x.trace.events x.spans x.running) (sym (append-nil l.entries)) h)
