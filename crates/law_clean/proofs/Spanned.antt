-- The intervals of a process that has spent more, and of one that is cut off.
use Rattle.std.proofs.Common.{◌≡◌, ℕ, ℤ, Bool, true, false, List, [], ◌∷◌, ◌++◌, length, Option, Some, None, Ok, Err, refl, ap, ap₂, ◌∙◌}
use Rattle.std.specs.Prelude.{fold, if◌then◌else◌}
use Rattle.ppd_ast.specs.declared.plan.Plan.{Plan}
use Rattle.ppd_ast.specs.declared.program.Program.{Program}
use Rattle.ppd_sem.specs.declared.event.Event.{Event}
use Rattle.ppd_sem.specs.declared.proc.Need.{Need}
use Rattle.ppd_sem.specs.declared.proc.Need.TheVariants.{Read, Enter, Trap, Budget, Stopped}
use Rattle.ppd_sem.specs.declared.proc.Proc.{Proc}
use Rattle.ppd_sem.specs.declared.proc.Todo.{Todo}
use Rattle.ppd_sem.specs.Asked.{Asked}
use Rattle.ppd_sem.specs.Deed.{Deed, set_local, set_shared, clear, branch, turn, leave, invoke, back, take, give, send, receive, print, pass, finish}
use Rattle.ppd_sem.specs.Described.{frame_of, is_event}
use Rattle.ppd_sem.specs.Process.{head_deed, need_of}
use Rattle.ppd_model.specs.declared.trace.EventId.{EventId}
use Rattle.ppd_model.specs.declared.tracing.Story.{Story}
use Rattle.ppd_model.specs.declared.tracing.Taken.{Taken}
use Rattle.ppd_model.specs.declared.tracing.Activation.{Activation}
use Rattle.ppd_model.specs.declared.tracing.Tracing.{Tracing}
use Rattle.ppd_model.specs.FullTrace.{Tag, event_of, me_in, tagged_after, tagged_by, top_tags, trace_by, trace_step, traced_by, with_event, with_test}
use Rattle.ppd_model.proofs.TraceWords.{tagged_at}
use Rattle.ppd_model.specs.Intervals.{Split, control_by, innermost, left_by, own, split_step, with_marks, with_own, with_part, with_step}
use Rattle.ppd_model.proofs.IntervalWords.{begin_if, end_if}
use Rattle.ppd_model.specs.Marks.{Mark, closed, opened}
use Rattle.ppd_model.specs.Record.{edge_after}
use Rattle.ppd_model.specs.Story.{Moment, steps_of}
use Rattle.law_clean.proofs.Raised.{act_raised, closed_raised, event_raised, opened_raised, raised}
use Rattle.law_clean.proofs.Stopped.{AreSame, stop_moment}

abbrev pub raised_trace : ℕ → Tracing → Tracing
raised_trace d t = record t { proc = raised d t.proc }

abbrev pub raised_split : ℕ → Split → Split
raised_split d x = record x { trace = raised_trace d x.trace }

module _ (program : Program) (plan : Plan) (story : Story) (p d : ℕ) where
  -- ---- the trace

  tagged_deed : (s : Proc) (me : Tag) (x : Deed) (left : List ℤ) (acts : List Activation) → tagged_by program (raised d s) me (Ok (x, left)) acts ≡ tagged_by program s me (Ok (x, left)) acts
  tagged_deed s me (set_local c v) left acts = refl
  tagged_deed s me (set_shared c v) left acts = refl
  tagged_deed s me (clear base len) left acts = refl
  tagged_deed s me (branch stmts) left acts = refl
  tagged_deed s me (turn stmts) left acts = refl
  tagged_deed s me leave left acts = refl
  tagged_deed s me (invoke f values into) left acts = refl
  tagged_deed s me (back value) left acts = refl
  tagged_deed s me (take sem) left acts = refl
  tagged_deed s me (give sem) left acts = refl
  tagged_deed s me (send chan value) left acts = refl
  tagged_deed s me (receive chan into) left acts = refl
  tagged_deed s me (print v) left acts = refl
  tagged_deed s me pass left acts = refl
  tagged_deed s me finish left acts = refl

  tagged_asked : (s : Proc) (me : Tag) (x : Asked Deed) (acts : List Activation) → tagged_by program (raised d s) me x acts ≡ tagged_by program s me x acts
  tagged_asked s me (Ok q) acts = tagged_deed s me q.0 q.1 acts
  tagged_asked s me (Err pause) acts = refl

  tagged_todo : (s : Proc) (me : Tag) (todo : List Todo) (acts : List Activation) → tagged_at program (raised d s) me todo acts ≡ tagged_at program s me todo acts
  tagged_todo s me [] acts = refl
  tagged_todo s me (t ∷ ts) acts = tagged_asked s me (head_deed program t s) acts

  tagged_raised : (s : Proc) (me : Tag) (n : Need) (acts : List Activation) → tagged_after program (raised d s) me n acts ≡ tagged_after program s me n acts
  tagged_raised s me (Trap t) acts = refl
  tagged_raised s me n acts = tagged_todo s me s.todo acts

  event_same : (x : Taken) (t : Tracing) → need_of program plan (raised d t.proc) ≡ need_of program plan t.proc → with_event program plan story p x (raised_trace d t) ≡ raised_trace d (with_event program plan story p x t)
  event_same x t e =
      ap (λ (v : Event). record (raised_trace d t) {
        activations = tagged_after program (raised d t.proc) (Some (me_in p t)) x.need (with_test program (me_in p t) v t.activations);
        answers = [];
        events = t.events ++ traced_by program story x t v ∷ [];
      }) (event_raised program plan d t.proc x t.proc.todo e)
      ∙ ap (λ (acts : List Activation). record (raised_trace d t) {
        activations = acts;
        answers = [];
        events = t.events ++ traced_by program story x t (event_of program plan t.proc x t.proc.todo) ∷ [];
      }) (tagged_raised t.proc (Some (me_in p t)) x.need (with_test program (me_in p t) (event_of program plan t.proc x t.proc.todo) t.activations))

  by_same : (x : Taken) (n : Need) (t : Tracing) → need_of program plan (raised d t.proc) ≡ need_of program plan t.proc → trace_by program plan story p x n (raised_trace d t) ≡ raised_trace d (trace_by program plan story p x n t)
  by_same x (Read c) t e = refl
  by_same x (Enter b u) t e = refl
  by_same x Budget t e = refl
  by_same x Stopped t e = refl
  by_same x n t e = event_same x t e

  trace_same : (x : Taken) (t : Tracing) → need_of program plan (raised d t.proc) ≡ need_of program plan t.proc → trace_step program plan story p (raised_trace d t) x ≡ raised_trace d (trace_step program plan story p t x)
  trace_same x t e =
      ap₂ (λ (w : Tracing) (q : Proc). record w { proc = q }) (by_same x x.need t e) (act_raised program plan d t.proc x.answer e)

  -- ---- intervals

  step_same : (n : Need) (x : Split) → with_step n (raised_split d x) ≡ raised_split d (with_step n x)
  step_same Budget x = refl
  step_same Stopped x = refl
  step_same n x = refl

  own_if : (b : Bool) (x : Split) → (if b then innermost (with_part (own (length x.trace.events))) (raised_split d x) else raised_split d x) ≡ raised_split d (if b then innermost (with_part (own (length x.trace.events))) x else x)
  own_if true x = refl
  own_if false x = refl

  end_same : (o : Option Mark) (tags : List Tag) (x : Split) → end_if o tags (raised_split d x) ≡ raised_split d (end_if o tags x)
  end_same None tags x = refl
  end_same (Some m) tags x = refl

  begin_same : (o : Option Mark) (frame : ℕ) (control : Option EventId) (x : Split) → begin_if o frame control (raised_split d x) ≡ raised_split d (begin_if o frame control x)
  begin_same None frame control x = refl
  begin_same (Some m) frame control x = refl

  control_same : (t : Tracing) (n : Need) → control_by program p (raised_trace d t) n ≡ control_by program p t n
  control_same t (Enter b u) = refl
  control_same t n = refl

  marks_same : (n : Need) (x : Split) → with_marks program plan p n (raised_split d x) ≡ raised_split d (with_marks program plan p n x)
  marks_same n x =
      ap₂ (λ o c. begin_if o (frame_of program plan x.trace.proc) c (end_if (closed program plan (raised d x.trace.proc) n) (left_by plan (me_in p x.trace) (top_tags x.trace.activations) n) (raised_split d x)))
      (opened_raised program plan d x.trace.proc n) (control_same x.trace n)
      ∙ ap (λ c. begin_if (opened program plan x.trace.proc n) (frame_of program plan x.trace.proc) (control_by program p x.trace n) (end_if c (left_by plan (me_in p x.trace) (top_tags x.trace.activations) n) (raised_split d x)))
      (closed_raised program plan d x.trace.proc n)
      ∙ ap (begin_if (opened program plan x.trace.proc n) (frame_of program plan x.trace.proc) (control_by program p x.trace n))
      (end_same (closed program plan x.trace.proc n) (left_by plan (me_in p x.trace) (top_tags x.trace.activations) n) x)
      ∙ begin_same (opened program plan x.trace.proc n) (frame_of program plan x.trace.proc) (control_by program p x.trace n)
      (end_if (closed program plan x.trace.proc n) (left_by plan (me_in p x.trace) (top_tags x.trace.activations) n) x)

  split_same : (s : Taken) (x : Split) → need_of program plan (raised d x.trace.proc) ≡ need_of program plan x.trace.proc → split_step program plan story p (raised_split d x) s ≡ raised_split d (split_step program plan story p x s)
  split_same s x e =
      let inner : with_marks program plan p s.need (with_own s.need (with_step s.need (raised_split d x))) ≡ raised_split d (with_marks program plan p s.need (with_own s.need (with_step s.need x))) =
      ap (λ y. with_marks program plan p s.need (with_own s.need y)) (step_same s.need x)
      ∙ ap (with_marks program plan p s.need) (own_if (is_event s.need) (with_step s.need x))
      ∙ marks_same s.need (with_own s.need (with_step s.need x)) in
      ap₂ (λ (y : Split) (t : Tracing). record y { trace = t; edges = x.edges ++ x.edge ∷ []; edge = edge_after x.edge s }) inner (trace_same s x.trace e)

  pub splits_raised : (ms : List Moment) (x : Split) → AreSame program plan d x.trace.proc ms
      → fold (split_step program plan story p) (raised_split d x) (steps_of ms) ≡ raised_split d (fold (split_step program plan story p) x (steps_of ms))
  splits_raised [] x same = refl
  splits_raised (m ∷ ms) x same =
      ap (λ y. fold (split_step program plan story p) y (steps_of ms)) (split_same m.taken x same.0) ∙ splits_raised ms (split_step program plan story p x m.taken) same.1

  -- the stop changes no interval
  pub stop_same : (x : Split) → (split_step program plan story p x stop_moment.taken).spans ≡ x.spans
  stop_same x = refl

  pub stop_events : (x : Split) → (split_step program plan story p x stop_moment.taken).trace.events ≡ x.trace.events
  stop_events x = refl
