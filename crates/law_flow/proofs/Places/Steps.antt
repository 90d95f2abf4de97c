-- What each step of a running process is, opens and calls.
use Rattle.std.proofs.Common.{◌≡◌, ℕ, ◌+◌, true, List, [], ◌∷◌, ◌++◌, Option, Some, None, refl, ap, ap₂, sym, subst, ◌∙◌, length, true≢false}
use Rattle.std.proofs.lemmas.Option.{none-some}
use Rattle.std.specs.Prelude.{drop, slice_get}
use Rattle.ppd_ast.specs.Valid.{IsValid}
use Rattle.ppd_ast.specs.declared.plan.Plan.{Plan}
use Rattle.ppd_ast.specs.declared.program.Program.{Program}
use Rattle.ppd_ast.specs.Lookups.{kind_of}
use Rattle.law_steps.specs.Course.{calls_of}
use Rattle.law_steps.specs.OpenBlocks.Stack.{IsInOrder, returning}
use Rattle.law_steps.proofs.OpenBlocks.DeedKinds.{while_stays}
use Rattle.ppd_sem.specs.declared.proc.Need.{Need}
use Rattle.ppd_sem.specs.declared.proc.Need.TheVariants as need
use Rattle.ppd_sem.specs.declared.proc.Proc.{Proc}
use Rattle.ppd_sem.specs.declared.proc.Todo.{Todo}
use Rattle.ppd_sem.specs.Process.{act, act_by_asked, act_by_need, head_deed, need_of}
use Rattle.ppd_sem.proofs.NeedWords.{act_at, need_of_running}
use Rattle.ppd_sem.proofs.Progress.{need_at_todo}
use Rattle.ppd_sem.specs.Described.{is_event}
use Rattle.ppd_sem.specs.Runs.{bodies_in}
use Rattle.ppd_model.specs.Logs.{status_of}
use Rattle.ppd_model.specs.declared.trace.EventId.{EventId}
use Rattle.ppd_model.specs.declared.tracing.Activation.{Activation}
use Rattle.ppd_model.specs.declared.tracing.Story.{Story}
use Rattle.ppd_model.specs.declared.tracing.Taken.{Taken}
use Rattle.ppd_model.specs.declared.tracing.Tracing.{Tracing}
use Rattle.ppd_model.specs.FullTrace.{event_of, me_in, tagged_after, tagged_by, trace_by, traced_by, with_test}
use Rattle.ppd_model.proofs.TraceWords.{tagged_at}
use Rattle.ppd_model.proofs.CountedOn.{last_at}
use Rattle.law_flow.specs.Places.Closing.{closing}
use Rattle.law_flow.specs.Places.Leaves.{Begun, begun_by, begun_from}
use Rattle.law_flow.proofs.Places.Begins.{events_in, frames_back, frames_called, frames_other, tags_back, tags_called, tags_other, test_same}
use Rattle.law_flow.proofs.Places.Calling.{while_no_call}
use Rattle.law_flow.proofs.Places.Moves.{IsOf, IsOther, MovesTo, head_moves}

-- the event of a step that is one
pub event_there : (program : Program) (plan : Plan) (story : Story) (p : ℕ) (x : Taken) (t : Tracing) (n : Need)
    → is_event n ≡ true
    → slice_get (trace_by program plan story p x n t).events (length t.events)
    ≡ Some (traced_by program story x t (event_of program plan t.proc x t.proc.todo))
event_there program plan story p x t (need.Read c) e = absurd (true≢false (sym e))
event_there program plan story p x t (need.Enter b u) e = absurd (true≢false (sym e))
event_there program plan story p x t need.Budget e = absurd (true≢false (sym e))
event_there program plan story p x t need.Stopped e = absurd (true≢false (sym e))
event_there program plan story p x t n e = last_at t.events _

-- ---- which calls began the activations

-- after a step with this need, of statement s, which is this event
abbrev pub begun_after : ℕ → EventId → Need → List Begun → List Begun
begun_after s me (need.Invoke o u) cs = record { stmt = Some s; event = Some me } ∷ cs
begun_after s me (need.Back o u) cs = drop 1 cs
begun_after s me n cs = cs

nil_events : (cs : List (Option ℕ)) → begun_from cs [] ≡ []
nil_events [] = refl
nil_events (c ∷ cs) = refl

drop_both : (cs : List (Option ℕ)) (es : List (Option EventId))
    → begun_from (drop 1 cs) (drop 1 es) ≡ drop 1 (begun_from cs es)
drop_both [] [] = refl
drop_both [] (e ∷ es) = refl
drop_both (c ∷ cs) [] = nil_events cs
drop_both (c ∷ cs) (e ∷ es) = refl

module _ (program : Program) (plan : Plan) (story : Story) (p : ℕ) (x : Taken) (t : Tracing) (h : Todo)
    (hs : List Todo) (is : t.proc.todo ≡ h ∷ hs) where
  abbrev s : Proc
  s = t.proc

  abbrev me : EventId
  me = me_in p t

  abbrev tested : List Activation
  tested = with_test program me (event_of program plan s x s.todo) t.activations

  same_tests : events_in tested ≡ events_in t.activations
  same_tests = test_same program plan x.answer h hs s me (event_of program plan s x s.todo) t.activations

  -- the activations after a step that does not trap
  at_head : tagged_at program s (Some me) s.todo tested ≡ tagged_by program s (Some me) (head_deed program h s) tested
  at_head = ap (λ todo. tagged_at program s (Some me) todo tested) is

  abbrev frames_to : Need → List (Option ℕ)
  frames_to n = calls_of (act_by_need program plan x.answer h hs n s).frames

  -- the calls of the activations after an event with this need
  abbrev traced : Need → List (Option EventId)
  traced n = events_in (tagged_after program s (Some me) n tested)

  abbrev Same : Need → Type 0
  Same n = begun_from (frames_to n) (traced x.need) ≡ begun_by s.frames t.activations

  other : (n : Need) → traced x.need ≡ events_in (tagged_at program s (Some me) s.todo tested)
      → IsOther (kind_of program h.stmt) → frames_to n ≡ calls_of s.frames → Same n
  other n mine o same = ap₂ begun_from same (mine ∙ ap events_in at_head
      ∙ tags_other program plan x.answer h hs s (Some me) tested o ∙ same_tests)

  by_asked : IsOther (kind_of program h.stmt)
      → calls_of (act_by_asked program x.answer h hs (head_deed program h s) s).frames ≡ calls_of s.frames
  by_asked o = frames_other program plan x.answer h hs s o

  pub begun_is : (n : Need) → x.need ≡ n → IsOf program plan h s n → status_of n ≡ None
      → begun_by (act_by_need program plan x.answer h hs n s).frames
      (trace_by program plan story p x n t).activations ≡ begun_after h.stmt me n (begun_by s.frames t.activations)
  begun_is (need.Read c) e o run =
      ap (λ a. begun_from (calls_of (act_by_asked program x.answer h hs a s).frames) (events_in t.activations)) o
  begun_is (need.Write c v) e o run = other (need.Write c v) (ap traced e) o (by_asked o)
  begun_is need.Plain e o run = other need.Plain (ap traced e) o (by_asked o)
  begun_is (need.Enter b u) e o run = refl
  begun_is (need.Leave b u) e o run =
      let k : IsOther (kind_of program h.stmt) =
      record {
        no_call = while_no_call (kind_of program h.stmt) o.loop;
        stays =
            while_stays (kind_of program h.stmt) o.loop;
      } in
      other (need.Leave b u) (ap traced e) k (by_asked k)
  begun_is (need.Invoke b u) e o run =
      ap₂ begun_from (frames_called program plan x.answer h hs s o.function o.values o.into o.left o.deed)
      (ap traced e ∙ ap events_in at_head
      ∙ tags_called program plan x.answer h hs s (Some me) tested o.function o.values o.into o.left o.deed
      ∙ ap (λ es. Some me ∷ es) same_tests)
  begun_is (need.Back b u) e o run =
      ap₂ begun_from (frames_back program plan x.answer h hs s o.value o.left o.deed)
      (ap traced e ∙ ap events_in at_head
      ∙ tags_back program plan x.answer h hs s (Some me) tested o.value o.left o.deed
      ∙ ap (λ es. drop 1 es) same_tests)
      ∙ drop_both (calls_of s.frames) (events_in t.activations)
  begun_is (need.P c u) e o run = other (need.P c u) (ap traced e) o (by_asked o)
  begun_is (need.V c u) e o run = other (need.V c u) (ap traced e) o (by_asked o)
  begun_is (need.Send c v u) e o run = other (need.Send c v u) (ap traced e) o (by_asked o)
  begun_is (need.Offer c v) e o run = other (need.Offer c v) (ap traced e) o refl
  begun_is (need.Done c u) e o run = other (need.Done c u) (ap traced e) o refl
  begun_is (need.Recv c u) e o run = other (need.Recv c u) (ap traced e) o (by_asked o)
  begun_is (need.End b) e o run = absurd (none-some _ (sym run))
  begun_is (need.Trap a) e o run = absurd (none-some _ (sym run))
  begun_is need.Budget e o run = absurd (none-some _ (sym run))
  begun_is need.Stopped e o run = refl

-- ---- a step of a running process

-- what it moves and is of, and which calls began the activations then
pub record IsStep (program : Program) (plan : Plan) (story : Story) (p : ℕ) (x : Taken) (t : Tracing) (h : Todo)
    (n : Need) : Type 0 where
  pub moves : MovesTo n (closing program plan t.proc.todo)
      (closing program plan (act program plan t.proc x.answer).todo)
  pub of : IsOf program plan h t.proc n
  pub begun : begun_by (act program plan t.proc x.answer).frames (trace_by program plan story p x n t).activations
      ≡ begun_after h.stmt (me_in p t) n (begun_by t.proc.frames t.activations)

pub step_is : (program : Program) (plan : Plan) (story : Story) (p : ℕ) (x : Taken) (t : Tracing) (h : Todo)
    (hs : List Todo) → IsValid program → IsInOrder program plan p t.proc
    → t.proc.status ≡ None → t.proc.todo ≡ h ∷ hs → x.need ≡ need_of program plan t.proc
    → status_of (need_of program plan t.proc) ≡ None
    → IsStep program plan story p x t h (need_of program plan t.proc)
step_is program plan story p x t h hs v order runs is mine goes =
    let s : Proc = t.proc in
    let needs : need_of program plan s ≡ need_of_running program plan (h ∷ hs) s =
    need_at_todo program plan s (h ∷ hs) runs is in
    let now : act program plan s x.answer ≡ act_by_need program plan x.answer h hs (need_of program plan s) s =
    ap (λ todo. act_at program plan x.answer todo s) is in
    let framed : bodies_in s.frames ≡ returning program (h ∷ hs) ++ (program.functions + p) ∷ [] = order.frames
    ∙ ap (λ todo. returning program todo ++ (program.functions + p) ∷ []) is in
    let both = subst (λ n. MovesTo n (closing program plan (h ∷ hs))
    (closing program plan (act_by_need program plan x.answer h hs n s).todo) × IsOf program plan h s n) (sym needs)
    (head_moves program plan p v x.answer h hs s is framed) in
    record {
      moves =
          subst (λ todo. MovesTo (need_of program plan s) (closing program plan todo)
          (closing program plan (act program plan s x.answer).todo)) (sym is)
          (subst (λ (q : Proc). MovesTo (need_of program plan s) (closing program plan (h ∷ hs))
          (closing program plan q.todo)) (sym now) both.0);
      of = both.1;
      begun =
          subst (λ (q : Proc). begun_by q.frames
          (trace_by program plan story p x (need_of program plan s) t).activations
          ≡ begun_after h.stmt (me_in p t) (need_of program plan s) (begun_by s.frames t.activations)) (sym now)
          (begun_is program plan story p x t h hs is (need_of program plan s) mine both.1 goes);
    }
