-- The value of each local cell that an event reads comes over a data edge.
use Rattle.ppd_model.specs.Setting.{Setting}
use Rattle.law_steps.proofs.StaticEdges.Edges.{local_data}
use Rattle.law_steps.proofs.StaticEdges.Events.{IsStepOf, event_step, in_trace, traced_by_steps}
use Rattle.law_steps.proofs.StaticEdges.OwnCells.Locals.{Holds, IsIn, holds_all, holds_start}
use Rattle.law_steps.proofs.StaticEdges.OwnCells.Ways.{AllCome, HasWay, IsCome}
use Rattle.law_steps.proofs.StaticEdges.Reading.{MayRead, read_may}
use Rattle.law_steps.proofs.StaticEdges.States.{HasHead, event_head}
use Rattle.law_steps.proofs.StaticEdges.Vars.{met}
use Rattle.law_steps.specs.Course.{calls_of}
use Rattle.law_steps.specs.Sound.{ComesOverData, HasWriter, LocalReadsComeOverEdges}
use Rattle.ppd_ast.specs.Lookups.{body_numbered, body_of, kind_of}
use Rattle.ppd_ast.specs.Members.{has}
use Rattle.ppd_ast.specs.Valid.{IsValid}
use Rattle.ppd_ast.specs.declared.plan.Plan.{Plan}
use Rattle.ppd_ast.specs.declared.program.Program.{Program}
use Rattle.ppd_model.proofs.LocalTags.{own_steps_told}
use Rattle.ppd_model.proofs.Parents.{own_from, own_to}
use Rattle.ppd_model.specs.FullTrace.{Tag, begun_tracing, event_of, full_trace, tag_past, tags_of, top_tags}
use Rattle.ppd_model.specs.LocalTags.{AreOwn, locals}
use Rattle.ppd_model.specs.Story.{story}
use Rattle.ppd_model.specs.declared.trace.EventId.{EventId}
use Rattle.ppd_model.specs.declared.trace.TracedEvent.{TracedEvent}
use Rattle.ppd_model.specs.declared.tracing.Activation.{Activation}
use Rattle.ppd_model.specs.declared.tracing.Story.{Story}
use Rattle.ppd_model.specs.declared.tracing.Taken.{Taken}
use Rattle.ppd_model.specs.declared.tracing.Tracing.{Tracing}
use Rattle.ppd_sem.specs.Described.{evaluates, frame_of, is_event}
use Rattle.ppd_sem.specs.Passed.{next_stmt_of}
use Rattle.ppd_sem.specs.Process.{need_of, started, top_frame}
use Rattle.ppd_sem.specs.Reads.{reads_of_kind}
use Rattle.ppd_sem.specs.declared.event.Access.{Access}
use Rattle.ppd_sem.specs.declared.event.Event.{Event}
use Rattle.ppd_sem.specs.declared.event.Spot.TheVariants.{Local}
use Rattle.ppd_sem.specs.declared.proc.Proc.{Proc}
use Rattle.ppd_sem.specs.declared.proc.Todo.{Todo}
use Rattle.ppd_sets.specs.Named.{reads}
use Rattle.ppd_sets.specs.Used.{reads_at}
use Rattle.std.proofs.Common.{Bool, List, None, Option, Some, [], ap, false, get_or, if◌then◌else◌, subst, suc, sym, true, zero, ℕ, ◌++◌, ◌∙◌, ◌∷◌, ◌≡◌}
use Rattle.std.specs.Prelude.{IsTrue, slice_get}

-- ---- the reads of an event

if_there : (b : Bool) (xs : List Access) (i : ℕ) (a : Access) → slice_get (if b then xs else []) i ≡ Some a → slice_get xs i ≡ Some a
if_there true xs i a h = h
if_there false xs i a h = absurd (cc)

-- a read of an event is one of its statement
pub statement_read : (program : Program) (plan : Plan) (s : Proc) (x : Taken) (t : Todo) (ts : List Todo) (i : ℕ) (a : Access) → s.todo ≡ t ∷ ts → slice_get (event_of program plan s x s.todo).reads i ≡ Some a
    → slice_get (reads_of_kind (frame_of program plan s) program.exprs (kind_of program t.stmt) (top_frame s.frames).cells s.answers) i ≡ Some a
statement_read program plan s x t ts i a is h =
    if_there (evaluates (need_of program plan s)) (reads_of_kind (frame_of program plan s) program.exprs (kind_of program t.stmt) (top_frame s.frames).cells s.answers) i a
    (sym (ap (λ todo. slice_get (event_of program plan s x todo).reads i) is) ∙ h)

-- and may be read there
pub may_read : (program : Program) (plan : Plan) (s : Proc) (x : Taken) (t : Todo) (ts : List Todo) (i : ℕ) (a : Access) → s.todo ≡ t ∷ ts → slice_get (event_of program plan s x s.todo).reads i ≡ Some a → MayRead program.exprs (kind_of program t.stmt) a.spot
may_read program plan s x t ts i a is h =
    read_may (frame_of program plan s) program.exprs (kind_of program t.stmt) (top_frame s.frames).cells s.answers i a (statement_read program plan s x t ts i a is h)

-- the tag of a local cell that is read
local_tag : (tags answers : List Tag) (as' : List Access) (i : ℕ) (a : Access) (w : Tag) (frame c : ℕ) → slice_get as' i ≡ Some a → slice_get (tags_of tags answers as') i ≡ Some w → a.spot ≡ Local frame c → w ≡ get_or tags c None
local_tag tags answers [] i a w frame c h g is = absurd (cc)
local_tag tags answers (x ∷ xs) zero a w frame c h g is =
    let same : x ≡ a = cc in
    let tag : (tag_past tags answers x.spot).0 ≡ w = cc in
    sym tag ∙ ap (λ (y : Access). (tag_past tags answers y.spot).0) same ∙ ap (λ s. (tag_past tags answers s).0) is
local_tag tags answers (x ∷ xs) (suc i) a w frame c h g is = local_tag tags (tag_past tags answers x.spot).1 xs i a w frame c h g is

-- ---- the way of a read

-- what is there of the cell of the top frame
top_way : (program : Program) (E : EventId → ℕ → Type 0) (at c : ℕ) (id : EventId) (os : List (Option ℕ)) (acts : List Activation) → AllCome program E (Some at ∷ os) (locals acts) → Some id ≡ get_or (top_tags acts) c None → HasWay program E (body_of program at) at c id
top_way program E at c id os [] come is = absurd (cc)
top_way program E at c id os (x ∷ xs) come is = subst (λ tag. IsCome program E (body_of program at) at c tag) (sym is) (come.0 c)

module _ (setting : Setting) (h : List ℕ) (p : ℕ) (v : IsValid setting.program) where
  abbrev told_story : Story
  told_story = story setting h

  abbrev begun : Tracing
  begun = begun_tracing (started setting.program setting.plan p setting.budget)

  -- the states of a trace's steps
  pub own_here : (before : List Taken) (x : Taken) (after : List Taken) → get_or told_story.steps p [] ≡ before ++ x ∷ after → AreOwn setting.program setting.plan begun.proc (before ++ x ∷ after)
  own_here before x after steps = subst (λ xs. AreOwn setting.program setting.plan begun.proc xs) steps (own_steps_told setting h p)

  pub own_need : (before : List Taken) (x : Taken) (after : List Taken) → get_or told_story.steps p [] ≡ before ++ x ∷ after → x.need ≡ need_of setting.program setting.plan (traced_by_steps setting h p before).proc
  own_need before x after steps = (own_from setting.program setting.plan told_story p begun before (x ∷ after) (own_here before x after steps)).0

  pub holds_here : (before : List Taken) (x : Taken) (after : List Taken) → get_or told_story.steps p [] ≡ before ++ x ∷ after → Holds setting.program setting.plan told_story p v (traced_by_steps setting h p before)
  holds_here before x after steps =
      holds_all setting.program setting.plan told_story p v begun before (own_to setting.program setting.plan told_story p begun.proc before (x ∷ after) (own_here before x after steps)) (holds_start setting.program setting.plan told_story p v setting.budget)

  -- a way gives an edge
  way_edge : (before : List Taken) (x : Taken) (after : List Taken) (t c frame : ℕ) (id : EventId) → get_or told_story.steps p [] ≡ before ++ x ∷ after → IsTrue (has (reads_at false setting.program t) c)
      → HasWay setting.program (IsIn setting.program setting.plan told_story p v (traced_by_steps setting h p before)) (body_of setting.program t) t c id → ComesOverData setting.program (full_trace setting (story setting h)) id t (Local frame c)
  way_edge before x after t c frame id steps reads w = record {
    from = w.from;
    is_of = in_trace setting h p before (x ∷ after) id w.is_of.event w.from steps w.is_of.own w.is_of.there w.is_of.stmt_is;
    var = w.var;
    is_cell = w.in_var;
    edge = λ lt. local_data setting.program w.from t w.var w.there (met (body_numbered setting.program (body_of setting.program t)).locals (reads_at false setting.program t) w.var c lt w.in_var reads) (w.comes lt);
  }

  pub local_comes : (e : TracedEvent) (i : ℕ) (a : Access) (id : EventId) (frame c : ℕ) → IsStepOf setting.program setting.plan told_story p begun (get_or told_story.steps p []) e → HasWriter e i a id → a.spot ≡ Local frame c
      → ComesOverData setting.program (full_trace setting (story setting h)) id e.event.stmt (Local frame c)
  local_comes e i a id frame c s w spot =
      let u : Tracing = traced_by_steps setting h p s.before in
      let head : HasHead u.proc = event_head setting.program setting.plan u.proc (ap is_event (sym (own_need s.before s.taken s.after s.steps_are)) ∙ s.finishes) in
      let t : ℕ = head.head.stmt in
      let event : e.event ≡ event_of setting.program setting.plan u.proc s.taken u.proc.todo = ap (λ (y : TracedEvent). y.event) s.event_is in
      let read : slice_get (event_of setting.program setting.plan u.proc s.taken u.proc.todo).reads i ≡ Some a = sym (ap (λ (y : Event). slice_get y.reads i) event) ∙ w.read in
      let tags : slice_get (tags_of (top_tags u.activations) u.answers (event_of setting.program setting.plan u.proc s.taken u.proc.todo).reads) i ≡ Some (Some id) = sym (ap (λ (y : TracedEvent). slice_get y.writers i) s.event_is) ∙ w.writer in
      let tag : Some id ≡ get_or (top_tags u.activations) c None = local_tag (top_tags u.activations) u.answers (event_of setting.program setting.plan u.proc s.taken u.proc.todo).reads i a (Some id) frame c read tags spot in
      let come : AllCome setting.program (IsIn setting.program setting.plan told_story p v u) (Some t ∷ calls_of u.proc.frames) (locals u.activations) =
      subst (λ o. AllCome setting.program (IsIn setting.program setting.plan told_story p v u) (o ∷ calls_of u.proc.frames) (locals u.activations)) (ap next_stmt_of head.is) (holds_here s.before s.taken s.after s.steps_are).come in
      let may : IsTrue (has (reads false setting.program.exprs (kind_of setting.program t)) c) = (may_read setting.program setting.plan u.proc s.taken head.head head.rest i a head.is read).local_cell frame c spot in
      let stmt : t ≡ e.event.stmt = sym (ap (λ todo. (event_of setting.program setting.plan u.proc s.taken todo).stmt) head.is) ∙ sym (ap (λ (y : Event). y.stmt) event) in
      subst (λ n. ComesOverData setting.program (full_trace setting (story setting h)) id n (Local frame c)) stmt
      (way_edge s.before s.taken s.after t c frame id s.steps_are may
      (top_way setting.program (IsIn setting.program setting.plan told_story p v u) t c id (calls_of u.proc.frames) u.activations come tag))

pub local_reads_come : LocalReadsComeOverEdges
local_reads_come setting h p n e i a id frame c v is w spot =
    local_comes setting h p v e i a id frame c (event_step setting h p n e is) w spot
