-- The value of each shared cell that an event reads comes over a data edge.
use Rattle.ppd_model.specs.Setting.{Setting}
use Rattle.law_steps.proofs.StaticEdges.Edges.{shared_data}
use Rattle.law_steps.proofs.StaticEdges.Events.{IsStepOf, event_step, is_event_of, traced_by_steps}
use Rattle.law_steps.proofs.StaticEdges.OwnCells.LocalReads.{holds_here, may_read, own_here, own_need, statement_read}
use Rattle.law_steps.proofs.StaticEdges.OwnCells.Locals.{Holds}
use Rattle.law_steps.proofs.StaticEdges.SharedCells.Aligned.{AreTaken, HasAnswers, TakenAt, aligned, answers_all, answers_start, evaluates_at}
use Rattle.law_steps.proofs.StaticEdges.SharedCells.Telling.{reads_told}
use Rattle.law_steps.proofs.StaticEdges.SharedCells.Writers.{EachReadIs, IsWrite, IsWriter, events_in, reads_first}
use Rattle.law_steps.proofs.StaticEdges.SharedCells.Writing.{count_events, head_runs, is_running, written}
use Rattle.law_steps.proofs.StaticEdges.States.{HasHead, event_head, head_there}
use Rattle.law_steps.proofs.StaticEdges.Vars.{HasVar, met, shared_var}
use Rattle.law_steps.specs.Sound.{ComesOverData, HasWriter, IsEventOf, SharedReadsComeOverEdges, event_at}
use Rattle.ppd_ast.specs.Lookups.{body_of, kind_of}
use Rattle.ppd_ast.specs.Members.{has}
use Rattle.ppd_ast.specs.Valid.{IsValid}
use Rattle.ppd_ast.specs.declared.plan.Plan.{Plan}
use Rattle.ppd_ast.specs.declared.program.Program.{Program}
use Rattle.ppd_ast.specs.declared.status.Status.{Status}
use Rattle.ppd_deps.proofs.Arriving.{body_there}
use Rattle.ppd_deps.specs.Named.{running, shared_writes}
use Rattle.ppd_model.proofs.Homes.{AreHome}
use Rattle.ppd_model.proofs.Parents.{own_to}
use Rattle.ppd_model.specs.FullTrace.{Tag, begun_tracing, event_of, full_trace, me_in, tags_of, top_tags}
use Rattle.ppd_model.specs.Story.{story}
use Rattle.ppd_model.specs.declared.trace.EventId.{EventId}
use Rattle.ppd_model.specs.declared.trace.TracedEvent.{TracedEvent}
use Rattle.ppd_model.specs.declared.tracing.Story.{Story}
use Rattle.ppd_model.specs.declared.tracing.Taken.{Taken}
use Rattle.ppd_model.specs.declared.tracing.Tracing.{Tracing}
use Rattle.ppd_sem.proofs.Consumed.{reads_taken}
use Rattle.ppd_sem.proofs.NeedWords.{need_by_status}
use Rattle.ppd_sem.specs.Consumed.{Takes, shared_of}
use Rattle.ppd_sem.specs.Described.{evaluates, frame_of, is_event}
use Rattle.ppd_sem.specs.Process.{need_of, started, top_frame}
use Rattle.ppd_sem.specs.Reads.{reads_of_kind}
use Rattle.ppd_sem.specs.Runs.{bodies_in}
use Rattle.ppd_sem.specs.declared.event.Access.{Access}
use Rattle.ppd_sem.specs.declared.event.Event.{Event}
use Rattle.ppd_sem.specs.declared.event.Spot.TheVariants.{Shared}
use Rattle.ppd_sem.specs.declared.proc.Need.TheVariants.{Write}
use Rattle.ppd_sem.specs.declared.proc.Proc.{Proc}
use Rattle.ppd_sem.specs.declared.proc.Todo.{Todo}
use Rattle.ppd_sets.specs.Named.{reads}
use Rattle.ppd_sets.specs.Used.{reads_at, vars_met, writes_at}
use Rattle.std.proofs.Common.{Bool, List, None, Option, Some, [], ap, arith, false, if◌then◌else◌, length, map, refl, subst, suc, sym, true, zero, ℕ, ◌++◌, ◌+◌, ◌<◌, ◌∙◌, ◌∷◌, ◌≡◌}
use Rattle.std.proofs.lemmas.Bool.{cond-true}
use Rattle.std.specs.Prelude.{IsTrue, get_or, slice_get}

-- ---- reads

tags_there : (b : Bool) (ls tags : List Tag) (xs : List Access) (i : ℕ) (w : Tag) → slice_get (tags_of ls tags (if b then xs else [])) i ≡ Some w → slice_get (tags_of ls tags xs) i ≡ Some w
tags_there true ls tags xs i w h = h
tags_there false ls tags xs i w h = absurd (cc)

spot_there : (xs : List Access) (i : ℕ) (a : Access) → slice_get xs i ≡ Some a → slice_get (map (λ a. a.spot) xs) i ≡ Some a.spot
spot_there [] i a h = absurd (cc)
spot_there (x ∷ xs) zero a h = let same : x ≡ a = cc in ap (λ (y : Access). Some y.spot) same
spot_there (x ∷ xs) (suc i) a h = spot_there xs i a h

-- a process of which an event comes goes on
pub runs_on : (program : Program) (plan : Plan) (s : Proc) → is_event (need_of program plan s) ≡ true → s.status ≡ None
runs_on program plan s e = by s.status refl
  where
    by : (o : Option Status) → s.status ≡ o → s.status ≡ None
    by None is = is
    by (Some st) is = absurd (stopped (sym (ap (λ o. is_event (need_by_status program plan o s)) is) ∙ e))
      where
        stopped : false ≡ true → ⊥
        stopped h = absurd (cc)

module _ (setting : Setting) (h : List ℕ) (v : IsValid setting.program) where
  abbrev told_story : Story
  told_story = story setting h

  -- ---- the writer

  -- the event of a write, its statement and that it writes the cell where it runs
  record IsWrittenAt (id : EventId) (c : ℕ) : Type 0 where
    stmt : ℕ
    there : stmt < length setting.program.stmts
    is_of : IsEventOf (full_trace setting (story setting h)) id stmt
    writes : IsTrue (has (writes_at true setting.program stmt) c)
    runs : IsTrue (has (running setting.program) (body_of setting.program stmt))

  write_at : (id : EventId) (c : ℕ) → IsWrite told_story.steps c id → IsWrittenAt id c
  write_at id c w =
      let q : ℕ = id.process in
      let u : Tracing = traced_by_steps setting h q w.before in
      let own : w.taken.need ≡ need_of setting.program setting.plan u.proc = own_need setting h q v w.before w.taken w.after w.steps_are in
      let need : need_of setting.program setting.plan u.proc ≡ Write c w.value = sym own ∙ w.writes in
      let head : HasHead u.proc = event_head setting.program setting.plan u.proc (ap is_event need) in
      let holds : Holds setting.program setting.plan told_story q v u = holds_here setting h q v w.before w.taken w.after w.steps_are in
      let t : ℕ = head.head.stmt in
      let below : t < length setting.program.stmts = head_there setting.program u.proc head holds.runs in
      let of : IsEventOf (full_trace setting (story setting h)) (me_in q u) t =
      is_event_of setting h q w.before w.taken w.after t w.steps_are (ap is_event w.writes) (ap (λ todo. (event_of setting.program setting.plan u.proc w.taken todo).stmt) head.is) in
      let count : length u.events ≡ 0 + events_in w.before = count_events setting.program setting.plan told_story q (begun_tracing (started setting.program setting.plan q setting.budget)) w.before in
      let number : id.number ≡ events_in w.before = w.number_is in
      let counted : length u.events ≡ id.number = omega arith in
      record {
        stmt = t;
        there = below;
        is_of = record { event = of.event; there = ap (λ n. event_at (full_trace setting (story setting h)) q n) (sym counted) ∙ of.there; stmt_is = of.stmt_is };
        writes = written setting.program setting.plan u.proc head.head head.rest c w.value head.is need;
        runs = is_running setting.program (body_of setting.program t) (body_there setting.program t v below) (head_runs setting.program u.proc.frames head.head head.rest (subst (λ todo. AreHome setting.program (bodies_in u.proc.frames) todo) head.is holds.home) holds.sound.run);
      }

  -- a write gives an edge
  write_edge : (id : EventId) (t c : ℕ) → IsTrue (has (reads_at true setting.program t) c) → IsWrittenAt id c → ComesOverData setting.program (full_trace setting (story setting h)) id t (Shared c)
  write_edge id t c reads w =
      let x : HasVar setting.program.shared c = shared_var setting.program w.stmt c v w.writes in
      record {
        from = w.stmt;
        is_of = w.is_of;
        var = x.var;
        is_cell = x.in_var;
        edge = λ lt.
            let listed : IsTrue (has (vars_met setting.program.shared (writes_at true setting.program w.stmt)) x.var) = met setting.program.shared (writes_at true setting.program w.stmt) x.var c lt x.in_var w.writes in
            let writes : IsTrue (has (shared_writes setting.program w.stmt) x.var) =
            subst (λ xs. IsTrue (has xs x.var)) (sym (cond-true (has (running setting.program) (body_of setting.program w.stmt)) (vars_met setting.program.shared (writes_at true setting.program w.stmt)) [] w.runs)) listed in
            shared_data setting.program w.stmt t x.var w.there writes (met setting.program.shared (reads_at true setting.program t) x.var c lt x.in_var reads);
      }

  -- ---- the reader

  module _ (p : ℕ) where
    abbrev begun : Tracing
    begun = begun_tracing (started setting.program setting.plan p setting.budget)

    answers_here : (before : List Taken) (x : Taken) (after : List Taken) → get_or told_story.steps p [] ≡ before ++ x ∷ after
        → HasAnswers setting.program told_story.steps (traced_by_steps setting h p before).proc (traced_by_steps setting h p before).answers
    answers_here before x after steps =
        answers_all setting.program setting.plan told_story p told_story.steps begun before (own_to setting.program setting.plan told_story p begun.proc before (x ∷ after) (own_here setting h p v before x after steps))
        (reads_first told_story.steps before (x ∷ after) (subst (λ xs. EachReadIs told_story.steps xs) steps (reads_told setting h p)))
        (answers_start setting.program setting.plan told_story p told_story.steps setting.budget)

    -- the tag of a read is of a writer of its cell
    writer_is : (u : Tracing) (x : Taken) (t : Todo) (ts : List Todo) (i c : ℕ) (a : Access) (w : Tag) → u.proc.todo ≡ t ∷ ts → AreTaken told_story.steps (evaluates_at setting.program t u.proc) [] u.proc.answers u.answers
        → slice_get (event_of setting.program setting.plan u.proc x u.proc.todo).reads i ≡ Some a → a.spot ≡ Shared c → slice_get (tags_of (top_tags u.activations) u.answers (event_of setting.program setting.plan u.proc x u.proc.todo).reads) i ≡ Some w → IsWriter told_story.steps c w
    writer_is u x t ts i c a w is taken read spot tag =
        let all : List Access = reads_of_kind (frame_of setting.program setting.plan u.proc) setting.program.exprs (kind_of setting.program t.stmt) (top_frame u.proc.frames).cells u.proc.answers in
        let takes : Takes (evaluates_at setting.program t u.proc) u.proc.answers (shared_of all) = reads_taken.statement (frame_of setting.program setting.plan u.proc) setting.program.exprs (kind_of setting.program t.stmt) (top_frame u.proc.frames).cells u.proc.answers in
        let at : slice_get (map (λ a. a.spot) all) i ≡ Some (Shared c) = spot_there all i a (statement_read setting.program setting.plan u.proc x t ts i a is read) ∙ ap Some spot in
        let tags : slice_get (tags_of (top_tags u.activations) u.answers all) i ≡ Some w =
        tags_there (evaluates (need_of setting.program setting.plan u.proc)) (top_tags u.activations) u.answers all i w
        (sym (ap (λ todo. slice_get (tags_of (top_tags u.activations) u.answers (event_of setting.program setting.plan u.proc x todo).reads) i) is) ∙ tag) in
        aligned told_story.steps (evaluates_at setting.program t u.proc) (top_tags u.activations) all [] takes.left u.answers i c w takes.in_turn
        (subst (λ vs. AreTaken told_story.steps (evaluates_at setting.program t u.proc) [] vs u.answers) (sym takes.all) taken) at tags

    pub shared_comes : (e : TracedEvent) (i : ℕ) (a : Access) (id : EventId) (c : ℕ) → IsStepOf setting.program setting.plan told_story p begun (get_or told_story.steps p []) e → HasWriter e i a id → a.spot ≡ Shared c
        → ComesOverData setting.program (full_trace setting (story setting h)) id e.event.stmt (Shared c)
    shared_comes e i a id c s w spot =
        let u : Tracing = traced_by_steps setting h p s.before in
        let finishes : is_event (need_of setting.program setting.plan u.proc) ≡ true = ap is_event (sym (own_need setting h p v s.before s.taken s.after s.steps_are)) ∙ s.finishes in
        let head : HasHead u.proc = event_head setting.program setting.plan u.proc finishes in
        let t : ℕ = head.head.stmt in
        let event : e.event ≡ event_of setting.program setting.plan u.proc s.taken u.proc.todo = ap (λ (y : TracedEvent). y.event) s.event_is in
        let read : slice_get (event_of setting.program setting.plan u.proc s.taken u.proc.todo).reads i ≡ Some a = sym (ap (λ (y : Event). slice_get y.reads i) event) ∙ w.read in
        let tags : slice_get (tags_of (top_tags u.activations) u.answers (event_of setting.program setting.plan u.proc s.taken u.proc.todo).reads) i ≡ Some (Some id) = sym (ap (λ (y : TracedEvent). slice_get y.writers i) s.event_is) ∙ w.writer in
        let taken : AreTaken told_story.steps (evaluates_at setting.program head.head u.proc) [] u.proc.answers u.answers =
        subst (λ todo. TakenAt setting.program told_story.steps u.proc u.answers todo) head.is (answers_here s.before s.taken s.after s.steps_are (runs_on setting.program setting.plan u.proc finishes)) in
        let wrote : IsWrite told_story.steps c id = writer_is u s.taken head.head head.rest i c a (Some id) head.is taken read spot tags in
        let may : IsTrue (has (reads true setting.program.exprs (kind_of setting.program t)) c) = (may_read setting.program setting.plan u.proc s.taken head.head head.rest i a head.is read).shared_cell c spot in
        let stmt : t ≡ e.event.stmt = sym (ap (λ todo. (event_of setting.program setting.plan u.proc s.taken todo).stmt) head.is) ∙ sym (ap (λ (y : Event). y.stmt) event) in
        subst (λ n. ComesOverData setting.program (full_trace setting (story setting h)) id n (Shared c)) stmt
        (write_edge id t c may (write_at id c wrote))

pub shared_reads_come : SharedReadsComeOverEdges
shared_reads_come setting h p n e i a id c v is w spot =
    shared_comes setting h v p e i a id c (event_step setting h p n e is) w spot
