-- What is told of the tags after an event, and after one of a statement that neither calls nor returns.
use Rattle.std.proofs.Common.{◌≡◌, ℕ, suc, ◌+◌, true, false, List, ◌∷◌, Option, Some, None, refl, ap, sym, subst, ◌∙◌, arith, length, true≢false}
use Rattle.ppd_ast.specs.Numbered.{is_call}
use Rattle.ppd_ast.specs.Valid.{IsValid}
use Rattle.ppd_ast.specs.declared.plan.BlockKind.TheVariants as block
use Rattle.ppd_ast.specs.declared.plan.Plan.{Plan}
use Rattle.ppd_ast.specs.declared.plan.Policy.{Policy}
use Rattle.ppd_ast.specs.declared.program.Program.{Program}
use Rattle.ppd_blocks.specs.Blocks.{plan_of}
use Rattle.ppd_sem.specs.Blocks.{block_kind, postlog_cells}
use Rattle.ppd_sem.specs.Runs.{returns}
use Rattle.ppd_sem.specs.declared.proc.Todo.{Todo}
use Rattle.ppd_sem.specs.Described.{is_event}
use Rattle.ppd_model.specs.Intervals.{own, Split}
use Rattle.ppd_model.specs.LocalTags.{is_received}
use Rattle.ppd_model.specs.NearIntervals.{is_in, is_loop}
use Rattle.ppd_model.specs.declared.trace.TracedEvent.{TracedEvent}
use Rattle.ppd_model.specs.declared.tracing.Story.{Story}
use Rattle.ppd_model.specs.declared.tracing.Taken.{Taken}
use Rattle.ppd_graph.specs.declared.leaf_call.LeafCall.{LeafCall}
use Rattle.ppd_graph.specs.Locals.{frame_in, leaf_after, receives}
use Rattle.law_flow.specs.Places.Levels.{Level}
use Rattle.law_flow.proofs.Vocabulary.Levels.{put}
use Rattle.law_flow.specs.Places.Leaves.{items_so_far, leaf_of}
use Rattle.law_flow.proofs.Places.Moves.{IsOther}
use Rattle.law_flow.proofs.Places.Opening.{leaf_event}
use Rattle.law_flow.proofs.Places.Scans.{leaf_stays}
use Rattle.law_steps.proofs.Vocabulary.Held.{Among}
use Rattle.ppd_ast.specs.declared.plan.BlockKind.{BlockKind}
use Rattle.ppd_ast.specs.Lookups.{kind_of}
use Rattle.law_flow.proofs.Vocabulary.Says.{activations, with_own}
use Rattle.law_flow.proofs.Vocabulary.LoopTells.{IsLoopTold, Takes, own_number}
use Rattle.law_flow.proofs.Locals.Cells.Events.{writes}
use Rattle.law_flow.proofs.Locals.Cells.Postlogs.{into_in, writes_in}
use Rattle.law_flow.proofs.Locals.Cells.Writes.{among_in, any_own, event_cell, event_other}
use Rattle.law_flow.proofs.Locals.Inside.{IsInside}
use Rattle.law_flow.proofs.Locals.Once.{begins_none, receives_none}
use Rattle.law_flow.proofs.Locals.Received.{received_other}
use Rattle.law_flow.proofs.Locals.Stepping.FirstLevel.{IsFirst, TellsThen, count_then, event_by}
use Rattle.law_flow.proofs.Locals.Tells.Put.{leaf_goes, loop_event, put_told}
use Rattle.law_flow.proofs.Locals.Tells.Tags.{TellsOf}
use Rattle.law_flow.proofs.Control.AtLevel.{no_leaf_kind}

pub loop_there : (k : BlockKind) → is_loop k ≡ true → (q : ℕ) × (k ≡ block.Loop q)
loop_there (block.Loop q) h = (q, refl)
loop_there (block.Function f) h = absurd (true≢false (sym h))
loop_there (block.Process f) h = absurd (true≢false (sym h))

module _ (program : Program) (policy : Policy) (v : IsValid program) {story : Story} {p : ℕ} {y x : Split} {taken : Taken}
    {l : Level} {ls : List Level} {h : Todo} (m : IsFirst program (plan_of program policy) story p y x taken l ls h)
    (inside : IsInside program (plan_of program policy) y l h) (event : is_event taken.need ≡ true) where
  abbrev plan : Plan
  plan = plan_of program policy

  abbrev e : TracedEvent
  e = event_by program plan story x taken

  -- the writes of the next event are in the loop's postlog
  in_postlog : (b : BlockKind) → block_kind plan l.block ≡ b → (o : Option LeafCall) → leaf_of program plan y l ≡ o
      → TellsOf program plan p y x.trace (l ∷ ls) → is_loop b ≡ true → (c : ℕ) → any_own c e.event.writes ≡ true
      → is_in c (postlog_cells plan l.block) ≡ true
  in_postlog (block.Loop q) kind None none t loop c any =
      among_in (postlog_cells plan l.block) c
      (event_cell (Among (postlog_cells plan l.block)) c program plan x.trace.proc taken h m.rest m.todo_is
      (m.frame ∙ ap frame_in none)
      (writes_in program policy v q l.block ((t.0.loop (ap is_loop kind)).listed q kind) h.stmt
      (inside.stands q none kind)) any)
  in_postlog (block.Loop q) kind (Some call) some_call t loop c any =
      absurd (true≢false (sym any ∙ event_other program plan x.trace.proc taken h m.rest c m.todo_is
      (m.frame ∙ ap frame_in some_call)))
  in_postlog (block.Function g) kind o leaf t loop c any = absurd (true≢false (sym loop))
  in_postlog (block.Process g) kind o leaf t loop c any = absurd (true≢false (sym loop))

  -- and what a call returns
  pub call_takes : leaf_of program plan y l ≡ None → TellsOf program plan p y x.trace (l ∷ ls)
      → is_loop (block_kind plan l.block) ≡ true → Takes program plan l.block h.stmt
  call_takes none t loop =
      let q = loop_there (block_kind plan l.block) loop in
      into_in program policy v q.0 l.block ((t.0.loop loop).listed q.0 q.1) h.stmt (inside.stands q.0 none q.1)

  pub leaf_put : leaf_of program plan y (put (own (length x.trace.events)) l)
      ≡ leaf_after program plan (length (items_so_far y l)) (event_by program plan story x taken).event
      (leaf_of program plan y l)
  leaf_put = leaf_event program plan p y (length x.trace.events) l e (m.event_at event).there

  -- a loop's level after the event
  pub loop_put : TellsOf program plan p y x.trace (l ∷ ls)
      → ((c : ℕ) → is_loop (block_kind plan l.block) ≡ true
      → receives program 0 c (event_by program plan story x taken).event (leaf_of program plan y l) ≡ true
      → is_in c (postlog_cells plan l.block) ≡ true)
      → (is_loop (block_kind plan l.block) ≡ true → (call : LeafCall)
      → leaf_of program plan y (put (own (length x.trace.events)) l) ≡ Some call
      → Takes program plan l.block call.stmt)
      → is_loop (block_kind plan l.block) ≡ true → IsLoopTold program plan p y (put (own (length x.trace.events)) l) ls
  loop_put t r leaf loop =
      loop_event (m.event_at event)
      (λ c any. in_postlog (block_kind plan l.block) refl (leaf_of program plan y l) refl t loop c any)
      (λ c got. r c loop got) (leaf loop) (t.0.loop loop)

  -- another statement
  pub other : IsOther (kind_of program h.stmt)
      → count_then program plan story p x taken ≡ activations program plan y (put (own (length x.trace.events)) l ∷ ls)
      → TellsOf program plan p y x.trace (l ∷ ls)
      → TellsThen program plan story p y x taken (put (own (length x.trace.events)) l ∷ ls)
  other o frames t =
      let stays : returns (kind_of program e.event.stmt) ≡ false =
      subst (λ i. returns (kind_of program i) ≡ false) m.stmt_is o.stays in
      let no_call : is_call (kind_of program e.event.stmt) ≡ false =
      subst (λ i. is_call (kind_of program i) ≡ false) m.stmt_is o.no_call in
      let lf : leaf_of program plan y (put (own (length x.trace.events)) l) ≡ leaf_of program plan y l =
      leaf_put ∙ leaf_stays program plan (length (items_so_far y l)) e.event (leaf_of program plan y l) no_call stays in
      let same : count_then program plan story p x taken ≡ length x.trace.proc.frames =
      frames ∙ ap (λ z. frame_in z + with_own (block_kind plan l.block) (activations program plan y ls)) lf
      ∙ sym m.frames_are in
      let r : (i c : ℕ) → is_received program x.trace.proc i c x.trace.proc.todo ≡ false =
      received_other program plan x.trace.proc h m.rest m.todo_is o in
      let none : (c : ℕ) → receives program 0 c e.event (leaf_of program plan y l) ≡ false =
      λ c. receives_none program 0 c e.event (leaf_of program plan y l) stays in
      let a : ℕ = own_number program plan y l ls in
      put_told (m.event_at event) (λ c. none c ∙ sym (r a c)) (λ i c lt. r i c) (omega (arith, same, m.counted)) t
      (leaf_goes (m.event_at event)
      (begins_none program plan e.event (no_leaf_kind plan (kind_of program e.event.stmt) no_call))
      lf (λ c. r (suc a) c) same t)
      (loop_put t (λ c loop got. absurd (true≢false (sym got ∙ none c)))
      (λ loop call j. (t.0.loop loop).leaf_in call (sym lf ∙ j)))
