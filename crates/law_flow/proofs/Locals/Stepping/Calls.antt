-- What is told of the tags after a call.
use Rattle.std.proofs.Common.{◌≡◌, ℕ, suc, ◌<◌, true, false, not, List, [], ◌∷◌, Option, Some, None, ap, ap₂, sym, subst, ◌∙◌, length, true≢false, if◌then◌else◌}
use Rattle.std.specs.List.{list_any, range_with_len}
use Rattle.std.specs.Prelude.{slice_get}
use Rattle.std.proofs.lemmas.Option.{none-some}
use Rattle.ppd_ast.specs.Valid.{IsValid}
use Rattle.ppd_ast.specs.declared.plan.BlockKind.TheVariants as block
use Rattle.ppd_ast.specs.declared.plan.Plan.{Plan}
use Rattle.ppd_ast.specs.declared.plan.Policy.{Policy}
use Rattle.ppd_ast.specs.declared.program.Program.{Program}
use Rattle.ppd_ast.specs.Lookups.{kind_of, body_of}
use Rattle.ppd_ast.proofs.Vocabulary.{params_of_body}
use Rattle.law_steps.specs.Beside.Relation.{IsCallOf}
use Rattle.ppd_blocks.specs.Blocks.{plan_of}
use Rattle.law_steps.specs.OpenBlocks.Stack.{process_block}
use Rattle.law_steps.proofs.OpenBlocks.Planned.{kind_is, prelog_cells_are}
use Rattle.ppd_sem.specs.Blocks.{block_kind, prelog_cells}
use Rattle.ppd_sem.specs.Described.{frame_of, trap_of, writes_by, is_event}
use Rattle.ppd_sem.specs.Process.{head_deed, need_of}
use Rattle.ppd_sem.specs.Runs.{returns}
use Rattle.ppd_sem.specs.declared.event.Access.{Access}
use Rattle.ppd_sem.specs.declared.proc.Todo.{Todo}
use Rattle.ppd_model.specs.FullTrace.{event_of}
use Rattle.ppd_model.specs.Intervals.{own, Split, split_step}
use Rattle.ppd_model.specs.LocalTags.{cells_in, is_received, local_tag}
use Rattle.ppd_model.specs.NearIntervals.{is_in, is_loop}
use Rattle.ppd_model.specs.declared.trace.TracedEvent.{TracedEvent}
use Rattle.ppd_model.specs.declared.tracing.Story.{Story}
use Rattle.ppd_model.specs.declared.tracing.Taken.{Taken}
use Rattle.ppd_model.proofs.Homes.{AskedOf, head_of}
use Rattle.ppd_graph.specs.declared.leaf_call.LeafCall.{LeafCall}
use Rattle.ppd_graph.specs.Locals.{frame_in, is_leaf_call, is_local, receives, Scan, begins_leaf, scan}
use Rattle.law_flow.specs.Places.Levels.{Level}
use Rattle.law_flow.proofs.Vocabulary.Levels.{put}
use Rattle.law_flow.specs.Places.Leaves.{items_so_far, leaf_of, open_at}
use Rattle.law_flow.proofs.Places.Moves.{IsCalling}
use Rattle.law_flow.proofs.Places.NoLeaf.{call_no_leaf, is_call_of}
use Rattle.law_flow.proofs.Places.Scans.{items_more, own_item, scan_more}
use Rattle.law_flow.proofs.Places.Telling.{call_stays, leaf_call_is, leaf_over}
use Rattle.ppd_model.specs.declared.flow.Item.TheVariants as item
use Rattle.law_flow.proofs.Vocabulary.Says.{activations}
use Rattle.law_flow.proofs.Vocabulary.LoopTells.{LoopTells, Takes, own_number}
use Rattle.law_flow.proofs.Locals.Cells.Events.{writes}
use Rattle.law_flow.proofs.Locals.Cells.Spots.{passed_is}
use Rattle.law_flow.proofs.Locals.Inside.{IsInside}
use Rattle.law_flow.proofs.Locals.Once.{begins_one, params_are}
use Rattle.law_flow.proofs.Locals.Received.{received_call}
use Rattle.law_flow.proofs.Locals.Stepping.FirstLevel.{IsFirst, TellsThen, count_then, event_by}
use Rattle.law_flow.proofs.Locals.Stepping.Others.{call_takes, leaf_put, loop_put}
use Rattle.law_flow.proofs.Locals.Tells.New.{level_new}
use Rattle.law_flow.proofs.Locals.Tells.Put.{leaf_starts, put_told}
use Rattle.law_flow.proofs.Locals.Tells.Tags.{TellsOf}
use Rattle.ppd_sem.specs.Reads.{local_accesses}

module _ (program : Program) (policy : Policy) (v : IsValid program) {story : Story} {p : ℕ} {y x : Split} {taken : Taken}
    {l : Level} {ls : List Level} {h : Todo} (m : IsFirst program (plan_of program policy) story p y x taken l ls h)
    (inside : IsInside program (plan_of program policy) y l h) (event : is_event taken.need ≡ true) where
  abbrev plan : Plan
  plan = plan_of program policy

  abbrev e : TracedEvent
  e = event_by program plan story x taken

  module _ (o : Option ℕ) (call : IsCalling program plan h x.trace.proc o) where
    no_leaf : leaf_of program plan y l ≡ None
    no_leaf = call_no_leaf program policy p x.trace.proc h m.rest o (leaf_of program plan y l) l.block
        (process_block program plan p) (open_at program plan y ls) v m.state m.order m.todo_is call m.open_is

    r_call : (i c : ℕ) → is_received program x.trace.proc i c x.trace.proc.todo ≡ false
    r_call = received_call program plan x.trace.proc h m.rest m.todo_is call.function call.values call.into call.left
        call.deed

    rec_none : (c : ℕ) → receives program 0 c e.event (leaf_of program plan y l) ≡ false
    rec_none c = ap (receives program 0 c e.event) no_leaf

    rec_call : (c : ℕ) → receives program 0 c e.event (leaf_of program plan y l)
        ≡ is_received program x.trace.proc (own_number program plan y l ls) c x.trace.proc.todo
    rec_call c = rec_none c ∙ sym (r_call (own_number program plan y l ls) c)

    call_kind : IsCallOf (kind_of program h.stmt) call.function
    call_kind = is_call_of program plan x.trace.proc h o call

  -- a call of a function that is no block
  pub leaf_called : IsCalling program plan h x.trace.proc None → trap_of (need_of program plan x.trace.proc) ≡ None
      → own_number program plan y l ls < count_then program plan story p x taken
      → TellsOf program plan p y x.trace (l ∷ ls)
      → TellsThen program plan story p y x taken (put (own (length x.trace.events)) l ∷ ls)
  leaf_called call trap lt t =
      let begins : begins_leaf program plan e.event ≡ true =
      begins_one program plan e.event (m.trap_is ∙ trap)
      (subst (λ i. is_leaf_call plan (kind_of program i) ≡ true) m.stmt_is
      (leaf_call_is plan (kind_of program h.stmt) call.function (call_kind None call) None call.block)) in
      put_told (m.event_at event) (rec_call None call) (λ i c less. r_call None call i c) lt t
      (λ j q. leaf_starts (m.event_at event) begins (no_leaf None call)
      (λ c. r_call None call (suc (own_number program plan y l ls)) c))
      (loop_put program policy v m inside event t (λ c loop got. absurd (true≢false (sym got ∙ rec_none None call c)))
      (λ loop j q.
      let is_new : leaf_of program plan y (put (own (length x.trace.events)) l)
      ≡ Some (record { item = length (items_so_far y l); stmt = e.event.stmt }) =
      leaf_put program policy v m inside event
      ∙ ap (λ b. if b then Some (record { item = length (items_so_far y l); stmt = e.event.stmt })
      else if returns (kind_of program e.event.stmt) then None else leaf_of program plan y l) begins in
      subst (λ i. Takes program plan l.block i) (m.stmt_is ∙ ap (stmt_if e.event.stmt) (sym is_new ∙ q))
      (call_takes program policy v m inside event (no_leaf None call) t loop)))
    where
      stmt_if : ℕ → Option LeafCall → ℕ
      stmt_if i None = i
      stmt_if i (Some j) = j.stmt

  -- a call of one that is
  pub block_called : (i b : ℕ) → IsCalling program plan h x.trace.proc (Some b)
      → trap_of (need_of program plan x.trace.proc) ≡ None
      → own_number program plan y l ls < count_then program plan story p x taken
      → TellsOf program plan p y x.trace (l ∷ ls)
      → TellsThen program plan story p y x taken
      (record { interval = i; block = b; parts = [] } ∷ put (own (length x.trace.events)) l ∷ ls)
  block_called i b call trap lt t =
      let none : leaf_of program plan y l ≡ None = no_leaf (Some b) call in
      let over : leaf_of program plan y (put (own (length x.trace.events)) l) ≡ None =
      leaf_put program policy v m inside event
      ∙ leaf_over program plan (length (items_so_far y l)) e.event (leaf_of program plan y l)
      (subst (λ j. is_leaf_call plan (kind_of program j) ≡ false) m.stmt_is
      (leaf_call_is plan (kind_of program h.stmt) call.function (call_kind (Some b) call) (Some b) call.block))
      (subst (λ j. returns (kind_of program j) ≡ false) m.stmt_is
      (call_stays (kind_of program h.stmt) call.function (call_kind (Some b) call))) ∙ none in (
        level_new (m.event_at event) i b call.function kind none over
            (λ c. r_call (Some b) call (suc (own_number program plan y l ls)) c) passed
            (λ loop. subst (λ j. Takes program plan l.block j) (m.stmt_is ∙ sym last_call)
            (call_takes program policy v m inside event none t loop)),
        subst (λ z. LoopTells program plan p y
            (cells_in (split_step program plan story p x taken).trace.proc.frames)
            (local_tag (split_step program plan story p x taken).trace.activations) (not (is_loop z))
            (put (own (length x.trace.events)) l ∷ ls)) (sym kind)
            (put_told (m.event_at event) (rec_call (Some b) call) (λ j c less. r_call (Some b) call j c) lt t
            (λ j q. absurd (none-some j (sym over ∙ q)))
            (loop_put program policy v m inside event t
            (λ c loop got. absurd (true≢false (sym got ∙ rec_none (Some b) call c)))
            (λ loop j q. absurd (none-some j (sym over ∙ q))))),
      )
    where
      last_call : (scan program plan 0 0 (items_so_far y (put (own (length x.trace.events)) l))).call ≡ e.event.stmt
      last_call =
          ap (λ xs. (scan program plan 0 0 xs).call)
          (items_more y l.parts (own (length x.trace.events)) (item.Own e.event)
          (own_item y (length x.trace.events) e (m.event_at event).there))
          ∙ ap (λ (r : Scan). r.call) (scan_more program plan 0 0 (items_so_far y l) (item.Own e.event))

      kind : block_kind plan b ≡ block.Function call.function
      kind = kind_is program policy (block.Function call.function) b (sym call.block)

      writes_are : e.event.writes ≡ local_accesses 1 0 call.values
      writes_are =
          ap (λ todo. (event_of program plan x.trace.proc taken todo).writes) m.todo_is
          ∙ ap (λ o. writes_by o (frame_of program plan x.trace.proc) taken.answer (head_deed program h x.trace.proc))
          trap
          ∙ ap₂ (λ f d. writes_by None f taken.answer d) (m.frame ∙ ap frame_in (no_leaf (Some b) call)) call.deed

      values_fit : length call.values ≡ params_of_body (slice_get program.bodies call.function)
      values_fit = (subst (AskedOf program (body_of program h.stmt) (kind_of program h.stmt)) call.deed
          (head_of program h x.trace.proc v)).1.1

      prelog_is : prelog_cells plan b ≡ range_with_len 0 (length call.values)
      prelog_is = prelog_cells_are program policy (block.Function call.function) b (sym call.block)
          ∙ params_are (slice_get program.bodies call.function) ∙ ap (range_with_len 0) (sym values_fit)

      passed : (c : ℕ) → is_in c (prelog_cells plan b) ≡ writes 1 c e.event
      passed c = ap (is_in c) prelog_is
          ∙ sym (ap (λ ws. list_any (λ (u : Access). is_local 1 c u.spot) ws) writes_are
          ∙ passed_is 0 c call.values)
