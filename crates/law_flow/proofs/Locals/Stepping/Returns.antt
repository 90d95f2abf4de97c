-- What is told of the tags after a return from an activation without an interval.
use Rattle.std.proofs.Common.{◌≡◌, ℕ, ◌+◌, ◌<◌, Bool, true, false, not, ◌&&◌, List, [], ◌∷◌, ◌++◌, Option, Some, None, ap, ap₂, sym, subst, ◌∙◌, arith, length, true≢false, eq-eqb}
use Rattle.std.specs.Prelude.{is_some, nat_eq}
use Rattle.std.proofs.lemmas.Option.{none-some}
use Rattle.ppd_ast.specs.Valid.{IsValid}
use Rattle.ppd_ast.specs.declared.plan.BlockKind.TheVariants as block
use Rattle.ppd_ast.specs.declared.plan.Plan.{Plan}
use Rattle.ppd_ast.specs.declared.plan.Policy.{Policy}
use Rattle.ppd_ast.specs.declared.program.Program.{Program}
use Rattle.ppd_ast.specs.declared.status.Trap.{Trap}
use Rattle.ppd_ast.specs.Lookups.{kind_of}
use Rattle.ppd_blocks.specs.Blocks.{plan_of}
use Rattle.law_steps.specs.OpenBlocks.Stack.{process_block}
use Rattle.ppd_sem.specs.Described.{evaluates, trap_of, is_event}
use Rattle.ppd_sem.specs.Process.{into_of, need_of, top_frame, into_at}
use Rattle.ppd_sem.specs.Runs.{returns}
use Rattle.ppd_sem.specs.declared.proc.Todo.{Todo}
use Rattle.ppd_model.specs.Intervals.{own, Split, split_step}
use Rattle.ppd_model.specs.LocalTags.{is_into, is_received}
use Rattle.ppd_model.specs.Synchronizations.{is_number}
use Rattle.ppd_model.specs.declared.trace.TracedEvent.{TracedEvent}
use Rattle.ppd_model.specs.declared.tracing.Story.{Story}
use Rattle.ppd_model.specs.declared.tracing.Taken.{Taken}
use Rattle.ppd_graph.specs.declared.leaf_call.LeafCall.{LeafCall}
use Rattle.ppd_graph.specs.Locals.{frame_in, receives}
use Rattle.law_flow.specs.Places.Closing.{closing}
use Rattle.law_flow.specs.Places.Levels.{Level}
use Rattle.law_flow.proofs.Vocabulary.Levels.{put}
use Rattle.law_flow.specs.Places.Leaves.{IsBegunAt, begun_by, items_so_far, leaf_of, open_at}
use Rattle.law_flow.proofs.Places.Moves.{IsReturning}
use Rattle.law_flow.proofs.Places.Opening.{begun_leaf, first_leaf}
use Rattle.law_flow.proofs.Places.Telling.{leaf_ends}
use Rattle.ppd_model.specs.declared.flow.Item.TheVariants as item
use Rattle.law_flow.proofs.Vocabulary.Says.{activations}
use Rattle.law_flow.proofs.Vocabulary.LoopTells.{own_number}
use Rattle.law_flow.proofs.Locals.Cells.Spots.{not_eq}
use Rattle.law_flow.proofs.Locals.Inside.{IsInside}
use Rattle.law_flow.proofs.Locals.Once.{first_begun}
use Rattle.law_flow.proofs.Locals.Received.{into_is, received_back, value_now}
use Rattle.law_flow.proofs.Locals.Stepping.FirstLevel.{IsFirst, TellsThen, count_then, event_by}
use Rattle.law_flow.proofs.Locals.Stepping.Others.{leaf_put, loop_put}
use Rattle.law_flow.proofs.Locals.Tells.Put.{put_told}
use Rattle.law_flow.proofs.Locals.Tells.Tags.{TellsOf}

module _ (program : Program) (policy : Policy) (v : IsValid program) {story : Story} {p : ℕ} {y x : Split} {taken : Taken}
    {l : Level} {ls : List Level} {h : Todo} (m : IsFirst program (plan_of program policy) story p y x taken l ls h)
    (inside : IsInside program (plan_of program policy) y l h) (event : is_event taken.need ≡ true) where
  abbrev plan : Plan
  plan = plan_of program policy

  abbrev e : TracedEvent
  e = event_by program plan story x taken

  abbrev a : ℕ
  a = own_number program plan y l ls

  -- a return from an activation without an interval
  pub leaf_left : IsReturning program plan h x.trace.proc None
      → closing program plan x.trace.proc.todo
      ≡ None ∷ closing program plan (split_step program plan story p x taken).trace.proc.todo
      → trap_of (need_of program plan x.trace.proc) ≡ None → evaluates (need_of program plan x.trace.proc) ≡ true
      → own_number program plan y l ls < count_then program plan story p x taken
      → TellsOf program plan p y x.trace (l ∷ ls)
      → TellsThen program plan story p y x taken (put (own (length x.trace.events)) l ∷ ls)
  leaf_left ret moves trap ev lt t =
      let todo : List (Option ℕ) = closing program plan (split_step program plan story p x taken).trace.proc.todo in
      let first = first_leaf (leaf_of program plan y l) l.block (open_at program plan y ls)
      (todo ++ Some (process_block program plan p) ∷ [])
      (m.open_is ∙ ap (λ c. c ++ Some (process_block program plan p) ∷ []) moves) in
      let over : leaf_of program plan y (put (own (length x.trace.events)) l) ≡ None =
      leaf_put program policy v m inside event
      ∙ leaf_ends program plan (length (items_so_far y l)) e.event (leaf_of program plan y l) goes in
      put_told (m.event_at event) (λ c. rec_leaf first.0 first.1 c) (λ i c less. r_low first.0 first.1 i c less) lt t
      (λ i j. absurd (none-some i (sym over ∙ j)))
      (loop_put program policy v m inside event t (λ c loop got. (t.0.loop loop).leaf_in first.0 first.1 c
      (got_number first.0 c (sym (ap (receives program 0 c e.event) first.1) ∙ got)))
      (λ loop i j. absurd (none-some i (sym over ∙ j))))
    where
      goes : returns (kind_of program e.event.stmt) ≡ true
      goes = subst (λ i. returns (kind_of program i) ≡ true) m.stmt_is ret.goes

      got_number : (call : LeafCall) (c : ℕ) → receives program 0 c e.event (Some call) ≡ true
          → is_number (into_of (kind_of program call.stmt)) c ≡ true
      got_number call c got = by (nat_eq 0 0) (not (is_some e.event.trap)) (returns (kind_of program e.event.stmt))
          (is_some e.event.value) (is_number (into_of (kind_of program call.stmt)) c) got
        where
          by : (a b r d g : Bool) → (a && b && r && d && g) ≡ true → g ≡ true
          by true true true true g h = h
          by true true true false g h = absurd (true≢false (sym h))
          by true true false d g h = absurd (true≢false (sym h))
          by true false r d g h = absurd (true≢false (sym h))
          by false b r d g h = absurd (true≢false (sym h))

      r_is : (i c : ℕ) → is_received program x.trace.proc i c x.trace.proc.todo
          ≡ (nat_eq (i + 2) (length x.trace.proc.frames)
          && is_into (into_at program (top_frame x.trace.proc.frames).call) ret.value c)
      r_is = received_back program plan x.trace.proc h m.rest m.todo_is ret.value ret.left ret.deed

      r_low : (call : LeafCall) → leaf_of program plan y l ≡ Some call → (i c : ℕ) → i < a
          → is_received program x.trace.proc i c x.trace.proc.todo ≡ false
      r_low call some_call i c less =
          let one : frame_in (leaf_of program plan y l) ≡ 1 = ap frame_in some_call in
          r_is i c ∙ ap (λ b. b && is_into (into_at program (top_frame x.trace.proc.frames).call) ret.value c)
          (not_eq (i + 2) (length x.trace.proc.frames) (λ q. omega (arith, q, less, m.counted, one)))

      rec_leaf : (call : LeafCall) → leaf_of program plan y l ≡ Some call → (c : ℕ)
          → receives program 0 c e.event (leaf_of program plan y l)
          ≡ is_received program x.trace.proc a c x.trace.proc.todo
      rec_leaf call some_call c =
          let one : frame_in (leaf_of program plan y l) ≡ 1 = ap frame_in some_call in
          let same : a + 2 ≡ length x.trace.proc.frames = omega (arith, m.counted, one) in
          let began = first_begun x.trace.proc.frames x.trace.activations (IsBegunAt p l.parts call.item call.stmt) _
          (begun_leaf program plan p y l ls
          (begun_by x.trace.proc.frames x.trace.activations) call some_call m.begun) in
          let top : (top_frame x.trace.proc.frames).call ≡ Some call.stmt = began.2 ∙ began.1.stmt_is in
          let value : e.event.value ≡ ret.value =
          value_now program plan x.trace.proc h m.rest m.todo_is taken ret.value ret.left ret.deed ret.goes ev in
          ap (receives program 0 c e.event) some_call
          ∙ ap (λ z. nat_eq 0 0 && not (is_some z) && returns (kind_of program e.event.stmt) && is_some e.event.value
          && is_number (into_of (kind_of program call.stmt)) c) (m.trap_is ∙ trap)
          ∙ ap (λ z. nat_eq 0 0 && not (is_some {T = Trap} None) && z && is_some e.event.value
          && is_number (into_of (kind_of program call.stmt)) c) goes
          ∙ ap (λ z. is_some z && is_number (into_of (kind_of program call.stmt)) c) value
          ∙ sym (r_is a c
          ∙ ap₂ (λ z w. z && is_into (into_at program w) ret.value c)
          (eq-eqb (a + 2) (length x.trace.proc.frames) same) top
          ∙ into_is (into_of (kind_of program call.stmt)) ret.value c)
