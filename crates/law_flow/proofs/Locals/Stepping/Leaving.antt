-- What is told of the tags after the step that leaves an interval for the one outside.
use Rattle.law_flow.proofs.Locals.Cells.Intervals.{returned_to}
use Rattle.law_flow.proofs.Locals.Cells.Spots.{not_eq}
use Rattle.law_flow.proofs.Locals.Closes.{IsLeftNow, left_now}
use Rattle.law_flow.proofs.Locals.Inside.{IsInside}
use Rattle.law_flow.proofs.Locals.Once.{first_begun, returned_is}
use Rattle.law_flow.proofs.Locals.Received.{into_is, received_back, result_is}
use Rattle.law_flow.proofs.Locals.Stepping.FirstLevel.{IsFirst, TellsThen, count_then, event_by}
use Rattle.law_flow.proofs.Locals.Stepping.Others.{leaf_put, other}
use Rattle.law_flow.proofs.Locals.Tells.Back.{back_told}
use Rattle.law_flow.proofs.Locals.Tells.Left.{joined_told}
use Rattle.law_flow.proofs.Locals.Tells.Tags.{TellsOf}
use Rattle.law_flow.proofs.Places.Calling.{while_no_call}
use Rattle.law_flow.proofs.Places.Moves.{IsLeft, IsOther, IsReturning}
use Rattle.law_flow.proofs.Places.Opening.{begun_own, first_block, leaf_interval}
use Rattle.law_flow.proofs.Places.Scans.{items_more, leaf_stays, own_item, scan_more}
use Rattle.law_flow.proofs.Places.Whole.{AreWhole}
use Rattle.law_flow.proofs.Vocabulary.Levels.{put}
use Rattle.law_flow.proofs.Vocabulary.LoopTells.{IsCalledIn, LoopTells, Takes, own_number}
use Rattle.law_flow.proofs.Vocabulary.Says.{activations, with_own}
use Rattle.law_flow.specs.Places.Closing.{closing}
use Rattle.law_flow.specs.Places.Leaves.{AreBegun, IsBegunOutside, begun_by, items_so_far, leaf_of, open_at}
use Rattle.law_flow.specs.Places.Levels.{Level}
use Rattle.law_steps.proofs.OpenBlocks.DeedKinds.{while_stays}
use Rattle.law_steps.proofs.OpenBlocks.Planned.{kind_is}
use Rattle.law_steps.specs.OpenBlocks.Stack.{process_block}
use Rattle.ppd_ast.specs.Lookups.{kind_of}
use Rattle.ppd_ast.specs.Numbered.{is_call}
use Rattle.ppd_ast.specs.Valid.{IsValid}
use Rattle.ppd_ast.specs.declared.plan.BlockKind.TheVariants as block
use Rattle.ppd_ast.specs.declared.plan.Plan.{Plan}
use Rattle.ppd_ast.specs.declared.plan.Policy.{Policy}
use Rattle.ppd_ast.specs.declared.program.Program.{Program}
use Rattle.ppd_blocks.specs.Blocks.{plan_of}
use Rattle.ppd_graph.specs.Locals.{Scan, frame_in, scan}
use Rattle.ppd_graph.specs.Seen.{last_item, seen_of}
use Rattle.ppd_model.proofs.Changes.{some}
use Rattle.ppd_model.proofs.Lists.{get_mapped}
use Rattle.ppd_model.specs.Intervals.{Part, Span, Split, item_of, items_of, nested, own, split_step}
use Rattle.ppd_model.specs.LocalTags.{cells_in, is_into, local_tag}
use Rattle.ppd_model.specs.Marks.{closed, values_at}
use Rattle.ppd_model.specs.NearIntervals.{is_in, is_loop}
use Rattle.ppd_model.specs.declared.flow.Item.TheVariants as item
use Rattle.ppd_model.specs.declared.flow.Origin.TheVariants as origin
use Rattle.ppd_model.specs.declared.trace.TracedEvent.{TracedEvent}
use Rattle.ppd_model.specs.declared.tracing.Story.{Story}
use Rattle.ppd_model.specs.declared.tracing.Taken.{Taken}
use Rattle.ppd_sem.specs.Blocks.{block_kind, postlog_cells}
use Rattle.ppd_sem.specs.Described.{is_event}
use Rattle.ppd_sem.specs.Passed.{result_at}
use Rattle.ppd_sem.specs.Process.{into_at, into_of, top_frame}
use Rattle.ppd_sem.specs.Runs.{returns}
use Rattle.ppd_sem.specs.declared.proc.Need.TheVariants as need
use Rattle.ppd_sem.specs.declared.proc.Todo.{Todo}
use Rattle.std.proofs.Common.{List, None, Option, Some, [], ap, ap₂, arith, eq-eqb, false, length, not, subst, suc, sym, true, true≢false, ℕ, ℤ, ◌&&◌, ◌++◌, ◌+◌, ◌-◌, ◌<◌, ◌∙◌, ◌∷◌, ◌≡◌}
use Rattle.std.proofs.lemmas.List.{length_push}
use Rattle.std.specs.List.{flat_map}
use Rattle.std.specs.Prelude.{get_or, is_some, slice_get}

module _ (program : Program) (policy : Policy) (v : IsValid program) {story : Story} {p : ℕ} {y x : Split} {taken : Taken}
    {l o : Level} {os : List Level} {h : Todo}
    (m : IsFirst program (plan_of program policy) story p y x taken l (o ∷ os) h)
    (inside : IsInside program (plan_of program policy) y l h) (event : is_event taken.need ≡ true)
    (whole : AreWhole y) where
  abbrev plan : Plan
  plan = plan_of program policy

  abbrev then_todo : List (Option ℕ)
  then_todo = closing program plan (split_step program plan story p x taken).trace.proc.todo

  abbrev pb : Option ℕ
  pb = Some (process_block program plan p)

  -- a loop
  pub block_ended : (b u : ℕ) → taken.need ≡ need.Leave b u → IsLeft program plan h x.trace.proc b
      → closing program plan x.trace.proc.todo
      ≡ Some b ∷ closing program plan (split_step program plan story p x taken).trace.proc.todo
      → count_then program plan story p x taken ≡ activations program plan y (put (nested l.interval) o ∷ os)
      → TellsOf program plan p y x.trace (l ∷ o ∷ os)
      → TellsThen program plan story p y x taken (put (nested l.interval) o ∷ os)
  block_ended b u need_is ends moves counted t =
      let first = first_block (leaf_of program plan y l) l.block b (open_at program plan y (o ∷ os))
      (then_todo ++ pb ∷ []) (m.open_is ∙ ap (λ c. c ++ pb ∷ []) moves) in
      let kind : block_kind plan l.block ≡ block.Loop h.stmt =
      ap (block_kind plan) first.1 ∙ kind_is program policy (block.Loop h.stmt) b ends.block in
      let left : IsLeftNow l (values_at x.trace.proc (postlog_cells plan b))
      (l.parts ++ own (length x.trace.events) ∷ []) (split_step program plan story p x taken).spans =
      left_now program plan story p x taken l (o ∷ os) m.stands
      (record { block = b; values = values_at x.trace.proc (postlog_cells plan b) }) (ap (closed program plan x.trace.proc) need_is) in
      let end = m.later.spans l.interval left.span left.there in
      let same : end.0 ≡ left.span = end.2.stays left.left in
      let outer : leaf_of program plan y (put (nested l.interval) o) ≡ leaf_of program plan y o =
      leaf_interval program plan p y l.interval o end.0 end.1 in
      let zero_frame : frame_in (leaf_of program plan y l) ≡ 0 = ap frame_in first.0 in
      let share : with_own (block_kind plan l.block) (activations program plan y (o ∷ os))
      ≡ activations program plan y (o ∷ os) =
      ap (λ k. with_own k (activations program plan y (o ∷ os))) kind in
      let outer_same : activations program plan y (put (nested l.interval) o ∷ os)
      ≡ activations program plan y (o ∷ os) =
      ap (λ z. frame_in z + with_own (block_kind plan o.block) (activations program plan y os)) outer in
      let frames : count_then program plan story p x taken ≡ length x.trace.proc.frames =
      omega (arith, counted, outer_same, share, zero_frame, m.frames_are) in
      let o_kind : IsOther (kind_of program h.stmt) =
      record {
        no_call = while_no_call (kind_of program h.stmt) ends.loop;
        stays = while_stays (kind_of program h.stmt) ends.loop;
      } in
      let lf : leaf_of program plan y (put (own (length x.trace.events)) l) ≡ leaf_of program plan y l =
      leaf_put program policy v m inside event
      ∙ leaf_stays program plan (length (items_so_far y l)) (event_by program plan story x taken).event
      (leaf_of program plan y l) (subst (λ i. is_call (kind_of program i) ≡ false) m.stmt_is o_kind.no_call)
      (subst (λ i. returns (kind_of program i) ≡ false) m.stmt_is o_kind.stays) in
      let put_count : count_then program plan story p x taken
      ≡ activations program plan y (put (own (length x.trace.events)) l ∷ o ∷ os) =
      frames ∙ m.frames_are
      ∙ sym (ap (λ z. frame_in z + with_own (block_kind plan l.block) (activations program plan y (o ∷ os))) lf) in
      joined_told program plan p y (cells_in (split_step program plan story p x taken).trace.proc.frames)
      (local_tag (split_step program plan story p x taken).trace.activations)
      (put (own (length x.trace.events)) l) o os h.stmt kind end.0 end.1 (ap (λ (i : Span). is_some i.closed) same ∙ left.left)
      (ap (λ (i : Span). i.block) same ∙ left.block_is)
      (get_mapped (items_of y) y.spans l.interval [] end.0 end.1
      ∙ ap (λ (i : Span). flat_map (item_of y) i.parts) same ∙ ap (flat_map (item_of y)) left.parts_are)
      (other program policy v m inside event o_kind put_count t)

  -- a function that is a block
  pub block_left : (b : ℕ) (w : Option ℕ) → taken.need ≡ need.Back (Some b) w
      → IsReturning program plan h x.trace.proc (Some b)
      → closing program plan x.trace.proc.todo
      ≡ Some b ∷ closing program plan (split_step program plan story p x taken).trace.proc.todo
      → count_then program plan story p x taken ≡ activations program plan y (put (nested l.interval) o ∷ os)
      → TellsOf program plan p y x.trace (l ∷ o ∷ os)
      → TellsThen program plan story p y x taken (put (nested l.interval) o ∷ os)
  block_left b w need_is ret moves counted t =
      let first = first_block (leaf_of program plan y l) l.block b (open_at program plan y (o ∷ os))
      (then_todo ++ pb ∷ []) (m.open_is ∙ ap (λ c. c ++ pb ∷ []) moves) in
      let kind : block_kind plan l.block ≡ block.Function (top_frame x.trace.proc.frames).body =
      ap (block_kind plan) first.1
      ∙ kind_is program policy (block.Function (top_frame x.trace.proc.frames).body) b (sym ret.block) in
      let left : IsLeftNow l (result_at program x.trace.proc) (l.parts ++ own (length x.trace.events) ∷ [])
      (split_step program plan story p x taken).spans =
      left_now program plan story p x taken l (o ∷ os) m.stands (record { block = b; values = result_at program x.trace.proc })
      (ap (closed program plan x.trace.proc) need_is) in
      let end = m.later.spans l.interval left.span left.there in
      let same : end.0 ≡ left.span = end.2.stays left.left in
      let own_l = begun_own program plan p y l (o ∷ os) (begun_by x.trace.proc.frames x.trace.activations)
      (block.Function (top_frame x.trace.proc.frames).body) first.0 kind m.begun in
      let began = first_begun x.trace.proc.frames x.trace.activations (IsBegunOutside program plan p y (o ∷ os))
      (AreBegun program plan p y (o ∷ os)) own_l in
      let least_o : 0 < with_own (block_kind plan o.block) (activations program plan y os) = t.1.0.counted in
      let n : ℕ = with_own (block_kind plan o.block) (activations program plan y os) - 1 in
      let base_o : with_own (block_kind plan o.block) (activations program plan y os) ≡ suc n =
      omega (arith, least_o) in
      let top : (top_frame x.trace.proc.frames).call ≡ Some began.1.traced.event.stmt = began.2 ∙ began.1.stmt_is in
      let none_left : leaf_of program plan y (put (nested l.interval) o) ≡ None =
      leaf_interval program plan p y l.interval o end.0 end.1 ∙ began.1.no_leaf in
      let zero_o : frame_in (leaf_of program plan y o) ≡ 0 = ap frame_in began.1.no_leaf in
      let zero_put : frame_in (leaf_of program plan y (put (nested l.interval) o)) ≡ 0 = ap frame_in none_left in
      let frames : count_then program plan story p x taken ≡ n + 1 = omega (arith, counted, zero_put, base_o) in
      let zero_frame : frame_in (leaf_of program plan y l) ≡ 0 = ap frame_in first.0 in
      let one_more : with_own (block_kind plan l.block) (activations program plan y (o ∷ os))
      ≡ suc (activations program plan y (o ∷ os)) =
      ap (λ k. with_own k (activations program plan y (o ∷ os))) kind in
      let less : n < own_number program plan y l (o ∷ os) = omega (arith, one_more, m.base, base_o, zero_o) in
      let two : n + 2 ≡ length x.trace.proc.frames =
      omega (arith, m.counted, one_more, m.base, base_o, zero_o, zero_frame) in
      let r_is = received_back program plan x.trace.proc h m.rest m.todo_is ret.value ret.left ret.deed in
      back_told (m.event_at event) end.0 end.1 (ap (λ (i : Span). is_some i.closed) same ∙ left.left) (top_frame x.trace.proc.frames).body
      (ap (λ (i : Span). block_kind plan i.block) same ∙ ap (block_kind plan) left.block_is ∙ kind)
      (last_is end.0 end.1 left) began.1.traced.event.stmt
      (λ i c. call_is began.1.before began.1.event began.1.traced began.1.parts_are began.1.traced_is i c)
      n base_o less began.1.no_leaf
      (λ c. ap (λ vs. returned_to program 0 c began.1.traced.event.stmt vs)
      (ap (λ (i : Span). i.values) same ∙ left.values_are
      ∙ result_is program plan x.trace.proc h m.rest m.todo_is ret.value ret.left ret.deed)
      ∙ returned_is program c began.1.traced.event.stmt ret.value
      ∙ sym (r_is n c
      ∙ ap₂ (λ z w. z && is_into (into_at program w) ret.value c)
      (eq-eqb (n + 2) (length x.trace.proc.frames) two) top
      ∙ into_is (into_of (kind_of program began.1.traced.event.stmt)) ret.value c))
      (λ c loop got. takes_of began.1.traced.event.stmt
      (call_is began.1.before began.1.event began.1.traced began.1.parts_are began.1.traced_is 0 0)
      (subst (λ q. IsCalledIn program plan y q (o ∷ os)) kind t.0.called loop) c end.0.values got)
      (λ i c small. r_is i c
      ∙ ap (λ z. z && is_into (into_at program (top_frame x.trace.proc.frames).call) ret.value c)
      (not_eq (i + 2) (length x.trace.proc.frames) (λ j. omega (arith, j, small, two))))
      frames
      (subst (λ z. LoopTells program plan p y (cells_in x.trace.proc.frames) (local_tag x.trace.activations)
      (not (is_loop z)) (o ∷ os)) kind t.1)
    where
      takes_of : (call : ℕ) → (scan program plan 0 0 (items_so_far y o)).call ≡ call
          → Takes program plan o.block (scan program plan 0 0 (items_so_far y o)).call → (c : ℕ) → (vs : List ℤ)
          → returned_to program 0 c call vs ≡ true → is_in c (postlog_cells plan o.block) ≡ true
      takes_of call call_is takes c [] got = absurd (true≢false (sym got))
      takes_of call call_is takes c (w ∷ ws) got = subst (λ i. Takes program plan o.block i) call_is takes c got

      call_is : (before : List Part) (n : ℕ) (traced : TracedEvent) → o.parts ≡ before ++ own n ∷ []
          → slice_get y.trace.events n ≡ Some traced → (i c : ℕ)
          → (scan program plan i c (items_so_far y o)).call ≡ traced.event.stmt
      call_is before n traced parts at i c =
          ap (λ ps. (scan program plan i c (flat_map (item_of y) ps)).call) parts
          ∙ ap (λ xs. (scan program plan i c xs).call)
          (items_more y before (own n) (item.Own traced.event) (own_item y n traced at))
          ∙ ap (λ (r : Scan). r.call) (scan_more program plan i c (flat_map (item_of y) before)
          (item.Own traced.event))

      last_is : (i : Span) → slice_get y.spans l.interval ≡ Some i
          → IsLeftNow l (result_at program x.trace.proc) (l.parts ++ own (length x.trace.events) ∷ [])
          (split_step program plan story p x taken).spans
          → (last_item (seen_of y) p l.interval).found ≡ origin.Item p l.interval (length l.parts)
      last_is i at left =
          let end = m.later.spans l.interval left.span left.there in
          let same : i ≡ left.span = some (sym at ∙ end.1) ∙ end.2.stays left.left in
          let items : length (get_or (seen_of y).items l.interval []) ≡ length l.parts + 1 =
          ap length (get_mapped (items_of y) y.spans l.interval [] i at) ∙ whole l.interval i at
          ∙ ap (λ (j : Span). length j.parts) same ∙ ap length left.parts_are
          ∙ length_push l.parts (own (length x.trace.events)) in
          let last : length (get_or (seen_of y).items l.interval []) - 1 ≡ length l.parts = omega (arith, items) in
          ap (λ j. origin.Item p l.interval j) last
