-- Where a loop was just left, the search finds the tags of the cells that it left.
use Rattle.std.proofs.Common.{◌≡◌, ℕ, ℤ, ◌+◌, ◌-◌, ◌<◌, Bool, true, false, ◌&&◌, ◌||◌, List, [], ◌∷◌, ◌++◌, Option, Some, None, refl, ap, sym, subst, ◌∙◌, arith, length}
use Rattle.std.specs.List.{list_any}
use Rattle.std.specs.Prelude.{Ok, slice_get}
use Rattle.std.proofs.lemmas.List.{length_push}
use Rattle.ppd_ast.specs.Valid.{IsValid}
use Rattle.ppd_ast.specs.declared.plan.Plan.{Plan}
use Rattle.ppd_ast.specs.declared.plan.Policy.{Policy}
use Rattle.ppd_ast.specs.declared.program.Program.{Program}
use Rattle.ppd_ast.specs.declared.status.Trap.{Trap as TrapOf}
use Rattle.ppd_ast.specs.Lookups.{kind_of}
use Rattle.ppd_blocks.specs.Blocks.{plan_of}
use Rattle.law_steps.proofs.OpenBlocks.DeedKinds.{while_stays}
use Rattle.law_flow.proofs.Places.Calling.{while_no_call}
use Rattle.ppd_sem.specs.Asked.{Asked}
use Rattle.ppd_sem.specs.Blocks.{block_kind}
use Rattle.ppd_sem.specs.Deed.{Deed, leave}
use Rattle.ppd_sem.specs.Described.{frame_of, trap_of, writes_by, is_event}
use Rattle.ppd_sem.specs.Process.{head_deed, need_of}
use Rattle.ppd_sem.specs.declared.event.Access.{Access}
use Rattle.ppd_sem.specs.declared.proc.Answer.{Answer}
use Rattle.ppd_sem.specs.declared.proc.Proc.{Proc}
use Rattle.ppd_sem.specs.declared.proc.Todo.{Todo}
use Rattle.ppd_model.specs.FullTrace.{event_of, trace_step}
use Rattle.ppd_model.specs.Intervals.{nested, Span, Split, split_step}
use Rattle.ppd_model.specs.LocalTags.{HasTags, TagsItsWrites, cells_in, is_cell, is_in_writes, is_local_write, is_received, local_tag}
use Rattle.ppd_model.specs.declared.tracing.Story.{Story}
use Rattle.ppd_model.specs.declared.tracing.Taken.{Taken}
use Rattle.ppd_model.proofs.LocalSteps.{tags_its_writes}
use Rattle.ppd_graph.specs.declared.leaf_call.LeafCall.{LeafCall}
use Rattle.ppd_graph.specs.Locals.{frame_in, local_origin}
use Rattle.ppd_graph.specs.Seen.{seen_of}
use Rattle.law_flow.specs.Places.Levels.{IsLater, Level, StandsIn}
use Rattle.law_flow.proofs.Vocabulary.Levels.{put}
use Rattle.law_flow.specs.Places.Leaves.{leaf_of}
use Rattle.law_flow.proofs.Places.Moves.{IsLeft}
use Rattle.law_flow.proofs.Places.Opening.{leaf_interval}
use Rattle.law_flow.proofs.Places.Whole.{AreWhole}
use Rattle.law_flow.proofs.Vocabulary.Says.{Says, activations, with_own}
use Rattle.law_flow.proofs.Locals.Received.{received_other}
use Rattle.law_flow.proofs.Vocabulary.LoopTells.{LoopTells}
use Rattle.law_flow.proofs.Locals.Origins.{number_at, origin_at}

-- a test that fails writes nothing
none_written : (o : Option TrapOf) (f : ℕ) (a : Answer) (x : Asked Deed) (left : List ℤ) → x ≡ Ok (leave, left)
    → writes_by o f a x ≡ []
none_written None f a x left e = ap (λ d. writes_by None f a d) e
none_written (Some trap) f a x left e = refl

-- the activation that goes on at a level is the last one
number_last : (program : Program) (plan : Plan) (y : Split) (l : Level) (ls : List Level) (o : Option LeafCall)
    → 0 < with_own (block_kind plan l.block) (activations program plan y ls)
    → number_at program plan y l ls o + 1
    ≡ frame_in o + with_own (block_kind plan l.block) (activations program plan y ls)
number_last program plan y l ls None lt = omega (arith, lt)
number_last program plan y l ls (Some call) lt = omega arith

module _ (program : Program) (policy : Policy) (v : IsValid program) (story : Story) (p : ℕ) (y : Split)
    (whole : AreWhole y) where
  abbrev plan : Plan
  plan = plan_of program policy

  module _ (x : Split) (taken : Taken) (l o : Level) (os : List Level) (h : Todo) (hs : List Todo)
      (is : x.trace.proc.todo ≡ h ∷ hs) (b : ℕ) (ends : IsLeft program plan h x.trace.proc b)
      (mine : taken.need ≡ need_of program plan x.trace.proc) (tagged : HasTags x.trace)
      (end : Span) (end_there : slice_get y.spans l.interval ≡ Some end)
      (stands : StandsIn (split_step program plan story p x taken) (put (nested l.interval) o ∷ os))
      (later : IsLater (split_step program plan story p x taken) y)
      (tells : LoopTells program plan p y (cells_in (split_step program plan story p x taken).trace.proc.frames)
      (local_tag (split_step program plan story p x taken).trace.activations) true (put (nested l.interval) o ∷ os))
      (counted : length (split_step program plan story p x taken).trace.proc.frames
      ≡ activations program plan y (put (nested l.interval) o ∷ os))
      (same : length (split_step program plan story p x taken).trace.proc.frames ≡ length x.trace.proc.frames) where
    abbrev s : Proc
    s = x.trace.proc

    abbrev next : Split
    next = split_step program plan story p x taken

    abbrev joint : Level
    joint = put (nested l.interval) o

    tags : TagsItsWrites program plan p x.trace (trace_step program plan story p x.trace taken) taken
    tags = tags_its_writes program plan story p x.trace taken tagged mine

    writes_none : (event_of program plan s taken s.todo).writes ≡ []
    writes_none =
        ap (λ todo. (event_of program plan s taken todo).writes) is
        ∙ none_written (trap_of (need_of program plan s)) (frame_of program plan s) taken.answer
        (head_deed program h s) ends.left ends.deed

    unwritten : (k c : ℕ) → is_local_write program plan k c s taken ≡ false
    unwritten k c = none (is_event taken.need)
        (ap (λ (ws : List Access). list_any (λ a. is_cell (frame_of program plan s) (length s.frames) k c a.spot) ws)
        writes_none)
        (received_other program plan s h hs is (record {
          no_call = while_no_call (kind_of program h.stmt) ends.loop;
          stays = while_stays (kind_of program h.stmt) ends.loop;
        }) k c)
      where
        none : (e : Bool) → is_in_writes program plan s taken k c ≡ false
            → is_received program s k c s.todo ≡ false
            → (e && (is_in_writes program plan s taken k c || is_received program s k c s.todo)) ≡ false
        none true w r = ap (λ z. z || is_received program s k c s.todo) w ∙ r
        none false w r = refl

    abbrev number : ℕ
    number = number_at program plan y joint os (leaf_of program plan y joint)

    last : number + 1 ≡ length s.frames
    last = number_last program plan y joint os (leaf_of program plan y joint) tells.0.counted ∙ sym counted ∙ same

    pub left_says : (c : ℕ) → c < cells_in s.frames (length s.frames - 1)
        → Says y p (local_origin program plan (seen_of y) p o.interval (length o.parts + 1)
        (frame_in (leaf_of program plan y o)) c).found (local_tag x.trace.activations (length s.frames - 1) c)
    left_says c lt =
        let low : number < length s.frames = omega (arith, last) in
        let low' : number < length next.trace.proc.frames = omega (arith, last, same) in
        let number_is : number ≡ length s.frames - 1 = omega (arith, last) in
        let lt' : c < cells_in next.trace.proc.frames number =
        subst (λ z. c < z) (sym (tags.same_cells number low low'))
        (subst (λ k. c < cells_in s.frames k) (sym number_is) lt) in
        let leaf : leaf_of program plan y joint ≡ leaf_of program plan y o =
        leaf_interval program plan p y l.interval o end end_there in
        let place : length (o.parts ++ nested l.interval ∷ []) ≡ length o.parts + 1 =
        length_push o.parts (nested l.interval) in
        let got : Says y p (local_origin program plan (seen_of y) p o.interval
        (length (o.parts ++ nested l.interval ∷ [])) (frame_in (leaf_of program plan y joint)) c).found
        (local_tag next.trace.activations number c) =
        origin_at program plan p y whole (cells_in next.trace.proc.frames) (local_tag next.trace.activations) next
        joint os stands later tells (leaf_of program plan y joint) refl c lt' in
        subst (λ k. Says y p (local_origin program plan (seen_of y) p o.interval (length o.parts + 1)
        (frame_in (leaf_of program plan y o)) c).found (local_tag x.trace.activations k c)) number_is
        (subst (λ w. Says y p (local_origin program plan (seen_of y) p o.interval (length o.parts + 1)
        (frame_in (leaf_of program plan y o)) c).found w) (tags.kept number c (unwritten number c) low low')
        (subst (λ z. Says y p (local_origin program plan (seen_of y) p o.interval (length o.parts + 1)
        (frame_in z) c).found (local_tag next.trace.activations number c)) leaf
        (subst (λ j. Says y p (local_origin program plan (seen_of y) p o.interval j
        (frame_in (leaf_of program plan y joint)) c).found (local_tag next.trace.activations number c)) place got)))
