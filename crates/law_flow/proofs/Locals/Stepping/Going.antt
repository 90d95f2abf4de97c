-- What is told of the tags goes on being told with each step.
use Rattle.std.proofs.Common.{◌≡◌, ℕ, ◌+◌, ◌<◌, ◌≤◌, Bool, true, false, List, [], ◌∷◌, ◌++◌, Option, Some, None, refl, ap, sym, subst, ◌∙◌, arith, length, if◌then◌else◌}
use Rattle.std.proofs.lemmas.Option.{none-some}
use Rattle.ppd_ast.specs.Valid.{IsValid}
use Rattle.ppd_ast.specs.declared.plan.BlockKind.TheVariants as block
use Rattle.ppd_ast.specs.declared.plan.Plan.{Plan}
use Rattle.ppd_ast.specs.declared.plan.Policy.{Policy}
use Rattle.ppd_ast.specs.declared.program.Program.{Program}
use Rattle.ppd_blocks.specs.Blocks.{plan_of}
use Rattle.law_steps.proofs.Facts.Entered.{unentered}
use Rattle.law_steps.specs.OpenBlocks.Stack.{process_block}
use Rattle.law_steps.proofs.OpenBlocks.DeedKinds.{found_while, loop_is}
use Rattle.law_steps.proofs.OpenBlocks.Planned.{kind_is}
use Rattle.ppd_sem.specs.Blocks.{block_kind}
use Rattle.ppd_sem.specs.Described.{evaluates, trap_of, frame_of, is_event}
use Rattle.ppd_sem.specs.Process.{act, need_of, loop_of}
use Rattle.ppd_sem.specs.declared.proc.Need.{Need}
use Rattle.ppd_sem.specs.declared.proc.Need.TheVariants as need
use Rattle.ppd_sem.specs.declared.proc.Todo.{Todo}
use Rattle.ppd_model.specs.Intervals.{own, Span, Split, split_step}
use Rattle.ppd_model.specs.Logs.{status_of}
use Rattle.ppd_model.specs.LocalTags.{HasTags}
use Rattle.ppd_model.specs.NearIntervals.{is_loop}
use Rattle.ppd_model.specs.declared.tracing.Story.{Story}
use Rattle.ppd_model.specs.declared.tracing.Taken.{Taken}
use Rattle.ppd_model.proofs.LocalSteps.{tags_its_writes}
use Rattle.ppd_model.proofs.Statuses.{status_after}
use Rattle.law_flow.specs.Places.Closing.{closing}
use Rattle.law_flow.specs.Places.Levels.{IsLater, Level}
use Rattle.law_flow.proofs.Vocabulary.Levels.{levels_after, put}
use Rattle.law_flow.specs.Places.Leaves.{leaf_of}
use Rattle.law_flow.proofs.Places.Following.{IsFollowed, something, told_step}
use Rattle.law_flow.proofs.Places.Opening.{first_block, not_nil}
use Rattle.law_flow.proofs.Places.Steps.{IsStep, step_is}
use Rattle.law_flow.proofs.Places.Told.{Told}
use Rattle.law_flow.proofs.Places.Whole.{AreWhole}
use Rattle.law_flow.proofs.Control.Moments.{Moment}
use Rattle.law_flow.proofs.Control.Statics.{IsBlockLoop, loops_apart}
use Rattle.ppd_ast.specs.declared.plan.BlockKind.{BlockKind}
use Rattle.ppd_ast.specs.Lookups.{kind_of}
use Rattle.ppd_sem.specs.Tables.{block_of}
use Rattle.std.specs.Prelude.{is_some, slice_get}
use Rattle.ppd_model.proofs.Changes.{some}
use Rattle.law_flow.proofs.Vocabulary.Says.{activations, with_own}
use Rattle.law_flow.proofs.Locals.Counts.{with_more}
use Rattle.law_flow.proofs.Locals.Inside.{IsInside, inside_is}
use Rattle.law_flow.proofs.Locals.OpenSpans.{new_framed}
use Rattle.law_flow.proofs.Locals.Stepping.Calls.{block_called, leaf_called}
use Rattle.law_flow.proofs.Locals.Stepping.Entering.{loop_entered, quiet}
use Rattle.law_flow.proofs.Locals.Stepping.FirstLevel.{IsFirst, TellsThen, count_of, count_then, is_first}
use Rattle.law_flow.proofs.Locals.Stepping.Leaving.{block_ended, block_left}
use Rattle.law_flow.proofs.Locals.Stepping.Others.{other}
use Rattle.law_flow.proofs.Locals.Stepping.Returns.{leaf_left}
use Rattle.law_flow.proofs.Locals.Tells.Tags.{TellsOf}

module _ (program : Program) (policy : Policy) (v : IsValid program) (story : Story) (p : ℕ) (y : Split)
    (whole : AreWhole y) (there_is : program.functions + p < length program.bodies) where
  abbrev plan : Plan
  plan = plan_of program policy

  -- ---- by the need

  module _ (x : Split) (taken : Taken) (mine : taken.need ≡ need_of program plan x.trace.proc) (h : Todo) where
    abbrev Before : List Level → Type 0
    Before ms = TellsOf program plan p y x.trace ms

    abbrev After : List Level → Type 0
    After ms = TellsThen program plan story p y x taken ms

    -- how many frames there are then
    abbrev CountsAfter : List Level → Type 0
    CountsAfter ms = count_then program plan story p x taken ≡ activations program plan y ms

    none_outside : (l : Level) (m : IsFirst program plan story p y x taken l [] h) (b : ℕ)
        → closing program plan x.trace.proc.todo
        ≡ Some b ∷ closing program plan (split_step program plan story p x taken).trace.proc.todo → ⊥
    none_outside l m b moves =
        let first = first_block (leaf_of program plan y l) l.block b []
        (closing program plan (split_step program plan story p x taken).trace.proc.todo
        ++ Some (process_block program plan p) ∷ [])
        (m.open_is ∙ ap (λ c. c ++ Some (process_block program plan p) ∷ []) moves) in
        not_nil (closing program plan (split_step program plan story p x taken).trace.proc.todo)
        (Some (process_block program plan p)) first.2

    by_back : (l : Level) (ls : List Level) (m : IsFirst program plan story p y x taken l ls h) (inside : IsInside program plan y l h) (b : ℕ)
        (w : Option ℕ) → taken.need ≡ need.Back (Some b) w
        → IsStep program plan story p taken x.trace h (need.Back (Some b) w)
        → CountsAfter (levels_after program plan (need.Back (Some b) w) x (l ∷ ls)) → Before (l ∷ ls)
        → After (levels_after program plan (need.Back (Some b) w) x (l ∷ ls))
    by_back l [] m inside b w e st counted t = absurd (none_outside l m b st.moves)
    by_back l (o ∷ os) m inside b w e st counted t =
        block_left program policy v m inside (ap is_event e) whole b w e st.of st.moves counted t

    by_leave : (l : Level) (ls : List Level) (m : IsFirst program plan story p y x taken l ls h) (inside : IsInside program plan y l h) (b u : ℕ)
        → taken.need ≡ need.Leave b u → IsStep program plan story p taken x.trace h (need.Leave b u)
        → CountsAfter (levels_after program plan (need.Leave b u) x (l ∷ ls)) → Before (l ∷ ls)
        → After (levels_after program plan (need.Leave b u) x (l ∷ ls))
    by_leave l [] m inside b u e st counted t = absurd (none_outside l m b st.moves)
    by_leave l (o ∷ os) m inside b u e st counted t =
        block_ended program policy v m inside (ap is_event e) whole b u e st.of st.moves counted t

    by_need : (l : Level) (ls : List Level) (m : IsFirst program plan story p y x taken l ls h) (inside : IsInside program plan y l h) (n : Need)
        → taken.need ≡ n → IsStep program plan story p taken x.trace h n → status_of n ≡ None
        → CountsAfter (levels_after program plan n x (l ∷ ls)) → Before (l ∷ ls)
        → After (levels_after program plan n x (l ∷ ls))
    by_need l ls m inside (need.Read c) e st run counted t =
        quiet m (ap is_event e) (counted ∙ sym m.frames_are) t
    by_need l ls m inside need.Stopped e st run counted t =
        quiet m (ap is_event e) (counted ∙ sym m.frames_are) t
    by_need l ls m inside (need.Enter b u) e st run counted t =
        let listed : block_of plan (block.Loop h.stmt) ≡ Some b =
        sym (loop_is plan h.stmt (kind_of program h.stmt) (found_while plan h.stmt (kind_of program h.stmt) b
        (unentered program plan h b st.of))) ∙ unentered program plan h b st.of in
        let kind : block_kind plan b ≡ block.Loop h.stmt = kind_is program policy (block.Loop h.stmt) b listed in
        let own : with_own (block_kind plan b) (activations program plan y (l ∷ ls))
        ≡ activations program plan y (l ∷ ls) =
        ap (λ k. with_own k (activations program plan y (l ∷ ls))) kind in
        loop_entered m (length x.spans) b h.stmt kind listed (ap is_event e) (omega (arith, counted, own, m.frames_are))
        (λ none. unless_loop (block_kind plan l.block) refl none (ap is_some listed))
        (λ i at. framed i at) t
      where
        framed : (i : Span) → slice_get y.spans (length x.spans) ≡ Some i
            → i.frame ≡ frame_of program plan x.trace.proc
        framed i at =
            let new = new_framed program plan story p x taken b u e in
            let g = m.later.spans (length x.spans) new.0 new.1 in
            ap (λ (j : Span). j.frame) (some (sym at ∙ g.1)) ∙ g.2.frame ∙ new.2

        not_entered : (x : Bool) → h.entered ≡ x → h.entered ≡ false
        not_entered false i = i
        not_entered true i = absurd (none-some b
            (sym (ap (λ z. if z then None else loop_of plan h.stmt (kind_of program h.stmt)) i) ∙ st.of))

        unless_loop : (k : BlockKind) → block_kind plan l.block ≡ k → leaf_of program plan y l ≡ None
            → IsBlockLoop program policy h.stmt → is_loop (block_kind plan l.block) ≡ false
        unless_loop (block.Function g) kind none found = ap is_loop kind
        unless_loop (block.Process g) kind none found = ap is_loop kind
        unless_loop (block.Loop q) kind none found =
            absurd (inside.other q none kind (not_entered h.entered refl)
            (loops_apart program policy h.stmt q found
            (ap is_some ((t.0.loop (ap is_loop kind)).listed q kind)) (inside.stands q none kind)))
    by_need l ls m inside (need.Leave b u) e st run counted t = by_leave l ls m inside b u e st counted t
    by_need l ls m inside (need.Invoke None u) e st run counted t =
        leaf_called program policy v m inside (ap is_event e) st.of (ap trap_of (sym mine ∙ e))
        (omega (arith, counted, m.base)) t
    by_need l ls m inside (need.Invoke (Some b) u) e st run counted t =
        let more : activations program plan y (put (own (length x.trace.events)) l ∷ ls)
        ≤ with_own (block_kind plan b) (activations program plan y (put (own (length x.trace.events)) l ∷ ls)) =
        with_more (block_kind plan b) (activations program plan y (put (own (length x.trace.events)) l ∷ ls)) in
        block_called program policy v m inside (ap is_event e) (length x.spans) b st.of
        (ap trap_of (sym mine ∙ e)) (omega (arith, counted, m.base, more)) t
    by_need l ls m inside (need.Back None w) e st run counted t =
        leaf_left program policy v m inside (ap is_event e) st.of st.moves (ap trap_of (sym mine
        ∙ e))
        (ap evaluates (sym mine ∙ e)) (omega (arith, counted, m.base)) t
    by_need l ls m inside (need.Back (Some b) w) e st run counted t = by_back l ls m inside b w e st counted t
    by_need l ls m inside (need.End b) e st run counted t = absurd (none-some _ (sym run))
    by_need l ls m inside (need.Trap k) e st run counted t = absurd (none-some _ (sym run))
    by_need l ls m inside need.Budget e st run counted t = absurd (none-some _ (sym run))
    by_need l ls m inside (need.Write c i) e st run counted t =
        other program policy v m inside (ap is_event e) st.of counted t
    by_need l ls m inside need.Plain e st run counted t =
        other program policy v m inside (ap is_event e) st.of counted t
    by_need l ls m inside (need.P c u) e st run counted t =
        other program policy v m inside (ap is_event e) st.of counted t
    by_need l ls m inside (need.V c u) e st run counted t =
        other program policy v m inside (ap is_event e) st.of counted t
    by_need l ls m inside (need.Send c i u) e st run counted t =
        other program policy v m inside (ap is_event e) st.of counted t
    by_need l ls m inside (need.Offer c i) e st run counted t =
        other program policy v m inside (ap is_event e) st.of counted t
    by_need l ls m inside (need.Done c u) e st run counted t =
        other program policy v m inside (ap is_event e) st.of counted t
    by_need l ls m inside (need.Recv c u) e st run counted t =
        other program policy v m inside (ap is_event e) st.of counted t

  -- a step of a process that runs on
  pub tells_step : (x : Split) (taken : Taken) (ms : List Level) → IsFollowed program policy v story p y whole x ms
      → taken.need ≡ need_of program plan x.trace.proc → IsLater (split_step program plan story p x taken) y
      → x.trace.proc.status ≡ None → (act program plan x.trace.proc taken.answer).status ≡ None → HasTags x.trace
      → IsLater x y → Moment program policy v story p x ms
      → TellsOf program plan p y x.trace ms
      → TellsThen program plan story p y x taken (levels_after program plan taken.need x ms)
  tells_step x taken [] f mine later runs goes tagged from m t =
      absurd (not_nil (closing program plan x.trace.proc.todo) (Some (process_block program plan p))
      (f.told runs).open_is)
  tells_step x taken (l ∷ ls) f mine later runs goes tagged from m t = by x.trace.proc.todo refl
    where
      told_then : Told program policy v story p y whole (split_step program plan story p x taken)
          (levels_after program plan taken.need x (l ∷ ls))
      told_then = told_step program policy v story p y whole x taken
          (l ∷ ls) f.stands mine runs f.order f.state later goes (f.told runs)

      tags_then : HasTags (split_step program plan story p x taken).trace
      tags_then = (tags_its_writes program plan story p x.trace taken tagged mine).has_tags

      by : (todo : List Todo) → x.trace.proc.todo ≡ todo
          → TellsThen program plan story p y x taken (levels_after program plan taken.need x (l ∷ ls))
      by [] is = absurd (something program plan p x.trace.proc f.order runs is)
      by (h ∷ hs) is =
          let run : status_of (need_of program plan x.trace.proc) ≡ None =
          sym (status_after program plan taken.answer x.trace.proc runs) ∙ goes in
          let st : IsStep program plan story p taken x.trace h taken.need =
          subst (IsStep program plan story p taken x.trace h) (sym mine)
          (step_is program plan story p taken x.trace h hs v f.order runs is mine run) in
          by_need x taken mine h l ls
          (is_first program policy v story p y whole x taken l ls f mine later there_is runs tagged h hs is)
          (inside_is program policy v story p y whole x l ls f.stands from m h hs is) taken.need refl st (ap status_of mine ∙ run)
          (count_of program policy v story p y whole (split_step program plan story p x taken)
          (levels_after program plan taken.need x
          (l ∷ ls)) told_then tags_then) t
