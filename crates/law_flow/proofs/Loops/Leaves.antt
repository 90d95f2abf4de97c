-- At the step that leaves a loop's interval: what it leaves, and what the search finds after the loop.
use Rattle.law_flow.proofs.Locals.Closes.{IsLeftNow, left_now}
use Rattle.law_flow.proofs.Locals.EachStep.{AtMoment}
use Rattle.law_flow.proofs.Locals.Inside.{loop_number, not_function}
use Rattle.law_flow.proofs.Locals.Moments.{need_is}
use Rattle.law_flow.proofs.Locals.Reading.{top_size}
use Rattle.law_flow.proofs.Locals.Stepping.FirstLevel.{TellsThen, count_of, is_first}
use Rattle.law_flow.proofs.Locals.Stepping.Going.{tells_step}
use Rattle.law_flow.proofs.Loops.InFrame.{postlog_below}
use Rattle.law_flow.proofs.Loops.JustLeft.{left_says}
use Rattle.law_flow.proofs.Places.Following.{IsFollowed, followed_step, something}
use Rattle.law_flow.proofs.Places.LeafTells.{there}
use Rattle.law_flow.proofs.Places.Moves.{IsLeft}
use Rattle.law_flow.proofs.Places.Opening.{first_block, leaf_interval, not_nil}
use Rattle.law_flow.proofs.Places.Steps.{IsStep, step_is}
use Rattle.law_flow.proofs.Places.Whole.{AreWhole}
use Rattle.law_flow.proofs.Vocabulary.Levels.{levels_after, put}
use Rattle.law_flow.proofs.Vocabulary.LoopTells.{IsFramed}
use Rattle.law_flow.proofs.Vocabulary.Says.{Says, activations, with_own}
use Rattle.law_flow.specs.Places.Closing.{closing}
use Rattle.law_flow.specs.Places.Leaves.{leaf_of, open_at}
use Rattle.law_flow.specs.Places.Levels.{IsLater, Level}
use Rattle.law_steps.proofs.OpenBlocks.Planned.{kind_is}
use Rattle.law_steps.specs.OpenBlocks.Stack.{process_block}
use Rattle.ppd_ast.specs.Valid.{IsValid}
use Rattle.ppd_ast.specs.declared.plan.BlockKind.TheVariants as block
use Rattle.ppd_ast.specs.declared.plan.Plan.{Plan}
use Rattle.ppd_ast.specs.declared.plan.Policy.{Policy}
use Rattle.ppd_ast.specs.declared.program.Program.{Program}
use Rattle.ppd_blocks.specs.Blocks.{plan_of}
use Rattle.ppd_graph.specs.Locals.{frame_in, local_origin}
use Rattle.ppd_graph.specs.Seen.{seen_of}
use Rattle.ppd_model.proofs.Changes.{some}
use Rattle.ppd_model.proofs.LocalSteps.{tags_its_writes}
use Rattle.ppd_model.proofs.LocalTags.{top_reads}
use Rattle.ppd_model.proofs.Statuses.{status_after}
use Rattle.ppd_model.proofs.TestSteps.{acts_length}
use Rattle.ppd_model.specs.FullTrace.{me_in, top_tags}
use Rattle.ppd_model.specs.Intervals.{Span, Split, left_by, nested, own, split_step}
use Rattle.ppd_model.specs.LocalTags.{HasTags, cells_in, local_tag}
use Rattle.ppd_model.specs.Logs.{status_of}
use Rattle.ppd_model.specs.Marks.{closed}
use Rattle.ppd_model.specs.NearIntervals.{is_loop}
use Rattle.ppd_model.specs.Story.{story}
use Rattle.ppd_model.specs.declared.tracing.Story.{Story}
use Rattle.ppd_model.specs.declared.tracing.Taken.{Taken}
use Rattle.ppd_sem.proofs.Running.{head_over}
use Rattle.ppd_sem.specs.Blocks.{block_kind, postlog_cells}
use Rattle.ppd_sem.specs.Process.{need_of, top_frame}
use Rattle.ppd_sem.specs.declared.proc.Need.{Need}
use Rattle.ppd_sem.specs.declared.proc.Need.TheVariants as need
use Rattle.ppd_sem.specs.declared.proc.Todo.{Todo}
use Rattle.std.proofs.Common.{List, None, Option, Some, [], ap, arith, get_or, length, map, refl, subst, suc, sym, true, true≢false, ℕ, ℤ, ◌++◌, ◌+◌, ◌-◌, ◌<◌, ◌∙◌, ◌∷◌, ◌≡◌}
use Rattle.std.proofs.lemmas.Option.{none-some}
use Rattle.std.specs.Prelude.{is_some, slice_get}

module _ (program : Program) (policy : Policy) (v : IsValid program) (story : Story) (p : ℕ) (y : Split)
    (whole : AreWhole y) (there_is : program.functions + p < length program.bodies) where
  abbrev plan : Plan
  plan = plan_of program policy

  module _ (x : Split) (taken : Taken) (mine : taken.need ≡ need_of program plan x.trace.proc)
      (later : IsLater (split_step program plan story p x taken) y) (from : IsLater x y)
      (runs : x.trace.proc.status ≡ None) (tagged : HasTags x.trace) (h : Todo) (hs : List Todo)
      (is : x.trace.proc.todo ≡ h ∷ hs) (l : Level) (q : ℕ) (kind : block_kind plan l.block ≡ block.Loop q) where
    abbrev next : Split
    next = split_step program plan story p x taken

    abbrev then_todo : List (Option ℕ)
    then_todo = closing program plan next.trace.proc.todo

    abbrev pb : Option ℕ
    pb = Some (process_block program plan p)

    step_of : (ls : List Level) → IsFollowed program policy v story p y whole x (l ∷ ls) → (k : Need) → taken.need ≡ k
        → status_of k ≡ None → IsStep program plan story p taken x.trace h k
    step_of ls f k e run =
        subst (IsStep program plan story p taken x.trace h) (sym mine ∙ e)
        (step_is program plan story p taken x.trace h hs v f.order runs is mine (ap status_of (sym mine ∙ e) ∙ run))

    first_of : (ls : List Level) → IsFollowed program policy v story p y whole x (l ∷ ls) → (b : ℕ)
        → closing program plan x.trace.proc.todo ≡ Some b ∷ then_todo
        → (leaf_of program plan y l ≡ None) × (l.block ≡ b) × (open_at program plan y ls ≡ then_todo ++ pb ∷ [])
    first_of ls f b moves =
        first_block (leaf_of program plan y l) l.block b (open_at program plan y ls) (then_todo ++ pb ∷ [])
        ((f.told runs).open_is ∙ ap (λ c. c ++ pb ∷ []) moves)

    pub record IsLeave : Type 0 where
      pub left_block : ℕ
      pub unit : ℕ
      pub need_is : taken.need ≡ need.Leave left_block unit

    -- the step that leaves values of the loop is of the loop's end
    is_leave : (ls : List Level) → IsFollowed program policy v story p y whole x (l ∷ ls) → (i : Span)
        → slice_get y.spans l.interval ≡ Some i → (n : ℕ) (value : ℤ) → slice_get i.values n ≡ Some value
        → (k : Need) → taken.need ≡ k → is_some (closed program plan x.trace.proc k) ≡ true → IsLeave
    is_leave ls f i i_there n value value_is (need.Leave b u) e closes =
        record { left_block = b; unit = u; need_is = e }
    is_leave ls f i i_there n value value_is (need.Back None w) e closes = absurd (true≢false (sym closes))
    is_leave ls f i i_there n value value_is (need.Back (Some b) w) e closes =
        let st = step_of ls f (need.Back (Some b) w) e refl in
        absurd (not_function (top_frame x.trace.proc.frames).body q
        (sym (ap (block_kind plan) (first_of ls f b st.moves).1
        ∙ kind_is program policy (block.Function (top_frame x.trace.proc.frames).body) b (sym st.of.block)) ∙ kind))
    is_leave ls f i i_there n value value_is (need.End b) e closes =
        let left : IsLeftNow l [] (l.parts ++ own (length x.trace.events) ∷ []) next.spans =
        left_now program plan story p x taken l ls f.stands (record { block = b; values = [] }) (ap (closed program plan x.trace.proc) e) in
        let end = later.spans l.interval left.span left.there in
        let same : i ≡ left.span = some (sym i_there ∙ end.1) ∙ end.2.stays left.left in
        absurd (none-some value (sym (ap (λ (j : Span). slice_get j.values n) same
        ∙ ap (λ vs. slice_get vs n) left.values_are) ∙ value_is))
    is_leave ls f i i_there n value value_is k e closes = absurd (true≢false (sym closes))

    -- the search after the loop
    pub record JustLeft (ls : List Level) : Type 0 where
      pub outer : Level
      pub others : List Level
      pub levels_are : ls ≡ outer ∷ others
      pub says : (n c : ℕ) → slice_get (postlog_cells plan l.block) n ≡ Some c
          → Says y p (local_origin program plan (seen_of y) p outer.interval (length outer.parts + 1)
          (frame_in (leaf_of program plan y outer)) c).found (get_or (top_tags x.trace.activations) c None)

    by_leave : (ls : List Level) → IsFollowed program policy v story p y whole x (l ∷ ls)
        → AtMoment program policy v story p y whole there_is x (l ∷ ls) → (i : Span)
        → slice_get y.spans l.interval ≡ Some i → (b u : ℕ) → taken.need ≡ need.Leave b u → JustLeft ls
    by_leave [] f told i i_there b u e =
        absurd (not_nil then_todo pb (first_of [] f b (step_of [] f (need.Leave b u) e refl).moves).2)
    by_leave (o ∷ os) f told i i_there b u e =
        let st : IsStep program plan story p taken x.trace h (need.Leave b u) =
        step_of (o ∷ os) f (need.Leave b u) e refl in
        let first = first_of (o ∷ os) f b st.moves in
        let ends : IsLeft program plan h x.trace.proc b = st.of in
        let goes : next.trace.proc.status ≡ None =
        status_after program plan taken.answer x.trace.proc runs ∙ ap status_of (sym mine ∙ e) in
        let after_is : levels_after program plan taken.need x (l ∷ o ∷ os) ≡ put (nested l.interval) o ∷ os =
        ap (λ k. levels_after program plan k x (l ∷ o ∷ os)) e in
        let followed : IsFollowed program policy v story p y whole next (put (nested l.interval) o ∷ os) =
        subst (IsFollowed program policy v story p y whole next) after_is
        (followed_step program policy v story p y whole x taken (l ∷ o ∷ os) mine later f) in
        let tells_then : TellsThen program plan story p y x taken (put (nested l.interval) o ∷ os) =
        subst (TellsThen program plan story p y x taken) after_is
        (tells_step program policy v story p y whole there_is x taken (l ∷ o ∷ os) f mine later runs goes
        tagged from told.moment told.tells) in
        let tags_then : HasTags next.trace =
        (tags_its_writes program plan story p x.trace taken tagged mine).has_tags in
        let counted : length next.trace.proc.frames ≡ activations program plan y (put (nested l.interval) o ∷ os) =
        count_of program policy v story p y whole next (put (nested l.interval) o ∷ os)
        (followed.told goes) tags_then in
        let n : length x.trace.proc.frames ≡ frame_in (leaf_of program plan y l)
        + with_own (block_kind plan l.block) (activations program plan y (o ∷ os)) =
        (is_first program policy v story p y whole x taken l (o ∷ os) f mine later there_is runs tagged h hs is).frames_are in
        let own_is : with_own (block_kind plan l.block) (activations program plan y (o ∷ os))
        ≡ activations program plan y (o ∷ os) = ap (λ k. with_own k (activations program plan y (o ∷ os))) kind in
        let zero_frame : frame_in (leaf_of program plan y l) ≡ 0 = ap frame_in first.0 in
        let leaf_same : activations program plan y (put (nested l.interval) o ∷ os)
        ≡ activations program plan y (o ∷ os) =
        ap (λ z. frame_in z + with_own (block_kind plan o.block) (activations program plan y os))
        (leaf_interval program plan p y l.interval o i i_there) in
        let same : length next.trace.proc.frames ≡ length x.trace.proc.frames =
        omega (arith, counted, n, own_is, zero_frame, leaf_same) in
        let stmt_is : h.stmt ≡ q = ap loop_number (sym (kind_is program policy (block.Loop h.stmt) b ends.block)
        ∙ ap (block_kind plan) (sym first.1) ∙ kind) in
        let least : 0 < with_own (block_kind plan o.block) (activations program plan y os) =
        tells_then.0.counted in
        let one : length x.trace.proc.frames ≡ suc (length x.trace.proc.frames - 1) =
        omega (arith, same, counted, least) in
        let size : cells_in x.trace.proc.frames (length x.trace.proc.frames - 1)
        ≡ length (top_frame x.trace.proc.frames).cells =
        top_size x.trace.proc.frames (length x.trace.proc.frames - 1) one in
        let acts : length x.trace.activations ≡ length x.trace.proc.frames = acts_length x.trace tagged in
        record {
          outer = o;
          others = os;
          levels_are = refl;
          says = λ j c at.
              let below : c < length (top_frame x.trace.proc.frames).cells =
              postlog_below program policy v h.stmt b (length (top_frame x.trace.proc.frames).cells) ends.block
              (head_over program x.trace.proc h f.state.runs (ap (λ ys. slice_get ys 0) is)) j c
              (ap (λ d. slice_get (postlog_cells plan d) j) (sym first.1) ∙ at) in
              let tag : get_or (top_tags x.trace.activations) c None
              ≡ local_tag x.trace.activations (length x.trace.proc.frames - 1) c =
              top_reads x.trace.activations [] 0 c
              ∙ ap (λ m. local_tag x.trace.activations (m - 1) c) acts in
              subst (λ w. Says y p (local_origin program plan (seen_of y) p o.interval (length o.parts + 1)
              (frame_in (leaf_of program plan y o)) c).found w) (sym tag)
              (left_says program policy v story p y whole x taken l o os h hs is b ends mine tagged i i_there
              followed.stands later tells_then counted same c (subst (λ z. c < z) (sym size) below));
        }

    -- what the step leaves
    left_tags : (b u : ℕ) (ls : List Level) → IsFollowed program policy v story p y whole x (l ∷ ls)
        → taken.need ≡ need.Leave b u
        → left_by plan (me_in p x.trace) (top_tags x.trace.activations) taken.need
        ≡ map (λ c. get_or (top_tags x.trace.activations) c None) (postlog_cells plan l.block)
    left_tags b u ls f e =
        ap (left_by plan (me_in p x.trace) (top_tags x.trace.activations)) e
        ∙ ap (λ d. map (λ c. get_or (top_tags x.trace.activations) c None) (postlog_cells plan d))
        (sym (first_of ls f b (step_of ls f (need.Leave b u) e refl).moves).1)

    pub record LeftAt (ls : List Level) : Type 0 where
      pub just : JustLeft ls
      pub tags_are : left_by plan (me_in p x.trace) (top_tags x.trace.activations) taken.need
          ≡ map (λ c. get_or (top_tags x.trace.activations) c None) (postlog_cells plan l.block)
      pub framed : (i : Span) → slice_get y.spans l.interval ≡ Some i → IsFramed program plan y i ls

    pub left_at : (ls : List Level) → IsFollowed program policy v story p y whole x (l ∷ ls)
        → AtMoment program policy v story p y whole there_is x (l ∷ ls) → (i : Span)
        → slice_get y.spans l.interval ≡ Some i → (n : ℕ) (value : ℤ) → slice_get i.values n ≡ Some value
        → is_some (closed program plan x.trace.proc taken.need) ≡ true → LeftAt ls
    left_at ls f told i i_there n value value_is closes =
        let k : IsLeave = is_leave ls f i i_there n value value_is taken.need refl closes in
        record {
          just = by_leave ls f told i i_there k.left_block k.unit k.need_is;
          tags_are = left_tags k.left_block k.unit ls f k.need_is;
          framed = (told.tells.0.loop (ap is_loop kind)).framed;
        }

  -- with something to do
  pub left_in : (x : Split) (taken : Taken) (mine : taken.need ≡ need_of program plan x.trace.proc)
      (later : IsLater (split_step program plan story p x taken) y) (from : IsLater x y)
      (runs : x.trace.proc.status ≡ None) (tagged : HasTags x.trace) (l : Level) (q : ℕ)
      (kind : block_kind plan l.block ≡ block.Loop q) (ls : List Level)
      → IsFollowed program policy v story p y whole x (l ∷ ls)
      → AtMoment program policy v story p y whole there_is x (l ∷ ls) → (i : Span)
      → slice_get y.spans l.interval ≡ Some i → (n : ℕ) (value : ℤ) → slice_get i.values n ≡ Some value
      → is_some (closed program plan x.trace.proc taken.need) ≡ true
      → (h : Todo) × (hs : List Todo) × (is : x.trace.proc.todo ≡ h ∷ hs)
      × LeftAt x taken mine later from runs tagged h hs is l q kind ls
  left_in x taken mine later from runs tagged l q kind ls f told i i_there n value value_is closes =
      by x.trace.proc.todo refl
    where
      by : (todo : List Todo) → x.trace.proc.todo ≡ todo
          → (h : Todo) × (hs : List Todo) × (is : x.trace.proc.todo ≡ h ∷ hs)
          × LeftAt x taken mine later from runs tagged h hs is l q kind ls
      by [] e = absurd (something program plan p x.trace.proc f.order runs e)
      by (h ∷ hs) e = (
        h,
        hs,
        e,
        left_at x taken mine later from runs tagged h hs e l q kind ls f told i i_there n value value_is closes,
      )
