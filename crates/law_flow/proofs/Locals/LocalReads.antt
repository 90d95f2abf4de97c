-- The search finds the writers of the local reads of each event.
use Rattle.ppd_model.specs.Setting.{setting_of}
use Rattle.law_flow.proofs.Locals.AtSteps.{tagged_at, told_at}
use Rattle.law_flow.proofs.Locals.InFrame.{InFrame, each_at}
use Rattle.law_flow.proofs.Locals.Moments.{event_at, need_is, next_later, running}
use Rattle.law_flow.proofs.Locals.Origins.{number_at, origin_at}
use Rattle.law_flow.proofs.Locals.Reading.{below_not, event_step, events_len, local_is, none_yet, reads_in, top_size}
use Rattle.law_flow.proofs.Locals.Returned.{ref_at}
use Rattle.law_flow.proofs.Locals.Stepping.FirstLevel.{IsFirst, is_first}
use Rattle.law_flow.proofs.Locals.Tells.Tags.{TellsOf}
use Rattle.law_flow.proofs.Locals.Turns.{Turns, turns}
use Rattle.law_flow.proofs.Places.Following.{IsFollowed, something}
use Rattle.law_flow.proofs.Places.LeafTells.{all_whole, followed_at, later_at, levels_at, split_is, there}
use Rattle.law_flow.proofs.Places.Opening.{not_nil}
use Rattle.law_flow.proofs.Places.Whole.{AreWhole}
use Rattle.law_flow.proofs.Vocabulary.LoopTells.{own_number}
use Rattle.law_flow.proofs.Vocabulary.Says.{Says, activations, with_own}
use Rattle.law_flow.specs.Locals.AllReads.{AllLocalReadsAreFound}
use Rattle.law_flow.specs.Locals.LocalReads.{LocalReadsAreFound}
use Rattle.law_flow.specs.Places.Closing.{closing}
use Rattle.law_flow.specs.Places.Leaves.{leaf_of}
use Rattle.law_flow.specs.Places.Levels.{IsLater, Level}
use Rattle.law_steps.specs.OpenBlocks.Stack.{process_block}
use Rattle.ppd_ast.proofs.ValidLaws.{slice_get_below}
use Rattle.ppd_ast.specs.Valid.{IsValid}
use Rattle.ppd_ast.specs.declared.plan.Plan.{Plan}
use Rattle.ppd_ast.specs.declared.plan.Policy.{Policy}
use Rattle.ppd_ast.specs.declared.program.Program.{Program}
use Rattle.ppd_blocks.specs.Blocks.{plan_of}
use Rattle.ppd_graph.specs.Locals.{frame_in, local_origin}
use Rattle.ppd_graph.specs.Seen.{seen_of}
use Rattle.ppd_graph.specs.declared.leaf_call.LeafCall.{LeafCall}
use Rattle.ppd_model.proofs.Changes.{some}
use Rattle.ppd_model.proofs.Items.{items_whole}
use Rattle.ppd_model.proofs.LocalTags.{top_reads}
use Rattle.ppd_model.proofs.TestSteps.{acts_length}
use Rattle.ppd_model.specs.FlowbackEdges.{part_at}
use Rattle.ppd_model.specs.FullTrace.{Tag, event_of, tags_of, top_tags, traced_by}
use Rattle.ppd_model.specs.Intervals.{Split, begun_split, own, ref, split_of, split_step, splits}
use Rattle.ppd_model.specs.Items.{HasWholeItems}
use Rattle.ppd_model.specs.LocalTags.{HasTags, cells_in, local_tag}
use Rattle.ppd_model.specs.Story.{story}
use Rattle.ppd_model.specs.declared.flow.Origin.{Origin}
use Rattle.ppd_model.specs.declared.flow.Origin.TheVariants as origin
use Rattle.ppd_model.specs.declared.trace.TracedEvent.{TracedEvent}
use Rattle.ppd_model.specs.declared.tracing.Story.{Story}
use Rattle.ppd_model.specs.declared.tracing.Taken.{Taken}
use Rattle.ppd_sem.specs.Blocks.{block_kind}
use Rattle.ppd_sem.specs.Described.{frame_of, is_event}
use Rattle.ppd_sem.specs.Process.{need_of, started, top_frame}
use Rattle.ppd_sem.specs.declared.event.Access.{Access}
use Rattle.ppd_sem.specs.declared.event.Spot.TheVariants.{Local}
use Rattle.ppd_sem.specs.declared.proc.Proc.{Proc}
use Rattle.ppd_sem.specs.declared.proc.Todo.{Todo}
use Rattle.std.proofs.Common.{List, None, Option, Some, [], ap, ap₂, arith, length, nat_lt, refl, subst, suc, sym, true, ℕ, ◌+◌, ◌-◌, ◌<◌, ◌∙◌, ◌∷◌, ◌≡◌}
use Rattle.std.proofs.lemmas.Bool.{lt-ltb, ltb-true}
use Rattle.std.specs.Option.{option_map_or}
use Rattle.std.specs.Prelude.{get_or, slice_get, zip}

-- ---- what is said is the model's origin

pub says_is : (xs : List Split) (y : Split) (p : ℕ) (o : Origin) (w : Tag) → HasWholeItems xs y p → Says y p o w
    → o ≡ option_map_or (ref xs) w origin.Initial
says_is xs y p o None whole s = s
says_is xs y p o (Some e) whole s = s.origin_is
    ∙ sym (ref_at xs y p s.interval s.item s.event s.traced whole s.traced_is s.at) ∙ ap (ref xs) (sym s.event_is)

-- the activation that goes on is the top one
number_top : (program : Program) (plan : Plan) (y : Split) (l : Level) (ls : List Level) (o : Option LeafCall)
    (a frames : ℕ) → with_own (block_kind plan l.block) (activations program plan y ls) ≡ suc a
    → frames ≡ a + 1 + frame_in o → number_at program plan y l ls o + 1 ≡ frames
number_top program plan y l ls None a frames base h = omega (arith, base, h)
number_top program plan y l ls (Some call) a frames base h = omega (arith, base, h)

module _ (program : Program) (policy : Policy) (v : IsValid program) (story : Story) (p : ℕ) (y : Split)
    (whole : AreWhole y) where
  abbrev plan : Plan
  plan = plan_of program policy

  -- what an event reads, at the place of the first level
  read_says : (x : Split) (taken : Taken) (l : Level) (ls : List Level) (h : Todo)
      → (m : IsFirst program (plan_of program policy) story p y x taken l ls h) → HasTags x.trace → IsLater x y
      → TellsOf program (plan_of program policy) p y x.trace (l ∷ ls)
      → (i : ℕ) (a : Access) (w : Tag) (fr c : ℕ)
      → slice_get (zip (event_of program (plan_of program policy) x.trace.proc taken x.trace.proc.todo).reads
      (tags_of (top_tags x.trace.activations) x.trace.answers
      (event_of program (plan_of program policy) x.trace.proc taken x.trace.proc.todo).reads)) i ≡ Some (a, w)
      → a.spot ≡ Local fr c
      → Says y p (local_origin program (plan_of program policy) (seen_of y) p l.interval (length l.parts) fr c).found w
  read_says x taken l ls h m tagged from tells i a w fr c read local =
      let s : Proc = x.trace.proc in
      let reads : List Access = (event_of program plan s taken s.todo).reads in
      let one = local_is (top_tags x.trace.activations) x.trace.answers reads i a w fr c read local in
      let in_frame : InFrame (frame_of program plan s) (length (top_frame s.frames).cells) (Local fr c) =
      subst (InFrame (frame_of program plan s) (length (top_frame s.frames).cells)) local
      (each_at (frame_of program plan s) (length (top_frame s.frames).cells) reads i a
      (reads_in program plan s taken h m.rest v m.state m.todo_is) one.0) in
      let o : Option LeafCall = leaf_of program plan y l in
      let frame_is : frame_in (leaf_of program plan y l) ≡ fr = sym m.frame ∙ sym in_frame.0 in
      let k : ℕ = number_at program plan y l ls o in
      let top : k + 1 ≡ length s.frames =
      number_top program plan y l ls o (own_number program plan y l ls) (length s.frames) m.base m.counted in
      let acts : length x.trace.activations ≡ length s.frames = acts_length x.trace tagged in
      let last : length x.trace.activations - 1 ≡ k = omega (arith, top, acts) in
      let size : cells_in s.frames k ≡ length (top_frame s.frames).cells = top_size s.frames k (omega (arith, top)) in
      let tag : w ≡ local_tag x.trace.activations k c =
      one.1 ∙ top_reads x.trace.activations [] fr c ∙ ap (λ n. local_tag x.trace.activations n c) last in
      subst (λ t. Says y p (local_origin program plan (seen_of y) p l.interval (length l.parts) fr c).found t) (sym tag)
      (subst (λ n. Says y p (local_origin program plan (seen_of y) p l.interval (length l.parts) n c).found
      (local_tag x.trace.activations k c)) frame_is
      (origin_at program plan p y whole (cells_in s.frames) (local_tag x.trace.activations) x l ls m.stands from tells
      o refl c (subst (λ n. c < n) (sym size) in_frame.1)))

  -- the event stands there, and the search finds what it reads
  pub record IsReadAt (x : Split) (taken : Taken) : Type 0 where
    pub interval : ℕ
    pub item : ℕ
    pub placed_is : part_at y interval item ≡ Some (own (length x.trace.events))
    pub says : (i : ℕ) (a : Access) (w : Tag) (fr c : ℕ)
        → slice_get (zip (event_of program (plan_of program policy) x.trace.proc taken x.trace.proc.todo).reads
        (tags_of (top_tags x.trace.activations) x.trace.answers
        (event_of program (plan_of program policy) x.trace.proc taken x.trace.proc.todo).reads)) i ≡ Some (a, w)
        → a.spot ≡ Local fr c
        → Says y p (local_origin program (plan_of program policy) (seen_of y) p interval item fr c).found w

  read_at : program.functions + p < length program.bodies → (x : Split) (taken : Taken) (ls : List Level)
      (f : IsFollowed program policy v story p y whole x ls)
      (mine : taken.need ≡ need_of program (plan_of program policy) x.trace.proc)
      (later : IsLater (split_step program (plan_of program policy) story p x taken) y) → x.trace.proc.status ≡ None
      → HasTags x.trace → IsLater x y → is_event taken.need ≡ true
      → TellsOf program (plan_of program policy) p y x.trace ls → (todo : List Todo) → x.trace.proc.todo ≡ todo
      → IsReadAt x taken
  read_at there_is x taken [] f mine later runs tagged from event tells todo is =
      absurd (not_nil (closing program plan x.trace.proc.todo) (Some (process_block program plan p))
      (f.told runs).open_is)
  read_at there_is x taken (l ∷ ls) f mine later runs tagged from event tells [] is =
      absurd (something program plan p x.trace.proc f.order runs is)
  read_at there_is x taken (l ∷ ls) f mine later runs tagged from event tells (h ∷ hs) is =
      let m : IsFirst program plan story p y x taken l ls h =
      is_first program policy v story p y whole x taken l ls f mine later there_is runs tagged h hs is in
      record {
        interval = l.interval;
        item = length l.parts;
        placed_is = (m.event_at event).placed;
        says = λ i a w fr c read local. read_says x taken l ls h m tagged from tells i a w fr c read local;
      }

-- every local read of a schedule is found: in a loop, after one or elsewhere
pub all_reads_found : AllLocalReadsAreFound
all_reads_found program policy budget h p k j n i y e a w fr c v at placed_at traced read local =
    let plan : Plan = plan_of program policy in
    let s : Story = story (setting_of program plan budget) h in
    let start : Split = begun_split program plan p (started program plan p budget) in
    let turn : Turns (split_step program plan s p) (λ (x : Split). nat_lt n (length x.trace.events)) start
    (get_or s.steps p []) =
    turns (split_step program plan s p) (λ (x : Split). nat_lt n (length x.trace.events)) start (get_or s.steps p [])
    (none_yet n)
    (ap (λ (x : Split). nat_lt n (length x.trace.events)) (split_is (setting_of program plan budget) h p y at)
    ∙ lt-ltb n (length y.trace.events) (slice_get_below y.trace.events n e traced)) in
    let x : Split = split_of (setting_of program plan budget) s p turn.before in
    let t : Taken = turn.taken in
    let step = event_step n (length x.trace.events) (length (split_step program plan s p x t).trace.events)
    (is_event t.need) (below_not n (length x.trace.events) turn.fails)
    (ltb-true n (length (split_step program plan s p x t).trace.events) turn.holds)
    (events_len program plan s p x.trace t t.need) in
    let runs : x.trace.proc.status ≡ None =
    running program policy budget h p y v at turn.before t turn.after turn.steps_are is_event refl step.0 in
    let mine : t.need ≡ need_of program plan x.trace.proc =
    need_is program policy budget h p y v at turn.before t turn.after turn.steps_are in
    let whole : AreWhole y = all_whole program policy budget h p y v at in
    let there_is : program.functions + p < length program.bodies = there program policy budget h p y v at in
    let later : IsLater x y = later_at program policy budget h p y v at turn.before (t ∷ turn.after) turn.steps_are in
    let tagged : HasTags x.trace =
    tagged_at program policy budget h p y v at turn.before t turn.after turn.steps_are in
    let told = told_at program policy budget h p y v at turn.before t turn.after turn.steps_are runs in
    let f : IsFollowed program policy v s p y whole x (levels_at program policy budget h p y v at turn.before) =
    followed_at program policy budget h p y v at turn.before (t ∷ turn.after) turn.steps_are in
    let next : IsLater (split_step program plan s p x t) y =
    next_later program policy budget h p y v at turn.before t turn.after turn.steps_are in
    let found : IsReadAt program policy v s p y whole x t =
    read_at program policy v s p y whole there_is x t
    (levels_at program policy budget h p y v at turn.before) f mine next runs tagged later step.0 told.tells
    x.trace.proc.todo refl in
    let items : HasWholeItems (splits (setting_of program plan budget) s) y p = items_whole (setting_of program plan budget) h p y v at in
    let r = items.events n (slice_get_below y.trace.events n e traced) in
    let mine_at = r.placed.once k j placed_at in
    let its_at = r.placed.once found.interval found.item (subst (λ m. part_at y found.interval found.item
    ≡ Some (own m)) (sym step.1) found.placed_is) in
    let event = event_at program policy budget h p y v at turn.before t turn.after turn.steps_are step.0 in
    let same : e ≡ traced_by program s t x.trace (event_of program plan x.trace.proc t x.trace.proc.todo) =
    some (sym traced ∙ ap (slice_get y.trace.events) step.1 ∙ event) in
    let says : Says y p (local_origin program plan (seen_of y) p found.interval found.item fr c).found w =
    found.says i a w fr c (ap (λ (z : TracedEvent). slice_get (zip z.event.reads z.writers) i) (sym same)
    ∙ read) local in
    ap₂ (λ z q. (local_origin program plan (seen_of y) p z q fr c).found) (mine_at.0 ∙ sym its_at.0) (mine_at.1 ∙ sym its_at.1)
    ∙ says_is (splits (setting_of program plan budget) s) y p
    (local_origin program plan (seen_of y) p found.interval found.item fr c).found w items says

-- so are those outside loops
pub reads_found : LocalReadsAreFound
reads_found program policy budget h p k j n i y e a w frame c v at placed traced read local outside =
    all_reads_found program policy budget h p k j n i y e a w frame c v at placed traced read local
