-- A closed interval of a function ends with the event that returned its value.
use Rattle.law_steps.specs.Policies.{setting_by}
use Rattle.ppd_model.specs.Setting.{setting_of}
use Rattle.law_flow.proofs.Locals.Closes.{ClosesAt, closes_at}
use Rattle.law_flow.proofs.Locals.Ends.{closed_at, closed_in}
use Rattle.law_flow.proofs.Locals.Moments.{event_at, ls, need_is, next, next_later, now, running}
use Rattle.law_flow.proofs.Locals.Turns.{Turns, turns}
use Rattle.law_flow.proofs.Places.Following.{IsFollowed, something}
use Rattle.law_flow.proofs.Places.LeafTells.{all_whole, followed_at, split_is, stands_at}
use Rattle.law_flow.proofs.Places.Opening.{first_block}
use Rattle.law_flow.proofs.Places.Steps.{IsStep, step_is}
use Rattle.law_flow.proofs.Places.Whole.{AreWhole}
use Rattle.law_flow.specs.Locals.Returned.{ReturnsAreFound}
use Rattle.law_flow.specs.Places.Closing.{closing}
use Rattle.law_flow.specs.Places.Leaves.{leaf_of, open_at}
use Rattle.law_flow.specs.Places.Levels.{Level}
use Rattle.law_steps.proofs.OpenBlocks.Planned.{kind_is}
use Rattle.law_steps.specs.OpenBlocks.Stack.{process_block}
use Rattle.ppd_ast.proofs.ValidLaws.{slice_get_below}
use Rattle.ppd_ast.specs.Valid.{IsValid}
use Rattle.ppd_ast.specs.declared.plan.BlockKind.TheVariants as block
use Rattle.ppd_ast.specs.declared.plan.Plan.{Plan}
use Rattle.ppd_ast.specs.declared.plan.Policy.{Policy}
use Rattle.ppd_ast.specs.declared.program.Program.{Program}
use Rattle.ppd_blocks.specs.Blocks.{plan_of}
use Rattle.ppd_graph.specs.Seen.{seen_of}
use Rattle.ppd_model.proofs.Changes.{some}
use Rattle.ppd_model.proofs.CountedOn.{last_at}
use Rattle.ppd_model.proofs.EdgeWords.{part_in}
use Rattle.ppd_model.proofs.Items.{items_whole}
use Rattle.ppd_model.proofs.Lists.{get_mapped}
use Rattle.ppd_model.specs.FlowbackEdges.{part_at}
use Rattle.ppd_model.specs.FullTrace.{Tag, me_in, top_tags}
use Rattle.ppd_model.specs.Intervals.{Part, Span, Split, begun_split, items_of, left_by, own, ref, split_of, split_step, splits}
use Rattle.ppd_model.specs.Items.{HasWholeItems, IsReferred}
use Rattle.ppd_model.specs.Logs.{status_of}
use Rattle.ppd_model.specs.Marks.{closed}
use Rattle.ppd_model.specs.NearIntervals.{is_loop}
use Rattle.ppd_model.specs.Story.{story}
use Rattle.ppd_model.specs.declared.flow.Origin.TheVariants as origin
use Rattle.ppd_model.specs.declared.trace.EventId.{EventId}
use Rattle.ppd_model.specs.declared.trace.TracedEvent.{TracedEvent}
use Rattle.ppd_model.specs.declared.tracing.Story.{Story}
use Rattle.ppd_model.specs.declared.tracing.Taken.{Taken}
use Rattle.ppd_sem.specs.Blocks.{block_kind}
use Rattle.ppd_sem.specs.Process.{act, need_of, started}
use Rattle.ppd_sem.specs.declared.proc.Need.{Need}
use Rattle.ppd_sem.specs.declared.proc.Need.TheVariants as need
use Rattle.ppd_sem.specs.declared.proc.Proc.{Proc}
use Rattle.ppd_sem.specs.declared.proc.Todo.{Todo}
use Rattle.std.proofs.Common.{List, None, Option, Some, [], ap, arith, false, length, refl, subst, suc, sym, true, true≢false, zero, ℕ, ◌++◌, ◌+◌, ◌-◌, ◌∙◌, ◌∷◌, ◌≡◌}
use Rattle.std.proofs.lemmas.List.{length_push}
use Rattle.std.specs.Option.{option_map_or}
use Rattle.std.specs.Prelude.{get_or, is_some, slice_get}

-- ---- look-ups

-- an event is referred to where it stands
pub ref_at : (xs : List Split) (y : Split) (p k j n : ℕ) (e : TracedEvent) → HasWholeItems xs y p
    → slice_get y.trace.events n ≡ Some e → part_at y k j ≡ Some (own n)
    → ref xs (record { process = p; number = n }) ≡ origin.Item p k j
ref_at xs y p k j n e whole there at =
    let r : IsReferred xs y p n = whole.events n (slice_get_below y.trace.events n e there) in
    let same = r.placed.once k j at in
    r.ref_is ∙ ap (λ z. origin.Item p z r.item) (sym same.0) ∙ ap (λ z. origin.Item p k z) (sym same.1)

-- a part of an interval that is there
pub part_there : (y : Split) (k j : ℕ) (i : Span) (q : Part) → slice_get y.spans k ≡ Some i
    → slice_get i.parts j ≡ Some q → part_at y k j ≡ Some q
part_there y k j i q there at = ap (λ o. part_in o j) there ∙ at

closed_there : (o : Option Span) → closed_in o ≡ true → (i : Span) × (o ≡ Some i) × (is_some i.closed ≡ true)
closed_there None h = absurd (true≢false (sym h))
closed_there (Some i) h = (i, refl, h)

start_closed : (program : Program) (plan : Plan) (p : ℕ) (s : Proc) (m : ℕ)
    → closed_at m (begun_split program plan p s).spans ≡ false
start_closed program plan p s zero = refl
start_closed program plan p s (suc m) = refl

-- ---- the step that leaves interval m

module _ (program : Program) (policy : Policy) (budget : ℕ) (h : List ℕ) (p m : ℕ) (y : Split) (i : Span)
    (v : IsValid program)
    (at : slice_get (splits (setting_by program policy budget)
    (story (setting_by program policy budget) h)) p ≡ Some y)
    (there : slice_get y.spans m ≡ Some i) (is_so : is_some i.closed ≡ true) where
  abbrev plan : Plan
  plan = plan_of program policy

  abbrev s : Story
  s = story (setting_of program plan budget) h

  pub leaving : Turns (split_step program plan s p) (λ (x : Split). closed_at m x.spans)
      (begun_split program plan p (started program plan p budget)) (get_or s.steps p [])
  leaving =
      turns (split_step program plan s p) (λ (x : Split). closed_at m x.spans)
      (begun_split program plan p (started program plan p budget)) (get_or s.steps p [])
      (start_closed program plan p (started program plan p budget) m)
      (ap (λ (x : Split). closed_at m x.spans) (split_is (setting_of program plan budget) h p y at) ∙ ap closed_in there ∙ is_so)

  pub closing_step : ClosesAt program plan p
      (now program policy budget h p y v at leaving.before leaving.taken leaving.after leaving.steps_are)
      (ls program policy budget h p y v at leaving.before leaving.taken leaving.after leaving.steps_are)
      leaving.taken.need m i
  closing_step =
      let w = closed_there (slice_get
      (next program policy budget h p y v at leaving.before leaving.taken leaving.after leaving.steps_are).spans
      m) leaving.holds in
      let later = (next_later program policy budget h p y v at leaving.before leaving.taken leaving.after
      leaving.steps_are).spans m w.0 w.1 in
      let same : w.0 ≡ i = sym (later.2.stays w.2) ∙ some (sym later.1 ∙ there) in
      subst (λ j. ClosesAt program plan p
      (now program policy budget h p y v at leaving.before leaving.taken leaving.after leaving.steps_are)
      (ls program policy budget h p y v at leaving.before leaving.taken leaving.after leaving.steps_are)
      leaving.taken.need m j) same
      (closes_at program plan s p
      (now program policy budget h p y v at leaving.before leaving.taken leaving.after leaving.steps_are)
      leaving.taken
      (ls program policy budget h p y v at leaving.before leaving.taken leaving.after leaving.steps_are)
      (stands_at program policy budget h p y v at leaving.before (leaving.taken ∷ leaving.after) leaving.steps_are) m
      w.0 leaving.fails w.1 w.2)

-- a step that leaves a loop leaves a loop's block
loop_left : (program : Program) (policy : Policy) (story' : Story) (p : ℕ) (y : Split) (whole : AreWhole y)
    (x : Split) (taken : Taken) (l : Level) (others : List Level) (b u : ℕ) → (v : IsValid program)
    → IsFollowed program policy v story' p y whole x (l ∷ others)
    → taken.need ≡ need_of program (plan_of program policy) x.trace.proc → taken.need ≡ need.Leave b u
    → x.trace.proc.status ≡ None
    → is_loop (block_kind (plan_of program policy) l.block) ≡ true
loop_left program policy story' p y whole x taken l others b u v f mine is runs = by x.trace.proc.todo refl
  where
    by : (todo : List Todo) → x.trace.proc.todo ≡ todo → is_loop (block_kind (plan_of program policy) l.block) ≡ true
    by [] e = absurd (something program (plan_of program policy) p x.trace.proc f.order runs e)
    by (k ∷ ks) e =
        let need_is : need_of program (plan_of program policy) x.trace.proc ≡ need.Leave b u = sym mine ∙ is in
        let st : IsStep program (plan_of program policy) story' p taken x.trace k (need.Leave b u) =
        subst (IsStep program (plan_of program policy) story' p taken x.trace k) need_is
        (step_is program (plan_of program policy) story' p taken x.trace k ks v f.order runs e mine
        (ap status_of need_is)) in
        let first = first_block (leaf_of program (plan_of program policy) y l) l.block b
        (open_at program (plan_of program policy) y others)
        (closing program (plan_of program policy)
        (act program (plan_of program policy) x.trace.proc taken.answer).todo ++ Some
        (process_block program (plan_of program policy) p) ∷ [])
        ((f.told runs).open_is
        ∙ ap (λ c. c ++ Some (process_block program (plan_of program policy) p) ∷ []) st.moves) in
        ap (λ c. is_loop (block_kind (plan_of program policy) c)) first.1
        ∙ ap is_loop (kind_is program policy (block.Loop k.stmt) b st.of.block)

-- what another step leaves
left_other : (plan : Plan) (me : EventId) (tags : List Tag) (n : Need) → ((b u : ℕ) → n ≡ need.Leave b u → ⊥)
    → left_by plan me tags n ≡ Some me ∷ []
left_other pl me tags (need.Leave b u) other = absurd (other b u refl)
left_other pl me tags n other = refl

-- a function's interval that is left has the tag of its return
pub left_by_return : (program : Program) (policy : Policy) (budget : ℕ) (h : List ℕ) (p m : ℕ) (y : Split) (i : Span)
    (v : IsValid program)
    (at : slice_get (splits (setting_by program policy budget)
    (story (setting_by program policy budget) h)) p ≡ Some y)
    (there : slice_get y.spans m ≡ Some i) (is_so : is_some i.closed ≡ true)
    → is_loop (block_kind (plan_of program policy) i.block) ≡ false
    → i.left ≡ Some (me_in p (split_of (setting_by program policy budget)
    (story (setting_by program policy budget) h) p
    (leaving program policy budget h p m y i v at there is_so).before).trace) ∷ []
left_by_return program policy budget h p m y i v at there is_so no_loop =
    let plan : Plan = plan_of program policy in
    let s : Story = story (setting_of program plan budget) h in
    let turn = leaving program policy budget h p m y i v at there is_so in
    let x : Split = split_of (setting_of program plan budget) s p turn.before in
    let t : Taken = turn.taken in
    let c = closing_step program policy budget h p m y i v at there is_so in
    let f : IsFollowed program policy v s p y (all_whole program policy budget h p y v at) x (c.level ∷ c.others) =
    subst (IsFollowed program policy v s p y (all_whole program policy budget h p y v at) x) c.levels_are
    (followed_at program policy budget h p y v at turn.before (t ∷ turn.after) turn.steps_are) in
    let runs : x.trace.proc.status ≡ None =
    running program policy budget h p y v at turn.before t turn.after turn.steps_are
    (λ n. is_some (closed program plan x.trace.proc n)) refl c.closes in
    let mine : t.need ≡ need_of program plan x.trace.proc =
    need_is program policy budget h p y v at turn.before t turn.after turn.steps_are in
    c.left_are ∙ left_other plan (me_in p x.trace) (top_tags x.trace.activations) t.need
    (λ b u e. true≢false (sym
    (loop_left program policy s p y (all_whole program policy budget h p y v at) x t c.level c.others b u v f
    mine e runs) ∙ ap (λ k. is_loop (block_kind plan k)) (sym c.block_is) ∙ no_loop))

pub returns_found : ReturnsAreFound
returns_found program policy budget h p m y i w v at there is_so no_loop w_is =
    let plan : Plan = plan_of program policy in
    let s : Story = story (setting_of program plan budget) h in
    let turn = leaving program policy budget h p m y i v at there is_so in
    let x : Split = split_of (setting_of program plan budget) s p turn.before in
    let t : Taken = turn.taken in
    let c = closing_step program policy budget h p m y i v at there is_so in
    let left : i.left ≡ Some (me_in p x.trace) ∷ [] =
    left_by_return program policy budget h p m y i v at there is_so no_loop in
    let tag : w ≡ Some (me_in p x.trace) = some (sym w_is ∙ ap (λ ts. slice_get ts 0) left) in
    let event = event_at program policy budget h p y v at turn.before t turn.after turn.steps_are c.event in
    let whole : HasWholeItems (splits (setting_of program plan budget) s) y p = items_whole (setting_of program plan budget) h p y v at in
    let stands : part_at y m (length c.level.parts) ≡ Some (own (length x.trace.events)) =
    part_there y m (length c.level.parts) i (own (length x.trace.events)) there
    (ap (λ ps. slice_get ps (length c.level.parts)) c.parts_are
    ∙ last_at c.level.parts (own (length x.trace.events))) in
    let items : length (get_or (seen_of y).items m []) ≡ length c.level.parts + 1 =
    ap length (get_mapped (items_of y) y.spans m [] i there) ∙ whole.whole m i there ∙ ap length c.parts_are
    ∙ length_push c.level.parts (own (length x.trace.events)) in
    let last : length (get_or (seen_of y).items m []) - 1 ≡ length c.level.parts = omega (arith, items) in
    ap (λ j. origin.Item p m j) last
    ∙ sym (ref_at (splits (setting_of program plan budget) s) y p m (length c.level.parts)
    (length x.trace.events) _ whole event stands)
    ∙ ap (λ w. option_map_or (ref (splits (setting_of program plan budget) s)) w origin.Initial) (sym tag)
