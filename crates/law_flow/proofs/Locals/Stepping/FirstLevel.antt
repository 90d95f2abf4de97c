-- What is so at the first level of a process before a step: its activation, its items so far, the event's place.
use Rattle.std.proofs.Common.{◌≡◌, ℕ, suc, ◌+◌, ◌<◌, ◌≤◌, true, List, [], ◌∷◌, ◌++◌, Some, None, ap, sym, ◌∙◌, arith, length}
use Rattle.std.specs.Prelude.{slice_get}
use Rattle.ppd_ast.specs.Valid.{IsValid}
use Rattle.ppd_ast.specs.declared.plan.Plan.{Plan}
use Rattle.ppd_ast.specs.declared.plan.Policy.{Policy}
use Rattle.ppd_ast.specs.declared.program.Program.{Program}
use Rattle.ppd_blocks.specs.Blocks.{plan_of}
use Rattle.law_steps.proofs.Facts.State.{IsState}
use Rattle.law_steps.specs.OpenBlocks.Stack.{IsInOrder, process_block}
use Rattle.ppd_sem.specs.Blocks.{block_kind}
use Rattle.ppd_sem.specs.Described.{frame_of, trap_of, is_event}
use Rattle.ppd_sem.specs.Process.{need_of}
use Rattle.ppd_sem.specs.declared.proc.Todo.{Todo}
use Rattle.ppd_model.specs.FlowbackEdges.{part_at}
use Rattle.ppd_model.specs.FullTrace.{event_of, trace_step, traced_by}
use Rattle.ppd_model.specs.Intervals.{own, Split, split_step}
use Rattle.ppd_model.specs.LocalTags.{HasTags, TagsItsWrites, is_in_writes}
use Rattle.ppd_model.specs.declared.trace.TracedEvent.{TracedEvent}
use Rattle.ppd_model.specs.declared.tracing.Story.{Story}
use Rattle.ppd_model.specs.declared.tracing.Taken.{Taken}
use Rattle.ppd_model.proofs.CountedOn.{last_at, kept_at}
use Rattle.ppd_model.proofs.LocalSteps.{tags_its_writes}
use Rattle.ppd_graph.specs.Locals.{frame_in}
use Rattle.law_flow.specs.Places.Closing.{closing}
use Rattle.law_flow.specs.Places.Levels.{IsLater, Level, StandsIn, numbers}
use Rattle.law_flow.specs.Places.Leaves.{AreBegun, Begun, begun_by, leaf_of, open_at}
use Rattle.law_flow.proofs.Places.Following.{IsFollowed, process_there}
use Rattle.law_flow.proofs.Places.Frames.{frame_tells}
use Rattle.law_flow.proofs.Places.Later.{event_placed, later_then, step_stands}
use Rattle.law_flow.proofs.Places.Opening.{Own}
use Rattle.law_flow.proofs.Places.Steps.{event_there}
use Rattle.law_flow.proofs.Places.Telling.{stmt_now, trap_now}
use Rattle.law_flow.proofs.Places.Told.{Told}
use Rattle.law_flow.proofs.Places.Whole.{AreWhole, first_level, level_whole}
use Rattle.law_flow.proofs.Vocabulary.Says.{activations, with_own}
use Rattle.law_flow.proofs.Vocabulary.LoopTells.{own_number}
use Rattle.law_flow.proofs.Locals.Counts.{begun_count, frames_length, own_of, some_begun}
use Rattle.law_flow.proofs.Locals.Returned.{part_there}
use Rattle.law_flow.proofs.Locals.Tells.Tags.{IsEventAt, TellsOf, are_tagged, change_of, none_below, writes_at}

-- what is told of the tags of process p, which is as y later, after the step
abbrev pub TellsThen : Program → Plan → Story → ℕ → Split → Split → Taken → List Level → Type 0
TellsThen program plan story p y x taken ls = TellsOf program plan p y (split_step program plan story p x taken).trace ls

-- how many activations there are then
abbrev pub count_then : Program → Plan → Story → ℕ → Split → Taken → ℕ
count_then program plan story p x taken = length (split_step program plan story p x taken).trace.proc.frames

-- the event of the step
abbrev pub event_by : Program → Plan → Story → Split → Taken → TracedEvent
event_by program plan story x taken =
    traced_by program story taken x.trace (event_of program plan x.trace.proc taken x.trace.proc.todo)

-- a process at this first level, before a step: y is as the process is later
pub record IsFirst (program : Program) (plan : Plan) (story : Story) (p : ℕ) (y x : Split) (taken : Taken) (l : Level)
    (ls : List Level) (h : Todo) : Type 0 where
  pub rest : List Todo
  pub todo_is : x.trace.proc.todo ≡ h ∷ rest
  pub stmt_is : h.stmt ≡ (event_by program plan story x taken).event.stmt
  pub trap_is : (event_by program plan story x taken).event.trap ≡ trap_of (need_of program plan x.trace.proc)
  pub stands : StandsIn x (l ∷ ls)
  pub order : IsInOrder program plan p x.trace.proc
  pub state : IsState program plan x.trace.proc
  pub open_is : open_at program plan y (l ∷ ls)
      ≡ closing program plan x.trace.proc.todo ++ Some (process_block program plan p) ∷ []
  pub begun : AreBegun program plan p y (l ∷ ls) (begun_by x.trace.proc.frames x.trace.activations)
  pub tags : TagsItsWrites program plan p x.trace (trace_step program plan story p x.trace taken) taken
  pub frames_are : length x.trace.proc.frames
      ≡ frame_in (leaf_of program plan y l) + with_own (block_kind plan l.block) (activations program plan y ls)
  pub base : with_own (block_kind plan l.block) (activations program plan y ls) ≡ suc (own_number program plan y l ls)
  pub counted : length x.trace.proc.frames ≡ own_number program plan y l ls + 1 + frame_in (leaf_of program plan y l)
  pub frame : frame_of program plan x.trace.proc ≡ frame_in (leaf_of program plan y l)
  pub later : IsLater (split_step program plan story p x taken) y
  pub event_at : is_event taken.need ≡ true
      → IsEventAt program plan p y l ls (length x.trace.events) (event_by program plan story x taken)
      (change_of program plan story p x taken) (own_number program plan y l ls)

module _ (program : Program) (policy : Policy) (v : IsValid program) (story : Story) (p : ℕ) (y : Split)
    (whole : AreWhole y) where
  abbrev plan : Plan
  plan = plan_of program policy

  pub count_of : (x : Split) (ms : List Level) → Told program policy v story p y whole x ms → HasTags x.trace
      → length x.trace.proc.frames ≡ activations program plan y ms
  count_of x ms told tags = sym (frames_length x.trace tags)
      ∙ begun_count program plan p y ms (begun_by x.trace.proc.frames x.trace.activations) told.begun

  module _ (x : Split) (taken : Taken) (l : Level) (ls : List Level)
      (f : IsFollowed program policy v story p y whole x (l ∷ ls))
      (mine : taken.need ≡ need_of program plan x.trace.proc)
      (later : IsLater (split_step program plan story p x taken) y) where
    abbrev a : ℕ
    a = own_number program plan y l ls

    abbrev fr : ℕ
    fr = frame_in (leaf_of program plan y l)

    now_later : IsLater x y
    now_later = later_then x (split_step program plan story p x taken) y
        (step_stands program plan story p x taken (l ∷ ls) f.stands).1 later

    -- where the step's event stands
    module _ (event : is_event taken.need ≡ true) where
      there : slice_get y.trace.events (length x.trace.events) ≡ Some (event_by program plan story x taken)
      there = later.events (length x.trace.events) (event_by program plan story x taken)
          (event_there program plan story p taken x.trace taken.need event)

      placed : part_at y l.interval (length l.parts) ≡ Some (own (length x.trace.events))
      placed =
          let n : ℕ = length x.trace.events in
          let g = event_placed program plan story p x taken l ls f.stands event in
          let j = later.spans l.interval g.0 g.1 in
          part_there y l.interval (length l.parts) j.0 (own n) j.1
          (ap (λ ps. slice_get ps (length l.parts)) (j.2.parts ∙ ap (λ ps. ps ++ j.2.more) g.3)
          ∙ kept_at ((l.parts ++ own n ∷ []) ++ g.2) j.2.more (length l.parts) (own n)
          (kept_at (l.parts ++ own n ∷ []) g.2 (length l.parts) (own n) (last_at l.parts (own n))))

    pub is_first : program.functions + p < length program.bodies → x.trace.proc.status ≡ None → HasTags x.trace
        → (h : Todo) (hs : List Todo) → x.trace.proc.todo ≡ h ∷ hs
        → IsFirst program (plan_of program policy) story p y x taken l ls h
    is_first there_is runs tagged h hs is = record {
      rest = hs;
      todo_is = is;
      stmt_is = sym (stmt_now program plan story taken x.trace h hs is);
      trap_is = trap_now program plan story taken x.trace h hs is;
      stands = f.stands;
      order = f.order;
      state = f.state;
      open_is = told.open_is;
      begun = told.begun;
      tags = tags;
      frames_are = frames_are;
      base = base;
      counted = counted;
      frame = frame;
      later = later;
      event_at = λ event. record {
        there = there event;
        whole = level_whole y l (numbers ls) whole (first_level x y l ls f.stands now_later);
        placed = placed event;
        base = base;
        counted = counted;
        tagged = are_tagged program plan story p x taken tags event;
        own_writes = λ c. ap (λ i. is_in_writes program plan x.trace.proc taken i c) own_one
            ∙ writes_at program plan x.trace.proc taken a fr frame counted 0 c;
        leaf_writes = λ c. ap (λ i. is_in_writes program plan x.trace.proc taken i c) next_one
            ∙ writes_at program plan x.trace.proc taken a fr frame counted 1 c;
        low_writes = none_below program plan x.trace.proc taken a fr frame counted;
      };
    }
      where
        told : Told program policy v story p y whole x (l ∷ ls)
        told = f.told runs

        tags : TagsItsWrites program plan p x.trace (trace_step program plan story p x.trace taken) taken
        tags = tags_its_writes program plan story p x.trace taken tagged mine

        frames_are : length x.trace.proc.frames
            ≡ fr + with_own (block_kind plan l.block) (activations program plan y ls)
        frames_are = count_of x (l ∷ ls) told tagged

        least : 1 ≤ with_own (block_kind plan l.block) (activations program plan y ls)
        least =
            let own : (ds : List Begun) × Own program plan p y (block_kind plan l.block) ls ds =
            own_of p l.parts (leaf_of program plan y l) (Own program plan p y (block_kind plan l.block) ls)
            (begun_by x.trace.proc.frames x.trace.activations) told.begun in
            some_begun program plan p y (block_kind plan l.block) ls own.0 own.1

        base : with_own (block_kind plan l.block) (activations program plan y ls) ≡ suc a
        base = omega (arith, least)

        counted : length x.trace.proc.frames ≡ a + 1 + fr
        counted = omega (arith, frames_are, base)

        frame : frame_of program plan x.trace.proc ≡ fr
        frame = frame_tells program policy p y x.trace.proc l ls v f.order f.state
            (process_there program policy v story p y whole there_is) told.open_is

        own_one : a ≡ a + 0
        own_one = omega arith

        next_one : suc a ≡ a + 1
        next_one = omega arith
