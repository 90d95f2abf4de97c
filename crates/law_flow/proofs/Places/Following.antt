-- After all steps of a process the levels are told.
use Rattle.std.proofs.Common.{◌≡◌, ℕ, suc, ◌+◌, ◌<◌, true, List, [], ◌∷◌, ◌++◌, Option, Some, None, refl, ap, sym, subst, ◌∙◌, arith, length, true≢false}
use Rattle.std.specs.List.{All}
use Rattle.std.specs.Prelude.{fold, is_some}
use Rattle.std.proofs.lemmas.Bool.{le-leb}
use Rattle.std.proofs.lemmas.Option.{none-some}
use Rattle.ppd_ast.specs.Valid.{IsValid}
use Rattle.ppd_ast.proofs.ValidLaws.{valid_body, slice_get_there}
use Rattle.ppd_ast.specs.declared.plan.BlockKind.TheVariants as block
use Rattle.ppd_ast.specs.declared.plan.Plan.{Plan}
use Rattle.ppd_ast.specs.declared.plan.Policy.{Policy}
use Rattle.ppd_ast.specs.declared.program.Program.{Program}
use Rattle.ppd_ast.specs.declared.status.Status.{Status}
use Rattle.ppd_blocks.specs.Blocks.{plan_of}
use Rattle.law_steps.specs.Course.{EndsWithEnd}
use Rattle.law_steps.proofs.Facts.State.{IsState, act_state, started_state}
use Rattle.law_steps.specs.OpenBlocks.Stack.{IsInOrder, process_block}
use Rattle.law_steps.proofs.OpenBlocks.Framed.{process_stays}
use Rattle.law_steps.proofs.OpenBlocks.Planned.{kind_is, process_found}
use Rattle.law_steps.proofs.OpenBlocks.Stacks.{steps_move}
use Rattle.ppd_sem.specs.Blocks.{block_kind}
use Rattle.ppd_sem.specs.Described.{trap_of, is_event}
use Rattle.ppd_sem.specs.Process.{act, need_of, started, todos}
use Rattle.ppd_sem.specs.Runs.{IsInner}
use Rattle.ppd_sem.specs.Tables.{block_of}
use Rattle.ppd_sem.proofs.TableWords.{or_zero}
use Rattle.ppd_sem.specs.declared.proc.Need.{Need}
use Rattle.ppd_sem.specs.declared.proc.Need.TheVariants as need
use Rattle.ppd_sem.specs.declared.proc.Proc.{Proc}
use Rattle.ppd_sem.specs.declared.proc.Todo.{Todo}
use Rattle.ppd_sem.proofs.Progress.{act-stopped, need_at_status}
use Rattle.ppd_model.specs.FullTrace.{begun_tracing, trace_by}
use Rattle.ppd_model.specs.Intervals.{Split, begun_split, split_step}
use Rattle.ppd_model.specs.LocalTags.{AreOwn}
use Rattle.ppd_model.specs.Logs.{status_of}
use Rattle.ppd_model.specs.declared.tracing.Story.{Story}
use Rattle.ppd_model.specs.declared.tracing.Taken.{Taken}
use Rattle.ppd_model.proofs.Statuses.{status_after}
use Rattle.law_flow.specs.Places.Closing.{closing}
use Rattle.law_flow.specs.Places.Levels.{IsLater, Level, StandsIn}
use Rattle.law_flow.proofs.Vocabulary.Levels.{levels_after}
use Rattle.law_flow.specs.Places.Leaves.{AreBegun, begun_by}
use Rattle.law_flow.proofs.Places.Later.{later_then, levels_to, step_stands, steps_later}
use Rattle.law_flow.proofs.Places.Levels.{begin_stands}
use Rattle.law_flow.proofs.Places.Opened.{new_plain}
use Rattle.law_flow.proofs.Places.Opening.{from_own}
use Rattle.law_flow.proofs.Places.Steps.{IsStep, event_there, step_is}
use Rattle.law_flow.proofs.Places.Telling.{event_now}
use Rattle.law_flow.proofs.Places.Told.{IsThere, Tells, Told, function_begins, function_left, leaf_begins_at, leaf_left, loop_begins, loop_left, other}
use Rattle.law_flow.proofs.Places.Whole.{AreWhole}
use Rattle.ppd_ast.specs.Lookups.{body_numbered}

-- a process that has not stopped has something to do
pub something : (program : Program) (plan : Plan) (p : ℕ) (s : Proc) → IsInOrder program plan p s → s.status ≡ None
    → s.todo ≡ [] → ⊥
something program plan p s order runs none = subst (EndsWithEnd program) none (order.until_end runs)

module _ (program : Program) (policy : Policy) (v : IsValid program) (story : Story) (p : ℕ) (y : Split)
    (whole : AreWhole y) where
  abbrev plan : Plan
  plan = plan_of program policy

  module _ (x : Split) (taken : Taken) (h : Todo) (hs : List Todo) (is : x.trace.proc.todo
      ≡ h ∷ hs) (runs : x.trace.proc.status ≡ None)
      (order : IsInOrder program plan p x.trace.proc) (state : IsState program plan x.trace.proc)
      (later : IsLater x y) (ls : List Level) (stands : StandsIn x ls)
      (told : Told program policy v story p y whole x ls) where
    abbrev next : Proc
    next = act program plan x.trace.proc taken.answer

    abbrev after : List (Option ℕ)
    after = closing program plan next.todo

    abbrev Goal : Need → Type 0
    Goal n = Tells program policy v story p y whole x taken h hs is runs order state later after
        (levels_after program plan n x ls)
        (begun_by next.frames (trace_by program plan story p taken n x.trace).activations)

    by_need : (n : Need) → IsStep program plan story p taken x.trace h n
        → (is_event n ≡ true → IsThere program policy v story p y whole x taken h hs is runs order state later after)
        → trap_of (need_of program plan x.trace.proc) ≡ trap_of n → status_of n ≡ None → Goal n
    by_need (need.Read c) st at trap run = (
      told.open_is
          ∙ ap (λ c. c ++ Some (process_block program plan p) ∷ []) st.moves,
      subst (AreBegun program plan p y ls)
          (sym st.begun) told.begun,
    )
    by_need need.Stopped st at trap run = (
      told.open_is
          ∙ ap (λ c. c ++ Some (process_block program plan p) ∷ []) st.moves,
      subst (AreBegun program plan p y ls)
          (sym st.begun) told.begun,
    )
    by_need (need.Enter b u) st at trap run =
        loop_begins program policy v story p y whole x taken h hs is runs order state later after ls
        (length x.spans) b told st.moves st.of _ st.begun
    by_need (need.Leave b u) st at trap run =
        loop_left program policy v story p y whole x taken h hs is runs order state later after ls b stands told
        st.moves st.of _ st.begun
    by_need (need.Invoke None u) st at trap run =
        leaf_begins_at program policy v story p y whole x taken h hs is runs order state later after ls stands told
        (at refl) st.moves st.of trap _ st.begun
    by_need (need.Invoke (Some b) u) st at trap run =
        function_begins program policy v story p y whole x taken h hs is runs order state later after ls
        (length x.spans) b told (at refl) st.moves st.of _ st.begun
    by_need (need.Back None u) st at trap run =
        leaf_left program policy v story p y whole x taken h hs is runs order state later after ls told
        (at refl) st.moves st.of _ st.begun
    by_need (need.Back (Some b) u) st at trap run =
        function_left program policy v story p y whole x taken h hs is runs order state later after ls b stands told
        st.moves st.of _ st.begun
    by_need (need.End b) st at trap run = absurd (none-some _ (sym run))
    by_need (need.Trap a) st at trap run = absurd (none-some _ (sym run))
    by_need need.Budget st at trap run = absurd (none-some _ (sym run))
    by_need (need.Write c i) st at trap run =
        other program policy v story p y whole x taken h hs is runs order state later after ls told
        (at refl) st.moves st.of _ st.begun
    by_need need.Plain st at trap run =
        other program policy v story p y whole x taken h hs is runs order state later after ls told
        (at refl) st.moves st.of _ st.begun
    by_need (need.P c u) st at trap run =
        other program policy v story p y whole x taken h hs is runs order state later after ls told
        (at refl) st.moves st.of _ st.begun
    by_need (need.V c u) st at trap run =
        other program policy v story p y whole x taken h hs is runs order state later after ls told
        (at refl) st.moves st.of _ st.begun
    by_need (need.Send c i u) st at trap run =
        other program policy v story p y whole x taken h hs is runs order state later after ls told
        (at refl) st.moves st.of _ st.begun
    by_need (need.Offer c i) st at trap run =
        other program policy v story p y whole x taken h hs is runs order state later after ls told
        (at refl) st.moves st.of _ st.begun
    by_need (need.Done c u) st at trap run =
        other program policy v story p y whole x taken h hs is runs order state later after ls told
        (at refl) st.moves st.of _ st.begun
    by_need (need.Recv c u) st at trap run =
        other program policy v story p y whole x taken h hs is runs order state later after ls told
        (at refl) st.moves st.of _ st.begun

  abbrev IsTold : Split → List Level → Type 0
  IsTold x ls = Told program policy v story p y whole x ls

  -- a step of a process that runs on
  pub told_step : (x : Split) (taken : Taken) (ls : List Level) → StandsIn x ls
      → taken.need ≡ need_of program plan x.trace.proc → x.trace.proc.status ≡ None
      → IsInOrder program plan p x.trace.proc → IsState program plan x.trace.proc
      → IsLater (split_step program plan story p x taken) y
      → (act program plan x.trace.proc taken.answer).status ≡ None
      → IsTold x ls → IsTold (split_step program plan story p x taken) (levels_after program plan taken.need x ls)
  told_step x taken ls stands mine runs order state later goes told = by x.trace.proc.todo refl
    where
      by : (todo : List Todo) → x.trace.proc.todo ≡ todo
          → IsTold (split_step program plan story p x taken) (levels_after program plan taken.need x ls)
      by [] is = absurd (something program plan p x.trace.proc order runs is)
      by (h ∷ hs) is =
          let run : status_of (need_of program plan x.trace.proc) ≡ None =
          sym (status_after program plan taken.answer x.trace.proc runs) ∙ goes in
          let st : IsStep program plan story p taken x.trace h taken.need =
          subst (IsStep program plan story p taken x.trace h) (sym mine)
          (step_is program plan story p taken x.trace h hs v order runs is mine run) in
          let from : IsLater x y =
          later_then x (split_step program plan story p x taken) y
          (step_stands program plan story p x taken ls stands).1 later in
          let g = by_need x taken h hs is runs order state from ls stands told taken.need st
          (λ e. later.events (length x.trace.events) (event_now program plan story taken x.trace h hs is)
          (event_there program plan story p taken x.trace taken.need e))
          (ap trap_of (sym mine)) (ap status_of mine ∙ run) in
          record { open_is = g.0; begun = g.1 }

  -- what is told of a process after some steps
  pub record IsFollowed (x : Split) (ls : List Level) : Type 0 where
    pub stands : StandsIn x ls
    pub order : IsInOrder program plan p x.trace.proc
    pub state : IsState program plan x.trace.proc
    pub told : x.trace.proc.status ≡ None → IsTold x ls

  pub followed_step : (x : Split) (taken : Taken) (ls : List Level) → taken.need ≡ need_of program plan x.trace.proc
      → IsLater (split_step program plan story p x taken) y → IsFollowed x ls
      → IsFollowed (split_step program plan story p x taken) (levels_after program plan taken.need x ls)
  followed_step x taken ls mine later f = record {
    stands = (step_stands program plan story p x taken ls f.stands).0;
    order = steps_move.stays program plan p x.trace.proc taken.answer v f.order;
    state = act_state program plan v x.trace.proc taken.answer f.state;
    told = λ goes. by x.trace.proc.status refl goes;
  }
    where
      by : (o : Option Status) → x.trace.proc.status ≡ o → (act program plan x.trace.proc taken.answer).status ≡ None
          → IsTold (split_step program plan story p x taken) (levels_after program plan taken.need x ls)
      by None runs goes = told_step x taken ls f.stands mine runs f.order f.state later goes (f.told runs)
      by (Some st) stopped goes =
          absurd (none-some st (sym goes
          ∙ ap (λ (q : Proc). q.status) (act-stopped program plan x.trace.proc taken.answer
          (need_at_status program plan x.trace.proc (Some st) stopped)) ∙ stopped))

  pub follow : (x : Split) (ls : List Level) (steps : List Taken) → AreOwn program plan x.trace.proc steps
      → IsLater (fold (split_step program plan story p) x steps) y → IsFollowed x ls
      → IsFollowed (fold (split_step program plan story p) x steps) (levels_to program plan story p x steps ls)
  follow x ls [] mine later f = f
  follow x ls (t ∷ ts) mine later f =
      let now : Split = split_step program plan story p x t in
      let stands : StandsIn now (levels_after program plan t.need x ls) =
      (step_stands program plan story p x t ls f.stands).0 in
      let from : IsLater now y = later_then now (fold (split_step program plan story p) now ts) y
      (steps_later program plan story p now (levels_after program plan t.need x ls) ts stands) later in
      follow now (levels_after program plan t.need x ls) ts mine.1 later (followed_step x t ls mine.0 from f)

  -- ---- the start

  none_closed : (n : ℕ) (stmts : List ℕ) → All (IsInner program n) stmts → closing program plan (todos stmts) ≡ []
  none_closed n [] g = refl
  none_closed n (i ∷ is) g = new_plain program plan i (todos is) (g 0 i (omega arith)).stays
      ∙ none_closed n is (λ k d lt. g (suc k) d (omega arith))

  pub process_there : program.functions + p < length program.bodies
      → is_some (block_of plan (block.Process (program.functions + p))) ≡ true
  process_there lt =
      let at = slice_get_there program.bodies (program.functions + p) lt in
      process_found program policy (program.functions + p) at.0 at.1
      ((valid_body program (program.functions + p) at.0 v at.1).process
      ∙ le-leb program.functions (program.functions + p) (omega arith))

  pub process_kind : program.functions + p < length program.bodies
      → block_kind plan (process_block program plan p) ≡ block.Process (program.functions + p)
  process_kind lt = by (block_of plan (block.Process (program.functions + p))) refl
    where
      by : (o : Option ℕ) → block_of plan (block.Process (program.functions + p)) ≡ o
          → block_kind plan (process_block program plan p) ≡ block.Process (program.functions + p)
      by None e = absurd (true≢false (sym (process_there lt) ∙ ap is_some e))
      by (Some b) e = ap (λ o. block_kind plan (or_zero o)) e
          ∙ kind_is program policy (block.Process (program.functions + p)) b e

  abbrev pub first_level : Level
  first_level = record { interval = 0; block = process_block program plan p; parts = [] }

  pub followed_start : (budget : ℕ) → program.functions + p < length program.bodies
      → IsFollowed (begun_split program plan p (started program plan p budget)) (first_level ∷ [])
  followed_start budget lt =
      let inner = process_stays program (program.functions + p) v (omega arith) in
      record {
        stands = begin_stands (process_block program plan p) 0 None
            (record {
              trace = begun_tracing (started program plan p budget);
              edges = [];
              edge = 0;
              spans =
                  [];
              running = [];
            }) [] (record { running = refl; levels = tt });
        order = steps_move.starts program plan p budget v lt;
        state = started_state program plan v p budget lt;
        told = λ runs. record {
          open_is = ap (λ c. c ++ Some (process_block program plan p) ∷ [])
              (sym (none_closed inner.0 (body_numbered program (program.functions + p)).top inner.1));
          begun = from_own program plan p y first_level [] _ (block.Process (program.functions + p)) refl
              (process_kind lt) (refl, refl);
        };
      }
