-- What is open and what was called at the levels goes on being told with each step.
use Rattle.std.proofs.Common.{◌≡◌, ℕ, true, false, List, [], ◌∷◌, ◌++◌, Option, Some, None, refl, ap, sym, subst, ◌∙◌, length}
use Rattle.std.specs.Prelude.{drop, slice_get}
use Rattle.ppd_ast.specs.Numbered.{is_call}
use Rattle.ppd_ast.specs.Valid.{IsValid}
use Rattle.ppd_ast.specs.declared.plan.BlockKind.{BlockKind}
use Rattle.ppd_ast.specs.declared.plan.BlockKind.TheVariants as block
use Rattle.ppd_ast.specs.declared.plan.Plan.{Plan}
use Rattle.ppd_ast.specs.declared.plan.Policy.{Policy}
use Rattle.ppd_ast.specs.declared.program.Kind.{Kind}
use Rattle.ppd_ast.specs.declared.program.Program.{Program}
use Rattle.ppd_ast.specs.Lookups.{kind_of}
use Rattle.ppd_blocks.specs.Blocks.{plan_of}
use Rattle.law_steps.proofs.Facts.State.{IsState}
use Rattle.law_steps.specs.OpenBlocks.Stack.{IsInOrder, process_block}
use Rattle.law_steps.proofs.OpenBlocks.DeedKinds.{found_while, loop_is}
use Rattle.law_steps.proofs.OpenBlocks.Planned.{kind_is}
use Rattle.ppd_sem.specs.Blocks.{block_kind}
use Rattle.ppd_sem.specs.Process.{entry_of, loop_of, need_of, top_frame}
use Rattle.ppd_sem.specs.Runs.{returns}
use Rattle.ppd_sem.specs.Tables.{block_of}
use Rattle.ppd_sem.specs.declared.proc.Proc.{Proc}
use Rattle.ppd_sem.specs.declared.proc.Todo.{Todo}
use Rattle.ppd_model.specs.FullTrace.{me_in}
use Rattle.ppd_model.specs.Intervals.{own, nested, Split}
use Rattle.ppd_model.specs.declared.trace.EventId.{EventId}
use Rattle.ppd_model.specs.declared.tracing.Story.{Story}
use Rattle.ppd_model.specs.declared.tracing.Taken.{Taken}
use Rattle.ppd_model.proofs.CountedOn.{last_at}
use Rattle.ppd_graph.specs.Locals.{is_leaf_call}
use Rattle.ppd_sem.specs.Described.{trap_of}
use Rattle.law_steps.proofs.Facts.Entered.{unentered}
use Rattle.law_flow.specs.Places.Closing.{closing}
use Rattle.law_flow.specs.Places.Levels.{IsLater, Level, StandsIn, numbers}
use Rattle.law_flow.proofs.Vocabulary.Levels.{put, with_event, without_first}
use Rattle.law_flow.specs.Places.Leaves.{AreBegun, Begun, First, IsBegunAt, begun_by, items_so_far, leaf_of, of_leaf, open_at}
use Rattle.law_flow.proofs.Places.Moves.{IsCalling, IsLeft, IsOther, IsReturning}
use Rattle.law_flow.proofs.Places.NoLeaf.{call_no_leaf, is_call_of}
use Rattle.law_flow.proofs.Places.Opening.{Own, begun_leaf, begun_own, begun_put, first_block, first_leaf, from_leaf, from_own, leaf_event, leaf_interval, not_nil, open_put}
use Rattle.law_flow.proofs.Places.Scans.{leaf_stays}
use Rattle.law_flow.proofs.Places.Telling.{call_stays, event_now, leaf_begins, leaf_call_is, leaf_ends, leaf_over, stmt_now, trap_now}
use Rattle.law_flow.proofs.Places.Whole.{AreWhole, LevelAt, first_level, level_whole}

loop_block : (plan : Plan) (s : ℕ) (k : Kind) (b : ℕ) → loop_of plan s k ≡ Some b
    → block_of plan (block.Loop s) ≡ Some b
loop_block plan s k b e = sym (loop_is plan s k (found_while plan s k b e)) ∙ e

module _ (program : Program) (policy : Policy) (v : IsValid program) (story : Story) (p : ℕ) (y : Split)
    (whole : AreWhole y) where
  abbrev plan : Plan
  plan = plan_of program policy

  abbrev pb : Option ℕ
  pb = Some (process_block program plan p)

  -- the levels of a state are told
  pub record Told (x : Split) (ls : List Level) : Type 0 where
    pub open_is : open_at program plan y ls
        ≡ closing program plan x.trace.proc.todo ++ Some (process_block program plan p) ∷ []
    pub begun : AreBegun program plan p y ls (begun_by x.trace.proc.frames x.trace.activations)

  -- before a step of a running process, whose event is there at the later time
  module _ (x : Split) (taken : Taken) (h : Todo) (hs : List Todo) (is : x.trace.proc.todo
      ≡ h ∷ hs) (runs : x.trace.proc.status ≡ None)
      (order : IsInOrder program plan p x.trace.proc) (state : IsState program plan x.trace.proc) (later : IsLater x y)
      (after : List (Option ℕ)) where
    abbrev s : Proc
    s = x.trace.proc

    abbrev N : ℕ
    N = length x.trace.events

    abbrev me : EventId
    me = me_in p x.trace

    abbrev cs : List Begun
    cs = begun_by s.frames x.trace.activations

    abbrev pub IsThere : Type 0
    IsThere = slice_get y.trace.events N ≡ Some (event_now program plan story taken x.trace h hs is)

    -- what is told of these levels after the step
    abbrev pub Tells : List Level → List Begun → Type 0
    Tells ls now = (open_at program plan y ls ≡ after ++ pb ∷ []) × AreBegun program plan p y ls now

    stmt_kind : (P : ℕ → Type 0) → P h.stmt → P (event_now program plan story taken x.trace h hs is).event.stmt
    stmt_kind P = subst P (sym (stmt_now program plan story taken x.trace h hs is))

    other_leaf : (l : Level) → IsThere → is_call (kind_of program h.stmt) ≡ false
        → returns (kind_of program h.stmt) ≡ false → leaf_of program plan y (put (own N) l) ≡ leaf_of program plan y l
    other_leaf l at no_call stays =
        leaf_event program plan p y N l (event_now program plan story taken x.trace h hs is) at
        ∙ leaf_stays program plan (length (items_so_far y l))
        (event_now program plan story taken x.trace h hs is).event (leaf_of program plan y l)
        (stmt_kind (λ i. is_call (kind_of program i) ≡ false) no_call) (stmt_kind (λ i. returns (kind_of program i)
        ≡ false) stays)

    -- an event that opens and closes nothing
    pub other : (ls : List Level) → Told x ls → IsThere → closing program plan s.todo ≡ after
        → IsOther (kind_of program h.stmt) → (now : List Begun) → now ≡ cs → Tells (with_event N ls) now
    other [] told at moves k now same = absurd (not_nil (closing program plan s.todo) pb told.open_is)
    other (l ∷ ls) told at moves k now same =
        let lf : leaf_of program plan y (put (own N) l) ≡ leaf_of program plan y l =
        other_leaf l at k.no_call k.stays in (
          open_put program plan p y (own N) l ls (leaf_of program plan y l) lf ∙ told.open_is
              ∙ ap (λ c. c ++ pb ∷ []) moves,
          subst (AreBegun program plan p y (put (own N) l ∷ ls)) (sym same)
              (begun_put program plan p y (own N) l ls cs lf told.begun),
        )

    -- the first level is left, with a block of this kind
    left : (l : Level) (ls : List Level) (b : ℕ) (k : BlockKind) → StandsIn x (l ∷ ls) → Told x (l ∷ ls)
        → closing program plan s.todo ≡ Some b ∷ after → block_kind plan b ≡ k
        → (now : List Begun) → (Own program plan p y k ls cs → AreBegun program plan p y ls now)
        → Tells (without_first (put (own N) l ∷ ls)) now
    left l [] b k stands told moves kind now rest =
        let first = first_block (leaf_of program plan y l) l.block b [] (after ++ pb ∷ []) (told.open_is
        ∙ ap (λ c. c ++ pb ∷ []) moves) in
        absurd (not_nil after pb first.2)
    left l (o ∷ os) b k stands told moves kind now rest =
        let first = first_block (leaf_of program plan y l) l.block b (open_at program plan y (o ∷ os))
        (after ++ pb ∷ []) (told.open_is ∙ ap (λ c. c ++ pb ∷ []) moves) in
        let at : LevelAt y l (numbers (o ∷ os)) = first_level x y l (o ∷ os) stands later in
        let lf : leaf_of program plan y (put (nested l.interval) o) ≡ leaf_of program plan y o =
        leaf_interval program plan p y l.interval o at.span at.there in (
          open_put program plan p y (nested l.interval) o os (leaf_of program plan y o) lf ∙ first.2,
          begun_put program plan p y (nested l.interval) o os now lf
              (rest (begun_own program plan p y l (o ∷ os) cs k first.0 (ap (block_kind plan) first.1
              ∙ kind) told.begun)),
        )

    -- a loop
    pub loop_left : (ls : List Level) (b : ℕ) → StandsIn x ls → Told x ls
        → closing program plan s.todo ≡ Some b ∷ after → IsLeft program plan h s b → (now : List Begun) → now ≡ cs
        → Tells (without_first (with_event N ls)) now
    loop_left [] b stands told moves k now same = absurd (not_nil (closing program plan s.todo) pb told.open_is)
    loop_left (l ∷ ls) b stands told moves k now same =
        left l ls b (block.Loop h.stmt) stands told moves (kind_is program policy (block.Loop h.stmt) b k.block) now
        (λ g. subst (AreBegun program plan p y ls) (sym same) g)

    -- a function that is a block
    pub function_left : (ls : List Level) (b : ℕ) → StandsIn x ls → Told x ls
        → closing program plan s.todo ≡ Some b ∷ after → IsReturning program plan h s (Some b) → (now : List Begun)
        → now ≡ drop 1 cs
        → Tells (without_first (with_event N ls)) now
    function_left [] b stands told moves k now same = absurd (not_nil (closing program plan s.todo) pb told.open_is)
    function_left (l ∷ ls) b stands told moves k now same =
        left l ls b (block.Function (top_frame s.frames).body) stands told moves
        (kind_is program policy (block.Function (top_frame s.frames).body) b (sym k.block)) now
        (λ g. subst (AreBegun program plan p y ls) (sym same) (by cs g))
      where
        by : (xs : List Begun) → Own program plan p y (block.Function (top_frame s.frames).body) ls xs
            → AreBegun program plan p y ls (drop 1 xs)
        by [] g = absurd g
        by (c ∷ xs) g = g.1

    -- a return from an activation without an interval
    pub leaf_left : (ls : List Level) → Told x ls → IsThere → closing program plan s.todo ≡ None ∷ after
        → IsReturning program plan h s None → (now : List Begun) → now ≡ drop 1 cs
        → Tells (with_event N ls) now
    leaf_left [] told at moves k now same = absurd (not_nil (closing program plan s.todo) pb told.open_is)
    leaf_left (l ∷ ls) told at moves k now same =
        let first = first_leaf (leaf_of program plan y l) l.block (open_at program plan y ls) (after ++ pb ∷ [])
        (told.open_is ∙ ap (λ c. c ++ pb ∷ []) moves) in
        let lf : leaf_of program plan y (put (own N) l) ≡ None =
        leaf_event program plan p y N l (event_now program plan story taken x.trace h hs is) at
        ∙ leaf_ends program plan (length (items_so_far y l))
        (event_now program plan story taken x.trace h hs is).event (leaf_of program plan y l)
        (stmt_kind (λ i. returns (kind_of program i) ≡ true) k.goes) in (
          open_put program plan p y (own N) l ls None lf ∙ first.2,
          from_own program plan p y (put (own N) l) ls now (block_kind plan l.block) lf refl
              (subst (Own program plan p y (block_kind plan l.block) ls) (sym same)
              (by (block_kind plan l.block) (IsBegunAt p l.parts first.0.item first.0.stmt) cs
              (begun_leaf program plan p y l ls cs first.0 first.1 told.begun))),
        )
      where
        by : (b : BlockKind) (P : Begun → Type 0) (xs : List Begun) → First P (Own program plan p y b ls) xs
            → Own program plan p y b ls (drop 1 xs)
        by b P [] g = absurd g
        by b P (c ∷ xs) g = g.1

    -- ---- what begins

    -- a loop is entered, as interval k
    pub loop_begins : (ls : List Level) (k b : ℕ) → Told x ls → after ≡ Some b ∷ closing program plan s.todo
        → entry_of program plan h ≡ Some b → (now : List Begun) → now ≡ cs
        → Tells (record { interval = k; block = b; parts = [] } ∷ ls) now
    loop_begins ls k b told moves entry now same =
        let of_loop : block_of plan (block.Loop h.stmt) ≡ Some b =
        loop_block plan h.stmt (kind_of program h.stmt) b (unentered program plan h b entry) in (
          ap (λ os. Some b ∷ os) told.open_is ∙ ap (λ c. c ++ pb ∷ []) (sym moves),
          from_own program plan p y (record { interval = k; block = b; parts = [] }) ls now (block.Loop h.stmt) refl
              (kind_is program policy (block.Loop h.stmt) b of_loop)
              (subst (AreBegun program plan p y ls) (sym same) told.begun),
        )

    module _ (o : Option ℕ) (call : IsCalling program plan h s o) where
      no_leaf : (l : Level) (ls : List Level) → Told x (l ∷ ls) → leaf_of program plan y l ≡ None
      no_leaf l ls told = call_no_leaf program policy p s h hs o (leaf_of program plan y l) l.block
          (process_block program plan p) (open_at program plan y ls) v state order is call told.open_is

      no_return : returns (kind_of program h.stmt) ≡ false
      no_return = call_stays (kind_of program h.stmt) call.function (is_call_of program plan s h o call)

    -- a function that is no block is called
    pub leaf_begins_at : (ls : List Level) → StandsIn x ls → Told x ls → IsThere
        → after ≡ None ∷ closing program plan s.todo → (call : IsCalling program plan h s None)
        → trap_of (need_of program plan s) ≡ None → (now : List Begun)
        → now ≡ record { stmt = Some h.stmt; event = Some me } ∷ cs → Tells (with_event N ls) now
    leaf_begins_at [] stands told at moves call trap now same =
        absurd (not_nil (closing program plan s.todo) pb told.open_is)
    leaf_begins_at (l ∷ ls) stands told at moves call trap now same =
        let none : leaf_of program plan y l ≡ None = no_leaf None call l ls told in
        let level : LevelAt y l (numbers ls) = first_level x y l ls stands later in
        let e = (event_now program plan story taken x.trace h hs is).event in
        let lf : leaf_of program plan y (put (own N) l)
        ≡ Some (record { item = length (items_so_far y l); stmt = e.stmt }) =
        leaf_event program plan p y N l (event_now program plan story taken x.trace h hs is) at
        ∙ leaf_begins program plan (length (items_so_far y l)) e (leaf_of program plan y l)
        (trap_now program plan story taken x.trace h hs is ∙ trap)
        (stmt_kind (λ i. is_leaf_call plan (kind_of program i)
        ≡ true) (leaf_call_is plan (kind_of program h.stmt) call.function
        (is_call_of program plan s h None call) None call.block)) in (
          open_put program plan p y (own N) l ls (Some (record { item = length (items_so_far y l); stmt = e.stmt })) lf
              ∙ ap (λ os. None ∷ os) (sym (ap (λ lf. of_leaf lf ++ (Some l.block ∷ open_at program plan y ls)) none)
              ∙ told.open_is) ∙ ap (λ c. c ++ pb ∷ []) (sym moves),
          from_leaf program plan p y (put (own N) l) ls now (record {
            item = length (items_so_far y l);
            stmt =
                e.stmt;
          }) lf
              (subst (First (IsBegunAt p (l.parts ++ own N ∷ []) (length (items_so_far y l)) e.stmt)
              (Own program plan p y (block_kind plan l.block) ls)) (sym same) (
                record {
                  event = N;
                  stmt_is = ap (λ i. Some i) (sym (stmt_now program plan story taken x.trace h hs is));
                  event_is = refl;
                  at = ap (slice_get (l.parts ++ own N ∷ [])) (level_whole y l (numbers ls) whole level)
                      ∙ last_at l.parts (own N);
                },
                begun_own program plan p y l ls cs (block_kind plan l.block) none refl told.begun,
              )),
        )

    -- a function that is a block is called, as interval k
    pub function_begins : (ls : List Level) (k b : ℕ) → Told x ls → IsThere
        → after ≡ Some b ∷ closing program plan s.todo → (call : IsCalling program plan h s (Some b))
        → (now : List Begun) → now ≡ record { stmt = Some h.stmt; event = Some me } ∷ cs
        → Tells (record { interval = k; block = b; parts = [] } ∷ with_event N ls) now
    function_begins [] k b told at moves call now same = absurd (not_nil (closing program plan s.todo) pb told.open_is)
    function_begins (l ∷ ls) k b told at moves call now same =
        let none : leaf_of program plan y l ≡ None = no_leaf (Some b) call l ls told in
        let e = (event_now program plan story taken x.trace h hs is).event in
        let lf : leaf_of program plan y (put (own N) l) ≡ leaf_of program plan y l =
        leaf_event program plan p y N l (event_now program plan story taken x.trace h hs is) at
        ∙ leaf_over program plan (length (items_so_far y l)) e (leaf_of program plan y l)
        (stmt_kind (λ i. is_leaf_call plan (kind_of program i)
        ≡ false) (leaf_call_is plan (kind_of program h.stmt) call.function
        (is_call_of program plan s h (Some b) call) (Some b) call.block))
        (stmt_kind (λ i. returns (kind_of program i) ≡ false) (no_return (Some b) call)) in (
          ap (λ os. Some b ∷ os) (open_put program plan p y (own N) l ls (leaf_of program plan y l) lf
              ∙ told.open_is) ∙ ap (λ c. c ++ pb ∷ []) (sym moves),
          from_own program plan p y (record { interval = k; block = b; parts = [] }) (put (own N) l ∷ ls) now
              (block.Function call.function) refl (kind_is program policy (block.Function call.function) b
              (sym call.block))
              (subst (Own program plan p y (block.Function call.function) (put (own N) l ∷ ls)) (sym same) (
                record {
                  before = l.parts;
                  event = N;
                  traced = event_now program plan story taken x.trace h hs is;
                  parts_are = refl;
                  traced_is = at;
                  stmt_is = ap (λ i. Some i) (sym (stmt_now program plan story taken x.trace h hs is));
                  event_is = refl;
                  no_leaf = lf ∙ none;
                },
                begun_put program plan p y (own N) l ls cs lf told.begun,
              )),
        )
