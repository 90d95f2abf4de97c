-- A step of a process: the intervals that run are crossed on, and one that it ends is gone past.
use Rattle.std.proofs.Common.{◌≡◌, ℕ, suc, ◌+◌, ◌<◌, false, List, [], ◌∷◌, ◌++◌, length, Option, Some, None, refl, ap, sym, subst, ◌∙◌, arith, inl, inr}
use Rattle.std.specs.Prelude.{drop}
use Rattle.std.proofs.lemmas.List.{length-append}
use Rattle.std.proofs.lemmas.Option.{none-some}
use Rattle.ppd_ast.specs.declared.plan.Plan.{Plan}
use Rattle.ppd_ast.specs.declared.plan.Policy.{Policy}
use Rattle.ppd_ast.specs.declared.program.Program.{Program}
use Rattle.ppd_ast.specs.declared.status.Status.{Status}
use Rattle.ppd_ast.specs.Valid.{IsValid}
use Rattle.ppd_blocks.specs.Blocks.{plan_of}
use Rattle.ppd_sem.specs.declared.proc.Answer.{Answer}
use Rattle.ppd_sem.specs.declared.proc.Need.{Need}
use Rattle.ppd_sem.specs.declared.proc.Need.TheVariants as need
use Rattle.ppd_sem.specs.declared.proc.Proc.{Proc}
use Rattle.ppd_sem.specs.Described.{frame_of}
use Rattle.ppd_sem.specs.Process.{act, need_of}
use Rattle.ppd_sem.proofs.Progress.{act-stopped, need_at_status}
use Rattle.ppd_model.specs.Replay.{is_budget}
use Rattle.ppd_model.specs.declared.trace.EventId.{EventId}
use Rattle.ppd_model.specs.declared.tracing.Story.{Story}
use Rattle.ppd_model.specs.declared.tracing.Taken.{Taken}
use Rattle.ppd_model.specs.declared.tracing.Tracing.{Tracing}
use Rattle.ppd_model.specs.FullTrace.{Tag, me_in, top_tags}
use Rattle.ppd_model.specs.Intervals.{Span, Split, change_first, control_by, left_by, nested, new_span, split_step, with_own, with_part, with_step}
use Rattle.ppd_model.proofs.IntervalWords.{begin_if, end_if}
use Rattle.ppd_model.specs.Logs.{status_of}
use Rattle.ppd_model.specs.Marks.{Mark, opened, closed}
use Rattle.ppd_model.specs.World.{change}
use Rattle.ppd_model.specs.Story.{unit_started}
use Rattle.ppd_model.specs.Synchronizations.{sync_of}
use Rattle.ppd_model.proofs.Items.{first_length, own_keeps, step_keeps}
use Rattle.ppd_model.proofs.Statuses.{status_after}
use Rattle.law_steps.proofs.Beside.Needs.{is_enter}
use Rattle.law_steps.proofs.Coming.Shapes.{Shape, closes, ends, opens, passes, shape, stops}
use Rattle.law_steps.proofs.Facts.State.{IsState, act_state}
use Rattle.law_steps.specs.OpenBlocks.Stack.{IsInOrder, Moves, open_blocks, process_block, stack}
use Rattle.law_steps.proofs.OpenBlocks.Stacks.{steps_move}
use Rattle.law_steps.specs.Skips.{BeginsBlock, IsGonePast}
use Rattle.law_steps.proofs.Skips.Itself.{Inside, begins_block, crossing, goes, gone_past, opens as opens_beside, past_itself}
use Rattle.law_steps.proofs.Skips.Running.{AreGonePast, AreRunning, IsLive, IsRight, Runs, Stays, past_more, past_on, past_own, run_back, run_deeper, run_on}
use Rattle.law_steps.proofs.Skips.Seen.{Marks, begun, body_edges, body_seen, either_seen, first_changed, kept_seen, marks, new_seen, seen}

-- a step that ends no process and opens nothing neither enters a loop nor stops for the budget
payable : (n : Need) → status_of n ≡ None → is_budget n ≡ false
payable need.Budget e = absurd (none-some _ (sym e))
payable n e = refl

no_entry : (program : Program) (plan : Plan) (s : Proc) (n : Need) → opened program plan s n ≡ None
    → is_enter n ≡ false
no_entry program plan s (need.Enter b u) e = absurd (none-some _ (sym e))
no_entry program plan s n e = refl

some_stack : (xs : List ℕ) (x : ℕ) → length (xs ++ x ∷ []) ≡ 0 → ⊥
some_stack xs x e = omega (arith, e, length-append xs (x ∷ []))

module _ (program : Program) (policy : Policy) (v : IsValid program) (p : ℕ)
    (there : program.functions + p < length program.bodies) (at : ℕ → Proc) where
  abbrev plan : Plan
  plan = plan_of program policy

  abbrev Right : ℕ → List Span → List ℕ → Proc → Type 0
  Right n spans running s = IsRight program policy v p there at n spans running s

  -- ---- a step of a process that runs, by its marks

  module _ (n : ℕ) (s : Proc) (a : Answer) (runs : s.status ≡ None) (next : at (n + 1) ≡ act program plan s a)
      (xs : List Span) (y : Split) (numbered : length y.edges ≡ n)
      (same : (k : ℕ) → seen marks y.spans k ≡ seen marks xs k)
      (same_begun : (k : ℕ) → seen begun y.spans k ≡ seen begun xs k)
      (h : Right n xs y.running s) where
    live : IsLive program policy v p there at xs y.running s
    live = h.live runs

    state : IsState program plan (act program plan s a)
    state = act_state program plan v s a h.state

    order : IsInOrder program plan p (act program plan s a)
    order = steps_move.stays program plan p s a v live.order

    past : AreGonePast program policy v p there at y.spans
    past = past_on program policy v p there at xs y.spans same h.past

    -- the process has stopped
    stopped : (st : Status) → (act program plan s a).status ≡ Some st → (spans : List Span) (running : List ℕ)
        → AreGonePast program policy v p there at spans → Right (n + 1) spans running (act program plan s a)
    stopped st e spans running gone = record {
      here = sym next;
      state = state;
      past = gone;
      live = λ on. absurd (none-some st (sym on ∙ e));
    }

    -- nothing is opened or closed
    passed : opened program plan s (need_of program plan s) ≡ None → closed program plan s (need_of program plan s) ≡ None
        → status_of (need_of program plan s) ≡ None → stack program plan p s ≡ stack program plan p (act program plan s a)
        → Right (n + 1) y.spans y.running (act program plan s a)
    passed o c st move = record {
      here = sym next;
      state = state;
      past = past;
      live = λ on. record {
        beside = goes program policy v p there s a (need_of program plan s) live.beside h.state runs refl
            (payable (need_of program plan s) st) (no_entry program plan s (need_of program plan s) o) c;
        order = order;
        count = ap length (sym move) ∙ live.count;
        runs = run_on program policy v p there at xs y.spans (λ k x e. same_begun k ∙ e) s a
            (record { opens = o; closes = c; goes_on = st }) y.running live.runs;
      };
    }

    -- ---- a block is opened

    module _ (m : Mark) (frame : ℕ) (control : Option EventId)
        (o : opened program plan s (need_of program plan s) ≡ Some m) where
      abbrev outer : List Span
      outer = change_first (with_part (nested (length y.spans))) y.running y.spans

      abbrev new : Span
      new = new_span y m.block frame control

      outer_marks : (k : ℕ) → seen marks outer k ≡ seen marks xs k
      outer_marks k = first_changed marks (with_part (nested (length y.spans))) (λ i. refl) y.running y.spans k ∙ same k

      outer_begun : (k : ℕ) → seen begun outer k ≡ seen begun xs k
      outer_begun k =
          first_changed begun (with_part (nested (length y.spans))) (λ i. refl) y.running y.spans k ∙ same_begun k

      outer_length : length outer ≡ length y.spans
      outer_length = first_length (with_part (nested (length y.spans))) y.running y.spans

      -- the new one has not ended
      past_new : AreGonePast program policy v p there at (outer ++ new ∷ [])
      past_new k q x e c = elim (either_seen marks outer new (suc k) x e) [
        | inl old ↦ h.past k q x (sym (outer_marks (suc k)) ∙ old) c
        | inr made ↦ absurd (none-some q (ap closed_of made ∙ c))
      ]
        where
          closed_of : Option Marks → Option ℕ
          closed_of None = None
          closed_of (Some z) = z.closed

      runs_new : (ks : List ℕ) → AreRunning program policy v p there at xs 0 ks s
          → AreRunning program policy v p there at (outer ++ new ∷ []) 0 (length y.spans ∷ ks) (act program plan s a)
      runs_new [] r = absurd r
      runs_new (k ∷ ks) r = (
        record {
          block = m.block;
          number = n;
          there_is = subst (λ l. seen begun (outer ++ new ∷ []) l ≡ Some (m.block, n)) outer_length
              (new_seen begun outer new ∙ ap (λ z. Some (m.block, z)) numbered);
          state = subst (λ x. IsState program plan x) h.here h.state;
          begins = subst (λ x. BeginsBlock m.block (need_of program plan x)) h.here
              (begins_block program plan s m (need_of program plan s) o);
          inside = subst (λ x. Inside program policy v p there x 0 (act program plan s a)) h.here
              ((crossing program policy v p there).begins s s a m live.beside h.state runs o).1;
        },
        run_deeper program policy v p there at xs (outer ++ new ∷ [])
            (λ k x e. kept_seen begun outer new k x (outer_begun k ∙ e)) s a m o (k ∷ ks) r,
      )

      began : stack program plan p (act program plan s a) ≡ m.block ∷ stack program plan p s
          → Right (n + 1) (outer ++ new ∷ []) (length y.spans ∷ y.running) (act program plan s a)
      began move = record {
        here = sym next;
        state = state;
        past = past_new;
        live = λ on. record {
          beside = opens_beside program policy v p there s a m (need_of program plan s) live.beside h.state runs refl o;
          order = order;
          count = ap length move ∙ ap suc live.count;
          runs = runs_new y.running live.runs;
        };
      }

    -- ---- the innermost block is closed

    module _ (m : Mark) (left : List Tag) (o : opened program plan s (need_of program plan s) ≡ None)
        (c : closed program plan s (need_of program plan s) ≡ Some m) where
      abbrev ended : Span → Span
      ended i = record i { closed = Some (length y.edges); values = m.values; left = left }

      ended_marks : (i : Span) → marks (ended i) ≡ record (marks i) { closed = Some n; values = m.values }
      ended_marks i = ap (λ k. record (marks i) { closed = Some k; values = m.values }) numbered

      ended_stays : (ks : List ℕ) → Stays program policy v p there at xs (change_first ended ks y.spans)
      ended_stays ks k x e = first_changed begun ended (λ i. refl) ks y.spans k ∙ same_begun k ∙ e

      -- it is the last, or a process goes on past it
      closed_one : (ks : List ℕ) → y.running ≡ ks → AreRunning program policy v p there at xs 0 ks s
          → stack program plan p s ≡ m.block ∷ stack program plan p (act program plan s a)
          → Right (n + 1) (change_first ended ks y.spans) (drop 1 ks) (act program plan s a)
      closed_one [] is r move = absurd r
      closed_one (k ∷ []) is r move =
          absurd (some_stack (open_blocks program plan (act program plan s a).todo) (process_block program plan p)
          (omega (arith, ap length move, live.count, ap length is)))
      closed_one (k ∷ l ∷ ks) is r move =
          let g : Runs program policy v p there at xs 0 k s = r.0 in
          let z = (crossing program policy v p there).leaves (at g.number) s a m g.inside o c in
          let gone : IsGonePast program plan g.block m.values (at g.number) (act program plan s a) =
          gone_past program policy v p there (at g.number) (act program plan s a) g.block m.values g.begins g.state
          state z.beside in
          record {
            here = sym next;
            state = state;
            past = past_more program policy v p there at ended m.values n ended_marks k g.block g.number y.spans
                (same_begun k ∙ g.there_is)
                (subst (λ x. IsGonePast program plan g.block m.values (at g.number) x) (sym next) gone) past;
            live = λ on. record {
              beside = past_itself program policy v p there (at g.number) (act program plan s a) g.block m.values
                  z.beside gone;
              order = order;
              count = omega (arith, ap length move, live.count, ap length is);
              runs = run_back program policy v p there at xs (change ended k y.spans)
                  (λ q x e. ended_stays (k ∷ []) q x e) s a m o c (l ∷ ks) r.1;
            };
          }

      -- the process ends
      closed_last : (st : Status) → (act program plan s a).status ≡ Some st → (ks : List ℕ) → y.running ≡ ks
          → AreRunning program policy v p there at xs 0 ks s → stack program plan p s ≡ m.block ∷ []
          → Right (n + 1) (change_first ended ks y.spans) (drop 1 ks) (act program plan s a)
      closed_last st e [] is r move = absurd r
      closed_last st e (k ∷ []) is r move =
          stopped st e (change ended k y.spans) []
          (subst (λ j. AreGonePast program policy v p there at (change ended j y.spans)) (sym r)
          (past_own program policy v p there at ended y.spans past))
      closed_last st e (k ∷ l ∷ ks) is r move = absurd (omega (arith, ap length move, live.count, ap length is))

    -- ---- by what it opens and closes

    abbrev After : (opens closes : Option Mark) → ℕ → Option EventId → List Tag → Type 0
    After o c frame control left =
        Right (n + 1) (begin_if o frame control (end_if c left y)).spans
        (begin_if o frame control (end_if c left y)).running (act program plan s a)

    pub running_step : (frame : ℕ) (control : Option EventId) (left : List Tag) (t : Taken) → t.need ≡ need_of program plan s
        → After (opened program plan s (need_of program plan s)) (closed program plan s (need_of program plan s)) frame
        control left
    running_step frame control left t is =
        by (opened program plan s (need_of program plan s)) (closed program plan s (need_of program plan s))
        (status_of (need_of program plan s)) (shape program plan s t (need_of program plan s) is) refl refl refl
        (steps_move.moves program plan p s a v live.order runs)
      where
        status : (act program plan s a).status ≡ status_of (need_of program plan s)
        status = status_after program plan a s runs

        by : (o c : Option Mark) (st : Option Status)
            → Shape (sync_of (record t { need = need_of program plan s })) (unit_started (need_of program plan s)) o c st
            → opened program plan s (need_of program plan s) ≡ o → closed program plan s (need_of program plan s) ≡ c
            → status_of (need_of program plan s) ≡ st
            → Moves o c st (stack program plan p s) (stack program plan p (act program plan s a))
            → After o c frame control left
        by (Some m) None None (opens _ e) eo ec es move = began m frame control eo move
        by None (Some m) None (closes _ e) eo ec es move = closed_one m left eo ec y.running refl live.runs move
        by None (Some m) (Some st) (ends _ _ e u) eo ec es move =
            closed_last m left eo ec st (status ∙ es) y.running refl live.runs move
        by None None (Some st) (stops _ e u) eo ec es move = stopped st (status ∙ es) y.spans y.running past
        by None None None passes eo ec es move = passed eo ec es move
        by (Some m) None (Some st) z eo ec es move = elim z [ ]
        by (Some m) (Some k) st z eo ec es move = elim z [ ]

  -- ---- a step of the split

  module _ (story : Story) where
    -- a process that has stopped stays as it is
    stopped_step : (n : ℕ) (x : Split) (t : Taken) (st : Status) → x.trace.proc.status ≡ Some st
        → t.need ≡ need_of program plan x.trace.proc → at (n + 1) ≡ act program plan x.trace.proc t.answer
        → Right n x.spans x.running x.trace.proc
        → Right (n + 1) (split_step program plan story p x t).spans (split_step program plan story p x t).running
        (act program plan x.trace.proc t.answer)
    stopped_step n x t st e is next h =
        let none : need_of program plan x.trace.proc ≡ need.Stopped = need_at_status program plan x.trace.proc (Some st) e in
        let stays : act program plan x.trace.proc t.answer ≡ x.trace.proc =
        act-stopped program plan x.trace.proc t.answer none in
        subst (λ (k : Need). Right (n + 1) (split_step program plan story p x (record t { need = k })).spans
        (split_step program plan story p x (record t { need = k })).running
        (act program plan x.trace.proc t.answer)) (sym (is ∙ none))
        (record {
          here = sym next;
          state = act_state program plan v x.trace.proc t.answer h.state;
          past = h.past;
          live = λ on. absurd (none-some st (sym on ∙ ap (λ (q : Proc). q.status) stays ∙ e));
        })

    pub step : (n : ℕ) (x : Split) (t : Taken) → length x.edges ≡ n → t.need ≡ need_of program plan x.trace.proc
        → at (n + 1) ≡ act program plan x.trace.proc t.answer → Right n x.spans x.running x.trace.proc
        → Right (n + 1) (split_step program plan story p x t).spans (split_step program plan story p x t).running
        (act program plan x.trace.proc t.answer)
    step n x t numbered is next h = by x.trace.proc.status refl
      where
        by : (o : Option Status) → x.trace.proc.status ≡ o
            → Right (n + 1) (split_step program plan story p x t).spans (split_step program plan story p x t).running
            (act program plan x.trace.proc t.answer)
        by (Some st) e = stopped_step n x t st e is next h
        by None e =
            let s : Proc = x.trace.proc in
            let y : Split = with_own t.need (with_step t.need x) in
            let frame : ℕ = frame_of program plan y.trace.proc in
            let control : Option EventId = control_by program p y.trace t.need in
            let left : List Tag = left_by plan (me_in p y.trace) (top_tags y.trace.activations) t.need in
            let trace_is : y.trace ≡ x.trace =
            (own_keeps t.need (with_step t.need x)).1 ∙ (step_keeps t.need x).1 in
            let running_is : y.running ≡ x.running =
            (own_keeps t.need (with_step t.need x)).0 ∙ (step_keeps t.need x).0 in
            let opens_is : opened program plan s (need_of program plan s) ≡ opened program plan y.trace.proc t.need =
            sym (ap (λ (u : Tracing). opened program plan u.proc t.need) trace_is ∙ ap (opened program plan s) is) in
            let closes_is : closed program plan s (need_of program plan s) ≡ closed program plan y.trace.proc t.need =
            sym (ap (λ (u : Tracing). closed program plan u.proc t.need) trace_is ∙ ap (closed program plan s) is) in
            subst (λ o. Right (n + 1)
            (begin_if o frame control (end_if (closed program plan y.trace.proc t.need) left y)).spans
            (begin_if o frame control (end_if (closed program plan y.trace.proc t.need) left y)).running
            (act program plan s t.answer)) opens_is
            (subst (λ c. Right (n + 1)
            (begin_if (opened program plan s (need_of program plan s)) frame control (end_if c left y)).spans
            (begin_if (opened program plan s (need_of program plan s)) frame control (end_if c left y)).running
            (act program plan s t.answer)) closes_is
            (running_step n s t.answer e next x.spans y (ap length (body_edges t.need x) ∙ numbered)
            (λ k. body_seen marks (λ i. refl) (λ i m. refl) t.need x k)
            (λ k. body_seen begun (λ i. refl) (λ i m. refl) t.need x k)
            (subst (λ ks. Right n x.spans ks s) (sym running_is) h) frame control left t is))
