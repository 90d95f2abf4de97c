-- The intervals of the story of a whole schedule have the items and the steps that are to come.
use Rattle.ppd_model.specs.Setting.{Setting, setting_of}
use Rattle.std.proofs.Common.{◌≡◌, ℕ, zero, suc, ◌+◌, ◌<◌, List, [], ◌∷◌, length, Option, Some, None, refl, ap, sym, ◌∙◌, subst, arith}
use Rattle.std.proofs.lemmas.List.{length-map}
use Rattle.std.proofs.lemmas.Option.{none-some, slice_get_past, slice_get_within}
use Rattle.std.specs.Prelude.{slice_get, get_or}
use Rattle.ppd_ast.specs.declared.plan.Plan.{Plan}
use Rattle.ppd_ast.specs.declared.program.Program.{Program}
use Rattle.ppd_ast.specs.declared.status.Status.{Status}
use Rattle.ppd_blocks.specs.Blocks.{plan_of}
use Rattle.ppd_sem.specs.declared.proc.Need.{Need}
use Rattle.ppd_sem.specs.declared.proc.Need.TheVariants.{Budget, Stopped}
use Rattle.ppd_sem.specs.declared.proc.Proc.{Proc}
use Rattle.ppd_sem.specs.Process.{act, started}
use Rattle.ppd_model.specs.declared.tracing.Story.{Story}
use Rattle.ppd_model.specs.Intervals.{Span, Split, begun_split, split_of, split_step, splits, with_marks, with_own, with_step}
use Rattle.ppd_model.specs.Logs.{status_of}
use Rattle.ppd_model.specs.Marks.{Mark, opened, closed}
use Rattle.ppd_model.specs.Story.{Moment, Telling, steps_of, story, told, unit_started}
use Rattle.ppd_model.specs.Synchronizations.{sync_of}
use Rattle.ppd_model.proofs.Items.{split_found, splits_length}
use Rattle.ppd_model.proofs.Prefixes.{objects_stay}
use Rattle.law_steps.specs.OpenBlocks.Run.{IsGiven, IsRun}
use Rattle.law_steps.specs.OpenBlocks.Stack.{stack}
use Rattle.law_steps.proofs.OpenBlocks.Runs.{schedules_run}
use Rattle.law_steps.proofs.OpenBlocks.Stacks.{steps_move}
use Rattle.law_steps.proofs.OpenBlocks.Told.{moments_length, own_steps_are}
use Rattle.law_steps.specs.Coming.Pieces.{coming}
use Rattle.law_steps.proofs.Vocabulary.Nested.{Goes, HasStopped, IsNested}
use Rattle.law_steps.specs.Coming.Openings.{AreAlike, IsSpanOf, Opening, SpansAreComing, opening, opening_of}
use Rattle.law_steps.proofs.Coming.Shapes.{Shape, closes, opens, passes, shape, stops}
use Rattle.law_steps.proofs.Coming.Shapes as shapes
use Rattle.law_steps.proofs.Coming.Stacked.{nested}
use Rattle.law_steps.proofs.Spans.SpanBody.{IsOwnStep}
use Rattle.law_steps.proofs.Spans.SpanComes.{From, Gives, after, step_closes, step_ends, step_halts, step_opens, step_passes, step_traps, y, z1}
use Rattle.law_steps.proofs.Spans.SpanEnd.{rest_inner, rest_own}
use Rattle.law_steps.proofs.Spans.SpanGoals.{Begins, Comes, IsLive, Sorts, Stops, does, ends_counted, final, rests, sort}
use Rattle.law_steps.proofs.Spans.SpanGoals as goals
use Rattle.law_steps.proofs.Spans.SpanMarks.{control_at, frame_at, left_at, marked, own_running, own_spans}

module _ (program : Program) (plan : Plan) (story' : Story) (p : ℕ) where
  -- no moment is left
  waits : (x : Split) (s : Proc) (n : ℕ) → Comes program plan story' p x.spans x.running s [] x n
  waits x s n = record {
    own = λ k i next since hn hl at. rest_own x k i since at;
    inner = λ j k i ps next since hn hl parts at. rest_inner x j k i ps since parts at;
    past = λ k i hn at. at.there;
    begins = λ q next hn hl f. slice_get_past x.spans (next + q) (omega (arith, hl));
  }

  stopped : (x : Split) (s : Proc) (ms : List Moment) → HasStopped s ms → Stops program plan story' p x s ms
  stopped x s [] h = record { still = refl; none = λ q. refl }
  stopped x s (m ∷ ms) h = absurd h

  module _ (x : Split) (m : Moment) (ms : List Moment)
      (further : (n : ℕ) → IsNested program plan (after program plan story' p x m ms) ms n → From program plan story' p x m ms (y program plan story' p x m ms).spans (y program plan story' p x m ms).running n) where
    abbrev yy : Split
    yy = y program plan story' p x m ms

    abbrev zz : Option Mark → Option Mark → Split
    zz o c = marked program plan story' p m.taken.need x o c (z1 program plan story' p x m ms)

    over : HasStopped (after program plan story' p x m ms) ms → Stops program plan story' p yy (after program plan story' p x m ms) ms
    over h = stopped yy (after program plan story' p x m ms) ms h

    -- what is to come from the spans that the marks leave
    from : (o c : Option Mark) (n : ℕ) → yy.spans ≡ (zz o c).spans → yy.running ≡ (zz o c).running → IsNested program plan (after program plan story' p x m ms) ms n → From program plan story' p x m ms (zz o c).spans (zz o c).running n
    from o c n es er h =
        subst (λ r. From program plan story' p x m ms (zz o c).spans r n) er (subst (λ ss. From program plan story' p x m ms ss yy.running n) es (further n h))

    steps_by : (o c : Option Mark) (st : Option Status) (n : ℕ) → Shape (sync_of m.taken) (unit_started m.taken.need) o c st → IsOwnStep m.taken.need → status_of m.taken.need ≡ st
        → yy.spans ≡ (zz o c).spans → yy.running ≡ (zz o c).running
        → Goes n o c st (IsNested program plan (after program plan story' p x m ms) ms) (HasStopped (after program plan story' p x m ms) ms) → Gives program plan story' p x m ms o c st n
    steps_by (Some a) None None n (opens _ e) own is es er h =
        step_opens program plan story' p x m ms a (frame_at program plan story' p x) (control_at program plan story' p x m.taken.need) None None n (from (Some a) None (suc n) es er h)
    steps_by None (Some a) None zero (closes _ e) own is es er h = absurd h
    steps_by None (Some a) None (suc n) (closes _ e) own is es er h =
        step_closes program plan story' p x m ms a (left_at program plan story' p x m.taken.need) n (from None (Some a) n es er h)
    steps_by None (Some a) (Some st) n (shapes.ends _ _ e eu) own is es er h =
        let stop = over h.1 in
        subst (λ k. Gives program plan story' p x m ms None (Some a) (Some st) k) (sym h.0)
        (step_ends program plan story' p x m ms a (left_at program plan story' p x m.taken.need) (ap (λ (w : Split). w.spans) stop.still ∙ es) stop.none st)
    steps_by None None (Some st) n (stops _ e eu) own is es er h =
        let stop = over h in
        step_traps program plan story' p x m ms stop.still es er stop.none st n (λ next since. ends_counted m.taken.need own st is _ m next since (coming program plan (after program plan story' p x m ms) ms))
    steps_by None None None n passes own is es er h = step_passes program plan story' p x m ms n (from None None n es er h)
    steps_by (Some a) None (Some st) n z own is es er h = elim z [ ]
    steps_by (Some a) (Some c) st n z own is es er h = elim z [ ]

    -- a stop for the budget
    halts : (n : ℕ) (k : Need) → m.taken.need ≡ k → k ≡ Budget
        → Goes n (opened program plan x.trace.proc k) (closed program plan x.trace.proc k) (status_of k) (IsNested program plan (after program plan story' p x m ms) ms) (HasStopped (after program plan story' p x m ms) ms)
        → Gives program plan story' p x m ms (opened program plan x.trace.proc k) (closed program plan x.trace.proc k) (status_of k) n
    halts n k is budget h =
        subst (λ l. Gives program plan story' p x m ms (opened program plan x.trace.proc l) (closed program plan x.trace.proc l) (status_of l) n) (sym budget)
        (let stop = over (subst (λ l. Goes n (opened program plan x.trace.proc l) (closed program plan x.trace.proc l) (status_of l) (IsNested program plan (after program plan story' p x m ms) ms) (HasStopped (after program plan story' p x m ms) ms)) budget h) in
        step_halts program plan story' p x m ms stop.still
        (ap (λ l. (with_marks program plan p l (with_own l (with_step l x))).spans) (is ∙ budget))
        (ap (λ l. (with_marks program plan p l (with_own l (with_step l x))).running) (is ∙ budget))
        stop.none n)

    by_sort : (n : ℕ) (k : Need) → m.taken.need ≡ k → Sorts k → (k ≡ Stopped → ⊥)
        → Goes n (opened program plan x.trace.proc m.taken.need) (closed program plan x.trace.proc m.taken.need) (status_of m.taken.need) (IsNested program plan (after program plan story' p x m ms) ms) (HasStopped (after program plan story' p x m ms) ms)
        → Gives program plan story' p x m ms (opened program plan x.trace.proc m.taken.need) (closed program plan x.trace.proc m.taken.need) (status_of m.taken.need) n
    by_sort n k is (does own) live h =
        let o : IsOwnStep m.taken.need = subst IsOwnStep (sym is) own in
        steps_by (opened program plan x.trace.proc m.taken.need) (closed program plan x.trace.proc m.taken.need) (status_of m.taken.need) n (shape program plan x.trace.proc m.taken m.taken.need refl) o refl
        (own_spans program plan story' p x m.taken o) (own_running program plan story' p x m.taken o) h
    by_sort n Budget is goals.stops live h = halts n m.taken.need refl is h
    by_sort n Stopped is rests live h = absurd (live refl)

  pub comes : (ms : List Moment) (x : Split) (n : ℕ) → IsNested program plan x.trace.proc ms n → IsLive ms → Comes program plan story' p x.spans x.running x.trace.proc ms (final program plan story' p x ms) n
  comes [] x n h live = waits x x.trace.proc n
  comes (m ∷ ms) x n h live =
      let g = by_sort x m ms (λ k hk. comes ms (split_step program plan story' p x m.taken) k hk live.1) n m.taken.need refl (sort m.taken.need) live.0 h in
      record { own = g.own; inner = g.inner; past = g.past; begins = g.begins }

-- ---- a process

is_live : (program : Program) (plan : Plan) (ms : List Moment) (s : Proc) → IsRun program plan s ms → IsLive ms
is_live program plan [] s run = tt
is_live program plan (m ∷ ms) s run = ((λ e. subst (λ k. IsGiven k m.taken.answer) e run.1), is_live program plan ms (act program plan s m.taken.answer) run.3)

module _ (setting : Setting) (story' : Story) (p : ℕ) (ms : List Moment) where
  abbrev ended_split : Split
  ended_split = split_of setting story' p (steps_of ms)

  as_span : (k : ℕ) (op : Option Opening) (o : Option Span) → Begins setting.program setting.plan story' p ended_split k op o → AreAlike (λ o i. IsSpanOf setting.program setting.plan k o ended_split i) op o
  as_span k None None h = tt
  as_span k None (Some i) h = absurd (none-some i (sym h))
  as_span k (Some op) None h = absurd (none-some h.now h.there)
  as_span k (Some op) (Some i) h =
      let same : h.now ≡ i = some_is (sym h.there) in
      subst (λ (j : Span). IsSpanOf setting.program setting.plan k op ended_split j) same (record { block = h.block; items = h.items; steps = h.all_steps })
    where
      some_is : {A : Type 0} {x y : A} → Some x ≡ Some y → x ≡ y
      some_is {x = x} e = ap (λ o. elim o [ None ↦ x | Some z ↦ z ]) e

  begins_at : IsNested setting.program setting.plan (started setting.program setting.plan p setting.budget) ms 1 → IsLive ms → (k : ℕ) → Begins setting.program setting.plan story' p ended_split k (opening_of setting p ms k) (slice_get ended_split.spans k)
  begins_at h live zero =
      let one : 0 < 1 = omega arith in
      let g = (comes setting.program setting.plan story' p ms (begun_split setting.program setting.plan p (started setting.program setting.plan p setting.budget)) 1 h live).own 0 _ 1 0 refl refl (record { falls = (one, tt); runs = refl; there = refl }) in
      record { now = g.now; there = g.there; block = g.same_block; items = g.items; all_steps = g.all_steps }
  begins_at h live (suc q) =
      let one : 0 < 1 = omega arith in
      let same : 1 + q ≡ suc q = omega arith in
      subst (λ k. Begins setting.program setting.plan story' p ended_split k (opening setting.program setting.plan (started setting.program setting.plan p setting.budget) ms q) (slice_get ended_split.spans k)) same
      ((comes setting.program setting.plan story' p ms (begun_split setting.program setting.plan p (started setting.program setting.plan p setting.budget)) 1 h live).begins q 1 refl refl (one, tt))

pub spans_are_coming : SpansAreComing
spans_are_coming program policy budget h p k x v whole at =
    let plan : Plan = plan_of program policy in
    let s : Story = story (setting_of program plan budget) h in
    let t : Telling = told (setting_of program plan budget) h in
    let ms : List Moment = get_or t.moments p [] in
    let below : p < length (splits (setting_of program plan budget) s) = slice_get_within (splits (setting_of program plan budget) s) p x at in
    let many : length (splits (setting_of program plan budget) s) ≡ length t.moments = splits_length (setting_of program plan budget) s 0 s.steps ∙ length-map t.moments steps_of in
    let there : program.functions + p < length program.bodies = omega (arith, below, many, moments_length (setting_of program plan budget) h, (objects_stay (setting_of program plan budget) h).processes) in
    let run : IsRun program plan (started program plan p budget) ms = schedules_run (setting_of program plan budget) h p v whole there in
    let one : length (stack program plan p (started program plan p budget)) ≡ 1 = ap length (steps_move.alone program plan p budget v) in
    let nests : IsNested program plan (started program plan p budget) ms 1 = nested program plan v p ms (started program plan p budget) 1 (steps_move.starts program plan p budget v there) refl run one in
    let z : 0 + p ≡ p = omega arith in
    let is : split_of (setting_of program plan budget) s p (steps_of ms) ≡ x =
    ap (λ xs. split_of (setting_of program plan budget) s p xs) (sym (own_steps_are (setting_of program plan budget) h p)) ∙ ap (λ q. split_of (setting_of program plan budget) s q (get_or s.steps p [])) (sym z) ∙ split_found (setting_of program plan budget) s 0 s.steps p x at in
    subst (λ (w : Split). AreAlike (λ o i. IsSpanOf program plan k o w i) (opening_of (setting_of program plan budget) p ms k) (slice_get w.spans k)) is
    (as_span (setting_of program plan budget) s p ms k (opening_of (setting_of program plan budget) p ms k) (slice_get (split_of (setting_of program plan budget) s p (steps_of ms)).spans k)
    (begins_at (setting_of program plan budget) s p ms nests (is_live program plan ms (started program plan p budget) run) k))
