-- Each interval that a step opens has the depth of its frames.
use Rattle.std.proofs.Common.{◌≡◌, ℕ, zero, suc, ◌+◌, ◌<◌, List, [], ◌∷◌, ◌++◌, length, Option, Some, None, refl, ap, sym, ◌∙◌, subst, arith}
use Rattle.std.proofs.lemmas.List.{length-append}
use Rattle.std.proofs.lemmas.Option.{none-some}
use Rattle.std.specs.Prelude.{fold, is_none}
use Rattle.ppd_ast.specs.declared.plan.Plan.{Plan}
use Rattle.ppd_ast.specs.declared.plan.Policy.{Policy}
use Rattle.ppd_ast.specs.declared.program.Program.{Program}
use Rattle.ppd_ast.specs.declared.status.Status.{Status}
use Rattle.ppd_ast.specs.Valid.{IsValid}
use Rattle.law_steps.specs.Blocks.{plan_of}
use Rattle.ppd_model.proofs.EntryWords.{new_interval}
use Rattle.ppd_model.specs.declared.entry.Entry.{Entry}
use Rattle.ppd_model.specs.declared.entry.Entry.TheVariants as entry
use Rattle.ppd_model.specs.IntervalLogs.{Indexing, LoggedInterval, index_step}
use Rattle.ppd_model.specs.Pieces.{Piece}
use Rattle.ppd_sem.specs.declared.proc.Frame.{Frame}
use Rattle.ppd_sem.specs.declared.proc.Proc.{Proc}
use Rattle.ppd_sem.specs.Process.{act}
use Rattle.ppd_model.specs.declared.state.Logging.{Logging}
use Rattle.ppd_model.specs.Logs.{entries_of, log_step, status_of, units}
use Rattle.ppd_model.specs.Marks.{Mark, opened, closed}
use Rattle.ppd_model.specs.Story.{Moment, unit_started}
use Rattle.ppd_model.specs.Synchronizations.{Sync, sync_of}
use Rattle.ppd_model.proofs.Statuses.{status_after}
use Rattle.ppd_model.proofs.Extents.{Fall}
use Rattle.law_steps.specs.OpenBlocks.Run.{IsRun}
use Rattle.law_steps.specs.OpenBlocks.Stack.{IsInOrder, Moves, block_frames, functions_in, stack}
use Rattle.law_steps.proofs.OpenBlocks.Stacks.{steps_move}
use Rattle.law_steps.specs.Coming.Pieces.{unit_pieces}
use Rattle.law_steps.proofs.Vocabulary.Nested.{HasStopped}
use Rattle.law_steps.specs.Coming.Openings.{Opening, opening, opening_by}
use Rattle.law_steps.proofs.Coming.IndexSteps.{put_new}
use Rattle.law_steps.proofs.Coming.Later.{finals, news}
use Rattle.law_steps.proofs.Coming.PassingSteps.{pass_falls, pass_index, pass_length, pass_running}
use Rattle.law_steps.proofs.Coming.Shapes.{Shape, closes, ends, left_falls, left_length, opens, passes, shape, stops, unit_falls, unit_length, unit_running}
use Rattle.law_steps.proofs.Coming.Stacked.{stopped_run}
use Rattle.law_steps.proofs.Coming.Depths.{AreDeep, blocks_at, deep_alike, deep_head, deep_rest, entries_blocks, final_blocks, put_last_blocks}

-- ---- one step

no_opening : (program : Program) (plan : Plan) (s : Proc) (ms : List Moment) (q : ℕ) → HasStopped s ms
    → opening program plan s ms q ≡ None
no_opening program plan s [] q h = refl
no_opening program plan s (m ∷ ms) q h = absurd h

abbrev pub frames_in : Option Opening → List Frame
frames_in None = []
frames_in (Some o) = o.proc.frames

module _ (program : Program) (plan : Plan) (l : Logging) (m : Moment) (ms : List Moment) (before after : List ℕ)
    (x : Indexing) (falls : Fall (length x.intervals) x.running) (deep : AreDeep x.intervals x.running before)
    (law : functions_in plan after ≡ block_frames plan (act program plan l.proc m.taken.answer).frames) where
  abbrev next : Proc
  next = act program plan l.proc m.taken.answer

  abbrev IsDeepAt : Indexing → ℕ → Opening → Type 0
  IsDeepAt y k o = functions_in plan
      (blocks_at (finals program plan (log_step program plan l m) ms y).intervals k) ≡ block_frames plan o.proc.frames

  -- what comes after the step
  abbrev Later : Indexing → Type 0
  Later y = Fall (length y.intervals) y.running → AreDeep y.intervals y.running after → (q : ℕ) (o : Opening)
      → opening program plan next ms q ≡ Some o → IsDeepAt y (length y.intervals + q) o

  abbrev entries : Option Mark → Option Sync → Option Mark → Option ℕ → Option Status → List Entry
  entries o sy c u st = news l m.taken m.unit_values o sy c u st

  abbrev index : Option Mark → Option Sync → Option Mark → Option ℕ → Option Status → Indexing
  index o sy c u st = fold index_step x (entries o sy c u st)

  -- an interval is opened
  opens_deep : (a : Mark) (u : Option ℕ) (units : List Piece) → after ≡ a.block ∷ before
      → Later (index (Some a) None None u None)
      → (q : ℕ) (o : Opening) → opening_by (Some a) q units next ms (opening program plan next ms) ≡ Some o
      → IsDeepAt (index (Some a) None None u None) (length x.intervals + q) o
  opens_deep a u us move later = by
    where
      new : LoggedInterval
      new = new_interval x a.block a.values

      put : Indexing
      put = index_step x (entry.Prelog a.block a.values)

      y : Indexing
      y = index (Some a) None None u None

      long : length y.intervals ≡ length x.intervals + 1
      long = unit_length m.unit_values u put ∙ length-append x.intervals (new ∷ [])

      put_long : length x.intervals < length put.intervals
      put_long = let e : length (x.intervals ++ new ∷ []) ≡ length x.intervals + 1 =
          length-append x.intervals (new ∷ []) in omega (arith, e)

      own : blocks_at y.intervals (length x.intervals) ≡ a.block ∷ before
      own =
          entries_blocks (units u m.unit_values ++ []) put (length x.intervals) put_long
          ∙ put_last_blocks x.intervals new ∙ ap (λ bs. a.block ∷ bs) (deep_head x.intervals x.running before deep)

      y_falls : Fall (length y.intervals) y.running
      y_falls = unit_falls m.unit_values u put (put_new x.intervals x.running new falls).falls

      y_deep : AreDeep y.intervals y.running after
      y_deep =
          subst (λ ks. AreDeep y.intervals ks after) (sym (unit_running m.unit_values u put))
          (subst (AreDeep y.intervals (length x.intervals ∷ x.running)) (sym move) (
            own,
            deep_alike x.intervals y.intervals (length x.intervals) x.running before falls
                (λ j h. entries_blocks (entries (Some a) None None u None) x j h) deep,
          ))

      by : (q : ℕ) (o : Opening) → opening_by (Some a) q us next ms (opening program plan next ms) ≡ Some o
          → IsDeepAt y (length x.intervals + q) o
      by zero o e =
          let here : length x.intervals + 0 ≡ length x.intervals = omega arith in
          ap (functions_in plan)
          (ap (blocks_at (finals program plan (log_step program plan l m) ms y).intervals) here
          ∙ final_blocks program plan ms (log_step program plan l m) y (length x.intervals) (omega (arith, long))
          ∙ own ∙ sym move) ∙ law ∙ ap (λ z. block_frames plan (frames_in z)) e
      by (suc q) o e =
          let same : length y.intervals + q ≡ length x.intervals + suc q = omega (arith, long) in
          subst (λ k. IsDeepAt y k o) same (later y_falls y_deep q o e)

  -- one is left
  closes_deep : (a : Mark) (u : Option ℕ) → before ≡ a.block ∷ after → Later (index None None (Some a) u None)
      → (q : ℕ) (o : Opening) → opening program plan next ms q ≡ Some o
      → IsDeepAt (index None None (Some a) u None) (length x.intervals + q) o
  closes_deep a u move later q o e = subst (λ n. IsDeepAt y (n + q) o) long (later y_falls y_deep q o e)
    where
      out : Indexing
      out = index_step x (entry.Postlog a.block a.values)

      y : Indexing
      y = index None None (Some a) u None

      long : length y.intervals ≡ length x.intervals
      long = unit_length m.unit_values u out ∙ left_length x.entry a.values x.intervals x.running

      y_falls : Fall (length y.intervals) y.running
      y_falls = unit_falls m.unit_values u out (left_falls x.entry a.values x.intervals x.running falls)

      y_deep : AreDeep y.intervals y.running after
      y_deep =
          deep_alike x.intervals y.intervals (length y.intervals) y.running after y_falls
          (λ j h. entries_blocks (entries None None (Some a) u None) x j (omega (arith, h, long)))
          (subst (λ ks. AreDeep x.intervals ks after) (sym (unit_running m.unit_values u out))
          (deep_rest x.intervals x.running after a.block
          (subst (AreDeep x.intervals x.running) move deep)))

  -- neither
  passes_deep : (sy : Option Sync) (u : Option ℕ) → before ≡ after → Later (index None sy None u None)
      → (q : ℕ) (o : Opening) → opening program plan next ms q ≡ Some o
      → IsDeepAt (index None sy None u None) (length x.intervals + q) o
  passes_deep sy u move later q o e = subst (λ n. IsDeepAt y (n + q) o) long (later y_falls y_deep q o e)
    where
      y : Indexing
      y = pass_index program plan l m.taken m.unit_values sy u x

      long : length y.intervals ≡ length x.intervals
      long = pass_length program plan l m.taken m.unit_values sy u x

      y_falls : Fall (length y.intervals) y.running
      y_falls = pass_falls program plan l m.taken m.unit_values sy u x falls

      y_deep : AreDeep y.intervals y.running after
      y_deep =
          deep_alike x.intervals y.intervals (length y.intervals) y.running after y_falls
          (λ j h. entries_blocks (entries None sy None u None) x j (omega (arith, h, long)))
          (subst (λ ks. AreDeep x.intervals ks after)
          (sym (pass_running program plan l m.taken m.unit_values sy u x))
          (subst (AreDeep x.intervals x.running) move deep))

  -- each step
  step_deep : (o c : Option Mark) (sy : Option Sync) (u : Option ℕ) (st : Option Status) (us : List Piece)
      → Shape sy u o c st → Moves o c st before after → ((s : Status) → st ≡ Some s → HasStopped next ms)
      → (st ≡ None → Later (index o sy c u st)) → (q : ℕ) (op : Opening)
      → opening_by o q us next ms (opening program plan next ms) ≡ Some op
      → IsDeepAt (index o sy c u st) (length x.intervals + q) op
  step_deep (Some a) None None u None us (opens _ e) move over later q op is =
      opens_deep a u us move (later refl) q op is
  step_deep (Some a) None (Some z) u None us (opens _ e) move over later q op is = absurd (none-some z (sym e))
  step_deep None (Some a) None u None us (closes _ e) move over later q op is =
      closes_deep a u move (later refl) q op is
  step_deep None (Some a) (Some z) u None us (closes _ e) move over later q op is = absurd (none-some z (sym e))
  step_deep None (Some a) sy u (Some s) us (ends _ _ e eu) move over later q op is =
      absurd (none-some op (sym (no_opening program plan next ms q (over s refl)) ∙ is))
  step_deep None None sy u (Some s) us (stops _ e eu) move over later q op is =
      absurd (none-some op (sym (no_opening program plan next ms q (over s refl)) ∙ is))
  step_deep None None sy u None us passes move over later q op is = passes_deep sy u move (later refl) q op is
  step_deep (Some a) None sy u (Some s) us z move over later q op is = elim z [ ]
  step_deep (Some a) (Some c) sy u st us z move over later q op is = elim z [ ]

-- ---- all steps

module _ (program : Program) (policy : Policy) (v : IsValid program) (p : ℕ)
    (there : program.functions + p < length program.bodies) where
  abbrev plan : Plan
  plan = plan_of program policy

  -- each interval that is opened has the depth of its frames
  pub deep_openings : (ms : List Moment) (l : Logging) (x : Indexing) → IsInOrder program plan p l.proc
      → l.proc.status ≡ None → IsRun program plan l.proc ms → Fall (length x.intervals) x.running
      → AreDeep x.intervals x.running (stack program plan p l.proc) → (q : ℕ) (o : Opening)
      → opening program plan l.proc ms q ≡ Some o
      → functions_in plan (blocks_at (finals program plan l ms x).intervals (length x.intervals + q))
      ≡ block_frames plan o.proc.frames
  deep_openings [] l x order running run falls deep q o e = absurd (none-some o e)
  deep_openings (m ∷ ms) l x order running run falls deep q o e =
      let after : Proc = act program plan l.proc m.taken.answer in
      let status : after.status ≡ status_of m.taken.need =
      status_after program plan m.taken.answer l.proc running ∙ ap status_of (sym run.0) in
      let stays : IsInOrder program plan p after = steps_move.stays program plan p l.proc m.taken.answer v order in
      let move : Moves (opened program plan l.proc m.taken.need) (closed program plan l.proc m.taken.need)
      (status_of m.taken.need) (stack program plan p l.proc) (stack program plan p after) =
      subst (λ k. Moves (opened program plan l.proc k) (closed program plan l.proc k) (status_of k)
      (stack program plan p l.proc) (stack program plan p after)) (sym run.0)
      (steps_move.moves program plan p l.proc m.taken.answer v order running) in
      step_deep program plan l m ms (stack program plan p l.proc) (stack program plan p after) x falls deep
      (steps_move.depth program policy p after v there stays)
      (opened program plan l.proc m.taken.need) (closed program plan l.proc m.taken.need) (sync_of m.taken)
      (unit_started m.taken.need) (status_of m.taken.need) (unit_pieces (unit_started m.taken.need) m.unit_values)
      (shape program plan l.proc m.taken m.taken.need refl) move
      (λ s is. stopped_run program plan after ms (ap is_none (status ∙ is)) run.3)
      (λ none f d i z is. deep_openings ms (log_step program plan l m)
      (fold index_step x (entries_of program plan l m)) stays (status ∙ none) run.3 f d i z is)
      q o e
