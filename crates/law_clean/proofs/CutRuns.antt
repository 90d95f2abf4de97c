-- The log of a process, cut off after a beginning of a whole schedule: each interval is replayed to what it has by then.
use Rattle.law_steps.specs.Policies.{setting_by}
use Rattle.ppd_model.specs.Setting.{Setting, setting_of}
use Rattle.std.proofs.Common.{◌≡◌, ℕ, ◌+◌, ◌-◌, ◌<◌, ◌≤◌, List, [], ◌∷◌, ◌++◌, Option, Some, None, Ok, false, refl, ap, ap₂, sym, subst, ◌∙◌, arith, length, inl, inr, append_assoc, append-nil}
use Rattle.std.proofs.lemmas.Bool.{cases_eq, cases_lt}
use Rattle.std.proofs.lemmas.List.Sums.{fold-append}
use Rattle.std.specs.List.{flat_map}
use Rattle.std.specs.Prelude.{fold, is_none, slice_get, get_or}
use Rattle.ppd_ast.specs.declared.plan.Plan.{Plan}
use Rattle.ppd_ast.specs.declared.plan.Policy.{Policy}
use Rattle.ppd_ast.specs.declared.program.Program.{Program}
use Rattle.ppd_ast.specs.declared.status.Status.TheVariants as status
use Rattle.ppd_ast.specs.Valid.{IsValid}
use Rattle.ppd_blocks.specs.Blocks.{plan_of}
use Rattle.ppd_model.specs.declared.entry.Entry.{Entry}
use Rattle.ppd_model.specs.declared.entry.Entry.TheVariants as entry
use Rattle.ppd_model.specs.IntervalLogs.{interval_log}
use Rattle.ppd_sem.specs.declared.proc.Proc.{Proc}
use Rattle.ppd_sem.specs.declared.proc.Todo.{Todo}
use Rattle.ppd_sem.specs.Process.{act, started}
use Rattle.ppd_sem.proofs.Progress.{act-within}
use Rattle.law_steps.specs.Course.{EndsWithEnd, GoesUntilEnd}
use Rattle.law_steps.proofs.Course.Ending.{never_runs_out}
use Rattle.ppd_model.specs.declared.state.Logging.{Logging}
use Rattle.ppd_model.specs.declared.tracing.Story.{Story}
use Rattle.ppd_model.specs.Intervals.{Part, own, nested, Span, Split, begun_split, item_of, split_of, split_step, splits}
use Rattle.ppd_model.proofs.IntervalWords.{item_of_event, item_of_span}
use Rattle.ppd_model.specs.Logs.{begun_log, closed_log, log_of, log_step}
use Rattle.ppd_model.specs.Schedule.{IsWhole}
use Rattle.ppd_model.specs.Story.{Moment, moment_of, steps_of, story, told}
use Rattle.ppd_model.proofs.Items.{split_found}
use Rattle.ppd_model.proofs.Stories.{steps_append}
use Rattle.law_steps.specs.OpenBlocks.Run.{IsRun}
use Rattle.law_steps.proofs.OpenBlocks.Runs.{schedules_run}
use Rattle.law_steps.proofs.OpenBlocks.Told.{own_more, own_past, own_same, own_steps_are}
use Rattle.law_steps.specs.Theorem.Laws.{modelled_of, replay_of}
use Rattle.law_steps.specs.InForce.Values.{AreRead, begun_in_force}
use Rattle.law_clean.specs.Ordered.{AreUnracedReads}
use Rattle.law_clean.proofs.Logged.{log_cut, raised_log}
use Rattle.law_clean.proofs.Raised.{need_spent, raised}
use Rattle.law_clean.proofs.Reading.{read_on}
use Rattle.law_clean.proofs.ReadsAnswered.{unraced_reads}
use Rattle.law_clean.proofs.Replays.{replays_alike}
use Rattle.law_clean.proofs.Spanned.{raised_split, splits_raised}
use Rattle.law_clean.proofs.Stopped.{AreSame, IsCut, after_all, cut_run, same_needs, stop_moment, stop_status}

-- ---- moments of a beginning

module _ (setting : Setting) where
  -- a process has the moments of a beginning, and then more
  pub moments_grow : (rest g : List ℕ) (p : ℕ) → (more : List Moment) × (get_or (told setting (g ++ rest)).moments p [] ≡ get_or (told setting g).moments p [] ++ more)
  moments_grow [] g p = ([], ap (λ h. get_or (told setting h).moments p []) (append-nil g) ∙ sym (append-nil (get_or (told setting g).moments p [])))
  moments_grow (r ∷ rest) g p =
      let further = moments_grow rest (g ++ r ∷ []) p in
      let one : (new : List Moment) × (get_or (told setting (g ++ r ∷ [])).moments p [] ≡ get_or (told setting g).moments p [] ++ new) = step r in (
        one.0 ++ further.0,
        ap (λ h. get_or (told setting h).moments p []) (sym (append_assoc g (r ∷ []) rest)) ∙ further.1 ∙ ap (λ ms. ms ++ further.0) one.1
            ∙ append_assoc (get_or (told setting g).moments p []) one.0 further.0,
      )
    where
      none : {ms : List Moment} → get_or (told setting (g ++ r ∷ [])).moments p [] ≡ ms → ms ≡ get_or (told setting g).moments p []
          → (new : List Moment) × (get_or (told setting (g ++ r ∷ [])).moments p [] ≡ get_or (told setting g).moments p [] ++ new)
      none e f = ([], e ∙ f ∙ sym (append-nil (get_or (told setting g).moments p [])))

      step : (r' : ℕ) → (new : List Moment) × (get_or (told setting (g ++ r ∷ [])).moments p [] ≡ get_or (told setting g).moments p [] ++ new)
      step r' = elim (cases_eq r p) [
        | inr other ↦ none (own_same setting g r p other) refl
        | inl same ↦ elim (cases_lt p (length (told setting g).world.procs)) [
          | inl lt ↦ (moment_of setting.program setting.plan (told setting g) p ∷ [], ap (λ k. get_or (told setting (g ++ k ∷ [])).moments p []) same ∙ own_more setting g p lt)
          | inr past ↦ none (ap (λ k. get_or (told setting (g ++ k ∷ [])).moments p []) same ∙ own_past setting g p past) refl
        ]
      ]

  -- ---- the state after them

  pub log_proc : (ms : List Moment) (l : Logging) → (fold (log_step setting.program setting.plan) l ms).proc ≡ after_all setting.program setting.plan l.proc ms
  log_proc [] l = refl
  log_proc (m ∷ ms) l = log_proc ms (log_step setting.program setting.plan l m)

  until_end : (ms : List Moment) (s : Proc) → GoesUntilEnd setting.program s → GoesUntilEnd setting.program (after_all setting.program setting.plan s ms)
  until_end [] s h = h
  until_end (m ∷ ms) s h = until_end ms (act setting.program setting.plan s m.taken.answer) (never_runs_out.stays setting.program setting.plan s m.taken.answer h)

  within : (ms : List Moment) (s : Proc) → s.spent ≤ s.budget → (after_all setting.program setting.plan s ms).spent ≤ s.budget
  within [] s h = h
  within (m ∷ ms) s h =
      let keeps = act-within setting.program setting.plan s m.taken.answer h in
      let rest : (after_all setting.program setting.plan (act setting.program setting.plan s m.taken.answer) ms).spent ≤ (act setting.program setting.plan s m.taken.answer).budget = within ms (act setting.program setting.plan s m.taken.answer) keeps.spent in
      let same : (act setting.program setting.plan s m.taken.answer).budget ≡ s.budget = keeps.budget in
      omega (arith, rest, same)

  head_there : (todo : List Todo) → EndsWithEnd setting.program todo → (t : Todo) × (ts : List Todo) × (todo ≡ t ∷ ts)
  head_there [] h = absurd h
  head_there (t ∷ ts) h = (t, ts, refl)

-- ---- items of splits that are alike

items_same : (x y : Split) → x.trace.events ≡ y.trace.events → x.spans ≡ y.spans → (ps : List Part) → flat_map (item_of x) ps ≡ flat_map (item_of y) ps
items_same x y e f [] = refl
items_same x y e f (q ∷ ps) = ap₂ (λ a b. a ++ b) (one q) (items_same x y e f ps)
  where
    one : (q : Part) → item_of x q ≡ item_of y q
    one (own n) = ap (λ es. item_of_event (slice_get es n)) e
    one (nested m) = ap (λ is. item_of_span m (slice_get is m)) f

modelled_same : (x y : Split) → x.trace.events ≡ y.trace.events → x.spans ≡ y.spans → (o : Option Span) → modelled_of x o ≡ modelled_of y o
modelled_same x y e f None = refl
modelled_same x y e f (Some i) = ap (λ is. Some (record { steps = i.steps; answer = Ok (record { items = is }) })) (items_same x y e f i.parts)

module _ (program : Program) (policy : Policy) (budget : ℕ) (g rest : List ℕ) (p : ℕ) (v : IsValid program) (whole : IsWhole (setting_by program policy budget) (g ++ rest))
    (there : program.functions + p < length program.bodies) where
  abbrev plan : Plan
  plan = plan_of program policy

  abbrev ms : List Moment
  ms = get_or (told (setting_of program plan budget) g).moments p []

  abbrev s0 : Proc
  s0 = started program plan p budget

  -- the process with its log after g
  abbrev pub kept : Logging
  kept = log_of (setting_of program plan budget) p ms

  -- the log, cut off there
  abbrev pub cut_entries : List Entry
  cut_entries = kept.entries ++ entry.End status.Budget kept.rest kept.reads kept.writes ∷ []

  module _ (runs : kept.proc.status ≡ None) (clear : AreUnracedReads (setting_of program plan budget) g (g ++ rest) p) where
    more : (more : List Moment) × (get_or (told (setting_of program plan budget) (g ++ rest)).moments p [] ≡ ms ++ more)
    more = moments_grow (setting_of program plan budget) rest g p

    run : IsRun program plan s0 (ms ++ more.0)
    run = subst (IsRun program plan s0) more.1 (schedules_run (setting_of program plan budget) (g ++ rest) p v whole there)

    abbrev final : Proc
    final = after_all program plan s0 ms

    proc_is : kept.proc ≡ final
    proc_is = log_proc (setting_of program plan budget) ms (begun_log (setting_of program plan budget) p)

    running : final.status ≡ None
    running = ap (λ (s : Proc). s.status) (sym proc_is) ∙ runs

    paid : final.spent ≤ budget
    paid = within (setting_of program plan budget) ms s0 (omega arith)

    abbrev d : ℕ
    d = budget - final.spent

    all : budget ≡ final.spent + d
    all = omega (arith, paid)

    head : (t : Todo) × (ts : List Todo) × (final.todo ≡ t ∷ ts)
    head = head_there (setting_of program plan budget) final.todo (until_end (setting_of program plan budget) ms s0 (never_runs_out.starts program plan p budget v there) running)

    is_cut : IsCut program plan d s0 ms
    is_cut = record { head = head.0; rest = head.1; runs = running; todo = head.2; all = all }

    same : AreSame program plan d s0 ms
    same = same_needs program plan d ms more.0 s0 refl (omega arith) run running (omega (arith, all))

    run' : IsRun program plan (raised d s0) (ms ++ stop_moment ∷ [])
    run' = cut_run program plan d ms more.0 s0 refl (omega arith) run is_cut

    budget_is : final.budget ≡ budget
    budget_is = stays ms s0 (omega arith)
      where
        stays : (xs : List Moment) (s : Proc) → s.spent ≤ s.budget → (after_all program plan s xs).budget ≡ s.budget
        stays [] s h = refl
        stays (m ∷ xs) s h = let keeps = act-within program plan s m.taken.answer h in stays xs (act program plan s m.taken.answer) keeps.spent ∙ keeps.budget

    stops : is_none (act program plan (raised d kept.proc) stop_moment.taken.answer).status ≡ false
    stops =
        ap (λ (s : Proc). is_none (act program plan (raised d s) stop_moment.taken.answer).status) proc_is
        ∙ ap is_none (stop_status program plan (raised d final) (need_spent program plan d final head.0 head.1 running head.2 (budget_is ∙ all)))

    entries_are : closed_log (fold (log_step program plan) (raised_log d (begun_log (setting_of program plan budget) p)) (ms ++ stop_moment ∷ [])) ≡ cut_entries
    entries_are = log_cut program plan d ms (begun_log (setting_of program plan budget) p) same stops

    reads : AreRead plan (begun_in_force program plan p) (ms ++ stop_moment ∷ [])
    reads = read_on plan (begun_in_force program plan p) ms (unraced_reads program policy budget g rest whole.last p v whole.runs clear)

    module _ (s : Story) where
      abbrev split : Split
      split = split_of (setting_of program plan budget) s p (steps_of ms)

      abbrev end : Split
      end = fold (split_step program plan s p) (raised_split d (begun_split program plan p s0)) (steps_of (ms ++ stop_moment ∷ []))

      end_is : end ≡ split_step program plan s p (raised_split d split) stop_moment.taken
      end_is =
          ap (fold (split_step program plan s p) (raised_split d (begun_split program plan p s0))) (steps_append ms (stop_moment ∷ []))
          ∙ fold-append (split_step program plan s p) (raised_split d (begun_split program plan p s0)) (steps_of ms) (stop_moment.taken ∷ [])
          ∙ ap (λ x. split_step program plan s p x stop_moment.taken) (splits_raised program plan s p d ms (begun_split program plan p s0) same)

      modelled : (k : ℕ) → modelled_of end (slice_get end.spans k) ≡ modelled_of split (slice_get split.spans k)
      modelled k =
          ap (λ y. modelled_of y (slice_get y.spans k)) end_is
          ∙ modelled_same (split_step program plan s p (raised_split d split) stop_moment.taken) split refl refl (slice_get split.spans k)

      -- each interval of the cut log is replayed to what it has after g
      pub cut_replays : (k : ℕ) → replay_of (setting_of program plan budget) (interval_log plan cut_entries k) ≡ modelled_of split (slice_get split.spans k)
      cut_replays k =
          ap (λ es. replay_of (setting_of program plan budget) (interval_log plan es k)) (sym entries_are)
          ∙ replays_alike program policy v budget p d (omega (arith, all)) there (ms ++ stop_moment ∷ []) run' s reads k
          ∙ modelled k

    -- and so as the story of g has it
    pub cut_gives : (x : Split) → slice_get (splits (setting_of program plan budget) (story (setting_of program plan budget) g)) p ≡ Some x
        → (k : ℕ) → replay_of (setting_of program plan budget) (interval_log plan cut_entries k) ≡ modelled_of x (slice_get x.spans k)
    cut_gives x at k =
        let s : Story = story (setting_of program plan budget) g in
        let z : 0 + p ≡ p = omega arith in
        let is : split_of (setting_of program plan budget) s p (steps_of ms) ≡ x =
        ap (λ xs. split_of (setting_of program plan budget) s p xs) (sym (own_steps_are (setting_of program plan budget) g p)) ∙ ap (λ q. split_of (setting_of program plan budget) s q (get_or s.steps p [])) (sym z) ∙ split_found (setting_of program plan budget) s 0 s.steps p x at in
        cut_replays s k ∙ ap (λ y. modelled_of y (slice_get y.spans k)) is
