-- After each schedule that can be taken each log is lawful so far.
use Rattle.ppd_model.specs.Setting.{setting_of}
use Rattle.std.specs.Option.{option_map_or}
use Rattle.std.proofs.Common.{◌≡◌, ℕ, zero, suc, ◌+◌, ◌-◌, ◌*◌, ◌<◌, ◌≤◌, ◌^◌, ℤ, pos, true, List, [], ◌∷◌, ◌++◌, Option, Some, None, refl, ap, sym, ◌∙◌, subst, length, map, get_or, arith, length-append, inl}
use Rattle.std.specs.Prelude.{option_map, slice_get}
use Rattle.std.proofs.lemmas.List.{append-nil, append_assoc, length-map}
use Rattle.std.proofs.lemmas.List.Sums.{fold-append}
use Rattle.std.proofs.lemmas.Option.{none-some}
use Rattle.ppd_ast.specs.Valid.{IsValid}
use Rattle.ppd_ast.specs.ValidPlan.{IsValidPlan}
use Rattle.ppd_ast.specs.declared.limits.TheConstants.{MOST_BUDGET, MOST_SHARED_CELLS, MOST_START, MOST_PROCESSES}
use Rattle.ppd_ast.specs.declared.plan.BlockKind.TheVariants as block
use Rattle.ppd_ast.specs.declared.plan.Plan.{Plan}
use Rattle.ppd_ast.specs.declared.plan.Start.TheVariants as start
use Rattle.ppd_ast.specs.declared.program.Program.{Program}
use Rattle.ppd_sem.specs.declared.proc.Need.{Need}
use Rattle.ppd_sem.specs.declared.proc.Proc.{Proc}
use Rattle.ppd_sem.specs.Laws.{OffersAreCompleted}
use Rattle.ppd_sem.specs.Process.{need_of, started}
use Rattle.ppd_sem.specs.Tables.{block_of, unit_of}
use Rattle.ppd_sem.proofs.TableWords.{or_zero}
use Rattle.ppd_sem.proofs.Marked.{at_head, no_done, unoffered_no_done}
use Rattle.ppd_sem.proofs.Offering.{offers_completed}
use Rattle.ppd_model.specs.declared.state.Logging.{Logging}
use Rattle.ppd_model.specs.Costs.{HasWholePrelogs}
use Rattle.ppd_model.specs.Laws.{logged_moment}
use Rattle.ppd_model.specs.Logs.{begun_log, log_step, loggings}
use Rattle.ppd_model.proofs.LogWords.{logs_from}
use Rattle.ppd_model.specs.Schedule.{run, run_from, started_world}
use Rattle.ppd_model.specs.Story.{Telling, begun, number_of, tell, told, unit_started, values_of_unit}
use Rattle.ppd_model.proofs.WorldWords.{need_at, values_at_start}
use Rattle.ppd_model.specs.World.{World, answer, enabled, need, step}
use Rattle.ppd_model.proofs.Bounded.{Goes, bounded, goes, not_stopped}
use Rattle.ppd_model.proofs.Prefixes.{objects_stay}
use Rattle.ppd_model.proofs.Stories.{stories_are_of_runs}
use Rattle.ppd_model.proofs.Costs.{steps_cost}
use Rattle.ppd_model.proofs.States.{logs_grow, one_state}
use Rattle.law_logs.specs.Recording.Values.{HasConstantsOf64Bits}
use Rattle.law_logs.proofs.Recording.Values.Asking.{get_fits}
use Rattle.law_logs.proofs.Recording.Logs.Counts.{AreBelow, number_below, started_below, step_below}
use Rattle.law_logs.proofs.Recording.Logs.Entries.{prelog_lawful, short, unit_lawful}
use Rattle.law_logs.proofs.Recording.Fit.{All, Fit, all_change}
use Rattle.law_logs.proofs.Recording.Values.Kept.{started_fits}
use Rattle.law_logs.proofs.Recording.Logs.Steps.{IsFine, fine_after}
use Rattle.law_logs.proofs.Recording.Logs.Numbers.{Small, calls, few_of_unit, process_block, unit_small}
use Rattle.law_logs.proofs.Recording.Values.Worlds.{WorldFits, answer_fits, world_fits}

module _ (program : Program) (plan : Plan) (v : IsValid program) (w : IsValidPlan program plan) (whole : HasWholePrelogs program plan) (k : HasConstantsOf64Bits program) (budget : ℕ) (most : budget ≤ MOST_BUDGET) where
  abbrev Fine : Logging → Type 0
  Fine l = IsFine program plan v w k.exprs budget l

  abbrev now : List ℕ → World
  now h = (told (setting_of program plan budget) h).world

  -- ---- the values of a unit

  values_fit : (shared : List ℤ) (cs : List ℕ) → All Fit shared → All Fit (map (λ c. get_or shared c (pos 0)) cs)
  values_fit shared [] h = tt
  values_fit shared (c ∷ cs) h = (get_fits shared c h, values_fit shared cs h)

  few_values : (shared : List ℤ) (u : ℕ) → length (values_of_unit plan shared u) ≤ MOST_SHARED_CELLS
  few_values shared u =
      subst (λ m. m ≤ MOST_SHARED_CELLS) (sym (length-map (option_map_or (λ u. u.cells) (slice_get plan.units u) []) (λ c. get_or shared c (pos 0)))) (few_of_unit program plan v w u)

  few_at_start : (shared : List ℤ) (o : Option ℕ) → length (values_at_start plan shared o) ≤ MOST_SHARED_CELLS
  few_at_start shared None = omega arith
  few_at_start shared (Some u) = few_values shared u

  fit_at_start : (shared : List ℤ) (o : Option ℕ) → All Fit shared → All Fit (values_at_start plan shared o)
  fit_at_start shared None h = tt
  fit_at_start shared (Some u) h = values_fit shared (option_map_or (λ u. u.cells) (slice_get plan.units u) []) h

  -- ---- one step

  map_at : {A B : Type 0} (f : A → B) (xs : List A) (i : ℕ) (x : A) → slice_get xs i ≡ Some x → slice_get (map f xs) i ≡ Some (f x)
  map_at f [] i x e = absurd (none-some x e)
  map_at f (y ∷ xs) zero x e = ap (λ o. option_map f o) e
  map_at f (y ∷ xs) (suc i) x e = map_at f xs i x e

  -- the world's process is that of the log
  proc_at : (h : List ℕ) (p : ℕ) (l : Logging) → slice_get (loggings (setting_of program plan budget) h) p ≡ Some l → slice_get (now h).procs p ≡ Some l.proc
  proc_at h p l e =
      let s = one_state (setting_of program plan budget) h in
      subst (λ ps. slice_get ps p ≡ Some l.proc) (s.logged ∙ sym s.worlds) (map_at (λ (x : Logging). x.proc) (loggings (setting_of program plan budget) h) p l e)

  next : (h : List ℕ) (p : ℕ) → now (h ++ p ∷ []) ≡ step program plan (now h) p
  next h p = ap (λ (t : Telling). t.world) (fold-append (tell program plan) (begun (started_world (setting_of program plan budget))) h (p ∷ []))

  one_step : (h : List ℕ) (p m : ℕ) (l : Logging) → enabled program plan (now h) p ≡ true → AreBelow m (now h) → m < 2 ^ 31 → slice_get (loggings (setting_of program plan budget) h) p ≡ Some l
      → Fine l → Fine (log_step program plan l (logged_moment program plan (now h) p))
  one_step h p m l enables counts small e fine =
      let world : World = now h in
      let nd : Need = need program plan world p in
      let is : nd ≡ need_of program plan l.proc = ap (need_at program plan) (proc_at h p l e) in
      let old : WorldFits world = world_fits (setting_of program plan budget) h k in
      let new : WorldFits (step program plan world p) = subst WorldFits (next h p) (world_fits (setting_of program plan budget) (h ++ p ∷ []) k) in
      fine_after program plan v w k.exprs budget l nd (answer world nd) (number_of world nd) (values_at_start plan (step program plan world p).shared (unit_started nd)) is
      (not_stopped world nd enables)
      (record {
        value = answer_fits program plan k.exprs world nd old;
        in_range = number_below m world counts nd small;
        few = few_at_start (step program plan world p).shared (unit_started nd);
        values = fit_at_start (step program plan world p).shared (unit_started nd) new.shared;
      })
      (steps_cost (setting_of program plan budget) h p l v w whole e) fine most

  -- ---- all steps

  record IsFineRun (h : List ℕ) : Type 0 where
    logs : All Fine (loggings (setting_of program plan budget) h)
    counts : AreBelow (MOST_START + length h) (now h)

  one_more : (h : List ℕ) (p : ℕ) → enabled program plan (now h) p ≡ true → length h < 2 ^ 30 → IsFineRun h → IsFineRun (h ++ p ∷ [])
  one_more h p enables long f =
      let one : length (h ++ p ∷ []) ≡ length h + 1 = length-append h (p ∷ []) in
      let more : MOST_START + length h + 1 ≡ MOST_START + length (h ++ p ∷ []) = omega (arith, one) in
      record {
        logs = subst (All Fine) (sym (logs_grow (setting_of program plan budget) h p))
            (all_change Fine (λ l. log_step program plan l (logged_moment program plan (now h) p)) p (loggings (setting_of program plan budget) h)
            (λ l e fine. one_step h p (MOST_START + length h) l enables f.counts (omega (arith, long)) e fine) f.logs);
        counts = subst (λ x. AreBelow (MOST_START + length (h ++ p ∷ [])) x) (sym (next h p))
            (subst (λ m. AreBelow m (step program plan (now h) p)) more (step_below (MOST_START + length h) (now h) f.counts program plan p));
      }

  all_steps : (h g : List ℕ) (last : World) → length h + length g < 2 ^ 30 → run_from program plan (now h) g ≡ Some last → IsFineRun h → IsFineRun (h ++ g)
  all_steps h [] last long e f = subst IsFineRun (sym (append-nil h)) f
  all_steps h (p ∷ g) last long e f =
      let go : Goes program plan (now h) last p g = goes program plan (now h) last p g e in
      let one : length (h ++ p ∷ []) ≡ length h + 1 = length-append h (p ∷ []) in
      subst IsFineRun (append_assoc h (p ∷ []) g)
      (all_steps (h ++ p ∷ []) g last (omega (arith, one, long)) (subst (λ x. run_from program plan x g ≡ Some last) (sym (next h p)) go.rest) (one_more h p go.enables (omega (arith, long)) f))

  -- ---- the start

  begun_fine : (p : ℕ) → Fine (begun_log (setting_of program plan budget) p)
  begun_fine p =
      let body : ℕ = program.functions + p in
      let u : ℕ = unit_of plan (start.Entry body) in
      let s : Proc = started program plan p budget in
      let o : OffersAreCompleted = offers_completed in
      let vs : List ℤ = values_of_unit plan program.starts u in
      let few : length vs ≤ MOST_SHARED_CELLS = few_values program.starts u in
      record {
        locals = started_fits Small program plan k.exprs (calls program plan v w) (short program plan v w k.exprs) p budget;
        rows = (tt, tt);
        entries = (
          prelog_lawful program plan v w k.exprs (or_zero (block_of plan (block.Process body))) [] (process_block program plan v w body) (short program plan v w k.exprs) tt,
          (unit_lawful program plan v w k.exprs u vs (unit_small program plan v w (start.Entry body)) (omega (arith, few)) (values_fit program.starts (option_map_or (λ u. u.cells) (slice_get plan.units u) []) (world_fits (setting_of program plan budget) [] k).shared), tt),
        );
        steps = omega arith;
        spent = omega arith;
        rest = omega arith;
        bytes = inl (refl, omega (arith, few));
        offers = at_head program s.todo (o.starts program plan p budget);
        done = λ c x e. absurd (no_done (need_of program plan s) c x (unoffered_no_done program plan None s (o.starts program plan p budget)) e);
      }

  all_begun : (q : ℕ) (ss : List Proc) → All Fine (logs_from (setting_of program plan budget) q (map (λ _. []) ss))
  all_begun q [] = tt
  all_begun q (s ∷ ss) = (begun_fine q, all_begun (q + 1) ss)

  times_less : (c i j : ℕ) → i ≤ j → c * i ≤ c * j
  times_less c i j h =
      let e : j ≡ i + (j - i) = omega arith in
      let d : c * (i + (j - i)) ≡ c * i + c * (j - i) = omega arith in
      let g : c * j ≡ c * (i + (j - i)) = ap (λ m. c * m) e in
      omega (arith, d, g)

  -- a schedule has at most 16 times so many numbers as the budget and one more
  few_numbers : (h : List ℕ) (last : World) → run (setting_of program plan budget) h ≡ Some last → length h < 2 ^ 30
  few_numbers h last e =
      let bound : length h ≤ length last.procs * (budget + 1) = (bounded (setting_of program plan budget) h last e).all in
      let procs : length (now h).procs ≡ length program.bodies - program.functions = (objects_stay (setting_of program plan budget) h).processes in
      let same : length (now h).procs ≡ length last.procs = ap (λ (x : World). length x.procs) (stories_are_of_runs (setting_of program plan budget) h last e) in
      let few : length program.bodies ≤ program.functions + MOST_PROCESSES = v.limits.processes in
      let times : (budget + 1) * length last.procs ≤ (budget + 1) * MOST_PROCESSES = times_less (budget + 1) (length last.procs) MOST_PROCESSES (omega (arith, procs, same, few)) in
      let turned : length last.procs * (budget + 1) ≡ (budget + 1) * length last.procs = omega arith in
      omega (arith, bound, times, turned, most)

  pub run_fine : (h : List ℕ) (last : World) → run (setting_of program plan budget) h ≡ Some last → All Fine (loggings (setting_of program plan budget) h)
  run_fine h last e =
      let first : MOST_START ≡ MOST_START + 0 = omega arith in
      let few : length h < 2 ^ 30 = few_numbers h last e in
      (all_steps [] h last (omega (arith, few)) e
      (record {
        logs = all_begun 0 (started_world (setting_of program plan budget)).procs;
        counts = subst (λ m. AreBelow m (started_world (setting_of program plan budget))) first (started_below (setting_of program plan budget) v);
      })).logs
