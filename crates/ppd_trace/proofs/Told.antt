-- What is told of a schedule with one more step.
use Rattle.ppd_model.specs.Setting.{Setting}
use Rattle.std.proofs.Common.{◌*◌, ◌≡◌, ℕ, ◌+◌, ◌-◌, ◌<◌, ◌≤◌, ◌^◌, true, List, [], ◌∷◌, ◌++◌, length, map, get_or, slice_set, Some, None, refl, ap, sym, ◌∙◌, subst, arith}
use Rattle.std.specs.Prelude.{replicate}
use Rattle.ppd_ast.specs.Valid.{IsValid}
use Rattle.ppd_ast.specs.ValidPlan.{IsValidPlan}
use Rattle.ppd_ast.specs.declared.limits.TheConstants.{MOST_BUDGET, MOST_PROCESSES}
use Rattle.ppd_sem.specs.declared.proc.Need.{Need}
use Rattle.ppd_sem.specs.declared.proc.Need.TheVariants.{Read, Write}
use Rattle.ppd_sem.specs.declared.proc.Proc.{Proc}
use Rattle.ppd_model.specs.declared.tracing.Taken.{Taken}
use Rattle.ppd_model.specs.declared.state.Logging.{Logging}
use Rattle.ppd_model.specs.declared.trace.EventId.{EventId}
use Rattle.ppd_model.specs.FullTrace.{Tag}
use Rattle.ppd_model.specs.Logs.{loggings}
use Rattle.ppd_model.specs.Schedule.{run}
use Rattle.ppd_model.proofs.WorldWords.{count_events, started_procs, taken_of}
use Rattle.ppd_model.specs.Story.{Telling, moment_of, next_event, number_of, steps_of, tell, told, writer_of, writers_after}
use Rattle.ppd_model.specs.World.{World, answer, change, need, step}
use Rattle.ppd_model.proofs.Bounded.{started_count}
use Rattle.ppd_model.proofs.Stories.{steps-change, told-append}
use Rattle.ppd_world.specs.Running.{IsOf, IsReached, Running, begun, can_step, stepped}
use Rattle.ppd_world.proofs.Reached.{of_step}
use Rattle.ppd_trace.specs.Telling.{HasTold, Tells, after, counts_after, next_of, next_taken, writer_in, writers_set}
use Rattle.ppd_trace.proofs.Counted.{count_at, counts_change, empty_steps, few_events_at, zero_counts}

-- ---- the parts of a step

same_writer : (t : Telling) (n : Need) → writer_in t.writers n ≡ writer_of t n
same_writer t (Read c) = refl
same_writer t n = refl

same_writers : (t : Telling) (p : ℕ) (n : Need) (e : EventId) → e ≡ next_event t p → writers_set t.writers e n ≡ writers_after t p n
same_writers t p (Write c v) e is = ap (λ (x : EventId). slice_set t.writers c (Some x)) is
same_writers t p n e is = refl

event_is : (t : Telling) (p : ℕ) → next_of (map count_events t.moments) p ≡ next_event t p
event_is t p = ap (λ (k : ℕ). record { process = p; number = k }) (count_at p t.moments)

module _ (setting : Setting) (h : List ℕ) (p : ℕ) where
  abbrev t : Telling
  t = told setting h

  abbrev n : Need
  n = need setting.program setting.plan t.world p

  abbrev r : Running
  r = after setting h

  abbrev grown : Telling
  grown = tell setting.program setting.plan t p

  taken_is : next_taken r t.writers p ≡ taken_of t n
  taken_is = ap (λ (w : Tag). record { need = n; answer = answer t.world n; writer = w; number = number_of t.world n }) (same_writer t n)

  ran : run setting h ≡ Some t.world → can_step r p ≡ true → IsOf (h ++ p ∷ []) (stepped r p)
  ran e can = of_step h r p can (record { runs = e; logs = refl })

  told_is : told setting (h ++ p ∷ []) ≡ grown
  told_is = told-append setting h p

  built : World → List Logging → Running
  built w ls = record { setting = setting; world = w; loggings = ls }

  stepped_is : run setting h ≡ Some t.world → can_step r p ≡ true → stepped r p ≡ after setting (h ++ p ∷ [])
  unfolding built
  stepped_is e can =
      ap (λ (ls : List Logging). built (step setting.program setting.plan t.world p) ls) (ran e can).logs
      ∙ ap (λ (x : Telling). built x.world (loggings setting (h ++ p ∷ []))) (sym told_is)

  pub tells_more : (r' : Running) (counts : List ℕ) (writers : List Tag) (steps : List (List Taken)) (next : Running) (counts' : List ℕ) (writers' : List Tag) (steps' : List (List Taken))
      → Tells setting h r' counts writers steps → can_step r' p ≡ true → HasTold r' counts writers steps p next counts' writers' steps'
      → Tells setting (h ++ p ∷ []) next counts' writers' steps'
  tells_more r' counts writers steps next counts' writers' steps' b enabled s =
      let can : can_step r p ≡ true = subst (λ (x : Running). can_step x p ≡ true) b.world enabled in
      record {
        runs = (ran b.runs can).runs ∙ ap (λ (x : Telling). Some x.world) (sym told_is);
        world = s.world ∙ ap (λ (x : Running). stepped x p) b.world ∙ stepped_is b.runs can;
        counted = s.counted
            ∙ ap (λ (x : Running). counts_after counts p (need x.setting.program x.setting.plan x.world p)) b.world
            ∙ ap (λ (ks : List ℕ). counts_after ks p n) b.counted
            ∙ counts_change (moment_of setting.program setting.plan t p) p t.moments
            ∙ ap (λ (x : Telling). map count_events x.moments) (sym told_is);
        written = s.written
            ∙ ap (λ (x : Running). writers_set writers (next_of counts p) (need x.setting.program x.setting.plan x.world p)) b.world
            ∙ ap (λ (ks : List ℕ). writers_set writers (next_of ks p) n) b.counted
            ∙ ap (λ (ws : List Tag). writers_set ws (next_of (map count_events t.moments) p) n) b.written
            ∙ same_writers t p n (next_of (map count_events t.moments) p) (event_is t p)
            ∙ ap (λ (x : Telling). x.writers) (sym told_is);
        added = s.added
            ∙ ap (λ (x : Running). change (λ xs. xs ++ next_taken x writers p ∷ []) p steps) b.world
            ∙ ap (λ (ws : List Tag). change (λ xs. xs ++ next_taken r ws p ∷ []) p steps) b.written
            ∙ ap (λ (ss : List (List Taken)). change (λ xs. xs ++ next_taken r t.writers p ∷ []) p ss) b.added
            ∙ ap (λ (x : Taken). change (λ xs. xs ++ x ∷ []) p (map steps_of t.moments)) taken_is
            ∙ sym (steps-change (moment_of setting.program setting.plan t p) p t.moments)
            ∙ ap (λ (x : Telling). map steps_of x.moments) (sym told_is);
      }

-- ---- what the code asks

module _ (setting : Setting) (h : List ℕ) (r : Running) (counts : List ℕ) (writers : List Tag) (steps : List (List Taken)) where
  pub reached : IsValid setting.program → IsValidPlan setting.program setting.plan → setting.budget ≤ MOST_BUDGET → Tells setting h r counts writers steps → IsReached r
  reached v w few b = subst (λ (x : Running). IsReached x) (sym b.world) record {
    program = v;
    plan = w;
    budget = few;
    schedule = h;
    comes = record { runs = b.runs; logs = refl };
  }

  pub few_more : (p : ℕ) → IsValid setting.program → setting.budget ≤ MOST_BUDGET → Tells setting h r counts writers steps → get_or counts p 0 + 1 < 2 ^ 32
  few_more p v few b =
      let within : get_or (map count_events (told setting h).moments) p 0 ≤ MOST_PROCESSES * (MOST_BUDGET + 1) = few_events_at setting p h (told setting h).world v few b.runs in
      let same : get_or counts p 0 ≡ get_or (map count_events (told setting h).moments) p 0 = ap (λ (ks : List ℕ). get_or ks p 0) b.counted in
      omega arith

-- ---- the start

pub none_written : {A : Type 0} (xs : List A) → ◌≡◌ {A = List Tag} (replicate (length xs) None) (map (λ _. None) xs)
none_written [] = refl
none_written (x ∷ xs) = ap (λ (l : List Tag). None ∷ l) (none_written xs)

pub tells_none : (setting : Setting) (n k : ℕ) (r : Running) (counts : List ℕ) (writers : List Tag) (steps : List (List Taken))
    → r ≡ begun setting → n ≡ length setting.program.bodies - setting.program.functions → k ≡ length r.world.shared
    → counts ≡ replicate n 0 → writers ≡ replicate k None → steps ≡ replicate n [] → Tells setting [] r counts writers steps
tells_none setting n k r counts writers steps r_is n_is k_is c_is w_is s_is =
    let ps : List Proc = started_procs setting (length setting.program.bodies - setting.program.functions) in
    let many : n ≡ length ps = n_is ∙ sym (started_count setting 0 (length setting.program.bodies - setting.program.functions)) in
    let cells : k ≡ length setting.program.starts = k_is ∙ ap (λ (x : Running). length x.world.shared) r_is in
    record {
      runs = refl;
      world = r_is;
      counted = c_is ∙ ap (λ (i : ℕ). replicate {A = ℕ} i 0) many ∙ zero_counts ps;
      written = w_is ∙ ap (λ (i : ℕ). replicate {A = Tag} i None) cells ∙ none_written setting.program.starts;
      added = s_is ∙ ap (λ (i : ℕ). replicate {A = List Taken} i []) many ∙ empty_steps ps;
    }
