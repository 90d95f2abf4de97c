-- What holds in each world that a schedule comes to.
use Rattle.ppd_model.specs.Setting.{Setting}
use Rattle.std.proofs.Common.{◌≡◌, ℕ, ℤ, zero, suc, ◌+◌, ◌-◌, ◌*◌, ◌<◌, ◌≤◌, true, List, [], ◌∷◌, ◌++◌, length, map, Option, Some, refl, ap, sym, ◌∙◌, subst, arith, length-append}
use Rattle.std.specs.Prelude.{fold, slice_get}
use Rattle.std.specs.List.{AllByRecursion as Each, range_with_len}
use Rattle.std.proofs.lemmas.Bool.Decides.{nat_tests}
use Rattle.std.proofs.lemmas.Nat.{mul-le}
use Rattle.ppd_ast.specs.Valid.{IsValid}
use Rattle.ppd_ast.specs.declared.plan.Plan.{Plan}
use Rattle.ppd_ast.specs.declared.program.Chan.{Chan}
use Rattle.ppd_ast.specs.declared.program.Program.{Program}
use Rattle.ppd_ast.specs.declared.program.Sem.{Sem}
use Rattle.ppd_ast.specs.declared.limits.TheConstants.{MOST_BUDGET, MOST_PROCESSES, MOST_START}
use Rattle.ppd_model.specs.declared.entry.Entry.{Entry}
use Rattle.ppd_sem.specs.declared.proc.Need.{Need}
use Rattle.ppd_sem.specs.declared.proc.Need.TheVariants.{Write, P, V, Send, Offer, Done, Recv}
use Rattle.ppd_sem.specs.declared.proc.Proc.{Proc}
use Rattle.ppd_sem.specs.Measure.{measure}
use Rattle.ppd_sem.specs.Process.{act, need_of}
use Rattle.ppd_sem.specs.Runs.{IsRunnable, IsRunning}
use Rattle.ppd_sem.proofs.Kept.{act-runs}
use Rattle.ppd_sem.proofs.Progress.{act-falls}
use Rattle.ppd_sem.proofs.Starts.{started_runs}
use Rattle.ppd_sem.proofs.Validity.{valid-runnable}
use Rattle.ppd_model.specs.declared.state.Channel.{Channel}
use Rattle.ppd_model.specs.declared.state.Counts.{Counts}
use Rattle.ppd_model.specs.declared.state.Logging.{Logging}
use Rattle.ppd_model.specs.Bounds.{steps_left}
use Rattle.ppd_model.specs.Laws.{logged_moment}
use Rattle.ppd_model.specs.Logs.{begun_log, entries_of, log_step, loggings, rest_after}
use Rattle.ppd_model.proofs.LogWords.{logs_from}
use Rattle.ppd_model.specs.Schedule.{run, run_from, started_world}
use Rattle.ppd_model.proofs.WorldWords.{can_complete, can_receive, can_take, need_at, started_procs}
use Rattle.ppd_model.specs.Story.{Moment, Telling, begun, moment_of, tell, told}
use Rattle.ppd_model.specs.World.{World, answer, can, change, effect, need, step}
use Rattle.ppd_model.proofs.Bounded.{ArePaid, Goes, all_falls, goes, not_stopped, started_all}
use Rattle.ppd_model.proofs.States.{logs-change}
use Rattle.ppd_model.proofs.Stories.{stories_are_of_runs}
use Rattle.ppd_model.proofs.Earlier.{each_more}
use Rattle.ppd_model.proofs.Lists.{map_change, map_get}
use Rattle.ppd_world.specs.Running.{IsReached, Running, begun as begun_running, can_step, stepped}
use Rattle.ppd_world.proofs.Begun.{logs_begun, procs_begun}
use Rattle.ppd_world.proofs.Lists.{all_every, every_change}

-- the greatest initial value of a semaphore and all steps of 16 processes
abbrev pub most : ℕ
most = 8065551

-- a process of the program, whose steps since its last entry and those to come are within the budget
pub record IsSoundLogging (program : Program) (l : Logging) : Type 0 where
  pub proc : IsRunning program l.proc
  pub rest : l.rest + measure l.proc ≤ MOST_BUDGET + 1

-- each semaphore can still be given by all steps that are left
pub record IsSoundSem (left : ℕ) (x : Counts) : Type 0 where
  pub given : x.given + left ≤ most
  pub taken : x.taken ≤ x.given

-- the same of a channel
pub record IsSoundChan (left : ℕ) (x : Channel) : Type 0 where
  pub sent : length x.sent + left ≤ most
  pub received : x.received ≤ length x.sent
  pub completed : x.completed ≤ x.received

pub record IsSound (r : Running) : Type 0 where
  pub same : map (λ l. l.proc) r.loggings ≡ r.world.procs
  pub logs : Each (IsSoundLogging r.setting.program) r.loggings
  pub sems : Each (IsSoundSem (steps_left r.world.procs)) r.world.sems
  pub chans : Each (IsSoundChan (steps_left r.world.procs)) r.world.chans
  pub few : steps_left r.world.procs ≤ most

-- ---- a step

rest_le : (rest : ℕ) (es : List Entry) → rest_after rest es ≤ rest + 1
rest_le rest [] = omega arith
rest_le rest (e ∷ es) = omega arith

paid_of : (program : Program) (ls : List Logging) → Each (IsSoundLogging program) ls → ArePaid (map (λ l. l.proc) ls)
paid_of program [] h = tt
paid_of program (l ∷ ls) h = (h.0.proc.spent, paid_of program ls h.1)

fewer_sem : (j k : ℕ) (x : Counts) → k ≤ j → IsSoundSem j x → IsSoundSem k x
fewer_sem j k x h s = let given : x.given + j ≤ most = s.given in record { given = omega arith; taken = s.taken }

fewer_chan : (j k : ℕ) (x : Channel) → k ≤ j → IsSoundChan j x → IsSoundChan k x
fewer_chan j k x h s = let sent : length x.sent + j ≤ most = s.sent in record { sent = omega arith; received = s.received; completed = s.completed }

taken_sound : (j k : ℕ) (x : Counts) → k + 1 ≤ j → can_take (Some x) ≡ true → IsSoundSem j x → IsSoundSem k (record x { taken = x.taken + 1 })
taken_sound j k x h e s =
    let given : x.given + j ≤ most = s.given in
    let less : x.taken < x.given = grind (arith, nat_tests) in
    record { given = omega arith; taken = omega arith }

given_sound : (j k : ℕ) (x : Counts) → k + 1 ≤ j → IsSoundSem j x → IsSoundSem k (record x { given = x.given + 1 })
given_sound j k x h s =
    let given : x.given + j ≤ most = s.given in
    let taken : x.taken ≤ x.given = s.taken in
    record { given = omega arith; taken = omega arith }

sent_sound : (j k : ℕ) (x : Channel) (v : ℤ) → k + 1 ≤ j → IsSoundChan j x → IsSoundChan k (record x { sent = x.sent ++ v ∷ [] })
sent_sound j k x v h s =
    let sent : length x.sent + j ≤ most = s.sent in
    let received : x.received ≤ length x.sent = s.received in
    let more : length (x.sent ++ v ∷ []) ≡ length x.sent + 1 = length-append x.sent (v ∷ []) in
    record { sent = omega arith; received = omega arith; completed = s.completed }

received_sound : (j k : ℕ) (x : Channel) → k + 1 ≤ j → can_receive (Some x) ≡ true → IsSoundChan j x → IsSoundChan k (record x { received = x.received + 1 })
received_sound j k x h e s =
    let sent : length x.sent + j ≤ most = s.sent in
    let less : x.received < length x.sent = grind (arith, nat_tests) in
    let within : x.completed ≤ x.received = s.completed in
    record { sent = omega arith; received = omega arith; completed = omega arith }

completed_sound : (j k : ℕ) (x : Channel) → k + 1 ≤ j → can_complete (Some x) ≡ true → IsSoundChan j x → IsSoundChan k (record x { completed = x.completed + 1 })
completed_sound j k x h e s =
    let sent : length x.sent + j ≤ most = s.sent in
    let less : x.completed < x.received = grind (arith, nat_tests) in
    record { sent = omega arith; received = s.received; completed = omega arith }

module _ (w : World) (j k : ℕ) (less : k + 1 ≤ j) where
  weak_sem : (x : Counts) → IsSoundSem j x → IsSoundSem k x
  weak_sem x h = fewer_sem j k x (omega arith) h

  weak_chan : (x : Channel) → IsSoundChan j x → IsSoundChan k x
  weak_chan x h = fewer_chan j k x (omega arith) h

  sems_sound : (n : Need) → can w n ≡ true → Each (IsSoundSem j) w.sems → Each (IsSoundSem k) (effect w n).sems
  sems_sound (P s u) e h = every_change (IsSoundSem j) (IsSoundSem k) (λ x. record x { taken = x.taken + 1 }) s w.sems weak_sem (λ x is b. taken_sound j k x less (sym (ap can_take is) ∙ e) b) h
  sems_sound (V s u) e h = every_change (IsSoundSem j) (IsSoundSem k) (λ x. record x { given = x.given + 1 }) s w.sems weak_sem (λ x is b. given_sound j k x less b) h
  sems_sound (Write c v) e h = each_more (IsSoundSem j) (IsSoundSem k) w.sems weak_sem h
  sems_sound (Send c v u) e h = each_more (IsSoundSem j) (IsSoundSem k) w.sems weak_sem h
  sems_sound (Offer c v) e h = each_more (IsSoundSem j) (IsSoundSem k) w.sems weak_sem h
  sems_sound (Done c u) e h = each_more (IsSoundSem j) (IsSoundSem k) w.sems weak_sem h
  sems_sound (Recv c u) e h = each_more (IsSoundSem j) (IsSoundSem k) w.sems weak_sem h
  sems_sound n e h = each_more (IsSoundSem j) (IsSoundSem k) w.sems weak_sem h

  chans_sound : (n : Need) → can w n ≡ true → Each (IsSoundChan j) w.chans → Each (IsSoundChan k) (effect w n).chans
  chans_sound (Send c v u) e h = every_change (IsSoundChan j) (IsSoundChan k) (λ x. record x { sent = x.sent ++ v ∷ [] }) c w.chans weak_chan (λ x is b. sent_sound j k x v less b) h
  chans_sound (Offer c v) e h = every_change (IsSoundChan j) (IsSoundChan k) (λ x. record x { sent = x.sent ++ v ∷ [] }) c w.chans weak_chan (λ x is b. sent_sound j k x v less b) h
  chans_sound (Done c u) e h = every_change (IsSoundChan j) (IsSoundChan k) (λ x. record x { completed = x.completed + 1 }) c w.chans weak_chan (λ x is b. completed_sound j k x less (sym (ap can_complete is) ∙ e) b) h
  chans_sound (Recv c u) e h = every_change (IsSoundChan j) (IsSoundChan k) (λ x. record x { received = x.received + 1 }) c w.chans weak_chan (λ x is b. received_sound j k x less (sym (ap can_receive is) ∙ e) b) h
  chans_sound (Write c v) e h = each_more (IsSoundChan j) (IsSoundChan k) w.chans weak_chan h
  chans_sound (P s u) e h = each_more (IsSoundChan j) (IsSoundChan k) w.chans weak_chan h
  chans_sound (V s u) e h = each_more (IsSoundChan j) (IsSoundChan k) w.chans weak_chan h
  chans_sound n e h = each_more (IsSoundChan j) (IsSoundChan k) w.chans weak_chan h

logging_sound : (program : Program) (plan : Plan) (w : World) (l : Logging) (x : Moment) → IsRunnable program → can w (need_of program plan l.proc) ≡ true → IsSoundLogging program l → IsSoundLogging program (log_step program plan l x)
logging_sound program plan w l x run e h =
    let falls : measure (act program plan l.proc x.taken.answer) < measure l.proc = act-falls program plan l.proc x.taken.answer (not_stopped w (need_of program plan l.proc) e) h.proc.spent in
    let rest : (log_step program plan l x).rest ≤ l.rest + 1 = rest_le l.rest (entries_of program plan l x) in
    let within : l.rest + measure l.proc ≤ MOST_BUDGET + 1 = h.rest in
    record { proc = act-runs program plan l.proc x.taken.answer run h.proc; rest = omega arith }

pub left_less : (r : Running) (p : ℕ) → can_step r p ≡ true → IsSound r → steps_left (stepped r p).world.procs + 1 ≤ steps_left r.world.procs
left_less r p e s =
    let paid : ArePaid r.world.procs = subst (λ (ps : List Proc). ArePaid ps) s.same (paid_of r.setting.program r.loggings s.logs) in
    all_falls r.setting.program r.setting.plan r.world (answer r.world (need r.setting.program r.setting.plan r.world p)) p r.world.procs paid e

pub step_sound : (r : Running) (p : ℕ) → IsRunnable r.setting.program → can_step r p ≡ true → IsSound r → IsSound (stepped r p)
step_sound r p run e s =
    let n : Need = need r.setting.program r.setting.plan r.world p in
    let x : Moment = logged_moment r.setting.program r.setting.plan r.world p in
    let less : steps_left (stepped r p).world.procs + 1 ≤ steps_left r.world.procs = left_less r p e s in
    let few : steps_left r.world.procs ≤ most = s.few in
    let at : (l : Logging) → slice_get r.loggings p ≡ Some l → can r.world (need_of r.setting.program r.setting.plan l.proc) ≡ true =
    λ l is. let found : slice_get r.world.procs p ≡ Some l.proc = ap (λ (ps : List Proc). slice_get ps p) (sym s.same) ∙ map_get (λ (y : Logging). y.proc) r.loggings p l is in
    sym (ap (λ (o : Option Proc). can r.world (need_at r.setting.program r.setting.plan o)) found) ∙ e in
    record {
      same = map_change (λ l. l.proc) (λ l. log_step r.setting.program r.setting.plan l x) (λ t. act r.setting.program r.setting.plan t x.taken.answer) p r.loggings (λ l. refl) ∙ ap (λ (ps : List Proc). change (λ t. act r.setting.program r.setting.plan t x.taken.answer) p ps) s.same;
      logs = every_change (IsSoundLogging r.setting.program) (IsSoundLogging r.setting.program) (λ l. log_step r.setting.program r.setting.plan l x) p r.loggings (λ l h. h) (λ l is h. logging_sound r.setting.program r.setting.plan r.world l x run (at l is) h) s.logs;
      sems = sems_sound r.world (steps_left r.world.procs) (steps_left (stepped r p).world.procs) less n e s.sems;
      chans = chans_sound r.world (steps_left r.world.procs) (steps_left (stepped r p).world.procs) less n e s.chans;
      few = omega arith;
    }

-- ---- the start

logs_sound : (setting : Setting) (p n : ℕ) → IsRunnable setting.program → setting.budget ≤ MOST_BUDGET → setting.program.functions + (p + n) ≤ length setting.program.bodies → Each (IsSoundLogging setting.program) (map (λ q. begun_log setting q) (range_with_len p n))
logs_sound setting p zero run few lt = tt
logs_sound setting p (suc n) run few lt = (
  record { proc = started_runs setting.program (setting.program.functions + p) setting.budget run (omega arith) (omega arith); rest = omega arith },
  logs_sound setting (p + 1) n run few (omega arith),
)

sems_begun : (left : ℕ) (sems : List Sem) → left ≤ MOST_PROCESSES * (MOST_BUDGET + 1) → Each (λ s. s.start ≤ MOST_START) sems → Each (IsSoundSem left) (map (λ s. record { given = s.start; taken = 0 }) sems)
sems_begun left [] few h = tt
sems_begun left (s ∷ ss) few h = let start : s.start ≤ MOST_START = h.0 in (record { given = omega arith; taken = omega arith }, sems_begun left ss few h.1)

chans_begun : (left : ℕ) (chans : List Chan) → left ≤ MOST_PROCESSES * (MOST_BUDGET + 1) → Each (IsSoundChan left) (map (λ c. record { capacity = c.capacity; sent = []; received = 0; completed = 0 }) chans)
chans_begun left [] few = tt
chans_begun left (c ∷ cs) few = (record { sent = omega arith; received = omega arith; completed = omega arith }, chans_begun left cs few)

few_steps : (n budget : ℕ) → n ≤ MOST_PROCESSES → budget ≤ MOST_BUDGET → n * (budget + 1) ≤ MOST_PROCESSES * (MOST_BUDGET + 1)
few_steps n budget h k = mul-le n (budget + 1) MOST_PROCESSES (MOST_BUDGET + 1) h (omega arith)

pub begun_sound : (setting : Setting) → IsValid setting.program → setting.budget ≤ MOST_BUDGET → IsSound (begun_running setting)
begun_sound setting v h =
    let n : ℕ = length setting.program.bodies - setting.program.functions in
    let run : IsRunnable setting.program = valid-runnable setting.program v in
    let process : setting.program.functions < length setting.program.bodies = v.limits.process in
    let processes : length setting.program.bodies ≤ setting.program.functions + MOST_PROCESSES = v.limits.processes in
    let left : steps_left (started_procs setting n) ≡ n * (setting.budget + 1) = started_all setting 0 n in
    let few : n * (setting.budget + 1) ≤ MOST_PROCESSES * (MOST_BUDGET + 1) = few_steps n setting.budget (omega arith) h in
    let logs : loggings setting [] ≡ map (λ q. begun_log setting q) (range_with_len 0 n) = logs_begun setting 0 n in
    let starts : Each (λ (s : Sem). s.start ≤ MOST_START) setting.program.sems = all_every (λ (s : Sem). s.start ≤ MOST_START) setting.program.sems (λ i d lt. (v.limits.sems i d lt).1) in
    record {
      same = ap (λ (ls : List Logging). map (λ l. l.proc) ls) logs ∙ procs_begun setting 0 n;
      logs = subst (λ (ls : List Logging). Each (IsSoundLogging setting.program) ls) (sym logs) (logs_sound setting 0 n run h (omega arith));
      sems = sems_begun (steps_left (started_procs setting n)) setting.program.sems (omega arith) starts;
      chans = chans_begun (steps_left (started_procs setting n)) setting.program.chans (omega arith);
      few = omega arith;
    }

-- ---- schedules

module _ (setting : Setting) where
  -- the world and the logs of what is told
  abbrev telling : Telling → Running
  telling t = record { setting = setting; world = t.world; loggings = logs_from setting 0 t.moments }

  with_logs : (w : World) (ls ls' : List Logging) → ls ≡ ls' → IsSound (record { setting = setting; world = w; loggings = ls }) → IsSound (record { setting = setting; world = w; loggings = ls' })
  with_logs w ls ls' e s = subst (λ (l : List Logging). IsSound (record { setting = setting; world = w; loggings = l })) e s

  with_world : (w w' : World) (ls : List Logging) → w ≡ w' → IsSound (record { setting = setting; world = w; loggings = ls }) → IsSound (record { setting = setting; world = w'; loggings = ls })
  with_world w w' ls e s = subst (λ (x : World). IsSound (record { setting = setting; world = x; loggings = ls })) e s

  told_sound : (t : Telling) (h : List ℕ) (last : World) → IsRunnable setting.program → IsSound (telling t) → run_from setting.program setting.plan t.world h ≡ Some last → IsSound (telling (fold (tell setting.program setting.plan) t h))
  told_sound t [] last run s e = s
  told_sound t (p ∷ h) last run s e =
      let g : Goes setting.program setting.plan t.world last p h = goes setting.program setting.plan t.world last p h e in
      let one : IsSound (stepped (telling t) p) = step_sound (telling t) p run g.enables s in
      let next : IsSound (telling (tell setting.program setting.plan t p)) =
      with_logs (step setting.program setting.plan t.world p) (change (λ l. log_step setting.program setting.plan l (logged_moment setting.program setting.plan t.world p)) p (logs_from setting 0 t.moments)) (logs_from setting 0 (tell setting.program setting.plan t p).moments)
      (sym (logs-change setting (moment_of setting.program setting.plan t p) p 0 t.moments)) one in
      told_sound (tell setting.program setting.plan t p) h last run next g.rest

pub reached_sound : (r : Running) → IsReached r → IsSound r
reached_sound r h =
    let last : IsSound (telling r.setting (told r.setting h.schedule)) =
    told_sound r.setting (begun (started_world r.setting)) h.schedule r.world (valid-runnable r.setting.program h.program) (begun_sound r.setting h.program h.budget) h.comes.runs in
    with_logs r.setting r.world (loggings r.setting h.schedule) r.loggings (sym h.comes.logs)
    (with_world r.setting (told r.setting h.schedule).world r.world (loggings r.setting h.schedule) (stories_are_of_runs r.setting h.schedule r.world h.comes.runs) last)
