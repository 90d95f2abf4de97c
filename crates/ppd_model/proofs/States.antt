-- The processes of a story by their own steps, and their logs with one more step.
use Rattle.ppd_model.specs.Setting.{Setting}
use Rattle.std.proofs.Common.{◌≡◌, ℕ, zero, suc, ◌+◌, List, [], ◌∷◌, ◌++◌, refl, ap, sym, ◌∙◌, length, map}
use Rattle.std.proofs.lemmas.List.Sums.{fold-append}
use Rattle.std.specs.List.{range_with_len}
use Rattle.std.specs.Prelude.{◌-◌, fold}
use Rattle.ppd_sem.specs.Process.{act, started}
use Rattle.ppd_model.specs.World.{change}
use Rattle.ppd_model.specs.Schedule.{started_world}
use Rattle.ppd_model.specs.Story.{Moment, Story, Taken, Telling, begun, moment_of, steps_of, tell, told}
use Rattle.ppd_model.specs.States.{act_on, state_of, states_from}
use Rattle.ppd_model.specs.FullTrace.{Tracing, begun_tracing, trace_step}
use Rattle.ppd_model.specs.Logs.{Logging, begun_log, log_of, log_step}
use Rattle.ppd_model.proofs.LogWords.{logs_from}
use Rattle.ppd_model.specs.Intervals.{Split, begun_split, split_step}
use Rattle.ppd_model.specs.Laws.{HasOneState, LogsGrow, ProcessesFollowTheirSteps}
use Rattle.ppd_model.proofs.Stories.{steps-change, told-append}

module _ (setting : Setting) where
  -- ---- the world's processes

  states-change : (x : Taken) (q p : ℕ) (steps : List (List Taken)) → states_from setting p (change (λ xs. xs ++ x ∷ []) q steps) ≡ change (λ s. act setting.program setting.plan s x.answer) q (states_from setting p steps)
  states-change x q p [] = refl
  states-change x zero p (xs ∷ rest) = ap (λ s. s ∷ states_from setting (p + 1) rest) (fold-append (act_on setting.program setting.plan) (started setting.program setting.plan p setting.budget) xs (x ∷ []))
  states-change x (suc q) p (xs ∷ rest) = ap (λ ss. state_of setting p xs ∷ ss) (states-change x q (p + 1) rest)

  pub states-begun : (p n : ℕ) → states_from setting p (map steps_of (map (λ _. []) (map (λ q. started setting.program setting.plan q setting.budget) (range_with_len p n)))) ≡ map (λ q. started setting.program setting.plan q setting.budget) (range_with_len p n)
  states-begun p zero = refl
  states-begun p (suc n) = ap (λ ss. started setting.program setting.plan p setting.budget ∷ ss) (states-begun (p + 1) n)

  pub states-tell : (t : Telling) (p : ℕ) → t.world.procs ≡ states_from setting 0 (map steps_of t.moments)
      → (tell setting.program setting.plan t p).world.procs ≡ states_from setting 0 (map steps_of (tell setting.program setting.plan t p).moments)
  states-tell t p e =
      let m : Moment = moment_of setting.program setting.plan t p in
      ap (λ ss. change (λ s. act setting.program setting.plan s m.taken.answer) p ss) e ∙ sym (states-change m.taken p 0 (map steps_of t.moments))
      ∙ ap (λ xs. states_from setting 0 xs) (sym (steps-change m p t.moments))

  states-fold : (t : Telling) (h : List ℕ) → t.world.procs ≡ states_from setting 0 (map steps_of t.moments)
      → (fold (tell setting.program setting.plan) t h).world.procs ≡ states_from setting 0 (map steps_of (fold (tell setting.program setting.plan) t h).moments)
  states-fold t [] e = e
  states-fold t (p ∷ h) e = states-fold (tell setting.program setting.plan t p) h (states-tell t p e)

  pub states_told : (h : List ℕ) → (told setting h).world.procs ≡ states_from setting 0 (map steps_of (told setting h).moments)
  states_told h = states-fold (begun (started_world setting)) h (sym (states-begun 0 (length setting.program.bodies - setting.program.functions)))

  -- ---- traces, intervals and logs

  traced : (s : Story) (p : ℕ) (t : Tracing) (steps : List Taken) → (fold (trace_step setting.program setting.plan s p) t steps).proc ≡ fold (act_on setting.program setting.plan) t.proc steps
  traced s p t [] = refl
  traced s p t (x ∷ xs) = traced s p (trace_step setting.program setting.plan s p t x) xs

  split : (s : Story) (p : ℕ) (x : Split) (steps : List Taken) → (fold (split_step setting.program setting.plan s p) x steps).trace ≡ fold (trace_step setting.program setting.plan s p) x.trace steps
  split s p x [] = refl
  split s p x (y ∷ ys) = split s p (split_step setting.program setting.plan s p x y) ys

  log_proc : (l : Logging) (ms : List Moment) → (fold (log_step setting.program setting.plan) l ms).proc ≡ fold (act_on setting.program setting.plan) l.proc (steps_of ms)
  log_proc l [] = refl
  log_proc l (m ∷ ms) = log_proc (log_step setting.program setting.plan l m) ms

  pub logged : (p : ℕ) (moments : List (List Moment)) → map (λ l. l.proc) (logs_from setting p moments) ≡ states_from setting p (map steps_of moments)
  logged p [] = refl
  logged p (ms ∷ rest) =
      ap (λ s. s ∷ map (λ l. l.proc) (logs_from setting (p + 1) rest)) (log_proc (begun_log setting p) ms)
      ∙ ap (λ ss. state_of setting p (steps_of ms) ∷ ss) (logged (p + 1) rest)

  pub one_state : (h : List ℕ) → HasOneState setting h
  one_state h = record {
    worlds = states_told h;
    logged = logged 0 (told setting h).moments;
    traced = λ s p steps. traced s p (begun_tracing (started setting.program setting.plan p setting.budget)) steps;
    split = λ s p steps. split s p (begun_split setting.program setting.plan p (started setting.program setting.plan p setting.budget)) steps;
  }

  -- ---- one more step of a log

  pub logs-change : (m : Moment) (q p : ℕ) (moments : List (List Moment)) → logs_from setting p (change (λ ms. ms ++ m ∷ []) q moments) ≡ change (λ l. log_step setting.program setting.plan l m) q (logs_from setting p moments)
  logs-change m q p [] = refl
  logs-change m zero p (ms ∷ rest) = ap (λ l. l ∷ logs_from setting (p + 1) rest) (fold-append (log_step setting.program setting.plan) (begun_log setting p) ms (m ∷ []))
  logs-change m (suc q) p (ms ∷ rest) = ap (λ ls. log_of setting p ms ∷ ls) (logs-change m q (p + 1) rest)

pub follow : ProcessesFollowTheirSteps
follow setting h = one_state setting h

pub logs_grow : LogsGrow
logs_grow setting h p =
    ap (λ t. logs_from setting 0 t.moments) (told-append setting h p)
    ∙ logs-change setting (moment_of setting.program setting.plan (told setting h) p) p 0 (told setting h).moments
