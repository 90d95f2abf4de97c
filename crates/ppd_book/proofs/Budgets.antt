-- Each process of a world that is reached has the budget of the run, and runs in its program.
use Rattle.ppd_model.specs.Setting.{Setting}
use Rattle.std.specs.Prelude.{fold, slice_get}
use Rattle.std.proofs.Common.{◌≡◌, ℕ, zero, suc, ◌+◌, ◌≤◌, List, [], ◌∷◌, Some, refl, ap, sym, ◌∙◌, subst, arith}
use Rattle.ppd_sem.specs.declared.proc.Answer.{Answer}
use Rattle.ppd_sem.specs.declared.proc.Proc.{Proc}
use Rattle.ppd_sem.specs.Process.{act}
use Rattle.ppd_sem.specs.Runs.{IsRunning}
use Rattle.ppd_sem.proofs.Progress.{IsWithinBudget, act-within}
use Rattle.ppd_model.specs.declared.state.Logging.{Logging}
use Rattle.ppd_model.specs.Logs.{begun_log, log_step, loggings}
use Rattle.ppd_model.proofs.LogWords.{logs_from}
use Rattle.ppd_model.specs.Story.{Moment, told}
use Rattle.ppd_model.proofs.Changes.{some}
use Rattle.ppd_model.proofs.Lists.{every_at}
use Rattle.ppd_world.specs.Running.{IsReached, Running}
use Rattle.ppd_world.proofs.Plain.{got_map}
use Rattle.ppd_world.proofs.Sound.{IsSoundLogging, reached_sound}

-- a process of this budget, which is not overspent
record HasBudget (budget : ℕ) (s : Proc) : Type 0 where
  pub limit : s.budget ≡ budget
  pub spent : s.spent ≤ s.budget

module _ (setting : Setting) where
  budget_act : (s : Proc) (a : Answer) → HasBudget setting.budget s → HasBudget setting.budget (act setting.program setting.plan s a)
  budget_act s a h =
      let within : IsWithinBudget s (act setting.program setting.plan s a) = act-within setting.program setting.plan s a h.spent in
      record { limit = within.budget ∙ h.limit; spent = within.spent }

  budget_fold : (l : Logging) (ms : List Moment) → HasBudget setting.budget l.proc → HasBudget setting.budget (fold (log_step setting.program setting.plan) l ms).proc
  budget_fold l [] h = h
  budget_fold l (m ∷ ms) h = budget_fold (log_step setting.program setting.plan l m) ms (budget_act l.proc m.taken.answer h)

  budget_begun : (p : ℕ) → HasBudget setting.budget (begun_log setting p).proc
  budget_begun p = record { limit = refl; spent = omega arith }

  budget_logs : (p : ℕ) (moments : List (List Moment)) (i : ℕ) (l : Logging) → slice_get (logs_from setting p moments) i ≡ Some l → HasBudget setting.budget l.proc
  budget_logs p [] i l e = absurd (cc e)
  budget_logs p (ms ∷ rest) zero l e = subst (λ (x : Logging). HasBudget setting.budget x.proc) (some e) (budget_fold (begun_log setting p) ms (budget_begun p))
  budget_logs p (ms ∷ rest) (suc i) l e = budget_logs (p + 1) rest i l e

-- the log of a process that is there
own_log : (r : Running) (p : ℕ) (s : Proc) → IsReached r → slice_get r.world.procs p ≡ Some s → (l : Logging) × (slice_get r.loggings p ≡ Some l) × (l.proc ≡ s)
own_log r p s h e = got_map (λ (l : Logging). l.proc) p r.loggings s (ap (λ (ps : List Proc). slice_get ps p) (reached_sound r h).same ∙ e)

pub of_budget : (r : Running) (p : ℕ) (s : Proc) → IsReached r → slice_get r.world.procs p ≡ Some s → s.budget ≡ r.setting.budget
of_budget r p s h e =
    let own = own_log r p s h e in
    let there : slice_get (loggings r.setting h.schedule) p ≡ Some own.0 = ap (λ (ls : List Logging). slice_get ls p) (sym h.comes.logs) ∙ own.1 in
    ap (λ (x : Proc). x.budget) (sym own.2) ∙ (budget_logs r.setting 0 (told r.setting h.schedule).moments p own.0 there).limit

pub of_running : (r : Running) (p : ℕ) (s : Proc) → IsReached r → slice_get r.world.procs p ≡ Some s → IsRunning r.setting.program s
of_running r p s h e =
    let own = own_log r p s h e in
    let sound : IsSoundLogging r.setting.program own.0 = every_at (IsSoundLogging r.setting.program) r.loggings p own.0 (reached_sound r h).logs own.1 in
    subst (λ (x : Proc). IsRunning r.setting.program x) own.2 sound.proc
