-- A step of a world that is reached costs what it writes.
use Rattle.ppd_model.specs.Setting.{Setting}
use Rattle.std.proofs.Common.{◌≡◌, ◌≢◌, ℕ, ◌+◌, ◌≤◌, true, List, ◌++◌, length, Some, Result, Ok, Err, OnOk, ap, sym, ◌∙◌, subst, arith}
use Rattle.std.specs.Prelude.{drop, option_map, slice_get}
use Rattle.std.proofs.Math.Seq.{drop-append_seam}
use Rattle.ppd_model.specs.declared.entry.Entry.{Entry}
use Rattle.ppd_sem.specs.declared.proc.Need.TheVariants.{Stopped}
use Rattle.ppd_model.specs.declared.state.Logging.{Logging}
use Rattle.ppd_model.specs.Costs.{CostsWhatItWrites, IsPaid, values_in}
use Rattle.ppd_model.specs.Laws.{logged_moment}
use Rattle.ppd_model.specs.Logs.{entries_of, log_step, loggings}
use Rattle.ppd_model.specs.Story.{Moment, told}
use Rattle.ppd_model.specs.World.{World, need}
use Rattle.ppd_model.proofs.Bounded.{not_stopped}
use Rattle.ppd_model.proofs.Changes.{change-at, some}
use Rattle.ppd_model.proofs.Costs.{steps_cost}
use Rattle.ppd_model.proofs.Stories.{stories_are_of_runs}
use Rattle.ppd_world.specs.Running.{HasPaid, IsPaidStep, IsReached, Running, can_step, stepped}

-- the entries that a log grew by are those of the step
of_log : (setting : Setting) (l : Logging) (m : Moment) → m.taken.need ≢ Stopped → CostsWhatItWrites setting l m → HasPaid setting.budget m.taken.need l (log_step setting.program setting.plan l m)
of_log setting l m runs costs =
    let new : List Entry = entries_of setting.program setting.plan l m in
    let grown : values_in (drop (length l.entries) (l.entries ++ new)) ≡ values_in new = ap values_in (drop-append_seam l.entries new) in
    record {
      cost = λ d.
          let paid : IsPaid setting l m = costs.paid runs d in
          let spent : (log_step setting.program setting.plan l m).proc.spent ≡ l.proc.spent + (1 + values_in new) = paid.cost in
          omega arith;
      within = λ d.
          let paid : IsPaid setting l m = costs.paid runs d in
          let spent : (log_step setting.program setting.plan l m).proc.spent ≡ l.proc.spent + (1 + values_in new) = paid.cost in
          let most : l.proc.spent + (1 + values_in new) ≤ setting.budget = paid.within in
          omega arith;
      free = λ e. (costs.free e).cost;
    }

step_paid : (r : Running) (p : ℕ) → can_step r p ≡ true → IsReached r → IsPaidStep r p (stepped r p)
step_paid r p can h whole l k at grown =
    let m : Moment = logged_moment r.setting.program r.setting.plan r.world p in
    let told_is : (told r.setting h.schedule).world ≡ r.world = stories_are_of_runs r.setting h.schedule r.world h.comes.runs in
    let there : slice_get (loggings r.setting h.schedule) p ≡ Some l = ap (λ ls. slice_get ls p) (sym h.comes.logs) ∙ at in
    let costs : CostsWhatItWrites r.setting l m =
    subst (λ (w : World). CostsWhatItWrites r.setting l (logged_moment r.setting.program r.setting.plan w p)) told_is (steps_cost r.setting h.schedule p l h.program h.plan whole there) in
    let next : log_step r.setting.program r.setting.plan l m ≡ k =
    some (sym (change-at (λ x. log_step r.setting.program r.setting.plan x m) p r.loggings ∙ ap (λ o. option_map (λ x. log_step r.setting.program r.setting.plan x m) o) at) ∙ grown) in
    subst (λ (x : Logging). HasPaid r.setting.budget (need r.setting.program r.setting.plan r.world p) l x) next
    (of_log r.setting l m (not_stopped r.world (need r.setting.program r.setting.plan r.world p) can) costs)

pub paid_by : {E : Type 0} (r : Result (Unit {0}) E) (old now : Running) (p : ℕ) → can_step old p ≡ true → OnOk r (now ≡ stepped old p) → IsReached old → OnOk r (IsPaidStep old p now)
paid_by (Ok u) old now p can e h = subst (λ (x : Running). IsPaidStep old p x) (sym e) (step_paid old p can h)
paid_by (Err x) old now p can e h = tt
