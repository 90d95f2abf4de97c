-- The processes of a world that was reached: how many there are, and which of them can take a step.
use Rattle.std.specs.Prelude.{slice_get}
use Rattle.std.proofs.Common.{◌≡◌, ℕ, zero, suc, ◌-◌, ◌<◌, ◌≤◌, List, [], ◌∷◌, length, Some, None, true, false, cond, refl, sym, ◌∙◌, ap, arith, inl, inr}
use Rattle.std.proofs.lemmas.Bool.{cases_lt}
use Rattle.std.proofs.lemmas.List.FromFn.{length-map-range_with_len}
use Rattle.ppd_ast.specs.declared.program.Program.{Program}
use Rattle.ppd_ast.specs.declared.plan.Plan.{Plan}
use Rattle.ppd_sem.specs.declared.proc.Proc.{Proc}
use Rattle.ppd_sem.specs.Process.{started}
use Rattle.ppd_model.specs.Schedule.{IsOver, run_from, started_world}
use Rattle.ppd_model.specs.World.{World, can, enabled, step}
use Rattle.ppd_model.proofs.WorldWords.{need_at}
use Rattle.ppd_model.proofs.Changes.{length-change}
use Rattle.ppd_world.specs.Running.{Running, IsReached, can_step}

step_keeps : (program : Program) (plan : Plan) (w : World) (p : ℕ) → length (step program plan w p).procs ≡ length w.procs
step_keeps program plan w p = length-change _ p w.procs

run_keeps : (program : Program) (plan : Plan) (w v : World) (h : List ℕ) → run_from program plan w h ≡ Some v → length v.procs ≡ length w.procs
run_keeps program plan w v [] e = let same : w ≡ v = cc in ap (λ (u : World). length u.procs) (sym same)
run_keeps program plan w v (p ∷ h) e =
    (elim (enabled program plan w p) as (λ b. cond b (run_from program plan (step program plan w p) h) None ≡ Some v → length v.procs ≡ length w.procs) [
      | true ↦ λ r. run_keeps program plan (step program plan w p) v h r ∙ step_keeps program plan w p
      | false ↦ λ r. absurd (cc)
    ]) e

pub past : (program : Program) (plan : Plan) (w : World) (ps : List Proc) (q : ℕ) → length ps ≤ q → can w (need_at program plan (slice_get ps q)) ≡ false
past program plan w [] q h = refl
past program plan w (s ∷ ps) zero h = absurd (omega arith)
past program plan w (s ∷ ps) (suc q) h = past program plan w ps q (omega arith)

-- where none of them can take a step, nobody can
pub none_of_all : (r : Running) → ((q : ℕ) → q < length r.world.procs → can_step r q ≡ false) → IsOver r.setting.program r.setting.plan r.world
none_of_all r none = record {
  nobody = λ q. elim (cases_lt q (length r.world.procs)) [ inl lt ↦ none q lt | inr le ↦ past r.setting.program r.setting.plan r.world r.world.procs q le ];
}

-- there are as many as the program has processes
pub reached_count : (r : Running) → IsReached r → length r.world.procs ≡ length r.setting.program.bodies - r.setting.program.functions
reached_count r i =
    run_keeps r.setting.program r.setting.plan (started_world r.setting) r.world i.schedule i.comes.runs
    ∙ length-map-range_with_len (λ p. started r.setting.program r.setting.plan p r.setting.budget) 0 (length r.setting.program.bodies - r.setting.program.functions)
