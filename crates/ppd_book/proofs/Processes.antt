-- Who is stepped, and how long a schedule is.
use Rattle.ppd_model.specs.Setting.{Setting}
use Rattle.std.proofs.Common.{◌≡◌, ℕ, ◌+◌, ◌-◌, ◌*◌, ◌<◌, ◌≤◌, List, length, true, false, subst, arith, inl, inr}
use Rattle.std.proofs.lemmas.Bool.{cases_lt}
use Rattle.ppd_model.specs.Bounds.{SchedulesAreBounded}
use Rattle.ppd_model.specs.World.{can}
use Rattle.ppd_world.specs.Running.{Running, IsHeld, IsReached, can_step}
use Rattle.ppd_world.proofs.Processes.{reached_count, past}
use Rattle.ppd_book.specs.Turns.{KeepsBudget}

-- who can take a step is a process of the program
who_can : (r : Running) → IsReached r → (p : ℕ) → can_step r p ≡ true → p < length r.setting.program.bodies - r.setting.program.functions
who_can r i p can = elim (cases_lt p (length r.world.procs)) [
  | inl lt ↦ omega (arith, lt, reached_count r i)
  | inr le ↦ absurd (let none : can_step r p ≡ false = past r.setting.program r.setting.plan r.world r.world.procs p le in cc)
]

pub of_process : (setting : Setting) (r : Running) (h : List ℕ) → IsHeld setting r h → (p : ℕ) → can_step r p ≡ true → p < length setting.program.bodies - setting.program.functions
of_process setting r h held p can =
    subst (λ (x : Setting). p < length x.program.bodies - x.program.functions) held.is_setting (who_can r held.reached p can)

-- ---- how long a schedule is

-- a schedule that is kept is as long as the budget lets it be
pub keeps_budget : SchedulesAreBounded → (setting : Setting) (r : Running) (h : List ℕ) → IsHeld setting r h → KeepsBudget setting.program setting.budget h
keeps_budget bounded setting r h held =
    let is = bounded r.setting h r.world held.comes.runs in
    let own : KeepsBudget r.setting.program r.setting.budget h = record {
      each = is.each;
      all = subst (λ (n : ℕ). length h ≤ n * (r.setting.budget + 1)) (reached_count r held.reached) is.all;
    } in
    subst (λ (x : Setting). KeepsBudget x.program x.budget h) held.is_setting own
