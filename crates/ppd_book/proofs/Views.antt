-- Views: how they begin, go on and are committed.
use Rattle.ppd_model.specs.Setting.{Setting}
use Rattle.std.specs.Prelude.{slice_get}
use Rattle.std.proofs.Common.{◌≡◌, ℕ, zero, suc, ◌+◌, ◌-◌, ◌<◌, List, length, Option, Some, ap, sym, ◌∙◌, subst, arith}
use Rattle.std.proofs.lemmas.Option.{slice_get_within}
use Rattle.ppd_ast.specs.declared.plan.Plan.{Plan}
use Rattle.ppd_ast.specs.declared.program.Program.{Program}
use Rattle.ppd_sem.specs.declared.proc.Answer.TheVariants.{Go}
use Rattle.ppd_sem.specs.declared.proc.Need.{Need}
use Rattle.ppd_sem.specs.declared.proc.Need.TheVariants.{Plain}
use Rattle.ppd_sem.specs.declared.proc.Proc.{Proc}
use Rattle.ppd_sem.specs.Printed.{unprinted}
use Rattle.ppd_sem.specs.Process.{act, need_of}
use Rattle.ppd_sem.specs.Runs.{IsNumbered, IsRunnable, IsRunning}
use Rattle.ppd_sem.proofs.Printed.{need_unprinted}
use Rattle.ppd_model.specs.World.{need}
use Rattle.ppd_model.proofs.WorldWords.{need_at}
use Rattle.ppd_world.specs.Plain.{GoesPlainly}
use Rattle.ppd_world.specs.Running.{IsHeld, Running}
use Rattle.ppd_world.proofs.Processes.{reached_count}
use Rattle.ppd_world.proofs.Reached.{numbered, runnable}
use Rattle.ppd_book.specs.declared.view.TheConstants.{MOST_VIEW_STEPS}
use Rattle.ppd_book.specs.Views.{HasMore, IsView, Seen}
use Rattle.ppd_book.proofs.Budgets.{of_budget, of_running}

-- ---- one step more

goes_more : (program : Program) (plan : Plan) (n : ℕ) (s t : Proc) → GoesPlainly program plan s n t → need_of program plan t ≡ Plain → GoesPlainly program plan s (suc n) (act program plan t Go)
goes_more program plan zero s t g e = (ap (λ (x : Proc). need_of program plan x) g ∙ e, ap (λ (x : Proc). act program plan x Go) g)
goes_more program plan (suc n) s t g e = (g.0, goes_more program plan n (act program plan s Go) t g.1 e)

pub view_advanced : (setting : Setting) (p : Program) (q : Plan) (n : Need) (v : Seen) → IsView setting p q n v → HasMore setting.program setting.plan v
    → (next : Proc) → next ≡ act p q v.after Go → IsRunning p next → (then : Need) → then ≡ need_of p q next → IsView setting p q then (record v { after = next; count = v.count + 1 })
view_advanced setting p q n v is can next e running then need =
    let same : next ≡ act setting.program setting.plan v.after Go = e ∙ ap (λ (x : Program). act x q v.after Go) is.is_program ∙ ap (λ (x : Plan). act setting.program x v.after Go) is.is_plan in
    let more : suc v.count ≡ v.count + 1 = omega arith in
    let few : v.count < MOST_VIEW_STEPS = can.few in
    record {
      is_program = is.is_program;
      is_plan = is.is_plan;
      runnable = is.runnable;
      numbered = is.numbered;
      worker = is.worker;
      running = running;
      is_budget = is.is_budget;
      is_unprinted = is.is_unprinted;
      goes = subst (λ (n : ℕ). GoesPlainly setting.program setting.plan v.before n next) more
          (subst (λ (x : Proc). GoesPlainly setting.program setting.plan v.before (suc v.count) x) (sym same) (goes_more setting.program setting.plan v.count v.before v.after is.goes can.plain));
      few = omega arith;
      is_need = need;
    }

-- ---- a fresh one

running_unprinted : (program : Program) (s : Proc) → IsRunning program s → IsRunning program (unprinted s)
running_unprinted program s h = record { todo = h.todo; frames = h.frames; below = h.below; steps = h.steps; spent = h.spent }

pub fresh_view : (setting : Setting) (r : Running) (h : List ℕ) (p : Program) (q : Plan) (w : ℕ) (s a b : Proc) → IsHeld setting r h → slice_get r.world.procs w ≡ Some s → p ≡ r.setting.program → q ≡ r.setting.plan → a ≡ unprinted s → b ≡ unprinted s → need r.setting.program r.setting.plan r.world w ≡ Plain
    → IsView setting p q Plain (record { worker = w; before = a; after = b; count = 0 })
fresh_view setting r h p q w s a b held there e f g k plain =
    let within : w < length r.world.procs = slice_get_within r.world.procs w s there in
    let own : w < length r.setting.program.bodies - r.setting.program.functions = omega (arith, reached_count r held.reached) in
    record {
      is_program = e ∙ ap (λ (x : Setting). x.program) held.is_setting;
      is_plan = f ∙ ap (λ (x : Setting). x.plan) held.is_setting;
      runnable = subst (λ (x : Program). IsRunnable x) (sym e) (runnable r held.reached);
      numbered = subst (λ (x : Plan). IsNumbered x) (sym f) (numbered r held.reached);
      worker = subst (λ (x : Setting). w < length x.program.bodies - x.program.functions) held.is_setting own;
      running = subst (λ (x : Program). IsRunning x b) (sym e) (subst (λ (x : Proc). IsRunning r.setting.program x) (sym k) (running_unprinted r.setting.program s (of_running r w s held.reached there)));
      is_budget = ap (λ (x : Proc). x.budget) g ∙ of_budget r w s held.reached there ∙ ap (λ (x : Setting). x.budget) held.is_setting;
      is_unprinted = ap (λ (x : Proc). x.prints) g;
      goes = g ∙ sym k;
      few = omega arith;
      is_need = sym (ap (λ (x : Program). need_of x q b) e ∙ ap (λ (x : Plan). need_of r.setting.program x b) f ∙ ap (λ (x : Proc). need_of r.setting.program r.setting.plan x) k
          ∙ need_unprinted r.setting.program r.setting.plan s ∙ ap (λ (o : Option Proc). need_at r.setting.program r.setting.plan o) (sym there) ∙ plain);
    }

-- ---- a commit

-- the worker is there
pub worker_there : (setting : Setting) (p : Program) (q : Plan) (r : Running) (h : List ℕ) (n : Need) (v : Seen) → IsHeld setting r h → IsView setting p q n v → v.worker < length r.world.procs
worker_there setting p q r h n v held is =
    let own : v.worker < length r.setting.program.bodies - r.setting.program.functions = subst (λ (x : Setting). v.worker < length x.program.bodies - x.program.functions) (sym held.is_setting) is.worker in
    omega (arith, reached_count r held.reached)
