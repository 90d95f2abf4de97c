use Rattle.std.proofs.lemmas.Grind.{common_steps}
use Rattle.std.proofs.Common.{map, subst, rules, arith}
use Rattle.ppd_ast.specs.declared.plan.Plan.{Plan}
use Rattle.ppd_ast.specs.declared.program.Program.{Program}
use Rattle.ppd_sem.specs.Runs.{IsNumbered, IsRunnable, IsRunning}
use Rattle.ppd_world.proofs.Reached.{numbered, runnable}
use Rattle.ppd_rerun_guide.proofs.Ending.{chosen_can}
use Rattle.ppd_rerun_guide.specs.Guides.{guiding_of}
use Rattle.ppd_rerun_ran.specs.Seeing.{seen}
use Rattle.ppd_rerun_ran.proofs.Runs.{holds_by, is_there, ok_of, runs_at}
use Rattle.ppd_rerun_ran.proofs.ran.take.Goals as goal

pub proc-requires : goal.proc-requires
proc-requires c =
    is_there c.args.guide.now.world.setting.program c.args.guide.now.world.setting.plan c.args.guide.now.world.world c.args.p
    (chosen_can c.args.guide.now.world.setting.program c.args.guide.now.world.setting.plan (guiding_of c.args.guide.now.world c.args.guide.now.dues.items) c.args.p c.requires.may)

pub hold-requires-clause-program : goal.hold-requires-clause-program
hold-requires-clause-program c = subst (λ (a : Program). IsRunnable a) c.requires.program (runnable c.args.guide.now.world c.requires.reached)

pub hold-requires-clause-plan : goal.hold-requires-clause-plan
hold-requires-clause-plan c = subst (λ (a : Plan). IsNumbered a) c.requires.plan (numbered c.args.guide.now.world c.requires.reached)

pub hold-requires-clause-proc : goal.hold-requires-clause-proc
hold-requires-clause-proc c =
    subst (λ (a : Program). IsRunning a c.proc.result.now) c.requires.program (runs_at c.args.guide.now.world c.args.p c.proc.result.now c.requires.reached c.proc.ensures)

pub returns-clause-held : goal.returns-clause-held
returns-clause-held c =
    ok_of c.push.result
    (holds_by c.args.setting.now.program.now c.args.setting.now.plan.now c.args.guide.now.world c.args.p c.next-taken.result c.proc.result.now
    (map seen c.args.held.now.items) (map seen c.hold.new.held.items) c.requires.program c.requires.plan c.proc.ensures c.next-taken.ensures c.in_ok-hold.ensures)

pub branch-hold-requires : goal.branch-hold-requires
branch-hold-requires c = search rules depth 1 fits 30

pub from_residual-requires : goal.from_residual-requires
from_residual-requires c = search rules depth 1 fits 30

pub hold-requires-clause-need : goal.hold-requires-clause-need
hold-requires-clause-need c = search rules depth 1 fits 30

pub next-taken-requires : goal.next-taken-requires
next-taken-requires c = search rules depth 1 fits 30

pub push-requires : goal.push-requires
push-requires c = search rules depth 1 fits 30

pub returns-clause-comes : goal.returns-clause-comes
returns-clause-comes c = grind (arith, common_steps) steps 250000

pub returns-clause-guided : goal.returns-clause-guided
returns-clause-guided c = grind (arith, common_steps) steps 250000

pub returns-clause-kept : goal.returns-clause-kept
returns-clause-kept c = grind (arith, common_steps) steps 250000

pub returns-clause-schedule : goal.returns-clause-schedule
returns-clause-schedule c = search rules depth 1 fits 30

pub returns-in_err-hold : goal.returns-in_err-hold
returns-in_err-hold c = search rules depth 1 fits 30

pub returns-in_err-step : goal.returns-in_err-step
returns-in_err-step c = search rules depth 1 fits 30

pub step-requires : goal.step-requires
step-requires c = search rules depth 1 fits 30
