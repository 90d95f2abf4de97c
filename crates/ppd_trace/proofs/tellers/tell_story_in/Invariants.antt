use Rattle.ppd_model.specs.Setting.{setting_of}
use Rattle.std.proofs.Common.{◌≤◌, ◌+◌, ◌*◌, length, take}
use Rattle.ppd_ast.specs.declared.limits.TheConstants.{MOST_BUDGET, MOST_PROCESSES}
use Rattle.ppd_trace.specs.Telling.{Tells}
use Rattle.ppd_trace.proofs.tellers.tell_story_in.Given as goal

abbrev pub invariant-loop-index : goal.invariant-loop-index
invariant-loop-index g l = record {
  tells : Tells (setting_of l.setting.program l.setting.plan l.setting.budget) (take l.index l.schedule) l.teller.world l.teller.counts l.teller.writers l.teller.steps.items;
  few : l.index ≤ MOST_PROCESSES * (MOST_BUDGET + 1);
  spent : l.steps ≤ l.fn.steps + 4 * (length l.setting.program.starts + length l.setting.program.bodies) + 7 * l.index;
}
