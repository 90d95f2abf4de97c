use Rattle.ppd_model.specs.Setting.{setting_of}
use Rattle.std.proofs.Common.{◌≡◌, ◌≤◌, ◌+◌, ◌*◌, ◌++◌, drop, length, take}
use Rattle.std.specs.List.{sum_by}
use Rattle.ppd_model.proofs.TraceWords.{events_from}
use Rattle.ppd_trace.specs.Spending.{most_statement_cells}
use Rattle.ppd_trace.proofs.whole.trace_all.Given as goal

abbrev pub invariant-loop-process : goal.invariant-loop-process
invariant-loop-process g l = let s = l.setting-inside in record {
  traced : l.events ++ events_from (setting_of s.program.now s.plan.now s.budget) l.told.story l.process (drop l.process l.told.story.steps) ≡ events_from (setting_of s.program.now s.plan.now s.budget) l.told.story 0 l.told.story.steps;
  spent : l.steps ≤ l.fn.steps + 4 * l.process + 2 * sum_by (λ b. b.cells) (take (s.program.now.functions + l.process) s.program.now.bodies)
      + (3 * most_statement_cells s.program.now + 12) * sum_by length (take l.process l.told.story.steps);
}
