use Rattle.std.proofs.Common.{◌≡◌, ◌≤◌, ◌+◌, ◌*◌, ℕ, Some, drop, length, take}
use Rattle.std.specs.List.{sum_by}
use Rattle.std.specs.Option.{option_or}
use Rattle.ppd_model.specs.Numbers.{sync}
use Rattle.ppd_model.specs.Synchronizations.{leading_from}
use Rattle.ppd_trace.specs.Leading.{found_in}
use Rattle.ppd_trace.proofs.pairs.add_leads.Given as goal

abbrev pub invariant-loop-process : goal.invariant-loop-process
invariant-loop-process g l = record {
  kept : (o k : ℕ) → option_or (found_in l.leads o k) (leading_from l.program (Some (sync l.kind o k)) l.process (drop l.process l.story.steps))
      ≡ leading_from l.program (Some (sync l.kind o k)) 0 l.story.steps;
  spent : l.steps ≤ l.fn.steps + l.process + 3 * sum_by length (take l.process l.story.steps);
}
