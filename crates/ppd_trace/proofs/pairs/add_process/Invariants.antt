use Rattle.std.proofs.Common.{◌≡◌, ℕ, ◌≤◌, ◌+◌, ◌*◌, Some, None, drop}
use Rattle.std.specs.Option.{option_or}
use Rattle.ppd_model.specs.Numbers.{sync}
use Rattle.ppd_model.specs.Synchronizations.{leading_in}
use Rattle.ppd_model.proofs.OrderWords.{event_or}
use Rattle.ppd_trace.specs.Leading.{found_in}
use Rattle.ppd_trace.proofs.pairs.add_process.Given as goal

abbrev pub invariant-loop-taken : goal.invariant-loop-taken
invariant-loop-taken g l = record {
  kept : (o k : ℕ) → option_or (found_in l.leads o k) (event_or l.process (leading_in l.program (Some (sync l.kind o k)) l.number (drop l.taken-index l.own)) None)
      ≡ option_or (found_in l.initial.leads o k) (event_or l.process (leading_in l.program (Some (sync l.kind o k)) 0 l.own) None);
  few : l.number ≤ l.taken-index;
  spent : l.steps ≤ l.fn.steps + 3 * l.taken-index;
}
