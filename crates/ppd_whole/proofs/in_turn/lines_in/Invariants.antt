use Rattle.std.proofs.Common.{◌≡◌, ◌≤◌, ◌+◌, ◌++◌, drop, map}
use Rattle.ppd_whole.specs.Costs.{lines_cost}
use Rattle.ppd_whole.specs.Told.{told_processes}
use Rattle.ppd_whole.proofs.in_turn.lines_in.Given as goal

abbrev pub invariant-loop-p : goal.invariant-loop-p
invariant-loop-p g l = record {
  text : l.text.items ++ told_processes l.linked.past.now l.p (map (λ es. map (λ e. e.now) es.items) (drop l.p l.events))
      ≡ told_processes l.linked.past.now 0 (map (λ es. map (λ e. e.now) es.items) l.events);
  spent : l.steps + lines_cost l.linked.past.now (map (λ es. map (λ e. e.now) es.items) (drop l.p l.events))
      ≤ l.fn.steps + lines_cost l.linked.past.now (map (λ es. map (λ e. e.now) es.items) l.events);
}
