use Rattle.std.proofs.Common.{ℕ, drop, reverse, Result, Option}
use Rattle.ppd_model.specs.declared.flow.Origin.{Origin}
use Rattle.ppd_flow_tables.specs.FlowError.{FlowError}
use Rattle.ppd_flow_local.specs.Searches.{IsFound}
use Rattle.ppd_flow_local.proofs.Loops.{found_in}
use Rattle.ppd_flow_local.proofs.search.Search.in_loops.Given as goal

abbrev pub invariant-loop-place : goal.invariant-loop-place
invariant-loop-place g l =
    (o : ℕ) (r : Result (Option Origin) FlowError)
    → IsFound l.self (found_in l.self l.cell (drop l.place (reverse l.loops))) l.steps o r
    → IsFound l.self (found_in l.self l.cell (reverse l.loops)) l.initial.steps o r
