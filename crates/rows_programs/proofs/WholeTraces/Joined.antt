-- The traces of small runs by joined and linked items, by computation: those of the runs.
use Rattle.ppd_model.specs.Setting.{setting_of}
use Rattle.std.proofs.Common.{◌≡◌, refl}
use Rattle.std.specs.Prelude.{ℕ, List, [], ◌∷◌}
use Rattle.ppd_ast.specs.Term.{terms}
use Rattle.ppd_ast.specs.declared.plan.Plan.{Plan}
use Rattle.ppd_ast.specs.declared.program.Program.{Program}
use Rattle.ppd_model.specs.declared.trace.Trace.{Trace}
use Rattle.ppd_model.specs.Logs.{closed_logs}
use Rattle.law_flow.specs.Edges.SharedEdges.{all_seen}
use Rattle.law_flow.specs.Linked.{joined_trace}
use Rattle.rows_programs.proofs.Runs.Smallest as smallest
use Rattle.rows_programs.proofs.Runs.CalleeWrite as callee
use Rattle.rows_programs.proofs.Runs.LockOrder as locks

-- the trace by joined items
abbrev by_items : Program → Plan → List ℕ → Trace
by_items program plan h = joined_trace program (closed_logs (setting_of program plan 100000) h) (all_seen (setting_of program plan 100000) h)

pub smallest_joined : by_items smallest.program smallest.plan smallest.schedule ≡ record { events = smallest.events_a ∷ [] }
unfolding terms
smallest_joined = refl

pub callee_joined : by_items callee.program callee.plan callee.schedule ≡ record { events = callee.events_a ∷ [] }
unfolding terms
callee_joined = refl

pub locks_joined : by_items locks.program locks.plan locks.first ≡ record { events = locks.events_a_first ∷ locks.events_b_first ∷ [] }
unfolding terms
locks_joined = refl
