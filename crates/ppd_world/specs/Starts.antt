-- The parts of a world before its first step, and after its last.
use Rattle.ppd_model.specs.Setting.{Setting}
use Rattle.std.specs.Prelude.{ℕ, List, [], ◌∷◌, map, Option, Some, None, unwrap_or}
use Rattle.std.specs.List.{range_with_len}
use Rattle.ppd_ast.specs.declared.plan.BlockKind.TheVariants as block
use Rattle.ppd_ast.specs.declared.plan.Plan.{Plan}
use Rattle.ppd_ast.specs.declared.plan.Start.TheVariants as start
use Rattle.ppd_ast.specs.declared.program.Program.{Program}
use Rattle.ppd_ast.specs.declared.status.Status.{Status}
use Rattle.ppd_ast.specs.declared.status.Status.TheVariants as status
use Rattle.ppd_model.specs.declared.entry.Entry.{Entry}
use Rattle.ppd_model.specs.declared.entry.Entry.TheVariants as entry
use Rattle.ppd_sem.specs.Tables.{block_of, unit_of}
use Rattle.ppd_model.specs.declared.state.Channel.{Channel}
use Rattle.ppd_model.specs.declared.state.Counts.{Counts}
use Rattle.ppd_model.specs.declared.state.Logging.{Logging}
use Rattle.ppd_model.specs.Logs.{begun_log}
use Rattle.ppd_model.specs.Story.{values_of_unit}

-- the entries of a process's body before its first step
abbrev pub first_entries : Program → Plan → ℕ → List Entry
first_entries program plan body =
    let u = unit_of plan (start.Entry body) in
    entry.Prelog (unwrap_or (block_of plan (block.Process body)) 0) []
    ∷ entry.Unit u (values_of_unit plan program.starts u) ∷ []

-- the first n processes with their logs
abbrev pub begun_logs : Setting → ℕ → List Logging
begun_logs setting n = map (λ p. begun_log setting p) (range_with_len 0 n)

-- the counts of the semaphores
abbrev pub begun_sems : Program → List Counts
begun_sems program = map (λ s. record { given = s.start; taken = 0 }) program.sems

-- the channels
abbrev pub begun_chans : Program → List Channel
begun_chans program = map (λ c. record { capacity = c.capacity; sent = []; received = 0; completed = 0 }) program.chans

-- a process that is still running when nobody can take a step is blocked
abbrev pub blocked_of : Option Status → Option Status
blocked_of None = Some status.Blocked
blocked_of (Some s) = None
