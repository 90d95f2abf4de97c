-- The parts of a step of a world.
use Rattle.std.specs.Prelude.{◌+◌, ◌-◌, ◌<◌, ◌^◌, ℤ, List, ◌++◌, length, map, take, slice_set, Option, Some, None}
use Rattle.std.specs.List.{All}
use Rattle.ppd_ast.specs.declared.plan.Plan.{Plan}
use Rattle.ppd_ast.specs.declared.program.Program.{Program}
use Rattle.ppd_model.specs.declared.entry.Entry.{Entry}
use Rattle.ppd_sem.specs.declared.proc.Answer.{Answer}
use Rattle.ppd_sem.specs.declared.proc.Need.{Need}
use Rattle.ppd_sem.specs.declared.proc.Need.TheVariants.{Write, P, V, Send, Offer, Done, Recv, Stopped}
use Rattle.ppd_sem.specs.Process.{act, need_of}
use Rattle.ppd_sem.specs.Runs.{IsNumbered, IsRunnable, IsRunning}
use Rattle.ppd_model.specs.declared.state.Channel.{Channel}
use Rattle.ppd_model.specs.declared.state.Counts.{Counts}
use Rattle.ppd_model.specs.declared.state.Logging.{Logging}
use Rattle.ppd_model.specs.Logs.{rest_after}
use Rattle.ppd_model.specs.World.{World, change}
pub use Rattle.ppd_model.specs.World.{one_taken, one_given, with_value, one_received, one_completed}
use Rattle.ppd_world_steps.specs.declared.note.Note.{Note}
use Rattle.ppd_world_steps.specs.Objects.{IsSmallChan, IsSmallSem}
use Rattle.ppd_world_steps.specs.Entries.{noted}

-- ---- bounds

-- one more can be received within 32 bits
pub record IsReceivable (x : Channel) : Type 0 where
  pub received : x.received + 1 < 2 ^ 32
  pub completed : x.completed + 1 < 2 ^ 32

-- a process of the program, and one more step can be counted within 32 bits
pub record IsSmallLogging (program : Program) (l : Logging) : Type 0 where
  pub proc : IsRunning program l.proc
  pub rest : l.rest + 1 < 2 ^ 32

-- what a step asks of the program and its plan, the shared state, and the processes with their logs
pub record IsReady (program : Program) (plan : Plan) (s : World) (loggings : List Logging) : Type 0 where
  pub runnable : IsRunnable program
  pub numbered : IsNumbered plan
  pub sems : All IsSmallSem s.sems
  pub chans : All IsSmallChan s.chans
  pub small : All (IsSmallLogging program) loggings

-- ---- the shared state

-- a shared state with the processes that have these logs
abbrev pub world_of : World → List Logging → World
world_of s loggings = record s { procs = map (λ l. l.proc) loggings }

-- what a process that is there needs
abbrev pub need_of_logging : Program → Plan → Option Logging → Need
need_of_logging program plan None = Stopped
need_of_logging program plan (Some l) = need_of program plan l.proc

-- what each process needs
abbrev pub needs_of : Program → Plan → List Logging → List Need
needs_of program plan loggings = map (λ l. need_of program plan l.proc) loggings

-- what is kept of a need, and nothing where no process is
abbrev pub or_stopped : Option Need → Need
or_stopped None = Stopped
or_stopped (Some n) = n

-- the shared cells after a step of this need
abbrev pub shared_after : List ℤ → Need → List ℤ
shared_after shared (Write c v) = slice_set shared c v
shared_after shared need = shared

-- the semaphores after a step of this need
abbrev pub sems_after : List Counts → Need → List Counts
sems_after sems (P s u) = change one_taken s sems
sems_after sems (V s u) = change one_given s sems
sems_after sems need = sems

-- a channel without what was sent last
abbrev pub without_last : Channel → Channel
without_last x = record x { sent = take (length x.sent - 1) x.sent }

-- the channels with what a step of this need sends
abbrev pub sent_after : List Channel → Need → List Channel
sent_after chans (Send c v u) = change (with_value v) c chans
sent_after chans (Offer c v) = change (with_value v) c chans
sent_after chans need = chans

-- the channels without what was sent last
abbrev pub unsent_after : List Channel → Need → List Channel
unsent_after chans (Send c v u) = change without_last c chans
unsent_after chans (Offer c v) = change without_last c chans
unsent_after chans need = chans

-- the channels with what a step of this need receives or completes
abbrev pub received_after : List Channel → Need → List Channel
received_after chans (Recv c u) = change one_received c chans
received_after chans (Done c u) = change one_completed c chans
received_after chans need = chans

-- the shared state with what a step of this need sends
abbrev pub sent : World → Need → World
sent s n = record s { chans = sent_after s.chans n }

-- the shared state without what was sent last
abbrev pub unsent : World → Need → World
unsent s n = record s { chans = unsent_after s.chans n }

-- the shared state after all else that a step of this need does
abbrev pub finished : World → Need → World
finished s n = record s {
  shared = shared_after s.shared n;
  sems = sems_after s.sems n;
  chans = received_after s.chans n;
}

-- ---- a process with its log

-- a process with its log after a step, with this answer, that wrote these entries
abbrev pub logged : Program → Plan → Logging → Answer → Note → List Entry → Logging
logged program plan l answer note new = record (noted note l) {
  proc = act program plan l.proc answer;
  rest = rest_after l.rest new;
  entries = l.entries ++ new;
}
