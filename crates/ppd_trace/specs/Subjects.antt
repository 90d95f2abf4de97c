-- The process that is traced, as its trace is made step by step.
use Rattle.std.specs.Prelude.{◌≡◌, ℕ, ◌+◌, ◌<◌, ◌^◌, length}
use Rattle.ppd_ast.specs.declared.program.Program.{Program}
use Rattle.ppd_sem.specs.declared.proc.Proc.{Proc}
use Rattle.ppd_sem.specs.Process.{need_of, started}
use Rattle.ppd_sem.specs.Runs.{IsNumbered, IsRunnable, IsRunning}
use Rattle.ppd_model.specs.declared.tracing.Taken.{Taken}
use Rattle.ppd_trace.specs.declared.pairs.PairedStory.{PairedStory}
use Rattle.ppd_trace.specs.declared.subject.Subject.{Subject}
use Rattle.ppd_trace.specs.declared.tracer.Tracer.{Tracer}
use Rattle.ppd_trace.specs.Leading.{HavePairs}
use Rattle.ppd_trace.specs.Runs.{trace_by, trace_step}
use Rattle.ppd_ast.specs.Lookups.{body_numbered}

-- the maps of this story have the first events that lead to each synchronization
abbrev pub ArePaired : Program → PairedStory → Type 0
ArePaired program told = HavePairs program told.story told.takes told.receives told.sends told.completes

-- its body is one of the program's, and the body's number has 16 bits
pub record HasBody (s : Subject) : Type 0 where
  pub there : s.program.now.functions + s.process < length s.program.now.bodies
  pub range : s.program.now.functions + s.process < 2 ^ 16

-- the cells of its body
abbrev pub body_size : Subject → ℕ
body_size s = (body_numbered s.program.now (s.program.now.functions + s.process)).cells

-- its state before its first step, with this budget
abbrev pub started_with : Subject → ℕ → Proc
started_with s budget = started s.program.now s.plan.now s.process budget

-- this step comes next after what was traced of it, and its event has a number within 32 bits
pub record IsToTrace (s : Subject) (t : Tracer) (x : Taken) : Type 0 where
  pub program : IsRunnable s.program.now
  pub plan : IsNumbered s.plan.now
  pub pairs : ArePaired s.program.now s.told.now
  pub proc : IsRunning s.program.now t.proc
  pub need : x.need ≡ need_of s.program.now s.plan.now t.proc
  pub few : length t.events < 2 ^ 32

-- its trace with what a step adds to it
abbrev pub added : Subject → Taken → Tracer → Tracer
added s x t = trace_by s.program.now s.plan.now s.told.now.story s.process x t

-- its trace after a step
abbrev pub stepped : Subject → Taken → Tracer → Tracer
stepped s x t = trace_step s.program.now s.plan.now s.told.now.story s.process t x
