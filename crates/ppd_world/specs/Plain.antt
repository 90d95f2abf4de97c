-- Steps that need nothing but their process: of its state alone, and of the world with its logs.
use Rattle.std.specs.Prelude.{◌≡◌, ℕ, zero, suc, ◌+◌, Some, slice_get}
use Rattle.ppd_ast.specs.declared.plan.Plan.{Plan}
use Rattle.ppd_ast.specs.declared.program.Program.{Program}
use Rattle.ppd_sem.specs.declared.proc.Answer.TheVariants.{Go}
use Rattle.ppd_sem.specs.declared.proc.Need.TheVariants.{Plain}
use Rattle.ppd_sem.specs.declared.proc.Proc.{Proc}
use Rattle.ppd_sem.specs.Printed.{printed_before, unprinted}
use Rattle.ppd_sem.specs.Process.{act, need_of}
use Rattle.ppd_model.specs.declared.state.Logging.{Logging}
use Rattle.ppd_world.specs.Running.{Running, stepped}

-- the second state is the first after n steps, each of which needs nothing but the process itself
abbrev pub GoesPlainly : Program → Plan → Proc → ℕ → Proc → Type 0
GoesPlainly program plan s zero t = s ≡ t
GoesPlainly program plan s (suc n) t =
    (need_of program plan s ≡ Plain) × GoesPlainly program plan (act program plan s Go) n t

-- process p, which is there, comes to this state by n such steps
pub record ComesPlainly (r : Running) (p n : ℕ) (after : Proc) : Type 0 where
  pub before : Proc
  pub there : slice_get r.world.procs p ≡ Some before
  pub goes : GoesPlainly r.setting.program r.setting.plan before n after

-- process p, which is there, would come to this state by n such steps if it had printed nothing before
pub record ComesPrinting (r : Running) (p n : ℕ) (after : Proc) : Type 0 where
  pub before : Proc
  pub there : slice_get r.world.procs p ≡ Some before
  pub goes : GoesPlainly r.setting.program r.setting.plan (unprinted before) n after

-- process p takes n steps
abbrev pub stepped_times : Running → ℕ → ℕ → Running
stepped_times r p zero = r
stepped_times r p (suc n) = stepped_times (stepped r p) p n

-- a process with its log after n steps that wrote no entry
abbrev pub gone_on : Proc → ℕ → Logging → Logging
gone_on after n l = record l { proc = after; rest = l.rest + n }

-- the same, with what it had printed before these steps before what is printed here
abbrev pub gone_on_printing : Proc → ℕ → Logging → Logging
gone_on_printing after n l = gone_on (printed_before l.proc.prints after) n l
