-- States of processes as they are copied.
use Rattle.std.specs.Prelude.{ℕ, Option, Some, None, slice_get}
use Rattle.ppd_sem.specs.declared.proc.Proc.{Proc}
use Rattle.ppd_sem.specs.Printed.{unprinted}
use Rattle.ppd_world.specs.Running.{Running}

abbrev pub unprinted_if : Option Proc → Option Proc
unprinted_if None = None
unprinted_if (Some s) = Some (unprinted s)

-- the state of process p, what it printed aside, if it is there
abbrev pub state_of : Running → ℕ → Option Proc
state_of r p = unprinted_if (slice_get r.world.procs p)
