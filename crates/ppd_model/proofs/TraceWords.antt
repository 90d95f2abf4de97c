-- Words of the proofs for traces.
use Rattle.ppd_model.specs.Setting.{Setting}
use Rattle.std.specs.Option.{option_map_or}
use Rattle.std.specs.List.{enumerate_from}
use Rattle.std.specs.Prelude.{ℕ, List, Option, map, slice_get, option_map, option_and_then}
use Rattle.ppd_model.specs.FullTrace.{Tag, tagged_by, latest, tracing_of}
use Rattle.ppd_ast.specs.declared.program.Program.{Program}
use Rattle.ppd_sem.specs.declared.proc.Proc.{Proc}
use Rattle.ppd_sem.specs.declared.proc.Todo.{Todo}
use Rattle.ppd_sem.specs.Process.{head_deed}
use Rattle.ppd_model.specs.declared.trace.EventId.{EventId}
use Rattle.ppd_model.specs.declared.trace.TracedEvent.{TracedEvent}
use Rattle.ppd_model.specs.declared.tracing.Activation.{Activation}
use Rattle.ppd_model.specs.declared.tracing.Test.{Test}
use Rattle.ppd_model.specs.Story.{Taken, Story}

-- the activations after the head statement finished
abbrev pub tagged_at : Program → Proc → Tag → List Todo → List Activation → List Activation
tagged_at program s me todo xs =
    option_map_or (λ t. tagged_by program s me (head_deed program t s) xs) (slice_get todo 0) xs

-- the latest test of the statement in which another one directly stands
abbrev pub of_outer : Option ℕ → List Test → Option EventId
of_outer o tests = option_and_then (λ s. option_map (λ x. x.event) (latest s tests)) o

-- the events of the processes from number p on
abbrev pub events_from : Setting → Story → ℕ → List (List Taken) → List (List TracedEvent)
events_from setting story p all =
    map (λ e. (tracing_of setting story e.0 e.1).events) (enumerate_from p all)
