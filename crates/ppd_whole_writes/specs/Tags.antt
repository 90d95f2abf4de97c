-- The tags of local cells.
use Rattle.std.specs.Prelude.{ℕ, List, ◌∷◌, fold, drop, length, Option}
use Rattle.ppd_ast.specs.declared.program.Kind.{Kind}
use Rattle.ppd_ast.specs.declared.program.Kind.TheVariants as kind
use Rattle.ppd_ast.specs.declared.program.Program.{Program}
use Rattle.ppd_sem.specs.declared.event.Access.{Access}
use Rattle.ppd_sem.specs.declared.event.Event.{Event}
use Rattle.ppd_sem.specs.declared.event.Spot.{Spot}
use Rattle.ppd_sem.specs.declared.event.Spot.TheVariants.{Local, Shared}
use Rattle.ppd_model.specs.FullTrace.{Tag}
use Rattle.ppd_activations.specs.declared.runs.Run.{Run}
use Rattle.ppd_activations.specs.Runs.{called, tagged, tagged_into}
use Rattle.ppd_sem.specs.Process.{into_at}

abbrev pub tag_spot : Tag → List Run → Spot → List Run
tag_spot me xs (Local frame c) = tagged c me xs
tag_spot me xs (Shared c) = xs

-- a local cell that is written has the event's tag
abbrev pub tag_write : Tag → List Run → Access → List Run
tag_write me xs a = tag_spot me xs a.spot

-- the runs after an event of a statement of this kind; `call` began the running body
abbrev pub tagged_by_kind : Program → Option ℕ → Tag → Event → Kind → List Run → List Run
tagged_by_kind program call me e (kind.Call f arguments into) xs = called program f (length e.writes) me ∷ xs
tagged_by_kind program call me e (kind.Return v) xs = tagged_into (into_at program call) e.value me (drop 1 xs)
tagged_by_kind program call me e k xs = fold (tag_write me) xs e.writes
