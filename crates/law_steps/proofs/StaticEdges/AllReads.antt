-- Every value that an event reads comes over a data edge.
use Rattle.ppd_model.specs.Setting.{Setting}
use Rattle.std.proofs.Common.{◌≡◌, ℕ, List, Some, refl}
use Rattle.ppd_model.specs.Story.{story}
use Rattle.ppd_ast.specs.Valid.{IsValid}
use Rattle.ppd_model.specs.declared.trace.EventId.{EventId}
use Rattle.ppd_model.specs.declared.trace.TracedEvent.{TracedEvent}
use Rattle.ppd_model.specs.FullTrace.{full_trace}
use Rattle.ppd_sem.specs.declared.event.Access.{Access}
use Rattle.ppd_sem.specs.declared.event.Spot.{Spot}
use Rattle.ppd_sem.specs.declared.event.Spot.TheVariants.{Local, Shared}
use Rattle.law_steps.specs.Sound.{ComesOverData, HasWriter, ReadsComeOverEdges, event_at}
use Rattle.law_steps.proofs.StaticEdges.OwnCells.LocalReads.{local_reads_come}
use Rattle.law_steps.proofs.StaticEdges.SharedCells.SharedReads.{shared_reads_come}

by_spot : (setting : Setting) (h : List ℕ) (p n : ℕ) (e : TracedEvent) (i : ℕ) (a : Access) (id : EventId) (s : Spot) → a.spot ≡ s → IsValid setting.program → event_at (full_trace setting (story setting h)) p n ≡ Some e
    → HasWriter e i a id → ComesOverData setting.program (full_trace setting (story setting h)) id e.event.stmt s
by_spot setting h p n e i a id (Local frame c) spot v is w = local_reads_come setting h p n e i a id frame c v is w spot
by_spot setting h p n e i a id (Shared c) spot v is w = shared_reads_come setting h p n e i a id c v is w spot

pub reads_come : ReadsComeOverEdges
reads_come setting h p n e i a id v is w = by_spot setting h p n e i a id a.spot refl v is w
