-- What an event came from, by what is kept of its process.
use Rattle.std.specs.Prelude.{ℕ, List, get_or, map, option_map, Option, Some, None}
use Rattle.std.specs.FinMap.{get}
use Rattle.ppd_graph.specs.Times.{pair_at}
use Rattle.ppd_sem.specs.declared.event.Event.{Event}
use Rattle.ppd_sem.specs.declared.event.Spot.{Spot}
use Rattle.ppd_sem.specs.declared.event.Spot.TheVariants.{Local, Shared}
use Rattle.ppd_model.specs.declared.trace.EventId.{EventId}
use Rattle.ppd_model.specs.HappenedBefore.{edge, node}
use Rattle.ppd_flow_shared.specs.Past.{Past}
use Rattle.ppd_graph.specs.Shared.{greatest_before}
use Rattle.ppd_flow_shared.specs.SharedCells.{seens_in}
use Rattle.law_flow.specs.Joined.{events_in}
use Rattle.law_flow.specs.Linked.{pair_tag}
use Rattle.law_flow.specs.Writers.{writer_from, written_in}
use Rattle.ppd_activations.specs.Runs.{top_tags}
use Rattle.ppd_whole_link.specs.declared.linker.Linker.{Linker}
use Rattle.ppd_whole_link.specs.declared.marks.Marks.{Marks}
use Rattle.ppd_whole_link.specs.Laws.{AreAllMarks}
use Rattle.ppd_whole_link.specs.Linkers.{own_in}

-- the events of all processes of a past
abbrev pub all_events : Past → List (List Event)
all_events past = map events_in (seens_in past)

-- what they leave
abbrev pub AreMarked : Past → List Marks → Type 0
AreMarked past marks = AreAllMarks (all_events past) marks

-- the last write of a cell in the greatest edge before one
abbrev pub across : Past → ℕ → ℕ → ℕ → Option EventId
across past p i c =
    option_map (written_in (all_events past) c) (greatest_before past.program.now past.logs.now (edge p i) c)

abbrev pub writer_by : Past → ℕ → Linker → Spot → Option EventId
writer_by past p x (Local frame c) = get_or (top_tags x.follower.runs) c None
writer_by past p x (Shared c) =
    writer_from p (own_in x.follower.edge (get x.own c)) (across past p x.follower.edge c)

abbrev pub pair_by : Past → ℕ → Linker → Option ℕ → Option EventId
pair_by past p x None = None
pair_by past p x (Some n) = pair_tag (all_events past) (pair_at past.graph.now.pairs (node p x.follower.edge))
