-- All edges of an item are found, where those within the process are.
use Rattle.ppd_model.specs.Setting.{Setting}
use Rattle.std.specs.Prelude.{◌≡◌, ℕ, List, [], slice_get, zip, option_map, Some, Ok}
use Rattle.ppd_model.specs.declared.flow.Origin.TheVariants as origin
use Rattle.std.specs.Option.{option_map_or}
use Rattle.ppd_ast.specs.Valid.{IsValid}
use Rattle.ppd_ast.specs.declared.plan.Plan.{Plan}
use Rattle.ppd_ast.specs.declared.program.Program.{Program}
use Rattle.ppd_sem.specs.declared.event.Access.{Access}
use Rattle.ppd_sem.specs.declared.event.Spot.TheVariants.{Local}
use Rattle.ppd_sem.specs.Blocks.{block_kind}
use Rattle.ppd_model.specs.declared.trace.TracedEvent.{TracedEvent}
use Rattle.ppd_model.specs.FlowbackEdges.{edges, edges_of_nested as model_edges_of_nested, part_at}
use Rattle.ppd_model.specs.FullTrace.{Tag}
use Rattle.ppd_model.specs.Intervals.{own, nested, Span, Split, splits, ref}
use Rattle.ppd_model.specs.Logs.{closed_logs}
use Rattle.ppd_model.specs.Races.{races}
use Rattle.ppd_model.specs.Schedule.{run}
use Rattle.ppd_model.specs.Story.{story}
use Rattle.ppd_model.specs.World.{World}
use Rattle.ppd_graph.specs.Control.{control_origin}
use Rattle.ppd_graph.specs.Found.{found_edges}
use Rattle.ppd_graph.specs.Locals.{local_origin}
use Rattle.ppd_graph.specs.Own.{edges_of_nested}
use Rattle.ppd_graph.specs.Seen.{seen_of}
use Rattle.law_flow.specs.Edges.SharedEdges.{all_seen}

-- what is found within the process for item j of interval k is as the model has it: of an event the writers of the
-- local cells that it reads and its control, of an interval all edges
pub record HasOwnParts (program : Program) (plan : Plan) (xs : List Split) (x : Split) (p k j : ℕ) : Type 0 where
  pub locals : (n i frame c : ℕ) (e : TracedEvent) (a : Access) (w : Tag) → part_at x k j ≡ Some (own n)
      → slice_get x.trace.events n ≡ Some e → slice_get (zip e.event.reads e.writers) i ≡ Some (a, w)
      → a.spot ≡ Local frame c
      → (local_origin program plan (seen_of x) p k j frame c).found ≡ option_map_or (ref xs) w origin.Initial
  pub control : (n : ℕ) (e : TracedEvent) → part_at x k j ≡ Some (own n) → slice_get x.trace.events n ≡ Some e
      → (control_origin program plan (seen_of x) p k j e.event.stmt).found
      ≡ option_map_or (ref xs) e.parent origin.Entry
  pub inside : (m : ℕ) (i : Span) → part_at x k j ≡ Some (nested m) → slice_get x.spans m ≡ Some i
      → (edges_of_nested program plan (seen_of x) p k j m i.block i.values (block_kind plan i.block)).found
      ≡ model_edges_of_nested plan xs i

-- then, in a run of a valid program without a race, the edges found are the item's, and none where there is no such
-- item
abbrev pub EdgesAreFound : Type 0
EdgesAreFound =
    (setting : Setting) (h : List ℕ) (w : World) → IsValid setting.program
    → run setting h ≡ Some w → races setting h ≡ []
    → (p k j : ℕ) (x : Split) → slice_get (splits setting (story setting h)) p ≡ Some x
    → HasOwnParts setting.program setting.plan (splits setting (story setting h)) x p k j
    → (found_edges setting.program setting.plan (closed_logs setting h) (all_seen setting h) p k j).found
    ≡ option_map (λ es. Ok es) (edges setting (story setting h) p k j)
