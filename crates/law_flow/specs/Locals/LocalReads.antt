-- What the search finds for the local reads of an event.
use Rattle.law_steps.specs.Policies.{setting_by}
use Rattle.std.specs.Prelude.{◌≡◌, ℕ, ◌<◌, false, List, slice_get, zip, Some}
use Rattle.ppd_model.specs.declared.flow.Origin.TheVariants as origin
use Rattle.std.specs.Option.{option_map_or}
use Rattle.ppd_ast.specs.Valid.{IsValid}
use Rattle.ppd_ast.specs.declared.plan.Plan.{Plan}
use Rattle.ppd_ast.specs.declared.plan.Policy.{Policy}
use Rattle.ppd_ast.specs.declared.program.Program.{Program}
use Rattle.ppd_blocks.specs.Blocks.{plan_of}
use Rattle.ppd_sem.specs.Blocks.{block_kind}
use Rattle.ppd_sem.specs.declared.event.Access.{Access}
use Rattle.ppd_sem.specs.declared.event.Spot.TheVariants.{Local}
use Rattle.ppd_model.specs.FlowbackEdges.{part_at}
use Rattle.ppd_model.specs.FullTrace.{Tag}
use Rattle.ppd_model.specs.Intervals.{nested, own, Span, Split, splits, ref}
use Rattle.ppd_model.specs.NearIntervals.{is_loop}
use Rattle.ppd_model.specs.Story.{story}
use Rattle.ppd_model.specs.declared.trace.TracedEvent.{TracedEvent}
use Rattle.ppd_graph.specs.Locals.{local_origin}
use Rattle.ppd_graph.specs.Seen.{seen_of}

-- the search for a read in this frame at place j of interval k looks into no loop: none stands before the place, and
-- the interval is of a loop only where the read is in an activation called from it
pub record IsOutsideLoops (plan : Plan) (y : Split) (k j frame : ℕ) : Type 0 where
  pub before : (b m : ℕ) (i : Span) → b < j → part_at y k b ≡ Some (nested m) → slice_get y.spans m ≡ Some i
      → is_loop (block_kind plan i.block) ≡ false
  pub interval : frame ≡ 0 → (i : Span) → slice_get y.spans k ≡ Some i → is_loop (block_kind plan i.block) ≡ false

-- so it is everywhere under a policy without block loops
abbrev pub PoliciesWithoutLoops : Type 0
PoliciesWithoutLoops =
    (program : Program) (policy : Policy) (y : Split) (k j frame : ℕ) → policy.loops ≡ 0
    → IsOutsideLoops (plan_of program policy) y k j frame

-- in every schedule of a valid program, whole or not, racy or not, with the plan of a policy: for each read of a local
-- cell by event n, which is item j of interval k, that is outside loops, the search over the items of the process
-- finds the event that last wrote the cell in its activation, and the start value where none did
abbrev pub LocalReadsAreFound : Type 0
LocalReadsAreFound =
    (program : Program) (policy : Policy) (budget : ℕ) (h : List ℕ) (p k j n i : ℕ) (y : Split) (e : TracedEvent)
    (a : Access) (w : Tag) (frame c : ℕ)
    → IsValid program
    → slice_get (splits (setting_by program policy budget) (story (setting_by program policy budget) h)) p
    ≡ Some y
    → part_at y k j ≡ Some (own n) → slice_get y.trace.events n ≡ Some e
    → slice_get (zip e.event.reads e.writers) i ≡ Some (a, w) → a.spot ≡ Local frame c
    → IsOutsideLoops (plan_of program policy) y k j frame
    → (local_origin program (plan_of program policy) (seen_of y) p k j frame c).found
    ≡ option_map_or
    (ref (splits (setting_by program policy budget) (story (setting_by program policy budget) h))) w
    origin.Initial
