-- What the search for control finds in the items of a process is what the trace has.
use Rattle.law_steps.specs.Policies.{setting_by}
use Rattle.std.specs.Prelude.{◌≡◌, ℕ, ◌-◌, false, List, slice_get, Some}
use Rattle.std.specs.Option.{option_map_or}
use Rattle.ppd_ast.specs.declared.plan.BlockKind.TheVariants as block
use Rattle.ppd_ast.specs.declared.plan.Plan.{Plan}
use Rattle.ppd_ast.specs.declared.plan.Policy.{Policy}
use Rattle.ppd_ast.specs.declared.program.Program.{Program}
use Rattle.ppd_ast.specs.Valid.{IsValid}
use Rattle.ppd_blocks.specs.Blocks.{plan_of}
use Rattle.ppd_sem.specs.Blocks.{block_kind}
use Rattle.ppd_model.specs.declared.flow.Origin.TheVariants as origin
use Rattle.ppd_model.specs.declared.trace.TracedEvent.{TracedEvent}
use Rattle.ppd_model.specs.Story.{story}
use Rattle.ppd_model.specs.Intervals.{own, nested, Span, Split, splits, ref}
use Rattle.ppd_model.specs.FlowbackEdges.{part_at}
use Rattle.ppd_model.specs.NearIntervals.{is_loop}
use Rattle.ppd_graph.specs.Seen.{seen_of}
use Rattle.ppd_graph.specs.Control.{control_origin}

-- item j of interval k of process p: an event's control comes from where its traced parent is an item; that of a
-- loop's interval is found as that of the loop's statement; and that of any other interval is the item before it
pub record HasFoundControl (program : Program) (plan : Plan) (xs : List Split) (x : Split) (p k j : ℕ) : Type 0 where
  pub event : (n : ℕ) (e : TracedEvent) → part_at x k j ≡ Some (own n) → slice_get x.trace.events n ≡ Some e
      → (control_origin program plan (seen_of x) p k j e.event.stmt).found
      ≡ option_map_or (ref xs) e.parent origin.Entry
  pub loop : (m l : ℕ) (i : Span) → part_at x k j ≡ Some (nested m) → slice_get x.spans m ≡ Some i
      → block_kind plan i.block ≡ block.Loop l
      → (control_origin program plan (seen_of x) p k j l).found ≡ option_map_or (ref xs) i.control origin.Entry
  pub function : (m : ℕ) (i : Span) → part_at x k j ≡ Some (nested m) → slice_get x.spans m ≡ Some i
      → is_loop (block_kind plan i.block) ≡ false
      → origin.Item p k (j - 1) ≡ option_map_or (ref xs) i.control origin.Entry

-- so it is with each item of each process after each schedule of a valid program with the plan of a policy
abbrev pub ControlsAreFound : Type 0
ControlsAreFound =
    (program : Program) (policy : Policy) (budget : ℕ) (h : List ℕ) (p : ℕ) (x : Split) → IsValid program
    → slice_get (splits (setting_by program policy budget) (story (setting_by program policy budget) h)) p
    ≡ Some x
    → (k j : ℕ)
    → HasFoundControl program (plan_of program policy)
    (splits (setting_by program policy budget) (story (setting_by program policy budget) h)) x p k j
