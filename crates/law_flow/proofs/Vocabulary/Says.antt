-- Which origin says a tag, what a cell has before its first write, and how many activations there are.
use Rattle.std.specs.Prelude.{◌≡◌, ℕ, suc, ◌+◌, ◌-◌, Bool, true, false, List, [], ◌∷◌, length, slice_get, Option, Some, None}
use Rattle.ppd_ast.specs.declared.plan.BlockKind.{BlockKind}
use Rattle.ppd_ast.specs.declared.plan.BlockKind.TheVariants as block
use Rattle.ppd_ast.specs.declared.plan.Plan.{Plan}
use Rattle.ppd_ast.specs.declared.program.Program.{Program}
use Rattle.ppd_sem.specs.Blocks.{block_kind, prelog_cells}
use Rattle.ppd_model.specs.FlowbackEdges.{part_at}
use Rattle.ppd_model.specs.FullTrace.{Tag}
use Rattle.ppd_model.specs.Intervals.{own, Split}
use Rattle.ppd_model.specs.NearIntervals.{is_in}
use Rattle.ppd_model.specs.declared.flow.Origin.{Origin}
use Rattle.ppd_model.specs.declared.flow.Origin.TheVariants as origin
use Rattle.ppd_model.specs.declared.trace.EventId.{EventId}
use Rattle.ppd_model.specs.declared.trace.TracedEvent.{TracedEvent}
use Rattle.ppd_graph.specs.Locals.{frame_in}
use Rattle.law_flow.specs.Places.Levels.{Level}
use Rattle.law_flow.specs.Places.Leaves.{leaf_of}

-- the origin is the item that the event of the tag is
pub record IsItemOf (y : Split) (p : ℕ) (o : Origin) (e : EventId) : Type 0 where
  pub interval : ℕ
  pub item : ℕ
  pub event : ℕ
  pub traced : TracedEvent
  pub event_is : e ≡ record { process = p; number = event }
  pub traced_is : slice_get y.trace.events event ≡ Some traced
  pub at : part_at y interval item ≡ Some (own event)
  pub origin_is : o ≡ origin.Item p interval item

-- the origin is that of a cell with this tag: without a tag the cell has its start value
abbrev pub Says : Split → ℕ → Origin → Tag → Type 0
Says y p o None = o ≡ origin.Initial
Says y p o (Some e) = IsItemOf y p o e

-- what was found says so; where nothing was found, this holds
abbrev pub SaysOr : Split → ℕ → Option Origin → Tag → Type 0 → Type 0
SaysOr y p None w otherwise = otherwise
SaysOr y p (Some o) w otherwise = Says y p o w

-- the last part of the level outside is the tag's event: the call
abbrev pub IsFromCall : Split → ℕ → List Level → Tag → Type 0
IsFromCall y p [] w = ⊥
IsFromCall y p (o ∷ os) w = Says y p (origin.Item p o.interval (length o.parts - 1)) w

-- a parameter has the tag of the call, another cell none
abbrev pub IsPassed : Split → ℕ → Bool → List Level → Tag → Type 0
IsPassed y p true outside w = IsFromCall y p outside w
IsPassed y p false outside w = w ≡ None

-- the tag that a cell has before the first write, in an interval of this kind, other than a loop
abbrev pub IsUnwritten : Plan → ℕ → Split → ℕ → List Level → BlockKind → ℕ → Tag → Type 0
IsUnwritten plan p y b outside (block.Function f) c w = IsPassed y p (is_in c (prelog_cells plan b)) outside w
IsUnwritten plan p y b outside (block.Process f) c w = w ≡ None
IsUnwritten plan p y b outside (block.Loop q) c w = ⊥

-- with the activation that a level of this kind has of its own: a loop runs in the one outside
abbrev pub with_own : BlockKind → ℕ → ℕ
with_own (block.Loop q) n = n
with_own (block.Function f) n = suc n
with_own (block.Process b) n = suc n

-- how many activations there are at these levels
abbrev pub activations : Program → Plan → Split → List Level → ℕ
activations program plan y [] = 0
activations program plan y (l ∷ ls) =
    frame_in (leaf_of program plan y l) + with_own (block_kind plan l.block) (activations program plan y ls)
