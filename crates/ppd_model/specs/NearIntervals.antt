-- The intervals near to an item: those of its own surroundings and of the origins of its edges.
use Rattle.ppd_model.specs.Setting.{Setting}
use Rattle.std.specs.Prelude.{ℕ, ◌+◌, nat_eq, Bool, true, false, ◌&&◌, ◌||◌, List, [], ◌∷◌, ◌++◌, drop, take, slice_get, count_by, sum_by, Option, Some, None, is_some, if◌then◌else◌}
use Rattle.std.specs.List.{list_any}
use Rattle.ppd_sem.specs.Blocks.{block_kind}
use Rattle.ppd_ast.specs.declared.plan.BlockKind.{BlockKind}
use Rattle.ppd_ast.specs.declared.plan.BlockKind.TheVariants as block
use Rattle.ppd_ast.specs.declared.plan.Plan.{Plan}
use Rattle.ppd_model.specs.declared.flow.FlowEdge.{FlowEdge}
use Rattle.ppd_model.specs.declared.flow.Origin.{Origin}
use Rattle.ppd_model.specs.declared.flow.Origin.TheVariants as origin
use Rattle.ppd_model.specs.Story.{Story}
use Rattle.ppd_model.specs.Intervals.{Part, own, Span, Split, splits}
use Rattle.ppd_model.specs.FlowbackEdges.{edges, last, part_at}

-- ---- open in an edge

-- the edges of the steps through number n, or of all
abbrev pub through_step : Option ℕ → List ℕ → List ℕ
through_step None edges = edges
through_step (Some n) edges = take (n + 1) edges

-- some step from the one that writes the prelog through the one that writes the postlog, or to the
-- end, lies in this edge
abbrev pub is_open_in : Split → ℕ → Span → Bool
is_open_in x e i = list_any (λ d. nat_eq d e) (drop i.opened (through_step i.closed x.edges))

-- the edge in which an event lies: how many synchronizations its process did before it
abbrev pub edge_of_event : Split → ℕ → ℕ
edge_of_event x n = count_by (λ e. is_some e.event.number) (take n x.trace.events)

-- open in the edge of the event that an item is
abbrev pub is_open_at : Split → Option Part → Span → Bool
is_open_at x (Some (own n)) i = is_open_in x (edge_of_event x n) i
is_open_at x part i = false

-- ---- round an item

-- the intervals round an interval that is there
abbrev pub round_of : Option Span → List ℕ
round_of None = []
round_of (Some i) = i.round

-- interval k, and every interval round it
abbrev pub surroundings : Split → ℕ → List ℕ
surroundings x k = k ∷ round_of (slice_get x.spans k)

-- number m is one of these
abbrev pub is_in : ℕ → List ℕ → Bool
is_in m ms = list_any (nat_eq m) ms

-- the block is a loop
abbrev pub is_loop : BlockKind → Bool
is_loop (block.Loop s) = true
is_loop kind = false

-- the innermost of the intervals round it is one of these
abbrev pub is_inside : List ℕ → List ℕ → Bool
is_inside [] ms = false
is_inside (m ∷ round) ms = is_in m ms

-- interval m is one of these, or a loop's directly inside one of these
abbrev pub is_round : Plan → List ℕ → ℕ → Span → Bool
is_round plan ms m i = is_in m ms || (is_loop (block_kind plan i.block) && is_inside i.round ms)

-- ---- near

-- interval m of process q is that of the origin, or is open in the edge of the event there
abbrev pub is_near_origin : ℕ → Split → ℕ → Span → Origin → Bool
is_near_origin q x m i origin.Initial = false
is_near_origin q x m i origin.Entry = false
is_near_origin q x m i (origin.Item p k j) = nat_eq p q && (nat_eq k m || is_open_at x (part_at x k j) i)

-- no edges where there is no item
abbrev pub edges_or_none : Option (List FlowEdge) → List FlowEdge
edges_or_none None = []
edges_or_none (Some es) = es

-- interval m of process q, for item j of interval k of process p
abbrev pub is_near : Setting → Story → ℕ → ℕ → ℕ → ℕ → Split → ℕ → Span → Bool
is_near setting story p k j q x m i =
    (nat_eq p q && (is_round setting.plan (surroundings x k) m i || is_open_at x (part_at x k j) i))
    || list_any (λ e. is_near_origin q x m i e.from) (edges_or_none (edges setting story p k j))

-- the intervals of one process that pass, from number m on
abbrev pub passing : (ℕ → Span → Bool) → ℕ → List Span → List Span
passing near m [] = []
passing near m (i ∷ is) = if near m i then i ∷ passing near (m + 1) is else passing near (m + 1) is

-- the intervals that pass, of the processes from number q on
abbrev pub near_from : (ℕ → Split → ℕ → Span → Bool) → ℕ → List Split → List Span
near_from near q [] = []
near_from near q (x ∷ xs) = passing (near q x) 0 x.spans ++ near_from near (q + 1) xs

-- the intervals near to item j of interval k of process p
abbrev pub near_intervals : Setting → Story → ℕ → ℕ → ℕ → List Span
near_intervals setting story p k j =
    near_from (is_near setting story p k j) 0 (splits setting story)

-- the own steps of all of them
abbrev pub near_steps : Setting → Story → ℕ → ℕ → ℕ → ℕ
near_steps setting story p k j = sum_by (λ i. i.steps) (near_intervals setting story p k j)

-- ---- the last value of a cell

-- the intervals of a process that are open in the edge of the event that item j of interval k is
abbrev pub open_beside : Option Split → ℕ → ℕ → List Span
open_beside None k j = []
open_beside (Some x) k j = passing (λ m i. is_open_at x (part_at x k j) i) 0 x.spans

-- those of the origin's process that are open in the origin's edge
abbrev pub open_at_origin : List Split → Origin → List Span
open_at_origin xs origin.Initial = []
open_at_origin xs origin.Entry = []
open_at_origin xs (origin.Item p k j) = open_beside (slice_get xs p) k j

-- the intervals that are open where the last value of shared cell c was written
abbrev pub last_intervals : Setting → Story → ℕ → List Span
last_intervals setting story c =
    open_at_origin (splits setting story) (last setting story c).1

-- the own steps of all of them
abbrev pub last_steps : Setting → Story → ℕ → ℕ
last_steps setting story c = sum_by (λ i. i.steps) (last_intervals setting story c)
