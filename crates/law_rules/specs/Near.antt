-- The intervals near to an item, one constructor for each rule.
use Rattle.ppd_model.specs.Setting.{Setting}
use Rattle.std.specs.Prelude.{◌≡◌, ◌↔◌, ℕ, true, List, ◌∷◌, IsTrue}
use Rattle.std.specs.List.{Any}
use Rattle.ppd_sem.specs.Blocks.{block_kind}
use Rattle.ppd_model.specs.declared.flow.FlowEdge.{FlowEdge}
use Rattle.ppd_model.specs.declared.flow.Origin.TheVariants as origin
use Rattle.ppd_model.specs.declared.tracing.Story.{Story}
use Rattle.ppd_model.specs.FlowbackEdges.{edges, part_at}
use Rattle.ppd_model.specs.Intervals.{Span, Split}
use Rattle.ppd_model.specs.NearIntervals.{edges_or_none, is_loop, is_near, is_open_at, surroundings}

-- one of the edges comes from this item
abbrev pub ComesFrom : List FlowEdge → (p k j : ℕ) → Type 0
ComesFrom es p k j = Any (λ e. e.from ≡ origin.Item p k j) es

-- in process q, of this split, interval m, which is this one, is near to item j of interval k of process p
pub data IsNear (setting : Setting) (story : Story) (p k j q : ℕ) (x : Split) (m : ℕ) (i : Span) : Type 0 where
  -- it is the item's own interval, or one round it
  is_round : p ≡ q → Any (λ n. m ≡ n) (surroundings x k) → IsNear setting story p k j q x m i
  -- it is a loop's, directly inside one of these
  is_loop_inside : (n : ℕ) (round : List ℕ) → p ≡ q → is_loop (block_kind setting.plan i.block) ≡ true
      → i.round ≡ n ∷ round
      → Any (λ o. n ≡ o) (surroundings x k) → IsNear setting story p k j q x m i
  -- it is open in the internal edge of the event that the item is
  is_open_there : p ≡ q → IsTrue (is_open_at x (part_at x k j) i) → IsNear setting story p k j q x m i
  -- an edge into the item comes from an item in it
  is_origin : (o : ℕ) → ComesFrom (edges_or_none (edges setting story p k j)) q m o
      → IsNear setting story p k j q x m i
  -- it is open in the internal edge of the event from which an edge into the item comes
  is_open_at_origin : (n o : ℕ) → ComesFrom (edges_or_none (edges setting story p k j)) q n o
      → IsTrue (is_open_at x (part_at x n o) i) → IsNear setting story p k j q x m i

-- an interval is near by these rules alone
abbrev pub NearIntervalsFollowTheRules : Type 0
NearIntervalsFollowTheRules =
    (setting : Setting) (story : Story) (p k j q : ℕ) (x : Split) (m : ℕ) (i : Span)
    → IsNear setting story p k j q x m i ↔ IsTrue (is_near setting story p k j q x m i)
