-- What the walk back over an internal edge replays is near to the event where it begins.
use Rattle.ppd_model.specs.Setting.{Setting}
use Rattle.std.specs.Prelude.{◌≡◌, ℕ, ◌≤◌, true, List, ◌∷◌, slice_get, Some, ◌⊎◌}
use Rattle.ppd_ast.specs.Valid.{IsValid}
use Rattle.ppd_model.specs.declared.trace.TracedEvent.{TracedEvent}
use Rattle.ppd_model.specs.FlowbackEdges.{part_at}
use Rattle.ppd_model.specs.Intervals.{own, Span, Split, splits}
use Rattle.ppd_model.specs.NearIntervals.{edge_of_event, is_in, is_open_in, near_steps, surroundings}
use Rattle.ppd_model.specs.Story.{story}
use Rattle.ppd_graph.specs.Seen.{seen_of}
use Rattle.ppd_graph.specs.Walk.{walk}
use Rattle.law_flow.specs.Edges.Within.{AreDistinct, cost}

-- the interval is there and is open in this edge
pub record IsOpenAt (x : Split) (e m : ℕ) : Type 0 where
  pub span : Span
  pub is_there : slice_get x.spans m ≡ Some span
  pub is_open : is_open_in x e span ≡ true

-- in each schedule of a valid program, with or without a race: each interval that the walk from event n replays, which
-- is item j of interval k, is one of those round it or is open in the event's edge
abbrev pub WalksStayNear : Type 0
WalksStayNear =
    (setting : Setting) (h : List ℕ) (p k j n c : ℕ) (x : Split) (e : TracedEvent)
    → IsValid setting.program → slice_get (splits setting (story setting h)) p ≡ Some x
    → part_at x k j ≡ Some (own n) → slice_get x.trace.events n ≡ Some e
    → (m : ℕ) → is_in m (walk (seen_of x) c k j).replays ≡ true
    → (is_in m (surroundings x k) ≡ true) ⊎ IsOpenAt x (edge_of_event x n) m

-- and it replays each interval at most once, and not that of the event: with it they have no more own steps than the
-- intervals near to the event have
abbrev pub WalksCostLittle : Type 0
WalksCostLittle =
    (setting : Setting) (h : List ℕ) (p k j n c : ℕ) (x : Split) (e : TracedEvent)
    → IsValid setting.program → slice_get (splits setting (story setting h)) p ≡ Some x
    → part_at x k j ≡ Some (own n) → slice_get x.trace.events n ≡ Some e
    → AreDistinct (k ∷ (walk (seen_of x) c k j).replays)
    × (cost x.spans (k ∷ (walk (seen_of x) c k j).replays)
    ≤ near_steps setting (story setting h) p k j)
