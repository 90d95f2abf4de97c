-- What is answered of an item in a run with races.
use Rattle.ppd_model.specs.Setting.{Setting}
use Rattle.law_clean.specs.Pasts.{first_raced, is_clean, left_edge, lies}
use Rattle.ppd_graph.specs.Shared.{Missing}
use Rattle.ppd_model.specs.FlowbackEdges.{edges}
use Rattle.ppd_model.specs.HappenedBefore.{edge}
use Rattle.ppd_model.specs.Intervals.{Part, Split, item_of, splits}
use Rattle.ppd_model.specs.Logs.{closed_logs}
use Rattle.ppd_model.specs.Races.{races}
use Rattle.ppd_model.specs.Record.{sync_record}
use Rattle.ppd_model.specs.Story.{story}
use Rattle.ppd_model.specs.declared.flow.FlowEdge.{FlowEdge}
use Rattle.ppd_model.specs.declared.flow.Item.{Item}
use Rattle.ppd_model.specs.declared.graph.EdgeId.{EdgeId}
use Rattle.std.specs.Option.{option_map_or}
use Rattle.std.specs.Prelude.{Bool, List, None, Option, Some, [], false, get_or, if◌then◌else◌, nat_le, slice_get, unwrap_or, ℕ}

-- an item with its edges; an edge whose past has a race; that there is no such item; or a write that an edge records
-- and its replay does not do
pub data CleanOr : Type 0 where
  clean : Item → List FlowEdge → CleanOr
  unclean : EdgeId → CleanOr
  no_item : CleanOr
  unwritten : Missing → CleanOr

-- the first raced edge of process p, if there is one
abbrev pub unclean_or : ℕ → Option ℕ → CleanOr → CleanOr
unclean_or p None otherwise = otherwise
unclean_or p (Some i) otherwise = unclean (edge p i)

-- there is such an edge, and it is this one or one before it
abbrev pub is_reached : ℕ → Option ℕ → Bool
is_reached last o = option_map_or (λ u. nat_le u last) o false

module _ (setting : Setting) (h : List ℕ) (p k j : ℕ) where
  -- interval k of process p, in its split, where this is the first edge whose past has a race: of an item that is not
  -- there, that edge if the interval reaches it
  abbrev pub by_part : Option ℕ → Split → Option Part → CleanOr
  by_part first x None =
      if is_reached (left_edge (get_or (closed_logs setting h).lists p []) k) first
      then unclean_or p first no_item else no_item
  by_part first x (Some part) =
      if is_clean setting.program (story setting h) p
      (lies (get_or (closed_logs setting h).lists p []) x part) then
      option_map_or (λ t. clean t (unwrap_or (edges setting (story setting h) p k j) []))
      (slice_get (item_of x part) 0) no_item
      else unclean_or p first no_item

  -- what is to be answered of item j of interval k of process p
  abbrev pub answer_of : CleanOr
  answer_of =
      let first = first_raced setting.program (sync_record setting h) (races setting h)
      (get_or (closed_logs setting h).lists p []) p k in
      option_map_or (λ x. option_map_or (λ i. by_part first x (slice_get i.parts j)) (slice_get x.spans k) no_item)
      (slice_get (splits setting (story setting h)) p) no_item
