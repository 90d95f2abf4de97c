-- The words of proofs for pasts, for what is answered and for cut logs.
use Rattle.law_clean.specs.Answers.{CleanOr, clean, no_item}
use Rattle.law_clean.specs.Cuts.{cut}
use Rattle.law_clean.specs.Pasts.{Lies, any_raced, is_past, is_same_edge}
use Rattle.law_clean.specs.Search.{is_wanted}
use Rattle.ppd_ast.specs.declared.program.Program.{Program}
use Rattle.ppd_model.specs.declared.entry.Entry.{Entry}
use Rattle.ppd_graph.specs.Ends.{syncs_before}
use Rattle.ppd_model.specs.Extents.{Extent}
use Rattle.ppd_model.specs.HappenedBefore.{edge, is_before, node}
use Rattle.ppd_model.specs.Record.{record_of}
use Rattle.ppd_model.specs.RecordedSets.{sync_in}
use Rattle.ppd_model.specs.Synchronizations.{Sync}
use Rattle.ppd_model.specs.declared.flow.FlowEdge.{FlowEdge}
use Rattle.ppd_model.specs.declared.flow.Item.{Item}
use Rattle.ppd_model.specs.declared.graph.EdgeId.{EdgeId}
use Rattle.ppd_model.specs.declared.graph.Race.{Race}
use Rattle.ppd_model.specs.declared.tracing.Story.{Story}
use Rattle.std.specs.List.{enumerate_from, range_with_len}
use Rattle.std.specs.Option.{option_map_or}
use Rattle.std.specs.Prelude.{Bool, List, None, Option, Some, [], filter_map, fold, get_or, if◌then◌else◌, length, map, nat_eq, nat_le, slice_get, unwrap_or, ℕ, ◌&&◌, ◌||◌}

-- one of the two edges of a race passes the test
abbrev pub tests : (EdgeId → Bool) → Race → Bool
tests t r = t (edge r.p r.i) || t (edge r.q r.j)

-- the edge is one of the two of the race
abbrev pub is_of_race : EdgeId → Race → Bool
is_of_race e r = tests (λ a. is_same_edge a e) r

-- the edge in which an interval of these entries is left
abbrev pub left_in : List Entry → Option Extent → ℕ
left_in entries o =
    option_map_or
    (λ (x : Extent). if x.closed then syncs_before entries (unwrap_or x.last 0) else length (filter_map sync_in entries))
    o 0

-- the past of an item of process p that lies so: that of its last edge, and for a synchronization also every edge that
-- ends in a synchronization before it
abbrev pub is_item_past : Program → Story → ℕ → Lies → EdgeId → Bool
is_item_past program s p l a =
    is_past program (record_of s) (edge p l.edge) a
    || (l.ends && is_before program (record_of s) (node a.process a.edge) (node p l.edge))

-- the first of these with its edges, if there is one
abbrev pub first_item : List Item → List FlowEdge → CleanOr
first_item ts es = option_map_or (λ t. clean t es) (slice_get ts 0) no_item

-- the lists of the processes from number p on, each cut after the last edge that is wanted of its process
abbrev pub cut_from : (ℕ → Option ℕ) → ℕ → List (List Entry) → List (List Entry)
cut_from last p lists = map (λ (e : ℕ × List Entry). cut (last e.0) e.1) (enumerate_from p lists)

module _ (program : Program) (rec : List (List Sync)) (races : List Race) where
  -- edge i of process q, or one before it in its process, is one of a race
  abbrev pub is_raced_to : ℕ → ℕ → Bool
  is_raced_to q i = any_raced (λ a. nat_eq a.process q && nat_le a.edge i) races

  -- the last edge of process q that is wanted before edge `top` of process p
  abbrev pub other_last : ℕ → ℕ → ℕ → Option ℕ
  other_last p top q =
      fold (λ (found : Option ℕ) (i : ℕ). if is_wanted program rec races p top q i then Some i else found) None
      (range_with_len 0 (length (get_or rec q [])))
