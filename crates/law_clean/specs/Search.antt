-- What `clean_edges` finds of an item, by the logs, their races and the replays of cut logs.
use Rattle.ppd_model.specs.Setting.{Setting}
use Rattle.law_clean.specs.Answers.{CleanOr, clean, is_reached, no_item, unclean, unclean_or, unwritten}
use Rattle.law_clean.specs.Cuts.{cut_logs}
use Rattle.law_clean.specs.Pasts.{any_raced, first_raced, left_edge}
use Rattle.ppd_ast.specs.declared.program.Program.{Program}
use Rattle.ppd_model.specs.declared.entry.Entry.{Entry}
use Rattle.ppd_model.specs.declared.entry.Logs.{Logs}
use Rattle.ppd_graph.specs.Ends.{edge_at, first_edge, is_sync_item}
use Rattle.ppd_graph.specs.Found.{found_edges}
use Rattle.ppd_graph.specs.Seen.{Seen}
use Rattle.ppd_graph.specs.Shared.{Missing, seen_at}
use Rattle.ppd_flow_past.specs.SeenBy.{seen_by}
use Rattle.ppd_model.specs.HappenedBefore.{edge, is_before, is_edge_before, node}
use Rattle.ppd_model.specs.RecordedSets.{record_in}
use Rattle.ppd_model.specs.Synchronizations.{Sync}
use Rattle.ppd_model.specs.declared.flow.FlowEdge.{FlowEdge}
use Rattle.ppd_model.specs.declared.flow.Item.{Item}
use Rattle.ppd_model.specs.declared.flow.Item.TheVariants as item
use Rattle.ppd_model.specs.declared.graph.EdgeId.{EdgeId}
use Rattle.ppd_model.specs.declared.graph.Race.{Race}
use Rattle.std.specs.List.{range_with_len}
use Rattle.std.specs.Prelude.{Bool, Err, List, None, Ok, Option, Result, Some, [], false, fold, get_or, if◌then◌else◌, length, map, nat_eq, nat_le, not, slice_get, suc, true, unwrap_or, zero, ℕ, ◌&&◌, ◌+◌, ◌||◌, ◌∷◌}

-- ---- by a record of synchronizations and races

module _ (program : Program) (rec : List (List Sync)) (races : List Race) where
  -- an edge of a race ends before the synchronization that ends edge e
  abbrev pub leads_from_race : EdgeId → Bool
  leads_from_race e = any_raced (λ a. is_before program rec (node a.process a.edge) (node e.process e.edge)) races

  -- ---- the edges that are wanted, where o is the first edge of process p whose past has a race, if there is one

  -- of p the edges before it, all where there is none
  abbrev pub own_last : ℕ → Option ℕ → Option ℕ
  own_last p None = Some (length (get_or rec p []))
  own_last p (Some zero) = None
  own_last p (Some (suc i)) = Some i

  -- of process q those before that edge, or before p's last one, up to q's first that is one of a race: neither edge i
  -- nor one before it in its process is one
  abbrev pub is_wanted : ℕ → ℕ → ℕ → ℕ → Bool
  is_wanted p top q i =
      is_edge_before program rec (edge q i) (edge p top)
      && not (any_raced (λ a. nat_eq a.process q && nat_le a.edge i) races)

  -- the last edge that is wanted of process q
  abbrev pub last_wanted : ℕ → Option ℕ → ℕ → Option ℕ
  last_wanted p o q =
      if nat_eq q p then own_last p o
      else fold (λ found i. if is_wanted p (unwrap_or o (length (get_or rec p []))) q i then Some i else found) None
      (range_with_len 0 (length (get_or rec q [])))

-- ---- by logs, of which this is the record

module _ (setting : Setting) (logs : Logs) (rec : List (List Sync)) (races : List Race) (p k j : ℕ) where
  -- what the replays of the cut logs give
  abbrev pub seens : Option ℕ → List Seen
  seens o = map (λ es. seen_by setting es) (cut_logs (last_wanted setting.program rec races p o) logs).lists

  -- the edge of an item at place j
  abbrev pub edge_of_item : List Seen → Item → ℕ
  edge_of_item xs (item.Own e) = edge_at (get_or logs.lists p []) (seen_at xs p) k j
  edge_of_item xs (item.Nested m b values closed) = left_edge (get_or logs.lists p []) m

  -- whether the past of an item has a race
  abbrev pub is_unclean : List Seen → Option ℕ → Item → Bool
  is_unclean xs None t = false
  is_unclean xs (Some u) t =
      nat_le u (edge_of_item xs t)
      || (is_sync_item t && leads_from_race setting.program rec races (edge p (edge_of_item xs t)))

  abbrev pub with_edges : Item → Option (Result (List FlowEdge) Missing) → CleanOr
  with_edges t None = no_item
  with_edges t (Some (Ok es)) = clean t es
  with_edges t (Some (Err m)) = unwritten m

  -- where there is no such item: the first raced edge if the interval reaches it
  abbrev pub by_item : Option ℕ → List Seen → Option Item → CleanOr
  by_item o xs None =
      if is_reached (left_edge (get_or logs.lists p []) k) o then unclean_or p o no_item else no_item
  by_item o xs (Some t) =
      if is_unclean xs o t then unclean_or p o no_item
      else with_edges t (found_edges setting.program setting.plan logs xs p k j).found

  abbrev pub by_first : Option ℕ → CleanOr
  by_first o = by_item o (seens o) (slice_get (get_or (seen_at (seens o) p).items k []) j)

  -- an interval that begins in such an edge is not replayed
  abbrev pub from_first : Option ℕ → CleanOr
  from_first None = by_first None
  from_first (Some u) =
      if nat_le u (first_edge (get_or logs.lists p []) k) then unclean (edge p u) else by_first (Some u)

-- what is found of item j of interval k of process p
abbrev pub clean_by : Setting → Logs → List Race → ℕ → ℕ → ℕ → CleanOr
clean_by setting logs races p k j =
    from_first setting logs (record_in logs) races p k j
    (first_raced setting.program (record_in logs) races (get_or logs.lists p []) p k)
