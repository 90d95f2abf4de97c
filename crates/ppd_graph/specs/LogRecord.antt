-- The cells that logs say each internal edge accesses.
use Rattle.std.specs.Prelude.{ℕ, ◌+◌, ◌<◌, ◌^◌, get_or, length, List, [], ◌∷◌, map, unwrap_or, Option, Some, None}
use Rattle.ppd_model.specs.declared.entry.Entry.{Entry}
use Rattle.ppd_model.specs.declared.entry.Entry.TheVariants as entry
use Rattle.ppd_model.specs.declared.entry.Logs.{Logs}
use Rattle.ppd_graph.specs.declared.sets.EdgeSets.{EdgeSets}

-- ---- recorded sets

abbrev pub edge_sets : List ℕ → List ℕ → EdgeSets
edge_sets reads writes = record { reads = reads; writes = writes }

abbrev pub no_sets : EdgeSets
no_sets = edge_sets [] []

-- the sets of each edge of a process: those of the synchronization that ends it; of the last edge those of
-- the first `End` after the last synchronization, of which `found` has what stood before these entries
abbrev pub sets_from : Option EdgeSets → List Entry → List EdgeSets
sets_from found [] = unwrap_or found no_sets ∷ []
sets_from found (entry.Sync kind object number value reads writes ∷ es) = edge_sets reads writes ∷ sets_from None es
sets_from found (entry.End status rest reads writes ∷ es) =
    sets_from (Some (unwrap_or found (edge_sets reads writes))) es
sets_from found (e ∷ es) = sets_from found es

-- the sets of each edge of each process
abbrev pub edge_sets_in : Logs → List (List EdgeSets)
edge_sets_in logs = map (sets_from None) logs.lists

-- each list's entries have 32-bit numbers, and one is left
abbrev pub AreFew : List (List Entry) → Type 0
AreFew lists = (p : ℕ) → length (get_or lists p []) + 1 < 2 ^ 32
