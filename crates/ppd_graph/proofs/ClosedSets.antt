-- The sets of the edges of a process, as its closed log records them, are those of the run.
use Rattle.ppd_model.specs.Setting.{Setting}
use Rattle.std.proofs.Common.{◌≡◌, ℕ, ◌<◌, List, [], ◌∷◌, ◌++◌, None, true, false, refl, ap, ◌∙◌, length, map, get_or, filter_map, true≢false}
use Rattle.std.specs.List.{list_any, range_with_len}
use Rattle.std.proofs.lemmas.Option.{slice_get-get_or}
use Rattle.ppd_ast.specs.Valid.{IsValid}
use Rattle.ppd_ast.specs.declared.status.Status.{Status}
use Rattle.ppd_model.specs.declared.entry.Entry.{Entry}
use Rattle.ppd_model.specs.declared.entry.Entry.TheVariants as entry
use Rattle.ppd_model.specs.Entries.{is_end}
use Rattle.ppd_model.specs.Logs.{closed_logs}
use Rattle.ppd_model.specs.RecordedSets as recorded
use Rattle.ppd_model.specs.RecordedSets.{RecordsAccesses, set_in, last_edge, sets_at_sync}
use Rattle.ppd_model.specs.Story.{story}
use Rattle.ppd_model.specs.declared.tracing.Story.{Story}
use Rattle.ppd_model.proofs.RecordedSets.{record_sets}
use Rattle.ppd_model.proofs.OneHistory.{map-map}
use Rattle.ppd_graph.specs.declared.sets.EdgeSets.{EdgeSets}
use Rattle.ppd_graph.specs.LogRecord.{edge_sets, edge_sets_in, sets_from}
use Rattle.ppd_graph.proofs.Built.{at_there}

ended : List ℕ × List ℕ → EdgeSets
ended t = edge_sets t.0 t.1

closed_sets : (before : List Entry) (status : Status) (rest : ℕ) (r w : List ℕ) → list_any is_end before ≡ false → sets_from None (before ++ entry.End status rest r w ∷ []) ≡ map ended (filter_map sets_at_sync before) ++ edge_sets r w ∷ []
unfolding ended
closed_sets [] status rest r w h = refl
closed_sets (entry.Sync kind object number value reads writes ∷ es) status rest r w h = ap (λ x. edge_sets reads writes ∷ x) (closed_sets es status rest r w h)
closed_sets (entry.Prelog block values ∷ es) status rest r w h = closed_sets es status rest r w h
closed_sets (entry.Unit unit values ∷ es) status rest r w h = closed_sets es status rest r w h
closed_sets (entry.Postlog block values ∷ es) status rest r w h = closed_sets es status rest r w h
closed_sets (entry.End status' rest' reads writes ∷ es) status rest r w h = absurd (true≢false h)

-- the sets of an edge in the run
unfoldable pub run_sets : Story → ℕ → ℕ → EdgeSets
run_sets s p i = edge_sets (set_in s p i false) (set_in s p i true)

pub row_sets : (setting : Setting) (h : List ℕ) → IsValid setting.program → (p : ℕ)
    → p < length (closed_logs setting h).lists
    → get_or (edge_sets_in (closed_logs setting h)) p []
    ≡ map (run_sets (story setting h) p) (range_with_len 0 (last_edge (story setting h) p))
    ++ run_sets (story setting h) p (last_edge (story setting h) p) ∷ []
unfolding run_sets ended
row_sets setting h valid p lt =
    let s = story setting h in
    let entries = get_or (closed_logs setting h).lists p [] in
    let r : RecordsAccesses s p entries =
    record_sets setting h p entries valid (slice_get-get_or (closed_logs setting h).lists p [] lt) in
    at_there (sets_from None) (closed_logs setting h).lists p lt
    ∙ ap (sets_from None) r.entries_are
    ∙ closed_sets r.before r.status r.rest (set_in s p (last_edge s p) false) (set_in s p (last_edge s p) true) r.no_end
    ∙ ap (λ x. map ended x ++ edge_sets (set_in s p (last_edge s p) false) (set_in s p (last_edge s p) true) ∷ []) r.syncs_are
    ∙ ap (λ x. x ++ edge_sets (set_in s p (last_edge s p) false) (set_in s p (last_edge s p) true) ∷ [])
    (map-map ended (recorded.sets_in s p) (range_with_len 0 (last_edge s p)))
