-- In a whole schedule with races: the search over what the whole run is finds the edges of a clean item.
use Rattle.law_steps.specs.Policies.{setting_by}
use Rattle.ppd_model.specs.Setting.{Setting}
use Rattle.law_clean.proofs.Found.{clean_found}
use Rattle.law_clean.proofs.PastClear.{clear_before, clear_own}
use Rattle.law_clean.proofs.Vocabulary.{IsUnraced}
use Rattle.law_clean.specs.Ordered.{IsCleanAt}
use Rattle.law_clean.specs.Pasts.{is_clean, lies}
use Rattle.law_flow.proofs.Loops.OwnParts.{own_parts}
use Rattle.law_flow.proofs.Edges.Assembled.{all_edges}
use Rattle.law_flow.proofs.Edges.Near.Nearby.{counted}
use Rattle.law_flow.proofs.Edges.Sources.ReadOrigins.{by_found}
use Rattle.law_flow.proofs.Edges.Spans.Facts.{count_to}
use Rattle.law_flow.proofs.Edges.StepEvents.Processes.{Facts, facts}
use Rattle.law_flow.proofs.Edges.StepEvents.ReadSteps.{ReadsAt, reads_at}
use Rattle.law_flow.proofs.Edges.StepEvents.Timeline.{did, did_more}
use Rattle.law_flow.proofs.Edges.StepEvents.Writers.{edge_is_count, ev_count}
use Rattle.law_flow.specs.Edges.SharedEdges.{IsSharedRead, all_seen}
use Rattle.ppd_ast.proofs.ValidLaws.{slice_get_below}
use Rattle.ppd_ast.specs.Valid.{IsValid}
use Rattle.ppd_ast.specs.declared.plan.Policy.{Policy}
use Rattle.ppd_ast.specs.declared.program.Program.{Program}
use Rattle.ppd_blocks.specs.Blocks.{plan_of}
use Rattle.ppd_graph.specs.Found.{found_edges}
use Rattle.ppd_graph.specs.Shared.{shared_origin}
use Rattle.ppd_model.proofs.AccessSets.{accesses_there}
use Rattle.ppd_model.proofs.Changes.{some}
use Rattle.ppd_model.proofs.SharedReads.{steps_access}
use Rattle.ppd_model.specs.FlowbackEdges.{edges, part_at}
use Rattle.ppd_model.specs.Forward.{edge_in}
use Rattle.ppd_model.specs.FullTrace.{Tag}
use Rattle.ppd_model.specs.HappenedBefore.{EdgeBefore, edge}
use Rattle.ppd_model.specs.Intervals.{Part, Split, own, ref, splits}
use Rattle.ppd_model.specs.Laws.{begins}
use Rattle.ppd_model.specs.Logs.{closed_logs}
use Rattle.ppd_model.specs.NearIntervals.{edge_of_event}
use Rattle.ppd_model.specs.Record.{record_of}
use Rattle.ppd_model.specs.Schedule.{run}
use Rattle.ppd_model.specs.SharedReads.{IsFound}
use Rattle.ppd_model.specs.Story.{Telling, story, tell, told}
use Rattle.ppd_model.specs.Synchronizations.{sync_of}
use Rattle.ppd_model.specs.World.{World}
use Rattle.ppd_model.specs.declared.flow.Origin.TheVariants as origin
use Rattle.ppd_model.specs.declared.tracing.Story.{Story}
use Rattle.ppd_model.specs.declared.tracing.Taken.{Taken}
use Rattle.std.proofs.Common.{List, Ok, Some, ap, false, length, refl, subst, sym, true, ℕ, ◌++◌, ◌<◌, ◌∙◌, ◌∷◌, ◌≡◌, ◌≤◌}
use Rattle.std.proofs.lemmas.List.Sums.{fold-append}
use Rattle.std.specs.Option.{option_map_or}
use Rattle.std.specs.Prelude.{[], filter_map, get_or, option_map, slice_get}

module _ (setting : Setting) (h : List ℕ) (w : World) (v : IsValid setting.program) (r : run setting h ≡ Some w) (p k j : ℕ) where
  abbrev s : Story
  s = story setting h

  -- no race has this edge of the process, or one before it
  abbrev pub IsClear : ℕ → Type 0
  IsClear e = IsUnraced setting.program s (edge p e) × ((q i : ℕ) → EdgeBefore setting.program (record_of s) (edge q i) (edge p e) → IsUnraced setting.program s (edge q i))

  module _ (c : ℕ) (tag : Tag) (read : IsSharedRead setting h p k j c tag) where
    f : Facts setting h v p read.split
    f = facts setting h v p read.split read.there

    at : ReadsAt setting h v p read.number c tag
    at = reads_at setting h v p read.split f read.number read.event read.read c read.access tag read.event_is read.access_is read.spot read.tagged

    -- its step is in the edge of the event
    so_far : (more : List Taken) × (did (told setting h) p ≡ did (told setting at.sooner) p ++ more)
    so_far =
        let m = did_more setting.program setting.plan c p (told setting at.sooner) (p ∷ at.later) in (
          m.0,
          ap (λ l. did (told setting l) p) at.schedule_is ∙ ap (λ (t : Telling). did t p) (fold-append (tell setting.program setting.plan) (begins setting) at.sooner (p ∷ at.later)) ∙ m.1,
        )

    edge_is : edge_in setting at.sooner p ≡ edge_of_event read.split read.number
    edge_is =
        edge_is_count setting at.sooner p ∙ sym (ev_count setting h v p read.split f (did (told setting at.sooner) p) so_far.0 so_far.1)
        ∙ ap (count_to read.split.trace.events) at.events_are ∙ sym (counted read.split.trace.events read.number)

    clean_at : IsClear (edge_of_event read.split read.number) → IsCleanAt setting at.sooner (at.sooner ++ p ∷ at.later) p
    clean_at clear =
        subst (λ l. IsCleanAt setting at.sooner l p) at.schedule_is (subst (λ e. IsClear e) (sym edge_is) clear)

    pub clean_origin : IsClear (edge_of_event read.split read.number)
        → (shared_origin setting.program (closed_logs setting h) (all_seen setting h) p k j c).found ≡ Ok (option_map_or (ref (splits setting s)) tag origin.Initial)
    clean_origin clear =
        let m = steps_access setting at.sooner p at.later c false at.needs in
        let lt : c < length setting.program.starts = accesses_there setting (at.sooner ++ p ∷ at.later) p m.0 (record { edge = edge_in setting at.sooner p; cell = c; writes = false }) v m.1 in
        let found : IsFound setting at.sooner (at.sooner ++ p ∷ at.later) p c =
        clean_found setting at.sooner p at.later w (subst (λ l. run setting l ≡ Some w) at.schedule_is r) (clean_at clear) c lt at.needs in
        by_found setting h w v r p k j c read.number read.split f read.placed (slice_get_below read.split.trace.events read.number read.event read.event_is) at.sooner at.later at.schedule_is at.needs at.events_are tag at.tag_is
        (subst (λ l. IsFound setting at.sooner l p c) (sym at.schedule_is) found)

-- all edges of a clean item of a process that is there, in an edge that is there
pub clean_edges_found : (program : Program) (policy : Policy) (budget : ℕ) (h : List ℕ) (w : World) (p k j : ℕ) (x : Split) (part : Part)
    → IsValid program → run (setting_by program policy budget) h ≡ Some w
    → slice_get (splits (setting_by program policy budget) (story (setting_by program policy budget) h)) p ≡ Some x
    → part_at x k j ≡ Some part
    → p < length (story (setting_by program policy budget) h).steps
    → (lies (get_or (closed_logs (setting_by program policy budget) h).lists p []) x part).edge ≤ length (filter_map sync_of (get_or (story (setting_by program policy budget) h).steps p []))
    → is_clean program (story (setting_by program policy budget) h) p (lies (get_or (closed_logs (setting_by program policy budget) h).lists p []) x part) ≡ true
    → (found_edges program (plan_of program policy) (closed_logs (setting_by program policy budget) h) (all_seen (setting_by program policy budget) h) p k j).found
    ≡ option_map (λ es. Ok es) (edges (setting_by program policy budget) (story (setting_by program policy budget) h) p k j)
clean_edges_found program policy budget h w p k j x part v r there place lt le clean =
    all_edges (setting_by program policy budget) h v p k j x there (own_parts program policy budget h p k j x v there)
    (λ c tag read. clean_origin (setting_by program policy budget) h w v r p k j c tag read (by c tag read part place refl))
  where
    t : Story
    t = story (setting_by program policy budget) h

    by : (c : ℕ) (tag : Tag) (read : IsSharedRead (setting_by program policy budget) h p k j c tag) (q : Part) → part_at x k j ≡ Some q → q ≡ part
        → IsClear (setting_by program policy budget) h w v r p k j (edge_of_event read.split read.number)
    by c tag read q at same =
        let is : read.split ≡ x = some (sym read.there ∙ there) in
        let mine : own read.number ≡ part = some (sym read.placed ∙ ap (λ (y : Split). part_at y k j) is ∙ place) in
        let edge_is : (lies (get_or (closed_logs (setting_by program policy budget) h).lists p []) x part).edge ≡ edge_of_event read.split read.number = ap (λ z. (lies (get_or (closed_logs (setting_by program policy budget) h).lists p []) x z).edge) (sym mine) ∙ ap (λ (y : Split). edge_of_event y read.number) (sym is) in
        subst (λ e. IsClear (setting_by program policy budget) h w v r p k j e) edge_is
        (clear_own program t p (lies (get_or (closed_logs (setting_by program policy budget) h).lists p []) x part) clean, clear_before program t p (lies (get_or (closed_logs (setting_by program policy budget) h).lists p []) x part) clean)
