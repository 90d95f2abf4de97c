-- What replays of cut logs give of each process: what it has after a beginning of the schedule, if no race has an edge
-- of it up to there.
use Rattle.law_steps.specs.Policies.{setting_by}
use Rattle.ppd_model.specs.Setting.{Setting, setting_of}
use Rattle.std.specs.Option.{option_map_or}
use Rattle.std.proofs.Common.{◌≡◌, ℕ, zero, suc, ◌+◌, ◌<◌, ◌≤◌, true, false, List, [], ◌∷◌, ◌++◌, length, map, Option, Some, None, refl, ap, ap₂, sym, subst, ◌∙◌, arith, append-nil, true≢false, if◌then◌else◌}
use Rattle.std.proofs.lemmas.Option.{get_or_from_slice_get, none-some, slice_get-map}
use Rattle.std.specs.Prelude.{filter_map, is_some, option_map, option_to_list, slice_get, get_or}
use Rattle.ppd_ast.specs.declared.plan.Plan.{Plan}
use Rattle.ppd_ast.specs.declared.plan.Policy.{Policy}
use Rattle.ppd_ast.specs.declared.program.Program.{Program}
use Rattle.ppd_ast.specs.Valid.{IsValid}
use Rattle.ppd_ast.proofs.ValidLaws.{slice_get_there}
use Rattle.ppd_blocks.specs.Blocks.{plan_of}
use Rattle.ppd_model.specs.declared.entry.Entry.{Entry}
use Rattle.ppd_model.specs.declared.entry.Entry.TheVariants as entry
use Rattle.ppd_model.specs.IntervalLogs.{indexed, interval_log}
use Rattle.law_steps.specs.InForce.Values.{AreRead, begun_in_force}
use Rattle.ppd_model.specs.declared.flow.Item.{Item}
use Rattle.ppd_model.specs.Bounds.{AreEach}
use Rattle.ppd_model.specs.Extents.{Extent, IsSameInterval, extents}
use Rattle.ppd_model.specs.Forward.{edge_in}
use Rattle.ppd_model.specs.Intervals.{Span, Split, items_of, splits, split_of}
use Rattle.ppd_model.specs.Logs.{closed_log, closed_logs, log_of, loggings}
use Rattle.ppd_model.proofs.LogWords.{logs_from}
use Rattle.ppd_model.specs.RecordedSets.{sync_in}
use Rattle.ppd_model.specs.Schedule.{IsWhole, run}
use Rattle.ppd_model.specs.Story.{moment_of, story, told}
use Rattle.ppd_model.specs.Synchronizations.{Sync, sync_of}
use Rattle.ppd_model.proofs.Forward.{fewer}
use Rattle.ppd_model.proofs.LoggedSpans.{intervals_of_logs}
use Rattle.law_steps.proofs.OpenBlocks.Runs.{schedules_run}
use Rattle.ppd_flow_past.specs.SeenBy.{rounds_by, seen_by}
use Rattle.law_flow.proofs.Places.LeafTells.{split_is}
use Rattle.law_steps.proofs.Theorem.Processes.{process_there}
use Rattle.law_steps.specs.Theorem.Laws.{modelled_of, replay_of}
use Rattle.law_steps.proofs.OpenBlocks.Told.{own_steps_are}
use Rattle.ppd_graph.specs.Ends.{ending}
use Rattle.ppd_graph.proofs.FlowWords.{is_sync}
use Rattle.ppd_graph.specs.Seen.{Seen, seen_of}
use Rattle.ppd_graph.specs.Shared.{seen_at}
use Rattle.law_flow.proofs.Edges.PairPlaces.Leading.{IsSyncStep, sync_step}
use Rattle.law_flow.proofs.Edges.Sources.LastOrigins.{below_moments, split_there}
use Rattle.law_flow.proofs.Edges.StepEvents.Timeline.{did, none_did}
use Rattle.law_flow.proofs.Edges.StepEvents.Writers.{edge_is_count}
use Rattle.law_clean.specs.Cuts.{cut, cut_at, cut_logs}
use Rattle.law_clean.specs.Ordered.{AreUnracedReads, IsUnracedIn}
use Rattle.law_clean.proofs.CutLogs.{cut_of_log}
use Rattle.law_clean.proofs.CutSeen.{cut_seen, items_same, logging_at, rounds_same, same_blocks, same_parents}
use Rattle.law_clean.proofs.CutShared.{HasEnded, IsBegun}
use Rattle.law_clean.proofs.EdgeEnds.{EndsEdge, edge_ends, edge_own}
use Rattle.law_clean.proofs.ReadsAnswered.{unraced_reads}
use Rattle.law_clean.proofs.Replays.{replays_alike}
use Rattle.law_clean.proofs.PastWords.{cut_from}

-- ---- cut lists

cut_from_at : (last : ℕ → Option ℕ) (lists : List (List Entry)) (p q : ℕ) (es : List Entry) → slice_get lists q ≡ Some es → slice_get (cut_from last p lists) q ≡ Some (cut (last (p + q)) es)
cut_from_at last [] p q es e = absurd (none-some es e)
cut_from_at last (x ∷ xs) p zero es e =
    let z : p ≡ p + 0 = omega arith in
    ap (λ k. Some (cut (last k) x)) z ∙ ap (λ o. option_map (cut (last (p + 0))) o) e
cut_from_at last (x ∷ xs) p (suc q) es e =
    let z : (p + 1) + q ≡ p + suc q = omega arith in
    cut_from_at last xs (p + 1) q es e ∙ ap (λ k. Some (cut (last k) es)) z

-- past all synchronizations no synchronization ends an edge
past_syncs : (i : ℕ) (es : List Entry) → length (filter_map sync_in es) ≤ i → option_map_or is_sync (slice_get es (ending i es)) false ≡ false
past_syncs i [] le = refl
past_syncs zero (entry.Sync k o m z rs ws ∷ es) le = absurd (omega (arith, le))
past_syncs zero (entry.End s m rs ws ∷ es) le = refl
past_syncs zero (entry.Prelog b vs ∷ es) le = past_syncs zero es le
past_syncs zero (entry.Postlog b vs ∷ es) le = past_syncs zero es le
past_syncs zero (entry.Unit u vs ∷ es) le = past_syncs zero es le
past_syncs (suc i) (entry.Sync k o m z rs ws ∷ es) le = past_syncs i es (omega (arith, le))
past_syncs (suc i) (entry.End s m rs ws ∷ es) le = past_syncs (suc i) es le
past_syncs (suc i) (entry.Prelog b vs ∷ es) le = past_syncs (suc i) es le
past_syncs (suc i) (entry.Postlog b vs ∷ es) le = past_syncs (suc i) es le
past_syncs (suc i) (entry.Unit u vs ∷ es) le = past_syncs (suc i) es le

-- so a log that is cut after such an edge stays whole
pub stays_whole : (i : ℕ) (es : List Entry) → length (filter_map sync_in es) ≤ i → cut (Some i) es ≡ es
stays_whole i es le = ap (λ b. if b then cut_at es (ending i es + 1) else es) (past_syncs i es le)

pub one_of : (o : Option Sync) → is_some o ≡ true → length (option_to_list o) ≡ 1
one_of None e = absurd (true≢false (sym e))
one_of (Some z) e = refl

-- a process that synchronized has intervals
pub has_split : (setting : Setting) (g : List ℕ) (q i : ℕ) → i < edge_in setting g q → (x : Split) × (slice_get (splits setting (story setting g)) q ≡ Some x)
has_split setting g q i lt =
    let t = slice_get_there (filter_map sync_of (did (told setting g) q)) i (subst (λ z. i < z) (edge_is_count setting g q) lt) in
    let st : IsSyncStep (did (told setting g) q) i t.0 = sync_step (did (told setting g) q) i t.0 t.1 in
    split_there setting (story setting g) 0 (told setting g).moments q
    (below_moments (told setting g).moments q st.before st.step st.after st.are)

module _ (program : Program) (policy : Policy) (budget : ℕ) (h : List ℕ) (v : IsValid program) (whole : IsWhole (setting_by program policy budget) h) where
  abbrev plan : Plan
  plan = plan_of program policy

  abbrev own_log : ℕ → List Entry
  own_log q = closed_log (log_of (setting_of program plan budget) q (get_or (told (setting_of program plan budget) h).moments q []))

  -- the replays of cut logs
  pub seen_there : (last : ℕ → Option ℕ) (q : ℕ) (y : Split) → slice_get (splits (setting_of program plan budget) (story (setting_of program plan budget) h)) q ≡ Some y
      → seen_at (map (λ es. seen_by (setting_of program plan budget) es) (cut_logs last (closed_logs (setting_of program plan budget) h)).lists) q
      ≡ seen_by (setting_of program plan budget) (cut (last q) (closed_log (log_of (setting_of program plan budget) q (get_or (told (setting_of program plan budget) h).moments q []))))
  seen_there last q y at =
      let lists : List (List Entry) = (closed_logs (setting_of program plan budget) h).lists in
      let listed : slice_get lists q ≡ Some (closed_log (log_of (setting_of program plan budget) (0 + q) (get_or (told (setting_of program plan budget) h).moments q []))) =
      slice_get-map closed_log (logs_from (setting_of program plan budget) 0 (told (setting_of program plan budget) h).moments) q
      ∙ ap (option_map closed_log) (logging_at (setting_of program plan budget) (story (setting_of program plan budget) h) 0 (told (setting_of program plan budget) h).moments q y at) in
      let z : 0 + q ≡ q = omega arith in
      get_or_from_slice_get (map (λ es. seen_by (setting_of program plan budget) es) (cut_from last 0 lists)) q
      (seen_by (setting_of program plan budget) (cut (last (0 + q)) (closed_log (log_of (setting_of program plan budget) (0 + q) (get_or (told (setting_of program plan budget) h).moments q [])))))
      (record { items = []; blocks = []; rounds = [] })
      (slice_get-map (λ es. seen_by (setting_of program plan budget) es) (cut_from last 0 lists) q
      ∙ ap (option_map (λ es. seen_by (setting_of program plan budget) es)) (cut_from_at last lists 0 q (closed_log (log_of (setting_of program plan budget) (0 + q) (get_or (told (setting_of program plan budget) h).moments q []))) listed))
      ∙ ap (λ k. seen_by (setting_of program plan budget) (cut (last k) (closed_log (log_of (setting_of program plan budget) k (get_or (told (setting_of program plan budget) h).moments q []))))) z

  -- ---- where a synchronization ends the last edge

  pub cut_begun : (xs : List Seen) (q i : ℕ) → i < edge_in (setting_of program plan budget) h q → ((e : ℕ) → e ≤ i → IsUnracedIn (setting_of program plan budget) h q e)
      → seen_at xs q ≡ seen_by (setting_of program plan budget) (cut (Some i) (own_log q)) → HasEnded program policy budget h whole.last v whole.runs xs q i
  cut_begun xs q i ended clear seen =
      let none : edge_in (setting_of program plan budget) [] q ≡ 0 = edge_is_count (setting_of program plan budget) [] q ∙ ap (λ ts. length (filter_map sync_of ts)) (none_did program plan budget q) in
      let ends : EndsEdge (setting_of program plan budget) h q i = edge_ends (setting_of program plan budget) h q i ended none in
      let g : List ℕ = ends.before ++ q ∷ [] in
      let more : length (option_to_list (sync_of (moment_of program plan (told (setting_of program plan budget) ends.before) q).taken)) ≡ 1 = one_of (sync_of (moment_of program plan (told (setting_of program plan budget) ends.before) q).taken) ends.is_sync in
      let grew : edge_in (setting_of program plan budget) g q ≡ edge_in (setting_of program plan budget) ends.before q + length (option_to_list (sync_of (moment_of program plan (told (setting_of program plan budget) ends.before) q).taken)) =
      edge_own (setting_of program plan budget) ends.before q ends.there in
      let is : edge_in (setting_of program plan budget) ends.before q ≡ i = ends.edge_is in
      let x = has_split (setting_of program plan budget) g q i (omega (arith, grew, more, is)) in
      record {
        begun = record {
          before = g;
          rest = ends.rest;
          schedule_is = ends.schedule_is;
          split = x.0;
          there = x.1;
          seen_is = seen
              ∙ ap (seen_by (setting_of program plan budget)) (cut_of_log program policy budget h q i v whole ends clear)
              ∙ cut_seen program policy budget h q i v whole ends clear x.0 x.1;
        };
        ended = omega (arith, grew, more, is);
      }

  -- ---- where none does, and the log stays whole

  module _ (p : ℕ) (y : Split) (at : slice_get (splits (setting_of program plan budget) (story (setting_of program plan budget) h)) p ≡ Some y)
      (clear : (e : ℕ) → e ≤ edge_in (setting_of program plan budget) h p → IsUnracedIn (setting_of program plan budget) h p e) where
    there : program.functions + p < length program.bodies
    there = process_there (setting_of program plan budget) h p y at

    h_is : h ++ [] ≡ h
    h_is = append-nil h

    runs : run (setting_of program plan budget) (h ++ []) ≡ Some whole.last
    runs = subst (λ l. run (setting_of program plan budget) l ≡ Some whole.last) (sym h_is) whole.runs

    reads_clear : AreUnracedReads (setting_of program plan budget) h (h ++ []) p
    reads_clear b more c is reads =
        subst (λ l. IsUnracedIn (setting_of program plan budget) l p (edge_in (setting_of program plan budget) b p)) (sym h_is)
        (clear (edge_in (setting_of program plan budget) b p)
        (let up : edge_in (setting_of program plan budget) b p ≤ edge_in (setting_of program plan budget) (b ++ p ∷ more) p = fewer (setting_of program plan budget) b (p ∷ more) whole.last (subst (λ l. run (setting_of program plan budget) l ≡ Some whole.last) is whole.runs) p in
        subst (λ l. edge_in (setting_of program plan budget) b p ≤ edge_in (setting_of program plan budget) l p) (sym is) up))

    reads : AreRead plan (begun_in_force program plan p) (get_or (told (setting_of program plan budget) h).moments p [])
    reads = unraced_reads program policy budget h [] whole.last p v runs reads_clear

    replays : (k : ℕ) → replay_of (setting_of program plan budget) (interval_log plan (own_log p) k) ≡ modelled_of y (slice_get y.spans k)
    replays k =
        replays_alike program policy v budget p 0 (omega arith) there (get_or (told (setting_of program plan budget) h).moments p []) (schedules_run (setting_of program plan budget) h p v whole there) (story (setting_of program plan budget) h) reads k
        ∙ ap (λ (z : Split). modelled_of z (slice_get z.spans k)) (ap (split_of (setting_of program plan budget) (story (setting_of program plan budget) h) p) (sym (own_steps_are (setting_of program plan budget) h p)) ∙ split_is (setting_of program plan budget) h p y at)

    abbrev seen : List (List Item) → List ℕ → List (List ℕ) → Seen
    seen items blocks rounds = record { items = items; blocks = blocks; rounds = rounds }

    logged : slice_get (loggings (setting_of program plan budget) h) p ≡ Some (log_of (setting_of program plan budget) p (get_or (told (setting_of program plan budget) h).moments p []))
    logged =
        let z : 0 + p ≡ p = omega arith in
        logging_at (setting_of program plan budget) (story (setting_of program plan budget) h) 0 (told (setting_of program plan budget) h).moments p y at
        ∙ ap (λ k. Some (log_of (setting_of program plan budget) k (get_or (told (setting_of program plan budget) h).moments p []))) z

    whole_seen : seen_by (setting_of program plan budget) (own_log p) ≡ seen_of y
    whole_seen =
        let entries : List Entry = own_log p in
        let each : AreEach IsSameInterval y.spans (extents entries) = (intervals_of_logs (setting_of program plan budget) h p y (log_of (setting_of program plan budget) p (get_or (told (setting_of program plan budget) h).moments p [])) at logged).closed_are in
        ap₂ (λ a b. seen a b (rounds_by (map (λ (z : Extent). z.parent) (extents entries))))
        (items_same (setting_of program plan budget) (indexed entries) y replays) (same_blocks y.spans (extents entries) each)
        ∙ ap (seen (map (items_of y) y.spans) (map (λ (i : Span). i.block) y.spans))
        (ap rounds_by (same_parents y.spans (extents entries) each) ∙ rounds_same (setting_of program plan budget) h p y at)

    pub whole_begun : (xs : List Seen) → seen_at xs p ≡ seen_by (setting_of program plan budget) (own_log p)
        → (b : IsBegun program policy budget h whole.last v whole.runs xs p) × (b.split ≡ y) × (b.before ≡ h)
    whole_begun xs seen_is = (record { before = h; rest = []; schedule_is = sym h_is; split = y; there = at; seen_is = seen_is ∙ whole_seen }, refl, refl)
