-- Shared reads: the search finds the writer that the tag names.
use Rattle.ppd_model.specs.Setting.{Setting}
use Rattle.law_flow.proofs.Edges.Back.Walked.{IsFoundAt, found_is, not_found, same_count}
use Rattle.law_flow.proofs.Edges.LogPlaces.EdgeEnds.{IsAt, at_place}
use Rattle.law_flow.proofs.Edges.LogPlaces.EdgePlaces.{count_one}
use Rattle.law_flow.proofs.Edges.Sources.Greatest.{greatest_is}
use Rattle.law_flow.proofs.Edges.Sources.InEdges.{in_ended, ref_of}
use Rattle.law_flow.proofs.Edges.Sources.LastOrigins.{before_is, below_moments, goes, later_not, listed, not_before, split_there, under}
use Rattle.law_flow.proofs.Edges.Sources.Members.{filter_in, filter_none, in_filter}
use Rattle.law_flow.proofs.Edges.Sources.Writing.{writing_only}
use Rattle.law_flow.proofs.Edges.Spans.Facts.{count_to}
use Rattle.law_flow.proofs.Edges.StepEvents.Processes.{Facts, facts}
use Rattle.law_flow.proofs.Edges.StepEvents.ReadSteps.{IsStep, ReadsAt, reads_at, step_of}
use Rattle.law_flow.proofs.Edges.StepEvents.Timeline.{IsTakenAt, NoWrites, did, did_more, next, none_did, taken_at}
use Rattle.law_flow.proofs.Edges.StepEvents.Writers.{AreNone, HasEvent, HasSync, IsWrite, as_write, edge_is_count, ev_at, ev_count, ev_within, first_sync, last_writer, none_at, none_syncs, syncs_both, syncs_none, write_is}
use Rattle.law_flow.proofs.Vocabulary.Events.{AreQuiet, IsLastWriter, synchronizes, written_by}
use Rattle.law_flow.specs.Edges.SharedEdges.{SharedOriginsAreFound, all_seen}
use Rattle.law_steps.proofs.StaticEdges.SharedCells.Writers.{count_is, events_in}
use Rattle.ppd_ast.proofs.ValidLaws.{slice_get_below, slice_get_there}
use Rattle.ppd_ast.specs.Counting.{one_if}
use Rattle.ppd_ast.specs.Valid.{IsValid}
use Rattle.ppd_model.specs.declared.entry.Logs.{Logs}
use Rattle.ppd_graph.specs.Ends.{edge_at}
use Rattle.ppd_graph.specs.Seen.{seen_of}
use Rattle.ppd_graph.specs.Looked.{Looked, look_map}
use Rattle.ppd_graph.specs.Shared.{Missing, edge_of_place, greatest, greatest_before, is_before_in, origin_in, own_or, shared_origin, writing, written_in, written_or_start}
use Rattle.ppd_graph.specs.Walk.{walk}
use Rattle.ppd_graph.specs.declared.walked.Walked.{Walked}
use Rattle.ppd_model.proofs.AccessSets.{accesses_there}
use Rattle.ppd_model.proofs.SharedReads.{shared_found, steps_access}
use Rattle.ppd_model.specs.FlowbackEdges.{part_at}
use Rattle.ppd_model.specs.Forward.{edge_in}
use Rattle.ppd_model.specs.FullTrace.{Tag}
use Rattle.ppd_model.specs.HappenedBefore.{EdgeBefore, edge}
use Rattle.ppd_model.specs.Intervals.{Split, own, ref, splits}
use Rattle.ppd_model.specs.Laws.{IsUnwritten, begins}
use Rattle.ppd_model.specs.Logs.{closed_logs}
use Rattle.ppd_model.specs.Races.{races}
use Rattle.ppd_model.specs.Record.{sync_record}
use Rattle.ppd_model.specs.Schedule.{run}
use Rattle.ppd_model.specs.SharedReads.{IsAccess, IsAcross, IsFound, IsFromStart, IsWrittenBy, WritesIn, need_after}
use Rattle.ppd_model.specs.Story.{Telling, next_event, story, tell, told}
use Rattle.ppd_model.specs.Synchronizations.{kind_of_sync, numbered, sync_of}
use Rattle.ppd_model.specs.World.{World, writes_cell}
use Rattle.ppd_model.specs.declared.flow.Origin.{Origin}
use Rattle.ppd_model.specs.declared.flow.Origin.TheVariants as origin
use Rattle.ppd_model.specs.declared.graph.EdgeId.{EdgeId}
use Rattle.ppd_model.specs.declared.trace.EventId.{EventId}
use Rattle.ppd_model.specs.declared.tracing.Taken.{Taken}
use Rattle.ppd_sem.specs.declared.proc.Need.{Need}
use Rattle.ppd_sem.specs.declared.proc.Need.TheVariants as n
use Rattle.std.proofs.Common.{List, None, Ok, Option, Result, Some, [], ap, ap₂, arith, eq-eqb, false, filter, get_or, inl, inr, length, refl, subst, sym, true, true≢false, ℕ, ℤ, ◌++◌, ◌+◌, ◌<◌, ◌∙◌, ◌∷◌, ◌≡◌, ◌≤◌}
use Rattle.std.proofs.lemmas.List.{append-nil, append_assoc}
use Rattle.std.proofs.lemmas.List.Sums.{fold-append}
use Rattle.std.specs.Option.{option_map_or}
use Rattle.std.specs.Prelude.{filter_map, is_some, slice_get}

write_yes : (c : ℕ) (m : Need) (u : ℤ) → m ≡ n.Write c u → writes_cell c m ≡ true
write_yes c m u e = ap (writes_cell c) e ∙ eq-eqb c c refl

module _ (setting : Setting) (h : List ℕ) (w : World) (v : IsValid setting.program) (r : run setting h ≡ Some w) where
  abbrev xs : List Split
  xs = splits setting (story setting h)

  abbrev logs : Logs
  logs = closed_logs setting h

  abbrev steps_at : ℕ → List Taken
  steps_at q = did (told setting h) q

  -- a read of process p after g, as event number k at place j of interval i
  module _ (p k j c number : ℕ) (x : Split) (f : Facts setting h v p x) (placed : part_at x k j ≡ Some (own number)) (lt : number < length x.trace.events)
      (g rest : List ℕ) (are : h ≡ g ++ p ∷ rest) (needs : need_after setting g p ≡ n.Read c) (events_are : events_in (did (told setting g) p) ≡ number) where
    abbrev here : Walked
    here = (walk (seen_of x) c k j).found

    at : IsAt x (get_or logs.lists p []) number k j
    at = at_place x (get_or logs.lists p []) f.told_by k j number placed lt

    -- what the process did before
    so_far : (more : List Taken) × (steps_at p ≡ did (told setting g) p ++ more)
    so_far =
        let m = did_more setting.program setting.plan c p (told setting g) (p ∷ rest) in
        (m.0, ap (λ l. did (told setting l) p) are ∙ ap (λ (t : Telling). did t p) (fold-append (tell setting.program setting.plan) (begins setting) g (p ∷ rest)) ∙ m.1)

    -- the edge of the place is that of the read
    edge_is : edge_of_place logs (all_seen setting h) p k j ≡ edge p (edge_in setting g p)
    edge_is =
        ap (λ z. edge p (edge_at (get_or logs.lists p []) z k j)) f.seen_is
        ∙ ap (edge p) (at.edge ∙ ap (count_to x.trace.events) (sym events_are) ∙ ev_count setting h v p x f (did (told setting g) p) so_far.0 so_far.1 ∙ sym (edge_is_count setting g p))

    -- what the search goes on with
    abbrev otherwise : Option EdgeId
    otherwise = greatest_before setting.program logs (edge p (edge_in setting g p)) c

    abbrev further : Option EdgeId → Looked (ℕ × ℕ) (Result Origin Missing)
    further o = look_map origin_in (written_or_start setting.program logs (all_seen setting h) c o)

    search_is : (shared_origin setting.program logs (all_seen setting h) p k j c).found ≡ (own_or p here (further otherwise)).found
    search_is = ap₂ (λ z e. (own_or p (walk z c k j).found (further (greatest_before setting.program logs e c))).found) f.seen_is edge_is

    -- a write that the walk finds is one of the steps before the read, in its edge
    found_step : (m : ℕ) (u : ℤ) → IsLastWriter x.trace.events c 0 number m u
        → (b : List ℕ) × (more : List ℕ) × (g ≡ b ++ p ∷ more) × IsAccess c true (need_after setting b p) × (edge_in setting b p ≡ edge_in setting g p) × (IsUnwritten setting.program setting.plan c (begins setting) g → ⊥)
    found_step m u l =
        let to = l.to in
        let within : events_in (did (told setting g) p) ≤ length x.trace.events = ev_within setting h v p x f (did (told setting g) p) so_far.0 so_far.1 in
        let s : IsStep (did (told setting g) p) m = step_of (did (told setting g) p) m (omega (arith, to, events_are)) in
        let whole : steps_at p ≡ s.before ++ s.step ∷ (s.after ++ so_far.0) = so_far.1 ∙ ap (λ z. z ++ so_far.0) s.are ∙ append_assoc s.before (s.step ∷ s.after) so_far.0 in
        let e : HasEvent setting h v p x f s.before s.step = ev_at setting h v p x f s.before s.step (s.after ++ so_far.0) whole s.finishes in
        let need : s.step.need ≡ n.Write c u = write_is c s.step.need u (sym (e.writes c) ∙ ap (λ z. written_by c (slice_get x.trace.events z)) s.number ∙ l.writes) in
        let t : IsTakenAt setting.program setting.plan (begins setting) g p s.before s.step = taken_at setting.program setting.plan (begins setting) g p s.before s.step s.after s.are
        (let z : length (did (begins setting) p) ≡ 0 = ap length (none_did setting.program setting.plan setting.budget p) in omega (arith, z)) in
        let counted : count_to x.trace.events m ≡ length (filter_map sync_of s.before) = ap (count_to x.trace.events) (sym s.number) ∙ ev_count setting h v p x f s.before (s.step ∷ (s.after ++ so_far.0)) whole in
        let counted_g : count_to x.trace.events number ≡ length (filter_map sync_of (did (told setting g) p)) = ap (count_to x.trace.events) (sym events_are) ∙ ev_count setting h v p x f (did (told setting g) p) so_far.0 so_far.1 in
        let still : count_to x.trace.events m ≡ count_to x.trace.events number = plain_to m number l.plain l.since to (omega (arith, within, events_are)) in (
          t.sooner,
          t.later,
          t.schedule_is,
          (u, ap (λ (z : Taken). z.need) t.step_is ∙ need),
          edge_is_count setting t.sooner p ∙ ap (λ z. length (filter_map sync_of z)) t.did_before ∙ sym counted ∙ still ∙ counted_g ∙ sym (edge_is_count setting g p),
          (λ un.
              let d = did_more setting.program setting.plan c p (begins setting) g in
              let all : did (told setting g) p ≡ d.0 = d.1 ∙ ap (λ z. z ++ d.0) (none_did setting.program setting.plan setting.budget p) in
              let no_write = none_at setting.program setting.plan c s.before s.step s.after (subst (NoWrites setting.program setting.plan c) (sym all ∙ s.are) (d.2 un)) in
              true≢false (sym (write_yes c s.step.need u need) ∙ no_write)),
        )
      where
        plain_to : (a b : ℕ) → synchronizes (slice_get x.trace.events a) ≡ false → AreQuiet x.trace.events c (a + 1) b → a < b → b ≤ length x.trace.events → count_to x.trace.events a ≡ count_to x.trace.events b
        plain_to a b plain q less le =
            let rest' : count_to x.trace.events (a + 1) ≡ count_to x.trace.events b = same_count x.trace.events c (a + 1) b (omega (arith, less)) le q in
            let y = slice_get_there x.trace.events a (omega (arith, less, le)) in
            let one : count_to x.trace.events (a + 1) ≡ count_to x.trace.events a + one_if (is_some y.0.event.number) = count_one x.trace.events a y.0 y.1 in
            let zero' : one_if (is_some y.0.event.number) ≡ 0 = ap one_if (sym (ap synchronizes y.1) ∙ plain) in
            let z : count_to x.trace.events a ≡ count_to x.trace.events (a + 1) = omega (arith, one, zero') in
            z ∙ rest'

    -- nothing wrote the cell before the read
    from_start : IsFromStart setting g h p c → (shared_origin setting.program logs (all_seen setting h) p k j c).found ≡ Ok origin.Initial
    from_start s =
        let none : filter (λ a. is_before_in setting.program logs a (edge p (edge_in setting g p))) (writing logs c) ≡ [] =
        filter_none (λ a. is_before_in setting.program logs a (edge p (edge_in setting g p))) (writing logs c)
        (λ a m. not_before setting h w v r a (edge p (edge_in setting g p)) (λ b. s.none a.process a.edge (writing_only setting h v c a m) b)) in
        search_is
        ∙ not_found x c number p here (further otherwise) (at.walks c) (λ m u l. (found_step m u l).5 s.unwritten)
        ∙ ap (λ l. (further (greatest (is_before_in setting.program logs) l)).found) none

    -- the writer is of this step
    module _ (y : IsWrittenBy setting g c) where
      abbrev q : ℕ
      q = y.process

      abbrev b : List ℕ
      b = y.before

      before_h : h ≡ y.before ++ y.process ∷ (y.after ++ p ∷ rest)
      before_h = are ∙ ap (λ l. l ++ p ∷ rest) y.schedule_is ∙ append_assoc y.before (y.process ∷ y.after) (p ∷ rest)

      number_is : record { process = y.process; number = events_in (did (told setting y.before) y.process) } ≡ next_event (told setting y.before) y.process
      number_is = ap (λ z. record { process = y.process; number = z }) (sym (count_is (get_or (told setting y.before).moments y.process [])))

      -- what the writer's process did up to the read
      in_g : IsWrite setting y.before y.after y.process c
      in_g = as_write setting y.before y.after y.process c (goes setting h w v r c (need_after setting y.before y.process) y.writes)

      done_g : did (told setting g) y.process ≡ did (told setting y.before) y.process ++ next setting.program setting.plan (told setting y.before) y.process ∷ in_g.mid
      done_g = ap (λ l. did (told setting l) y.process) y.schedule_is ∙ in_g.steps_are

      later_h : (more : List Taken) × (steps_at y.process ≡ did (told setting y.before) y.process ++ next setting.program setting.plan (told setting y.before) y.process ∷ (in_g.mid ++ more))
      later_h =
          let m = did_more setting.program setting.plan c y.process (told setting g) (p ∷ rest) in (
            m.0,
            ap (λ l. did (told setting l) y.process) are ∙ ap (λ (t : Telling). did t y.process) (fold-append (tell setting.program setting.plan) (begins setting) g (p ∷ rest)) ∙ m.1
                ∙ ap (λ l. l ++ m.0) done_g ∙ append_assoc (did (told setting y.before) y.process) (next setting.program setting.plan (told setting y.before) y.process ∷ in_g.mid) m.0,
          )

      -- in the read's own edge
      own_edge : y.process ≡ p → edge_in setting y.before y.process ≡ edge_in setting g p → (shared_origin setting.program logs (all_seen setting h) p k j c).found ≡ Ok (ref xs (next_event (told setting y.before) y.process))
      own_edge same edges =
          let steps_p : steps_at p ≡ did (told setting y.before) y.process ++ next setting.program setting.plan (told setting y.before) y.process ∷ (in_g.mid ++ later_h.0) = ap steps_at (sym same) ∙ later_h.1 in
          let done_p : did (told setting g) p ≡ did (told setting y.before) y.process ++ next setting.program setting.plan (told setting y.before) y.process ∷ in_g.mid = ap (did (told setting g)) (sym same) ∙ done_g in
          let front : edge_in setting y.before y.process ≡ length (filter_map sync_of (did (told setting y.before) y.process)) = edge_is_count setting y.before y.process in
          let total : edge_in setting g p ≡ length (filter_map sync_of (did (told setting y.before) y.process ++ next setting.program setting.plan (told setting y.before) y.process ∷ in_g.mid)) = edge_is_count setting g p ∙ ap (λ l. length (filter_map sync_of l)) done_p in
          let sum : length (filter_map sync_of (did (told setting y.before) y.process ++ next setting.program setting.plan (told setting y.before) y.process ∷ in_g.mid)) ≡ length (filter_map sync_of (did (told setting y.before) y.process)) + length (filter_map sync_of (next setting.program setting.plan (told setting y.before) y.process ∷ in_g.mid)) =
          syncs_both (did (told setting y.before) y.process) (next setting.program setting.plan (told setting y.before) y.process ∷ in_g.mid) in
          let still = none_syncs (next setting.program setting.plan (told setting y.before) y.process ∷ in_g.mid) (omega (arith, edges, front, total, sum)) in
          let l : IsLastWriter x.trace.events c 0 (events_in (did (told setting y.before) y.process ++ next setting.program setting.plan (told setting y.before) y.process ∷ in_g.mid)) (events_in (did (told setting y.before) y.process)) y.writes.0 =
          last_writer setting h v p x f c y.writes.0 (did (told setting y.before) y.process) (next setting.program setting.plan (told setting y.before) y.process) in_g.mid later_h.0 steps_p y.writes.1 still.1 (in_g.nowhere y.unwritten) in
          let upto : events_in (did (told setting y.before) y.process ++ next setting.program setting.plan (told setting y.before) y.process ∷ in_g.mid) ≡ number = ap events_in (sym done_p) ∙ events_are in
          let found : IsFoundAt x here (events_in (did (told setting y.before) y.process)) y.writes.0 =
          found_is x c number (events_in (did (told setting y.before) y.process)) y.writes.0 (subst (λ z. IsLastWriter x.trace.events c 0 z (events_in (did (told setting y.before) y.process)) y.writes.0) upto l) here (at.walks c) in
          let less = l.to in
          search_is ∙ ap (λ z. (own_or p z (further otherwise)).found) found.is
          ∙ ap (λ o. Ok o) (sym (ref_of setting h v p x f.there (events_in (did (told setting y.before) y.process)) found.interval found.item (omega (arith, less, upto, lt)) found.there))
          ∙ ap (λ z. Ok (ref xs (record { process = z; number = events_in (did (told setting y.before) y.process) }))) (sym same)
          ∙ ap (λ (id : EventId). Ok (ref xs id)) number_is

      -- in another one
      across : IsAcross setting g h p c y.process (edge_in setting y.before y.process) → (shared_origin setting.program logs (all_seen setting h) p k j c).found ≡ Ok (ref xs (next_event (told setting y.before) y.process))
      across z =
          let top : EdgeId = edge y.process (edge_in setting y.before y.process) in
          let mine : EdgeId = edge p (edge_in setting g p) in
          let is : otherwise ≡ Some top =
          greatest_is (is_before_in setting.program logs) top (filter (λ a. is_before_in setting.program logs a mine) (writing logs c))
          (λ a m.
          let both = in_filter (λ d. is_before_in setting.program logs d mine) a (writing logs c) m in
          let wr : WritesIn setting h c a.process a.edge = writing_only setting h v c a both.0 in
          under setting h w v r y.before y.process (y.after ++ p ∷ rest) c a before_h wr (z.greatest a.process a.edge wr ((before_is setting h w v r a mine).0 both.1)))
          (filter_in (λ d. is_before_in setting.program logs d mine) top (writing logs c) (listed setting h w v r y.before y.process (y.after ++ p ∷ rest) c before_h y.writes) ((before_is setting h w v r top mine).1 z.before)) in
          let lt_q : y.process < length (told setting h).moments = below_moments (told setting h).moments y.process (did (told setting y.before) y.process) (next setting.program setting.plan (told setting y.before) y.process) (in_g.mid ++ later_h.0) later_h.1 in
          let s = split_there setting (story setting h) 0 (told setting h).moments y.process lt_q in
          let fq : Facts setting h v y.process s.0 = facts setting h v y.process s.0 s.1 in
          let has : HasSync in_g.mid = elim (first_sync in_g.mid) [ inl still ↦ absurd (no_sync still) | inr has' ↦ has' ] in
          search_is
          ∙ not_found x c number p here (further otherwise) (at.walks c) (λ m u l. let t = found_step m u l in z.none_own t.0 t.1 t.2 t.3 t.4)
          ∙ ap (λ o. (further o).found) is
          ∙ ap origin_in (ap (λ i. (written_in logs (all_seen setting h) c (edge y.process i)).found) (edge_is_count setting y.before y.process)
          ∙ in_ended setting h v y.process c y.writes.0 s.0 fq (did (told setting y.before) y.process) (next setting.program setting.plan (told setting y.before) y.process) in_g.mid later_h.0 later_h.1 y.writes.1 (in_g.nowhere y.unwritten) has)
          ∙ ap (λ (id : EventId). Ok (ref xs id)) number_is
        where
          -- the writer's process left that edge before the read
          no_sync : AreNone in_g.mid → ⊥
          no_sync still =
              let none : length (filter_map sync_of (next setting.program setting.plan (told setting y.before) y.process ∷ in_g.mid)) ≡ 0 =
              syncs_none (next setting.program setting.plan (told setting y.before) y.process ∷ in_g.mid) (ap (λ m. numbered (kind_of_sync m) (next setting.program setting.plan (told setting y.before) y.process).number) y.writes.1, still) in
              let sum : length (filter_map sync_of (did (told setting y.before) y.process ++ next setting.program setting.plan (told setting y.before) y.process ∷ in_g.mid)) ≡ length (filter_map sync_of (did (told setting y.before) y.process)) + length (filter_map sync_of (next setting.program setting.plan (told setting y.before) y.process ∷ in_g.mid)) =
              syncs_both (did (told setting y.before) y.process) (next setting.program setting.plan (told setting y.before) y.process ∷ in_g.mid) in
              let front : edge_in setting y.before y.process ≡ length (filter_map sync_of (did (told setting y.before) y.process)) = edge_is_count setting y.before y.process in
              let total : edge_in setting g y.process ≡ length (filter_map sync_of (did (told setting y.before) y.process ++ next setting.program setting.plan (told setting y.before) y.process ∷ in_g.mid)) = edge_is_count setting g y.process ∙ ap (λ l. length (filter_map sync_of l)) done_g in
              let same : edge_in setting y.before y.process ≡ edge_in setting g y.process = omega (arith, none, sum, front, total) in
              later_not setting h w v r g [] (p ∷ rest) (are ∙ ap (λ l. l ++ p ∷ rest) (sym (append-nil g))) p y.process
              (subst (λ l. EdgeBefore setting.program (sync_record setting h) (edge y.process (edge_in setting l y.process)) (edge p (edge_in setting g p))) (sym (append-nil g))
              (subst (λ i. EdgeBefore setting.program (sync_record setting h) (edge y.process i) (edge p (edge_in setting g p))) same z.before))

    -- by what is known of the read
    pub by_found : (tag : Tag) → tag ≡ get_or (told setting g).writers c None → IsFound setting g h p c → (shared_origin setting.program logs (all_seen setting h) p k j c).found ≡ Ok (option_map_or (ref xs) tag origin.Initial)
    by_found tag is (inl s) = from_start s ∙ ap (λ t. Ok (option_map_or (ref xs) t origin.Initial)) (sym (is ∙ s.tag_is))
    by_found tag is (inr (y, inl same)) = own_edge y same.0 same.1 ∙ ap (λ t. Ok (option_map_or (ref xs) t origin.Initial)) (sym (is ∙ y.tag_is))
    by_found tag is (inr (y, inr other)) = across y other ∙ ap (λ t. Ok (option_map_or (ref xs) t origin.Initial)) (sym (is ∙ y.tag_is))

pub shared_origins : SharedOriginsAreFound
shared_origins setting h w v r free p k j c tag s =
    let f : Facts setting h v p s.split = facts setting h v p s.split s.there in
    let a : ReadsAt setting h v p s.number c tag = reads_at setting h v p s.split f s.number s.event s.read c s.access tag s.event_is s.access_is s.spot s.tagged in
    let m = steps_access setting a.sooner p a.later c false a.needs in
    let lt : c < length setting.program.starts = accesses_there setting (a.sooner ++ p ∷ a.later) p m.0 (record { edge = edge_in setting a.sooner p; cell = c; writes = false }) v m.1 in
    let found : IsFound setting a.sooner (a.sooner ++ p ∷ a.later) p c =
    shared_found setting a.sooner p a.later w (subst (λ l. run setting l ≡ Some w) a.schedule_is r) (subst (λ l. races setting l ≡ []) a.schedule_is free) c lt a.needs in
    by_found setting h w v r p k j c s.number s.split f s.placed (slice_get_below s.split.trace.events s.number s.event s.event_is) a.sooner a.later a.schedule_is a.needs a.events_are tag a.tag_is
    (subst (λ l. IsFound setting a.sooner l p c) (sym a.schedule_is) found)
