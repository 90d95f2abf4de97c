-- Shared reads: the writer that edges and marks give is the one that the tag names.
use Rattle.ppd_model.specs.Setting.{Setting}
use Rattle.std.proofs.Common.{◌≡◌, ℕ, ◌+◌, ◌<◌, ◌≤◌, ℤ, true, false, List, [], ◌∷◌, ◌++◌, Option, Some, None, refl, ap, ap₂, sym, subst, ◌∙◌, arith, length, filter, true≢false, inl, inr, ◌⊎◌, eq-eqb, get_or, map, take}
use Rattle.std.specs.Prelude.{is_some, option_map, slice_get, unwrap_or, filter_map}
use Rattle.std.proofs.lemmas.List.{append-nil, append_assoc}
use Rattle.std.proofs.lemmas.List.Sums.{fold-append}
use Rattle.ppd_ast.specs.Valid.{IsValid}
use Rattle.ppd_ast.proofs.ValidLaws.{slice_get_there, slice_get_below}
use Rattle.ppd_ast.specs.Counting.{one_if}
use Rattle.ppd_model.specs.declared.entry.Logs.{Logs}
use Rattle.ppd_sem.specs.declared.event.Event.{Event}
use Rattle.ppd_sem.specs.declared.proc.Need.{Need}
use Rattle.ppd_sem.specs.declared.proc.Need.TheVariants as n
use Rattle.ppd_model.specs.declared.graph.EdgeId.{EdgeId}
use Rattle.ppd_model.specs.declared.trace.EventId.{EventId}
use Rattle.ppd_model.specs.declared.tracing.Taken.{Taken}
use Rattle.ppd_model.specs.Forward.{edge_in}
use Rattle.ppd_model.specs.FullTrace.{Tag}
use Rattle.ppd_model.specs.HappenedBefore.{EdgeBefore, edge}
use Rattle.ppd_model.specs.Intervals.{Split, splits}
use Rattle.ppd_model.specs.Laws.{IsUnwritten, begins}
use Rattle.ppd_model.specs.Logs.{closed_logs}
use Rattle.ppd_model.specs.Races.{races}
use Rattle.ppd_model.specs.Record.{sync_record}
use Rattle.ppd_model.specs.Schedule.{run}
use Rattle.ppd_model.specs.SharedReads.{IsAccess, IsAcross, IsFound, IsFromStart, IsWrittenBy, WritesIn, need_after}
use Rattle.ppd_model.specs.Story.{Telling, next_event, story, tell, told}
use Rattle.ppd_model.specs.Synchronizations.{kind_of_sync, numbered, sync_of}
use Rattle.ppd_model.specs.World.{World, writes_cell}
use Rattle.ppd_model.proofs.AccessSets.{accesses_there}
use Rattle.ppd_model.proofs.Lists.{get_mapped}
use Rattle.ppd_model.proofs.SharedReads.{shared_found, steps_access}
use Rattle.ppd_graph.specs.Shared.{greatest, greatest_before, is_before_in, writing}
use Rattle.law_flow.proofs.Writers.{count_is, events_in}
use Rattle.law_flow.proofs.Vocabulary.Events.{AreQuiet, IsLastWriter, synchronizes, written_by}
use Rattle.law_flow.proofs.Edges.LogPlaces.EdgePlaces.{count_one}
use Rattle.law_flow.proofs.Edges.Spans.Facts.{count_to}
use Rattle.law_flow.proofs.Edges.Sources.Greatest.{greatest_is}
use Rattle.law_flow.proofs.Edges.Sources.InEdges.{sync_event}
use Rattle.law_flow.proofs.Edges.Sources.Members.{filter_in, filter_none, in_filter}
use Rattle.law_flow.proofs.Edges.Sources.LastOrigins.{before_is, below_moments, goes, later_not, listed, not_before, split_there, under}
use Rattle.law_flow.proofs.Edges.StepEvents.Processes.{Facts, facts}
use Rattle.law_flow.proofs.Edges.StepEvents.ReadSteps.{IsStep, ReadsAt, reads_at, step_of}
use Rattle.law_flow.proofs.Edges.StepEvents.Timeline.{IsTakenAt, NoWrites, did, did_more, next, none_did, taken_at}
use Rattle.law_flow.proofs.Edges.Back.Walked.{same_count}
use Rattle.law_flow.proofs.Edges.StepEvents.Writers.{AreNone, HasEvent, HasSync, IsWrite, as_write, edge_is_count, ev_at, ev_count, ev_within, first_sync, last_writer, none_at, none_front, none_syncs, syncs_both, syncs_none, write_is}
use Rattle.law_flow.proofs.Edges.Sources.Writing.{writing_only}
use Rattle.law_flow.specs.JoinedLaws.{bare}
use Rattle.law_flow.proofs.Vocabulary.Whole.{SharedTagsAreLinked, all_events, edge_after}
use Rattle.law_flow.specs.Writers.{mark_in, marks_of, own_write, shared_writer, writer_from, written_in}
use Rattle.law_flow.proofs.Marks.{edge_is, ended_found, own_found, own_none, state}

write_yes : (c : ℕ) (m : Need) (u : ℤ) → m ≡ n.Write c u → writes_cell c m ≡ true
write_yes c m u e = ap (writes_cell c) e ∙ eq-eqb c c refl

-- the mark of a write after which the process synchronizes, with no more write of the cell before that
mark_ended : (setting : Setting) (h : List ℕ) (v : IsValid setting.program) (q c : ℕ) (u : ℤ) (x : Split) (f : Facts setting h v q x) (before : List Taken) (y : Taken) (mid after : List Taken)
    → did (told setting h) q ≡ before ++ y ∷ (mid ++ after) → y.need ≡ n.Write c u → NoWrites setting.program setting.plan c mid → HasSync mid
    → mark_in (length (filter_map sync_of before)) (marks_of c (bare x.trace.events)) ≡ Some (events_in before)
mark_ended setting h v q c u x f before y mid after are need none' s =
    let whole : did (told setting h) q ≡ before ++ y ∷ (s.front ++ (s.step ∷ (s.back ++ after))) =
    are ∙ ap (λ l. before ++ y ∷ (l ++ after)) s.are ∙ ap (λ l. before ++ y ∷ l) (append_assoc s.front (s.step ∷ s.back) after) in
    let upto : did (told setting h) q ≡ (before ++ y ∷ s.front) ++ s.step ∷ (s.back ++ after) = whole ∙ sym (append_assoc before (y ∷ s.front) (s.step ∷ (s.back ++ after))) in
    let e : HasEvent setting h v q x f (before ++ y ∷ s.front) s.step = ev_at setting h v q x f (before ++ y ∷ s.front) s.step (s.back ++ after) upto (sync_event s.step s.is_sync) in
    let sync : synchronizes (slice_get x.trace.events (events_in (before ++ y ∷ s.front))) ≡ true = e.is_sync ∙ s.is_sync in
    let counted : count_to x.trace.events (events_in (before ++ y ∷ s.front)) ≡ length (filter_map sync_of (before ++ y ∷ s.front)) = ev_count setting h v q x f (before ++ y ∷ s.front) (s.step ∷ (s.back ++ after)) upto in
    let plain : length (filter_map sync_of (y ∷ s.front)) ≡ 0 = syncs_none (y ∷ s.front) (ap (λ m. numbered (kind_of_sync m) y.number) need, s.none) in
    let sum : length (filter_map sync_of (before ++ y ∷ s.front)) ≡ length (filter_map sync_of before) + length (filter_map sync_of (y ∷ s.front)) = syncs_both before (y ∷ s.front) in
    let number : count_to x.trace.events (events_in (before ++ y ∷ s.front)) ≡ length (filter_map sync_of before) = omega (arith, counted, plain, sum) in
    sym (ap (λ i. mark_in i (marks_of c (bare x.trace.events))) number)
    ∙ ended_found x.trace.events c (events_in (before ++ y ∷ s.front)) (events_in before) u
    (last_writer setting h v q x f c u before y s.front (s.step ∷ (s.back ++ after)) whole need s.none (none_front setting.program setting.plan c s.front (s.step ∷ s.back) (subst (NoWrites setting.program setting.plan c) s.are none'))) sync e.within

module _ (setting : Setting) (h : List ℕ) (w : World) (v : IsValid setting.program) (r : run setting h ≡ Some w) (free : races setting h ≡ []) where
  abbrev xs : List Split
  xs = splits setting (story setting h)

  abbrev logs : Logs
  logs = closed_logs setting h

  abbrev evs : List (List Event)
  evs = all_events setting h

  abbrev steps_at : ℕ → List Taken
  steps_at q = did (told setting h) q

  -- a read of process p after g, of event number
  module _ (p c number : ℕ) (x : Split) (f : Facts setting h v p x) (lt : number < length x.trace.events)
      (g rest : List ℕ) (are : h ≡ g ++ p ∷ rest) (needs : need_after setting g p ≡ n.Read c) (events_are : events_in (did (told setting g) p) ≡ number) where
    -- what the process did before
    so_far : (more : List Taken) × (steps_at p ≡ did (told setting g) p ++ more)
    so_far =
        let m = did_more setting.program setting.plan c p (told setting g) (p ∷ rest) in
        (m.0, ap (λ l. did (told setting l) p) are ∙ ap (λ (t : Telling). did t p) (fold-append (tell setting.program setting.plan) (begins setting) g (p ∷ rest)) ∙ m.1)

    -- the edge of the event is that of the read
    count_is_edge : count_to x.trace.events number ≡ edge_in setting g p
    count_is_edge = ap (count_to x.trace.events) (sym events_are) ∙ ev_count setting h v p x f (did (told setting g) p) so_far.0 so_far.1 ∙ sym (edge_is_count setting g p)

    -- what the search goes on with
    abbrev otherwise : Option EdgeId
    otherwise = greatest_before setting.program logs (edge p (edge_in setting g p)) c

    abbrev own : Option ℕ
    own = own_write (count_to x.trace.events number) (state x.trace.events c number).marks

    abbrev answer : Tag
    answer = shared_writer setting.program logs evs p (edge_after (take number (bare x.trace.events))) c (marks_of c (take number (bare x.trace.events)))

    search_is : answer ≡ writer_from p own (option_map (written_in evs c) otherwise)
    search_is =
        ap (λ i. shared_writer setting.program logs evs p i c (marks_of c (take number (bare x.trace.events)))) (edge_is x.trace.events number (omega (arith, lt)))
        ∙ ap (λ i. writer_from p own (option_map (written_in evs c) (greatest_before setting.program logs (edge p i) c))) count_is_edge

    -- a write that the walk finds is one of the steps before the read, in its edge
    found_step : (m : ℕ) (u : ℤ) → IsLastWriter x.trace.events c 0 number m u
        → (b : List ℕ) × (more : List ℕ) × (g ≡ b ++ p ∷ more) × IsAccess c true (need_after setting b p) × (edge_in setting b p ≡ edge_in setting g p) × (IsUnwritten setting.program setting.plan c (begins setting) g → ⊥)
    found_step m u l =
        let to = l.to in
        let within : events_in (did (told setting g) p) ≤ length x.trace.events = ev_within setting h v p x f (did (told setting g) p) so_far.0 so_far.1 in
        let s : IsStep (did (told setting g) p) m = step_of (did (told setting g) p) m (omega (arith, to, events_are)) in
        let whole : steps_at p ≡ s.before ++ s.step ∷ (s.after ++ so_far.0) = so_far.1 ∙ ap (λ z. z ++ so_far.0) s.are ∙ append_assoc s.before (s.step ∷ s.after) so_far.0 in
        let e : HasEvent setting h v p x f s.before s.step = ev_at setting h v p x f s.before s.step (s.after ++ so_far.0) whole s.finishes in
        let need : s.step.need ≡ n.Write c u = write_is c s.step.need u (sym (e.writes c) ∙ ap (λ z. written_by c (slice_get x.trace.events z)) s.number ∙ l.writes) in
        let t : IsTakenAt setting.program setting.plan (begins setting) g p s.before s.step = taken_at setting.program setting.plan (begins setting) g p s.before s.step s.after s.are
        (let z : length (did (begins setting) p) ≡ 0 = ap length (none_did setting.program setting.plan setting.budget p) in omega (arith, z)) in
        let counted : count_to x.trace.events m ≡ length (filter_map sync_of s.before) = ap (count_to x.trace.events) (sym s.number) ∙ ev_count setting h v p x f s.before (s.step ∷ (s.after ++ so_far.0)) whole in
        let counted_g : count_to x.trace.events number ≡ length (filter_map sync_of (did (told setting g) p)) = ap (count_to x.trace.events) (sym events_are) ∙ ev_count setting h v p x f (did (told setting g) p) so_far.0 so_far.1 in
        let still : count_to x.trace.events m ≡ count_to x.trace.events number = plain_to m number l.plain l.since to (omega (arith, within, events_are)) in (
          t.sooner,
          t.later,
          t.schedule_is,
          (u, ap (λ (z : Taken). z.need) t.step_is ∙ need),
          edge_is_count setting t.sooner p ∙ ap (λ z. length (filter_map sync_of z)) t.did_before ∙ sym counted ∙ still ∙ counted_g ∙ sym (edge_is_count setting g p),
          (λ un.
              let d = did_more setting.program setting.plan c p (begins setting) g in
              let all : did (told setting g) p ≡ d.0 = d.1 ∙ ap (λ z. z ++ d.0) (none_did setting.program setting.plan setting.budget p) in
              let no_write = none_at setting.program setting.plan c s.before s.step s.after (subst (NoWrites setting.program setting.plan c) (sym all ∙ s.are) (d.2 un)) in
              true≢false (sym (write_yes c s.step.need u need) ∙ no_write)),
        )
      where
        plain_to : (a b : ℕ) → synchronizes (slice_get x.trace.events a) ≡ false → AreQuiet x.trace.events c (a + 1) b → a < b → b ≤ length x.trace.events → count_to x.trace.events a ≡ count_to x.trace.events b
        plain_to a b plain q less le =
            let rest' : count_to x.trace.events (a + 1) ≡ count_to x.trace.events b = same_count x.trace.events c (a + 1) b (omega (arith, less)) le q in
            let y = slice_get_there x.trace.events a (omega (arith, less, le)) in
            let one : count_to x.trace.events (a + 1) ≡ count_to x.trace.events a + one_if (is_some y.0.event.number) = count_one x.trace.events a y.0 y.1 in
            let zero' : one_if (is_some y.0.event.number) ≡ 0 = ap one_if (sym (ap synchronizes y.1) ∙ plain) in
            let z : count_to x.trace.events a ≡ count_to x.trace.events (a + 1) = omega (arith, one, zero') in
            z ∙ rest'

    -- nothing wrote the cell before the read
    from_start : IsFromStart setting g h p c → answer ≡ None
    from_start s =
        let none : filter (λ a. is_before_in setting.program logs a (edge p (edge_in setting g p))) (writing logs c) ≡ [] =
        filter_none (λ a. is_before_in setting.program logs a (edge p (edge_in setting g p))) (writing logs c)
        (λ a m. not_before setting h w v r a (edge p (edge_in setting g p)) (λ b. s.none a.process a.edge (writing_only setting h v c a m) b)) in
        search_is
        ∙ ap (λ o. writer_from p o (option_map (written_in evs c) otherwise)) (own_none x.trace.events c number (omega (arith, lt)) (λ m u l. (found_step m u l).5 s.unwritten))
        ∙ ap (λ l. option_map (written_in evs c) (greatest (is_before_in setting.program logs) l)) none

    -- the writer is of this step
    module _ (y : IsWrittenBy setting g c) where
      abbrev q : ℕ
      q = y.process

      abbrev b : List ℕ
      b = y.before

      before_h : h ≡ y.before ++ y.process ∷ (y.after ++ p ∷ rest)
      before_h = are ∙ ap (λ l. l ++ p ∷ rest) y.schedule_is ∙ append_assoc y.before (y.process ∷ y.after) (p ∷ rest)

      number_is : record { process = y.process; number = events_in (did (told setting y.before) y.process) } ≡ next_event (told setting y.before) y.process
      number_is = ap (λ z. record { process = y.process; number = z }) (sym (count_is (get_or (told setting y.before).moments y.process [])))

      -- what the writer's process did up to the read
      in_g : IsWrite setting y.before y.after y.process c
      in_g = as_write setting y.before y.after y.process c (goes setting h w v r c (need_after setting y.before y.process) y.writes)

      done_g : did (told setting g) y.process ≡ did (told setting y.before) y.process ++ next setting.program setting.plan (told setting y.before) y.process ∷ in_g.mid
      done_g = ap (λ l. did (told setting l) y.process) y.schedule_is ∙ in_g.steps_are

      later_h : (more : List Taken) × (steps_at y.process ≡ did (told setting y.before) y.process ++ next setting.program setting.plan (told setting y.before) y.process ∷ (in_g.mid ++ more))
      later_h =
          let m = did_more setting.program setting.plan c y.process (told setting g) (p ∷ rest) in (
            m.0,
            ap (λ l. did (told setting l) y.process) are ∙ ap (λ (t : Telling). did t y.process) (fold-append (tell setting.program setting.plan) (begins setting) g (p ∷ rest)) ∙ m.1
                ∙ ap (λ l. l ++ m.0) done_g ∙ append_assoc (did (told setting y.before) y.process) (next setting.program setting.plan (told setting y.before) y.process ∷ in_g.mid) m.0,
          )

      -- in the read's own edge
      own_edge : y.process ≡ p → edge_in setting y.before y.process ≡ edge_in setting g p → answer ≡ Some (next_event (told setting y.before) y.process)
      own_edge same edges =
          let steps_p : steps_at p ≡ did (told setting y.before) y.process ++ next setting.program setting.plan (told setting y.before) y.process ∷ (in_g.mid ++ later_h.0) = ap steps_at (sym same) ∙ later_h.1 in
          let done_p : did (told setting g) p ≡ did (told setting y.before) y.process ++ next setting.program setting.plan (told setting y.before) y.process ∷ in_g.mid = ap (did (told setting g)) (sym same) ∙ done_g in
          let front : edge_in setting y.before y.process ≡ length (filter_map sync_of (did (told setting y.before) y.process)) = edge_is_count setting y.before y.process in
          let total : edge_in setting g p ≡ length (filter_map sync_of (did (told setting y.before) y.process ++ next setting.program setting.plan (told setting y.before) y.process ∷ in_g.mid)) = edge_is_count setting g p ∙ ap (λ l. length (filter_map sync_of l)) done_p in
          let sum : length (filter_map sync_of (did (told setting y.before) y.process ++ next setting.program setting.plan (told setting y.before) y.process ∷ in_g.mid)) ≡ length (filter_map sync_of (did (told setting y.before) y.process)) + length (filter_map sync_of (next setting.program setting.plan (told setting y.before) y.process ∷ in_g.mid)) =
          syncs_both (did (told setting y.before) y.process) (next setting.program setting.plan (told setting y.before) y.process ∷ in_g.mid) in
          let still = none_syncs (next setting.program setting.plan (told setting y.before) y.process ∷ in_g.mid) (omega (arith, edges, front, total, sum)) in
          let l : IsLastWriter x.trace.events c 0 (events_in (did (told setting y.before) y.process ++ next setting.program setting.plan (told setting y.before) y.process ∷ in_g.mid)) (events_in (did (told setting y.before) y.process)) y.writes.0 =
          last_writer setting h v p x f c y.writes.0 (did (told setting y.before) y.process) (next setting.program setting.plan (told setting y.before) y.process) in_g.mid later_h.0 steps_p y.writes.1 still.1 (in_g.nowhere y.unwritten) in
          let upto : events_in (did (told setting y.before) y.process ++ next setting.program setting.plan (told setting y.before) y.process ∷ in_g.mid) ≡ number = ap events_in (sym done_p) ∙ events_are in
          let less = l.to in
          search_is
          ∙ ap (λ o. writer_from p o (option_map (written_in evs c) otherwise))
          (own_found x.trace.events c number (events_in (did (told setting y.before) y.process)) y.writes.0 (omega (arith, lt)) (subst (λ z. IsLastWriter x.trace.events c 0 z (events_in (did (told setting y.before) y.process)) y.writes.0) upto l))
          ∙ ap (λ z. Some (record { process = z; number = events_in (did (told setting y.before) y.process) })) (sym same)
          ∙ ap (λ (id : EventId). Some id) number_is

      -- in another one
      across : IsAcross setting g h p c y.process (edge_in setting y.before y.process) → answer ≡ Some (next_event (told setting y.before) y.process)
      across z =
          let top : EdgeId = edge y.process (edge_in setting y.before y.process) in
          let mine : EdgeId = edge p (edge_in setting g p) in
          let is : otherwise ≡ Some top =
          greatest_is (is_before_in setting.program logs) top (filter (λ a. is_before_in setting.program logs a mine) (writing logs c))
          (λ a m.
          let both = in_filter (λ d. is_before_in setting.program logs d mine) a (writing logs c) m in
          let wr : WritesIn setting h c a.process a.edge = writing_only setting h v c a both.0 in
          under setting h w v r y.before y.process (y.after ++ p ∷ rest) c a before_h wr (z.greatest a.process a.edge wr ((before_is setting h w v r a mine).0 both.1)))
          (filter_in (λ d. is_before_in setting.program logs d mine) top (writing logs c) (listed setting h w v r y.before y.process (y.after ++ p ∷ rest) c before_h y.writes) ((before_is setting h w v r top mine).1 z.before)) in
          let lt_q : y.process < length (told setting h).moments = below_moments (told setting h).moments y.process (did (told setting y.before) y.process) (next setting.program setting.plan (told setting y.before) y.process) (in_g.mid ++ later_h.0) later_h.1 in
          let s = split_there setting (story setting h) 0 (told setting h).moments y.process lt_q in
          let fq : Facts setting h v y.process s.0 = facts setting h v y.process s.0 s.1 in
          let has : HasSync in_g.mid = elim (first_sync in_g.mid) [ inl still ↦ absurd (no_sync still) | inr has' ↦ has' ] in
          let row : get_or evs y.process [] ≡ bare s.0.trace.events = get_mapped (λ (z : Split). bare z.trace.events) xs y.process [] s.0 s.1 in
          let marked : mark_in (edge_in setting y.before y.process) (marks_of c (get_or evs y.process [])) ≡ Some (events_in (did (told setting y.before) y.process)) =
          ap₂ (λ i es. mark_in i (marks_of c es)) (edge_is_count setting y.before y.process) row
          ∙ mark_ended setting h v y.process c y.writes.0 s.0 fq (did (told setting y.before) y.process) (next setting.program setting.plan (told setting y.before) y.process) in_g.mid later_h.0 later_h.1 y.writes.1 (in_g.nowhere y.unwritten) has in
          search_is
          ∙ ap (λ o. writer_from p o (option_map (written_in evs c) otherwise)) (own_none x.trace.events c number (omega (arith, lt)) (λ m u l. let t = found_step m u l in z.none_own t.0 t.1 t.2 t.3 t.4))
          ∙ ap (λ o. option_map (written_in evs c) o) is
          ∙ ap (λ o. Some (record { process = y.process; number = unwrap_or o 0 })) marked
          ∙ ap (λ (id : EventId). Some id) number_is
        where
          -- the writer's process left that edge before the read
          no_sync : AreNone in_g.mid → ⊥
          no_sync still =
              let none : length (filter_map sync_of (next setting.program setting.plan (told setting y.before) y.process ∷ in_g.mid)) ≡ 0 =
              syncs_none (next setting.program setting.plan (told setting y.before) y.process ∷ in_g.mid) (ap (λ m. numbered (kind_of_sync m) (next setting.program setting.plan (told setting y.before) y.process).number) y.writes.1, still) in
              let sum : length (filter_map sync_of (did (told setting y.before) y.process ++ next setting.program setting.plan (told setting y.before) y.process ∷ in_g.mid)) ≡ length (filter_map sync_of (did (told setting y.before) y.process)) + length (filter_map sync_of (next setting.program setting.plan (told setting y.before) y.process ∷ in_g.mid)) =
              syncs_both (did (told setting y.before) y.process) (next setting.program setting.plan (told setting y.before) y.process ∷ in_g.mid) in
              let front : edge_in setting y.before y.process ≡ length (filter_map sync_of (did (told setting y.before) y.process)) = edge_is_count setting y.before y.process in
              let total : edge_in setting g y.process ≡ length (filter_map sync_of (did (told setting y.before) y.process ++ next setting.program setting.plan (told setting y.before) y.process ∷ in_g.mid)) = edge_is_count setting g y.process ∙ ap (λ l. length (filter_map sync_of l)) done_g in
              let same : edge_in setting y.before y.process ≡ edge_in setting g y.process = omega (arith, none, sum, front, total) in
              later_not setting h w v r g [] (p ∷ rest) (are ∙ ap (λ l. l ++ p ∷ rest) (sym (append-nil g))) p y.process
              (subst (λ l. EdgeBefore setting.program (sync_record setting h) (edge y.process (edge_in setting l y.process)) (edge p (edge_in setting g p))) (sym (append-nil g))
              (subst (λ i. EdgeBefore setting.program (sync_record setting h) (edge y.process i) (edge p (edge_in setting g p))) same z.before))

    -- by what is known of the read
    by_found : (tag : Tag) → tag ≡ get_or (told setting g).writers c None → IsFound setting g h p c → answer ≡ tag
    by_found tag is (inl s) = from_start s ∙ sym (is ∙ s.tag_is)
    by_found tag is (inr (y, inl same)) = own_edge y same.0 same.1 ∙ sym (is ∙ y.tag_is)
    by_found tag is (inr (y, inr other)) = across y other ∙ sym (is ∙ y.tag_is)

pub shared_tags : SharedTagsAreLinked
shared_tags setting h w v r free p number i c x tag there s =
    let f : Facts setting h v p x = facts setting h v p x there in
    let a : ReadsAt setting h v p number c tag = reads_at setting h v p x f number s.event i c s.access tag s.event_is s.access_is s.spot s.tagged in
    let m = steps_access setting a.sooner p a.later c false a.needs in
    let lt : c < length setting.program.starts = accesses_there setting (a.sooner ++ p ∷ a.later) p m.0 (record { edge = edge_in setting a.sooner p; cell = c; writes = false }) v m.1 in
    let found : IsFound setting a.sooner (a.sooner ++ p ∷ a.later) p c =
    shared_found setting a.sooner p a.later w (subst (λ l. run setting l ≡ Some w) a.schedule_is r) (subst (λ l. races setting l ≡ []) a.schedule_is free) c lt a.needs in
    by_found setting h w v r free p c number x f (slice_get_below x.trace.events number s.event s.event_is) a.sooner a.later a.schedule_is a.needs a.events_are tag a.tag_is
    (subst (λ l. IsFound setting a.sooner l p c) (sym a.schedule_is) found)
