-- Shared reads and last values: the search finds the writer that the run had.
use Rattle.ppd_model.specs.Setting.{Setting}
use Rattle.law_flow.proofs.Edges.Sources.Greatest.{IsUnder, greatest_is}
use Rattle.law_flow.proofs.Edges.Sources.InEdges.{in_ended, in_last}
use Rattle.law_flow.proofs.Edges.Sources.Members.{empty_if}
use Rattle.law_flow.proofs.Edges.Sources.Writing.{writing_all, writing_only}
use Rattle.law_flow.proofs.Edges.StepEvents.Processes.{Facts, facts}
use Rattle.law_flow.proofs.Edges.StepEvents.Timeline.{NoWrites, did, next, own_is}
use Rattle.law_flow.proofs.Edges.StepEvents.Writers.{IsWrite, as_write, edge_is_count, first_sync, syncs_both}
use Rattle.law_flow.specs.Edges.SharedEdges.{LastWritesAreFound, all_seen}
use Rattle.law_steps.proofs.StaticEdges.SharedCells.Writers.{count_is, events_in}
use Rattle.ppd_ast.specs.Valid.{IsValid}
use Rattle.ppd_model.specs.declared.entry.Logs.{Logs}
use Rattle.ppd_graph.specs.Shared.{found_last, greatest, greatest_writing, is_before_in, writing, written_in, written_or_start}
use Rattle.ppd_model.proofs.Forward.{edges_forward}
use Rattle.ppd_model.proofs.IntervalWords.{splits_from}
use Rattle.ppd_model.proofs.LocalDeeds.{no_tag}
use Rattle.ppd_model.proofs.LogWords.{logs_from}
use Rattle.ppd_model.proofs.RecordedSyncs.{record_syncs}
use Rattle.ppd_model.proofs.SharedReads.{last_greatest, steps_access, writes_step}
use Rattle.ppd_model.proofs.Tags.{tags}
use Rattle.ppd_model.proofs.Tested.{In, tests_edges}
use Rattle.ppd_model.specs.FlowbackEdges.{last}
use Rattle.ppd_model.specs.Forward.{edge_in}
use Rattle.ppd_model.specs.HappenedBefore.{EdgeBefore, edge, is_edge_before}
use Rattle.ppd_model.specs.Intervals.{Split, ref, splits}
use Rattle.ppd_model.specs.Laws.{IsAtStart, IsUnwritten, begins}
use Rattle.ppd_model.specs.Logs.{closed_log, closed_logs}
use Rattle.ppd_model.specs.Races.{races}
use Rattle.ppd_model.specs.Record.{sync_record}
use Rattle.ppd_model.specs.RecordedSets.{last_edge, record_in}
use Rattle.ppd_model.specs.Schedule.{run}
use Rattle.ppd_model.specs.SharedReads.{IsAccess, IsGreatest, IsWriteStep, IsWrittenBy, WritesIn, need_after}
use Rattle.ppd_model.specs.Story.{Moment, Telling, next_event, steps_of, story, tell, told}
use Rattle.ppd_model.specs.Synchronizations.{Sync, sync_of}
use Rattle.ppd_model.specs.World.{World, need, writes_cell}
use Rattle.ppd_model.specs.declared.flow.Origin.TheVariants as origin
use Rattle.ppd_model.specs.declared.graph.EdgeId.{EdgeId}
use Rattle.ppd_model.specs.declared.trace.EventId.{EventId}
use Rattle.ppd_model.specs.declared.tracing.Story.{Story}
use Rattle.ppd_model.specs.declared.tracing.Taken.{Taken}
use Rattle.ppd_sem.specs.declared.proc.Need.{Need}
use Rattle.ppd_sem.specs.declared.proc.Need.TheVariants as n
use Rattle.std.proofs.Common.{Bool, List, Ok, Some, [], ap, ap₂, arith, eq-eqb, false, get_or, inl, inr, length, length-append, map, pos, refl, subst, suc, sym, true, true≢false, zero, ℕ, ℤ, ◌++◌, ◌+◌, ◌<◌, ◌↔◌, ◌∙◌, ◌∷◌, ◌≡◌, ◌⊎◌}
use Rattle.std.proofs.lemmas.List.{append-nil}
use Rattle.std.proofs.lemmas.List.Sums.{fold-append}
use Rattle.std.specs.Option.{option_map_or}
use Rattle.std.specs.Prelude.{IsTrue, filter_map, fold, slice_get}

-- ---- lists

-- two beginnings of one list
prefixes : {A : Type 0} (xs ys us vs : List A) → xs ++ ys ≡ us ++ vs → ((more : List A) × (us ≡ xs ++ more)) ⊎ ((more : List A) × (xs ≡ us ++ more))
prefixes [] ys us vs e = inl (us, refl)
prefixes (x ∷ xs) ys [] vs e = inr (x ∷ xs, refl)
prefixes (x ∷ xs) ys (u ∷ us) vs e =
    let head : x ≡ u = ap (λ l. elim l [ [] ↦ x | z ∷ zs ↦ z ]) e in
    let tail : xs ++ ys ≡ us ++ vs = ap (λ l. elim l [ [] ↦ xs ++ ys | z ∷ zs ↦ zs ]) e in
    elim (prefixes xs ys us vs tail) [
      | inl m ↦ inl (m.0, ap₂ (λ a l. a ∷ l) (sym head) m.1)
      | inr m ↦ inr (m.0, ap₂ (λ a l. a ∷ l) head m.1)
    ]

-- the process that did something is there
pub below_moments : (ms : List (List Moment)) (q : ℕ) (before : List Taken) (y : Taken) (after : List Taken) → steps_of (get_or ms q []) ≡ before ++ y ∷ after → q < length ms
below_moments [] q before y after e = absurd (let z : 0 ≡ length before + suc (length after) = ap length e ∙ length-append before (y ∷ after) in omega (arith, z))
below_moments (m ∷ ms) zero before y after e = omega arith
below_moments (m ∷ ms) (suc q) before y after e = let r : q < length ms = below_moments ms q before y after e in omega (arith, r)

module _ (setting : Setting) where
  pub split_there : (s : Story) (k : ℕ) (ms : List (List Moment)) (q : ℕ) → q < length ms → (x : Split) × (slice_get (splits_from setting s k (map steps_of ms)) q ≡ Some x)
  split_there s k [] q lt = absurd (omega (arith, lt))
  split_there s k (m ∷ ms) zero lt = (_, refl)
  split_there s k (m ∷ ms) (suc q) lt = split_there s (k + 1) ms q (omega (arith, lt))

  lists_length : (k : ℕ) (ms : List (List Moment)) → length (map closed_log (logs_from setting k ms)) ≡ length ms
  lists_length k [] = refl
  lists_length k (m ∷ ms) = ap (λ z. suc z) (lists_length (k + 1) ms)

  module _ (h : List ℕ) (w : World) (v : IsValid setting.program) (r : run setting h ≡ Some w) where
    abbrev xs : List Split
    xs = splits setting (story setting h)

    abbrev logs : Logs
    logs = closed_logs setting h

    abbrev steps_at : ℕ → List Taken
    steps_at q = did (told setting h) q

    abbrev Rec : List (List Sync)
    Rec = sync_record setting h

    -- ---- order

    record_is : record_in logs ≡ sync_record setting h
    record_is = (record_syncs setting h).closed

    pub before_is : (a b : EdgeId) → IsTrue (is_before_in setting.program logs a b) ↔ EdgeBefore setting.program Rec a b
    before_is a b = subst (λ syncs. IsTrue (is_edge_before setting.program syncs a b) ↔ EdgeBefore setting.program Rec a b) (sym record_is) (tests_edges setting.program Rec a b)

    pub not_before : (a b : EdgeId) → (EdgeBefore setting.program Rec a b → ⊥) → is_before_in setting.program logs a b ≡ false
    not_before a b no' = by (is_before_in setting.program logs a b) refl
      where
        by : (t : Bool) → is_before_in setting.program logs a b ≡ t → is_before_in setting.program logs a b ≡ false
        by true e = absurd (no' ((before_is a b).0 e))
        by false e = e

    -- an edge of a later time is not before one of an earlier time
    pub later_not : (g more rest : List ℕ) → h ≡ (g ++ more) ++ rest → (p q : ℕ) → EdgeBefore setting.program Rec (edge q (edge_in setting (g ++ more) q)) (edge p (edge_in setting g p)) → ⊥
    later_not g more rest e p q b =
        edges_forward setting g more rest w (subst (λ l. run setting l ≡ Some w) e r) p q
        (subst (λ l. EdgeBefore setting.program (sync_record setting l) (edge q (edge_in setting (g ++ more) q)) (edge p (edge_in setting g p))) e b)

    -- a write step's edge, and another one that writes the cell and is it or before it
    pub under : (b : List ℕ) (q : ℕ) (after : List ℕ) (c : ℕ) (a : EdgeId) → h ≡ b ++ q ∷ after → WritesIn setting h c a.process a.edge
        → (((a.process ≡ q) × (a.edge ≡ edge_in setting b q)) ⊎ EdgeBefore setting.program Rec a (edge q (edge_in setting b q))) → IsUnder (is_before_in setting.program logs) (edge q (edge_in setting b q)) a
    under b q after c a e wr o = (first o, not_before top a (λ back. no_back o back))
      where
        top : EdgeId
        top = edge q (edge_in setting b q)

        first : (((a.process ≡ q) × (a.edge ≡ edge_in setting b q)) ⊎ EdgeBefore setting.program Rec a (edge q (edge_in setting b q))) → (a ≡ edge q (edge_in setting b q)) ⊎ (is_before_in setting.program logs a (edge q (edge_in setting b q)) ≡ true)
        first (inl p) = inl (ap₂ (λ z i. edge z i) p.0 p.1)
        first (inr p) = inr ((before_is a (edge q (edge_in setting b q))).1 p)

        itself : EdgeBefore setting.program Rec (edge q (edge_in setting b q)) (edge q (edge_in setting b q)) → ⊥
        itself p = later_not b [] (q ∷ after) (e ∙ ap (λ l. l ++ q ∷ after) (sym (append-nil b))) q q (subst (λ l. EdgeBefore setting.program Rec (edge q (edge_in setting l q)) (edge q (edge_in setting b q))) (sym (append-nil b)) p)

        step : IsWriteStep setting h a.process wr.access
        step = writes_step setting h a.process wr.number wr.access wr.there wr.writes

        number : a.edge ≡ edge_in setting step.before a.process
        number = sym wr.edge_is ∙ step.edge_is

        no_back : (((a.process ≡ q) × (a.edge ≡ edge_in setting b q)) ⊎ EdgeBefore setting.program Rec a (edge q (edge_in setting b q))) → EdgeBefore setting.program Rec (edge q (edge_in setting b q)) a → ⊥
        no_back (inl p) back = itself (subst (λ z. EdgeBefore setting.program Rec (edge q (edge_in setting b q)) z) (ap₂ (λ z i. edge z i) p.0 p.1) back)
        no_back (inr p) back = elim (prefixes b (q ∷ after) step.before (a.process ∷ step.after) (sym e ∙ step.schedule_is)) [
          | inl m ↦ later_not b m.0 (a.process ∷ step.after) (step.schedule_is ∙ ap (λ l. l ++ a.process ∷ step.after) m.1) q a.process
              (subst (λ i. EdgeBefore setting.program Rec (edge a.process i) (edge q (edge_in setting b q))) (number ∙ ap (λ l. edge_in setting l a.process) m.1) p)
          | inr m ↦ later_not step.before m.0 (q ∷ after) (e ∙ ap (λ l. l ++ q ∷ after) m.1) a.process q
              (subst (λ i. EdgeBefore setting.program Rec (edge q (edge_in setting (step.before ++ m.0) q)) (edge a.process i)) number
              (subst (λ l. EdgeBefore setting.program Rec (edge q (edge_in setting l q)) a) m.1 back))
        ]

    -- ---- a write

    writes_in : (b : List ℕ) (q : ℕ) (after : List ℕ) (c : ℕ) → h ≡ b ++ q ∷ after → IsAccess c true (need_after setting b q) → WritesIn setting h c q (edge_in setting b q)
    writes_in b q after c e a =
        let m = steps_access setting b q after c true a in
        subst (λ l. WritesIn setting l c q (edge_in setting b q)) (sym e)
        (record { number = m.0; access = record { edge = edge_in setting b q; cell = c; writes = true }; there = m.1; cell = refl; edge_is = refl; writes = refl })

    pub goes : (c : ℕ) (m : Need) → IsAccess c true m → m ≡ n.Stopped → ⊥
    goes c m a e = stops (sym a.1 ∙ e)
      where
        stops : n.Write c a.0 ≡ n.Stopped → ⊥
        stops f = true≢false (ap (λ z. elim z [ n.Stopped ↦ false | _ ↦ true ]) f)

    -- it is one of the edges that write the cell
    pub listed : (b : List ℕ) (q : ℕ) (after : List ℕ) (c : ℕ) → h ≡ b ++ q ∷ after → IsAccess c true (need_after setting b q) → In (edge q (edge_in setting b q)) (writing logs c)
    listed b q after c e a =
        let s : IsWrite setting b after q c = as_write setting b after q c (goes c (need_after setting b q) a) in
        let here : steps_at q ≡ did (told setting b) q ++ next setting.program setting.plan (told setting b) q ∷ s.mid = ap (λ l. did (told setting l) q) e ∙ s.steps_are in
        let lt : q < length (told setting h).moments = below_moments (told setting h).moments q (did (told setting b) q) (next setting.program setting.plan (told setting b) q) s.mid here in
        let long : length (closed_logs setting h).lists ≡ length (told setting h).moments = lists_length 0 (told setting h).moments in
        let edges : edge_in setting b q ≡ length (filter_map sync_of (did (told setting b) q)) = edge_is_count setting b q in
        let total : last_edge (story setting h) q ≡ length (filter_map sync_of (steps_at q)) = ap (λ l. length (filter_map sync_of l)) (own_is setting.program setting.plan setting.budget h q) in
        let sum : length (filter_map sync_of (steps_at q)) ≡ length (filter_map sync_of (did (told setting b) q)) + length (filter_map sync_of (next setting.program setting.plan (told setting b) q ∷ s.mid)) =
        ap (λ l. length (filter_map sync_of l)) here ∙ syncs_both (did (told setting b) q) (next setting.program setting.plan (told setting b) q ∷ s.mid) in
        writing_all setting h v c q (edge_in setting b q) (writes_in b q after c e a) (omega (arith, lt, long)) (omega (arith, edges, total, sum))

    -- nothing writes the cell
    unwritten_at : (c : ℕ) (t : Telling) (b : List ℕ) (q : ℕ) (after : List ℕ) → IsUnwritten setting.program setting.plan c t (b ++ q ∷ after) → writes_cell c (need setting.program setting.plan (fold (tell setting.program setting.plan) t b).world q) ≡ false
    unwritten_at c t [] q after u = u.0
    unwritten_at c t (p ∷ b) q after u = unwritten_at c (tell setting.program setting.plan t p) b q after u.1

    -- ---- the last value

    value_of_access : (c : ℕ) (m : Need) (u : ℤ) → m ≡ n.Write c u → writes_cell c m ≡ true
    value_of_access c m u e = ap (writes_cell c) e ∙ eq-eqb c c refl

    -- where the write is of this step, the search finds it in its edge
    found_last_in : (b : List ℕ) (q : ℕ) (after : List ℕ) (c : ℕ) (u : ℤ) → h ≡ b ++ q ∷ after → need_after setting b q ≡ n.Write c u → IsUnwritten setting.program setting.plan c (told setting (b ++ q ∷ [])) after
        → (written_in logs (all_seen setting h) c (edge q (edge_in setting b q))).found ≡ Ok (u, ref xs (next_event (told setting b) q))
    found_last_in b q after c u e needs un =
        let s : IsWrite setting b after q c = as_write setting b after q c (goes c (need_after setting b q) (u, needs)) in
        let here : steps_at q ≡ did (told setting b) q ++ next setting.program setting.plan (told setting b) q ∷ s.mid = ap (λ l. did (told setting l) q) e ∙ s.steps_are in
        let lt : q < length (told setting h).moments = below_moments (told setting h).moments q (did (told setting b) q) (next setting.program setting.plan (told setting b) q) s.mid here in
        let x = split_there (story setting h) 0 (told setting h).moments q lt in
        let f : Facts setting h v q x.0 = facts setting h v q x.0 x.1 in
        let nowhere : NoWrites setting.program setting.plan c s.mid = s.nowhere un in
        let number : record { process = q; number = events_in (did (told setting b) q) } ≡ next_event (told setting b) q = ap (λ k. record { process = q; number = k }) (sym (count_is (get_or (told setting b).moments q []))) in
        ap (λ i. (written_in logs (all_seen setting h) c (edge q i)).found) (edge_is_count setting b q)
        ∙ elim (first_sync s.mid) [
          | inl still ↦ in_last setting h v q c u x.0 f (did (told setting b) q) (next setting.program setting.plan (told setting b) q) s.mid here needs nowhere still
          | inr has ↦ in_ended setting h v q c u x.0 f (did (told setting b) q) (next setting.program setting.plan (told setting b) q) s.mid [] (here ∙ ap (λ l. did (told setting b) q ++ next setting.program setting.plan (told setting b) q ∷ l) (sym (append-nil s.mid))) needs nowhere has
        ]
        ∙ ap (λ (id : EventId). Ok (u, ref xs id)) number

    last_by : races setting h ≡ [] → (c : ℕ) → c < length setting.program.starts → (u : ℤ) → (x : IsWrittenBy setting h c) → need_after setting x.before x.process ≡ n.Write c u
        → (found_last setting.program logs (all_seen setting h) c).found ≡ Ok (u, option_map_or (ref xs) (Some (next_event (told setting x.before) x.process)) origin.Initial)
    last_by free c lt u x needs =
        let top : EdgeId = edge x.process (edge_in setting x.before x.process) in
        let great : IsGreatest setting h c x.process (edge_in setting x.before x.process) = last_greatest setting h w r free c lt x in
        let is : greatest_writing setting.program logs c ≡ Some top =
        greatest_is (is_before_in setting.program logs) top (writing logs c)
        (λ a m. let wr : WritesIn setting h c a.process a.edge = writing_only setting h v c a m in under x.before x.process x.after c a x.schedule_is wr (great.greatest a.process a.edge wr))
        (listed x.before x.process x.after c x.schedule_is x.writes) in
        ap (λ o. (written_or_start setting.program logs (all_seen setting h) c o).found) is ∙ found_last_in x.before x.process x.after c u x.schedule_is needs x.unwritten

    last_at_start : (c : ℕ) → IsAtStart setting.program setting.plan c (begins setting) (told setting h) h → (found_last setting.program logs (all_seen setting h) c).found ≡ Ok (last setting (story setting h) c)
    last_at_start c s =
        let none : writing logs c ≡ [] = empty_if (writing logs c) (λ a m.
        let wr : WritesIn setting h c a.process a.edge = writing_only setting h v c a m in
        let st : IsWriteStep setting h a.process wr.access = writes_step setting h a.process wr.number wr.access wr.there wr.writes in
        let no_write = unwritten_at c (begins setting) st.before a.process st.after (subst (λ l. IsUnwritten setting.program setting.plan c (begins setting) l) st.schedule_is s.unwritten) in
        let cell : wr.access.cell ≡ c = wr.cell in
        true≢false (sym (value_of_access c (need_after setting st.before a.process) st.writes.0 (st.writes.1 ∙ ap (λ z. n.Write z st.writes.0) cell)) ∙ no_write)) in
        ap (λ l. (written_or_start setting.program logs (all_seen setting h) c (greatest (is_before_in setting.program logs) l)).found) none
        ∙ ap₂ (λ a b. Ok (a, option_map_or (ref xs) b origin.Initial)) (sym s.value_is) (sym (s.tag_is ∙ none_tag setting.program.starts c))
      where
        none_tag : (cells : List ℤ) (k : ℕ) → get_or (map (λ _. no_tag) cells) k no_tag ≡ no_tag
        none_tag [] k = refl
        none_tag (z ∷ zs) zero = refl
        none_tag (z ∷ zs) (suc k) = none_tag zs k

    pub last_is : races setting h ≡ [] → (c : ℕ) → c < length setting.program.starts → (found_last setting.program logs (all_seen setting h) c).found ≡ Ok (last setting (story setting h) c)
    last_is free c lt = elim (tags setting h c lt) [
      | inl s ↦ last_at_start c s
      | inr t ↦
          let x : IsWrittenBy setting h c = record {
            before = t.last.before;
            process = t.last.process;
            after = t.last.after;
            schedule_is = t.last.schedule_is;
            writes = (get_or (told setting h).world.shared c (pos 0), t.last.writes);
            tag_is = t.tag_is ∙ ap (λ z. Some z) t.last.event_is;
            unwritten = subst (λ z. IsUnwritten setting.program setting.plan c z t.last.after) (sym (fold-append (tell setting.program setting.plan) (begins setting) t.last.before (t.last.process ∷ []))) t.last.unwritten;
          } in
          last_by free c lt (get_or (told setting h).world.shared c (pos 0)) x t.last.writes
          ∙ ap (λ z. Ok (get_or (told setting h).world.shared c (pos 0), option_map_or (ref xs) z origin.Initial)) (sym x.tag_is)
    ]

pub last_found : LastWritesAreFound
last_found setting h w v r free c lt = last_is setting h w v r free c lt
