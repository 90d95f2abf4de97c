-- The search finds the last write of an edge, and refers to it as the model does.
use Rattle.ppd_model.specs.Setting.{Setting}
use Rattle.std.proofs.Common.{◌≡◌, ℕ, ◌+◌, ◌<◌, ◌≤◌, ℤ, Bool, true, false, List, [], ◌∷◌, ◌++◌, Some, None, Ok, refl, ap, ap₂, sym, subst, ◌∙◌, arith, length, true≢false}
use Rattle.std.specs.Prelude.{is_some, slice_get, get_or, filter_map}
use Rattle.std.proofs.lemmas.List.{append-nil, append_assoc}
use Rattle.ppd_ast.specs.Valid.{IsValid}
use Rattle.ppd_model.specs.declared.entry.Logs.{Logs}
use Rattle.ppd_sem.specs.declared.proc.Need.{Need}
use Rattle.ppd_sem.specs.declared.proc.Need.TheVariants as n
use Rattle.ppd_sem.specs.Described.{is_event}
use Rattle.ppd_model.specs.declared.flow.Origin.TheVariants as origin
use Rattle.ppd_model.specs.declared.tracing.Taken.{Taken}
use Rattle.ppd_model.specs.FlowbackEdges.{part_at}
use Rattle.ppd_model.specs.HappenedBefore.{edge}
use Rattle.ppd_model.specs.Intervals.{own, Split, ref, splits}
use Rattle.ppd_model.specs.Items.{IsReferred}
use Rattle.ppd_model.specs.Logs.{closed_logs}
use Rattle.ppd_model.specs.RecordedSets.{RecordsAccesses}
use Rattle.ppd_model.specs.Story.{story, told}
use Rattle.ppd_model.specs.Synchronizations.{kind_of_sync, numbered, sync_of}
use Rattle.ppd_model.proofs.Items.{items_whole}
use Rattle.ppd_graph.specs.Ends.{end_interval, end_item}
use Rattle.ppd_graph.specs.Seen.{seen_of}
use Rattle.ppd_graph.specs.Shared.{written_at, written_in}
use Rattle.ppd_graph.specs.Walk.{walk}
use Rattle.law_steps.proofs.StaticEdges.SharedCells.Writers.{events_in}
use Rattle.law_flow.proofs.Vocabulary.Events.{IsLastWriter, synchronizes}
use Rattle.law_flow.specs.Edges.SharedEdges.{all_seen}
use Rattle.law_flow.proofs.Edges.LogPlaces.EdgeEnds.{EndsAt, EndsBy, at_last_edge, at_sync}
use Rattle.law_flow.proofs.Edges.Spans.Facts.{count_to}
use Rattle.law_flow.proofs.Edges.StepEvents.Marks.{length_is}
use Rattle.law_flow.proofs.Edges.StepEvents.Processes.{Facts}
use Rattle.law_flow.proofs.Edges.StepEvents.Timeline.{NoWrites, did}
use Rattle.law_flow.proofs.Edges.Back.Walked.{IsFoundAt, found_is}
use Rattle.law_flow.proofs.Edges.StepEvents.Writers.{AreNone, HasEvent, HasSync, ev_at, ev_count, last_writer, none_front, syncs_both, syncs_none}

plain : (m : Need) → is_event m ≡ false → kind_of_sync m ≡ None
plain (n.Read c) g = refl
plain (n.Enter b w) g = refl
plain n.Budget g = refl
plain n.Stopped g = refl
plain m g = absurd (true≢false g)

-- a synchronization is an event
pub sync_event : (y : Taken) → is_some (sync_of y) ≡ true → is_event y.need ≡ true
sync_event y e = by (is_event y.need) refl
  where
    by : (b : Bool) → is_event y.need ≡ b → is_event y.need ≡ true
    by true f = f
    by false f = absurd (true≢false (sym e ∙ ap (λ k. is_some (numbered k y.number)) (plain y.need f)))

module _ (setting : Setting) (h : List ℕ) (v : IsValid setting.program) where
  abbrev xs : List Split
  xs = splits setting (story setting h)

  abbrev logs : Logs
  logs = closed_logs setting h

  abbrev steps_at : ℕ → List Taken
  steps_at q = did (told setting h) q

  -- an event at its place is referred to there
  pub ref_of : (q : ℕ) (x : Split) → slice_get xs q ≡ Some x → (m k j : ℕ) → m < length x.trace.events → part_at x k j ≡ Some (own m) → ref xs (record { process = q; number = m }) ≡ origin.Item q k j
  ref_of q x there m k j lt place =
      let r : IsReferred xs x q m = (items_whole setting h q x v there).events m lt in
      let same = r.placed.once k j place in
      r.ref_is ∙ ap₂ (λ a b. origin.Item q a b) (sym same.0) (sym same.1)

  -- the write that was found in an edge
  found_there : (q i m e : ℕ) (c : ℕ) (u : ℤ) (x : Split) (f : Facts setting h v q x) → EndsBy x (get_or logs.lists q []) i e → IsLastWriter x.trace.events c 0 e m u → e ≤ length x.trace.events
      → (written_in logs (all_seen setting h) c (edge q i)).found ≡ Ok (u, ref xs (record { process = q; number = m }))
  found_there q i m e c u x f ends l le =
      let w : IsFoundAt x (walk (seen_of x) c (end_interval (get_or logs.lists q []) i) (end_item (get_or logs.lists q []) (seen_of x) i)).found m u = found_is x c e m u l (walk (seen_of x) c (end_interval (get_or logs.lists q []) i) (end_item (get_or logs.lists q []) (seen_of x) i)).found (ends.walks c) in
      let to = l.to in
      ap (λ z. written_at logs c (edge q i) (walk z c (end_interval (get_or logs.lists q []) i) (end_item (get_or logs.lists q []) z i)).found) f.seen_is
      ∙ ap (written_at logs c (edge q i)) w.is
      ∙ ap (λ o. Ok (u, o)) (sym (ref_of q x f.there m w.interval w.item (omega (arith, to, le)) w.there))

  -- of a write after which the process synchronizes, with no more write of the cell before that
  pub in_ended : (q c : ℕ) (u : ℤ) (x : Split) (f : Facts setting h v q x) (before : List Taken) (y : Taken) (mid after : List Taken) → steps_at q ≡ before ++ y ∷ (mid ++ after) → y.need ≡ n.Write c u → NoWrites setting.program setting.plan c mid → HasSync mid
      → (written_in logs (all_seen setting h) c (edge q (length (filter_map sync_of before)))).found ≡ Ok (u, ref xs (record { process = q; number = events_in before }))
  in_ended q c u x f before y mid after are need none' s =
      let r : RecordsAccesses (story setting h) q (get_or logs.lists q []) = f.records in
      let whole : steps_at q ≡ before ++ y ∷ (s.front ++ (s.step ∷ (s.back ++ after))) =
      are ∙ ap (λ l. before ++ y ∷ (l ++ after)) s.are ∙ ap (λ l. before ++ y ∷ l) (append_assoc s.front (s.step ∷ s.back) after) in
      let upto : steps_at q ≡ (before ++ y ∷ s.front) ++ s.step ∷ (s.back ++ after) = whole ∙ sym (append_assoc before (y ∷ s.front) (s.step ∷ (s.back ++ after))) in
      let e : HasEvent setting h v q x f (before ++ y ∷ s.front) s.step = ev_at setting h v q x f (before ++ y ∷ s.front) s.step (s.back ++ after) upto (sync_event s.step s.is_sync) in
      let sync : synchronizes (slice_get x.trace.events (events_in (before ++ y ∷ s.front))) ≡ true = e.is_sync ∙ s.is_sync in
      let counted : count_to x.trace.events (events_in (before ++ y ∷ s.front)) ≡ length (filter_map sync_of (before ++ y ∷ s.front)) = ev_count setting h v q x f (before ++ y ∷ s.front) (s.step ∷ (s.back ++ after)) upto in
      let plain : length (filter_map sync_of (y ∷ s.front)) ≡ 0 = syncs_none (y ∷ s.front) (ap (λ m. numbered (kind_of_sync m) y.number) need, s.none) in
      let sum : length (filter_map sync_of (before ++ y ∷ s.front)) ≡ length (filter_map sync_of before) + length (filter_map sync_of (y ∷ s.front)) = syncs_both before (y ∷ s.front) in
      let number : count_to x.trace.events (events_in (before ++ y ∷ s.front)) ≡ length (filter_map sync_of before) = omega (arith, counted, plain, sum) in
      let ends : EndsAt x (get_or logs.lists q []) (count_to x.trace.events (events_in (before ++ y ∷ s.front))) (events_in (before ++ y ∷ s.front)) =
      at_sync x (get_or logs.lists q []) f.told_by r.before r.status r.rest _ _ r.entries_are r.no_end (events_in (before ++ y ∷ s.front)) sync in
      let lt = e.within in
      subst (λ i. (written_in logs (all_seen setting h) c (edge q i)).found ≡ Ok (u, ref xs (record { process = q; number = events_in before }))) number
      (found_there q (count_to x.trace.events (events_in (before ++ y ∷ s.front))) (events_in before) (events_in (before ++ y ∷ s.front)) c u x f ends.by
      (last_writer setting h v q x f c u before y s.front (s.step ∷ (s.back ++ after)) whole need s.none (none_front setting.program setting.plan c s.front (s.step ∷ s.back) (subst (NoWrites setting.program setting.plan c) s.are none'))) (omega (arith, lt)))

  -- of a write after which the process neither synchronizes nor writes the cell
  pub in_last : (q c : ℕ) (u : ℤ) (x : Split) (f : Facts setting h v q x) (before : List Taken) (y : Taken) (mid : List Taken) → steps_at q ≡ before ++ y ∷ mid → y.need ≡ n.Write c u → NoWrites setting.program setting.plan c mid → AreNone mid
      → (written_in logs (all_seen setting h) c (edge q (length (filter_map sync_of before)))).found ≡ Ok (u, ref xs (record { process = q; number = events_in before }))
  in_last q c u x f before y mid are need none' still =
      let r : RecordsAccesses (story setting h) q (get_or logs.lists q []) = f.records in
      let whole : steps_at q ≡ before ++ y ∷ (mid ++ []) = are ∙ ap (λ l. before ++ y ∷ l) (sym (append-nil mid)) in
      let all : steps_at q ≡ (before ++ y ∷ mid) ++ [] = are ∙ sym (append-nil (before ++ y ∷ mid)) in
      let counted : count_to x.trace.events (events_in (before ++ y ∷ mid)) ≡ length (filter_map sync_of (before ++ y ∷ mid)) = ev_count setting h v q x f (before ++ y ∷ mid) [] all in
      let long : events_in (before ++ y ∷ mid) ≡ length x.trace.events =
      ap events_in (sym are) ∙ sym (length_is setting (story setting h) q (steps_at q) f.steps_own f.steps_numbered (steps_at q)) ∙ ap length (sym f.events_are) in
      let plain : length (filter_map sync_of (y ∷ mid)) ≡ 0 = syncs_none (y ∷ mid) (ap (λ m. numbered (kind_of_sync m) y.number) need, still) in
      let sum : length (filter_map sync_of (before ++ y ∷ mid)) ≡ length (filter_map sync_of before) + length (filter_map sync_of (y ∷ mid)) = syncs_both before (y ∷ mid) in
      let number : count_to x.trace.events (length x.trace.events) ≡ length (filter_map sync_of before) = ap (count_to x.trace.events) (sym long) ∙ (let z : count_to x.trace.events (events_in (before ++ y ∷ mid)) ≡ length (filter_map sync_of before) = omega (arith, counted, plain, sum) in z) in
      let ends : EndsBy x (get_or logs.lists q []) (count_to x.trace.events (length x.trace.events)) (length x.trace.events) =
      at_last_edge x (get_or logs.lists q []) f.told_by r.before r.status r.rest _ _ r.entries_are r.no_end in
      subst (λ i. (written_in logs (all_seen setting h) c (edge q i)).found ≡ Ok (u, ref xs (record { process = q; number = events_in before }))) number
      (found_there q (count_to x.trace.events (length x.trace.events)) (events_in before) (length x.trace.events) c u x f ends
      (subst (λ k. IsLastWriter x.trace.events c 0 k (events_in before) u) long (last_writer setting h v q x f c u before y mid [] whole need still none')) (omega arith))
