-- The items of a run, joined and linked, are its full trace.
use Rattle.ppd_model.specs.Setting.{Setting}
use Rattle.std.proofs.Common.{◌≡◌, ℕ, zero, suc, ◌+◌, ◌<◌, ◌≤◌, List, [], ◌∷◌, ◌++◌, Option, Some, None, refl, ap, ap₂, sym, subst, ◌∙◌, arith, get_or, length, length-append, map, take}
use Rattle.std.specs.Prelude.{fold, slice_get}
use Rattle.std.proofs.lemmas.List.{append-nil, append_assoc, map-append}
use Rattle.std.proofs.lemmas.List.Sums.{fold-append}
use Rattle.std.proofs.lemmas.Option.{none-some}
use Rattle.ppd_ast.specs.Valid.{IsValid}
use Rattle.ppd_model.specs.declared.entry.Logs.{Logs}
use Rattle.ppd_sem.specs.declared.event.Access.{Access}
use Rattle.ppd_sem.specs.declared.event.Event.{Event}
use Rattle.ppd_sem.specs.declared.event.Spot.{Spot}
use Rattle.ppd_sem.specs.declared.event.Spot.TheVariants.{Local, Shared}
use Rattle.ppd_model.specs.declared.trace.TracedEvent.{TracedEvent}
use Rattle.ppd_model.specs.declared.tracing.Story.{Story}
use Rattle.ppd_model.specs.declared.tracing.Taken.{Taken}
use Rattle.ppd_model.specs.declared.tracing.Tracing.{Tracing}
use Rattle.ppd_model.specs.FullTrace.{Tag, tags_of, top_tags, tracing_of, tag_past}
use Rattle.ppd_model.proofs.TraceWords.{events_from}
use Rattle.ppd_model.specs.Intervals.{Split, split_of, splits}
use Rattle.ppd_model.proofs.IntervalWords.{splits_from}
use Rattle.ppd_model.specs.Logs.{closed_logs}
use Rattle.ppd_model.specs.Races.{races}
use Rattle.ppd_model.specs.Schedule.{run}
use Rattle.ppd_model.specs.Story.{story, told}
use Rattle.ppd_model.specs.World.{World}
use Rattle.ppd_model.proofs.CountedOn.{last_at}
use Rattle.ppd_model.proofs.OneHistory.{map-map}
use Rattle.ppd_model.proofs.States.{follow as states_follow}
use Rattle.ppd_graph.specs.Seen.{seen_of}
use Rattle.law_flow.specs.Edges.SharedEdges.{all_seen}
use Rattle.law_flow.proofs.Edges.StepEvents.Processes.{Facts, facts}
use Rattle.law_flow.proofs.Edges.StepEvents.Timeline.{did}
use Rattle.law_flow.specs.Following.{AreFollowed, Followed, IsTracedAt, begun, edge_past, follow}
use Rattle.law_flow.specs.Joined.{events_in}
use Rattle.law_flow.specs.JoinedLaws.{JoinedTraceIsFull, bare}
use Rattle.law_flow.proofs.Vocabulary.Whole.{IsSharedRead, all_events, edge_after}
use Rattle.law_flow.specs.Linked.{Linking, linked, linked_trace, link_from, links_from, pair_of, read_writer, spot_writer, unlinked}
use Rattle.law_flow.specs.Writers.{marks_of, shared_writer}
use Rattle.law_flow.proofs.Followed.{events_followed}
use Rattle.law_flow.proofs.Joining.{joined_events}
use Rattle.law_flow.proofs.PairTags.{pairs_linked}
use Rattle.law_flow.proofs.SharedWriters.{shared_tags}

-- ---- lists

at_middle : {A : Type 0} (xs : List A) (y : A) (ys : List A) → slice_get (xs ++ y ∷ ys) (length xs) ≡ Some y
at_middle [] y ys = refl
at_middle (x ∷ xs) y ys = at_middle xs y ys

take_front : {A : Type 0} (xs ys : List A) → take (length xs) (xs ++ ys) ≡ xs
take_front [] [] = refl
take_front [] (y ∷ ys) = refl
take_front (x ∷ xs) ys = ap (λ l. x ∷ l) (take_front xs ys)

length_bare : (es : List TracedEvent) → length (bare es) ≡ length es
length_bare [] = refl
length_bare (e ∷ es) = ap suc (length_bare es)

map_same : {A B : Type 0} (f g : A → B) (xs : List A) → ((i : ℕ) (x : A) → slice_get xs i ≡ Some x → f x ≡ g x) → map f xs ≡ map g xs
map_same f g [] h = refl
map_same f g (x ∷ xs) h = ap₂ (λ y ys. y ∷ ys) (h 0 x refl) (map_same f g xs (λ i y e. h (suc i) y e))

-- ---- the writers of reads

-- where each shared read has this tag, the tags are found
writers_are : (locals : List Tag) (shared : ℕ → Tag) (writer : Spot → Tag) → ((frame c : ℕ) → writer (Local frame c) ≡ get_or locals c None) → ((c : ℕ) → writer (Shared c) ≡ shared c)
    → (answers : List Tag) (reads : List Access)
    → ((i c : ℕ) (a : Access) (w : Tag) → slice_get reads i ≡ Some a → a.spot ≡ Shared c → slice_get (tags_of locals answers reads) i ≡ Some w → shared c ≡ w)
    → map (λ (a : Access). writer a.spot) reads ≡ tags_of locals answers reads
writers_are locals shared writer own other answers [] h = refl
writers_are locals shared writer own other answers (a ∷ as') h =
    ap₂ (λ w ws. w ∷ ws) (first a.spot refl)
    (writers_are locals shared writer own other (tag_past locals answers a.spot).1 as' (λ i c b w e s t. h (suc i) c b w e s t))
  where
    first : (s : Spot) → a.spot ≡ s → writer a.spot ≡ (tag_past locals answers a.spot).0
    first (Local frame c) is = ap writer is ∙ own frame c ∙ ap (λ s. (tag_past locals answers s).0) (sym is)
    first (Shared c) is = ap writer is ∙ other c ∙ h 0 c a (tag_past locals answers a.spot).0 refl is refl

-- ---- one process

module _ (setting : Setting) (h : List ℕ) (w : World) (v : IsValid setting.program) (r : run setting h ≡ Some w) (free : races setting h ≡ []) where
  abbrev xs : List Split
  xs = splits setting (story setting h)

  abbrev logs : Logs
  logs = closed_logs setting h

  abbrev evs : List (List Event)
  evs = all_events setting h

  module _ (p : ℕ) (x : Split) (there : slice_get xs p ≡ Some x) where
    abbrev es : List TracedEvent
    es = x.trace.events

    module _ (past : List TracedEvent) (e : TracedEvent) (rest : List TracedEvent) (f : Followed) (are : x.trace.events ≡ past ++ e ∷ rest) (edge : f.edge ≡ edge_after (bare past)) (traced : IsTracedAt setting.program f e) where
      at : slice_get x.trace.events (length past) ≡ Some e
      at = ap (λ l. slice_get l (length past)) are ∙ at_middle past e rest

      front : take (length past) (bare x.trace.events) ≡ bare past
      front =
          ap (λ l. take (length past) (bare l)) are
          ∙ ap (take (length past)) (map-append (λ (z : TracedEvent). z.event) past (e ∷ rest))
          ∙ ap (λ n. take n (bare past ++ bare (e ∷ rest))) (sym (length_bare past))
          ∙ take_front (bare past) (bare (e ∷ rest))

      abbrev state : Linking
      state = record { followed = f; past = bare past }

      abbrev shared : ℕ → Tag
      shared c = shared_writer setting.program logs evs p f.edge c (marks_of c (bare past))

      shared_is : (i c : ℕ) (a : Access) (tag : Tag) → slice_get e.event.reads i ≡ Some a → a.spot ≡ Shared c → slice_get e.writers i ≡ Some tag → shared c ≡ tag
      shared_is i c a tag read spot tagged =
          ap₂ (λ j l. shared_writer setting.program logs evs p j c (marks_of c l)) (edge ∙ sym (ap edge_after front)) (sym front)
          ∙ shared_tags setting h w v r free p (length past) i c x tag there
          (record { event = e; event_is = at; access = a; access_is = read; spot = spot; tagged = tagged })

      reads_are : map (read_writer setting.program logs evs p state) e.event.reads ≡ e.writers
      reads_are =
          writers_are (top_tags f.activations) shared (spot_writer setting.program logs evs p state) (λ frame c. refl) (λ c. refl) traced.answers e.event.reads
          (λ i c a tag read spot tagged. shared_is i c a tag read spot (ap (λ l. slice_get l i) traced.writers ∙ tagged))
          ∙ sym traced.writers

      pair_is : (linked setting.program logs evs p state e.event).paired ≡ e.paired
      pair_is =
          ap (λ j. pair_of setting.program logs evs p j e.event.number) (edge ∙ sym (ap edge_after front))
          ∙ pairs_linked setting h v p (length past) x e there at

      event_linked : linked setting.program logs evs p state e.event ≡ e
      event_linked =
          ap (λ ws. record { event = e.event; writers = ws; parent = (linked setting.program logs evs p state e.event).parent; paired = (linked setting.program logs evs p state e.event).paired }) reads_are
          ∙ ap₂ (λ a b. record { event = e.event; writers = e.writers; parent = a; paired = b }) (sym traced.parent) pair_is

    rest_linked : (past rest : List TracedEvent) (f : Followed) → x.trace.events ≡ past ++ rest → f.edge ≡ edge_after (bare past) → AreFollowed setting.program p f rest
        → link_from setting.program logs evs p (record { followed = f; past = bare past }) (bare rest) ≡ rest
    rest_linked past [] f are edge traced = refl
    rest_linked past (e ∷ rest) f are edge traced =
        let grown : bare past ++ e.event ∷ [] ≡ bare (past ++ e ∷ []) = sym (map-append (λ (z : TracedEvent). z.event) past (e ∷ [])) in
        ap₂ (λ y ys. y ∷ ys) (event_linked past e rest f are edge traced.0)
        (ap (λ l. link_from setting.program logs evs p (record { followed = follow setting.program p f e.event; past = l }) (bare rest)) grown
        ∙ rest_linked (past ++ e ∷ []) rest (follow setting.program p f e.event) (are ∙ sym (append_assoc past (e ∷ []) rest))
        (ap (λ i. edge_past i e.event.number) edge ∙ sym (fold-append (λ i (y : Event). edge_past i y.number) 0 (bare past) (e.event ∷ [])) ∙ ap edge_after grown)
        traced.1)

    process_linked : link_from setting.program logs evs p (unlinked setting.program p) (bare x.trace.events) ≡ x.trace.events
    process_linked =
        let f : Facts setting h v p x = facts setting h v p x there in
        rest_linked [] x.trace.events (begun setting.program p) refl refl
        (subst (AreFollowed setting.program p (begun setting.program p)) (sym f.events_are) (events_followed setting (story setting h) p (did (told setting h) p) f.steps_own))

  -- ---- all processes

  abbrev row : Split → List Event
  row x = bare x.trace.events

  rows_linked : (k : ℕ) (steps : List (List Taken))
      → ((i : ℕ) (x : Split) → slice_get (splits_from setting (story setting h) k steps) i ≡ Some x → slice_get xs (k + i) ≡ Some x)
      → links_from setting.program logs evs k (map row (splits_from setting (story setting h) k steps)) ≡ events_from setting (story setting h) k steps
  rows_linked k [] there = refl
  rows_linked k (s ∷ rest) there =
      let x : Split = split_of setting (story setting h) k s in
      let z : k + 0 ≡ k = omega arith in
      let here : slice_get xs k ≡ Some x = ap (slice_get xs) (sym z) ∙ there 0 x refl in
      ap₂ (λ y ys. y ∷ ys)
      (process_linked k x here ∙ ap (λ (t : Tracing). t.events) ((states_follow setting h).split (story setting h) k s))
      (rows_linked (k + 1) rest (λ i y e. let a : k + 1 + i ≡ k + suc i = omega arith in ap (slice_get xs) a ∙ there (suc i) y e))

  joined_are : map events_in (all_seen setting h) ≡ evs
  joined_are =
      map-map events_in (λ z. seen_of z) xs
      ∙ map_same (λ z. events_in (seen_of z)) row xs (λ p x e. joined_events setting h p x v e)

  trace_linked : links_from setting.program logs evs 0 evs ≡ events_from setting (story setting h) 0 (story setting h).steps
  trace_linked =
      rows_linked 0 (story setting h).steps (λ i x e. let a : i ≡ 0 + i = omega arith in ap (slice_get xs) (sym a) ∙ e)

pub joined_trace_full : JoinedTraceIsFull
joined_trace_full setting h w v r free =
    ap (λ l. linked_trace setting.program (closed_logs setting h) l) (joined_are setting h w v r free)
    ∙ ap (λ l. record { events = l }) (trace_linked setting h w v r free)
