-- The search for shared writes and pairs by the whole logs, over what processes have in their intervals after
-- beginnings of the schedule: it finds what it finds over what they have at the end, where each edge before the place,
-- and each that ends before its synchronization, had ended.
use Rattle.law_steps.specs.Policies.{setting_by}
use Rattle.ppd_model.specs.Setting.{setting_of}
use Rattle.std.proofs.Common.{◌≡◌, ℕ, ◌<◌, ◌≤◌, arith, Bool, true, false, List, [], ◌∷◌, ◌++◌, length, Option, Some, None, Result, refl, ap, ap₂, sym, subst, ◌∙◌, inl, inr, ◌⊎◌, append_assoc, if◌then◌else◌}
use Rattle.std.proofs.lemmas.Bool.{cases_lt, or_right}
use Rattle.std.proofs.lemmas.List.Sums.{fold-append}
use Rattle.std.proofs.lemmas.Option.{none-some}
use Rattle.std.specs.Prelude.{filter, fold, is_some, slice_get, get_or, filter_map}
use Rattle.ppd_ast.specs.declared.plan.Plan.{Plan}
use Rattle.ppd_ast.specs.declared.plan.Policy.{Policy}
use Rattle.ppd_ast.specs.declared.program.Program.{Program}
use Rattle.ppd_ast.specs.Valid.{IsValid}
use Rattle.ppd_ast.proofs.ValidLaws.{slice_get_there}
use Rattle.ppd_blocks.specs.Blocks.{plan_of}
use Rattle.ppd_model.specs.declared.entry.Entry.{Entry}
use Rattle.ppd_model.specs.declared.entry.Logs.{Logs}
use Rattle.ppd_graph.specs.declared.paired.Paired.{Paired}
use Rattle.ppd_graph.specs.declared.paired.Paired.TheVariants.{Nothing, Initial, Node}
use Rattle.ppd_graph.specs.Partners.{pairs_of}
use Rattle.ppd_graph.specs.Times.{ArePartners, node_of, pair_at}
use Rattle.ppd_graph.proofs.Leads.{partners_found}
use Rattle.ppd_model.specs.declared.graph.EdgeId.{EdgeId}
use Rattle.ppd_model.specs.declared.flow.Origin.{Origin}
use Rattle.ppd_model.specs.declared.flow.Origin.TheVariants as origin
use Rattle.ppd_model.specs.declared.tracing.Taken.{Taken}
use Rattle.ppd_model.specs.FlowbackEdges.{part_at}
use Rattle.ppd_model.specs.Forward.{edge_in}
use Rattle.ppd_model.specs.HappenedBefore.{Before, EdgeBefore, direct, edge, node, sync_at}
use Rattle.ppd_model.proofs.OrderWords.{is_next}
use Rattle.ppd_model.specs.Intervals.{own, Split, splits}
use Rattle.ppd_model.specs.Laws.{begins}
use Rattle.ppd_model.specs.Logs.{closed_logs}
use Rattle.ppd_model.specs.Record.{sync_record}
use Rattle.ppd_model.specs.RecordedSets.{RecordsAccesses, record_in}
use Rattle.ppd_model.specs.Schedule.{run}
use Rattle.ppd_model.specs.Story.{Telling, story, tell, told}
use Rattle.ppd_model.specs.Synchronizations.{Sync, leads_at, sync_of}
use Rattle.ppd_model.specs.World.{World}
use Rattle.ppd_model.proofs.Numbers.{are_counted}
use Rattle.ppd_model.proofs.RecordedSyncs.{record_syncs}
use Rattle.ppd_model.proofs.Tested.{In, here}
use Rattle.ppd_graph.specs.Ends.{edge_at, end_interval, end_item}
use Rattle.ppd_graph.specs.Seen.{Seen, seen_of}
use Rattle.ppd_graph.specs.declared.walked.Walked.{Walked}
use Rattle.ppd_graph.specs.declared.walked.Walked.TheVariants.{Stopped, Passed, Found}
use Rattle.ppd_graph.specs.Looked.{Looked, look_map}
use Rattle.ppd_graph.specs.Shared.{Missing, greater, greatest, greatest_before, is_before_in, origin_in, own_or, pair_origin, pair_place, seen_at, shared_origin, written_at, written_or_start, writing}
use Rattle.ppd_graph.specs.Walk.{walk}
use Rattle.law_flow.proofs.Vocabulary.Events.{synchronizes}
use Rattle.law_flow.specs.Edges.SharedEdges.{all_seen}
use Rattle.law_flow.proofs.Edges.LogPlaces.EdgeEnds.{EndsAt, at_sync}
use Rattle.law_flow.proofs.Edges.LogPlaces.EdgePlaces.{count_below}
use Rattle.law_flow.proofs.Edges.PairPlaces.Leading.{IsSyncStep, sync_step}
use Rattle.law_flow.proofs.Edges.Sources.InEdges.{sync_event}
use Rattle.law_flow.proofs.Edges.Sources.LastOrigins.{before_is, below_moments, split_there}
use Rattle.law_flow.proofs.Edges.Sources.Members.{in_filter}
use Rattle.law_flow.proofs.Edges.Spans.Facts.{count_to}
use Rattle.law_flow.proofs.Edges.StepEvents.Processes.{Facts, facts}
use Rattle.law_flow.proofs.Edges.StepEvents.Timeline.{did, did_more}
use Rattle.law_flow.proofs.Edges.StepEvents.Writers.{HasEvent, edge_is_count, ev_at, ev_count}
use Rattle.law_steps.proofs.StaticEdges.SharedCells.Writers.{events_in}
use Rattle.law_clean.proofs.Prefixes.{edge_same, end_same, walk_same}

-- ---- the greatest of a list

fold_in : (before : EdgeId → EdgeId → Bool) (es : List EdgeId) (o : Option EdgeId) (a : EdgeId) → fold (greater before) o es ≡ Some a → (o ≡ Some a) ⊎ In a es
fold_in before [] o a e = inl e
fold_in before (x ∷ es) o a e = elim (fold_in before es (greater before o x) a e) [
  | inr there ↦ inr (In.there there)
  | inl now ↦ by o now
]
  where
    first : Some x ≡ Some a → In a (x ∷ es)
    first f = subst (λ z. In z (x ∷ es)) (ap (λ s. elim s [ None ↦ x | Some z ↦ z ]) f) here

    by : (o : Option EdgeId) → greater before o x ≡ Some a → (o ≡ Some a) ⊎ In a (x ∷ es)
    by None f = inr (first f)
    by (Some b) f = choose (before b x) f
      where
        choose : (t : Bool) → (if t then Some x else Some b) ≡ Some a → (Some b ≡ Some a) ⊎ In a (x ∷ es)
        choose true g = inr (first g)
        choose false g = inl g

greatest_in : (before : EdgeId → EdgeId → Bool) (es : List EdgeId) (a : EdgeId) → greatest before es ≡ Some a → In a es
greatest_in before es a e = elim (fold_in before es None a e) [ inl nothing ↦ absurd (none-some a nothing) | inr member ↦ member ]

-- ---- one process

module _ (program : Program) (policy : Policy) (budget : ℕ) (g rest : List ℕ) (q : ℕ) (v : IsValid program) (x y : Split)
    (at_g : slice_get (splits (setting_by program policy budget) (story (setting_by program policy budget) g)) q ≡ Some x)
    (at : slice_get (splits (setting_by program policy budget) (story (setting_by program policy budget) (g ++ rest))) q ≡ Some y) where
  abbrev plan : Plan
  plan = plan_of program policy

  fx : Facts (setting_of program plan budget) g v q x
  fx = facts (setting_of program plan budget) g v q x at_g

  fy : Facts (setting_of program plan budget) (g ++ rest) v q y
  fy = facts (setting_of program plan budget) (g ++ rest) v q y at

  abbrev entries : List Entry
  entries = get_or (closed_logs (setting_of program plan budget) (g ++ rest)).lists q []

  grown : (more : List Taken) × (did (told (setting_of program plan budget) (g ++ rest)) q ≡ did (told (setting_of program plan budget) g) q ++ more)
  grown =
      let m = did_more program plan 0 q (told (setting_of program plan budget) g) rest in
      (m.0, ap (λ (t : Telling). did t q) (fold-append (tell program plan) (begins (setting_of program plan budget)) g rest) ∙ m.1)

  -- the event that ends an edge
  record Ended (i : ℕ) : Type 0 where
    pub number : ℕ
    pub within : number < length x.trace.events
    pub is_sync : synchronizes (slice_get y.trace.events number) ≡ true
    pub counted : count_to y.trace.events number ≡ i

  ended : (i : ℕ) → i < edge_in (setting_of program plan budget) g q → Ended i
  ended i lt =
      let s = slice_get_there (filter_map sync_of (did (told (setting_of program plan budget) g) q)) i (subst (λ z. i < z) (edge_is_count (setting_of program plan budget) g q) lt) in
      let st : IsSyncStep (did (told (setting_of program plan budget) g) q) i s.0 = sync_step (did (told (setting_of program plan budget) g) q) i s.0 s.1 in
      let event = sync_event st.step (ap is_some st.is) in
      let a : HasEvent (setting_of program plan budget) g v q x fx st.before st.step = ev_at (setting_of program plan budget) g v q x fx st.before st.step st.after st.are event in
      let whole : did (told (setting_of program plan budget) (g ++ rest)) q ≡ st.before ++ st.step ∷ (st.after ++ grown.0) =
      grown.1 ∙ ap (λ l. l ++ grown.0) st.are ∙ append_assoc st.before (st.step ∷ st.after) grown.0 in
      let b : HasEvent (setting_of program plan budget) (g ++ rest) v q y fy st.before st.step = ev_at (setting_of program plan budget) (g ++ rest) v q y fy st.before st.step (st.after ++ grown.0) whole event in
      record {
        number = events_in st.before;
        within = a.within;
        is_sync = b.is_sync ∙ ap is_some st.is;
        counted = ev_count (setting_of program plan budget) (g ++ rest) v q y fy st.before (st.step ∷ (st.after ++ grown.0)) whole ∙ st.place;
      }

  -- an event in an edge that had ended was there by then
  pub event_there : (i n : ℕ) → i < edge_in (setting_of program plan budget) g q → n < length y.trace.events → count_to y.trace.events n ≤ i → n < length x.trace.events
  event_there i n lt within le =
      let e : Ended i = ended i lt in
      let inside = e.within in
      elim (cases_lt e.number n) [
        | inr not_yet ↦ omega (arith, not_yet, inside)
        | inl past ↦
            let f = slice_get_there y.trace.events e.number (omega (arith, past, within)) in
            let less : count_to y.trace.events e.number < count_to y.trace.events n = count_below y.trace.events e.number n f.0 f.1 (sym (ap synchronizes f.1) ∙ e.is_sync) past in
            let num : count_to y.trace.events e.number ≡ i = e.counted in
            absurd (omega (arith, less, num, le))
      ]

  -- where an edge ends, and the walk from there
  pub ends_same : (i : ℕ) → i < edge_in (setting_of program plan budget) g q
      → (end_item entries (seen_of x) i ≡ end_item entries (seen_of y) i)
      × ((c : ℕ) → (walk (seen_of x) c (end_interval entries i) (end_item entries (seen_of x) i)).found ≡ (walk (seen_of y) c (end_interval entries i) (end_item entries (seen_of y) i)).found)
  ends_same i lt =
      let e : Ended i = ended i lt in
      let r : RecordsAccesses (story (setting_of program plan budget) (g ++ rest)) q entries = fy.records in
      let ends : EndsAt y entries (count_to y.trace.events e.number) e.number = at_sync y entries fy.told_by r.before r.status r.rest _ _ r.entries_are r.no_end e.number e.is_sync in
      let there : part_at y (end_interval entries i) (end_item entries (seen_of y) i) ≡ Some (own e.number) =
      subst (λ z. part_at y (end_interval entries z) (end_item entries (seen_of y) z) ≡ Some (own e.number)) e.counted ends.there in
      let s = end_same program policy budget g rest q v x y at_g at entries i e.number there e.within in (
        s.0,
        λ c. ap (λ z. (walk (seen_of x) c (end_interval entries i) z).found) s.0
            ∙ sym (walk_same program policy budget g rest q v x y at_g at c (end_interval entries i) (end_item entries (seen_of y) i) e.number s.1 e.within),
      )

-- ---- all of them

module _ (program : Program) (policy : Policy) (budget : ℕ) (h : List ℕ) (w : World) (v : IsValid program)
    (r : run (setting_by program policy budget) h ≡ Some w) (xs : List Seen) where
  abbrev all : List Seen
  all = all_seen (setting_by program policy budget) h

  abbrev logs : Logs
  logs = closed_logs (setting_by program policy budget) h

  abbrev Rec : List (List Sync)
  Rec = sync_record (setting_by program policy budget) h

  -- what is seen of process q is what it has after a beginning of the schedule
  pub record IsBegun (q : ℕ) : Type 0 where
    pub before : List ℕ
    pub rest : List ℕ
    pub schedule_is : h ≡ before ++ rest
    pub split : Split
    pub there : slice_get (splits (setting_by program policy budget) (story (setting_by program policy budget) before)) q ≡ Some split
    pub seen_is : seen_at xs q ≡ seen_of split

  -- in which edge i had ended
  pub record HasEnded (q i : ℕ) : Type 0 where
    pub begun : IsBegun q
    pub ended : i < edge_in (setting_by program policy budget) begun.before q

  -- in which event n was, at this place
  pub record HasPlace (q k j : ℕ) : Type 0 where
    pub begun : IsBegun q
    pub number : ℕ
    pub within : number < length begun.split.trace.events
    pub placed : part_at begun.split k j ≡ Some (own number)

  record EndsAlike (l : List ℕ) (q i : ℕ) (s : Seen) : Type 0 where
    pub item : end_item (get_or (closed_logs (setting_by program policy budget) l).lists q []) s i
        ≡ end_item (get_or (closed_logs (setting_by program policy budget) l).lists q []) (seen_at (all_seen (setting_by program policy budget) l) q) i
    pub walks : (c : ℕ) → (walk s c (end_interval (get_or (closed_logs (setting_by program policy budget) l).lists q []) i) (end_item (get_or (closed_logs (setting_by program policy budget) l).lists q []) s i)).found
        ≡ (walk (seen_at (all_seen (setting_by program policy budget) l) q) c (end_interval (get_or (closed_logs (setting_by program policy budget) l).lists q []) i) (end_item (get_or (closed_logs (setting_by program policy budget) l).lists q []) (seen_at (all_seen (setting_by program policy budget) l) q) i)).found

  ends_alike : (g rest : List ℕ) (q i : ℕ) (x : Split) → slice_get (splits (setting_by program policy budget) (story (setting_by program policy budget) g)) q ≡ Some x
      → i < edge_in (setting_by program policy budget) g q → EndsAlike (g ++ rest) q i (seen_of x)
  ends_alike g rest q i x at_g lt =
      let s = slice_get_there (filter_map sync_of (did (told (setting_by program policy budget) g) q)) i (subst (λ z. i < z) (edge_is_count (setting_by program policy budget) g q) lt) in
      let st : IsSyncStep (did (told (setting_by program policy budget) g) q) i s.0 = sync_step (did (told (setting_by program policy budget) g) q) i s.0 s.1 in
      let m = did_more program (plan_of program policy) 0 q (told (setting_by program policy budget) g) rest in
      let whole : did (told (setting_by program policy budget) (g ++ rest)) q ≡ st.before ++ st.step ∷ (st.after ++ m.0) =
      ap (λ (t : Telling). did t q) (fold-append (tell program (plan_of program policy)) (begins (setting_by program policy budget)) g rest) ∙ m.1
      ∙ ap (λ l. l ++ m.0) st.are ∙ append_assoc st.before (st.step ∷ st.after) m.0 in
      let below : q < length (told (setting_by program policy budget) (g ++ rest)).moments = below_moments (told (setting_by program policy budget) (g ++ rest)).moments q st.before st.step (st.after ++ m.0) whole in
      let y = split_there (setting_by program policy budget) (story (setting_by program policy budget) (g ++ rest)) 0 (told (setting_by program policy budget) (g ++ rest)).moments q below in
      let f : Facts (setting_by program policy budget) (g ++ rest) v q y.0 = facts (setting_by program policy budget) (g ++ rest) v q y.0 y.1 in
      let e = ends_same program policy budget g rest q v x y.0 at_g y.1 i lt in
      let es : List Entry = get_or (closed_logs (setting_by program policy budget) (g ++ rest)).lists q [] in
      record {
        item = e.0 ∙ ap (λ z. end_item es z i) (sym f.seen_is);
        walks = λ c. e.1 c ∙ ap (λ z. (walk z c (end_interval es i) (end_item es z i)).found) (sym f.seen_is);
      }

  end_kept : (q i : ℕ) → HasEnded q i → EndsAlike h q i (seen_at xs q)
  end_kept q i k =
      subst (EndsAlike h q i) (sym k.begun.seen_is) (subst (λ l. EndsAlike l q i (seen_of k.begun.split)) (sym k.begun.schedule_is) (ends_alike k.begun.before k.begun.rest q i k.begun.split k.begun.there k.ended))

  record PlaceAlike (l : List ℕ) (q k j : ℕ) (s : Seen) : Type 0 where
    pub edge : edge_at (get_or (closed_logs (setting_by program policy budget) l).lists q []) s k j
        ≡ edge_at (get_or (closed_logs (setting_by program policy budget) l).lists q []) (seen_at (all_seen (setting_by program policy budget) l) q) k j
    pub walks : (c : ℕ) → (walk s c k j).found ≡ (walk (seen_at (all_seen (setting_by program policy budget) l) q) c k j).found

  place_alike : (g rest : List ℕ) (q k j n : ℕ) (x y : Split) → slice_get (splits (setting_by program policy budget) (story (setting_by program policy budget) g)) q ≡ Some x
      → slice_get (splits (setting_by program policy budget) (story (setting_by program policy budget) (g ++ rest))) q ≡ Some y
      → part_at x k j ≡ Some (own n) → n < length x.trace.events → PlaceAlike (g ++ rest) q k j (seen_of x)
  place_alike g rest q k j n x y at_g at place lt =
      let f : Facts (setting_by program policy budget) (g ++ rest) v q y = facts (setting_by program policy budget) (g ++ rest) v q y at in
      let es : List Entry = get_or (closed_logs (setting_by program policy budget) (g ++ rest)).lists q [] in
      record {
        edge = edge_same program policy budget g rest q v x y at_g at es k j (own n) place ∙ ap (λ z. edge_at es z k j) (sym f.seen_is);
        walks = λ c. sym (walk_same program policy budget g rest q v x y at_g at c k j n place lt) ∙ ap (λ z. (walk z c k j).found) (sym f.seen_is);
      }

  place_kept : (q k j : ℕ) (y : Split) → slice_get (splits (setting_by program policy budget) (story (setting_by program policy budget) h)) q ≡ Some y → HasPlace q k j → PlaceAlike h q k j (seen_at xs q)
  place_kept q k j y at p =
      let b = p.begun in
      subst (PlaceAlike h q k j) (sym b.seen_is)
      (subst (λ l. PlaceAlike l q k j (seen_of b.split)) (sym b.schedule_is)
      (place_alike b.before b.rest q k j p.number b.split y b.there (subst (λ l. slice_get (splits (setting_by program policy budget) (story (setting_by program policy budget) l)) q ≡ Some y) b.schedule_is at) p.placed p.within))

  module _ (p k j : ℕ) (y : Split) (at : slice_get (splits (setting_by program policy budget) (story (setting_by program policy budget) h)) p ≡ Some y) (place : HasPlace p k j) where
    -- the edge of the place
    abbrev pub here_in : ℕ
    here_in = edge_at (get_or logs.lists p []) (seen_at all p) k j

    alike : PlaceAlike h p k j (seen_at xs p)
    alike = place_kept p k j y at place

    -- a shared read there is found to be written where the whole says
    pub shared_same : (c : ℕ) → ((q i : ℕ) → EdgeBefore program Rec (edge q i) (edge p here_in) → HasEnded q i)
        → (shared_origin program logs xs p k j c).found ≡ (shared_origin program logs all p k j c).found
    shared_same c keeps =
        ap₂ (λ z i. (own_or p z (look_map origin_in (written_or_start program logs xs c (greatest_before program logs (edge p i) c)))).found) (alike.walks c) alike.edge
        ∙ own_same (walk (seen_at all p) c k j).found (look_map origin_in (written_or_start program logs xs c (greatest_before program logs (edge p here_in) c)))
        (look_map origin_in (written_or_start program logs all c (greatest_before program logs (edge p here_in) c)))
        (ap origin_in (by (greatest_before program logs (edge p here_in) c) refl))
      where
        own_same : (u : Walked) (r s : Looked (ℕ × ℕ) (Result Origin Missing)) → r.found ≡ s.found → (own_or p u r).found ≡ (own_or p u s).found
        own_same (Found m i t) r s e = refl
        own_same Stopped r s e = e
        own_same Passed r s e = e

        by : (o : Option EdgeId) → greatest_before program logs (edge p here_in) c ≡ o → (written_or_start program logs xs c o).found ≡ (written_or_start program logs all c o).found
        by None e = refl
        by (Some b) e =
            let m : In b (filter (λ a. is_before_in program logs a (edge p here_in)) (writing logs c)) =
            greatest_in (is_before_in program logs) (filter (λ a. is_before_in program logs a (edge p here_in)) (writing logs c)) b e in
            let f = in_filter (λ a. is_before_in program logs a (edge p here_in)) b (writing logs c) m in
            let was : EdgeBefore program Rec b (edge p here_in) = (before_is (setting_by program policy budget) h w v r b (edge p here_in)).0 f.1 in
            ap (written_at logs c b) ((end_kept b.process b.edge (keeps b.process b.edge was)).walks c)

    partners : ArePartners program Rec (pairs_of program Rec)
    partners = partners_found program Rec (λ a b s e f. (are_counted (setting_by program policy budget) h).once a b s e f)

    -- and so is the pair of a synchronization there
    pub pair_same : ((q i : ℕ) → Before program Rec (node q i) (node p here_in) → HasEnded q i) → (pair_origin program logs xs p k j).found ≡ (pair_origin program logs all p k j).found
    pair_same keeps =
        ap (λ i. (pair_place logs xs (pair_at (pairs_of program (record_in logs)) (node p i))).found) alike.edge
        ∙ by (pair_at (pairs_of program (record_in logs)) (node p here_in)) refl
      where
        by : (o : Paired) → pair_at (pairs_of program (record_in logs)) (node p here_in) ≡ o → (pair_place logs xs o).found ≡ (pair_place logs all o).found
        by Nothing e = refl
        by Initial e = refl
        by (Node b) e =
            let named : pair_at (pairs_of program Rec) (node p here_in) ≡ Node b =
            ap (λ rec. pair_at (pairs_of program rec) (node p here_in)) (sym (record_syncs (setting_by program policy budget) h).closed) ∙ e in
            let was : Before program Rec b (node p here_in) =
            direct (or_right (is_next Rec b (node p here_in)) (leads_at program (sync_at Rec b) (sync_at Rec (node p here_in))) ((partners.leads b (node p here_in)).1 (ap node_of named))) in
            ap (λ z. Some (origin.Item b.process (end_interval (get_or logs.lists b.process []) b.sync) z)) (end_kept b.process b.sync (keeps b.process b.sync was)).item
