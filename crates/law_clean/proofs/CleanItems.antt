-- The edges of a clean item by replays of logs that are cut where no race was.
use Rattle.law_steps.specs.Policies.{setting_by}
use Rattle.ppd_model.specs.Setting.{setting_of}
use Rattle.law_clean.proofs.CutEvents.{event_edges_same}
use Rattle.law_clean.proofs.CutShared.{HasEnded, HasPlace, IsBegun, event_there, here_in}
use Rattle.law_clean.proofs.EdgeEnds.{EndsEdge, edge_ends, edge_own}
use Rattle.law_clean.proofs.FullEdges.{clean_edges_found}
use Rattle.law_clean.proofs.InsideSame.{inside_edges_same, nested_at}
use Rattle.law_clean.proofs.Items.{event_kept, part_kept}
use Rattle.law_clean.proofs.PastClear.{some_there}
use Rattle.law_clean.proofs.PastRaces.{both, grows_to, has_unclean, leads_unclean, not_raced, race_of_edge, raced_from}
use Rattle.law_clean.proofs.PastWords.{is_raced_to, other_last}
use Rattle.law_clean.proofs.PastsGrow.{before_back, before_next}
use Rattle.law_clean.proofs.Prefixes.{place_back}
use Rattle.law_clean.proofs.Ranges.{last_is}
use Rattle.law_clean.proofs.Reached.{closed_syncs, left_then, nested_back, syncs_in_log, total_syncs}
use Rattle.law_clean.proofs.SeenCut.{cut_begun, has_split, seen_there, stays_whole, whole_begun}
use Rattle.law_clean.specs.Cuts.{cut}
use Rattle.law_clean.specs.Ordered.{IsUnracedIn}
use Rattle.law_clean.specs.Pasts.{any_raced, is_clean, is_past, is_raced, is_same_edge, left_edge, lies}
use Rattle.law_clean.specs.Search.{is_wanted, last_wanted, leads_from_race, own_last, seens}
use Rattle.law_flow.proofs.Edges.LogPlaces.EdgeEnds.{IsAt, at_place}
use Rattle.law_flow.proofs.Edges.Near.Nearby.{counted}
use Rattle.law_flow.proofs.Edges.Spans.Facts.{count_to}
use Rattle.law_flow.proofs.Edges.StepEvents.Processes.{Facts, facts}
use Rattle.law_flow.proofs.Edges.StepEvents.Timeline.{none_did}
use Rattle.law_flow.proofs.Edges.StepEvents.Writers.{edge_is_count}
use Rattle.law_flow.specs.Edges.SharedEdges.{all_seen}
use Rattle.ppd_ast.specs.Valid.{IsValid}
use Rattle.ppd_ast.specs.declared.plan.Plan.{Plan}
use Rattle.ppd_ast.specs.declared.plan.Policy.{Policy}
use Rattle.ppd_ast.specs.declared.program.Program.{Program}
use Rattle.ppd_blocks.specs.Blocks.{plan_of}
use Rattle.ppd_model.specs.declared.entry.Entry.{Entry}
use Rattle.ppd_model.specs.declared.entry.Logs.{Logs}
use Rattle.ppd_graph.specs.Ends.{edge_at}
use Rattle.ppd_graph.specs.Found.{edges_if, found_edges}
use Rattle.ppd_graph.specs.Own.{edges_of_nested}
use Rattle.ppd_graph.specs.Seen.{Seen, seen_of}
use Rattle.ppd_graph.specs.Shared.{seen_at}
use Rattle.ppd_flow_past.specs.SeenBy.{seen_by}
use Rattle.ppd_model.proofs.Accesses.{record_at}
use Rattle.ppd_model.proofs.Changes.{some}
use Rattle.ppd_model.proofs.Forward.{fewer, records_closed}
use Rattle.ppd_model.proofs.Items.{items_whole}
use Rattle.ppd_model.proofs.LastEdges.{before_from}
use Rattle.ppd_model.proofs.Tested.{tests_before, tests_edges}
use Rattle.ppd_model.specs.FlowbackEdges.{edges, part_at}
use Rattle.ppd_model.specs.Forward.{edge_in}
use Rattle.ppd_model.specs.HappenedBefore.{Before, EdgeBefore, across, earlier, edge, is_before, is_edge_before, node}
use Rattle.ppd_model.specs.Intervals.{Part, Span, Split, item_of, nested, own, splits}
use Rattle.ppd_model.specs.Items.{HasWholeItems}
use Rattle.ppd_model.specs.Logs.{closed_log, closed_logs, log_of}
use Rattle.ppd_model.specs.NearIntervals.{edge_of_event}
use Rattle.ppd_model.specs.Races.{races}
use Rattle.ppd_model.specs.Record.{sync_record}
use Rattle.ppd_model.specs.RecordedSets.{sync_in}
use Rattle.ppd_model.specs.Schedule.{IsWhole, run}
use Rattle.ppd_model.specs.Story.{moment_of, story, told}
use Rattle.ppd_model.specs.Synchronizations.{Sync, sync_of}
use Rattle.ppd_model.specs.declared.flow.Item.TheVariants as item
use Rattle.ppd_model.specs.declared.graph.Race.{Race}
use Rattle.ppd_model.specs.declared.trace.TracedEvent.{TracedEvent}
use Rattle.ppd_model.specs.declared.tracing.Story.{Story}
use Rattle.ppd_sem.specs.Blocks.{block_kind}
use Rattle.std.proofs.Common.{Bool, List, None, Ok, Option, Some, [], ap, append-nil, ap₂, arith, eq-eqb, eqb-true, false, if◌then◌else◌, inl, inr, length, map, not, refl, subst, suc, sym, true, true≢false, zero, ℕ, ◌&&◌, ◌++◌, ◌+◌, ◌-◌, ◌<◌, ◌∙◌, ◌∷◌, ◌≡◌, ◌≤◌, ◌⊎◌}
use Rattle.std.proofs.lemmas.Bool.{and_from, cases_eq, false_from_ne_true, or_left, or_right}
use Rattle.std.proofs.lemmas.Option.{none-some}
use Rattle.std.specs.List.{range_with_len}
use Rattle.std.specs.Prelude.{filter_map, get_or, is_some, nat_eq, option_map, option_to_list, slice_get, unwrap_or}

-- edge e is before the first edge whose past has a race, and there
abbrev pub IsIn : ℕ → Option ℕ → ℕ → Type 0
IsIn far None e = e ≤ far
IsIn far (Some u) e = e < u

module _ (program : Program) (policy : Policy) (budget : ℕ) (h : List ℕ) (p k j : ℕ) (y : Split) (v : IsValid program) (whole : IsWhole (setting_by program policy budget) h)
    (at : slice_get (splits (setting_by program policy budget) (story (setting_by program policy budget) h)) p ≡ Some y)
    (there : p < length (story (setting_by program policy budget) h).steps)
    (o : Option ℕ) (inside : (u : ℕ) → o ≡ Some u → u ≤ edge_in (setting_by program policy budget) h p)
    (clear : (e : ℕ) → e ≤ edge_in (setting_by program policy budget) h p → IsIn (edge_in (setting_by program policy budget) h p) o e
    → any_raced (is_past program (sync_record (setting_by program policy budget) h) (edge p e)) (races (setting_by program policy budget) h) ≡ false) where
  abbrev plan : Plan
  plan = plan_of program policy

  abbrev s : Story
  s = story (setting_of program plan budget) h

  abbrev Rec : List (List Sync)
  Rec = sync_record (setting_of program plan budget) h

  abbrev Rs : List Race
  Rs = races (setting_of program plan budget) h

  abbrev logs : Logs
  logs = closed_logs (setting_of program plan budget) h

  abbrev far : ℕ
  far = edge_in (setting_of program plan budget) h p

  abbrev xs : List Seen
  xs = seens (setting_of program plan budget) logs Rec Rs p k j o

  abbrev last : ℕ → Option ℕ
  last q = last_wanted program Rec Rs p o q

  far_is : edge_in (setting_of program plan budget) h p ≡ length (filter_map sync_of (get_or s.steps p []))
  far_is = ap length (record_at s.steps p)

  abbrev Begun : ℕ → Type 0
  Begun q = IsBegun program policy budget h whole.last v whole.runs xs q

  abbrev Ended : ℕ → ℕ → Type 0
  Ended q i = HasEnded program policy budget h whole.last v whole.runs xs q i

  unraced : (e : ℕ) → e ≤ far → IsIn far o e → IsUnracedIn (setting_of program plan budget) h p e
  unraced e le is = false_from_ne_true (is_raced Rs (edge p e)) (λ raced.
      true≢false (sym (race_of_edge (is_past program Rec (edge p e)) Rs (edge p e) raced self) ∙ clear e le is))
    where
      self : is_past program Rec (edge p e) (edge p e) ≡ true
      self = or_left (nat_eq p p && nat_eq e e) (is_edge_before program Rec (edge p e) (edge p e)) (and_from (nat_eq p p) (nat_eq e e) (eq-eqb p p refl) (eq-eqb e e refl))

  -- ---- the process itself

  own_last_is : last p ≡ own_last program Rec Rs p o
  own_last_is = ap (λ b. if b then own_last program Rec Rs p o else other_last program Rec Rs p (unwrap_or o (length (get_or Rec p []))) p) (eq-eqb p p refl)

  own_seen : (z : Option ℕ) → own_last program Rec Rs p o ≡ z → seen_at xs p ≡ seen_by (setting_of program plan budget) (cut z (closed_log (log_of (setting_of program plan budget) p (get_or (told (setting_of program plan budget) h).moments p []))))
  own_seen z e =
      seen_there program policy budget h v whole last p y at
      ∙ ap (λ n. seen_by (setting_of program plan budget) (cut n (closed_log (log_of (setting_of program plan budget) p (get_or (told (setting_of program plan budget) h).moments p []))))) (own_last_is ∙ e)

  pub record IsOwn : Type 0 where
    pub begun : Begun p
    pub kind : ((o ≡ None) × (begun.split ≡ y) × (begun.before ≡ h)) ⊎ ((u : ℕ) × (o ≡ Some u) × (u ≤ edge_in (setting_of program plan budget) begun.before p))

  whole_is : o ≡ None → seen_at xs p ≡ seen_by (setting_of program plan budget) (closed_log (log_of (setting_of program plan budget) p (get_or (told (setting_of program plan budget) h).moments p [])))
  whole_is e =
      own_seen (Some (length (get_or Rec p []))) (ap (own_last program Rec Rs p) e)
      ∙ ap (seen_by (setting_of program plan budget)) (stays_whole (length (get_or Rec p [])) (closed_log (log_of (setting_of program plan budget) p (get_or (told (setting_of program plan budget) h).moments p [])))
      (let a = closed_syncs (log_of (setting_of program plan budget) p (get_or (told (setting_of program plan budget) h).moments p [])) in let b = syncs_in_log (setting_of program plan budget) h p in omega (arith, a, b)))

  pub own_state : (z : Option ℕ) → o ≡ z → ((u : ℕ) → z ≡ Some u → 0 < u) → IsOwn
  own_state None e pos =
      let w = whole_begun program policy budget h v whole p y at (λ i le. unraced i le (subst (λ z. IsIn far z i) (sym e) le)) xs (whole_is e) in
      record { begun = w.0; kind = inl (e, w.1, w.2) }
  own_state (Some zero) e pos = absurd (let z = pos 0 refl in omega (arith, z))
  own_state (Some (suc u)) e pos =
      let le : suc u ≤ far = inside (suc u) e in
      let c = cut_begun program policy budget h v whole xs p u (omega (arith, le)) (λ i under. unraced i (omega (arith, under, le)) (subst (λ z. IsIn far z i) (sym e) (omega (arith, under))))
      (own_seen (Some u) (ap (own_last program Rec Rs p) e)) in
      let ended = c.ended in
      record { begun = c.begun; kind = inr (suc u, e, omega (arith, ended)) }

  -- ---- the other processes

  abbrev top : ℕ
  top = unwrap_or o (length (get_or Rec p []))

  top_far : (z : Option ℕ) → o ≡ z → unwrap_or z (length (get_or Rec p [])) ≤ far
  top_far None e = omega arith
  top_far (Some u) e = inside u e

  others : (q i : ℕ) → (q ≡ p → ⊥) → is_wanted program Rec Rs p (unwrap_or o (length (get_or Rec p []))) q i ≡ true → Ended q i
  others q i apart want =
      let test : ℕ → Bool = is_wanted program Rec Rs p top q in
      let b = both (is_edge_before program Rec (edge q i) (edge p top)) (not (is_raced_to program Rec Rs q i)) want in
      let lt : i < length (get_or Rec q []) = there_is q i top apart ((tests_edges program Rec (edge q i) (edge p top)).0 b.0) in
      let r = last_is test (length (get_or Rec q [])) 0 None i (omega arith) (omega (arith, lt)) want in
      let c = both (is_edge_before program Rec (edge q r.0) (edge p top)) (not (is_raced_to program Rec Rs q r.0)) r.4 in
      let unlike : nat_eq q p ≡ false = false_from_ne_true (nat_eq q p) (λ e. apart (eqb-true q p e)) in
      let is : last q ≡ Some r.0 = ap (λ b. if b then own_last program Rec Rs p o else other_last program Rec Rs p top q) unlike ∙ r.1 in
      let under : r.0 < edge_in (setting_of program plan budget) h q = there_is q r.0 top apart ((tests_edges program Rec (edge q r.0) (edge p top)).0 c.0) in
      let z = has_split (setting_of program plan budget) h q r.0 under in
      let e = cut_begun program policy budget h v whole xs q r.0 under (not_raced program Rec Rs q r.0 (unnot (is_raced_to program Rec Rs q r.0) c.1))
      (seen_there program policy budget h v whole last q z.0 z.1 ∙ ap (λ n. seen_by (setting_of program plan budget) (cut n (closed_log (log_of (setting_of program plan budget) q (get_or (told (setting_of program plan budget) h).moments q []))))) is) in
      let ended = e.ended in
      let most = r.2 in
      record { begun = e.begun; ended = omega (arith, ended, most) }
    where
      unnot : (b : Bool) → not b ≡ true → b ≡ false
      unnot true e = absurd (true≢false (sym e))
      unnot false e = refl

      there_is : (q i e : ℕ) → (q ≡ p → ⊥) → EdgeBefore program Rec (edge q i) (edge p e) → i < length (get_or Rec q [])
      there_is q i e apart (earlier same lt) = absurd (apart same)
      there_is q i e apart (across other l is b) = some_there (get_or Rec q []) i (before_from program Rec (node q i) (node p l) b)

  -- ---- order

  climb : (n q i e : ℕ) → EdgeBefore program Rec (edge q i) (edge p e) → e + n ≤ far → EdgeBefore program Rec (edge q i) (edge p (e + n))
  climb zero q i e b le = let z : e ≡ e + zero = omega arith in subst (λ m. EdgeBefore program Rec (edge q i) (edge p m)) z b
  climb (suc n) q i e b le =
      let z : (e + 1) + n ≡ e + suc n = omega arith in
      subst (λ m. EdgeBefore program Rec (edge q i) (edge p m)) z (climb n q i (e + 1) (before_next program s q i p e b (omega (arith, le))) (omega (arith, le)))

  climb_to : (q i e m : ℕ) → EdgeBefore program Rec (edge q i) (edge p e) → e ≤ m → m ≤ far → EdgeBefore program Rec (edge q i) (edge p m)
  climb_to q i e m b le up = let z : e + (m - e) ≡ m = omega (arith, le) in subst (λ x. EdgeBefore program Rec (edge q i) (edge p x)) z (climb (m - e) q i e b (omega (arith, le, up)))

  node_back : (q i e : ℕ) → Before program Rec (node q i) (node p e) → (d : ℕ) → d ≤ i → Before program Rec (node q d) (node p e)
  node_back q i e b d le = let z : d + (i - d) ≡ i = omega (arith, le) in before_back program Rec (i - d) q d (node p e) (subst (λ x. Before program Rec (node q x) (node p e)) (sym z) b)

  edge_back : (q i e : ℕ) → EdgeBefore program Rec (edge q i) (edge p e) → (d : ℕ) → d ≤ i → EdgeBefore program Rec (edge q d) (edge p e)
  edge_back q i e (earlier same lt) d le = let less : i < e = lt in earlier same (omega (arith, less, le))
  edge_back q i e (across apart l is b) d le = across apart l is (node_back q i l b d le)

  -- before an edge whose past has no race, none has an edge of the process up to there
  clear_edge : (q i e : ℕ) → EdgeBefore program Rec (edge q i) (edge p e) → any_raced (is_past program Rec (edge p e)) Rs ≡ false → is_raced_to program Rec Rs q i ≡ false
  clear_edge q i e b none = false_from_ne_true (is_raced_to program Rec Rs q i) (λ raced.
      let r = raced_from program Rec Rs q i raced in
      true≢false (sym (race_of_edge (is_past program Rec (edge p e)) Rs (edge q r.0) r.2
      (or_right (is_same_edge (edge q r.0) (edge p e)) (is_edge_before program Rec (edge q r.0) (edge p e)) ((tests_edges program Rec (edge q r.0) (edge p e)).1 (edge_back q i e b r.0 r.1)))) ∙ none))

  clear_node : (q i e : ℕ) → Before program Rec (node q i) (node p e) → leads_from_race program Rec Rs (edge p e) ≡ false → is_raced_to program Rec Rs q i ≡ false
  clear_node q i e b none = false_from_ne_true (is_raced_to program Rec Rs q i) (λ raced.
      let r = raced_from program Rec Rs q i raced in
      true≢false (sym (race_of_edge (λ a. is_before program Rec (node a.process a.edge) (node p e)) Rs (edge q r.0) r.2
      ((tests_before program Rec (node q r.0) (node p e)).1 (node_back q i e b r.0 r.1))) ∙ none))

  in_top : (z : Option ℕ) (e : ℕ) → IsIn far z e → e ≤ unwrap_or z (length (get_or Rec p []))
  in_top None e is = is
  in_top (Some u) e is = omega (arith, is)

  in_next : (z : Option ℕ) (e : ℕ) → IsIn far z e → e < far → e + 1 ≤ unwrap_or z (length (get_or Rec p []))
  in_next None e is lt = omega (arith, lt)
  in_next (Some u) e is lt = omega (arith, is)

  total : length (filter_map sync_in (get_or logs.lists p [])) ≡ edge_in (setting_of program plan budget) h p
  total = total_syncs (setting_of program plan budget) h p y at

  module _ (own_is : IsOwn) where
    -- an edge of the process itself had ended
    own_ended : (i : ℕ) → IsIn far o i → i < far → i < edge_in (setting_of program plan budget) own_is.begun.before p
    own_ended i is lt = elim own_is.kind [
      | inl none ↦ subst (λ l. i < edge_in (setting_of program plan budget) l p) (sym none.2) lt
      | inr some' ↦ (let under : i < some'.0 = subst (λ z. IsIn far z i) some'.1 is in let up = some'.2 in omega (arith, under, up))
    ]

    in_less : (i e : ℕ) → i ≤ e → IsIn far o e → IsIn far o i
    in_less i e le is = by o is
      where
        by : (z : Option ℕ) → IsIn far z e → IsIn far z i
        by None is = omega (arith, is, le)
        by (Some u) is = omega (arith, is, le)

    module _ (e : ℕ) (is_in : IsIn far o e) (le : e ≤ far) where
      keeps : (q i : ℕ) → EdgeBefore program Rec (edge q i) (edge p e) → Ended q i
      keeps q i b = elim (cases_eq q p) [
        | inl same ↦ subst (λ z. Ended z i) (sym same) (record { begun = own_is.begun; ended = own_ended i (in_less i e (omega (arith, less same b)) is_in) (let lt = less same b in omega (arith, lt, le)) })
        | inr apart ↦ others q i apart
            (and_from (is_edge_before program Rec (edge q i) (edge p top)) (not (is_raced_to program Rec Rs q i))
            ((tests_edges program Rec (edge q i) (edge p top)).1 (climb_to q i e top b (in_top o e is_in) (top_far o refl)))
            (ap not (clear_edge q i e b (clear e le is_in))))
      ]
        where
          less : q ≡ p → EdgeBefore program Rec (edge q i) (edge p e) → i < e
          less same (earlier q_is lt) = lt
          less same (across apart l is b) = absurd (apart same)

      keeps_ends : e < far → leads_from_race program Rec Rs (edge p e) ≡ false → (q i : ℕ) → Before program Rec (node q i) (node p e) → Ended q i
      keeps_ends lt none q i b = elim (cases_eq q p) [
        | inl same ↦
            let g : List ℕ = own_is.begun.before in
            let is : h ≡ g ++ own_is.begun.rest = own_is.begun.schedule_is in
            let closed : i < edge_in (setting_of program plan budget) g q =
            records_closed (setting_of program plan budget) g own_is.begun.rest whole.last (subst (λ l. run (setting_of program plan budget) l ≡ Some whole.last) is whole.runs) (node q i) (node p e)
            (subst (λ l. Before program (sync_record (setting_of program plan budget) l) (node q i) (node p e)) is b) (own_ended e is_in lt) in
            subst (λ z. Ended z i) (sym same) (record { begun = own_is.begun; ended = subst (λ z. i < edge_in (setting_of program plan budget) g z) same closed })
        | inr apart ↦ others q i apart
            (and_from (is_edge_before program Rec (edge q i) (edge p top)) (not (is_raced_to program Rec Rs q i))
            ((tests_edges program Rec (edge q i) (edge p top)).1 (climb_to q i (e + 1) top (across apart e refl b) (in_next o e is_in lt) (top_far o refl)))
            (ap not (clear_node q i e b none)))
      ]

    -- ---- an event

    pub at' : slice_get (splits (setting_of program plan budget) (story (setting_of program plan budget) (own_is.begun.before ++ own_is.begun.rest))) p ≡ Some y
    at' = subst (λ l. slice_get (splits (setting_of program plan budget) (story (setting_of program plan budget) l)) p ≡ Some y) own_is.begun.schedule_is at

    entries_same : get_or (closed_logs (setting_of program plan budget) (own_is.begun.before ++ own_is.begun.rest)).lists p [] ≡ get_or logs.lists p []
    entries_same = ap (λ l. get_or (closed_logs (setting_of program plan budget) l).lists p []) (sym own_is.begun.schedule_is)

    pub event_in : (n : ℕ) → part_at y k j ≡ Some (own n) → n < length y.trace.events → IsIn far o (edge_of_event y n) → HasPlace program policy budget h whole.last v whole.runs xs p k j
    event_in n place lt is = elim own_is.kind [
      | inl none ↦ record {
        begun = own_is.begun;
        number = n;
        within = subst (λ (z : Split). n < length z.trace.events) (sym none.1) lt;
        placed = subst (λ (z : Split). part_at z k j ≡ Some (own n)) (sym none.1) place;
      }
      | inr found ↦
          let under : edge_of_event y n < found.0 = subst (λ z. IsIn far z (edge_of_event y n)) found.1 is in
          let up = found.2 in
          let num : edge_of_event y n ≡ count_to y.trace.events n = counted y.trace.events n in
          let inside' : n < length own_is.begun.split.trace.events =
          event_there program policy budget own_is.begun.before own_is.begun.rest p v own_is.begun.split y own_is.begun.there at' (edge_of_event y n) n (omega (arith, under, up)) lt (omega (arith, num)) in
          record {
            begun = own_is.begun;
            number = n;
            within = inside';
            placed = place_back program policy budget own_is.begun.before own_is.begun.rest p v own_is.begun.split y own_is.begun.there at' (get_or logs.lists p []) k j n place inside';
          }
    ]

    -- it is in its place by then
    pub event_placed : (n : ℕ) → part_at y k j ≡ Some (own n) → n < length y.trace.events → IsIn far o (edge_of_event y n) → part_at own_is.begun.split k j ≡ Some (own n)
    event_placed n place lt is = elim own_is.kind [
      | inl none ↦ subst (λ (z : Split). part_at z k j ≡ Some (own n)) (sym none.1) place
      | inr found ↦
          let under : edge_of_event y n < found.0 = subst (λ z. IsIn far z (edge_of_event y n)) found.1 is in
          let up = found.2 in
          let num : edge_of_event y n ≡ count_to y.trace.events n = counted y.trace.events n in
          place_back program policy budget own_is.begun.before own_is.begun.rest p v own_is.begun.split y own_is.begun.there at' (get_or logs.lists p []) k j n place
          (event_there program policy budget own_is.begun.before own_is.begun.rest p v own_is.begun.split y own_is.begun.there at' (edge_of_event y n) n (omega (arith, under, up)) lt (omega (arith, num)))
    ]

    fy : Facts (setting_of program plan budget) h v p y
    fy = facts (setting_of program plan budget) h v p y at

    module _ (n : ℕ) (place : part_at y k j ≡ Some (own n)) (lt : n < length y.trace.events) (is : IsIn far o (edge_of_event y n)) (le : edge_of_event y n ≤ far) where
      here : HasPlace program policy budget h whole.last v whole.runs xs p k j
      here = event_in n place lt is

      here_is : here_in program policy budget h whole.last v whole.runs xs p k j y at (event_in n place lt is) ≡ edge_of_event y n
      here_is =
          ap (λ z. edge_at (get_or logs.lists p []) z k j) fy.seen_is ∙ (at_place y (get_or logs.lists p []) fy.told_by k j n place lt).edge ∙ sym (counted y.trace.events n)

      -- the number of an event at a place is the same in both
      same_number : (e : TracedEvent) → slice_get (event_in n place lt is).begun.split.trace.events (event_in n place lt is).number ≡ Some e → (f : TracedEvent) × (slice_get y.trace.events n ≡ Some f) × (f.event.number ≡ e.event.number)
      same_number e at_e =
          let p' = event_in n place lt is in
          let at'' : slice_get (splits (setting_of program plan budget) (story (setting_of program plan budget) (p'.begun.before ++ p'.begun.rest))) p ≡ Some y =
          subst (λ l. slice_get (splits (setting_of program plan budget) (story (setting_of program plan budget) l)) p ≡ Some y) p'.begun.schedule_is at in
          let f = event_kept program policy budget p'.begun.before p'.begun.rest p v p'.begun.split y p'.begun.there at'' p'.number e at_e in
          let there' : part_at y k j ≡ Some (own p'.number) = part_kept program policy budget p'.begun.before p'.begun.rest p v p'.begun.split y p'.begun.there at'' k j (own p'.number) p'.placed in
          let num : p'.number ≡ n = ap number_of (some (sym there' ∙ place)) in
          (f.0, ap (λ z. slice_get y.trace.events z) (sym num) ∙ f.1, ap (λ (t : TracedEvent). t.event.number) f.2)
        where
          number_of : Part → ℕ
          number_of (own m) = m
          number_of (nested m) = m

      pub event_found : ((f : TracedEvent) → slice_get y.trace.events n ≡ Some f → is_some f.event.number ≡ true → (edge_of_event y n < far) × (leads_from_race program Rec Rs (edge p (edge_of_event y n)) ≡ false))
          → (found_edges program plan logs xs p k j).found ≡ (found_edges program plan logs (all_seen (setting_of program plan budget) h) p k j).found
      event_found ends =
          event_edges_same program policy budget h whole.last v whole.runs xs p k j y at (event_in n place lt is)
          (λ q i b. keeps (edge_of_event y n) is le q i (subst (λ z. EdgeBefore program Rec (edge q i) (edge p z)) here_is b))
          (λ e at_e number q i b.
          let f = same_number e at_e in
          let g = ends f.0 f.1 (ap is_some f.2 ∙ number) in
          keeps_ends (edge_of_event y n) is le g.0 g.1 q i (subst (λ z. Before program Rec (node q i) (node p z)) here_is b))

    -- ---- an interval inside

    pub left_own : (m : ℕ) (i : Span) → slice_get y.spans m ≡ Some i → (u : ℕ) → o ≡ Some u → u ≤ edge_in (setting_of program plan budget) own_is.begun.before p → IsIn far o (left_edge (get_or logs.lists p []) m)
        → (x : Span) × (slice_get own_is.begun.split.spans m ≡ Some x) × (is_some x.closed ≡ true)
    left_own m i at_m u e up is =
        let under : left_edge (get_or logs.lists p []) m < u = subst (λ z. IsIn far z (left_edge (get_or logs.lists p []) m)) e is in
        let few : edge_in (setting_of program plan budget) own_is.begun.before p ≤ length (filter_map sync_in (get_or (closed_logs (setting_of program plan budget) (own_is.begun.before ++ own_is.begun.rest)).lists p [])) =
        (let all : length (filter_map sync_in (get_or logs.lists p [])) ≡ far = total in
        let grown : edge_in (setting_of program plan budget) own_is.begun.before p ≤ edge_in (setting_of program plan budget) (own_is.begun.before ++ own_is.begun.rest) p =
        fewer (setting_of program plan budget) own_is.begun.before own_is.begun.rest whole.last (subst (λ l. run (setting_of program plan budget) l ≡ Some whole.last) own_is.begun.schedule_is whole.runs) p in
        let same : edge_in (setting_of program plan budget) (own_is.begun.before ++ own_is.begun.rest) p ≡ far = ap (λ l. edge_in (setting_of program plan budget) l p) (sym own_is.begun.schedule_is) in
        let es : length (filter_map sync_in (get_or (closed_logs (setting_of program plan budget) (own_is.begun.before ++ own_is.begun.rest)).lists p [])) ≡ length (filter_map sync_in (get_or logs.lists p [])) = ap (λ zs. length (filter_map sync_in zs)) entries_same in
        omega (arith, all, grown, same, es)) in
        left_then program policy budget own_is.begun.before own_is.begun.rest p v own_is.begun.split y own_is.begun.there at' m i at_m few
        (subst (λ zs. left_edge zs m < edge_in (setting_of program plan budget) own_is.begun.before p) (sym entries_same) (omega (arith, under, up)))

    pub inside_placed : (m : ℕ) (i : Span) → part_at y k j ≡ Some (nested m) → slice_get y.spans m ≡ Some i → IsIn far o (left_edge (get_or logs.lists p []) m) → part_at own_is.begun.split k j ≡ Some (nested m)
    inside_placed m i place at_m is = elim own_is.kind [
      | inl none ↦ subst (λ (z : Split). part_at z k j ≡ Some (nested m)) (sym none.1) place
      | inr found ↦ (let l = left_own m i at_m found.0 found.1 found.2 is in
          nested_back program policy budget own_is.begun.before own_is.begun.rest p v own_is.begun.split y own_is.begun.there at' k j m l.0 l.1 l.2 place)
    ]

    pub inside_found : (m : ℕ) (i : Span) → part_at y k j ≡ Some (nested m) → slice_get y.spans m ≡ Some i → IsIn far o (left_edge (get_or logs.lists p []) m)
        → (found_edges program plan logs xs p k j).found ≡ (found_edges program plan logs (all_seen (setting_of program plan budget) h) p k j).found
    inside_found m i place at_m is = elim own_is.kind [
      | inl none ↦
          let whole' : HasWholeItems (splits (setting_of program plan budget) s) y p = items_whole (setting_of program plan budget) h p y v at in
          let item_is : slice_get (get_or (seen_of y).items k []) j ≡ Some (item.Nested m i.block i.values (is_some i.closed)) = nested_at y (splits (setting_of program plan budget) s) p k j m i whole' place at_m in
          let mine : seen_at xs p ≡ seen_of y = own_is.begun.seen_is ∙ ap (λ (z : Split). seen_of z) none.1 in
          ap (λ o. (edges_if program plan logs xs p k j o).found) (ap (λ (q : Seen). slice_get (get_or q.items k []) j) mine ∙ item_is)
          ∙ ap (λ q. Some (Ok (edges_of_nested program plan q p k j m i.block i.values (block_kind plan i.block)).found)) (mine ∙ sym fy.seen_is)
          ∙ sym (ap (λ o. (edges_if program plan logs (all_seen (setting_of program plan budget) h) p k j o).found) (ap (λ (q : Seen). slice_get (get_or q.items k []) j) fy.seen_is ∙ item_is))
      | inr found ↦ (let l = left_own m i at_m found.0 found.1 found.2 is in
          inside_edges_same program policy budget h whole.last v whole.runs xs p k j y at own_is.begun m l.0
          (nested_back program policy budget own_is.begun.before own_is.begun.rest p v own_is.begun.split y own_is.begun.there at' k j m l.0 l.1 l.2 place) l.1 l.2)
    ]
