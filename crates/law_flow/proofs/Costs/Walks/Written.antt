-- The walk back from where an edge that writes a cell ends: it replays each interval once, and each is open in the edge.
use Rattle.ppd_model.specs.Setting.{Setting}
use Rattle.std.proofs.Common.{◌≡◌, ℕ, suc, ◌+◌, ◌<◌, ◌≤◌, ℤ, true, false, List, ◌∷◌, ◌++◌, Some, None, Result, Ok, Err, refl, ap, sym, ◌∙◌, subst, arith, length, true≢false, inl, inr}
use Rattle.std.specs.Prelude.{drop, nat_eq, slice_get, take, get_or, [], filter_map}
use Rattle.std.specs.List.{list_any}
use Rattle.std.proofs.lemmas.List.{append_assoc}
use Rattle.ppd_ast.specs.Valid.{IsValid}
use Rattle.ppd_model.specs.declared.entry.Entry.{Entry}
use Rattle.ppd_sem.specs.declared.proc.Need.{Need}
use Rattle.ppd_sem.specs.declared.proc.Need.TheVariants as n
use Rattle.ppd_sem.specs.Described.{is_event}
use Rattle.ppd_model.specs.declared.flow.Origin.{Origin}
use Rattle.ppd_model.specs.declared.flow.Origin.TheVariants as origin
use Rattle.ppd_model.specs.declared.graph.EdgeId.{EdgeId}
use Rattle.ppd_model.specs.declared.tracing.Taken.{Taken}
use Rattle.ppd_model.specs.FlowbackEdges.{part_at}
use Rattle.ppd_model.specs.Intervals.{Split, own, splits}
use Rattle.ppd_model.specs.Logs.{closed_log, closed_logs, log_of}
use Rattle.ppd_model.specs.NearIntervals.{edge_of_event, through_step}
use Rattle.ppd_model.specs.SharedReads.{IsAccess, IsWriteStep, WritesIn, need_after}
use Rattle.ppd_model.specs.Story.{story, told}
use Rattle.ppd_model.specs.Synchronizations.{kind_of_sync, numbered, sync_of}
use Rattle.ppd_model.proofs.SharedReads.{writes_step}
use Rattle.ppd_model.proofs.Tested.{In, here as first_in, there as later_in}
use Rattle.ppd_graph.specs.declared.walked.Walked.{Walked}
use Rattle.ppd_graph.specs.declared.walked.Walked.TheVariants.{Stopped, Passed, Found}
use Rattle.ppd_graph.specs.Ends.{end_interval, end_item}
use Rattle.ppd_graph.specs.Seen.{Seen, seen_of}
use Rattle.ppd_graph.specs.Shared.{Missing, seen_at, walk_in, writing, written_at, written_in}
use Rattle.ppd_graph.specs.Walk.{walk}
use Rattle.law_flow.proofs.Vocabulary.Events.{IsLastWriter, IsWalk}
use Rattle.law_flow.specs.Edges.Near.{IsOpenAt}
use Rattle.law_flow.specs.Edges.SharedEdges.{all_seen}
use Rattle.law_flow.specs.Edges.Within.{AreDistinct}
use Rattle.law_flow.proofs.Edges.Back.Walks.{walk_is}
use Rattle.law_flow.proofs.Edges.Near.Distinct.{walk_distinct}
use Rattle.law_flow.proofs.Edges.Near.Left.{IsLeftBy, left_by_step, open_at}
use Rattle.law_flow.proofs.Edges.Near.Touched.{IsTouched, all_walked}
use Rattle.law_flow.proofs.Edges.Near.Tree.{HasTree, has_tree}
use Rattle.law_flow.proofs.Edges.Sources.LastOrigins.{below_moments, split_there}
use Rattle.law_flow.proofs.Edges.Sources.Members.{in_cases}
use Rattle.law_flow.proofs.Edges.Sources.Writing.{writing_only}
use Rattle.law_flow.proofs.Edges.Spans.Facts.{Logged, count_to}
use Rattle.law_flow.proofs.Edges.StepEvents.Processes.{Facts, closed_told, facts}
use Rattle.law_flow.proofs.Edges.StepEvents.Timeline.{did, next}
use Rattle.law_flow.proofs.Edges.StepEvents.Writers.{IsWrite, as_write, edge_is_count, first_sync, syncs_both, syncs_none}
use Rattle.law_flow.proofs.Costs.Steps.Ends.{IsEnd, last_end, sync_end}
use Rattle.law_flow.proofs.Costs.Steps.Entries.{entries_are}
use Rattle.law_flow.proofs.Edges.Near.Nearby.{counted, plain_count}
use Rattle.law_flow.proofs.Costs.Walks.Counts.{writer_count}

-- the origin in an answer
abbrev origin_or : Origin → Result (ℤ × Origin) Missing → Origin
origin_or o (Ok w) = w.1
origin_or o (Err m) = o

-- ---- the walk

module _ (setting : Setting) (h : List ℕ) (v : IsValid setting.program) where
  module _ (q : ℕ) (x : Split) (f : Facts setting h v q x) where
    abbrev entries : List Entry
    entries = get_or (closed_logs setting h).lists q []

    abbrev F : ℕ → ℕ → ℕ → Type 0
    F = Logged (get_or (closed_logs setting h).lists q []) x.trace.events

    tree : HasTree x
    tree =
        let t = closed_told setting h v q x f.there in
        subst (λ y. HasTree y) t.0 (has_tree setting.program setting.plan (story setting h) q setting.budget (did (told setting h) q))

    -- an interval that was left in the edge is open in it
    left_open : (k m : ℕ) → k ≤ length x.trace.events → IsTouched x (Logged (get_or (closed_logs setting h).lists q []) x.trace.events) k m → IsOpenAt x (count_to x.trace.events k) m
    left_open k m le t =
        let c = closed_told setting h v q x f.there in
        let logged : Logged (closed_log (log_of setting q (get_or (told setting h).moments q []))) x.trace.events m t.lo t.mid =
        subst (λ es. Logged es x.trace.events m t.lo t.mid) (entries_are setting h q x f.there) t.logged in
        let l : IsLeftBy x t.span (count_to x.trace.events t.mid) =
        left_by_step setting q (get_or (told setting h).moments q []) (story setting h) x c.0 c.1 x.trace.events m t.lo t.mid t.span t.is_there t.closed logged in
        let same : count_to x.trace.events t.mid ≡ count_to x.trace.events k = plain_count x.trace.events t.mid k t.before le t.since in
        let z : l.step + 1 ≡ suc l.step = omega arith in
        record {
          span = t.span;
          is_there = t.is_there;
          is_open = ap (λ o. list_any (λ d. nat_eq d (count_to x.trace.events k)) (drop t.span.opened (through_step o x.edges))) l.closed
              ∙ ap (λ i. list_any (λ d. nat_eq d (count_to x.trace.events k)) (drop t.span.opened (take i x.edges))) z
              ∙ open_at x.edges t.span.opened l.step (count_to x.trace.events k) l.opened (l.in_edge ∙ ap (λ i. Some i) same);
        }

    module _ (c e : ℕ) (g : IsEnd setting h q x e) where
      onto : (P : ℕ → ℕ → Type 0) → P g.interval (length g.before) → P (end_interval entries e) (end_item entries (seen_of x) e)
      onto P a = subst (λ i. P i (end_item entries (seen_of x) e)) (sym g.interval_is) (subst (λ i. P g.interval i) (sym g.item_is) a)

      pub walk_once : AreDistinct (end_interval entries e ∷ (walk (seen_of x) c (end_interval entries e) (end_item entries (seen_of x) e)).replays)
      walk_once =
          onto (λ k j. AreDistinct (k ∷ (walk (seen_of x) c k j).replays))
          (walk_distinct x tree c F g.interval g.first g.before g.after g.event g.span g.there g.parts_are g.tiles g.within g.stands)

      opened : (z : ℕ) → In z (g.interval ∷ (walk (seen_of x) c g.interval (length g.before)).replays) → IsOpenAt x e z
      opened z i = elim (in_cases z g.interval (walk (seen_of x) c g.interval (length g.before)).replays i) [
        | inl same ↦ g.opens z (subst (λ k. In z (k ∷ g.span.round)) same first_in)
        | inr more ↦ elim (all_walked x c F g.interval g.first g.before g.after g.event g.span g.there g.parts_are g.tiles g.within g.stands z more) [
          | inl t ↦ subst (λ k. IsOpenAt x k z) g.count (left_open g.event z g.within t)
          | inr round ↦ g.opens z (later_in round)
        ]
      ]

      pub walk_opens : (z : ℕ) → In z (end_interval entries e ∷ (walk (seen_of x) c (end_interval entries e) (end_item entries (seen_of x) e)).replays) → IsOpenAt x e z
      walk_opens z = onto (λ k j. In z (k ∷ (walk (seen_of x) c k j).replays) → IsOpenAt x e z) (opened z)

      -- the write that it finds is of the edge
      pub walk_finds : (m i : ℕ) (u : ℤ) → (walk (seen_of x) c (end_interval entries e) (end_item entries (seen_of x) e)).found ≡ Found m i u
          → (k : ℕ) × (part_at x m i ≡ Some (own k)) × (edge_of_event x k ≡ e)
      walk_finds m i u is =
          let w : IsWalk x c 0 g.event (walk (seen_of x) c (end_interval entries e) (end_item entries (seen_of x) e)).found =
          onto (λ k j. IsWalk x c 0 g.event (walk (seen_of x) c k j).found) (walk_is x c F g.interval g.first g.before g.after g.event g.span g.there g.parts_are g.tiles g.within g.stands) in
          let found : IsWalk x c 0 g.event (Found m i u) = subst (λ z. IsWalk x c 0 g.event z) is w in
          let l : IsLastWriter x.trace.events c 0 g.event found.0 u = found.2 in
          (found.0, found.1, counted x.trace.events found.0 ∙ writer_count x.trace.events c found.0 g.event l.plain l.since l.to g.within ∙ g.count)

  -- ---- an edge that writes the cell

  goes : (c : ℕ) (need : Need) → IsAccess c true need → need ≡ n.Stopped → ⊥
  goes c need a e = stops (sym a.1 ∙ e)
    where
      stops : n.Write c a.0 ≡ n.Stopped → ⊥
      stops g = true≢false (ap (λ z. elim z [ n.Stopped ↦ false | _ ↦ true ]) g)

  -- the process of the edge, and where the edge ends
  pub record IsEnded (a : EdgeId) : Type 0 where
    pub split : Split
    pub there : slice_get (splits setting (story setting h)) a.process ≡ Some split
    pub ends : IsEnd setting h a.process split a.edge

  pub writing_ended : (c : ℕ) (a : EdgeId) → In a (writing (closed_logs setting h) c) → IsEnded a
  writing_ended c a m =
      let wr : WritesIn setting h c a.process a.edge = writing_only setting h v c a m in
      let st : IsWriteStep setting h a.process wr.access = writes_step setting h a.process wr.number wr.access wr.there wr.writes in
      let q : ℕ = a.process in
      let need : Need = need_after setting st.before a.process in
      let s : IsWrite setting st.before st.after a.process wr.access.cell = as_write setting st.before st.after a.process wr.access.cell (goes wr.access.cell need st.writes) in
      let done : List Taken = did (told setting st.before) a.process in
      let y : Taken = next setting.program setting.plan (told setting st.before) a.process in
      let here : did (told setting h) a.process ≡ did (told setting st.before) a.process ++ next setting.program setting.plan (told setting st.before) a.process ∷ s.mid =
      ap (λ l. did (told setting l) a.process) st.schedule_is ∙ s.steps_are in
      let lt : a.process < length (told setting h).moments = below_moments (told setting h).moments a.process done y s.mid here in
      let x = split_there setting (story setting h) 0 (told setting h).moments a.process lt in
      let f : Facts setting h v a.process x.0 = facts setting h v a.process x.0 x.1 in
      let edge_is : a.edge ≡ length (filter_map sync_of done) = sym wr.edge_is ∙ st.edge_is ∙ edge_is_count setting st.before a.process in
      let is : y.need ≡ n.Write wr.access.cell st.writes.0 = st.writes.1 in
      let plain : sync_of y ≡ None = ap (λ k. numbered (kind_of_sync k) y.number) is in
      let ends : IsEnd setting h a.process x.0 (length (filter_map sync_of done)) = elim (first_sync s.mid) [
        | inl still ↦ last_end setting h v a.process x.0 f done y s.mid here plain still (ap is_event is)
        | inr has ↦
            let upto : did (told setting h) a.process ≡ (done ++ y ∷ has.front) ++ has.step ∷ has.back =
            here ∙ ap (λ l. done ++ y ∷ l) has.are ∙ sym (append_assoc done (y ∷ has.front) (has.step ∷ has.back)) in
            let none : length (filter_map sync_of (y ∷ has.front)) ≡ 0 = syncs_none (y ∷ has.front) (plain, has.none) in
            let sum : length (filter_map sync_of (done ++ y ∷ has.front)) ≡ length (filter_map sync_of done) + length (filter_map sync_of (y ∷ has.front)) = syncs_both done (y ∷ has.front) in
            subst (λ i. IsEnd setting h a.process x.0 i) (let z : length (filter_map sync_of (done ++ y ∷ has.front)) ≡ length (filter_map sync_of done) = omega (arith, none, sum) in z)
            (sync_end setting h v a.process x.0 f (done ++ y ∷ has.front) has.step has.back upto has.is_sync)
      ] in
      record { split = x.0; there = x.1; ends = subst (λ i. IsEnd setting h a.process x.0 i) (sym edge_is) ends }

  -- ---- the last write in such an edge

  -- where the write was found; the replays for it are of intervals of one process, each once, each open there
  pub record IsNearWrite (c : ℕ) (a : EdgeId) (from : Origin) : Type 0 where
    pub split : Split
    pub there : slice_get (splits setting (story setting h)) a.process ≡ Some split
    pub interval : ℕ
    pub item : ℕ
    pub from_is : from ≡ origin.Item a.process interval item
    pub event : ℕ
    pub part : part_at split interval item ≡ Some (own event)
    pub replays : List ℕ
    pub replays_are : replays ≡ end_interval (get_or (closed_logs setting h).lists a.process []) a.edge
        ∷ (walk (seen_at (all_seen setting h) a.process) c (end_interval (get_or (closed_logs setting h).lists a.process []) a.edge) (end_item (get_or (closed_logs setting h).lists a.process []) (seen_at (all_seen setting h) a.process) a.edge)).replays
    pub once : AreDistinct replays
    pub opens : (z : ℕ) → In z replays → IsOpenAt split (edge_of_event split event) z

  pub near_write : (c : ℕ) (a : EdgeId) (u : ℤ) (from : Origin) → In a (writing (closed_logs setting h) c)
      → (written_in (closed_logs setting h) (all_seen setting h) c a).found ≡ Ok (u, from) → IsNearWrite c a from
  near_write c a u from m is = by (walk (seen_of d.split) c (end_interval entries' a.edge) (end_item entries' (seen_of d.split) a.edge)).found refl
    where
      d : IsEnded a
      d = writing_ended c a m

      entries' : List Entry
      entries' = get_or (closed_logs setting h).lists a.process []

      f : Facts setting h v a.process d.split
      f = facts setting h v a.process d.split d.there

      clash : {A B : Type 0} {y : A} {z : B} → Err z ≡ Ok y → ⊥
      clash e = cc

      from_of : (t : Result (ℤ × Origin) Missing) (y z : ℤ × Origin) → t ≡ Ok y → t ≡ Ok z → y.1 ≡ z.1
      from_of t y z e g = ap (origin_or y.1) (sym e ∙ g)

      same_walk : (walk_in (closed_logs setting h) (all_seen setting h) c a).found ≡ (walk (seen_of d.split) c (end_interval entries' a.edge) (end_item entries' (seen_of d.split) a.edge)).found
      same_walk = ap (λ (s : Seen). (walk s c (end_interval entries' a.edge) (end_item entries' s a.edge)).found) f.seen_is

      by : (w : Walked) → (walk (seen_of d.split) c (end_interval entries' a.edge) (end_item entries' (seen_of d.split) a.edge)).found ≡ w → IsNearWrite c a from
      by Passed g = absurd (clash (sym (ap (written_at (closed_logs setting h) c a) (same_walk ∙ g)) ∙ is))
      by Stopped g = absurd (clash (sym (ap (written_at (closed_logs setting h) c a) (same_walk ∙ g)) ∙ is))
      by (Found k i z) g =
          let o = walk_finds a.process d.split f c a.edge d.ends k i z g in
          record {
            split = d.split;
            there = d.there;
            interval = k;
            item = i;
            from_is = sym (from_of (written_in (closed_logs setting h) (all_seen setting h) c a).found (z, origin.Item a.process k i) (u, from) (ap (written_at (closed_logs setting h) c a) (same_walk ∙ g)) is);
            event = o.0;
            part = o.1;
            replays = end_interval entries' a.edge ∷ (walk (seen_of d.split) c (end_interval entries' a.edge) (end_item entries' (seen_of d.split) a.edge)).replays;
            replays_are = ap (λ (s : Seen). end_interval entries' a.edge ∷ (walk s c (end_interval entries' a.edge) (end_item entries' s a.edge)).replays) (sym f.seen_is);
            once = walk_once a.process d.split f c a.edge d.ends;
            opens = λ y j. subst (λ b. IsOpenAt d.split b y) (sym o.2) (walk_opens a.process d.split f c a.edge d.ends y j);
          }
