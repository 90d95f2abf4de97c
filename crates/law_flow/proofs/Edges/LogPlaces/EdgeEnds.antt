-- Of a whole log: the edge of an event's place, where an edge ends, and what the walks from there come to.
use Rattle.law_flow.proofs.Edges.Back.Walks.{items_are, walk_is}
use Rattle.law_flow.proofs.Edges.LogPlaces.EdgePlaces.{cut, edge_is, first_edge_is, none_is, sync_is}
use Rattle.law_flow.proofs.Edges.LogPlaces.Innermost.{innermost_is, innermost_none}
use Rattle.law_flow.proofs.Edges.Spans.Facts.{Logged, OpensAt, SyncsAt, at, count_to, syncs}
use Rattle.law_flow.proofs.Edges.Spans.Tiles.{Covers, Stands, Tiles, outermost, up_to}
use Rattle.law_flow.proofs.Edges.Spans.Told.{AreTiled, IsPlaced, IsTold, at_last, stands_of, syncs_last}
use Rattle.law_flow.proofs.Vocabulary.Events.{IsWalk, synchronizes}
use Rattle.ppd_ast.proofs.ValidLaws.{slice_get_there}
use Rattle.ppd_ast.specs.declared.status.Status.{Status}
use Rattle.ppd_model.specs.Entries.{is_end}
use Rattle.ppd_model.specs.declared.entry.Entry.{Entry}
use Rattle.ppd_model.specs.declared.entry.Entry.TheVariants as entry
use Rattle.ppd_graph.proofs.FlowWords.{is_sync}
use Rattle.ppd_graph.specs.Ends.{edge_at, end_interval, end_item, ending, ends_edge, first_edge, innermost_from, sync_item}
use Rattle.ppd_graph.specs.Seen.{seen_of}
use Rattle.ppd_graph.specs.Walk.{walk}
use Rattle.ppd_model.proofs.ExtentWords.{Extending}
use Rattle.ppd_model.proofs.EdgeWords.{part_in}
use Rattle.ppd_model.specs.Extents.{extents}
use Rattle.ppd_model.specs.FlowbackEdges.{part_at}
use Rattle.ppd_model.specs.Intervals.{Part, Span, Split, item_of, own}
use Rattle.ppd_model.specs.RecordedSets.{sync_in}
use Rattle.ppd_model.specs.declared.trace.TracedEvent.{TracedEvent}
use Rattle.std.proofs.Common.{Bool, List, None, Option, Some, [], ap, ap₂, arith, false, if◌then◌else◌, length, refl, subst, suc, sym, true, true≢false, zero, ℕ, ◌++◌, ◌+◌, ◌<◌, ◌||◌, ◌∙◌, ◌∷◌, ◌≡◌}
use Rattle.std.proofs.lemmas.List.{append-nil, append_assoc}
use Rattle.std.proofs.lemmas.Option.{none-some}
use Rattle.std.specs.List.{flat_map, list_any}
use Rattle.std.specs.Prelude.{get_or, is_some, slice_get}

-- ---- lists

last_or : {A : Type 0} → A → List A → A
last_or d [] = d
last_or d (x ∷ xs) = last_or x xs

last_is : {A : Type 0} (d : A) (xs : List A) (y : A) → last_or d (xs ++ y ∷ []) ≡ y
unfolding last_or
last_is d [] y = refl
last_is d (x ∷ xs) y = last_is x xs y

-- a list that is not empty has a last element
with_last : {A : Type 0} (x : A) (xs : List A) → (front : List A) × (y : A) × ((x ∷ xs) ≡ front ++ y ∷ [])
with_last x [] = ([], x, refl)
with_last x (z ∷ xs) = let r = with_last z xs in (x ∷ r.0, r.1, ap (λ l. x ∷ l) r.2)

init : {A : Type 0} → List A → List A
init [] = []
init (x ∷ []) = []
init (x ∷ y ∷ xs) = x ∷ init (y ∷ xs)

init_is : {A : Type 0} (xs : List A) (y : A) → init (xs ++ y ∷ []) ≡ xs
unfolding init
init_is [] y = refl
init_is (x ∷ []) y = refl
init_is (x ∷ z ∷ xs) y = ap (λ l. x ∷ l) (init_is (z ∷ xs) y)

-- an element before the last one
before_last : {A : Type 0} (front : List A) (y : A) (back before : List A) (z : A) → front ++ y ∷ back ≡ before ++ z ∷ [] → (back ≡ [] → y ≡ z → ⊥) → (mid : List A) × (back ≡ mid ++ z ∷ []) × (before ≡ front ++ y ∷ mid)
before_last front y [] before z e other = absurd (other refl (sym (last_is y front y) ∙ ap (last_or y) e ∙ last_is y before z))
before_last front y (b ∷ back) before z e other =
    let l = with_last b back in
    let whole : (front ++ y ∷ l.0) ++ l.1 ∷ [] ≡ before ++ z ∷ [] = append_assoc front (y ∷ l.0) (l.1 ∷ []) ∙ ap (λ r. front ++ y ∷ r) (sym l.2) ∙ e in
    let same : l.1 ≡ z = sym (last_is y (front ++ y ∷ l.0) l.1) ∙ ap (last_or y) whole ∙ last_is y before z in
    (l.0, l.2 ∙ ap (λ r. l.0 ++ r ∷ []) same, sym (init_is before z) ∙ ap init (sym whole) ∙ init_is (front ++ y ∷ l.0) l.1)

none_front : (xs ys : List Entry) → list_any is_end (xs ++ ys) ≡ false → list_any is_end xs ≡ false
none_front [] ys h = refl
none_front (x ∷ xs) ys h = by (is_end x) refl h (none_front xs ys)
  where
    by : (b : Bool) → is_end x ≡ b → (b || list_any is_end (xs ++ ys)) ≡ false → (list_any is_end (xs ++ ys) ≡ false → list_any is_end xs ≡ false) → (is_end x || list_any is_end xs) ≡ false
    by true e g rest = absurd (true≢false g)
    by false e g rest = ap (λ b. b || list_any is_end xs) e ∙ rest g

-- ---- the entry that ends an edge

pub plain_entry : (i : ℕ) (y : Entry) (es : List Entry) (n : ℕ) → ends_edge y ≡ false → is_sync y ≡ false → ending i es ≡ n → ending i (y ∷ es) ≡ suc n
plain_entry zero y es n a b r = ap (λ c. if c then 0 else suc (ending zero es)) a ∙ ap (λ k. suc k) r
plain_entry (suc i) y es n a b r = ap (λ c. if c then suc (ending i es) else suc (ending (suc i) es)) b ∙ ap (λ k. suc k) r

pub ending_is : (before : List Entry) (e : Entry) (after : List Entry) → ends_edge e ≡ true → list_any is_end before ≡ false → ending (syncs before) (before ++ e ∷ after) ≡ length before
ending_is [] e after ends none = ap (λ b. if b then 0 else suc (ending 0 after)) ends
ending_is (x ∷ xs) e after ends none = by x none (ending_is xs e after ends)
  where
    by : (y : Entry) → (is_end y || list_any is_end xs) ≡ false → (list_any is_end xs ≡ false → ending (syncs xs) (xs ++ e ∷ after) ≡ length xs) → ending (syncs (y ∷ xs)) (y ∷ (xs ++ e ∷ after)) ≡ suc (length xs)
    by (entry.Sync kind object number value reads writes) h rest = ap (λ n. suc n) (rest h)
    by (entry.End st r reads writes) h rest = absurd (true≢false h)
    by (entry.Prelog b vs) h rest = plain_entry (syncs xs) (entry.Prelog b vs) (xs ++ e ∷ after) (length xs) refl refl (rest h)
    by (entry.Postlog b vs) h rest = plain_entry (syncs xs) (entry.Postlog b vs) (xs ++ e ∷ after) (length xs) refl refl (rest h)
    by (entry.Unit u vs) h rest = plain_entry (syncs xs) (entry.Unit u vs) (xs ++ e ∷ after) (length xs) refl refl (rest h)

sync_not_end : (s : Entry) (st : Status) (r : ℕ) (reads writes : List ℕ) → is_some (sync_in s) ≡ true → s ≡ entry.End st r reads writes → ⊥
sync_not_end s st r reads writes is e = true≢false (sym is ∙ ap (λ y. is_some (sync_in y)) e)

sync_ends : (s : Entry) → is_some (sync_in s) ≡ true → ends_edge s ≡ true
sync_ends (entry.Sync kind object number value reads writes) e = refl
sync_ends s e = absurd (true≢false (sym e))

-- ---- the places of a process

-- event n is at this place: its edge is that of the synchronizations before it, and the walk from there is over the
-- events before it
pub record IsAt (x : Split) (entries : List Entry) (n k j : ℕ) : Type 0 where
  pub edge : edge_at entries (seen_of x) k j ≡ count_to x.trace.events n
  pub walks : (c : ℕ) → IsWalk x c 0 n (walk (seen_of x) c k j).found

-- edge i ends at this place, at event n or after all events
pub record EndsBy (x : Split) (entries : List Entry) (i n : ℕ) : Type 0 where
  pub walks : (c : ℕ) → IsWalk x c 0 n (walk (seen_of x) c (end_interval entries i) (end_item entries (seen_of x) i)).found

-- and where it is a synchronization, the event is that item
pub record EndsAt (x : Split) (entries : List Entry) (i n : ℕ) : Type 0 where
  pub by : EndsBy x entries i n
  pub there : part_at x (end_interval entries i) (end_item entries (seen_of x) i) ≡ Some (own n)

module _ (x : Split) (entries : List Entry) (h : IsTold entries x.trace.events x.spans x.running) where
  abbrev events : List TracedEvent
  events = x.trace.events

  abbrev F : ℕ → ℕ → ℕ → Type 0
  F = Logged entries events

  -- an event's place
  pub place_of_event : (k j n : ℕ) (i : Span) → slice_get x.spans k ≡ Some i → slice_get i.parts j ≡ Some (own n) → n < length events
      → (p : IsPlaced entries events x.spans k i) × (front : List Part) × (back : List Part) × (i.parts ≡ front ++ own n ∷ back) × (length front ≡ j) × Tiles F x.spans k p.first front n
  place_of_event k j n i there at_j lt =
      let p : IsPlaced entries events x.spans k i = h.placed k i there in
      let c = cut i.parts j (own n) at_j in
      (p, c.0, c.1, c.2, c.3, up_to F x.spans k p.first c.0 c.1 n (subst (λ ps. Covers F x.spans k p.first ps) c.2 p.covers))

  pub at_place : (k j n : ℕ) → part_at x k j ≡ Some (own n) → n < length events → IsAt x entries n k j
  at_place k j n e lt = by (slice_get x.spans k) refl e
    where
      by : (o : Option Span) → slice_get x.spans k ≡ o → part_in o j ≡ Some (own n) → IsAt x entries n k j
      by None g f = absurd (none-some (own n) f)
      by (Some i) g f =
          let q = place_of_event k j n i g f lt in
          subst (λ z. IsAt x entries n k z) q.4 (record {
            edge = edge_is x entries k q.0.first q.1 (own n ∷ q.2) n i g q.3 q.5 (omega (arith, lt)) q.0.opened;
            walks = λ c. walk_is x c F k q.0.first q.1 (own n ∷ q.2) n i g q.3 q.5 (omega (arith, lt)) q.0.stands;
          })

  module _ (before : List Entry) (st : Status) (r : ℕ) (reads writes : List ℕ) (are : entries ≡ before ++ entry.End st r reads writes ∷ []) (no_end : list_any is_end before ≡ false) where
    -- where an edge ends by a synchronization
    pub at_sync : (n : ℕ) → synchronizes (slice_get events n) ≡ true → EndsAt x entries (count_to events n) n
    at_sync n is =
        let s : SyncsAt entries events x.spans n = h.homes n is in
        let mid = before_last s.before s.sync s.after before (entry.End st r reads writes) (sym s.entries_are ∙ are) (λ e f. sync_not_end s.sync st r reads writes s.is_sync f) in
        let none : list_any is_end s.before ≡ false = none_front s.before (s.sync ∷ mid.0) (sym (ap (list_any is_end) mid.2) ∙ no_end) in
        let ends : ending (count_to events n) entries ≡ length s.before =
        ap₂ (λ a es. ending a es) (sym s.count) s.entries_are ∙ ending_is s.before s.sync s.after (sync_ends s.sync s.is_sync) none in
        let in_mid : entries ≡ s.before ++ ((s.sync ∷ mid.0) ++ entry.End st r reads writes ∷ []) = s.entries_are ∙ ap (λ l. s.before ++ s.sync ∷ l) mid.1 in
        let interval : end_interval entries (count_to events n) ≡ s.interval =
        ap (λ n. innermost_from n 0 0 (extents entries)) ends ∙ ap (λ es. innermost_from (length s.before) 0 0 (extents es)) in_mid ∙ innermost_is s.before (s.sync ∷ mid.0) st r reads writes s.interval s.rest s.runs in
        let q = place_of_event s.interval s.part.place n s.part.span s.part.there s.part.at_place s.within in
        let e = slice_get_there events n s.within in
        let numbered : is_some e.0.event.number ≡ true = sym (ap synchronizes e.1) ∙ is in
        let item : end_item entries (seen_of x) (count_to events n) ≡ length q.1 =
        ap (λ k. sync_item entries (count_to events n) (first_edge entries k) (get_or (seen_of x).items k [])) interval
        ∙ ap₂ (λ a l. sync_item entries (count_to events n) a l) (first_edge_is entries events s.interval q.0.first q.0.opened) (items_are x 0 F s.interval s.part.span s.part.there ∙ ap (λ l. flat_map (item_of x) l) q.3)
        ∙ sync_is x entries s.interval q.0.first q.1 q.2 n e.0 q.5 e.1 numbered in
        let lt = s.within in
        let walks' : (c : ℕ) → IsWalk x c 0 n (walk (seen_of x) c s.interval (length q.1)).found = λ c. walk_is x c F s.interval q.0.first q.1 (own n ∷ q.2) n s.part.span s.part.there q.3 q.5 (omega (arith, lt)) q.0.stands in
        record {
          by = record { walks = λ c. subst (λ k. IsWalk x c 0 n (walk (seen_of x) c k (end_item entries (seen_of x) (count_to events n))).found) (sym interval) (subst (λ j. IsWalk x c 0 n (walk (seen_of x) c s.interval j).found) (sym item) (walks' c)) };
          there = ap₂ (λ k j. part_at x k j) interval item ∙ ap (λ o. part_in o (length q.1)) s.part.there ∙ ap (λ j. slice_get s.part.span.parts j) q.4 ∙ s.part.at_place;
        }

    -- where the last edge ends
    last_count : syncs before ≡ count_to events (length events)
    last_count =
        let z : syncs before + 0 ≡ syncs before = omega arith in
        sym z ∙ sym (ap syncs are ∙ syncs_last before (entry.End st r reads writes)) ∙ h.count

    last_ending : ending (count_to events (length events)) entries ≡ length before
    last_ending = ap₂ (λ a es. ending a es) (sym last_count) are ∙ ending_is before (entry.End st r reads writes) [] refl no_end

    last_running : (at before).running ≡ x.running
    last_running = sym (ap (λ (y : Extending). y.running) (ap at are ∙ at_last before (entry.End st r reads writes))) ∙ h.same

    last_by : (k first : ℕ) (i : Span) → end_interval entries (count_to events (length events)) ≡ k → slice_get x.spans k ≡ Some i → OpensAt entries events k first → Stands F x.spans k i.round first → Tiles F x.spans k first i.parts (length events)
        → EndsBy x entries (count_to events (length events)) (length events)
    last_by k first i interval there opened stands tiles =
        let item : end_item entries (seen_of x) (count_to events (length events)) ≡ length i.parts =
        ap (λ z. sync_item entries (count_to events (length events)) (first_edge entries z) (get_or (seen_of x).items z [])) interval
        ∙ ap₂ (λ a l. sync_item entries (count_to events (length events)) a l) (first_edge_is entries events k first opened) (items_are x 0 F k i there)
        ∙ none_is x entries k first i.parts (length events) tiles (omega arith) in
        record {
          walks = λ c.
              subst (λ z. IsWalk x c 0 (length events) (walk (seen_of x) c z (end_item entries (seen_of x) (count_to events (length events)))).found) (sym interval)
              (subst (λ j. IsWalk x c 0 (length events) (walk (seen_of x) c k j).found) (sym item)
              (walk_is x c F k first i.parts [] (length events) i there (sym (append-nil i.parts)) tiles (omega arith) stands));
        }

    pub at_last_edge : EndsBy x entries (count_to events (length events)) (length events)
    at_last_edge = cases x.running refl h.tiled
      where
        interval_is : (k : ℕ) → innermost_from (length before) 0 0 (extents (before ++ ([] ++ entry.End st r reads writes ∷ []))) ≡ k → end_interval entries (count_to events (length events)) ≡ k
        interval_is k e = ap (λ n. innermost_from n 0 0 (extents entries)) last_ending ∙ ap (λ es. innermost_from (length before) 0 0 (extents es)) are ∙ e

        outer_first : (i : Span) (p : IsPlaced entries events x.spans 0 i) → i.round ≡ [] → p.first ≡ 0
        outer_first i p e = by (subst (λ l. Stands F x.spans 0 l p.first) e p.stands)
          where
            by : Stands F x.spans 0 [] p.first → p.first ≡ 0
            by (outermost a b) = b

        cases : (ks : List ℕ) → x.running ≡ ks → AreTiled entries events x.spans ks (length events) → EndsBy x entries (count_to events (length events)) (length events)
        cases [] e t =
            let p : IsPlaced entries events x.spans 0 t.span = h.placed 0 t.span t.there in
            let z : p.first ≡ 0 = outer_first t.span p t.round in
            last_by 0 0 t.span (interval_is 0 (innermost_none before [] st r reads writes (last_running ∙ e))) t.there (subst (λ k. OpensAt entries events 0 k) z p.opened) (subst (λ k. Stands F x.spans 0 t.span.round k) z p.stands) t.parts
        cases (m ∷ ks) e t =
            last_by m t.first t.span (interval_is m (innermost_is before [] st r reads writes m ks (last_running ∙ e))) t.there t.opened
            (subst (λ l. Stands F x.spans m l t.first) (sym t.round) (stands_of entries events x.spans m ks t.first t.around)) t.parts
