-- One more part of the innermost interval, one more entry, and one more event.
use Rattle.law_flow.proofs.Edges.Spans.Facts.{Logged, More, MoreEvents, OpensAt, SyncsAt, at, count_front, count_last, count_to, opens_on, syncs, syncs_on}
use Rattle.law_flow.proofs.Edges.Spans.Tiles.{HaveGrown, Stands, Tiles, all_covered, one_event}
use Rattle.law_flow.proofs.Edges.Spans.Told.{AreTiled, Around, IsInnermost, IsPlaced, IsTold, around_on, at_last, changed_at, changed_below, changed_cases, grown_all, grown_by, none_more, placed_on, stands_of, syncs_last, tiles_on}
use Rattle.law_flow.proofs.Vocabulary.Events.{synchronizes}
use Rattle.ppd_model.specs.declared.entry.Entry.{Entry}
use Rattle.ppd_model.proofs.ExtentWords.{Extending, extend}
use Rattle.ppd_model.proofs.Changes.{length-change}
use Rattle.ppd_model.proofs.CountedOn.{last_at}
use Rattle.ppd_model.specs.Intervals.{Part, Span, change_first, own, with_part}
use Rattle.ppd_model.specs.RecordedSets.{sync_in}
use Rattle.ppd_model.specs.World.{change}
use Rattle.ppd_model.specs.declared.trace.TracedEvent.{TracedEvent}
use Rattle.std.proofs.Common.{List, [], ap, ap₂, arith, cond, false, inl, inr, length, length-append, refl, subst, suc, sym, true, true≢false, zero, ℕ, ◌++◌, ◌+◌, ◌<◌, ◌∙◌, ◌∷◌, ◌≡◌, ◌⊎◌}
use Rattle.std.proofs.lemmas.List.{append-nil}
use Rattle.std.specs.Prelude.{is_some, slice_get}

-- ---- the innermost interval with more parts

module _ (entries : List Entry) (events : List TracedEvent) (spans : List Span) (m : ℕ) (rest : List ℕ) where
  -- f adds these parts to it; the entries and events so far are then later and told
  inner_told : (f : Span → Span) (q : List Part) → ((i : Span) → (f i).round ≡ i.round) → ((i : Span) → (f i).parts ≡ i.parts ++ q) → ((i : Span) → is_some (f i).closed ≡ is_some i.closed)
      → (later : List Entry) → More entries later → (told : List TracedEvent) → MoreEvents events told
      → ((lo : ℕ) (ps : List Part) → Tiles (Logged later told) (change f m spans) m lo ps (length events) → Tiles (Logged later told) (change f m spans) m lo (ps ++ q) (length told))
      → (at later).running ≡ m ∷ rest → length (at later).intervals ≡ length spans → syncs later ≡ count_to told (length told)
      → ((n : ℕ) → synchronizes (slice_get told n) ≡ true → SyncsAt later told (change f m spans) n)
      → IsTold entries events spans (m ∷ rest) → IsTold later told (change f m spans) (m ∷ rest)
  inner_told f q rounds parts closes later grows told goes more same size count homes h =
      let t : IsInnermost entries events spans m rest (length events) = h.tiled in
      let after : List Span = change f m spans in
      let grown : HaveGrown spans after = grown_by f q rounds parts spans m t.span t.there t.runs in
      let around : Around later told after m rest t.first = around_on entries later grows events told goes spans after grown m rest t.first (changed_below f q rounds parts spans m t.span t.there t.runs) t.around in
      let opened : OpensAt later told m t.first = opens_on entries later grows events told goes m t.first t.opened in
      let tiles : Tiles (Logged later told) after m t.first (f t.span).parts (length told) =
      subst (λ ps. Tiles (Logged later told) after m t.first ps (length told)) (sym (parts t.span)) (more t.first t.span.parts (tiles_on entries later grows events told goes spans after grown m t.first t.span.parts (length events) t.parts)) in
      record {
        same = same;
        size = size ∙ sym (length-change f m spans);
        count = count;
        tiled = record {
          first = t.first;
          around = around;
          span = f t.span;
          there = changed_at f q rounds parts spans m t.span t.there t.runs;
          runs = closes t.span ∙ t.runs;
          round = rounds t.span ∙ t.round;
          opened = opened;
          parts = tiles;
        };
        placed = λ k j e. elim (changed_cases f q rounds parts spans m t.span t.there t.runs k j e) [
          | inl new ↦
              let one : IsPlaced later told after m (f t.span) = record {
                first = t.first;
                stands = subst (λ r. Stands (Logged later told) after m r t.first) (sym (rounds t.span ∙ t.round)) (stands_of later told after m rest t.first around);
                opened = opened;
                covers = all_covered (Logged later told) after m t.first (f t.span).parts (length told) tiles;
              } in
              subst (λ z. IsPlaced later told after z j) (sym new.0) (subst (λ z. IsPlaced later told after m z) (sym new.1) one)
          | inr old ↦ placed_on entries later grows events told goes spans after grown k j (h.placed k j old)
        ];
        homes = homes;
      }

-- ---- one entry more, by which no interval begins or is left

pub entry_told : (entries : List Entry) (events : List TracedEvent) (spans : List Span) (running : List ℕ) (e : Entry) → (extend (at entries) e).running ≡ (at entries).running → length (extend (at entries) e).intervals ≡ length (at entries).intervals
    → is_some (sync_in e) ≡ false → IsTold entries events spans running → IsTold (entries ++ e ∷ []) events spans running
entry_told entries events spans running e same size plain h =
    let later : List Entry = entries ++ e ∷ [] in
    let grows : More entries later = (e ∷ [], refl) in
    record {
      same = ap (λ (y : Extending). y.running) (at_last entries e) ∙ same ∙ h.same;
      size = ap (λ (y : Extending). length y.intervals) (at_last entries e) ∙ size ∙ h.size;
      count = syncs_last entries e ∙ ap (λ b. syncs entries + cond b 1 0) plain ∙ (let z : syncs entries + 0 ≡ syncs entries = omega arith in z) ∙ h.count;
      tiled = by running h.tiled;
      placed = λ k i f. placed_on entries later grows events events (none_more events) spans spans (grown_all spans) k i (h.placed k i f);
      homes = λ n f. syncs_on entries later grows events events (none_more events) spans spans (grown_all spans) n (h.homes n f);
    }
  where
    by : (ks : List ℕ) → AreTiled entries events spans ks (length events) → AreTiled (entries ++ e ∷ []) events spans ks (length events)
    by [] t = record { span = t.span; there = t.there; round = t.round; parts = tiles_on entries (entries ++ e ∷ []) (e ∷ [], refl) events events (none_more events) spans spans (grown_all spans) 0 0 t.span.parts (length events) t.parts }
    by (k ∷ ks) t = record {
      first = t.first;
      around = around_on entries (entries ++ e ∷ []) (e ∷ [], refl) events events (none_more events) spans spans (grown_all spans) k ks t.first (λ j lt. refl) t.around;
      span = t.span;
      there = t.there;
      runs = t.runs;
      round = t.round;
      opened = opens_on entries (entries ++ e ∷ []) (e ∷ [], refl) events events (none_more events) k t.first t.opened;
      parts = tiles_on entries (entries ++ e ∷ []) (e ∷ [], refl) events events (none_more events) spans spans (grown_all spans) k t.first t.span.parts (length events) t.parts;
    }

-- ---- a step counts for the innermost interval

pub quiet_told : (entries : List Entry) (events : List TracedEvent) (spans : List Span) (running : List ℕ) → IsTold entries events spans running → IsTold entries events (change_first (λ i. record i { steps = i.steps + 1 }) running spans) running
quiet_told entries events spans [] h = h
quiet_told entries events spans (m ∷ rest) h =
    let f : Span → Span = λ i. record i { steps = i.steps + 1 } in
    let t : IsInnermost entries events spans m rest (length events) = h.tiled in
    let same_parts : (i : Span) → (f i).parts ≡ i.parts ++ [] = λ i. sym (append-nil i.parts) in
    inner_told entries events spans m rest f [] (λ i. refl) same_parts (λ i. refl) entries ([], sym (append-nil entries)) events (none_more events)
    (λ lo ps u. subst (λ l. Tiles (Logged entries events) (change f m spans) m lo l (length events)) (sym (append-nil ps)) u) h.same h.size h.count
    (λ n e. syncs_on entries entries ([], sym (append-nil entries)) events events (none_more events) spans (change f m spans) (grown_by f [] (λ i. refl) same_parts spans m t.span t.there t.runs) n (h.homes n e)) h

-- ---- an event

-- the event comes with no entry, or is a synchronization and comes with its entry
abbrev pub Comes : List Entry → TracedEvent → List Entry → Type 0
Comes entries te more =
    ((more ≡ []) × (is_some te.event.number ≡ false))
    ⊎ ((e : Entry) × (more ≡ e ∷ []) × (is_some te.event.number ≡ true) × (is_some (sync_in e) ≡ true) × ((extend (at entries) e).running ≡ (at entries).running) × (length (extend (at entries) e).intervals ≡ length (at entries).intervals))

-- the event, and the entry of its synchronization where it is one
pub event_told : (entries : List Entry) (events : List TracedEvent) (spans : List Span) (running : List ℕ) (te : TracedEvent) (more : List Entry) → 0 < length running
    → Comes entries te more
    → IsTold entries events spans running → IsTold (entries ++ more) (events ++ te ∷ []) (change_first (with_part (own (length events))) running spans) running
event_told entries events spans [] te more lt o h = absurd (omega (arith, lt))
event_told entries events spans (m ∷ rest) te more lt o h =
    let f : Span → Span = with_part (own (length events)) in
    let t : IsInnermost entries events spans m rest (length events) = h.tiled in
    let told : List TracedEvent = events ++ te ∷ [] in
    let long : length told ≡ length events + 1 = length-append events (te ∷ []) in
    inner_told entries events spans m rest f (own (length events) ∷ []) (λ i. refl) (λ i. refl) (λ i. refl) (entries ++ more) (more, refl) told (te ∷ [], refl)
    (λ lo ps u. subst (λ l. Tiles (Logged (entries ++ more) told) (change f m spans) m lo (ps ++ own (length events) ∷ []) l) (sym long) (one_event (Logged (entries ++ more) told) (change f m spans) m lo ps (length events) u))
    (same o) (size o) (count o) (homes o) h
  where
    same : Comes entries te more → (at (entries ++ more)).running ≡ m ∷ rest
    same (inl p) = ap (λ l. (at l).running) (ap (λ l. entries ++ l) p.0 ∙ append-nil entries) ∙ h.same
    same (inr p) = ap (λ l. (at (entries ++ l)).running) p.1 ∙ ap (λ (y : Extending). y.running) (at_last entries p.0) ∙ p.4 ∙ h.same

    size : Comes entries te more → length (at (entries ++ more)).intervals ≡ length spans
    size (inl p) = ap (λ l. length (at l).intervals) (ap (λ l. entries ++ l) p.0 ∙ append-nil entries) ∙ h.size
    size (inr p) = ap (λ l. length (at (entries ++ l)).intervals) p.1 ∙ ap (λ (y : Extending). length y.intervals) (at_last entries p.0) ∙ p.5 ∙ h.size

    total : count_to (events ++ te ∷ []) (length (events ++ te ∷ [])) ≡ count_to events (length events) + cond (is_some te.event.number) 1 0
    total = ap (λ k. count_to (events ++ te ∷ []) k) (length-append events (te ∷ [])) ∙ count_last events te

    count : Comes entries te more → syncs (entries ++ more) ≡ count_to (events ++ te ∷ []) (length (events ++ te ∷ []))
    count (inl p) =
        ap (λ l. syncs l) (ap (λ l. entries ++ l) p.0 ∙ append-nil entries) ∙ h.count
        ∙ (let z : count_to events (length events) ≡ count_to events (length events) + 0 = omega arith in z) ∙ ap (λ b. count_to events (length events) + cond b 1 0) (sym p.1) ∙ sym total
    count (inr p) =
        ap (λ l. syncs (entries ++ l)) p.1 ∙ syncs_last entries p.0 ∙ ap₂ (λ a b. a + cond b 1 0) h.count (p.3 ∙ sym p.2) ∙ sym total

    after : List Span
    after = change (with_part (own (length events))) m spans

    inn : IsInnermost entries events spans m rest (length events)
    inn = h.tiled

    grown : HaveGrown spans (change (with_part (own (length events))) m spans)
    grown = grown_by (with_part (own (length events))) (own (length events) ∷ []) (λ i. refl) (λ i. refl) spans m inn.span inn.there inn.runs

    old : (n : ℕ) → synchronizes (slice_get events n) ≡ true → SyncsAt (entries ++ more) (events ++ te ∷ []) (change (with_part (own (length events))) m spans) n
    old n e = syncs_on entries (entries ++ more) (more, refl) events (events ++ te ∷ []) (te ∷ [], refl) spans (change (with_part (own (length events))) m spans) grown n (h.homes n e)

    last_event : (es : List TracedEvent) (n : ℕ) → synchronizes (slice_get (es ++ te ∷ []) n) ≡ true → (synchronizes (slice_get es n) ≡ true) ⊎ ((n ≡ length es) × (is_some te.event.number ≡ true))
    last_event [] zero e = inr (refl, e)
    last_event [] (suc n) e = inl e
    last_event (x ∷ es) zero e = inl e
    last_event (x ∷ es) (suc n) e = elim (last_event es n e) [ inl a ↦ inl a | inr b ↦ inr (ap (λ k. suc k) b.0, b.1) ]

    new : Comes entries te more → is_some te.event.number ≡ true → SyncsAt (entries ++ more) (events ++ te ∷ []) (change (with_part (own (length events))) m spans) (length events)
    new (inl p) is = absurd (true≢false (sym is ∙ p.1))
    new (inr p) is =
        let long : length (events ++ te ∷ []) ≡ length events + 1 = length-append events (te ∷ []) in
        record {
          before = entries;
          sync = p.0;
          after = [];
          interval = m;
          rest = rest;
          entries_are = ap (λ l. entries ++ l) p.1;
          is_sync = p.3;
          runs = h.same;
          count = h.count ∙ sym (count_front events (te ∷ []) (length events) (omega arith));
          within = omega (arith, long);
          part = record {
            span = with_part (own (length events)) inn.span;
            there = changed_at (with_part (own (length events))) (own (length events) ∷ []) (λ i. refl) (λ i. refl) spans m inn.span inn.there inn.runs;
            place = length inn.span.parts;
            at_place = last_at inn.span.parts (own (length events));
          };
        }

    homes : Comes entries te more → (n : ℕ) → synchronizes (slice_get (events ++ te ∷ []) n) ≡ true → SyncsAt (entries ++ more) (events ++ te ∷ []) (change (with_part (own (length events))) m spans) n
    homes o' n e = elim (last_event events n e) [
      | inl a ↦ old n a
      | inr b ↦ subst (λ k. SyncsAt (entries ++ more) (events ++ te ∷ []) (change (with_part (own (length events))) m spans) k) (sym b.0) (new o' b.1)
    ]
