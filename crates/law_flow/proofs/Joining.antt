-- The items of a process's intervals, joined, are the events of its trace.
use Rattle.law_flow.proofs.Edges.Back.Walks.{items_are}
use Rattle.law_flow.proofs.Edges.Spans.Facts.{Logged}
use Rattle.law_flow.proofs.Edges.Spans.Tiles.{Tiles, ends, event, inside, rises}
use Rattle.law_flow.proofs.Edges.Spans.Told.{AreTiled, Around, IsAllLeft, IsInnermost, IsTold, last_of, outside}
use Rattle.law_flow.proofs.Edges.StepEvents.Processes.{Facts, facts}
use Rattle.law_flow.specs.Joined.{events_in, events_of_item, events_of_items, joined}
use Rattle.law_flow.specs.JoinedLaws.{JoinedAreEvents, bare}
use Rattle.ppd_ast.proofs.ValidLaws.{slice_get_below, slice_get_there}
use Rattle.ppd_model.specs.declared.entry.Entry.{Entry}
use Rattle.ppd_graph.specs.Seen.{Seen, seen_of}
use Rattle.ppd_graph.proofs.Leads.{length_mapped}
use Rattle.ppd_model.proofs.IntervalWords.{item_of_event, item_of_span}
use Rattle.ppd_model.proofs.Lists.{left_from, map_get}
use Rattle.ppd_model.specs.Intervals.{Part, Span, Split, item_of, items_of, nested, own}
use Rattle.ppd_model.specs.Logs.{closed_logs}
use Rattle.ppd_model.specs.declared.flow.Item.{Item}
use Rattle.ppd_model.specs.declared.flow.Item.TheVariants as item
use Rattle.ppd_model.specs.declared.trace.TracedEvent.{TracedEvent}
use Rattle.ppd_sem.specs.declared.event.Event.{Event}
use Rattle.std.proofs.Common.{List, Some, [], ap, arith, drop, length, map, refl, subst, suc, sym, zero, ℕ, ◌++◌, ◌+◌, ◌<◌, ◌∙◌, ◌∷◌, ◌≡◌, ◌≤◌}
use Rattle.std.proofs.lemmas.List.{append-nil, append_assoc, drop_all, length-map}
use Rattle.std.proofs.lemmas.List.Concat.{flat_map-append}
use Rattle.std.specs.List.{flat_map}
use Rattle.std.specs.Prelude.{get_or, slice_get}

module _ (x : Split) where
  abbrev all : List Event
  all = bare x.trace.events

  abbrev seen : Seen
  seen = seen_of x

  abbrev items_in : List Part → List Item
  items_in ps = flat_map (item_of x) ps

  -- what comes of parts that stand behind one another
  abbrev made : (ℕ → List Event) → List Part → List Event
  made inner ps = events_of_items inner (items_in ps)

  made_append : (inner : ℕ → List Event) (ps qs : List Part) → made inner (ps ++ qs) ≡ made inner ps ++ made inner qs
  made_append inner ps qs =
      ap (events_of_items inner) (flat_map-append (item_of x) ps qs) ∙ flat_map-append (events_of_item inner) (items_in ps) (items_in qs)

  module _ (F : ℕ → ℕ → ℕ → Type 0) where
    -- interval m gives the events that its parts cover
    abbrev Gives : (ℕ → List Event) → ℕ → Type 0
    Gives inner k = (m lo mid : ℕ) (i : Span) → k < m → slice_get x.spans m ≡ Some i → Tiles F x.spans m lo i.parts mid → mid ≤ length x.trace.events → drop lo all ≡ inner m ++ drop mid all

    parts_made : (inner : ℕ → List Event) (k lo : ℕ) (ps : List Part) (hi : ℕ) → Gives inner k → Tiles F x.spans k lo ps hi → hi ≤ length x.trace.events → drop lo all ≡ made inner ps ++ drop hi all
    parts_made inner k lo [] hi gives (ends e) le = ap (λ n. drop n all) e
    parts_made inner k lo (own n ∷ ps) hi gives (event e t) le =
        let up : lo + 1 ≤ hi = rises F x.spans k (lo + 1) ps hi t in
        let there = slice_get_there x.trace.events n (omega (arith, e, up, le)) in
        let first : drop lo all ≡ there.0.event ∷ drop (lo + 1) all =
        left_from all lo there.0.event (ap (λ z. slice_get all z) (sym e) ∙ map_get (λ (z : TracedEvent). z.event) x.trace.events n there.0 there.1) in
        subst (λ l. drop lo all ≡ events_of_items inner (l ++ items_in ps) ++ drop hi all) (sym (ap item_of_event there.1))
        (first ∙ ap (λ l. there.0.event ∷ l) (parts_made inner k (lo + 1) ps hi gives t le))
    parts_made inner k lo (nested m ∷ ps) hi gives (inside i mid lt at closed f t u) le =
        let up : mid ≤ hi = rises F x.spans k mid ps hi u in
        subst (λ l. drop lo all ≡ events_of_items inner (l ++ items_in ps) ++ drop hi all) (sym (ap (item_of_span m) at))
        (gives m lo mid i lt at t (omega (arith, up, le)) ∙ ap (λ l. inner m ++ l) (parts_made inner k mid ps hi gives u le) ∙ sym (append_assoc (inner m) (made inner ps) (drop hi all)))

    whole_made : (fuel m lo hi : ℕ) (i : Span) → slice_get x.spans m ≡ Some i → length x.spans ≤ fuel + m → Tiles F x.spans m lo i.parts hi → hi ≤ length x.trace.events → drop lo all ≡ joined fuel seen m ++ drop hi all
    whole_made zero m lo hi i at enough t le = let below : m < length x.spans = slice_get_below x.spans m i at in absurd (omega (arith, below, enough))
    whole_made (suc fuel) m lo hi i at enough t le =
        parts_made (joined fuel seen) m lo i.parts hi (λ k low mid j lt there u le'. whole_made fuel k low mid j there (omega (arith, lt, enough)) u le') t le
        ∙ ap (λ l. events_of_items (joined fuel seen) l ++ drop hi all) (sym (items_are x 0 F m i at))

  module _ (entries : List Entry) where
    abbrev F : ℕ → ℕ → ℕ → Type 0
    F = Logged entries x.trace.events

    -- outward from an interval that gives the events from number lo on up to number n
    out : (m lo n : ℕ) (rest : List ℕ) (j : Span) → slice_get x.spans m ≡ Some j → Around entries x.trace.events x.spans m rest lo → lo ≤ length x.trace.events
        → ((fuel : ℕ) → length x.spans ≤ fuel + m → drop lo all ≡ joined fuel seen m ++ drop n all) → (fuel : ℕ) → length x.spans ≤ fuel → all ≡ joined fuel seen 0 ++ drop n all
    out m lo n [] j there (outside e z) le given fuel enough =
        ap (λ k. drop k all) (sym z) ∙ given fuel (omega (arith, enough)) ∙ ap (λ k. joined fuel seen k ++ drop n all) e
    out m lo n (k ∷ rest) j there (last_of i ps first at running round lt parts apart opened around tiles) le given fuel enough =
        let up : first ≤ lo = rises F x.spans k first ps lo tiles in
        out k first n rest i at around (omega (arith, up, le)) (λ g more. by g more) fuel enough
      where
        by : (g : ℕ) → length x.spans ≤ g + k → drop first all ≡ joined g seen k ++ drop n all
        by zero more = let below : k < length x.spans = slice_get_below x.spans k i at in absurd (omega (arith, below, more))
        by (suc g) more =
            parts_made F (joined g seen) k first ps lo (λ l low mid w less here u le'. whole_made F g l low mid w here (omega (arith, less, more)) u le') tiles le
            ∙ ap (λ l. made (joined g seen) ps ++ l) (given g (omega (arith, lt, more)))
            ∙ sym (append_assoc (made (joined g seen) ps) (joined g seen m) (drop n all))
            ∙ ap (λ l. (made (joined g seen) ps ++ l) ++ drop n all) (sym last_made)
            ∙ ap (λ l. l ++ drop n all) (sym (made_append (joined g seen) ps (nested m ∷ [])))
            ∙ ap (λ l. made (joined g seen) l ++ drop n all) (sym parts)
            ∙ ap (λ l. events_of_items (joined g seen) l ++ drop n all) (sym (items_are x 0 F k i at))
          where
            last_made : made (joined g seen) (nested m ∷ []) ≡ joined g seen m
            last_made = ap (λ o. events_of_items (joined g seen) (item_of_span m o ++ [])) there ∙ append-nil (joined g seen m)

    -- all events
    whole : (running : List ℕ) → AreTiled entries x.trace.events x.spans running (length x.trace.events) → all ≡ events_in seen ++ drop (length x.trace.events) all
    whole [] t =
        let long : length seen.items ≡ length x.spans = length_mapped (items_of x) x.spans in
        whole_made F (length seen.items) 0 0 (length x.trace.events) t.span t.there (omega (arith, long)) t.parts (omega arith)
    whole (m ∷ rest) t =
        let long : length seen.items ≡ length x.spans = length_mapped (items_of x) x.spans in
        let up : t.first ≤ length x.trace.events = rises F x.spans m t.first t.span.parts (length x.trace.events) t.parts in
        out m t.first (length x.trace.events) rest t.span t.there t.around up
        (λ fuel enough. whole_made F fuel m t.first (length x.trace.events) t.span t.there enough t.parts (omega arith)) (length seen.items) (omega (arith, long))

pub joined_events : JoinedAreEvents
joined_events setting h p x v e =
    let f : Facts setting h v p x = facts setting h v p x e in
    let size : length (bare x.trace.events) ≡ length x.trace.events = length-map x.trace.events (λ (z : TracedEvent). z.event) in
    let none : drop (length x.trace.events) (bare x.trace.events) ≡ [] = drop_all (length x.trace.events) (bare x.trace.events) (omega (arith, size)) in
    sym (whole x (get_or (closed_logs setting h).lists p []) x.running f.told_by.tiled ∙ ap (λ l. events_in (seen_of x) ++ l) none ∙ append-nil (events_in (seen_of x)))
