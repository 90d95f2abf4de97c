-- The edge of a place and the place at which an edge ends, of a whole log that tells of a process's intervals and events.
use Rattle.law_flow.proofs.Edges.Back.Walks.{items_are, taken}
use Rattle.law_flow.proofs.Edges.LogPlaces.Extended.{is_log, stays, still_one}
use Rattle.law_flow.proofs.Edges.LogPlaces.Innermost.{not_in}
use Rattle.law_flow.proofs.Edges.Spans.Facts.{LeavesAt, Logged, OpensAt, at, count_to, syncs}
use Rattle.law_flow.proofs.Edges.Spans.Tiles.{Tiles, ends, event, inside, rises}
use Rattle.ppd_ast.proofs.ValidLaws.{slice_get_below, slice_get_there}
use Rattle.ppd_ast.specs.Counting.{one_if}
use Rattle.ppd_model.specs.declared.entry.Entry.{Entry}
use Rattle.ppd_model.specs.declared.entry.Entry.TheVariants as entry
use Rattle.ppd_graph.proofs.FlowWords.{begins_in}
use Rattle.ppd_graph.specs.Ends.{edge_at, first_edge, is_sync_item, sync_item, syncs_before, syncs_inside, syncs_of_item}
use Rattle.ppd_graph.specs.Seen.{seen_of}
use Rattle.ppd_model.proofs.Changes.{change-at, some}
use Rattle.ppd_model.proofs.CountedOn.{last_at}
use Rattle.ppd_model.proofs.ExtentWords.{Extending, begun_extents, extend, extent_found, left_by as extents_left}
use Rattle.ppd_model.proofs.Extents.{Fall, IsIn, entry_number}
use Rattle.ppd_model.proofs.IntervalWords.{item_of_event, item_of_span}
use Rattle.ppd_model.specs.Extents.{Extent, extents}
use Rattle.ppd_model.specs.Intervals.{Part, Span, Split, item_of, nested, own}
use Rattle.ppd_model.specs.RecordedSets.{sync_in}
use Rattle.ppd_model.specs.declared.flow.Item.{Item}
use Rattle.ppd_model.specs.declared.flow.Item.TheVariants as item
use Rattle.ppd_model.specs.declared.trace.TracedEvent.{TracedEvent}
use Rattle.std.proofs.Common.{Bool, List, Some, [], ap, ap₂, arith, cond, eq-eqb, false, if◌then◌else◌, length, ne_eqb, refl, subst, suc, sym, true, zero, ℕ, ◌++◌, ◌+◌, ◌<◌, ◌∙◌, ◌∷◌, ◌≡◌, ◌≤◌}
use Rattle.std.proofs.lemmas.List.{append_assoc}
use Rattle.std.proofs.lemmas.List.Sums.{fold-append, sum_by-append}
use Rattle.std.proofs.lemmas.Option.{none-some}
use Rattle.std.specs.List.{flat_map}
use Rattle.std.specs.Prelude.{drop, filter_map, fold, is_some, nat_eq, option_map, slice_get, sum_by, take, ◌&&◌, ◌-◌}

-- ---- lists

take_front : {A : Type 0} (xs ys : List A) → take (length xs) (xs ++ ys) ≡ xs
take_front [] ys = refl
take_front (x ∷ xs) ys = ap (λ l. x ∷ l) (take_front xs ys)

-- the parts up to a place and from it on
pub cut : (ps : List Part) (j : ℕ) (q : Part) → slice_get ps j ≡ Some q → (front : List Part) × (back : List Part) × (ps ≡ front ++ q ∷ back) × (length front ≡ j)
cut [] j q e = absurd (none-some q e)
cut (p ∷ ps) zero q e = ([], ps, ap (λ z. z ∷ ps) (some e), refl)
cut (p ∷ ps) (suc j) q e = let r = cut ps j q e in (p ∷ r.0, r.1, ap (λ l. p ∷ l) r.2, ap (λ n. suc n) r.3)

-- ---- counts

pub count_one : (es : List TracedEvent) (n : ℕ) (e : TracedEvent) → slice_get es n ≡ Some e → count_to es (n + 1) ≡ count_to es n + cond (is_some e.event.number) 1 0
count_one [] n e f = absurd (none-some e f)
count_one (x ∷ es) zero e f =
    let same : x ≡ e = some f in
    let z : count_to es 0 ≡ 0 = zeroed es in
    let one : one_if (is_some x.event.number) ≡ one_if (is_some e.event.number) = ap (λ (y : TracedEvent). one_if (is_some y.event.number)) same in
    omega (arith, z, one)
  where
    zeroed : (ys : List TracedEvent) → count_to ys 0 ≡ 0
    zeroed [] = refl
    zeroed (y ∷ ys) = refl
count_one (x ∷ es) (suc n) e f =
    let rest : count_to es (n + 1) ≡ count_to es n + cond (is_some e.event.number) 1 0 = count_one es n e f in
    let z : suc n + 1 ≡ suc (n + 1) = omega arith in
    ap (λ k. count_to (x ∷ es) k) z ∙ omega (arith, rest)

pub count_rises : (es : List TracedEvent) (m n : ℕ) → m ≤ n → count_to es m ≤ count_to es n
count_rises [] m n le = omega arith
count_rises (e ∷ es) zero n le = omega arith
count_rises (e ∷ es) (suc m) zero le = absurd (omega (arith, le))
count_rises (e ∷ es) (suc m) (suc n) le = let rest : count_to es m ≤ count_to es n = count_rises es m n (omega (arith, le)) in omega (arith, rest)

-- an event before another one, a synchronization, is in a smaller edge
pub count_below : (es : List TracedEvent) (m n : ℕ) (e : TracedEvent) → slice_get es m ≡ Some e → is_some e.event.number ≡ true → m < n → count_to es m < count_to es n
count_below es m n e f is lt =
    let one : count_to es (m + 1) ≡ count_to es m + cond (is_some e.event.number) 1 0 = count_one es m e f in
    let is_one : one_if (is_some e.event.number) ≡ 1 = ap one_if is in
    let up : count_to es (m + 1) ≤ count_to es n = count_rises es (m + 1) n (omega (arith, lt)) in
    omega (arith, one, is_one, up)

-- ---- entries

kept_prelog : (y : Extending) (es : List Entry) (m : ℕ) (x : Extent) → slice_get y.intervals m ≡ Some x → (z : Extent) × (slice_get (fold extend y es).intervals m ≡ Some z) × (z.prelog ≡ x.prelog)
kept_prelog y [] m x e = (x, e, refl)
kept_prelog y (a ∷ es) m x e =
    let one = stays y a m x e in
    let rest = kept_prelog (extend y a) es m one.0 one.1 in
    (rest.0, rest.1, rest.2 ∙ one.2.prelog)

-- the prelog of an interval
opened_at : (entries : List Entry) (events : List TracedEvent) (k first : ℕ) (o : OpensAt entries events k first) → (z : Extent) × (slice_get (extents entries) k ≡ Some z) × (z.prelog ≡ length o.before)
opened_at entries events k first o =
    let new = extend (at o.before) (entry.Prelog o.block o.values) in
    let here : slice_get new.intervals k ≡ Some _ = ap (λ j. slice_get new.intervals j) o.number ∙ last_at (at o.before).intervals _ in
    let final : at entries ≡ fold extend new o.after = ap (λ es. at es) o.entries_are ∙ fold-append extend begun_extents o.before (entry.Prelog o.block o.values ∷ o.after) in
    let kept = kept_prelog new o.after k _ here in
    (kept.0, extent_found entries k (Some kept.0) (ap (λ (y : Extending). slice_get y.intervals k) final ∙ kept.1), kept.2 ∙ entry_number o.before)

before_it : (entries before after : List Entry) → entries ≡ before ++ after → syncs_before entries (length before) ≡ syncs before
before_it entries before after e = ap (λ l. length (filter_map sync_in (take (length before) l))) e ∙ ap (λ l. length (filter_map sync_in l)) (take_front before after)

pub first_edge_is : (entries : List Entry) (events : List TracedEvent) (k first : ℕ) → OpensAt entries events k first → first_edge entries k ≡ count_to events first
first_edge_is entries events k first o =
    let z = opened_at entries events k first o in
    ap (begins_in entries) z.1 ∙ ap (syncs_before entries) z.2 ∙ before_it entries o.before (entry.Prelog o.block o.values ∷ o.after) o.entries_are ∙ o.count

inside_is : (entries : List Entry) (events : List TracedEvent) (m lo mid : ℕ) → Logged entries events m lo mid → syncs_inside entries (slice_get (extents entries) m) ≡ count_to events mid - count_to events lo
inside_is entries events m lo mid h =
    let o : OpensAt entries events m lo = h.0 in
    let l : LeavesAt entries events m mid = h.1 in
    let begins = opened_at entries events m lo o in
    let y : Extending = at l.before in
    let falls : Fall (length y.intervals) (m ∷ l.rest) = subst (λ ks. Fall (length y.intervals) ks) l.runs (is_log l.before).falls in
    let there = slice_get_there y.intervals m falls.0 in
    let left : Extending = extend y (entry.Postlog l.block l.values) in
    let here : slice_get left.intervals m ≡ Some (record there.0 { last = Some y.entry; closed = true }) =
    ap (λ ks. slice_get (extents_left y.entry ks y.intervals) m) l.runs ∙ change-at (λ (z : Extent). record z { last = Some y.entry; closed = true }) m y.intervals ∙ ap (option_map (λ (z : Extent). record z { last = Some y.entry; closed = true })) there.1 in
    let out : IsIn m left.running → ⊥ = λ i. not_rest m l.rest falls (subst (λ ks. IsIn m (drop 1 ks)) l.runs i) in
    let final : at entries ≡ fold extend left l.after = ap (λ es. at es) l.entries_are ∙ fold-append extend begun_extents l.before (entry.Postlog l.block l.values ∷ l.after) in
    let at_last : slice_get (extents entries) m ≡ Some (record there.0 { last = Some y.entry; closed = true }) = extent_found entries m (Some (record there.0 { last = Some y.entry; closed = true })) (ap (λ (z : Extending). slice_get z.intervals m) final ∙ still_one left l.after m _ here out) in
    let same : record there.0 { last = Some y.entry; closed = true } ≡ begins.0 = some (sym at_last ∙ begins.1) in
    ap (syncs_inside entries) at_last
    ∙ ap₂ (λ a b. a - b)
    (ap (syncs_before entries) (entry_number l.before) ∙ before_it entries l.before (entry.Postlog l.block l.values ∷ l.after) l.entries_are ∙ l.count)
    (ap (syncs_before entries) (ap (λ (z : Extent). z.prelog) same ∙ begins.2) ∙ before_it entries o.before (entry.Prelog o.block o.values ∷ o.after) o.entries_are ∙ o.count)
  where
    not_rest : (m : ℕ) (ks : List ℕ) → (m < length (at h.1.before).intervals) × Fall m ks → IsIn m ks → ⊥
    not_rest m ks f i = above_all m ks f.1 i
      where
        above_all : (n : ℕ) (js : List ℕ) → Fall n js → IsIn n js → ⊥
        above_all n js g i' = not_in n js n g (omega arith) i'

-- ---- items

module _ (x : Split) (entries : List Entry) where
  abbrev events : List TracedEvent
  events = x.trace.events

  abbrev items_in : List Part → List Item
  items_in ps = flat_map (item_of x) ps

  abbrev F : ℕ → ℕ → ℕ → Type 0
  F = Logged entries events

  -- the synchronizations of these items
  sums : (k lo : ℕ) (ps : List Part) (hi : ℕ) → Tiles F x.spans k lo ps hi → hi ≤ length events → count_to events lo + sum_by (syncs_of_item entries) (items_in ps) ≡ count_to events hi
  sums k lo [] hi (ends e) le = (let z : count_to events lo + 0 ≡ count_to events lo = omega arith in z) ∙ ap (count_to events) e
  sums k lo (own n ∷ ps) hi (event e t) le =
      let up : lo + 1 ≤ hi = rises F x.spans k (lo + 1) ps hi t in
      let there = slice_get_there events n (omega (arith, e, up, le)) in
      let it : Item = item.Own there.0.event in
      let rest : count_to events (lo + 1) + sum_by (syncs_of_item entries) (items_in ps) ≡ count_to events hi = sums k (lo + 1) ps hi t le in
      let one : count_to events (n + 1) ≡ count_to events n + cond (is_some there.0.event.number) 1 0 = count_one events n there.0 there.1 in
      let at_lo : count_to events (lo + 1) ≡ count_to events lo + cond (is_some there.0.event.number) 1 0 = subst (λ z. count_to events (z + 1) ≡ count_to events z + cond (is_some there.0.event.number) 1 0) e one in
      let split : sum_by (syncs_of_item entries) (it ∷ items_in ps) ≡ sum_by (syncs_of_item entries) (it ∷ []) + sum_by (syncs_of_item entries) (items_in ps) = sum_by-append (syncs_of_item entries) (it ∷ []) (items_in ps) in
      let single : sum_by (syncs_of_item entries) (it ∷ []) ≡ 0 + cond (is_some there.0.event.number) 1 0 = refl in
      subst (λ l. count_to events lo + sum_by (syncs_of_item entries) (l ++ items_in ps) ≡ count_to events hi) (sym (ap item_of_event there.1)) (omega (arith, rest, at_lo, split, single))
  sums k lo (nested m ∷ ps) hi (inside i mid lt at' closed f t u) le =
      let up : mid ≤ hi = rises F x.spans k mid ps hi u in
      let up' : lo ≤ mid = rises F x.spans m lo i.parts mid t in
      let more : count_to events lo ≤ count_to events mid = count_rises events lo mid up' in
      let it : Item = item.Nested m i.block i.values (is_some i.closed) in
      let rest : count_to events mid + sum_by (syncs_of_item entries) (items_in ps) ≡ count_to events hi = sums k mid ps hi u le in
      let split : sum_by (syncs_of_item entries) (it ∷ items_in ps) ≡ sum_by (syncs_of_item entries) (it ∷ []) + sum_by (syncs_of_item entries) (items_in ps) = sum_by-append (syncs_of_item entries) (it ∷ []) (items_in ps) in
      let single : sum_by (syncs_of_item entries) (it ∷ []) ≡ 0 + (count_to events mid - count_to events lo) = ap (λ n. 0 + n) (inside_is entries events m lo mid f) in
      subst (λ l. count_to events lo + sum_by (syncs_of_item entries) (l ++ items_in ps) ≡ count_to events hi) (sym (ap (item_of_span m) at')) (omega (arith, rest, split, single, more))

  -- the edge of a place
  pub edge_is : (k first : ℕ) (ps qs : List Part) (n : ℕ) (i : Span) → slice_get x.spans k ≡ Some i → i.parts ≡ ps ++ qs → Tiles F x.spans k first ps n → n ≤ length events → OpensAt entries events k first
      → edge_at entries (seen_of x) k (length ps) ≡ count_to events n
  edge_is k first ps qs n i there parts t le o =
      ap₂ (λ a l. a + sum_by (syncs_of_item entries) l) (first_edge_is entries events k first o)
      (ap (λ l. take (length ps) l) (items_are x 0 F k i there ∙ ap items_in parts) ∙ taken x 0 F k first ps qs n t le)
      ∙ sums k first ps n t le

  -- ---- the item of a synchronization

  quiet_item : (n i : ℕ) (e : TracedEvent) → (is_some e.event.number ≡ true → n < i) → (is_some e.event.number && nat_eq n i) ≡ false
  quiet_item n i e below = by (is_some e.event.number) refl
    where
      by : (b : Bool) → is_some e.event.number ≡ b → (b && nat_eq n i) ≡ false
      by true is = let lt : n < i = below is in ne_eqb n i (λ same. omega (arith, same, lt))
      by false is = refl

  passed : (i n : ℕ) (t : Item) (ts : List Item) → (is_sync_item t && nat_eq n i) ≡ false → sync_item entries i n (t ∷ ts) ≡ suc (sync_item entries i (n + syncs_of_item entries t) ts)
  passed i n t ts e = ap (λ b. if b then 0 else suc (sync_item entries i (n + syncs_of_item entries t) ts)) e

  -- past these parts, in which no event is the synchronization of edge i
  over : (i k lo : ℕ) (ps : List Part) (hi : ℕ) (rest : List Item) → Tiles F x.spans k lo ps hi → hi ≤ length events → count_to events hi ≤ i → sync_item entries i (count_to events lo) (items_in ps ++ rest) ≡ length ps + sync_item entries i (count_to events hi) rest
  over i k lo [] hi rest (ends e) le below = ap (λ n. sync_item entries i (count_to events n) rest) e ∙ (let z : sync_item entries i (count_to events hi) rest ≡ 0 + sync_item entries i (count_to events hi) rest = omega arith in z)
  over i k lo (own n ∷ ps) hi rest (event e t) le below =
      let up : lo + 1 ≤ hi = rises F x.spans k (lo + 1) ps hi t in
      let there = slice_get_there events n (omega (arith, e, up, le)) in
      let at_lo : slice_get events lo ≡ Some there.0 = ap (λ z. slice_get events z) (sym e) ∙ there.1 in
      let one : count_to events (lo + 1) ≡ count_to events lo + cond (is_some there.0.event.number) 1 0 = count_one events lo there.0 at_lo in
      let plain : (is_some there.0.event.number && nat_eq (count_to events lo) i) ≡ false =
      quiet_item (count_to events lo) i there.0 (λ is. let lt : count_to events lo < count_to events hi = count_below events lo hi there.0 at_lo is (omega (arith, up)) in omega (arith, lt, below)) in
      subst (λ l. sync_item entries i (count_to events lo) ((l ++ items_in ps) ++ rest) ≡ suc (length ps) + sync_item entries i (count_to events hi) rest) (sym (ap item_of_event there.1))
      (passed i (count_to events lo) (item.Own there.0.event) (items_in ps ++ rest) plain
      ∙ ap (λ z. suc (sync_item entries i z (items_in ps ++ rest))) (sym one)
      ∙ ap (λ z. suc z) (over i k (lo + 1) ps hi rest t le below)
      ∙ (let z : suc (length ps + sync_item entries i (count_to events hi) rest) ≡ suc (length ps) + sync_item entries i (count_to events hi) rest = omega arith in z))
  over i k lo (nested m ∷ ps) hi rest (inside s mid lt at' closed f t u) le below =
      let up' : lo ≤ mid = rises F x.spans m lo s.parts mid t in
      let more : count_to events lo ≤ count_to events mid = count_rises events lo mid up' in
      let z : count_to events lo + (count_to events mid - count_to events lo) ≡ count_to events mid = omega (arith, more) in
      subst (λ l. sync_item entries i (count_to events lo) ((l ++ items_in ps) ++ rest) ≡ suc (length ps) + sync_item entries i (count_to events hi) rest) (sym (ap (item_of_span m) at'))
      (ap (λ y. suc (sync_item entries i y (items_in ps ++ rest))) (ap (λ y. count_to events lo + y) (inside_is entries events m lo mid f) ∙ z)
      ∙ ap (λ y. suc y) (over i k mid ps hi rest u le below)
      ∙ (let y : suc (length ps + sync_item entries i (count_to events hi) rest) ≡ suc (length ps) + sync_item entries i (count_to events hi) rest = omega arith in y))

  append_nil' : (l : List Item) → l ++ [] ≡ l
  append_nil' [] = refl
  append_nil' (y ∷ ys) = ap (λ z. y ∷ z) (append_nil' ys)

  items_both : (ps qs : List Part) → items_in (ps ++ qs) ≡ items_in ps ++ items_in qs
  items_both [] qs = refl
  items_both (p ∷ ps) qs = ap (λ l. item_of x p ++ l) (items_both ps qs) ∙ sym (append_assoc (item_of x p) (items_in ps) (items_in qs))

  -- the place of the synchronization
  pub sync_is : (k lo : ℕ) (ps qs : List Part) (n : ℕ) (e : TracedEvent) → Tiles F x.spans k lo ps n → slice_get events n ≡ Some e → is_some e.event.number ≡ true → sync_item entries (count_to events n) (count_to events lo) (items_in (ps ++ own n ∷ qs)) ≡ length ps
  sync_is k lo ps qs n e t there is =
      let le : n ≤ length events = (let lt : n < length events = slice_get_below events n e there in omega (arith, lt)) in
      ap (λ l. sync_item entries (count_to events n) (count_to events lo) l) (items_both ps (own n ∷ qs))
      ∙ over (count_to events n) k lo ps n (items_in (own n ∷ qs)) t le (omega arith)
      ∙ ap (λ l. length ps + sync_item entries (count_to events n) (count_to events n) (l ++ items_in qs)) (ap item_of_event there)
      ∙ ap (λ b. length ps + (if b then 0 else suc (sync_item entries (count_to events n) (count_to events n + syncs_of_item entries (item.Own e.event)) (items_in qs)))) (ap₂ (λ a b. a && b) is (eq-eqb (count_to events n) (count_to events n) refl))
      ∙ (let z : length ps + 0 ≡ length ps = omega arith in z)

  -- and the place after all items, where none is
  pub none_is : (k lo : ℕ) (ps : List Part) (n : ℕ) → Tiles F x.spans k lo ps n → n ≤ length events → sync_item entries (count_to events n) (count_to events lo) (items_in ps) ≡ length ps
  none_is k lo ps n t le =
      ap (λ l. sync_item entries (count_to events n) (count_to events lo) l) (sym (append_nil' (items_in ps)))
      ∙ over (count_to events n) k lo ps n [] t le (omega arith)
      ∙ (let z : length ps + 0 ≡ length ps = omega arith in z)
