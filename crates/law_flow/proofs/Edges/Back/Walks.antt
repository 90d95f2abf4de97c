-- The walk back from a place comes to the last write among the events before it, or to the last synchronization.
use Rattle.std.proofs.Common.{◌≡◌, ℕ, zero, suc, ◌+◌, ◌<◌, ◌≤◌, ℤ, Bool, true, false, cond, List, [], ◌∷◌, ◌++◌, Option, Some, None, refl, ap, sym, subst, ◌∙◌, arith, length, map, get_or, inl, inr, eq-eqb, ne_eqb}
use Rattle.std.specs.Prelude.{is_some, slice_get, take, unwrap_or, if◌then◌else◌}
use Rattle.std.specs.List.{flat_map, position_from}
use Rattle.std.proofs.lemmas.Bool.{cases_lt}
use Rattle.std.proofs.lemmas.Iterator.Adapters.{position_from-zero}
use Rattle.std.proofs.lemmas.Option.{none-some}
use Rattle.ppd_model.specs.declared.flow.Item.{Item}
use Rattle.ppd_model.specs.declared.flow.Item.TheVariants as item
use Rattle.ppd_model.specs.declared.trace.TracedEvent.{TracedEvent}
use Rattle.ppd_model.specs.FlowbackEdges.{part_at}
use Rattle.ppd_model.proofs.EdgeWords.{part_in}
use Rattle.ppd_model.specs.Intervals.{Part, own, nested, Span, Split, item_of, items_of}
use Rattle.ppd_model.proofs.IntervalWords.{item_of_event, item_of_span}
use Rattle.ppd_model.proofs.CountedOn.{kept_at}
use Rattle.ppd_graph.specs.declared.walked.Walked.{Walked}
use Rattle.ppd_graph.specs.declared.walked.Walked.TheVariants.{Stopped, Passed, Found}
use Rattle.ppd_graph.specs.Looked.{Looked, known, after_replay}
use Rattle.ppd_graph.specs.Seen.{Seen, is_item_of, place_of, seen_of}
use Rattle.ppd_graph.specs.Walk.{back, back_from, back_over, backwards, found_if, inside as inside_of, onward, or_rest, over_event, value_to, walk, walk_out}
use Rattle.law_flow.proofs.Vocabulary.Events.{AreQuiet, IsLastSync, IsLastWriter, IsQuiet, IsWalk, synchronizes, written_by}
use Rattle.law_flow.proofs.Edges.Spans.Tiles.{Stands, Tiles, ends, event, inside, outermost, within, IsNowhere, rises}
use Rattle.ppd_ast.proofs.ValidLaws.{slice_get_there, slice_get_below}
use Rattle.ppd_graph.proofs.Leads.{length_mapped}

-- ---- lists

pub map_at : {A B : Type 0} (f : A → B) (xs : List A) (k : ℕ) (x : A) (d : B) → slice_get xs k ≡ Some x → get_or (map f xs) k d ≡ f x
map_at f [] k x d e = absurd (none-some x e)
map_at f (y ∷ ys) zero x d e = ap f (let same : y ≡ x = ap (λ o. unwrap_or o y) e in same)
map_at f (y ∷ ys) (suc k) x d e = map_at f ys k x d e

module _ (x : Split) (c : ℕ) where
  abbrev events : List TracedEvent
  events = x.trace.events

  abbrev items_in : List Part → List Item
  items_in ps = flat_map (item_of x) ps

  -- ---- ways put together

  pub none_quiet : (n : ℕ) → AreQuiet events c n n
  none_quiet n m ge lt = absurd (omega (arith, ge, lt))

  quiet_both : (lo mid hi : ℕ) → AreQuiet events c lo mid → AreQuiet events c mid hi → AreQuiet events c lo hi
  quiet_both lo mid hi f g n ge lt = elim (cases_lt n mid) [ inl less ↦ f n ge less | inr more ↦ g n more lt ]

  -- past quiet events to what a walk found before them
  quiet_after : (lo mid hi : ℕ) (w : Walked) → mid ≤ hi → IsWalk x c lo mid w → AreQuiet events c mid hi → IsWalk x c lo hi w
  quiet_after lo mid hi Passed le h h' = quiet_both lo mid hi h h'
  quiet_after lo mid hi Stopped le h h' =
      let s : IsLastSync events c lo mid h.0 = h.1 in
      let to : h.0 < mid = s.to in
      (h.0, record { from = s.from; to = omega (arith, to, le); is_sync = s.is_sync; since = quiet_both (h.0 + 1) mid hi s.since h' })
  quiet_after lo mid hi (Found k i v) le h h' =
      let s : IsLastWriter events c lo mid h.0 v = h.2 in
      let to : h.0 < mid = s.to in
      (h.0, h.1, record { from = s.from; to = omega (arith, to, le); plain = s.plain; writes = s.writes; since = quiet_both (h.0 + 1) mid hi s.since h' })

  both : (lo mid hi : ℕ) (rest : Looked ℕ Walked) (w : Walked) → lo ≤ mid → mid ≤ hi → IsWalk x c lo mid rest.found → IsWalk x c mid hi w → IsWalk x c lo hi (or_rest w rest).found
  both lo mid hi rest Stopped le le' h h' =
      let s : IsLastSync events c mid hi h'.0 = h'.1 in
      let from : mid ≤ h'.0 = s.from in
      (h'.0, record { from = omega (arith, from, le); to = s.to; is_sync = s.is_sync; since = s.since })
  both lo mid hi rest (Found k i v) le le' h h' =
      let s : IsLastWriter events c mid hi h'.0 v = h'.2 in
      let from : mid ≤ h'.0 = s.from in
      (h'.0, h'.1, record { from = omega (arith, from, le); to = s.to; plain = s.plain; writes = s.writes; since = s.since })
  both lo mid hi rest Passed le le' h h' = quiet_after lo mid hi rest.found le' h h'

  -- one event more
  one_more : (lo n k i : ℕ) (e : TracedEvent) (rest : Looked ℕ Walked) → lo ≤ n → slice_get events n ≡ Some e → part_at x k i ≡ Some (own n) → IsWalk x c lo n rest.found → IsWalk x c lo (n + 1) (or_rest (over_event c k i e.event) rest).found
  one_more lo n k i e rest le at place h = by (is_some e.event.number) refl (value_to c e.event.writes) refl
    where
      by : (b : Bool) → is_some e.event.number ≡ b → (o : Option ℤ) → value_to c e.event.writes ≡ o → IsWalk x c lo (n + 1) (or_rest (if b then Stopped else found_if k i o) rest).found
      by true is o wrote = (n, record { from = le; to = omega arith; is_sync = ap synchronizes at ∙ is; since = none_quiet (n + 1) })
      by false is (Some v) wrote =
          (n, place, record { from = le; to = omega arith; plain = ap synchronizes at ∙ is; writes = ap (written_by c) at ∙ wrote; since = none_quiet (n + 1) })
      by false is None wrote = both lo n (n + 1) rest Passed le (omega arith) h quiet
        where
          quiet : AreQuiet events c n (n + 1)
          quiet m ge lt =
              let same : m ≡ n = omega (arith, ge, lt) in
              subst (λ l. IsQuiet events c l) (sym same) (record { plain = ap synchronizes at ∙ is; unwritten = ap (written_by c) at ∙ wrote })

  module _ (F : ℕ → ℕ → ℕ → Type 0) (inner : ℕ → Looked ℕ Walked) where
    abbrev IsRight : ℕ → Type 0
    IsRight k = (m lo mid : ℕ) (i : Span) → k < m → slice_get x.spans m ≡ Some i → Tiles F x.spans m lo i.parts mid → mid ≤ length events → IsWalk x c lo mid (inner m).found

    -- over these parts, which stand in interval k from place a on
    over : (k from a lo : ℕ) (ps : List Part) (hi : ℕ) (before : List (ℕ × Item)) → IsRight k → ((j : ℕ) (q : Part) → slice_get ps j ≡ Some q → part_at x k (a + j) ≡ Some q) → Tiles F x.spans k lo ps hi → hi ≤ length events
        → from ≤ lo → IsWalk x c from lo (back_over inner c k before).found → IsWalk x c from hi (back_over inner c k (backwards a (items_in ps) before)).found
    over k from a lo [] hi before right place (ends e) le fl h = subst (λ n. IsWalk x c from n (back_over inner c k before).found) e h
    over k from a lo (own n ∷ ps) hi before right place (event e t) le fl h =
        let up : lo + 1 ≤ hi = rises F x.spans k (lo + 1) ps hi t in
        let there = slice_get_there events n (omega (arith, e, up, le)) in
        let here : part_at x k a ≡ Some (own n) = ap (λ z. part_at x k z) (let z : a ≡ a + 0 = omega arith in z) ∙ place 0 (own n) refl in
        let one : IsWalk x c from (lo + 1) (onward (known (over_event c k a there.0.event)) (back_over inner c k before)).found =
        subst (λ z. IsWalk x c from (z + 1) (or_rest (over_event c k a there.0.event) (back_over inner c k before)).found) e
        (one_more from n k a there.0 (back_over inner c k before) (omega (arith, e, fl)) there.1 here (subst (λ z. IsWalk x c from z (back_over inner c k before).found) (sym e) h)) in
        subst (λ l. IsWalk x c from hi (back_over inner c k (backwards a (l ++ items_in ps) before)).found) (sym (ap item_of_event there.1))
        (over k from (a + 1) (lo + 1) ps hi ((a, item.Own there.0.event) ∷ before) right (λ j q f. ap (λ z. part_at x k z) (let z : a + 1 + j ≡ a + suc j = omega arith in z) ∙ place (suc j) q f) t le (omega (arith, fl)) one)
    over k from a lo (nested m ∷ ps) hi before right place (inside i mid lt at closed f t u) le fl h =
        let up : lo ≤ mid = rises F x.spans m lo i.parts mid t in
        let up' : mid ≤ hi = rises F x.spans k mid ps hi u in
        let one : IsWalk x c from mid (onward (inner m) (back_over inner c k before)).found =
        both from lo mid (back_over inner c k before) (inner m).found fl up h (right m lo mid i lt at t (omega (arith, up', le))) in
        subst (λ l. IsWalk x c from hi (back_over inner c k (backwards a (l ++ items_in ps) before)).found) (sym (ap (item_of_span m) at))
        (over k from (a + 1) mid ps hi ((a, item.Nested m i.block i.values (is_some i.closed)) ∷ before) right (λ j q g. ap (λ z. part_at x k z) (let z : a + 1 + j ≡ a + suc j = omega arith in z) ∙ place (suc j) q g) u le (omega (arith, fl, up)) one)

  -- ---- intervals and the intervals inside them

  module _ (F : ℕ → ℕ → ℕ → Type 0) where
    abbrev seen : Seen
    seen = seen_of x

    pub items_are : (k : ℕ) (i : Span) → slice_get x.spans k ≡ Some i → get_or seen.items k [] ≡ items_in i.parts
    items_are k i at = map_at (items_of x) x.spans k i [] at

    pub whole : (fuel m lo hi : ℕ) (i : Span) → slice_get x.spans m ≡ Some i → length x.spans ≤ fuel + m → Tiles F x.spans m lo i.parts hi → hi ≤ length events → IsWalk x c lo hi (back fuel seen c m).found
    whole zero m lo hi i at enough t le = let below : m < length x.spans = slice_get_below x.spans m i at in absurd (omega (arith, below, enough))
    whole (suc fuel) m lo hi i at enough t le =
        subst (λ l. IsWalk x c lo hi (back_over (back fuel seen c) c m (backwards 0 l [])).found) (sym (items_are m i at))
        (over F (back fuel seen c) m lo 0 lo i.parts hi [] (λ k low mid j lt there u le'. whole fuel k low mid j there (omega (arith, lt, enough)) u le')
        (λ j q f. ap (λ z. part_at x m z) (let z : 0 + j ≡ j = omega arith in z) ∙ ap (λ o. part_in o j) at ∙ f) t le (omega arith) (none_quiet lo))

    -- ---- outward

    pub taken : (k lo : ℕ) (ps qs : List Part) (hi : ℕ) → Tiles F x.spans k lo ps hi → hi ≤ length events → take (length ps) (items_in (ps ++ qs)) ≡ items_in ps
    taken k lo [] qs hi (ends e) le = refl
    taken k lo (own n ∷ ps) qs hi (event e t) le =
        let up : lo + 1 ≤ hi = rises F x.spans k (lo + 1) ps hi t in
        let there = slice_get_there events n (omega (arith, e, up, le)) in
        subst (λ l. take (suc (length ps)) (l ++ items_in (ps ++ qs)) ≡ l ++ items_in ps) (sym (ap item_of_event there.1))
        (ap (λ l. item.Own there.0.event ∷ l) (taken k (lo + 1) ps qs hi t le))
    taken k lo (nested m ∷ ps) qs hi (inside i mid lt at closed f t u) le =
        subst (λ l. take (suc (length ps)) (l ++ items_in (ps ++ qs)) ≡ l ++ items_in ps) (sym (ap (item_of_span m) at))
        (ap (λ l. item.Nested m i.block i.values (is_some i.closed) ∷ l) (taken k mid ps qs hi u le))

    -- the place of an interval among the parts
    found_at : (k lo m a : ℕ) (ps qs : List Part) (hi : ℕ) (i : Span) → slice_get x.spans m ≡ Some i → IsNowhere m ps → Tiles F x.spans k lo ps hi → hi ≤ length events
        → position_from (is_item_of m) a (items_in (ps ++ nested m ∷ qs)) ≡ Some (a + length ps)
    found_at k lo m a [] qs hi i at apart (ends e) le =
        subst (λ l. position_from (is_item_of m) a (l ++ items_in qs) ≡ Some (a + 0)) (sym (ap (item_of_span m) at))
        (ap (λ b. cond b (Some a) (position_from (is_item_of m) (a + 1) (items_in qs))) (eq-eqb m m refl) ∙ ap (λ z. Some z) (let z : a ≡ a + 0 = omega arith in z))
    found_at k lo m a (own n ∷ ps) qs hi i at apart (event e t) le =
        let up : lo + 1 ≤ hi = rises F x.spans k (lo + 1) ps hi t in
        let there = slice_get_there events n (omega (arith, e, up, le)) in
        subst (λ l. position_from (is_item_of m) a (l ++ items_in (ps ++ nested m ∷ qs)) ≡ Some (a + suc (length ps))) (sym (ap item_of_event there.1))
        (found_at k (lo + 1) m (a + 1) ps qs hi i at apart t le ∙ ap (λ z. Some z) (let z : a + 1 + length ps ≡ a + suc (length ps) = omega arith in z))
    found_at k lo m a (nested n ∷ ps) qs hi i at apart (inside j mid lt there closed f t u) le =
        subst (λ l. position_from (is_item_of m) a (l ++ items_in (ps ++ nested m ∷ qs)) ≡ Some (a + suc (length ps))) (sym (ap (item_of_span n) there))
        (ap (λ b. cond b (Some a) (position_from (is_item_of m) (a + 1) (items_in (ps ++ nested m ∷ qs)))) (ne_eqb m n (λ e. apart.0 (sym e)))
        ∙ found_at k mid m (a + 1) ps qs hi i at apart.1 u le ∙ ap (λ z. Some z) (let z : a + 1 + length ps ≡ a + suc (length ps) = omega arith in z))

    pub place_is : (k lo m : ℕ) (ps qs : List Part) (hi : ℕ) (i : Span) → slice_get x.spans m ≡ Some i → IsNowhere m ps → Tiles F x.spans k lo ps hi → hi ≤ length events → place_of m (items_in (ps ++ nested m ∷ qs)) ≡ length ps
    place_is k lo m ps qs hi i at apart t le =
        ap (λ o. unwrap_or o 0) (position_from-zero (is_item_of m) (items_in (ps ++ nested m ∷ qs)) ∙ found_at k lo m 0 ps qs hi i at apart t le)
        ∙ (let z : 0 + length ps ≡ length ps = omega arith in z)

    pub right_inside : (k : ℕ) → IsRight F (inside_of seen c) k
    right_inside k m lo mid i lt at t le =
        let long : length seen.items ≡ length x.spans = length_mapped (items_of x) x.spans in
        whole (length seen.items) m lo mid i at (omega (arith, long)) t le

    -- from after these parts of interval k
    pub here : (k first : ℕ) (ps qs : List Part) (n : ℕ) (i : Span) → slice_get x.spans k ≡ Some i → i.parts ≡ ps ++ qs → Tiles F x.spans k first ps n → n ≤ length events
        → IsWalk x c first n (back_over (inside_of seen c) c k (back_from (length ps) (get_or seen.items k []))).found
    here k first ps qs n i at parts t le =
        subst (λ l. IsWalk x c first n (back_over (inside_of seen c) c k (backwards 0 l [])).found)
        (sym (ap (λ l. take (length ps) l) (items_are k i at ∙ ap (λ l. items_in l) parts) ∙ taken k first ps qs n t le))
        (over F (inside_of seen c) k first 0 first ps n [] (right_inside k)
        (λ j q f. ap (λ z. part_at x k z) (let z : 0 + j ≡ j = omega arith in z) ∙ ap (λ o. part_in o j) at ∙ ap (λ l. slice_get l j) parts ∙ kept_at ps qs j q f) t le (omega arith) (none_quiet first))

    pub out : (k first : ℕ) (rest : List ℕ) (ps qs : List Part) (n : ℕ) (i : Span) → slice_get x.spans k ≡ Some i → i.parts ≡ ps ++ qs → Tiles F x.spans k first ps n → n ≤ length events → Stands F x.spans k rest first
        → IsWalk x c 0 n (walk_out (inside_of seen c) seen c k (length ps) rest).found
    out k first [] ps qs n i at parts t le (outermost e z) =
        subst (λ l. IsWalk x c l n (back_over (inside_of seen c) c k (back_from (length ps) (get_or seen.items k []))).found) z (here k first ps qs n i at parts t le)
    out k first (m ∷ rest) ps qs n i at parts t le (within o before after low there r lt place apart s u) =
        let up : first ≤ n = rises F x.spans k first ps n t in
        let outer : IsWalk x c 0 first (walk_out (inside_of seen c) seen c m (length before) rest).found = out m low rest before (nested k ∷ after) first o there place u (omega (arith, up, le)) s in
        let at_place : place_of k (get_or seen.items m []) ≡ length before =
        ap (λ l. place_of k l) (items_are m o there ∙ ap (λ l. items_in l) place) ∙ place_is m low k before after first i at apart u (omega (arith, up, le)) in
        both 0 first n (after_replay m (walk_out (inside_of seen c) seen c m (place_of k (get_or seen.items m [])) rest)) (back_over (inside_of seen c) c k (back_from (length ps) (get_or seen.items k []))).found (omega arith) up
        (subst (λ j. IsWalk x c 0 first (walk_out (inside_of seen c) seen c m j rest).found) (sym at_place) outer) (here k first ps qs n i at parts t le)

    -- the walk from after these parts
    pub walk_is : (k first : ℕ) (ps qs : List Part) (n : ℕ) (i : Span) → slice_get x.spans k ≡ Some i → i.parts ≡ ps ++ qs → Tiles F x.spans k first ps n → n ≤ length events → Stands F x.spans k i.round first
        → IsWalk x c 0 n (walk seen c k (length ps)).found
    walk_is k first ps qs n i at parts t le s =
        subst (λ l. IsWalk x c 0 n (walk_out (inside_of seen c) seen c k (length ps) l).found) (sym (map_at (λ (j : Span). j.round) x.spans k i [] at))
        (out k first i.round ps qs n i at parts t le s)
