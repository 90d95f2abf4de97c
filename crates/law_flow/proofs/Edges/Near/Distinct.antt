-- A walk back replays each interval at most once.
use Rattle.std.proofs.Common.{◌≡◌, ℕ, zero, suc, ◌+◌, ◌<◌, ◌≤◌, List, [], ◌∷◌, ◌++◌, Some, refl, ap, sym, subst, ◌∙◌, arith, length, inl, inr, ◌⊎◌}
use Rattle.std.specs.Prelude.{slice_get, take, is_some, get_or}
use Rattle.std.specs.List.{flat_map}
use Rattle.ppd_model.specs.declared.flow.Item.{Item}
use Rattle.ppd_model.specs.declared.flow.Item.TheVariants as item
use Rattle.ppd_model.specs.declared.trace.TracedEvent.{TracedEvent}
use Rattle.ppd_model.specs.Intervals.{Part, own, nested, Span, Split, item_of}
use Rattle.ppd_model.proofs.IntervalWords.{item_of_event, item_of_span}
use Rattle.ppd_model.proofs.Changes.{some}
use Rattle.ppd_model.proofs.CountedOn.{kept_at}
use Rattle.ppd_model.proofs.Tested.{In, here as first_in, there as later_in}
use Rattle.ppd_graph.specs.declared.walked.Walked.{Walked}
use Rattle.ppd_graph.specs.declared.walked.Walked.TheVariants.{Stopped, Passed, Found}
use Rattle.ppd_graph.specs.Looked.{Looked, after_replay}
use Rattle.ppd_graph.specs.Seen.{Seen, place_of, seen_of}
use Rattle.ppd_graph.specs.Walk.{back, back_from, back_over, backwards, inside as inside_of, onward as first_then, or_rest, over_event, walk, walk_out}
use Rattle.law_flow.specs.Edges.Within.{AreDistinct, IsNotIn}
use Rattle.law_flow.proofs.Edges.Spans.Tiles.{Stands, Tiles, ends, event, inside, outermost, within, rises}
use Rattle.law_flow.proofs.Edges.Back.Walks.{items_are, map_at, place_is, taken}
use Rattle.law_flow.proofs.Edges.Near.Tree.{HasTree}
use Rattle.law_flow.proofs.Edges.Sources.Members.{in_cases, in_either, no_member}
use Rattle.ppd_ast.proofs.ValidLaws.{slice_get_there}

-- ---- lists

pub not_in_list : (m : ℕ) (xs : List ℕ) → (In m xs → ⊥) → IsNotIn m xs
not_in_list m [] out = tt
not_in_list m (x ∷ xs) out = ((λ e. out (subst (λ z. In z (x ∷ xs)) e first_in)), not_in_list m xs (λ i. out (later_in i)))

pub out_of_list : (m : ℕ) (xs : List ℕ) → IsNotIn m xs → In m xs → ⊥
out_of_list m [] out i = no_member i
out_of_list m (x ∷ xs) out i = elim (in_cases m x xs i) [ inl e ↦ out.0 (sym e) | inr j ↦ out_of_list m xs out.1 j ]

pub distinct_both : (xs ys : List ℕ) → AreDistinct xs → AreDistinct ys → ((m : ℕ) → In m xs → In m ys → ⊥) → AreDistinct (xs ++ ys)
distinct_both [] ys h h' apart = h'
distinct_both (x ∷ xs) ys h h' apart = (
  not_in_list x (xs ++ ys) (λ i. elim (in_either x xs ys i) [ inl a ↦ out_of_list x xs h.0 a | inr b ↦ apart x first_in b ]),
  distinct_both xs ys h.1 h' (λ m i j. apart m (later_in i) j),
)

distinct_passed : (w : Walked) (rest : Looked ℕ Walked) → AreDistinct rest.replays → AreDistinct (or_rest w rest).replays
distinct_passed Passed rest h = h
distinct_passed Stopped rest h = tt
distinct_passed (Found k i v) rest h = tt

in_passed : (w : Walked) (rest : Looked ℕ Walked) (m : ℕ) → In m (or_rest w rest).replays → In m rest.replays
in_passed Passed rest m i = i
in_passed Stopped rest m i = absurd (no_member i)
in_passed (Found k j v) rest m i = absurd (no_member i)

-- ---- what stands inside an interval

-- interval m is part j of interval k, or stands inside that part
pub data Under (spans : List Span) (k j : ℕ) : ℕ → Type 0 where
  direct : {m : ℕ} (i : Span) → slice_get spans k ≡ Some i → slice_get i.parts j ≡ Some (nested m) → Under spans k j m
  deeper : {m : ℕ} (l a : ℕ) (i : Span) → Under spans k j l → slice_get spans l ≡ Some i → slice_get i.parts a ≡ Some (nested m) → Under spans k j m

module _ (x : Split) (h : HasTree x) where
  abbrev first_number : List ℕ → ℕ
  first_number [] = 0
  first_number (k ∷ ks) = k

  -- one interval stands in one other
  one_parent : (k l j a m : ℕ) (i s : Span) → slice_get x.spans k ≡ Some i → slice_get i.parts j ≡ Some (nested m) → slice_get x.spans l ≡ Some s → slice_get s.parts a ≡ Some (nested m) → k ≡ l
  one_parent k l j a m i s e f g f' =
      let p = h.parent k j m i e f in
      let q = h.parent l a m s g f' in
      let same : p.span ≡ q.span = some (sym p.is_there ∙ q.is_there) in
      ap first_number (sym p.round_is ∙ ap (λ (z : Span). z.round) same ∙ q.round_is)

  above : (k j m : ℕ) → Under x.spans k j m → k < m
  above k j m (direct i e f) = (h.parent k j m i e f).below
  above k j m (deeper l a i u e f) = let lt : k < l = above k j l u in let lt' : l < m = (h.parent l a m i e f).below in omega (arith, lt, lt')

  -- and at one place
  one_place : (k j j' m : ℕ) → Under x.spans k j m → Under x.spans k j' m → j ≡ j'
  one_place k j j' m (direct i e f) (direct s g f') =
      h.once k j j' m i e f (ap (λ (z : Span). slice_get z.parts j') (some (sym e ∙ g)) ∙ f')
  one_place k j j' m (direct i e f) (deeper l a s u g f') =
      let same : k ≡ l = one_parent k l j a m i s e f g f' in
      let lt : k < l = above k j' l u in
      absurd (omega (arith, same, lt))
  one_place k j j' m (deeper l a s u g f') (direct i e f) =
      let same : k ≡ l = one_parent k l j' a m i s e f g f' in
      let lt : k < l = above k j l u in
      absurd (omega (arith, same, lt))
  one_place k j j' m (deeper l a s u g f) (deeper l' a' s' u' g' f') =
      let same : l ≡ l' = one_parent l l' a a' m s s' g f g' f' in
      one_place k j j' l u (subst (λ z. Under x.spans k j' z) (sym same) u')

  through : (k j m a z : ℕ) → Under x.spans k j m → Under x.spans m a z → Under x.spans k j z
  through k j m a z u (direct i e f) = deeper m a i u e f
  through k j m a z u (deeper l b i v e f) = deeper l b i (through k j m a l u v) e f

  -- these intervals stand in interval k before place b, each once
  pub record AreUnder (k b : ℕ) (ms : List ℕ) : Type 0 where
    pub each : (z : ℕ) → In z ms → (j : ℕ) × (j < b) × Under x.spans k j z
    pub distinct : AreDistinct ms

  none_under : (k b : ℕ) → AreUnder k b []
  none_under k b = record { each = λ z i. absurd (no_member i); distinct = tt }

  passed_under : (k b : ℕ) (w : Walked) (rest : Looked ℕ Walked) → AreUnder k b rest.replays → AreUnder k (b + 1) (or_rest w rest).replays
  passed_under k b w rest u = record {
    each = λ z i. let e = u.each z (in_passed w rest z i) in let lt = e.1 in (e.0, (let l : e.0 < b + 1 = omega (arith, lt) in l), e.2);
    distinct = distinct_passed w rest u.distinct;
  }

  -- interval m and what stands inside it, each once
  pub record AreInside (m : ℕ) (ms : List ℕ) : Type 0 where
    pub each : (z : ℕ) → In z ms → (z ≡ m) ⊎ ((j : ℕ) × Under x.spans m j z)
    pub distinct : AreDistinct ms

  inside_under : (k b m : ℕ) (i : Span) → slice_get x.spans k ≡ Some i → slice_get i.parts b ≡ Some (nested m) → (z : ℕ) → (z ≡ m) ⊎ ((j : ℕ) × Under x.spans m j z) → Under x.spans k b z
  inside_under k b m i e f z (inl same) = subst (λ y. Under x.spans k b y) (sym same) (direct i e f)
  inside_under k b m i e f z (inr u) = through k b m u.0 z (direct i e f) u.1

  both_under : (k b m : ℕ) (i : Span) → slice_get x.spans k ≡ Some i → slice_get i.parts b ≡ Some (nested m) → (first before : Looked ℕ Walked) → AreInside m first.replays → AreUnder k b before.replays → AreUnder k (b + 1) (first_then first before).replays
  both_under k b m i e f first before a u = record {
    each = λ z j. elim (in_either z first.replays (or_rest first.found before).replays j) [
      | inl p ↦ (b, (let l : b < b + 1 = omega arith in l), inside_under k b m i e f z (a.each z p))
      | inr p ↦ (passed_under k b first.found before u).each z p
    ];
    distinct = distinct_both first.replays (or_rest first.found before).replays a.distinct (distinct_passed first.found before u.distinct) (λ z p q.
        let v = u.each z (in_passed first.found before z q) in
        let same : b ≡ v.0 = one_place k b v.0 z (inside_under k b m i e f z (a.each z p)) v.2 in
        let lt = v.1 in
        omega (arith, same, lt));
  }

  module _ (c : ℕ) (F : ℕ → ℕ → ℕ → Type 0) where
    abbrev events : List TracedEvent
    events = x.trace.events

    abbrev items_in : List Part → List Item
    items_in ps = flat_map (item_of x) ps

    module _ (inner : ℕ → Looked ℕ Walked) where
      -- over these parts, which stand in interval k from place a on
      over : (k a lo : ℕ) (i : Span) (ps : List Part) (hi : ℕ) (before : List (ℕ × Item)) → slice_get x.spans k ≡ Some i
          → ((m lo mid : ℕ) (s : Span) → k < m → slice_get x.spans m ≡ Some s → Tiles F x.spans m lo s.parts mid → mid ≤ length events → AreInside m (inner m).replays)
          → ((j : ℕ) (q : Part) → slice_get ps j ≡ Some q → slice_get i.parts (a + j) ≡ Some q) → Tiles F x.spans k lo ps hi → hi ≤ length events
          → AreUnder k a (back_over inner c k before).replays → AreUnder k (a + length ps) (back_over inner c k (backwards a (items_in ps) before)).replays
      over k a lo i [] hi before here right place (ends e) le u = subst (λ z. AreUnder k z (back_over inner c k before).replays) (let z : a ≡ a + 0 = omega arith in z) u
      over k a lo i (own n ∷ ps) hi before here right place (event e t) le u =
          let up : lo + 1 ≤ hi = rises F x.spans k (lo + 1) ps hi t in
          let there = slice_get_there events n (omega (arith, e, up, le)) in
          subst (λ l. AreUnder k (a + suc (length ps)) (back_over inner c k (backwards a (l ++ items_in ps) before)).replays) (sym (ap item_of_event there.1))
          (subst (λ z. AreUnder k z (back_over inner c k (backwards (a + 1) (items_in ps) ((a, item.Own there.0.event) ∷ before))).replays) (let z : a + 1 + length ps ≡ a + suc (length ps) = omega arith in z)
          (over k (a + 1) (lo + 1) i ps hi ((a, item.Own there.0.event) ∷ before) here right (λ j q f. ap (λ z. slice_get i.parts z) (let z : a + 1 + j ≡ a + suc j = omega arith in z) ∙ place (suc j) q f) t le
          (passed_under k a (over_event c k a there.0.event) (back_over inner c k before) u)))
      over k a lo i (nested m ∷ ps) hi before here right place (inside s mid lt at closed f t v) le u =
          let up' : mid ≤ hi = rises F x.spans k mid ps hi v in
          let at_a : slice_get i.parts a ≡ Some (nested m) = ap (λ z. slice_get i.parts z) (let z : a ≡ a + 0 = omega arith in z) ∙ place 0 (nested m) refl in
          subst (λ l. AreUnder k (a + suc (length ps)) (back_over inner c k (backwards a (l ++ items_in ps) before)).replays) (sym (ap (item_of_span m) at))
          (subst (λ z. AreUnder k z (back_over inner c k (backwards (a + 1) (items_in ps) ((a, item.Nested m s.block s.values (is_some s.closed)) ∷ before))).replays) (let z : a + 1 + length ps ≡ a + suc (length ps) = omega arith in z)
          (over k (a + 1) mid i ps hi ((a, item.Nested m s.block s.values (is_some s.closed)) ∷ before) here right (λ j q g. ap (λ z. slice_get i.parts z) (let z : a + 1 + j ≡ a + suc j = omega arith in z) ∙ place (suc j) q g) v le
          (both_under k a m i here at_a (inner m) (back_over inner c k before) (right m lo mid s lt at t (omega (arith, up', le))) u)))

    abbrev seen : Seen
    seen = seen_of x

    whole : (fuel m lo hi : ℕ) (i : Span) → slice_get x.spans m ≡ Some i → Tiles F x.spans m lo i.parts hi → hi ≤ length events → AreInside m (back fuel seen c m).replays
    whole zero m lo hi i at t le = record { each = λ z j. absurd (no_member j); distinct = tt }
    whole (suc fuel) m lo hi i at t le =
        let ours : AreUnder m (0 + length i.parts) (back_over (back fuel seen c) c m (backwards 0 (get_or seen.items m []) [])).replays =
        subst (λ l. AreUnder m (0 + length i.parts) (back_over (back fuel seen c) c m (backwards 0 l [])).replays) (sym (items_are x c F m i at))
        (over (back fuel seen c) m 0 lo i i.parts hi [] at (λ l low mid s lt at' u le'. whole fuel l low mid s at' u le')
        (λ j q f. ap (λ z. slice_get i.parts z) (let z : 0 + j ≡ j = omega arith in z) ∙ f) t le (none_under m 0)) in
        record {
          each = λ z q. elim (in_cases z m (back_over (back fuel seen c) c m (backwards 0 (get_or seen.items m []) [])).replays q) [
            | inl e ↦ inl e
            | inr p ↦ let u = ours.each z p in inr (u.0, u.2)
          ];
          distinct = (not_in_list m (back_over (back fuel seen c) c m (backwards 0 (get_or seen.items m []) [])).replays (λ p. let u = ours.each m p in let lt : m < m = above m u.0 m u.2 in omega (arith, lt)), ours.distinct);
        }

    here : (k first : ℕ) (ps qs : List Part) (n : ℕ) (i : Span) → slice_get x.spans k ≡ Some i → i.parts ≡ ps ++ qs → Tiles F x.spans k first ps n → n ≤ length events
        → AreUnder k (length ps) (back_over (inside_of seen c) c k (back_from (length ps) (get_or seen.items k []))).replays
    here k first ps qs n i at parts t le =
        subst (λ z. AreUnder k z (back_over (inside_of seen c) c k (back_from (length ps) (get_or seen.items k []))).replays) (let z : 0 + length ps ≡ length ps = omega arith in z)
        (subst (λ l. AreUnder k (0 + length ps) (back_over (inside_of seen c) c k (backwards 0 l [])).replays)
        (sym (ap (λ l. take (length ps) l) (items_are x c F k i at ∙ ap (λ l. items_in l) parts) ∙ taken x c F k first ps qs n t le))
        (over (inside_of seen c) k 0 first i ps n [] at (λ l low mid s lt at' u le'. whole (length seen.items) l low mid s at' u le')
        (λ j q f. ap (λ z. slice_get i.parts z) (let z : 0 + j ≡ j = omega arith in z) ∙ ap (λ l. slice_get l j) parts ∙ kept_at ps qs j q f) t le (none_under k 0)))

    -- ---- outward

    -- neither interval k nor inside it
    abbrev IsOutside : ℕ → ℕ → Type 0
    IsOutside k z = (z ≡ k → ⊥) × ((j : ℕ) → Under x.spans k j z → ⊥)

    pub record AreAround (k b : ℕ) (ms : List ℕ) : Type 0 where
      pub each : (z : ℕ) → In z ms → ((j : ℕ) × (j < b) × Under x.spans k j z) ⊎ IsOutside k z
      pub distinct : AreDistinct ms

    middle_at : {A : Type 0} (xs : List A) (y : A) (ys : List A) → slice_get (xs ++ y ∷ ys) (length xs) ≡ Some y
    middle_at [] y ys = refl
    middle_at (z ∷ xs) y ys = middle_at xs y ys

    -- what is round interval k, which is part b of interval o, and before that part, is outside k
    outward : (o k b : ℕ) (s : Span) → slice_get x.spans o ≡ Some s → slice_get s.parts b ≡ Some (nested k) → (ms : List ℕ) → AreAround o b ms → (z : ℕ) → In z (o ∷ ms) → IsOutside k z
    outward o k b s e f ms a z q = elim (in_cases z o ms q) [
      | inl same ↦ (
        (λ is. let lt : o < k = above o b k (direct s e f) in omega (arith, lt, same, is)),
        (λ j u. let lt : o < k = above o b k (direct s e f) in let lt' : k < z = above k j z u in omega (arith, lt, lt', same)),
      )
      | inr p ↦ elim (a.each z p) [
        | inl u ↦ (
          (λ is. let same : u.0 ≡ b = one_place o u.0 b k (subst (λ y. Under x.spans o u.0 y) is u.2) (direct s e f) in let lt = u.1 in omega (arith, same, lt)),
          (λ j v. let same : u.0 ≡ b = one_place o u.0 b z u.2 (through o b k j z (direct s e f) v) in let lt = u.1 in omega (arith, same, lt)),
        )
        | inr out ↦ (
          (λ is. out.1 b (subst (λ y. Under x.spans o b y) (sym is) (direct s e f))),
          (λ j v. out.1 b (through o b k j z (direct s e f) v)),
        )
      ]
    ]

    onward : (k b : ℕ) (first outer : Looked ℕ Walked) → AreUnder k b first.replays → AreDistinct outer.replays → ((z : ℕ) → In z outer.replays → IsOutside k z) → AreAround k b (first_then first outer).replays
    onward k b first outer u distinct out = record {
      each = λ z q. elim (in_either z first.replays (or_rest first.found outer).replays q) [ inl p ↦ inl (u.each z p) | inr p ↦ inr (out z (in_passed first.found outer z p)) ];
      distinct = distinct_both first.replays (or_rest first.found outer).replays u.distinct (distinct_passed first.found outer distinct) (λ z p q. let v = u.each z p in (out z (in_passed first.found outer z q)).1 v.0 v.2);
    }

    own_not_in : (o k b : ℕ) (ms : List ℕ) → AreAround o b ms → In o ms → ⊥
    own_not_in o k b ms a i = elim (a.each o i) [
      | inl u ↦ (let lt : o < o = above o u.0 o u.2 in omega (arith, lt))
      | inr out ↦ out.0 refl
    ]

    pub out : (k first : ℕ) (rest : List ℕ) (ps qs : List Part) (n : ℕ) (i : Span) → slice_get x.spans k ≡ Some i → i.parts ≡ ps ++ qs → Tiles F x.spans k first ps n → n ≤ length events → Stands F x.spans k rest first
        → AreAround k (length ps) (walk_out (inside_of seen c) seen c k (length ps) rest).replays
    out k first [] ps qs n i at parts t le (outermost e z) =
        let u = here k first ps qs n i at parts t le in
        record { each = λ y q. inl (u.each y q); distinct = u.distinct }
    out k first (o ∷ rest) ps qs n i at parts t le (within s before after low at_o r lt place apart st u) =
        let up : first ≤ n = rises F x.spans k first ps n t in
        let at_place : place_of k (get_or seen.items o []) ≡ length before =
        ap (λ l. place_of k l) (items_are x c F o s at_o ∙ ap (λ l. items_in l) place) ∙ place_is x c F o low k before after first i at apart u (omega (arith, up, le)) in
        let farther : AreAround o (length before) (walk_out (inside_of seen c) seen c o (place_of k (get_or seen.items o [])) rest).replays =
        subst (λ j. AreAround o (length before) (walk_out (inside_of seen c) seen c o j rest).replays) (sym at_place) (out o low rest before (nested k ∷ after) first s at_o place u (omega (arith, up, le)) st) in
        let part : slice_get s.parts (length before) ≡ Some (nested k) = ap (λ l. slice_get l (length before)) place ∙ middle_at before (nested k) after in
        onward k (length ps) (back_over (inside_of seen c) c k (back_from (length ps) (get_or seen.items k [])))
        (after_replay o (walk_out (inside_of seen c) seen c o (place_of k (get_or seen.items o [])) rest))
        (here k first ps qs n i at parts t le)
        (not_in_list o (walk_out (inside_of seen c) seen c o (place_of k (get_or seen.items o [])) rest).replays (own_not_in o k (length before) (walk_out (inside_of seen c) seen c o (place_of k (get_or seen.items o [])) rest).replays farther), farther.distinct)
        (outward o k (length before) s at_o part (walk_out (inside_of seen c) seen c o (place_of k (get_or seen.items o [])) rest).replays farther)

    -- a walk's replays, and the interval where it begins is none of them
    pub walk_distinct : (k first : ℕ) (ps qs : List Part) (n : ℕ) (i : Span) → slice_get x.spans k ≡ Some i → i.parts ≡ ps ++ qs → Tiles F x.spans k first ps n → n ≤ length events → Stands F x.spans k i.round first
        → AreDistinct (k ∷ (walk seen c k (length ps)).replays)
    walk_distinct k first ps qs n i at parts t le s =
        let rounds = map_at (λ (j : Span). j.round) x.spans k i [] at in
        let a : AreAround k (length ps) (walk seen c k (length ps)).replays =
        subst (λ l. AreAround k (length ps) (walk_out (inside_of seen c) seen c k (length ps) l).replays) (sym rounds) (out k first i.round ps qs n i at parts t le s) in
        (not_in_list k (walk seen c k (length ps)).replays (own_not_in k k (length ps) (walk seen c k (length ps)).replays a), a.distinct)
