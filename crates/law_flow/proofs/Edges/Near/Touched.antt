-- The intervals that a walk back replays: each was left after the last synchronization, or is round the place.
use Rattle.std.proofs.Common.{◌≡◌, ℕ, zero, suc, ◌+◌, ◌<◌, ◌≤◌, ℤ, Bool, true, false, List, [], ◌∷◌, ◌++◌, Option, Some, None, refl, ap, sym, subst, ◌∙◌, arith, length, inl, inr, ◌⊎◌}
use Rattle.std.specs.Prelude.{is_some, slice_get, take, if◌then◌else◌, get_or}
use Rattle.std.specs.List.{flat_map}
use Rattle.std.proofs.lemmas.Bool.{cases_lt}
use Rattle.ppd_model.specs.declared.flow.Item.{Item}
use Rattle.ppd_model.specs.declared.flow.Item.TheVariants as item
use Rattle.ppd_model.specs.declared.trace.TracedEvent.{TracedEvent}
use Rattle.ppd_model.specs.Intervals.{Part, own, nested, Span, Split, item_of}
use Rattle.ppd_model.proofs.IntervalWords.{item_of_event, item_of_span}
use Rattle.ppd_model.proofs.Tested.{In, here as first_in, there as later_in}
use Rattle.ppd_graph.specs.declared.walked.Walked.{Walked}
use Rattle.ppd_graph.specs.declared.walked.Walked.TheVariants.{Stopped, Passed, Found}
use Rattle.ppd_graph.specs.Looked.{Looked, known, after_replay}
use Rattle.ppd_graph.specs.Seen.{Seen, place_of, seen_of}
use Rattle.ppd_graph.specs.Walk.{back, back_from, back_over, backwards, found_if, inside as inside_of, onward, or_rest, over_event, value_to, walk, walk_out}
use Rattle.law_flow.proofs.Vocabulary.Events.{IsWalk, synchronizes}
use Rattle.law_flow.proofs.Edges.Spans.Tiles.{Stands, Tiles, ends, event, inside, outermost, within, rises}
use Rattle.law_flow.proofs.Edges.Back.Walks.{here, items_are, map_at, place_is, right_inside, taken, whole}
use Rattle.law_flow.proofs.Edges.Sources.Members.{in_cases, in_either, no_member}
use Rattle.ppd_ast.proofs.ValidLaws.{slice_get_there}
use Rattle.ppd_graph.proofs.Leads.{length_mapped}

-- none of the events from number lo up to number hi is a synchronization
abbrev pub ArePlain : List TracedEvent → ℕ → ℕ → Type 0
ArePlain events lo hi = (n : ℕ) → lo ≤ n → n < hi → synchronizes (slice_get events n) ≡ false

-- interval m was left before event n, and between them is no synchronization
pub record IsTouched (x : Split) (F : ℕ → ℕ → ℕ → Type 0) (n m : ℕ) : Type 0 where
  pub span : Span
  pub is_there : slice_get x.spans m ≡ Some span
  pub closed : is_some span.closed ≡ true
  pub lo : ℕ
  pub mid : ℕ
  pub before : mid ≤ n
  pub logged : F m lo mid
  pub since : ArePlain x.trace.events mid n

-- each of these is
abbrev pub AreTouched : (x : Split) (F : ℕ → ℕ → ℕ → Type 0) → ℕ → List ℕ → Type 0
AreTouched x F n ms = (m : ℕ) → In m ms → IsTouched x F n m

module _ (x : Split) (c : ℕ) (F : ℕ → ℕ → ℕ → Type 0) where
  abbrev events : List TracedEvent
  events = x.trace.events

  abbrev items_in : List Part → List Item
  items_in ps = flat_map (item_of x) ps

  longer : (n n' m : ℕ) → n ≤ n' → ArePlain events n n' → IsTouched x F n m → IsTouched x F n' m
  longer n n' m le plain t = let before = t.before in record {
    span = t.span;
    is_there = t.is_there;
    closed = t.closed;
    lo = t.lo;
    mid = t.mid;
    before = omega (arith, before, le);
    logged = t.logged;
    since = λ k ge lt. elim (cases_lt k n) [ inl less ↦ t.since k ge less | inr more ↦ plain k more lt ];
  }

  nothing : (n : ℕ) → AreTouched x F n []
  nothing n m i = absurd (no_member i)

  -- past an event
  past_event : (k i lo : ℕ) (e : TracedEvent) (rest : Looked ℕ Walked) → slice_get events lo ≡ Some e → AreTouched x F lo rest.replays → AreTouched x F (lo + 1) (onward (known (over_event c k i e.event)) rest).replays
  past_event k i lo e rest at h = by (is_some e.event.number) refl (value_to c e.event.writes)
    where
      by : (b : Bool) → is_some e.event.number ≡ b → (o : Option ℤ) → AreTouched x F (lo + 1) (or_rest (if b then Stopped else found_if k i o) rest).replays
      by true is o = nothing (lo + 1)
      by false is (Some v) = nothing (lo + 1)
      by false is None = λ m j. longer lo (lo + 1) m (omega arith) (λ n ge lt. let same : n ≡ lo = omega (arith, ge, lt) in ap (λ z. synchronizes (slice_get events z)) same ∙ ap synchronizes at ∙ is) (h m j)

  -- past these events
  past_walk : (lo mid : ℕ) (w : Walked) (rest : Looked ℕ Walked) → lo ≤ mid → IsWalk x c lo mid w → AreTouched x F lo rest.replays → AreTouched x F mid (or_rest w rest).replays
  past_walk lo mid Passed rest le q h = λ m j. longer lo mid m le (λ n ge lt. (q n ge lt).plain) (h m j)
  past_walk lo mid Stopped rest le q h = nothing mid
  past_walk lo mid (Found k i v) rest le q h = nothing mid

  both : (n : ℕ) (ms ms' : List ℕ) → AreTouched x F n ms → AreTouched x F n ms' → AreTouched x F n (ms ++ ms')
  both n ms ms' h h' m i = elim (in_either m ms ms' i) [ inl a ↦ h m a | inr b ↦ h' m b ]

  module _ (inner : ℕ → Looked ℕ Walked) where
    abbrev AreInside : ℕ → Type 0
    AreInside k = (m lo mid : ℕ) (i : Span) → k < m → slice_get x.spans m ≡ Some i → is_some i.closed ≡ true → F m lo mid → Tiles F x.spans m lo i.parts mid → mid ≤ length events
        → IsWalk x c lo mid (inner m).found × AreTouched x F mid (inner m).replays

    -- over these parts of interval k
    over : (k a lo : ℕ) (ps : List Part) (hi : ℕ) (before : List (ℕ × Item)) → AreInside k → Tiles F x.spans k lo ps hi → hi ≤ length events
        → AreTouched x F lo (back_over inner c k before).replays → AreTouched x F hi (back_over inner c k (backwards a (items_in ps) before)).replays
    over k a lo [] hi before right (ends e) le h = subst (λ n. AreTouched x F n (back_over inner c k before).replays) e h
    over k a lo (own n ∷ ps) hi before right (event e t) le h =
        let up : lo + 1 ≤ hi = rises F x.spans k (lo + 1) ps hi t in
        let there = slice_get_there events n (omega (arith, e, up, le)) in
        let at_lo : slice_get events lo ≡ Some there.0 = ap (λ z. slice_get events z) (sym e) ∙ there.1 in
        subst (λ l. AreTouched x F hi (back_over inner c k (backwards a (l ++ items_in ps) before)).replays) (sym (ap item_of_event there.1))
        (over k (a + 1) (lo + 1) ps hi ((a, item.Own there.0.event) ∷ before) right t le (past_event k a lo there.0 (back_over inner c k before) at_lo h))
    over k a lo (nested m ∷ ps) hi before right (inside i mid lt at closed f t u) le h =
        let up : lo ≤ mid = rises F x.spans m lo i.parts mid t in
        let up' : mid ≤ hi = rises F x.spans k mid ps hi u in
        let r = right m lo mid i lt at closed f t (omega (arith, up', le)) in
        subst (λ l. AreTouched x F hi (back_over inner c k (backwards a (l ++ items_in ps) before)).replays) (sym (ap (item_of_span m) at))
        (over k (a + 1) mid ps hi ((a, item.Nested m i.block i.values (is_some i.closed)) ∷ before) right u le
        (both mid (inner m).replays (or_rest (inner m).found (back_over inner c k before)).replays r.1 (past_walk lo mid (inner m).found (back_over inner c k before) up r.0 h)))

  abbrev seen : Seen
  seen = seen_of x

  all_whole : (fuel m lo hi : ℕ) (i : Span) → slice_get x.spans m ≡ Some i → is_some i.closed ≡ true → F m lo hi → length x.spans ≤ fuel + m → Tiles F x.spans m lo i.parts hi → hi ≤ length events
      → AreTouched x F hi (back fuel seen c m).replays
  all_whole zero m lo hi i at closed f enough t le = nothing hi
  all_whole (suc fuel) m lo hi i at closed f enough t le =
      let others : AreTouched x F hi (back_over (back fuel seen c) c m (backwards 0 (items_in i.parts) [])).replays =
      over (back fuel seen c) m 0 lo i.parts hi []
      (λ k low mid j lt at' closed' f' u le'. (whole x c F fuel k low mid j at' (omega (arith, lt, enough)) u le', all_whole fuel k low mid j at' closed' f' (omega (arith, lt, enough)) u le'))
      t le (nothing lo) in
      let others' : AreTouched x F hi (back_over (back fuel seen c) c m (backwards 0 (get_or seen.items m []) [])).replays =
      subst (λ l. AreTouched x F hi (back_over (back fuel seen c) c m (backwards 0 l [])).replays) (sym (items_are x c F m i at)) others in
      λ z q. elim (in_cases z m (back_over (back fuel seen c) c m (backwards 0 (get_or seen.items m []) [])).replays q) [
        | inl e ↦ subst (λ y. IsTouched x F hi y) (sym e) (record { span = i; is_there = at; closed = closed; lo = lo; mid = hi; before = omega arith; logged = f; since = λ n ge lt. absurd (omega (arith, ge, lt)) })
        | inr p ↦ others' z p
      ]

  all_inside : (k : ℕ) → AreInside (inside_of seen c) k
  all_inside k m lo mid i lt at closed f t le =
      let long : length seen.items ≡ length x.spans = length_mapped _ x.spans in
      (right_inside x c F k m lo mid i lt at t le, all_whole (length seen.items) m lo mid i at closed f (omega (arith, long)) t le)

  all_here : (k first : ℕ) (ps qs : List Part) (n : ℕ) (i : Span) → slice_get x.spans k ≡ Some i → i.parts ≡ ps ++ qs → Tiles F x.spans k first ps n → n ≤ length events
      → AreTouched x F n (back_over (inside_of seen c) c k (back_from (length ps) (get_or seen.items k []))).replays
  all_here k first ps qs n i at parts t le =
      subst (λ l. AreTouched x F n (back_over (inside_of seen c) c k (backwards 0 l [])).replays)
      (sym (ap (λ l. take (length ps) l) (items_are x c F k i at ∙ ap (λ l. items_in l) parts) ∙ taken x c F k first ps qs n t le))
      (over (inside_of seen c) k 0 first ps n [] (all_inside k) t le (nothing first))

  -- each is such an interval, or one of those round the place
  pub all_out : (k first : ℕ) (rest : List ℕ) (ps qs : List Part) (n : ℕ) (i : Span) → slice_get x.spans k ≡ Some i → i.parts ≡ ps ++ qs → Tiles F x.spans k first ps n → n ≤ length events → Stands F x.spans k rest first
      → (m : ℕ) → In m (walk_out (inside_of seen c) seen c k (length ps) rest).replays → IsTouched x F n m ⊎ In m rest
  all_out k first [] ps qs n i at parts t le (outermost e z) m q = inl (all_here k first ps qs n i at parts t le m q)
  all_out k first (o ∷ rest) ps qs n i at parts t le (within s before after low at_o r lt place apart st u) m q =
      elim (in_either m (back_over (inside_of seen c) c k (back_from (length ps) (get_or seen.items k []))).replays (or_rest (back_over (inside_of seen c) c k (back_from (length ps) (get_or seen.items k []))).found outer).replays q) [
        | inl p ↦ inl (all_here k first ps qs n i at parts t le m p)
        | inr p ↦ by (λ p'. all_out o low rest before (nested k ∷ after) first s at_o place u (let a = up in omega (arith, a, le)) st m (subst (λ j. In m (walk_out (inside_of seen c) seen c o j rest).replays) at_place p'))
            (back_over (inside_of seen c) c k (back_from (length ps) (get_or seen.items k []))).found (here x c F k first ps qs n i at parts t le) p
      ]
    where
      up : first ≤ n
      up = rises F x.spans k first ps n t

      outer : Looked ℕ Walked
      outer = after_replay o (walk_out (inside_of seen c) seen c o (place_of k (get_or seen.items o [])) rest)

      at_place : place_of k (get_or seen.items o []) ≡ length before
      at_place = ap (λ l. place_of k l) (items_are x c F o s at_o ∙ ap (λ l. items_in l) place) ∙ place_is x c F o low k before after first i at apart u (let a = up in omega (arith, a, le))

      by : (In m (walk_out (inside_of seen c) seen c o (place_of k (get_or seen.items o [])) rest).replays → IsTouched x F first m ⊎ In m rest) → (w : Walked) → IsWalk x c first n w → In m (or_rest w outer).replays → IsTouched x F n m ⊎ In m (o ∷ rest)
      by farther Stopped h p = absurd (no_member p)
      by farther (Found a b v) h p = absurd (no_member p)
      by farther Passed h p = elim (in_cases m o (walk_out (inside_of seen c) seen c o (place_of k (get_or seen.items o [])) rest).replays p) [
        | inl e ↦ inr (subst (λ z. In z (o ∷ rest)) (sym e) first_in)
        | inr p' ↦ elim (farther p') [
          | inl a ↦ inl (longer first n m up (λ z ge lt'. (h z ge lt').plain) a)
          | inr b ↦ inr (later_in b)
        ]
      ]

  -- so it is with a walk from after these parts
  pub all_walked : (k first : ℕ) (ps qs : List Part) (n : ℕ) (i : Span) → slice_get x.spans k ≡ Some i → i.parts ≡ ps ++ qs → Tiles F x.spans k first ps n → n ≤ length events → Stands F x.spans k i.round first
      → (m : ℕ) → In m (walk seen c k (length ps)).replays → IsTouched x F n m ⊎ In m i.round
  all_walked k first ps qs n i at parts t le s m q =
      all_out k first i.round ps qs n i at parts t le s m
      (subst (λ l. In m (walk_out (inside_of seen c) seen c k (length ps) l).replays) (map_at (λ (j : Span). j.round) x.spans k i [] at) q)
