-- A walk back over an internal edge that finds no write goes past no event that writes the cell.
use Rattle.std.proofs.Common.{◌≡◌, ℕ, zero, suc, ◌+◌, ℤ, Bool, true, false, ◌||◌, List, [], ◌∷◌, ◌++◌, Option, Some, None, refl, ap, ap₂, sym, subst, ◌∙◌, if◌then◌else◌, length, take, true≢false}
use Rattle.std.specs.Prelude.{fold, is_some, ⊤, get_or}
use Rattle.std.specs.List.{list_any}
use Rattle.std.proofs.lemmas.List.{append-nil, append_assoc}
use Rattle.std.proofs.lemmas.List.Folds.{list_any-append}
use Rattle.std.proofs.lemmas.List.Sums.{fold-append}
use Rattle.ppd_sem.specs.declared.event.Access.{Access}
use Rattle.ppd_sem.specs.declared.event.Event.{Event}
use Rattle.ppd_model.specs.declared.flow.Item.{Item}
use Rattle.ppd_model.specs.declared.flow.Item.TheVariants as item
use Rattle.ppd_graph.specs.declared.walked.Walked.{Walked}
use Rattle.ppd_graph.specs.declared.walked.Walked.TheVariants.{Stopped, Passed, Found}
use Rattle.ppd_graph.specs.Looked.{Looked, after_replay}
use Rattle.ppd_graph.specs.Seen.{Seen, place_of}
use Rattle.ppd_graph.specs.Walk.{back, back_from, back_over, backwards, found_if, inside, is_shared, or_rest, over_event, value_to, walk, walk_out}
use Rattle.law_flow.specs.Missing.{events_among, events_in, events_to}

or_none : (a b : Bool) → (a || b) ≡ false → (a ≡ false) × (b ≡ false)
or_none true b e = absurd (true≢false e)
or_none false b e = (refl, e)

or_one : (a b : Bool) → b ≡ true → (a || b) ≡ true
or_one true b e = refl
or_one false b e = e

-- all events of the process before place j of interval k
abbrev pub events_before : Seen → ℕ → ℕ → List Event
events_before x k j = events_to x k j (get_or x.rounds k [])

-- an event more after the last synchronization, or a synchronization itself
abbrev pub after_event : List Event → Event → List Event
after_event es e = if is_some e.number then [] else es ++ e ∷ []

-- those of these events that come after the last synchronization
abbrev pub since_sync : List Event → List Event
since_sync es = fold after_event [] es

-- ---- synchronizations among events

abbrev is_sync : Event → Bool
is_sync e = is_some e.number

abbrev any_sync : List Event → Bool
any_sync es = list_any is_sync es

-- without one the events are added
no_sync : (acc es : List Event) → any_sync es ≡ false → fold after_event acc es ≡ acc ++ es
no_sync acc [] h = sym (append-nil acc)
no_sync acc (e ∷ es) h =
    let both = or_none (is_sync e) (any_sync es) h in
    ap (λ b. fold after_event (if b then [] else acc ++ e ∷ []) es) both.0
    ∙ no_sync (acc ++ e ∷ []) es both.1
    ∙ append_assoc acc (e ∷ []) es

-- with one those before are dropped
a_sync : (acc es : List Event) → any_sync es ≡ true → fold after_event acc es ≡ since_sync es
a_sync acc [] h = absurd (true≢false (sym h))
a_sync acc (e ∷ es) h = by (is_sync e) (λ g. a_sync (acc ++ e ∷ []) es g ∙ sym (a_sync (e ∷ []) es g)) h
  where
    by : (b : Bool)
        → (any_sync es ≡ true → fold after_event (acc ++ e ∷ []) es ≡ fold after_event (e ∷ []) es)
        → (b || any_sync es) ≡ true
        → fold after_event (if b then [] else acc ++ e ∷ []) es ≡ fold after_event (if b then [] else e ∷ []) es
    by true same g = refl
    by false same g = same g

-- ---- a walk over events

module _ (c : ℕ) where
  abbrev pub any_write : List Event → Bool
  any_write es = list_any (λ (e : Event). list_any (λ (a : Access). is_shared c a.spot) e.writes) es

  -- what a walk back over these events comes to, if it finds no write
  abbrev pub Tells : List Event → Walked → Type 0
  Tells es Stopped = (any_sync es ≡ true) × (any_write (since_sync es) ≡ false)
  Tells es Passed = (any_sync es ≡ false) × (any_write es ≡ false)
  Tells es (Found k i v) = ⊤

  unwritten : (ws : List Access) → value_to c ws ≡ None → list_any (λ a. is_shared c a.spot) ws ≡ false
  unwritten [] h = refl
  unwritten (a ∷ ws) h = by (is_shared c a.spot) (unwritten ws) h
    where
      by : (b : Bool) → (value_to c ws ≡ None → list_any (λ a. is_shared c a.spot) ws ≡ false)
          → (if b then Some a.value else value_to c ws) ≡ None
          → (b || list_any (λ a. is_shared c a.spot) ws) ≡ false
      by true rest g = absurd (cc g)
      by false rest g = rest g

  -- neither is in both lists where it is in neither
  neither : (f : Event → Bool) (es fs : List Event) → list_any f es ≡ false → list_any f fs ≡ false
      → list_any f (es ++ fs) ≡ false
  neither f es fs h g = list_any-append f es fs ∙ ap₂ (λ a b. a || b) h g

  later : (f : Event → Bool) (es fs : List Event) → list_any f fs ≡ true → list_any f (es ++ fs) ≡ true
  later f es fs g = list_any-append f es fs ∙ or_one (list_any f es) (list_any f fs) g

  earlier : (f : Event → Bool) (es fs : List Event) → list_any f es ≡ true → list_any f (es ++ fs) ≡ true
  earlier f es fs h = list_any-append f es fs ∙ ap (λ a. a || list_any f fs) h

  -- of these events and then of those
  tells_both : (es fs : List Event) (rest : Looked ℕ Walked) (w : Walked) → Tells es rest.found → Tells fs w
      → Tells (es ++ fs) (or_rest w rest).found
  tells_both es fs rest (Found k i v) t s = tt
  tells_both es fs rest Stopped t s = (
    later is_sync es fs s.0,
    ap any_write (fold-append after_event [] es fs ∙ a_sync (since_sync es) fs s.0) ∙ s.1,
  )
  tells_both es fs rest Passed t s = by rest.found t
    where
      by : (u : Walked) → Tells es u → Tells (es ++ fs) u
      by (Found k i v) t' = tt
      by Stopped t' = (
        earlier is_sync es fs t'.0,
        ap any_write (fold-append after_event [] es fs ∙ no_sync (since_sync es) fs s.0)
            ∙ neither _ (since_sync es) fs t'.1 s.1,
      )
      by Passed t' = (neither is_sync es fs t'.0 s.0, neither _ es fs t'.1 s.1)

  -- of one event more
  one_event : (k i : ℕ) (e : Event) → Tells (e ∷ []) (over_event c k i e)
  one_event k i e = by (is_sync e) refl
    where
      wrote : (o : Option ℤ) → value_to c e.writes ≡ o → is_sync e ≡ false → Tells (e ∷ []) (found_if k i o)
      wrote None h s = (ap (λ b. b || false) s, ap (λ b. b || false) (unwritten e.writes h))
      wrote (Some v) h s = tt

      by : (b : Bool) → is_sync e ≡ b
          → Tells (e ∷ []) (if b then Stopped else found_if k i (value_to c e.writes))
      by true s =
          (ap (λ b. b || false) s, ap (λ b. any_write (if b then [] else e ∷ [])) s)
      by false s = wrote (value_to c e.writes) refl s

  -- ---- over items

  module _ (inner : ℕ → Looked ℕ Walked) (events : ℕ → List Event)
      (told : (m : ℕ) → Tells (events m) (inner m).found) where
    over : (k i : ℕ) (ts : List Item) (before : List (ℕ × Item)) (es : List Event)
        → Tells es (back_over inner c k before).found
        → Tells (es ++ events_among events ts) (back_over inner c k (backwards i ts before)).found
    over k i [] before es t = subst (λ fs. Tells fs (back_over inner c k before).found) (sym (append-nil es)) t
    over k i (item.Own e ∷ ts) before es t =
        subst (λ fs. Tells fs (back_over inner c k (backwards (i + 1) ts ((i, item.Own e) ∷ before))).found)
        (append_assoc es (e ∷ []) (events_among events ts))
        (over k (i + 1) ts ((i, item.Own e) ∷ before) (es ++ e ∷ [])
        (tells_both es (e ∷ []) (back_over inner c k before) (over_event c k i e) t (one_event k i e)))
    over k i (item.Nested m b values closed ∷ ts) before es t =
        subst (λ fs. Tells fs
        (back_over inner c k (backwards (i + 1) ts ((i, item.Nested m b values closed) ∷ before))).found)
        (append_assoc es (events m) (events_among events ts))
        (over k (i + 1) ts ((i, item.Nested m b values closed) ∷ before) (es ++ events m)
        (tells_both es (events m) (back_over inner c k before) (inner m).found t (told m)))

    over_all : (k : ℕ) (ts : List Item) → Tells (events_among events ts) (back_over inner c k (backwards 0 ts [])).found
    over_all k ts = over k 0 ts [] [] (refl, refl)

  module _ (x : Seen) where
    over_inside : (n m : ℕ) → Tells (events_in n x m) (back n x c m).found
    over_inside zero m = (refl, refl)
    over_inside (suc n) m = over_all (back n x c) (events_in n x) (over_inside n) m (get_or x.items m [])

    over_out : (k j : ℕ) (ms : List ℕ) → Tells (events_to x k j ms) (walk_out (inside x c) x c k j ms).found
    over_out k j [] =
        over_all (inside x c) (events_in (length x.items) x) (over_inside (length x.items)) k (take j (get_or x.items k []))
    over_out k j (m ∷ ms) =
        tells_both (events_to x m (place_of k (get_or x.items m [])) ms)
        (events_among (events_in (length x.items) x) (take j (get_or x.items k [])))
        (after_replay m (walk_out (inside x c) x c m (place_of k (get_or x.items m [])) ms))
        (back_over (inside x c) c k (back_from j (get_or x.items k []))).found
        (over_out m (place_of k (get_or x.items m [])) ms)
        (over_all (inside x c) (events_in (length x.items) x) (over_inside (length x.items)) k
        (take j (get_or x.items k [])))

    pub walk_tells : (k j : ℕ) → Tells (events_before x k j) (walk x c k j).found
    walk_tells k j = over_out k j (get_or x.rounds k [])

  -- a walk that finds no write
  abbrev pub is_found : Walked → Bool
  is_found (Found k i v) = true
  is_found w = false

  pub none_written : (es : List Event) (w : Walked) → is_found w ≡ false → Tells es w → any_write (since_sync es) ≡ false
  none_written es Stopped h t = t.1
  none_written es Passed h t = ap any_write (no_sync [] es t.0) ∙ t.1
  none_written es (Found k i v) h t = absurd (true≢false h)
