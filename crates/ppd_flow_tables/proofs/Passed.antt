-- The walk back over items that it simply passes.
use Rattle.std.proofs.Common.{◌≡◌, ℕ, zero, suc, ◌+◌, ◌^◌, ◌<◌, ◌≤◌, ℤ, Bool, true, false, ◌&&◌, List, [], ◌∷◌, Option, Some, None, refl, ap, ap₂, sym, ◌∙◌, arith, inl, inr, length, take, true≢false, if◌then◌else◌}
use Rattle.std.specs.Prelude.{is_some, nat_eq, slice_get}
use Rattle.std.proofs.Math.Bool.{and-true}
use Rattle.std.proofs.lemmas.Bool.{cases_eq, cases_lt}
use Rattle.std.proofs.lemmas.Option.{none-some, same_Some, slice_get_within}
use Rattle.ppd_model.specs.declared.entry.Entry.{Entry}
use Rattle.ppd_model.specs.declared.flow.Item.{Item}
use Rattle.ppd_model.specs.declared.flow.Item.TheVariants as item
use Rattle.ppd_sem.specs.declared.event.Event.{Event}
use Rattle.ppd_graph.specs.declared.walked.Walked.{Walked}
use Rattle.ppd_graph.specs.declared.walked.Walked.TheVariants.{Stopped, Passed}
use Rattle.ppd_graph.specs.Looked.{Looked, known}
use Rattle.ppd_graph.specs.Walk.{back_from, back_over, backwards, found_if, onward, over_event, value_to}
use Rattle.ppd_flow_tables.specs.declared.marks.Mark.TheVariants as mark
use Rattle.ppd_flow_tables.specs.declared.place_table.PlaceTable.{PlaceTable}
use Rattle.ppd_flow_tables.specs.Listed.{IsLastUnder}
use Rattle.ppd_flow_tables.specs.Stops.{ArePassed, IsLater, after, is_border, writes_cell}
use Rattle.ppd_flow_tables.specs.Tables.{AreWhere, IsPlaceTable, is_marked, passes}
use Rattle.ppd_flow_tables.proofs.EdgePlaces.{none_marked}

-- ---- one item

module _ (inner : ℕ → Looked ℕ Walked) (c k : ℕ) where
  event_walked : (i : ℕ) (e : Event) → is_some e.number ≡ false → is_some (value_to c e.writes) ≡ false
      → over_event c k i e ≡ Passed
  event_walked i e none other = by (is_some e.number) (value_to c e.writes) none other
    where
      by : (b : Bool) (v : Option ℤ) → b ≡ false → is_some v ≡ false → (if b then Stopped else found_if k i v) ≡ Passed
      by true v f g = absurd (true≢false f)
      by false None f g = refl
      by false (Some v) f g = absurd (true≢false g)

  one_walked : (i : ℕ) (t : Item) (rest : List (ℕ × Item)) → is_border t ≡ false → writes_cell c t ≡ false
      → back_over inner c k ((i, t) ∷ rest) ≡ back_over inner c k rest
  one_walked i (item.Own e) rest none other =
      ap (λ (w : Walked). onward (known w) (back_over inner c k rest)) (event_walked i e none other)
  one_walked i (item.Nested m b values closed) rest none other = absurd (true≢false none)

-- ---- the first items, the last first

last_back : (xs : List Item) (n j : ℕ) (t : Item) (before : List (ℕ × Item)) → slice_get xs j ≡ Some t
    → backwards n (take (suc j) xs) before ≡ (n + j, t) ∷ backwards n (take j xs) before
last_back [] n j t before e = absurd (none-some t e)
last_back (x ∷ xs) n zero t before e =
    let is : x ≡ t = same_Some x t e in
    let at : n ≡ n + 0 = omega arith in
    ap₂ (λ i y. (i, y) ∷ before) at is
last_back (x ∷ xs) n (suc j) t before e =
    let at : (n + 1) + j ≡ n + suc j = omega arith in
    last_back xs (n + 1) j t ((n, x) ∷ before) e
    ∙ ap (λ i. (i, t) ∷ backwards (n + 1) (take j xs) ((n, x) ∷ before)) at

-- one more of them
pub back_more : (items : List Item) (j : ℕ) (t : Item) → slice_get items j ≡ Some t
    → back_from (suc j) items ≡ (j, t) ∷ back_from j items
back_more items j t e =
    let at : 0 + j ≡ j = omega arith in
    last_back items 0 j t [] e ∙ ap (λ i. (i, t) ∷ back_from j items) at

same_take : (xs : List Item) (j : ℕ) → slice_get xs j ≡ None → take (suc j) xs ≡ take j xs
same_take [] zero e = refl
same_take [] (suc j) e = refl
same_take (x ∷ xs) zero e = absurd (none-some x (sym e))
same_take (x ∷ xs) (suc j) e = ap (λ ys. x ∷ ys) (same_take xs j e)

-- ---- those that are passed

-- between places i and j nothing stops the walk for cell c
abbrev pub AreClear : ℕ → List Item → ℕ → ℕ → Type 0
AreClear c items i j =
    (l : ℕ) (t : Item) → i ≤ l → l < j → slice_get items l ≡ Some t → (is_border t ≡ false) × (writes_cell c t ≡ false)

module _ (c : ℕ) (items : List Item) (i : ℕ) where
  module _ {A : Type 0} (over : List (ℕ × Item) → A)
      (one : (l : ℕ) (t : Item) (rest : List (ℕ × Item)) → is_border t ≡ false → writes_cell c t ≡ false → over
      ((l, t) ∷ rest) ≡ over rest) where
    step : (j : ℕ) (o : Option Item) → slice_get items j ≡ o → i ≤ j → AreClear c items i (suc j)
        → over (back_from (suc j) items) ≡ over (back_from j items)
    step j None e le clear = ap (λ (ts : List Item). over (backwards 0 ts [])) (same_take items j e)
    step j (Some t) e le clear =
        let free = clear j t le (omega arith) e in
        ap over (back_more items j t e) ∙ one j t (back_from j items) free.0 free.1

    clear_over : (j : ℕ) → i ≤ j → AreClear c items i j → over (back_from j items) ≡ over (back_from i items)
    clear_over zero le clear = let e : 0 ≡ i = omega (arith, le) in ap (λ n. over (back_from n items)) e
    clear_over (suc j) le clear = elim (cases_eq i (suc j)) [
      | inl e ↦ ap (λ n. over (back_from n items)) (sym e)
      | inr other ↦
          let before : i ≤ j = omega (arith, le, other) in
          step j (slice_get items j) refl before clear
          ∙ clear_over j before (λ l t from lt e. clear l t from (omega (arith, lt)) e)
    ]

  pub are_passed : (j : ℕ) → i ≤ length items → i ≤ j → AreClear c items i j → ArePassed c items i j
  are_passed j within before clear = record {
    within = within;
    before = before;
    walked = λ inner k. clear_over (back_over inner c k) (one_walked inner c k) j before clear;
  }

-- ---- the last stop

module _ (test : ℕ → ℕ → Bool) (keys : List ℕ) (n most : ℕ) (are : AreWhere test keys) where
  pub last_clear : (o : Option ℕ) → IsLastUnder keys n most o → (l : ℕ) → after o ≤ l → l < most → l < 2 ^ 32
      → test n l ≡ false
  last_clear None h l from lt small = sym (are n l small) ∙ h l lt small
  last_clear (Some i) h l from lt small = sym (are n l small) ∙ h.3 l (omega (arith, from)) lt small

  pub last_most : (o : Option ℕ) → IsLastUnder keys n most o → after o ≤ most
  last_most None h = omega arith
  last_most (Some i) h = let lt = h.0 in omega (arith, lt)

  pub last_within : (o : Option ℕ) → IsLastUnder keys n most o → (count : ℕ)
      → ((j : ℕ) → count ≤ j → test n j ≡ false) → after o ≤ count
  last_within None h count over = omega arith
  last_within (Some i) h count over = elim (cases_lt i count) [
    | inl lt ↦ omega (arith, lt)
    | inr le ↦ absurd (true≢false (sym (sym (are n i h.1) ∙ h.2) ∙ over i le))
  ]

-- the later of two is one of them, and before neither
pub later_of : (a b r : Option ℕ) → IsLater a b r
    → (after a ≤ after r) × (after b ≤ after r) × ((m : ℕ) → after a ≤ m → after b ≤ m → after r ≤ m)
later_of None b r h =
    let e : after r ≡ after b = ap after h in
    (omega arith, omega (arith, e), λ m le le'. omega (arith, e, le'))
later_of (Some i) None r h =
    let e : after r ≡ i + 1 = ap after h in
    (omega (arith, e), omega arith, λ m le le'. omega (arith, e, le))
later_of (Some i) (Some j) r h = elim (cases_lt i j) [
  | inl lt ↦
      let e : after r ≡ j + 1 = ap after (h.0 (omega (arith, lt))) in
      (omega (arith, e, lt), omega (arith, e), λ m le le'. omega (arith, e, le'))
  | inr ge ↦
      let e : after r ≡ i + 1 = ap after (h.1 ge) in
      (omega (arith, e), omega (arith, e, ge), λ m le le'. omega (arith, e, le))
]

module _ (entries : List Entry) (k : ℕ) (items : List Item) (t : PlaceTable) (h : IsPlaceTable entries k items t) where
  pub stop_found : (c place most : ℕ) (border write r : Option ℕ) → most ≤ place
      → ((i : ℕ) → i < place → i + 1 < 2 ^ 32 → i < most)
      → IsLastUnder t.stops.borders.keys 0 most border → IsLastUnder t.stops.writes.keys c most write
      → IsLater border write r → ArePassed c items (after r) place
  stop_found c place most border write r le small b w l =
      let few = h.few in
      let between = later_of border write r l in
      let first = between.0 in
      let second = between.1 in
      let in_place = between.2 most (last_most (is_marked mark.Border t.edges items) t.stops.borders.keys 0 most
      h.borders border b)
      (last_most (is_marked mark.Write t.edges items) t.stops.writes.keys c most h.writes write w) in
      are_passed c items (after r) place
      (between.2 (length items)
      (last_within (is_marked mark.Border t.edges items) t.stops.borders.keys 0 most h.borders border b (length items)
      (none_marked entries k items t h mark.Border 0))
      (last_within (is_marked mark.Write t.edges items) t.stops.writes.keys c most h.writes write w (length items)
      (none_marked entries k items t h mark.Write c)))
      (omega (arith, in_place, le))
      (λ i x from lt e.
      let within = slice_get_within items i x e in
      let early : i < most = small i lt (omega (arith, within, few)) in
      let no_border : (is_border x && nat_eq 0 0) ≡ false =
      sym (ap (passes (λ y. is_border y && nat_eq 0 0)) e)
      ∙ last_clear (is_marked mark.Border t.edges items) t.stops.borders.keys 0 most h.borders border b i
      (omega (arith, from, first)) early (omega (arith, within, few)) in
      let no_write : writes_cell c x ≡ false =
      sym (ap (passes (writes_cell c)) e)
      ∙ last_clear (is_marked mark.Write t.edges items) t.stops.writes.keys c most h.writes write w i
      (omega (arith, from, second)) early (omega (arith, within, few)) in
      (sym (and-true (is_border x)) ∙ no_border, no_write))
