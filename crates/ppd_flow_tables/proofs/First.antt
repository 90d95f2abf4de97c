-- The first place at which a test holds.
use Rattle.std.proofs.Common.{◌≡◌, ℕ, zero, suc, ◌+◌, ◌^◌, ◌<◌, ◌≤◌, Bool, true, false, ◌&&◌, List, [], ◌∷◌, Option, Some, None, refl, ap, sym, subst, ◌∙◌, arith, inl, inr, cond, eq-eqb, ne_eqb, get_or, length, take, true≢false, lt-ltb}
use Rattle.std.specs.Prelude.{nat_eq, nat_lt, slice_get, sum_by, unwrap_or, if◌then◌else◌}
use Rattle.std.specs.List.{position_or_len}
use Rattle.std.proofs.Math.Bool.{and-true, and-false}
use Rattle.std.proofs.lemmas.Bool.{cases_eq, cases_lt, le-ltb}
use Rattle.std.proofs.lemmas.Option.{none-some, same_Some}
use Rattle.std.proofs.lemmas.List.Sums.{position_or_len_is, sum_by-cons}
use Rattle.ppd_model.specs.declared.entry.Entry.{Entry}
use Rattle.ppd_model.specs.declared.entry.Entry.TheVariants as entry
use Rattle.ppd_model.specs.declared.flow.Item.{Item}
use Rattle.ppd_model.specs.declared.flow.Item.TheVariants as item
use Rattle.ppd_graph.specs.Ends.{ending, ends_edge, is_sync_item, sync_item, syncs_before, syncs_of_item}
use Rattle.ppd_graph.proofs.FlowWords.{is_sync}
use Rattle.ppd_graph.specs.Seen.{is_item_of, place_of}
use Rattle.ppd_flow_tables.specs.Listed.{IsFirstUnder}
use Rattle.ppd_flow_tables.specs.Tables.{AreWhere, ends_there, passes}
use Rattle.ppd_flow_tables.proofs.Collected.{one_sync}
use Rattle.ppd_flow_tables.proofs.Marked.{one_passes}

-- of n places p is the first at which the test holds, and n where it holds at none
pub record IsFirst (test : ℕ → Bool) (n p : ℕ) : Type 0 where
  pub within : p ≤ n
  pub before : (j : ℕ) → j < p → test j ≡ false
  pub there : p < n → test p ≡ true

pub first_same : (test test' : ℕ → Bool) (n p : ℕ) → ((j : ℕ) → j < n → test' j ≡ test j) → IsFirst test n p → IsFirst
    test' n p
first_same test test' n p same h = record {
  within = h.within;
  before = λ j lt. let within = h.within in same j (omega (arith, lt, within)) ∙ h.before j lt;
  there = λ lt. same p lt ∙ h.there lt;
}

first_tail : (test : ℕ → Bool) (n p : ℕ) → IsFirst test (suc n) (suc p) → IsFirst (λ j. test (suc j)) n p
first_tail test n p h = record {
  within = let within = h.within in omega (arith, within);
  before = λ j lt. h.before (suc j) (omega (arith, lt));
  there = λ lt. h.there (omega (arith, lt));
}

-- ---- among keys

pub first_where : (test : ℕ → ℕ → Bool) (keys : List ℕ) (n i : ℕ) → AreWhere test keys → n < 2 ^ 32
    → ((j : ℕ) → n ≤ j → test i j ≡ false) → (o : Option ℕ) → IsFirstUnder keys i o
    → IsFirst (test i) n (unwrap_or o n)
first_where test keys n i are few over None h = record {
  within = omega arith;
  before = λ j lt. sym (are i j (omega (arith, lt, few))) ∙ h j (omega (arith, lt, few));
  there = λ lt. absurd (omega (arith, lt));
}
first_where test keys n i are few over (Some p) h =
    let small = h.0 in
    let holds : test i p ≡ true = sym (are i p small) ∙ h.1 in
    record {
      within = elim (cases_lt p n) [
        | inl lt ↦ omega (arith, lt)
        | inr le ↦ absurd (true≢false (sym holds ∙ over p le))
      ];
      before = λ j lt. sym (are i j (omega (arith, lt, small))) ∙ h.2 j lt;
      there = λ lt. holds;
    }

-- a place that is found is one of them
pub first_within : (test : ℕ → ℕ → Bool) (keys : List ℕ) (n i : ℕ) → AreWhere test keys
    → ((j : ℕ) → n ≤ j → test i j ≡ false) → (o : Option ℕ) → IsFirstUnder keys i o → (p : ℕ) → o ≡ Some p → p < n
first_within test keys n i are over None h p e = absurd (none-some p e)
first_within test keys n i are over (Some q) h p e =
    let is : q ≡ p = same_Some q p e in
    let holds : test i q ≡ true = sym (are i q h.0) ∙ h.1 in
    subst (λ m. m < n) is (elim (cases_lt q n) [ inl lt ↦ lt | inr le ↦ absurd (true≢false (sym holds ∙ over q le)) ])

-- ---- the end of an edge

sync_ends : (e : Entry) → ends_edge e ≡ false → is_sync e ≡ false
sync_ends (entry.Prelog b values) h = refl
sync_ends (entry.Unit u values) h = refl
sync_ends (entry.Sync kind object number value reads writes) h = h
sync_ends (entry.Postlog b values) h = refl
sync_ends (entry.End status rest reads writes) h = refl

first_of_edge : (e : Entry) (es : List Entry) (n : ℕ) → ends_edge e ≡ true
    → (if ends_edge e then 0 else suc n) ≡ 0
first_of_edge e es n h = ap (λ b. if b then 0 else suc n) h

-- where the first entry is no synchronization
on_without : (e : Entry) (es : List Entry) (i j : ℕ) → is_sync e ≡ false
    → ends_there es i j ≡ ends_there (e ∷ es) i (suc j)
on_without e es i j h =
    ap (λ m. passes (λ x. ends_edge x && nat_eq i m) (slice_get es j))
    (sym (one_sync e (take j es) ∙ ap (λ b. if b then syncs_before es j + 1 else syncs_before es j) h))

same_suc : (i m : ℕ) → nat_eq i m ≡ nat_eq (suc i) (m + 1)
same_suc i m = elim (cases_eq i m) [
  | inl e ↦ eq-eqb i m e ∙ sym (eq-eqb (suc i) (m + 1) (omega (arith, e)))
  | inr other ↦ ne_eqb i m other ∙ sym (ne_eqb (suc i) (m + 1) (λ e. other (omega (arith, e))))
]

-- and where it is one
on_with : (e : Entry) (es : List Entry) (i j : ℕ) → is_sync e ≡ true
    → ends_there es i j ≡ ends_there (e ∷ es) (suc i) (suc j)
on_with e es i j h =
    pass (slice_get es j) (same_suc i (syncs_before es j))
    ∙ ap (λ m. passes (λ x. ends_edge x && nat_eq (suc i) m) (slice_get es j))
    (sym (one_sync e (take j es) ∙ ap (λ b. if b then syncs_before es j + 1 else syncs_before es j) h))
  where
    pass : {a b : Bool} (o : Option Entry) → a ≡ b → passes (λ x. ends_edge x && a) o ≡ passes (λ x. ends_edge x && b) o
    pass None e = refl
    pass (Some x) e = ap (λ c. ends_edge x && c) e

pub ending_is : (es : List Entry) (i p : ℕ) → IsFirst (ends_there es i) (length es) p → ending i es ≡ p
ending_is [] i p h = let within = h.within in omega (arith, within)
ending_is (e ∷ es) zero zero h =
    first_of_edge e es (ending zero es) (sym (and-true (ends_edge e)) ∙ h.there (omega arith))
ending_is (e ∷ es) zero (suc p) h =
    let none : ends_edge e ≡ false = sym (and-true (ends_edge e)) ∙ h.before 0 (omega arith) in
    ap (λ b. if b then 0 else suc (ending zero es)) none
    ∙ ap suc (ending_is es zero p (first_same (λ j. ends_there (e ∷ es) zero (suc j)) (ends_there es zero) (length es) p
    (λ j lt. on_without e es zero j (sync_ends e none)) (first_tail (ends_there (e ∷ es) zero) (length es) p h)))
ending_is (e ∷ es) (suc i) zero h =
    absurd (true≢false (sym (h.there (omega arith)) ∙ ap (λ b. ends_edge e && b)
    (ne_eqb (suc i) 0 (λ f. omega (arith, f))) ∙ and-false (ends_edge e)))
ending_is (e ∷ es) (suc i) (suc p) h =
    let tail = first_tail (ends_there (e ∷ es) (suc i)) (length es) p h in
    by (is_sync e) (ending i es) (ending (suc i) es)
    (λ f. ending_is es i p (first_same (λ j. ends_there (e ∷ es) (suc i) (suc j)) (ends_there es i) (length es) p
    (λ j lt. on_with e es i j f) tail))
    (λ f. ending_is es (suc i) p (first_same (λ j. ends_there (e ∷ es) (suc i) (suc j)) (ends_there es (suc i))
    (length es) p
    (λ j lt. on_without e es (suc i) j f) tail))
  where
    by : (b : Bool) (m n : ℕ) → (b ≡ true → m ≡ p) → (b ≡ false → n ≡ p) → (if b then suc m else suc n) ≡ suc p
    by true m n f g = ap suc (f refl)
    by false m n f g = ap suc (g refl)

pub ending_within : (i : ℕ) (es : List Entry) → ending i es ≤ length es
ending_within i [] = omega arith
ending_within zero (e ∷ es) =
    let rest = ending_within zero es in
    either (ends_edge e) (omega arith) (omega (arith, rest))
  where
    either : (b : Bool) → 0 ≤ suc (length es) → suc (ending zero es) ≤ suc (length es)
        → (if b then 0 else suc (ending zero es)) ≤ suc (length es)
    either true h g = h
    either false h g = g
ending_within (suc i) (e ∷ es) =
    let rest = ending_within i es in
    let more = ending_within (suc i) es in
    either (is_sync e) (omega (arith, rest)) (omega (arith, more))
  where
    either : (b : Bool) → suc (ending i es) ≤ suc (length es) → suc (ending (suc i) es) ≤ suc (length es)
        → (if b then suc (ending i es) else suc (ending (suc i) es)) ≤ suc (length es)
    either true h g = h
    either false h g = g

-- ---- the synchronization that ends an edge, among items

module _ (entries : List Entry) (i : ℕ) where
  -- item j is one in edge i, where the first item lies in edge n
  abbrev pub syncs_there : ℕ → List Item → ℕ → Bool
  syncs_there n ts j =
      passes (λ t. is_sync_item t && nat_eq i (n + sum_by (syncs_of_item entries) (take j ts))) (slice_get ts j)

  on_from : (n : ℕ) (t : Item) (ts : List Item) (j : ℕ)
      → syncs_there (n + syncs_of_item entries t) ts j ≡ syncs_there n (t ∷ ts) (suc j)
  on_from n t ts j =
      let f = syncs_of_item entries in
      let cons = sum_by-cons f t (take j ts) in
      let sums : (n + f t) + sum_by f (take j ts) ≡ n + sum_by f (t ∷ take j ts) = omega (arith, cons) in
      ap (λ m. passes (λ x. is_sync_item x && nat_eq i m) (slice_get ts j)) sums

  turned : (n : ℕ) → nat_eq n i ≡ nat_eq i (n + 0)
  turned n =
      elim (cases_eq n i) [
        | inl e ↦ eq-eqb n i e ∙ sym (eq-eqb i (n + 0) (omega (arith, e)))
        | inr other ↦ ne_eqb n i other ∙ sym (ne_eqb i (n + 0) (λ e. other (omega (arith, e))))
      ]

  pub sync_item_is : (ts : List Item) (n p : ℕ) → IsFirst (syncs_there n ts) (length ts) p
      → sync_item entries i n ts ≡ p
  sync_item_is [] n p h = let within = h.within in omega (arith, within)
  sync_item_is (t ∷ ts) n zero h =
      ap (λ b. if is_sync_item t && b then 0 else suc (sync_item entries i (n + syncs_of_item entries t) ts)) (turned n)
      ∙ ap (λ b. if b then 0 else suc (sync_item entries i (n + syncs_of_item entries t) ts)) (h.there (omega arith))
  sync_item_is (t ∷ ts) n (suc p) h =
      ap (λ b. if is_sync_item t && b then 0 else suc (sync_item entries i (n + syncs_of_item entries t) ts)) (turned n)
      ∙ ap (λ b. if b then 0 else suc (sync_item entries i (n + syncs_of_item entries t) ts)) (h.before 0 (omega arith))
      ∙ ap suc (sync_item_is ts (n + syncs_of_item entries t) p (first_same (λ j. syncs_there n (t ∷ ts) (suc j))
      (syncs_there (n + syncs_of_item entries t) ts) (length ts) p (λ j lt. on_from n t ts j)
      (first_tail (syncs_there n (t ∷ ts)) (length ts) p h)))

-- ---- the place of an interval

module _ (m : ℕ) (items : List Item) where
  -- an item for the places past the end
  abbrev d : Item
  d = item.Nested 0 0 [] false

  position_is : (p : ℕ) → IsFirst (λ j. passes (is_item_of m) (slice_get items j)) (length items) p
      → position_or_len (is_item_of m) items ≡ p
  position_is p h =
      position_or_len_is (is_item_of m) items p d h.within
      (λ j lt. let within = h.within in one_passes (is_item_of m) items j d (get_or items j d)
      (omega (arith, lt, within)) refl ∙ h.before j lt)
      (λ lt. one_passes (is_item_of m) items p d (get_or items p d) lt refl ∙ h.there lt)

  at : (p : ℕ) (o : Option ℕ) → p ≡ unwrap_or o (length items) → ((i : ℕ) → o ≡ Some i → i < length items)
      → unwrap_or (cond (nat_lt p (length items)) (Some p) None) 0 ≡ unwrap_or o 0
  at p None e within =
      ap (λ b. unwrap_or (cond b (Some p) None) 0) (le-ltb p (length items) (omega (arith, e)))
  at p (Some i) e within =
      ap (λ b. unwrap_or (cond b (Some p) None) 0)
      (lt-ltb p (length items) (let lt = within i refl in omega (arith, e, lt)))
      ∙ e

  pub place_is : (o : Option ℕ)
      → IsFirst (λ j. passes (is_item_of m) (slice_get items j)) (length items) (unwrap_or o (length items))
      → ((i : ℕ) → o ≡ Some i → i < length items) → unwrap_or o 0 ≡ place_of m items
  place_is o h within =
      sym (at (position_or_len (is_item_of m) items) o (position_is (unwrap_or o (length items)) h) within)
