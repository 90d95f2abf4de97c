-- The innermost interval at an entry of a whole log is the one that ran innermost before it.
use Rattle.law_flow.proofs.Edges.LogPlaces.Extended.{Became, came, ended_in, ended_one, is_log, left_length, left_one, new_cases, still_one}
use Rattle.law_flow.proofs.Edges.Spans.Facts.{at}
use Rattle.ppd_ast.proofs.ValidLaws.{slice_get_below, slice_get_there}
use Rattle.ppd_ast.specs.declared.status.Status.{Status}
use Rattle.ppd_model.specs.declared.entry.Entry.{Entry}
use Rattle.ppd_model.specs.declared.entry.Entry.TheVariants as entry
use Rattle.ppd_graph.proofs.FlowWords.{is_in_extent}
use Rattle.ppd_graph.specs.Ends.{innermost_from}
use Rattle.ppd_model.proofs.Changes.{change-at, some}
use Rattle.ppd_model.proofs.CountedOn.{kept_at}
use Rattle.ppd_model.proofs.ExtentWords.{Extending, begun_extents, ended_by, extend, extents_are, extents_by, left_by}
use Rattle.ppd_model.proofs.Extents.{Fall, IsIn, close_by, ended_length, entry_number, in_below}
use Rattle.ppd_model.specs.Extents.{Extent, extents}
use Rattle.ppd_model.specs.World.{change}
use Rattle.std.proofs.Common.{Bool, List, Some, [], ap, arith, false, if◌then◌else◌, inl, inr, length, refl, subst, suc, sym, true, zero, ℕ, ◌++◌, ◌+◌, ◌<◌, ◌∙◌, ◌∷◌, ◌≡◌, ◌≤◌, ◌⊎◌}
use Rattle.std.proofs.lemmas.Bool.{cases_lt}
use Rattle.std.proofs.lemmas.Bool.Decides.{nat_tests}
use Rattle.std.proofs.lemmas.List.Sums.{fold-append}
use Rattle.std.proofs.lemmas.Option.{none-some}
use Rattle.std.specs.Prelude.{drop, fold, nat_le, nat_lt, option_map, slice_get, unwrap_or, ◌&&◌}

-- ---- the last one in which an entry stands

no_more : (n m k : ℕ) (xs : List Extent) → ((i : ℕ) (y : Extent) → slice_get xs i ≡ Some y → is_in_extent n y ≡ false) → innermost_from n m k xs ≡ m
no_more n m k [] none = refl
no_more n m k (x ∷ xs) none = ap (λ b. innermost_from n (if b then k else m) (k + 1) xs) (none 0 x refl) ∙ no_more n m (k + 1) xs (λ i y e. none (suc i) y e)

last_one : (n m k : ℕ) (xs : List Extent) (j : ℕ) (x : Extent) → slice_get xs j ≡ Some x → is_in_extent n x ≡ true → ((i : ℕ) (y : Extent) → j < i → slice_get xs i ≡ Some y → is_in_extent n y ≡ false) → innermost_from n m k xs ≡ k + j
last_one n m k [] j x e is after = absurd (none-some x e)
last_one n m k (z ∷ xs) zero x e is after =
    let same : z ≡ x = some e in
    ap (λ b. innermost_from n (if b then k else m) (k + 1) xs) (ap (is_in_extent n) same ∙ is)
    ∙ no_more n k (k + 1) xs (λ i y f. after (suc i) y (omega arith) f) ∙ (let w : k ≡ k + 0 = omega arith in w)
last_one n m k (z ∷ xs) (suc j) x e is after =
    last_one n (if is_in_extent n z then k else m) (k + 1) xs j x e is (λ i y lt f. after (suc i) y (omega (arith, lt)) f) ∙ (let w : k + 1 + j ≡ k + suc j = omega arith in w)

-- ---- on from an entry

module _ (n k p : ℕ) where
  -- interval k, with this prelog, runs, or its last entry is not before entry n
  record Goes (y : Extending) : Type 0 where
    extent : Extent
    there : slice_get y.intervals k ≡ Some extent
    prelog : extent.prelog ≡ p
    goes : IsIn k y.running ⊎ ((l : ℕ) × (extent.last ≡ Some l) × (n ≤ l))

  later : (j : ℕ) (x z : Extent) → n ≤ j → Became j x z → ((l : ℕ) × (x.last ≡ Some l) × (n ≤ l)) → (l : ℕ) × (z.last ≡ Some l) × (n ≤ l)
  later j x z le b h = elim b.last [ inl e ↦ (h.0, e ∙ h.1, h.2) | inr e ↦ (j, e, le) ]

  goes_one : (y : Extending) (e : Entry) → n ≤ y.entry → Goes y → Goes (extend y e)
  goes_one y (entry.Prelog b vs) le h = record {
    extent = h.extent;
    there = kept_at y.intervals _ k h.extent h.there;
    prelog = h.prelog;
    goes = elim h.goes [ inl i ↦ inl (inr i) | inr l ↦ inr l ];
  }
  goes_one y (entry.Postlog b vs) le h = elim h.goes [
    | inl i ↦ by y.running i
    | inr l ↦
        let s = left_one y.entry k y.running y.intervals h.extent h.there in
        record { extent = s.0; there = s.1; prelog = s.2.prelog ∙ h.prelog; goes = inr (later y.entry h.extent s.0 le s.2 l) }
  ]
    where
      by : (ks : List ℕ) → IsIn k ks → Goes (record { intervals = left_by y.entry ks y.intervals; running = drop 1 ks; entry = y.entry + 1 })
      by [] i = absurd i
      by (m ∷ ms) (inl same) = record {
        extent = record h.extent { last = Some y.entry; closed = true };
        there = ap (λ w. slice_get (change (close_by y.entry) m y.intervals) w) same ∙ change-at (close_by y.entry) m y.intervals
            ∙ ap (option_map (close_by y.entry)) (ap (λ w. slice_get y.intervals w) (sym same) ∙ h.there);
        prelog = h.prelog;
        goes = inr (y.entry, refl, le);
      }
      by (m ∷ ms) (inr i) =
          let s = left_one y.entry k (m ∷ ms) y.intervals h.extent h.there in
          record { extent = s.0; there = s.1; prelog = s.2.prelog ∙ h.prelog; goes = inl i }
  goes_one y (entry.End st rest reads writes) le h =
      let s = ended_one y.entry k y.running y.intervals h.extent h.there in
      record {
        extent = s.0;
        there = s.1;
        prelog = s.2.prelog ∙ h.prelog;
        goes = elim h.goes [ inl i ↦ inl i | inr l ↦ inr (later y.entry h.extent s.0 le s.2 l) ];
      }
  goes_one y (entry.Unit u vs) le h = record { extent = h.extent; there = h.there; prelog = h.prelog; goes = h.goes }
  goes_one y (entry.Sync kind object number value reads writes) le h = record { extent = h.extent; there = h.there; prelog = h.prelog; goes = h.goes }

  goes_all : (y : Extending) (es : List Entry) → n ≤ y.entry → Goes y → Goes (fold extend y es)
  goes_all y [] le h = h
  goes_all y (e ∷ es) le h = goes_all (extend y e) es (omega (arith, le)) (goes_one y e le h)

  entry_on : (y : Extending) (es : List Entry) → n ≤ y.entry → n ≤ (fold extend y es).entry
  entry_on y [] le = le
  entry_on y (e ∷ es) le = entry_on (extend y e) es (omega (arith, le))

  -- and at the end
  at_end : (y : Extending) (st : Status) (rest : ℕ) (reads writes : List ℕ) → n ≤ y.entry → Goes y → (x : Extent) × (slice_get (extend y (entry.End st rest reads writes)).intervals k ≡ Some x) × (x.prelog ≡ p) × (n ≤ unwrap_or x.last 0)
  at_end y st rest reads writes le h = elim h.goes [
    | inl i ↦
        let s = ended_in y.entry k y.running y.intervals h.extent h.there i in
        (s.0, s.1, s.2 ∙ h.prelog, subst (λ o. n ≤ unwrap_or o 0) (sym s.3) le)
    | inr l ↦
        let s = ended_one y.entry k y.running y.intervals h.extent h.there in
        let m = later y.entry h.extent s.0 le s.2 l in
        (s.0, s.1, s.2.prelog ∙ h.prelog, subst (λ o. n ≤ unwrap_or o 0) (sym m.1) m.2)
  ]

-- intervals from number low on begin at entry n or later
module _ (n low : ℕ) where
  abbrev AreLater : Extending → Type 0
  AreLater y = (j : ℕ) (x : Extent) → low ≤ j → slice_get y.intervals j ≡ Some x → n ≤ x.prelog

  later_one : (y : Extending) (e : Entry) → n ≤ y.entry → AreLater y → AreLater (extend y e)
  later_one y (entry.Prelog b vs) le h j x ge f = elim (new_cases y.intervals _ j x f) [
    | inl old ↦ h j x ge old
    | inr new ↦ (let z : y.entry ≡ x.prelog = ap (λ (w : Extent). w.prelog) new.1 in omega (arith, z, le))
  ]
  later_one y (entry.Postlog b vs) le h j x ge f =
      let c = came y (left_by y.entry y.running y.intervals) (left_length y.entry y.running y.intervals) (λ m w e. left_one y.entry m y.running y.intervals w e) j x f in
      let old = h j c.0 ge c.1 in
      let same = c.2.prelog in
      omega (arith, old, same)
  later_one y (entry.End st rest reads writes) le h j x ge f =
      let c = came y (ended_by y.entry y.running y.intervals) (ended_length y.entry y.running y.intervals) (λ m w e. ended_one y.entry m y.running y.intervals w e) j x f in
      let old = h j c.0 ge c.1 in
      let same = c.2.prelog in
      omega (arith, old, same)
  later_one y (entry.Unit u vs) le h j x ge f = h j x ge f
  later_one y (entry.Sync kind object number value reads writes) le h j x ge f = h j x ge f

  later_all : (y : Extending) (es : List Entry) → n ≤ y.entry → AreLater y → AreLater (fold extend y es)
  later_all y [] le h = h
  later_all y (e ∷ es) le h = later_all (extend y e) es (omega (arith, le)) (later_one y e le h)

-- ---- the innermost interval

stands_yes : (n : ℕ) (x : Extent) → x.prelog < n → n ≤ unwrap_or x.last 0 → is_in_extent n x ≡ true
stands_yes n x a b = grind (arith, nat_tests)

stands_past : (n : ℕ) (x : Extent) (l : ℕ) → x.last ≡ Some l → l < n → is_in_extent n x ≡ false
stands_past n x l e lt = ap (λ o. nat_lt x.prelog n && nat_le n (unwrap_or o 0)) e ∙ by (nat_lt x.prelog n)
  where
    over : nat_le n l ≡ false
    over = grind (arith, nat_tests)

    by : (b : Bool) → (b && nat_le n l) ≡ false
    by true = over
    by false = refl

stands_before : (n : ℕ) (x : Extent) → n ≤ x.prelog → is_in_extent n x ≡ false
stands_before n x le = ap (λ b. b && nat_le n (unwrap_or x.last 0)) under
  where
    under : nat_lt x.prelog n ≡ false
    under = grind (arith, nat_tests)

pub not_in : (m : ℕ) (ks : List ℕ) (k : ℕ) → Fall m ks → m ≤ k → IsIn k ks → ⊥
not_in m ks k f le i = let lt : k < m = in_below m ks k f i in omega (arith, lt, le)

above_first : (n k : ℕ) (ks : List ℕ) (j : ℕ) → Fall n (k ∷ ks) → k < j → IsIn j (k ∷ ks) → ⊥
above_first n k ks j f lt (inl e) = omega (arith, e, lt)
above_first n k ks j f lt (inr i) = not_in k ks j f.1 (omega (arith, lt)) i

module _ (before mid : List Entry) (st : Status) (rest : ℕ) (reads writes : List ℕ) where
  abbrev stop : Entry
  stop = entry.End st rest reads writes

  abbrev all : List Entry
  all = before ++ (mid ++ stop ∷ [])

  abbrev n : ℕ
  n = length before

  entry_is : n ≤ (at before).entry
  entry_is = let e : (at before).entry ≡ length before = entry_number before in omega (arith, e)

  final : at all ≡ fold extend (at before) (mid ++ stop ∷ [])
  final = fold-append extend begun_extents before (mid ++ stop ∷ [])

  final_end : at all ≡ extend (fold extend (at before) mid) stop
  final_end = final ∙ fold-append extend (at before) mid (stop ∷ [])

  -- one that is there and does not run
  past_is : (j : ℕ) (y : Extent) → j < length (at before).intervals → (IsIn j (at before).running → ⊥) → slice_get (extents_by all) j ≡ Some y → is_in_extent n y ≡ false
  past_is j y lt out e =
      let old = slice_get_there (at before).intervals j lt in
      let still : slice_get (extents_by all) j ≡ Some old.0 = ap (λ (z : Extending). slice_get z.intervals j) final ∙ still_one (at before) (mid ++ stop ∷ []) j old.0 old.1 out in
      let same : old.0 ≡ y = some (sym still ∙ e) in
      elim ((is_log before).left j old.0 old.1) [
        | inl i ↦ absurd (out i)
        | inr l ↦
            let number : (at before).entry ≡ length before = entry_number before in
            let less = l.2 in
            subst (λ z. is_in_extent n z ≡ false) same (stands_past n old.0 l.0 l.1 (omega (arith, less, number)))
      ]

  later_is : (j : ℕ) (y : Extent) → length (at before).intervals ≤ j → slice_get (extents_by all) j ≡ Some y → is_in_extent n y ≡ false
  later_is j y ge e =
      let none : AreLater n (length (at before).intervals) (at before) = λ i x le f. absurd (let lt : i < length (at before).intervals = slice_get_below (at before).intervals i x f in omega (arith, lt, le)) in
      stands_before n y (later_all n (length (at before).intervals) (at before) (mid ++ stop ∷ []) entry_is none j y ge (ap (λ (z : Extending). slice_get z.intervals j) (sym final) ∙ e))

  pub innermost_is : (k : ℕ) (ks : List ℕ) → (at before).running ≡ k ∷ ks → innermost_from n 0 0 (extents all) ≡ k
  innermost_is k ks runs =
      ap (innermost_from n 0 0) (extents_are all) ∙ (
      let falls : Fall (length (at before).intervals) (k ∷ ks) = subst (λ l. Fall (length (at before).intervals) l) runs (is_log before).falls in
      let there = slice_get_there (at before).intervals k falls.0 in
      let number : (at before).entry ≡ length before = entry_number before in
      let less : there.0.prelog < (at before).entry = (is_log before).prelogs k there.0 there.1 in
      let begins : Goes n k there.0.prelog (at before) = record { extent = there.0; there = there.1; prelog = refl; goes = inl (subst (λ l. IsIn k l) (sym runs) (inl refl)) } in
      let now = at_end n k there.0.prelog (fold extend (at before) mid) st rest reads writes (entry_on n k there.0.prelog (at before) mid entry_is) (goes_all n k there.0.prelog (at before) mid entry_is begins) in
      let prelog = now.2 in
      let at_all : slice_get (extents_by all) k ≡ Some now.0 = ap (λ (z : Extending). slice_get z.intervals k) final_end ∙ now.1 in
      last_one n 0 0 (extents_by all) k now.0 at_all (stands_yes n now.0 (omega (arith, prelog, less, number)) now.3) (λ j y lt e. elim (cases_lt j (length (at before).intervals)) [
        | inl there' ↦ past_is j y there' (λ i. above_first (length (at before).intervals) k ks j falls lt (subst (λ l. IsIn j l) runs i)) e
        | inr more ↦ later_is j y more e
      ]) ∙ (let z : 0 + k ≡ k = omega arith in z))

  pub innermost_none : (at before).running ≡ [] → innermost_from n 0 0 (extents all) ≡ 0
  innermost_none runs = ap (innermost_from n 0 0) (extents_are all) ∙ no_more n 0 0 (extents_by all) (λ j y e. elim (cases_lt j (length (at before).intervals)) [
    | inl there ↦ past_is j y there (λ i. subst (λ l. IsIn j l) runs i) e
    | inr more ↦ later_is j y more e
  ])
