-- Replays that are kept: what they are, and that nothing is replayed again.
use Rattle.ppd_model.specs.Setting.{Setting}
use Rattle.std.proofs.Common.{◌≡◌, ℕ, zero, suc, ◌+◌, ◌<◌, ◌≤◌, ◌⊎◌, inl, inr, Bool, true, false, List, [], ◌∷◌, ◌++◌, Option, Some, None, Result, Ok, Err, refl, ap, sym, ◌∙◌, subst, arith, length, get_or}
use Rattle.std.specs.Prelude.{⊤, OnOk, slice_get, slice_set, nat_eq, if◌then◌else◌}
use Rattle.std.proofs.lemmas.Bool.{cases_eq, eq-eqb, eqb-true}
use Rattle.std.proofs.lemmas.List.{get_or_past}
use Rattle.std.proofs.lemmas.List.Sums.{sum_by-cons}
use Rattle.std.proofs.lemmas.Option.{none-some, same_Some}
use Rattle.ppd_model.specs.declared.entry.Entry.{Entry}
use Rattle.ppd_model.specs.declared.entry.Logs.{Logs}
use Rattle.ppd_flow_past.specs.declared.past.Past.{Past}
use Rattle.ppd_flow_past.specs.ByReplays.{AreReplayed, cost, steps_to_replay, unless_kept}
use Rattle.ppd_flow_past.specs.Keeping.{AreFirstItems, AreKeptOf, AreOthersKept, IsAllKept, IsNoneKept, RoseByKept, count_in, process_steps, steps_kept_of, sum_below}
use Rattle.ppd_flow_past.specs.Pasts.{AreKept, items_kept}
use Rattle.ppd_flow_past.specs.PastSetting.{past_setting}
use Rattle.ppd_flow_past.specs.SeenBy.{seen_by, steps_in}
use Rattle.ppd_model.specs.declared.flow.Item.{Item}
use Rattle.ppd_flow_past.proofs.Given.{beyond, none_steps}

abbrev Kept : Type 0
Kept = List (List (List Item))

-- where nothing is kept
pub nothing_kept : (setting : Setting) (logs : Logs) → AreKept setting logs []
nothing_kept setting logs p k items e = absurd (none-some items e)

-- ---- what is kept is free

-- past its end, where there is none
nothing_at : {X : Type 0} (xs : List X) (k : ℕ) → slice_get xs k ≡ None → length xs ≤ k
nothing_at [] k e = omega arith
nothing_at (x ∷ xs) zero e = absurd (none-some x (sym e))
nothing_at (x ∷ xs) (suc k) e =
    let rest : length xs ≤ k = nothing_at xs k e in omega arith

-- of a process of which all is kept no interval is replayed
pub kept_free : (past : Past) (p k : ℕ) → IsAllKept past past.kept.now p → steps_to_replay past p k ≡ 0
kept_free past p k all = by (items_kept past.kept.now p k) refl
  where
    by : (o : Option (List Item)) → items_kept past.kept.now p k ≡ o → steps_to_replay past p k ≡ 0
    by (Some items) e = ap (λ o. unless_kept o (steps_in past p k)) e
    by None e =
        let over : length (get_or past.kept.now p []) ≤ k = nothing_at (get_or past.kept.now p []) k e in
        let far : count_in past p ≤ k = subst (λ n. n ≤ k) all over in
        ap (λ o. unless_kept o (steps_in past p k)) e ∙ none_steps past p k (beyond past p k far)

-- none of these is replayed
abbrev pub AreFree : Past → List (ℕ × ℕ) → Type 0
AreFree past [] = ⊤
AreFree past (m ∷ ms) = (steps_to_replay past m.0 m.1 ≡ 0) × AreFree past ms

pub costs_nothing : (past : Past) (ms : List (ℕ × ℕ)) → AreFree past ms → cost past ms ≡ 0
costs_nothing past [] h = refl
costs_nothing past (m ∷ ms) h =
    let first = h.0 in
    let rest = costs_nothing past ms h.1 in
    let whole = sum_by-cons (λ (n : ℕ × ℕ). steps_to_replay past n.0 n.1) m ms in
    omega (arith, first, rest, whole)

-- ---- one interval more

slice_end : {X : Type 0} (xs : List X) (y : X) (k : ℕ) (x : X) → slice_get (xs ++ y ∷ []) k ≡ Some x
    → (slice_get xs k ≡ Some x) ⊎ ((k ≡ length xs) × (y ≡ x))
slice_end [] y zero x e = inr (refl, same_Some y x e)
slice_end [] y (suc k) x e = absurd (none-some x e)
slice_end (z ∷ xs) y zero x e = inl e
slice_end (z ∷ xs) y (suc k) x e = elim (slice_end xs y k x e) [
  | inl there ↦ inl there
  | inr last ↦ inr (ap suc last.0, last.1)
]

pub first_more : (past : Past) (p : ℕ) (rows : List (List Item)) (items : List Item) → AreFirstItems past p rows
    → AreReplayed past p (length rows) items → AreFirstItems past p (rows ++ items ∷ [])
first_more past p rows items first given k xs e = elim (slice_end rows items k xs e) [
  | inl there ↦ first k xs there
  | inr last ↦ subst (λ (ys : List Item). AreReplayed past p k ys) last.1
      (subst (λ i. AreReplayed past p i items) (sym last.0) given)
]

pub first_none : (past : Past) (p : ℕ) (rows : List (List Item)) → rows ≡ [] → AreFirstItems past p rows
first_none past p rows e k items f =
    absurd (none-some items (subst (λ (xs : List (List Item)). slice_get xs k ≡ Some items) e f))

-- ---- one process more

set_same : {X : Type 0} (xs : List X) (i : ℕ) (y d : X) → i < length xs → get_or (slice_set xs i y) i d ≡ y
set_same [] i y d lt = absurd (omega (arith, lt))
set_same (x ∷ xs) zero y d lt = refl
set_same (x ∷ xs) (suc i) y d lt = set_same xs i y d (omega (arith, lt))

set_other : {X : Type 0} (xs : List X) (i j : ℕ) (y d : X) → (j ≡ i → ⊥) → get_or (slice_set xs i y) j d ≡ get_or xs j d
set_other [] i j y d h = refl
set_other (x ∷ xs) zero zero y d h = absurd (h refl)
set_other (x ∷ xs) zero (suc j) y d h = refl
set_other (x ∷ xs) (suc i) zero y d h = refl
set_other (x ∷ xs) (suc i) (suc j) y d h = set_other xs i j y d (λ e. h (ap suc e))

set_length : {X : Type 0} (xs : List X) (i : ℕ) (y : X) → length (slice_set xs i y) ≡ length xs
set_length [] i y = refl
set_length (x ∷ xs) zero y = refl
set_length (x ∷ xs) (suc i) y = ap suc (set_length xs i y)

-- a process past those of the logs has no interval
none_past : (past : Past) (p : ℕ) → length past.cut.now.lists ≤ p → count_in past p ≡ 0
none_past past p le =
    ap (λ (es : List Entry). length (seen_by (past_setting past) es).items)
    (get_or_past past.cut.now.lists p [] le)

module _ (past : Past) (p : ℕ) (old : Kept) (h : AreKeptOf past old) where
  -- where not all is kept, the process is one of the logs
  pub within : (length (get_or old p []) ≡ count_in past p → ⊥) → p < length old
  within missing = elim (split p (length old)) [
    | inl lt ↦ lt
    | inr le ↦ absurd (missing (both le))
  ]
    where
      split : (a b : ℕ) → (a < b) ⊎ (b ≤ a)
      split a zero = inr (omega arith)
      split zero (suc b) = inl (omega arith)
      split (suc a) (suc b) = elim (split a b) [ inl x ↦ inl (omega (arith, x)) | inr x ↦ inr (omega (arith, x)) ]

      both : length old ≤ p → length (get_or old p []) ≡ count_in past p
      both le =
          let count = h.count in
          let far : length past.cut.now.lists ≤ p = omega (arith, le, count) in
          ap length (get_or_past old p [] le) ∙ sym (none_past past p far)

  module _ (rows : List (List Item)) (missing : length (get_or old p []) ≡ count_in past p → ⊥) (new : Kept)
      (is : new ≡ slice_set old p rows) where
    rows_there : get_or new p [] ≡ rows
    rows_there = ap (λ (xs : Kept). get_or xs p []) is ∙ set_same old p rows [] (within missing)

    pub others_kept : AreOthersKept p old new
    others_kept q other = ap (λ (xs : Kept). get_or xs q []) is ∙ set_other old p q rows [] other

    pub now_kept : AreFirstItems past p rows → AreKeptOf past new
    now_kept first = record {
      items = λ q k items e. elim (cases_eq q p) [
        | inl same ↦
            let there : slice_get (get_or new p []) k ≡ Some items = subst (λ i. slice_get (get_or new i []) k ≡ Some items) same e in
            subst (λ i. AreReplayed past i k items) (sym same)
            (first k items (subst (λ (xs : List (List Item)). slice_get xs k ≡ Some items) rows_there there))
        | inr other ↦ h.items q k items (subst (λ (xs : List (List Item)). slice_get xs k ≡ Some items) (others_kept q other) e)
      ];
      count = ap length is ∙ set_length old p rows ∙ h.count;
    }

    pub all_kept : length rows ≡ count_in past p → IsAllKept past new p
    all_kept count = ap length rows_there ∙ count

pub no_others : (p : ℕ) (kept : Kept) → AreOthersKept p kept kept
no_others p kept q other = refl

-- ---- none yet

-- no interval of any process
pub none_kept : (past : Past) (kept : Kept) → IsNoneKept kept → length kept ≡ length past.cut.now.lists → AreKeptOf past kept
none_kept past kept none count = record {
  items = λ p k items e. absurd (none-some items (subst (λ (xs : List (List Item)). slice_get xs k ≡ Some items) (none p) e));
  count = count;
}

pub none_more : (kept : Kept) → IsNoneKept kept → IsNoneKept (kept ++ [] ∷ [])
none_more kept none p = by kept p (none p)
  where
    by : (xs : Kept) (q : ℕ) → get_or xs q [] ≡ [] → get_or (xs ++ [] ∷ []) q [] ≡ []
    by [] zero e = refl
    by [] (suc q) e = refl
    by (x ∷ xs) zero e = e
    by (x ∷ xs) (suc q) e = by xs q e

pub none_pushed : (kept new : Kept) (rows : List (List Item)) → new ≡ kept ++ rows ∷ [] → rows ≡ [] → IsNoneKept kept → IsNoneKept new
none_pushed kept new rows is empty none =
    subst IsNoneKept (sym (is ∙ ap (λ (r : List (List Item)). kept ++ r ∷ []) empty)) (none_more kept none)

-- ---- what it cost

-- one of the numbers that are summed up is another one
sum_other : (f g : ℕ → ℕ) (p n : ℕ) → ((q : ℕ) → (q ≡ p → ⊥) → g q ≡ f q) → n ≤ p → sum_below g n ≡ sum_below f n
sum_other f g p zero same le = refl
sum_other f g p (suc n) same le =
    let rest : sum_below g n ≡ sum_below f n = sum_other f g p n same (omega (arith, le)) in
    let last : g n ≡ f n = same n (λ e. absurd (omega (arith, e, le))) in
    omega (arith, rest, last)

sum_one : (f g : ℕ → ℕ) (p n : ℕ) → ((q : ℕ) → (q ≡ p → ⊥) → g q ≡ f q) → p < n
    → sum_below g n + f p ≡ sum_below f n + g p
sum_one f g p zero same lt = absurd (omega (arith, lt))
sum_one f g p (suc n) same lt = elim (cases_eq n p) [
  | inl is ↦
      let rest : sum_below g n ≡ sum_below f n = sum_other f g p n same (omega (arith, is)) in
      let one : g n ≡ g p = ap g is in
      let was : f n ≡ f p = ap f is in
      omega (arith, rest, one, was)
  | inr other ↦
      let rest : sum_below g n + f p ≡ sum_below f n + g p = sum_one f g p n same (omega (arith, lt, other)) in
      let last : g n ≡ f n = same n other in
      omega (arith, rest, last)
]

module _ (past : Past) (p : ℕ) (old new : Kept) (others : AreOthersKept p old new)
    (missing : length (get_or old p []) ≡ count_in past p → ⊥) (all : IsAllKept past new p) where
  before_none : steps_kept_of past old p ≡ 0
  before_none = by (nat_eq (length (get_or old p [])) (count_in past p)) refl
    where
      by : (b : Bool) → nat_eq (length (get_or old p [])) (count_in past p) ≡ b
          → (if b then process_steps past p else 0) ≡ 0
      by false e = refl
      by true e = absurd (missing (eqb-true (length (get_or old p [])) (count_in past p) e))

  now_all : steps_kept_of past new p ≡ process_steps past p
  now_all = ap (λ b. if b then process_steps past p else 0) (eq-eqb (length (get_or new p [])) (count_in past p) all)

  -- by the steps of the process that is kept now
  pub rose_by_kept : (n m : ℕ) → p < length past.cut.now.lists → m ≡ n + process_steps past p → RoseByKept past old new n m
  rose_by_kept n m lt rose =
      let sum = sum_one (steps_kept_of past old) (steps_kept_of past new) p (length past.cut.now.lists)
      (λ q other. ap (λ (rows : List (List Item)). if nat_eq (length rows) (count_in past q) then process_steps past q else 0) (others q other)) lt in
      let was = before_none in
      let now = now_all in
      omega (arith, sum, was, now, rose)

-- the sum of one number more
pub sum_next : (f : ℕ → ℕ) (n : ℕ) → sum_below f (n + 1) ≡ sum_below f n + f n
sum_next f n =
    let e : n + 1 ≡ suc n = omega arith in
    ap (sum_below f) e

-- what is so of an answer with both
pub on_both : {A E P Q R : Type 0} (r : Result A E) → OnOk r P → OnOk r Q → (P → Q → R) → OnOk r R
on_both (Ok x) p q f = f p q
on_both (Err e) p q f = tt

-- of a process that is kept newly
module _ (past : Past) (p : ℕ) (old new : Kept) (h : AreKeptOf past old) (rows : List (List Item))
    (missing : length (get_or old p []) ≡ count_in past p → ⊥) (is : new ≡ slice_set old p rows) where
  pub rose_newly : (n m : ℕ) → length rows ≡ count_in past p → m ≡ n + process_steps past p → RoseByKept past old new n m
  rose_newly n m all rose =
      rose_by_kept past p old new (others_kept past p old h rows missing new is) missing
      (all_kept past p old h rows missing new is all) n m
      (subst (λ k. p < k) h.count (within past p old h missing)) rose
