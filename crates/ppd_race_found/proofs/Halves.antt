-- A sorted list is cut by halves; its edges that are neither before an edge of another process nor after it stand together.
use Rattle.std.proofs.Common.{◌≡◌, ℕ, zero, suc, ◌+◌, ◌-◌, ◌*◌, ◌^◌, ◌<◌, ◌≤◌, List, [], ◌∷◌, Bool, true, false, not, refl, ap, ap₂, sym, subst, ◌∙◌, arith, inl, inr, length, filter, get_or, take, drop, min, cond, true≢false, lt-ltb, ltb-true, ne_eqb, ◌&&◌}
use Rattle.std.specs.Prelude.{nat_eq, nat_lt}
use Rattle.std.specs.List.{slice_range}
use Rattle.std.proofs.Math.Nat.{add-mul, mul-add, pow-le-pow_right, pow-suc}
use Rattle.std.proofs.lemmas.Bool.{cases_lt, cond-false}
use Rattle.std.proofs.lemmas.Nat.{mul-le}
use Rattle.ppd_model.specs.declared.graph.EdgeId.{EdgeId}
use Rattle.ppd_model.proofs.Lists.{get_or_any}
use Rattle.ppd_graph.specs.declared.sync_graph.SyncGraph.{SyncGraph}
use Rattle.ppd_graph.specs.Graphs.{count_at, is_before_by}
use Rattle.ppd_race_found.specs.declared.busy.Accessor.{Accessor}
use Rattle.ppd_race_found.specs.declared.apart.Side.TheVariants.{Before, NotAfter}
use Rattle.ppd_race_found.specs.Search.{IsRising, AreInOrder, AreParted, IsCut, IsElsewhere, is_apart, is_on}

-- ---- halves

not_so : (b : Bool) → (b ≡ true → ⊥) → b ≡ false
not_so true h = absurd (h refl)
not_so false h = refl

module _ (test : EdgeId → Bool) (list : List Accessor) where
  -- those before `low` pass, and those from `high` on do not
  pub record Halved (low high : ℕ) : Type 0 where
    pub first : AreParted test list → (k : ℕ) (d : Accessor) → k < low → k < length list → test (get_or list k d).edge ≡ true
    pub others : AreParted test list → (k : ℕ) (d : Accessor) → high ≤ k → k < length list → test (get_or list k d).edge ≡ false

  pub halved_none : (n : ℕ) → n ≡ length list → Halved 0 n
  halved_none n e = record { first = λ parted k d lt there. absurd (omega (arith, lt)); others = λ parted k d le there. absurd (omega (arith, e, le, there)) }

  pub halved_up : (low high middle : ℕ) (x : Accessor) (holds : Bool) → middle < length list → holds ≡ test (get_or list middle x).edge → holds ≡ true → Halved low high → Halved (middle + 1) high
  halved_up low high middle x holds inside is passes h = record {
    first = λ parted k d lt there. parted k middle d (omega (arith, lt)) inside (ap (λ (y : Accessor). test y.edge) (get_or_any list middle d x inside) ∙ sym is ∙ passes);
    others = h.others;
  }

  pub halved_down : (low high middle : ℕ) (x : Accessor) (holds : Bool) → middle < length list → holds ≡ test (get_or list middle x).edge → holds ≡ false → Halved low high → Halved low middle
  halved_down low high middle x holds inside is fails h = record {
    first = h.first;
    others = λ parted k d le there. not_so (test (get_or list k d).edge) (λ t.
        true≢false (sym (parted middle k d le there t) ∙ ap (λ (y : Accessor). test y.edge) (get_or_any list middle d x inside) ∙ sym is ∙ fails));
  }

  pub halved_cut : (low high : ℕ) → high ≤ low → Halved low high → AreParted test list → IsCut test list low
  halved_cut low high le h parted = record { first = h.first parted; others = λ k d after there. h.others parted k d (omega (arith, le, after)) there }

-- each half is at most half
pub half_less : (size new t n : ℕ) → new + new ≤ size → size * 2 ^ t ≤ n → new * 2 ^ (t + 1) ≤ n
half_less size new t n h within =
    let more : t + 1 ≡ suc t = omega arith in
    let twice : 2 ^ suc t ≡ 2 ^ t * 2 = pow-suc 2 t in
    let both : 2 ^ (t + 1) ≡ 2 ^ t + 2 ^ t = ap (λ k. 2 ^ k) more ∙ twice ∙ (let e : 2 ^ t * 2 ≡ 2 ^ t + 2 ^ t = omega arith in e) in
    let one : new * 2 ^ (t + 1) ≡ new * 2 ^ t + new * 2 ^ t = ap (λ k. new * k) both ∙ mul-add new (2 ^ t) (2 ^ t) in
    let two : (new + new) * 2 ^ t ≡ new * 2 ^ t + new * 2 ^ t = add-mul new new (2 ^ t) in
    let less : (new + new) * 2 ^ t ≤ size * 2 ^ t = mul-le (new + new) (2 ^ t) size (2 ^ t) h (omega arith) in
    omega (arith, one, two, less, within)

-- there are at most 64 of them
pub few_halves : (size t n : ℕ) → 0 < size → size * 2 ^ t ≤ n → n < 2 ^ 64 → t < 64
few_halves size t n some within small = elim (cases_lt t 64) [
  | inl lt ↦ lt
  | inr le ↦
      let high : 2 ^ 64 ≤ 2 ^ t = pow-le-pow_right {n = 2} (omega arith) {i = 64} {j = t} (omega (arith, le)) in
      let once : 1 * 2 ^ t ≤ size * 2 ^ t = mul-le 1 (2 ^ t) size (2 ^ t) (omega (arith, some)) (omega arith) in
      absurd (omega (arith, high, once, within, small))
]

pub first_halves : (n m s : ℕ) → n ≡ m → (n - 0) * 2 ^ (s - s) ≤ m
first_halves n m s e =
    let none : s - s ≡ 0 = omega arith in
    let same : (n - 0) * 2 ^ (s - s) ≡ (n - 0) * 1 = ap (λ t. (n - 0) * 2 ^ t) none in
    omega (arith, same, e)

pub next_halves : (size new old before now n : ℕ) → old ≤ before → now ≡ before + 1 → new + new ≤ size → size * 2 ^ (before - old) ≤ n → new * 2 ^ (now - old) ≤ n
next_halves size new old before now n le one h within =
    let more : now - old ≡ (before - old) + 1 = omega (arith, le, one) in
    subst (λ t. new * 2 ^ t ≤ n) (sym more) (half_less size new (before - old) n h within)

-- of what is left at most one more than half is gone
half_more : (size new t n : ℕ) → size ≤ new + new + 2 → n + 2 ≤ (size + 2) * 2 ^ t → n + 2 ≤ (new + 2) * 2 ^ (t + 1)
half_more size new t n h within =
    let more : t + 1 ≡ suc t = omega arith in
    let twice : 2 ^ suc t ≡ 2 ^ t * 2 = pow-suc 2 t in
    let both : 2 ^ (t + 1) ≡ 2 ^ t + 2 ^ t = ap (λ k. 2 ^ k) more ∙ twice ∙ (let e : 2 ^ t * 2 ≡ 2 ^ t + 2 ^ t = omega arith in e) in
    let one : (new + 2) * 2 ^ (t + 1) ≡ (new + 2) * 2 ^ t + (new + 2) * 2 ^ t = ap (λ k. (new + 2) * k) both ∙ mul-add (new + 2) (2 ^ t) (2 ^ t) in
    let two : ((new + 2) + (new + 2)) * 2 ^ t ≡ (new + 2) * 2 ^ t + (new + 2) * 2 ^ t = add-mul (new + 2) (new + 2) (2 ^ t) in
    let less : (size + 2) * 2 ^ t ≤ ((new + 2) + (new + 2)) * 2 ^ t = mul-le (size + 2) (2 ^ t) ((new + 2) + (new + 2)) (2 ^ t) (omega (arith, h)) (omega arith) in
    omega (arith, one, two, less, within)

pub first_left : (n m s : ℕ) → n ≡ m → m + 2 ≤ (n - 0 + 2) * 2 ^ (s - s)
first_left n m s e =
    let none : s - s ≡ 0 = omega arith in
    let same : (n - 0 + 2) * 2 ^ (s - s) ≡ (n - 0 + 2) * 1 = ap (λ t. (n - 0 + 2) * 2 ^ t) none in
    omega (arith, same, e)

pub next_left : (size new old before now n : ℕ) → old ≤ before → now ≡ before + 1 → size ≤ new + new + 2 → n + 2 ≤ (size + 2) * 2 ^ (before - old) → n + 2 ≤ (new + 2) * 2 ^ (now - old)
next_left size new old before now n le one h within =
    let more : now - old ≡ (before - old) + 1 = omega (arith, le, one) in
    subst (λ t. n + 2 ≤ (new + 2) * 2 ^ t) (sym more) (half_more size new (before - old) n h within)

pub last_left : (size t n : ℕ) → size ≡ 0 → n + 2 ≤ (size + 2) * 2 ^ t → n + 2 ≤ 2 * 2 ^ t
last_left size t n none within =
    let two : size + 2 ≡ 2 = omega (arith, none) in
    subst (λ k. n + 2 ≤ k * 2 ^ t) two within

-- ---- the part of a list that passes a test

none_passes : {A : Type 0} (test : A → Bool) (xs : List A) → ((k : ℕ) (d : A) → k < length xs → test (get_or xs k d) ≡ false) → filter test xs ≡ []
none_passes test [] h = refl
none_passes test (x ∷ xs) h = ap (λ b. cond b (x ∷ filter test xs) (filter test xs)) (h 0 x (omega arith)) ∙ none_passes test xs (λ k d lt. h (suc k) d (omega (arith, lt)))

part_passes : {A : Type 0} (test : A → Bool) (xs : List A) (b n : ℕ) → ((k : ℕ) (d : A) → k < b → k < length xs → test (get_or xs k d) ≡ false) → ((k : ℕ) (d : A) → b ≤ k → k < b + n → k < length xs → test (get_or xs k d) ≡ true)
    → ((k : ℕ) (d : A) → b + n ≤ k → k < length xs → test (get_or xs k d) ≡ false) → take n (drop b xs) ≡ filter test xs
part_passes test [] zero zero h inside after = refl
part_passes test [] zero (suc n) h inside after = refl
part_passes test [] (suc b) zero h inside after = refl
part_passes test [] (suc b) (suc n) h inside after = refl
part_passes test (x ∷ xs) zero zero h inside after = sym (none_passes test (x ∷ xs) (λ k d lt. after k d (omega arith) lt))
part_passes test (x ∷ xs) zero (suc n) h inside after =
    ap (λ r. x ∷ r) (part_passes test xs zero n (λ k d lt there. absurd (omega (arith, lt))) (λ k d le lt there. inside (suc k) d (omega arith) (omega (arith, lt)) (omega (arith, there))) (λ k d le there. after (suc k) d (omega (arith, le)) (omega (arith, there))))
    ∙ sym (ap (λ b. cond b (x ∷ filter test xs) (filter test xs)) (inside 0 x (omega arith) (omega arith) (omega arith)))
part_passes test (x ∷ xs) (suc b) n h inside after =
    part_passes test xs b n (λ k d lt there. h (suc k) d (omega (arith, lt)) (omega (arith, there))) (λ k d le lt there. inside (suc k) d (omega (arith, le)) (omega (arith, lt)) (omega (arith, there)))
    (λ k d le there. after (suc k) d (omega (arith, le)) (omega (arith, there)))
    ∙ sym (ap (λ b. cond b (x ∷ filter test xs) (filter test xs)) (h 0 x (omega arith) (omega arith)))

-- ---- the edges that are apart from another

not_true : (b : Bool) → not b ≡ true → b ≡ false
not_true true h = absurd (true≢false (sym h))
not_true false h = refl

module _ (g : SyncGraph) (p : ℕ) (list : List Accessor) (b : EdgeId) (rising : IsRising g) (order : AreInOrder g p list) (elsewhere : IsElsewhere g p b) where
  is_before : (a : EdgeId) → a.process ≡ p → is_before_by g a b ≡ nat_lt a.edge (count_at g.times b.process b.edge p)
  is_before a e =
      cond-false (nat_eq a.process b.process) (nat_lt a.edge b.edge) (nat_lt a.edge (count_at g.times b.process b.edge a.process)) (ne_eqb a.process b.process (λ k. elsewhere.other (sym k ∙ e)))
      ∙ ap (λ q. nat_lt a.edge (count_at g.times b.process b.edge q)) e

  is_after : (a : EdgeId) → a.process ≡ p → is_before_by g b a ≡ nat_lt b.edge (count_at g.times p a.edge b.process)
  is_after a e =
      cond-false (nat_eq b.process a.process) (nat_lt b.edge a.edge) (nat_lt b.edge (count_at g.times a.process a.edge b.process)) (ne_eqb b.process a.process (λ k. elsewhere.other (k ∙ e)))
      ∙ ap (λ q. nat_lt b.edge (count_at g.times q a.edge b.process)) e

  parted_before : AreParted (is_on g Before b) list
  parted_before i j d le lt h =
      let rise = order.rise i j d le lt in
      let less = ltb-true (get_or list j d).edge.edge (count_at g.times b.process b.edge p) (sym (is_before (get_or list j d).edge (order.process j d lt)) ∙ h) in
      is_before (get_or list i d).edge (order.process i d (omega (arith, le, lt))) ∙ lt-ltb (get_or list i d).edge.edge (count_at g.times b.process b.edge p) (omega (arith, rise, less))

  parted_after : AreParted (is_on g NotAfter b) list
  parted_after i j d le lt h = ap not (not_so (is_before_by g b (get_or list i d).edge) (λ before.
      let here = ltb-true b.edge (count_at g.times p (get_or list i d).edge.edge b.process) (sym (is_after (get_or list i d).edge (order.process i d (omega (arith, le, lt)))) ∙ before) in
      let more = rising b.process p (get_or list i d).edge.edge (get_or list j d).edge.edge elsewhere.there (order.rise i j d le lt) (order.there j d lt) in
      let there : is_before_by g b (get_or list j d).edge ≡ true = is_after (get_or list j d).edge (order.process j d lt) ∙ lt-ltb b.edge (count_at g.times p (get_or list j d).edge.edge b.process) (omega (arith, here, more)) in
      true≢false (sym there ∙ not_true (is_before_by g b (get_or list j d).edge) h)))

  pub window_is : (from end begin : ℕ) → (AreParted (is_on g Before b) list → IsCut (is_on g Before b) list from) → (AreParted (is_on g NotAfter b) list → IsCut (is_on g NotAfter b) list end)
      → begin ≡ min from end → slice_range list begin end ≡ filter (is_apart g b) list
  window_is from end begin cut cut' is =
      let first = cut parted_before in
      let last = cut' parted_after in
      let sum : begin + (end - begin) ≡ end = omega (arith, is) in
      part_passes (is_apart g b) list begin (end - begin)
      (λ k d lt there. ap (λ t. not t && not (is_before_by g b (get_or list k d).edge)) (first.first k d (omega (arith, is, lt)) there))
      (λ k d le lt there. ap₂ (λ s t. not s && t) (first.others k d (omega (arith, is, le, lt, sum)) there) (last.first k d (omega (arith, lt, sum)) there))
      (λ k d le there. and_no (not (is_before_by g (get_or list k d).edge b)) (not (is_before_by g b (get_or list k d).edge)) (last.others k d (omega (arith, le, sum)) there))
    where
      and_no : (s t : Bool) → t ≡ false → (s && t) ≡ false
      and_no true t e = e
      and_no false t e = refl
