-- The intervals of a log by its entries: where one is opened and left, and the innermost one at an entry.
use Rattle.std.proofs.Common.{◌≡◌, ℕ, zero, suc, ◌+◌, ◌<◌, ◌≤◌, true, false, List, [], ◌∷◌, ◌++◌, Some, None, refl, ap, sym, subst, ◌∙◌, arith, length, length-append, inl, inr, ◌⊎◌}
use Rattle.std.specs.Prelude.{⊤, drop, fold, option_map, slice_get}
use Rattle.std.proofs.lemmas.Bool.{cases_eq}
use Rattle.std.proofs.lemmas.Option.{none-some}
use Rattle.ppd_model.specs.declared.entry.Entry.{Entry}
use Rattle.ppd_model.specs.declared.entry.Entry.TheVariants as entry
use Rattle.ppd_model.specs.Extents.{Extent}
use Rattle.ppd_model.proofs.ExtentWords.{Extending, extend, begun_extents, ended_by, left_by}
use Rattle.ppd_model.specs.World.{change}
use Rattle.ppd_model.proofs.Changes.{change-at, change-else, length-change, some}
use Rattle.ppd_model.proofs.CountedOn.{kept_at}
use Rattle.ppd_model.proofs.Extents.{IsIn, Fall, ended_length, close_by, last_by}
use Rattle.law_flow.proofs.Edges.Spans.Facts.{at}
use Rattle.ppd_ast.proofs.ValidLaws.{slice_get_there, slice_get_below}

-- ---- one entry

falls_on : (m n : ℕ) (ks : List ℕ) → m ≤ n → Fall m ks → Fall n ks
falls_on m n [] le f = tt
falls_on m n (k ∷ ks) le f = (omega (arith, le, f.0), f.1)

falls_rest : (n : ℕ) (ks : List ℕ) → Fall n ks → Fall n (drop 1 ks)
falls_rest n [] f = tt
falls_rest n (k ∷ ks) f = falls_on k n ks (omega (arith, f.0)) f.1

-- an interval that is not running stays as it is; one that is there keeps its prelog; its last entry is that of
-- before or the new one
ended_else : (j m : ℕ) (ks : List ℕ) (xs : List Extent) → (IsIn m ks → ⊥) → slice_get (ended_by j ks xs) m ≡ slice_get xs m
ended_else j m [] xs out = refl
ended_else j m (k ∷ ks) xs out =
    ended_else j m ks (change (last_by j) k xs) (λ i. out (inr i)) ∙ change-else (last_by j) k m xs (λ e. out (inl e))

-- what an entry makes of an interval
pub record Became (j : ℕ) (x y : Extent) : Type 0 where
  pub prelog : y.prelog ≡ x.prelog
  pub last : (y.last ≡ x.last) ⊎ (y.last ≡ Some j)

pub became_same : (j : ℕ) (x : Extent) → Became j x x
became_same j x = record { prelog = refl; last = inl refl }

became_two : (j : ℕ) (x y z : Extent) → Became j x y → Became j y z → Became j x z
became_two j x y z a b = record {
  prelog = b.prelog ∙ a.prelog;
  last = elim b.last [ inl e ↦ elim a.last [ inl f ↦ inl (e ∙ f) | inr f ↦ inr (e ∙ f) ] | inr e ↦ inr e ];
}

changed_one : (j : ℕ) (f : Extent → Extent) → ((x : Extent) → Became j x (f x)) → (k m : ℕ) (xs : List Extent) (x : Extent) → slice_get xs m ≡ Some x → (y : Extent) × (slice_get (change f k xs) m ≡ Some y) × Became j x y
changed_one j f becomes k m xs x e = elim (cases_eq m k) [
  | inl same ↦ (f x, ap (λ z. slice_get (change f k xs) z) same ∙ change-at f k xs ∙ ap (option_map f) (ap (λ z. slice_get xs z) (sym same) ∙ e), becomes x)
  | inr other ↦ (x, change-else f k m xs other ∙ e, became_same j x)
]

pub ended_one : (j m : ℕ) (ks : List ℕ) (xs : List Extent) (x : Extent) → slice_get xs m ≡ Some x → (y : Extent) × (slice_get (ended_by j ks xs) m ≡ Some y) × Became j x y
ended_one j m [] xs x e = (x, e, became_same j x)
ended_one j m (k ∷ ks) xs x e =
    let one = changed_one j (last_by j) (λ z. record { prelog = refl; last = inr refl }) k m xs x e in
    let rest = ended_one j m ks (change (last_by j) k xs) one.0 one.1 in
    (rest.0, rest.1, became_two j x one.0 rest.0 one.2 rest.2)

-- an end is the last entry of each that runs
pub ended_in : (j m : ℕ) (ks : List ℕ) (xs : List Extent) (x : Extent) → slice_get xs m ≡ Some x → IsIn m ks → (y : Extent) × (slice_get (ended_by j ks xs) m ≡ Some y) × (y.prelog ≡ x.prelog) × (y.last ≡ Some j)
ended_in j m [] xs x e i = absurd i
ended_in j m (k ∷ ks) xs x e (inl same) =
    let here : slice_get (change (last_by j) k xs) m ≡ Some (record x { last = Some j }) =
    ap (λ z. slice_get (change (last_by j) k xs) z) same ∙ change-at (last_by j) k xs ∙ ap (option_map (last_by j)) (ap (λ z. slice_get xs z) (sym same) ∙ e) in
    let rest = ended_one j m ks (change (last_by j) k xs) (record x { last = Some j }) here in
    (rest.0, rest.1, rest.2.prelog, elim rest.2.last [ inl f ↦ f | inr f ↦ f ])
ended_in j m (k ∷ ks) xs x e (inr i) =
    let one = changed_one j (last_by j) (λ z. record { prelog = refl; last = inr refl }) k m xs x e in
    let rest = ended_in j m ks (change (last_by j) k xs) one.0 one.1 i in
    (rest.0, rest.1, rest.2 ∙ one.2.prelog, rest.3)

pub left_one : (j m : ℕ) (ks : List ℕ) (xs : List Extent) (x : Extent) → slice_get xs m ≡ Some x → (y : Extent) × (slice_get (left_by j ks xs) m ≡ Some y) × Became j x y
left_one j m [] xs x e = (x, e, became_same j x)
left_one j m (k ∷ ks) xs x e = changed_one j (close_by j) (λ z. record { prelog = refl; last = inr refl }) k m xs x e

-- an entry keeps each interval, in this way
pub stays : (y : Extending) (e : Entry) (m : ℕ) (x : Extent) → slice_get y.intervals m ≡ Some x → (z : Extent) × (slice_get (extend y e).intervals m ≡ Some z) × Became y.entry x z
stays y (entry.Prelog b vs) m x at' = (x, kept_at y.intervals _ m x at', became_same y.entry x)
stays y (entry.Postlog b vs) m x at' = left_one y.entry m y.running y.intervals x at'
stays y (entry.End st rest reads writes) m x at' = ended_one y.entry m y.running y.intervals x at'
stays y e m x at' = (x, at', became_same y.entry x)

-- ---- one that is not running

pub left_length : (j : ℕ) (ks : List ℕ) (xs : List Extent) → length (left_by j ks xs) ≡ length xs
left_length j [] xs = refl
left_length j (k ∷ ks) xs = length-change (close_by j) k xs

out_rest : (m : ℕ) (ks : List ℕ) → (IsIn m ks → ⊥) → IsIn m (drop 1 ks) → ⊥
out_rest m [] out i = out i
out_rest m (k ∷ ks) out i = out (inr i)

left_else : (j m : ℕ) (ks : List ℕ) (xs : List Extent) → (IsIn m ks → ⊥) → slice_get (left_by j ks xs) m ≡ slice_get xs m
left_else j m [] xs out = refl
left_else j m (k ∷ ks) xs out = change-else (close_by j) k m xs (λ e. out (inl e))

pub still_one : (y : Extending) (es : List Entry) (m : ℕ) (x : Extent) → slice_get y.intervals m ≡ Some x → (IsIn m y.running → ⊥) → slice_get (fold extend y es).intervals m ≡ Some x
still_one y [] m x e out = e
still_one y (entry.Prelog b vs ∷ es) m x e out =
    still_one (extend y (entry.Prelog b vs)) es m x (kept_at y.intervals _ m x e) (λ i. elim i [ inl f ↦ (let lt : m < length y.intervals = slice_get_below y.intervals m x e in omega (arith, lt, f)) | inr i' ↦ out i' ])
still_one y (entry.Postlog b vs ∷ es) m x e out =
    still_one (extend y (entry.Postlog b vs)) es m x (left_else y.entry m y.running y.intervals out ∙ e) (out_rest m y.running out)
still_one y (entry.End st rest reads writes ∷ es) m x e out =
    still_one (extend y (entry.End st rest reads writes)) es m x (ended_else y.entry m y.running y.intervals out ∙ e) out
still_one y (entry.Unit u vs ∷ es) m x e out = still_one (extend y (entry.Unit u vs)) es m x e out
still_one y (entry.Sync kind object number value reads writes ∷ es) m x e out = still_one (extend y (entry.Sync kind object number value reads writes)) es m x e out

-- ---- what holds of the intervals so far

-- running numbers fall and are of intervals; an interval stands after its prelog, and one that is not running has a
-- last entry
pub record IsLog (y : Extending) : Type 0 where
  pub falls : Fall (length y.intervals) y.running
  pub prelogs : (m : ℕ) (x : Extent) → slice_get y.intervals m ≡ Some x → x.prelog < y.entry
  pub left : (m : ℕ) (x : Extent) → slice_get y.intervals m ≡ Some x → IsIn m y.running ⊎ ((l : ℕ) × (x.last ≡ Some l) × (l < y.entry))

pub new_cases : (xs : List Extent) (y : Extent) (k : ℕ) (j : Extent) → slice_get (xs ++ y ∷ []) k ≡ Some j → (slice_get xs k ≡ Some j) ⊎ ((k ≡ length xs) × (y ≡ j))
new_cases [] y zero j e = inr (refl, some e)
new_cases [] y (suc k) j e = absurd (none-some j e)
new_cases (x ∷ xs) y zero j e = inl e
new_cases (x ∷ xs) y (suc k) j e = elim (new_cases xs y k j e) [ inl a ↦ inl a | inr b ↦ inr (ap (λ n. suc n) b.0, b.1) ]

-- what stood at a place before
pub came : (y : Extending) (xs : List Extent) → length xs ≡ length y.intervals → ((m : ℕ) (x : Extent) → slice_get y.intervals m ≡ Some x → (z : Extent) × (slice_get xs m ≡ Some z) × Became y.entry x z)
    → (m : ℕ) (z : Extent) → slice_get xs m ≡ Some z → (x : Extent) × (slice_get y.intervals m ≡ Some x) × Became y.entry x z
came y xs same stay m z e =
    let lt : m < length xs = slice_get_below xs m z e in
    let old = slice_get_there y.intervals m (omega (arith, lt, same)) in
    let now = stay m old.0 old.1 in
    (old.0, old.1, subst (λ w. Became y.entry old.0 w) (some (sym now.1 ∙ e)) now.2)

later_last : (j : ℕ) (x z : Extent) → Became j x z → ((l : ℕ) × (x.last ≡ Some l) × (l < j)) → (l : ℕ) × (z.last ≡ Some l) × (l < j + 1)
later_last j x z b h = elim b.last [
  | inl e ↦ (h.0, e ∙ h.1, (let lt = h.2 in omega (arith, lt)))
  | inr e ↦ (j, e, omega arith)
]

log_one : (y : Extending) (e : Entry) → IsLog y → IsLog (extend y e)
log_one y (entry.Prelog b vs) h = record {
  falls = (let z = length-append y.intervals ((record { block = b; parent = slice_get y.running 0; prelog = y.entry; last = None; closed = false }) ∷ []) in omega (arith, z), h.falls);
  prelogs = λ m x f. elim (new_cases y.intervals _ m x f) [
    | inl old ↦ (let lt = h.prelogs m x old in omega (arith, lt))
    | inr new ↦ (let z : y.entry ≡ x.prelog = ap (λ (w : Extent). w.prelog) new.1 in omega (arith, z))
  ];
  left = λ m x f. elim (new_cases y.intervals _ m x f) [
    | inl old ↦ elim (h.left m x old) [ inl i ↦ inl (inr i) | inr l ↦ inr (l.0, l.1, (let lt = l.2 in omega (arith, lt))) ]
    | inr new ↦ inl (inl new.0)
  ];
}
log_one y (entry.Postlog b vs) h =
    let stay = λ (m : ℕ) (x : Extent) (e : slice_get y.intervals m ≡ Some x). left_one y.entry m y.running y.intervals x e in
    record {
      falls = subst (λ k. Fall k (drop 1 y.running)) (sym (left_length y.entry y.running y.intervals)) (falls_rest (length y.intervals) y.running h.falls);
      prelogs = λ m z f.
          let c = came y (left_by y.entry y.running y.intervals) (left_length y.entry y.running y.intervals) stay m z f in
          let lt = h.prelogs m c.0 c.1 in
          let same = c.2.prelog in
          omega (arith, lt, same);
      left = λ m z f.
          let c = came y (left_by y.entry y.running y.intervals) (left_length y.entry y.running y.intervals) stay m z f in
          elim (h.left m c.0 c.1) [
            | inl i ↦ by m z c.0 y.running f c.1 i
            | inr l ↦ inr (later_last y.entry c.0 z c.2 l)
          ];
    }
  where
    by : (m : ℕ) (z x : Extent) (ks : List ℕ) → slice_get (left_by y.entry ks y.intervals) m ≡ Some z → slice_get y.intervals m ≡ Some x → IsIn m ks → IsIn m (drop 1 ks) ⊎ ((l : ℕ) × (z.last ≡ Some l) × (l < y.entry + 1))
    by m z x [] f g i = absurd i
    by m z x (k ∷ ks) f g (inl same) =
        let here : slice_get (change (close_by y.entry) k y.intervals) m ≡ Some (record x { last = Some y.entry; closed = true }) =
        ap (λ w. slice_get (change (close_by y.entry) k y.intervals) w) same ∙ change-at (close_by y.entry) k y.intervals
        ∙ ap (option_map (close_by y.entry)) (ap (λ w. slice_get y.intervals w) (sym same) ∙ g) in
        inr (y.entry, ap (λ (w : Extent). w.last) (some (sym f ∙ here)), omega arith)
    by m z x (k ∷ ks) f g (inr i) = inl i
log_one y (entry.End st rest reads writes) h =
    let stay = λ (m : ℕ) (x : Extent) (e : slice_get y.intervals m ≡ Some x). ended_one y.entry m y.running y.intervals x e in
    record {
      falls = subst (λ k. Fall k y.running) (sym (ended_length y.entry y.running y.intervals)) h.falls;
      prelogs = λ m z f.
          let c = came y (ended_by y.entry y.running y.intervals) (ended_length y.entry y.running y.intervals) stay m z f in
          let lt = h.prelogs m c.0 c.1 in
          let same = c.2.prelog in
          omega (arith, lt, same);
      left = λ m z f.
          let c = came y (ended_by y.entry y.running y.intervals) (ended_length y.entry y.running y.intervals) stay m z f in
          elim (h.left m c.0 c.1) [
            | inl i ↦ inl i
            | inr l ↦ inr (later_last y.entry c.0 z c.2 l)
          ];
    }
log_one y (entry.Unit u vs) h = record {
  falls = h.falls;
  prelogs = λ m x f. let lt = h.prelogs m x f in omega (arith, lt);
  left = λ m x f. elim (h.left m x f) [ inl i ↦ inl i | inr l ↦ inr (l.0, l.1, (let lt = l.2 in omega (arith, lt))) ];
}
log_one y (entry.Sync kind object number value reads writes) h = record {
  falls = h.falls;
  prelogs = λ m x f. let lt = h.prelogs m x f in omega (arith, lt);
  left = λ m x f. elim (h.left m x f) [ inl i ↦ inl i | inr l ↦ inr (l.0, l.1, (let lt = l.2 in omega (arith, lt))) ];
}

log_all : (y : Extending) (es : List Entry) → IsLog y → IsLog (fold extend y es)
log_all y [] h = h
log_all y (e ∷ es) h = log_all (extend y e) es (log_one y e h)

pub is_log : (entries : List Entry) → IsLog (at entries)
is_log entries = log_all begun_extents entries (record { falls = tt; prelogs = λ m x e. absurd (none-some x e); left = λ m x e. absurd (none-some x e) })
