-- The intervals of a log go from their prelogs to the postlogs that match.
use Rattle.std.proofs.Common.{◌≡◌, ℕ, suc, ◌+◌, ◌<◌, ℤ, true, false, List, [], ◌∷◌, ◌++◌, Option, Some, None, refl, ap, sym, subst, ◌∙◌, arith, length, inl, inr, ◌⊎◌, length-append, true≢false}
use Rattle.std.specs.Prelude.{drop, fold, option_map, slice_get, ⊤}
use Rattle.std.proofs.lemmas.Bool.{cases_eq}
use Rattle.std.proofs.lemmas.List.{append-nil, append_assoc}
use Rattle.std.proofs.lemmas.Option.{none-some}
use Rattle.ppd_model.specs.declared.entry.Entry.{Entry}
use Rattle.ppd_model.specs.declared.entry.Entry.TheVariants as entry
use Rattle.ppd_model.specs.Extents.{AreMatched, none, within, pair, AreOpen, matched, opened, Extent, ExtentsMatch, IsLeftAt, IsNotLeft, is_within}
use Rattle.ppd_model.proofs.ExtentWords.{Extending, begun_extents, ended_by, extend, extent_there, left_by}
use Rattle.ppd_model.specs.World.{change}
use Rattle.ppd_model.proofs.Changes.{change-at, change-else, length-change, some}
use Rattle.ppd_model.proofs.CountedOn.{kept_at, last_at, cases_at}

-- ---- matching lists

matched_append : (xs ys : List Entry) → AreMatched xs → AreMatched ys → AreMatched (xs ++ ys)
matched_append [] ys none n = n
matched_append (e ∷ es) ys (within w m) n = within w (matched_append es ys m n)
matched_append (entry.Prelog b vs ∷ es) ys (pair c ws inner' rest eq mi mr) n =
    pair c ws inner' (rest ++ ys) (ap (λ l. l ++ ys) eq ∙ append_assoc inner' (entry.Postlog c ws ∷ rest) ys) mi (matched_append rest ys mr n)

matched_pair : (b : ℕ) (vs : List ℤ) (c : ℕ) (ws : List ℤ) (inner' : List Entry) → AreMatched inner' → AreMatched (entry.Prelog b vs ∷ (inner' ++ entry.Postlog c ws ∷ []))
matched_pair b vs c ws inner' m = pair c ws inner' [] refl m none

open_append : (xs ys : List Entry) → AreMatched xs → AreOpen ys → AreOpen (xs ++ ys)
open_append xs ys m (matched n) = matched (matched_append xs ys m n)
open_append xs ys m (opened b vs inner' rest eq mi o) =
    opened b vs (xs ++ inner') rest (ap (λ l. xs ++ l) eq ∙ sym (append_assoc xs inner' (entry.Prelog b vs ∷ rest))) (matched_append xs inner' m mi) o

left_grow : (done more : List Entry) (i j : ℕ) → IsLeftAt done i j → IsLeftAt (done ++ more) i j
left_grow done more i j l = record {
  before = l.before;
  block = l.block;
  values = l.values;
  inner = l.inner;
  left = l.left;
  result = l.result;
  after = l.after ++ more;
  entries_are = ap (λ es. es ++ more) l.entries_are ∙ append_assoc l.before (entry.Prelog l.block l.values ∷ (l.inner ++ entry.Postlog l.left l.result ∷ l.after)) more
      ∙ ap (λ es. l.before ++ entry.Prelog l.block l.values ∷ es) (append_assoc l.inner (entry.Postlog l.left l.result ∷ l.after) more);
  first = l.first;
  last = l.last;
  between = l.between;
}

-- ---- running intervals

-- the numbers fall from below n
abbrev pub Fall : ℕ → List ℕ → Type 0
Fall n [] = ⊤
Fall n (k ∷ ks) = (k < n) × Fall k ks

abbrev pub IsIn : ℕ → List ℕ → Type 0
IsIn k [] = ⊥
IsIn k (m ∷ ms) = (k ≡ m) ⊎ IsIn k ms

pub in_below : (n : ℕ) (ks : List ℕ) (k : ℕ) → Fall n ks → IsIn k ks → k < n
in_below n [] k f i = absurd i
in_below n (m ∷ ms) k f (inl e) = omega (arith, e, f.0)
in_below n (m ∷ ms) k f (inr i) = let lt : k < m = in_below m ms k f.1 i in omega (arith, lt, f.0)

-- interval k runs: after its prelog all matches
record IsLevel (xs : List Extent) (done : List Entry) (k : ℕ) : Type 0 where
  before : List Entry
  block : ℕ
  values : List ℤ
  inner : List Entry
  done_is : done ≡ before ++ entry.Prelog block values ∷ inner
  matches : AreMatched inner
  extent : Extent
  there : slice_get xs k ≡ Some extent
  prelog : extent.prelog ≡ length before
  going : extent.closed ≡ false

-- these intervals run, each inside the next
abbrev Stack : List Extent → List Entry → List ℕ → Type 0
Stack xs done [] = ⊤
Stack xs done (k ∷ ks) = (l : IsLevel xs done k) × Stack xs l.before ks

abbrev level_grow : (xs : List Extent) (done more : List Entry) (k : ℕ) → AreMatched more → (l : IsLevel xs done k) → IsLevel xs (done ++ more) k
level_grow xs done more k m l = record {
  before = l.before;
  block = l.block;
  values = l.values;
  inner = l.inner ++ more;
  done_is = ap (λ es. es ++ more) l.done_is ∙ append_assoc l.before (entry.Prelog l.block l.values ∷ l.inner) more;
  matches = matched_append l.inner more l.matches m;
  extent = l.extent;
  there = l.there;
  prelog = l.prelog;
  going = l.going;
}

stack_grow : (xs : List Extent) (done more : List Entry) (ks : List ℕ) → AreMatched more → Stack xs done ks → Stack xs (done ++ more) ks
stack_grow xs done more [] m h = tt
stack_grow xs done more (k ∷ ks) m h = (level_grow xs done more k m h.0, h.1)

-- with other intervals, where each that runs is as before but for its last entry
pub record IsLike (e f : Extent) : Type 0 where
  pub prelog : f.prelog ≡ e.prelog
  pub closed : f.closed ≡ e.closed

abbrev AreLike : List Extent → List Extent → List ℕ → Type 0
AreLike xs ys ks = (k : ℕ) (e : Extent) → IsIn k ks → slice_get xs k ≡ Some e → (f : Extent) × (slice_get ys k ≡ Some f) × IsLike e f

abbrev level_like : (xs ys : List Extent) (done : List Entry) (k : ℕ) (f : Extent) → (l : IsLevel xs done k) → slice_get ys k ≡ Some f → IsLike l.extent f → IsLevel ys done k
level_like xs ys done k f l at like = record {
  before = l.before;
  block = l.block;
  values = l.values;
  inner = l.inner;
  done_is = l.done_is;
  matches = l.matches;
  extent = f;
  there = at;
  prelog = like.prelog ∙ l.prelog;
  going = like.closed ∙ l.going;
}

stack_like : (xs ys : List Extent) (done : List Entry) (ks : List ℕ) → AreLike xs ys ks → Stack xs done ks → Stack ys done ks
stack_like xs ys done [] like h = tt
stack_like xs ys done (k ∷ ks) like h =
    let now = like k h.0.extent (inl refl) h.0.there in
    (level_like xs ys done k now.0 h.0 now.1 now.2, stack_like xs ys h.0.before ks (λ m e i at. like m e (inr i) at) h.1)

stack_going : (xs : List Extent) (done : List Entry) (ks : List ℕ) (k : ℕ) (e : Extent) → Stack xs done ks → IsIn k ks → slice_get xs k ≡ Some e → e.closed ≡ false
stack_going xs done [] k e h i at = absurd i
stack_going xs done (m ∷ ms) k e h (inl same) at =
    let one : h.0.extent ≡ e = some (sym h.0.there ∙ subst (λ l. slice_get xs l ≡ Some e) same at) in
    ap (λ (x : Extent). x.closed) (sym one) ∙ h.0.going
stack_going xs done (m ∷ ms) k e h (inr i) at = stack_going xs h.0.before ms k e h.1 i at

-- a running interval has no postlog
not_left : (xs : List Extent) (done tail : List Entry) (ks : List ℕ) (k : ℕ) (e : Extent) → AreOpen tail → Stack xs done ks → IsIn k ks → slice_get xs k ≡ Some e → IsNotLeft (done ++ tail) e.prelog
not_left xs done tail [] k e o h i at = absurd i
not_left xs done tail (m ∷ ms) k e o h (inl same) at =
    let l : IsLevel xs done m = h.0 in
    let one : l.extent ≡ e = some (sym l.there ∙ subst (λ j. slice_get xs j ≡ Some e) same at) in
    record {
      before = l.before;
      block = l.block;
      values = l.values;
      rest = l.inner ++ tail;
      entries_are = ap (λ es. es ++ tail) l.done_is ∙ append_assoc l.before (entry.Prelog l.block l.values ∷ l.inner) tail;
      first = ap (λ (x : Extent). x.prelog) (sym one) ∙ l.prelog;
      since = open_append l.inner tail l.matches o;
    }
not_left xs done tail (m ∷ ms) k e o h (inr i) at =
    let l : IsLevel xs done m = h.0 in
    let more : List Entry = entry.Prelog l.block l.values ∷ (l.inner ++ tail) in
    let whole : done ++ tail ≡ l.before ++ more = ap (λ es. es ++ tail) l.done_is ∙ append_assoc l.before (entry.Prelog l.block l.values ∷ l.inner) tail in
    subst (λ es. IsNotLeft es e.prelog) (sym whole)
    (not_left xs l.before more ms k e (opened l.block l.values [] (l.inner ++ tail) refl none (open_append l.inner tail l.matches o)) h.1 i at)

-- ---- what holds of the intervals after some entries

record IsSound (done : List Entry) (x : Extending) : Type 0 where
  entry_is : x.entry ≡ length done
  stack : Stack x.intervals done x.running
  falls : Fall (length x.intervals) x.running
  left : (k : ℕ) (e : Extent) → slice_get x.intervals k ≡ Some e → e.closed ≡ true → (j : ℕ) × (e.last ≡ Some j) × IsLeftAt done e.prelog j
  runs : (k : ℕ) (e : Extent) → slice_get x.intervals k ≡ Some e → e.closed ≡ false → IsIn k x.running

pub one_longer : (done : List Entry) (e : Entry) (n : ℕ) → n ≡ length done → n + 1 ≡ length (done ++ e ∷ [])
one_longer done e n is = let more : length (done ++ e ∷ []) ≡ length done + 1 = length-append done (e ∷ []) in omega (arith, is, more)

-- an entry that matches by itself
quiet : (done : List Entry) (e : Entry) (x : Extending) → is_within e ≡ true → IsSound done x → IsSound (done ++ e ∷ []) (record x { entry = x.entry + 1 })
quiet done e x w h = record {
  entry_is = one_longer done e x.entry h.entry_is;
  stack = stack_grow x.intervals done (e ∷ []) x.running (within w none) h.stack;
  falls = h.falls;
  left = λ k f at is. let l = h.left k f at is in (l.0, l.1, left_grow done (e ∷ []) f.prelog l.0 l.2);
  runs = h.runs;
}

-- ---- a prelog

entered : (done : List Entry) (b : ℕ) (vs : List ℤ) (x : Extending) → IsSound done x → IsSound (done ++ entry.Prelog b vs ∷ []) (extend x (entry.Prelog b vs))
entered done b vs x h =
    let new : Extent = record { block = b; parent = slice_get x.running 0; prelog = x.entry; last = None; closed = false } in
    let longer : length (x.intervals ++ new ∷ []) ≡ length x.intervals + 1 = length-append x.intervals (new ∷ []) in
    record {
      entry_is = one_longer done (entry.Prelog b vs) x.entry h.entry_is;
      stack = (
        record { before = done; block = b; values = vs; inner = []; done_is = refl; matches = none; extent = new; there = last_at x.intervals new; prelog = h.entry_is; going = refl },
        stack_like x.intervals (x.intervals ++ new ∷ []) done x.running (λ k e i at. (e, kept_at x.intervals (new ∷ []) k e at, record { prelog = refl; closed = refl })) h.stack,
      );
      falls = (omega (arith, longer), h.falls);
      left = λ k e at is. elim (cases_at x.intervals new k e at) [
        | inl old ↦ let l = h.left k e old is in (l.0, l.1, left_grow done (entry.Prelog b vs ∷ []) e.prelog l.0 l.2)
        | inr now ↦ absurd (true≢false (sym is ∙ ap (λ (z : Extent). z.closed) (sym now.1)))
      ];
      runs = λ k e at is. elim (cases_at x.intervals new k e at) [ inl old ↦ inr (h.runs k e old is) | inr now ↦ inl now.0 ];
    }

-- ---- an end

pub record WasBefore (j : ℕ) (ks : List ℕ) (xs : List Extent) (k : ℕ) (f : Extent) : Type 0 where
  pub extent : Extent
  pub there : slice_get xs k ≡ Some extent
  pub like : IsLike extent f
  pub same : (extent ≡ f) ⊎ IsIn k ks

abbrev pub last_by : ℕ → Extent → Extent
last_by j e = record e { last = Some j }

option_is : (f : Extent → Extent) (o : Option Extent) (y : Extent) → option_map f o ≡ Some y → (e : Extent) × (o ≡ Some e) × (f e ≡ y)
option_is f None y e = absurd (none-some y e)
option_is f (Some x) y e = (x, refl, some e)

pub ended_before : (j : ℕ) (ks : List ℕ) (xs : List Extent) (k : ℕ) (f : Extent) → slice_get (ended_by j ks xs) k ≡ Some f → WasBefore j ks xs k f
ended_before j [] xs k f at = record { extent = f; there = at; like = record { prelog = refl; closed = refl }; same = inl refl }
ended_before j (m ∷ ms) xs k f at =
    let w : WasBefore j ms (change (last_by j) m xs) k f = ended_before j ms (change (last_by j) m xs) k f at in
    elim (cases_eq k m) [
      | inl same ↦
          let here : slice_get (change (last_by j) m xs) m ≡ Some w.extent = subst (λ l. slice_get (change (last_by j) m xs) l ≡ Some w.extent) same w.there in
          let old = option_is (last_by j) (slice_get xs m) w.extent (sym (change-at (last_by j) m xs) ∙ here) in
          record {
            extent = old.0;
            there = subst (λ l. slice_get xs l ≡ Some old.0) (sym same) old.1;
            like = record { prelog = w.like.prelog ∙ ap (λ (z : Extent). z.prelog) (sym old.2); closed = w.like.closed ∙ ap (λ (z : Extent). z.closed) (sym old.2) };
            same = inr (inl same);
          }
      | inr other ↦ record {
        extent = w.extent;
        there = sym (change-else (last_by j) m k xs other) ∙ w.there;
        like = w.like;
        same = elim w.same [ inl is ↦ inl is | inr i ↦ inr (inr i) ];
      }
    ]

pub ended_length : (j : ℕ) (ks : List ℕ) (xs : List Extent) → length (ended_by j ks xs) ≡ length xs
ended_length j [] xs = refl
ended_length j (k ∷ ks) xs = ended_length j ks (change (last_by j) k xs) ∙ length-change (last_by j) k xs

-- each that was there is there, with its prelog
ended_there : (j : ℕ) (ks : List ℕ) (xs : List Extent) (k : ℕ) (e : Extent) → slice_get xs k ≡ Some e → (f : Extent) × (slice_get (ended_by j ks xs) k ≡ Some f) × IsLike e f
ended_there j [] xs k e at = (e, at, record { prelog = refl; closed = refl })
ended_there j (m ∷ ms) xs k e at = elim (cases_eq k m) [
  | inl same ↦
      let now : slice_get (change (last_by j) m xs) k ≡ Some (last_by j e) =
      subst (λ l. slice_get (change (last_by j) m xs) l ≡ Some (last_by j e)) (sym same) (change-at (last_by j) m xs ∙ ap (λ o. option_map (last_by j) o) (subst (λ l. slice_get xs l ≡ Some e) same at)) in
      let r = ended_there j ms (change (last_by j) m xs) k (last_by j e) now in
      (r.0, r.1, record { prelog = r.2.prelog; closed = r.2.closed })
  | inr other ↦ ended_there j ms (change (last_by j) m xs) k e (change-else (last_by j) m k xs other ∙ at)
]

at_end : (done : List Entry) (e : Entry) (x : Extending) → is_within e ≡ true → IsSound done x → IsSound (done ++ e ∷ []) (record x { intervals = ended_by x.entry x.running x.intervals; entry = x.entry + 1 })
at_end done e x w h =
    let now : List Extent = ended_by x.entry x.running x.intervals in
    record {
      entry_is = one_longer done e x.entry h.entry_is;
      stack = stack_grow now done (e ∷ []) x.running (within w none) (stack_like x.intervals now done x.running (λ k f i at. ended_there x.entry x.running x.intervals k f at) h.stack);
      falls = subst (λ n. Fall n x.running) (sym (ended_length x.entry x.running x.intervals)) h.falls;
      left = λ k f at is.
          let old : WasBefore x.entry x.running x.intervals k f = ended_before x.entry x.running x.intervals k f at in
          elim old.same [
            | inl same ↦
                let l = h.left k f (old.there ∙ ap (λ (z : Extent). Some z) same) is in
                (l.0, l.1, left_grow done (e ∷ []) f.prelog l.0 l.2)
            | inr i ↦ absurd (true≢false (sym is ∙ old.like.closed ∙ stack_going x.intervals done x.running k old.extent h.stack i old.there))
          ];
      runs = λ k f at is.
          let old : WasBefore x.entry x.running x.intervals k f = ended_before x.entry x.running x.intervals k f at in
          h.runs k old.extent old.there (sym old.like.closed ∙ is);
    }

-- ---- a postlog

abbrev pub close_by : ℕ → Extent → Extent
close_by j e = record e { last = Some j; closed = true }

no_block : (done : List Entry) (c : ℕ) (ws : List ℤ) (x : Extending) → x.running ≡ [] → IsSound done x → IsSound (done ++ entry.Postlog c ws ∷ []) (extend x (entry.Postlog c ws))
no_block done c ws x is h = record {
  entry_is = one_longer done (entry.Postlog c ws) x.entry h.entry_is;
  stack = subst (λ ks. Stack (left_by x.entry ks x.intervals) (done ++ entry.Postlog c ws ∷ []) (drop 1 ks)) (sym is) tt;
  falls = subst (λ ks. Fall (length (left_by x.entry ks x.intervals)) (drop 1 ks)) (sym is) tt;
  left = λ k e at closed'.
      let l = h.left k e (sym (ap (λ ks. slice_get (left_by x.entry ks x.intervals) k) is) ∙ at) closed' in
      (l.0, l.1, left_grow done (entry.Postlog c ws ∷ []) e.prelog l.0 l.2);
  runs = λ k e at closed'. absurd (subst (λ ks. IsIn k ks) is (h.runs k e (sym (ap (λ ks. slice_get (left_by x.entry ks x.intervals) k) is) ∙ at) closed'));
}

leaves : (done : List Entry) (c : ℕ) (ws : List ℤ) (xs : List Extent) (n k : ℕ) (ks : List ℕ) → IsSound done (record { intervals = xs; running = k ∷ ks; entry = n })
    → IsSound (done ++ entry.Postlog c ws ∷ []) (record { intervals = change (close_by n) k xs; running = ks; entry = n + 1 })
leaves done c ws xs n k ks h =
    let l : IsLevel xs done k = h.stack.0 in
    let now : List Extent = change (close_by n) k xs in
    let part : List Entry = entry.Prelog l.block l.values ∷ (l.inner ++ entry.Postlog c ws ∷ []) in
    let whole : done ++ entry.Postlog c ws ∷ [] ≡ l.before ++ part = ap (λ es. es ++ entry.Postlog c ws ∷ []) l.done_is ∙ append_assoc l.before (entry.Prelog l.block l.values ∷ l.inner) (entry.Postlog c ws ∷ []) in
    let count : length done ≡ length l.before + suc (length l.inner) = ap length l.done_is ∙ length-append l.before (entry.Prelog l.block l.values ∷ l.inner) in
    let apart : (m : ℕ) → IsIn m ks → m ≡ k → ⊥ = λ m i same. let lt : m < k = in_below k ks m h.falls.1 i in omega (arith, lt, same) in
    let rest : Stack now l.before ks = stack_like xs now l.before ks (λ m e i at. (e, change-else (close_by n) k m xs (apart m i) ∙ at, record { prelog = refl; closed = refl })) h.stack.1 in
    record {
      entry_is = one_longer done (entry.Postlog c ws) n h.entry_is;
      stack = subst (λ es. Stack now es ks) (sym whole) (stack_grow now l.before part ks (matched_pair l.block l.values c ws l.inner l.matches) rest);
      falls = subst (λ m. Fall m ks) (sym (length-change (close_by n) k xs)) (lower (length xs) k ks h.falls.0 h.falls.1);
      left = λ m e at is. elim (cases_eq m k) [
        | inl same ↦
            let here : close_by n l.extent ≡ e = some (sym (change-at (close_by n) k xs ∙ ap (λ o. option_map (close_by n) o) l.there) ∙ subst (λ i. slice_get now i ≡ Some e) same at) in (
              n,
              ap (λ (z : Extent). z.last) (sym here),
              record {
                before = l.before;
                block = l.block;
                values = l.values;
                inner = l.inner;
                left = c;
                result = ws;
                after = [];
                entries_are = whole;
                first = ap (λ (z : Extent). z.prelog) (sym here) ∙ l.prelog;
                last = let eq : n ≡ length done = h.entry_is in omega (arith, eq, count);
                between = l.matches;
              },
            )
        | inr other ↦
            let old = h.left m e (sym (change-else (close_by n) k m xs other) ∙ at) is in
            (old.0, old.1, left_grow done (entry.Postlog c ws ∷ []) e.prelog old.0 old.2)
      ];
      runs = λ m e at is. elim (cases_eq m k) [
        | inl same ↦
            let here : close_by n l.extent ≡ e = some (sym (change-at (close_by n) k xs ∙ ap (λ o. option_map (close_by n) o) l.there) ∙ subst (λ i. slice_get now i ≡ Some e) same at) in
            absurd (true≢false (ap (λ (z : Extent). z.closed) here ∙ is))
        | inr other ↦ elim (h.runs m e (sym (change-else (close_by n) k m xs other) ∙ at) is) [ inl same ↦ absurd (other same) | inr i ↦ i ]
      ];
    }
  where
    lower : (n k : ℕ) (ks : List ℕ) → k < n → Fall k ks → Fall n ks
    lower n k [] lt f = tt
    lower n k (m ∷ ms) lt f = (omega (arith, lt, f.0), f.1)

-- ---- all entries

one_more : (done : List Entry) (e : Entry) (x : Extending) → IsSound done x → IsSound (done ++ e ∷ []) (extend x e)
one_more done (entry.Prelog b vs) x h = entered done b vs x h
one_more done (entry.Unit u vs) x h = quiet done (entry.Unit u vs) x refl h
one_more done (entry.Sync kind object number value reads writes) x h = quiet done (entry.Sync kind object number value reads writes) x refl h
one_more done (entry.End status rest reads writes) x h = at_end done (entry.End status rest reads writes) x refl h
one_more done (entry.Postlog c ws) x h = by x.running refl
  where
    by : (ks : List ℕ) → x.running ≡ ks → IsSound (done ++ entry.Postlog c ws ∷ []) (extend x (entry.Postlog c ws))
    by [] is = no_block done c ws x is h
    by (k ∷ ks) is =
        subst (λ rs. IsSound (done ++ entry.Postlog c ws ∷ []) (record { intervals = left_by x.entry rs x.intervals; running = drop 1 rs; entry = x.entry + 1 })) (sym is)
        (leaves done c ws x.intervals x.entry k ks (subst (λ rs. IsSound done (record { intervals = x.intervals; running = rs; entry = x.entry })) is h))

all_entries : (done : List Entry) (x : Extending) (es : List Entry) → IsSound done x → IsSound (done ++ es) (fold extend x es)
all_entries done x [] h = subst (λ l. IsSound l x) (sym (append-nil done)) h
all_entries done x (e ∷ es) h = subst (λ l. IsSound l (fold extend (extend x e) es)) (append_assoc done (e ∷ []) es) (all_entries (done ++ e ∷ []) (extend x e) es (one_more done e x h))

sound_at : (entries : List Entry) → IsSound entries (fold extend begun_extents entries)
sound_at entries = all_entries [] begun_extents entries (record { entry_is = refl; stack = tt; falls = tt; left = λ k e f. absurd (none-some e f); runs = λ k e f. absurd (none-some e f) })

pub entry_number : (entries : List Entry) → (fold extend begun_extents entries).entry ≡ length entries
entry_number entries = (sound_at entries).entry_is

-- an interval that runs is not left
pub running_going : (entries : List Entry) (k : ℕ) (e : Extent) → IsIn k (fold extend begun_extents entries).running → slice_get (fold extend begun_extents entries).intervals k ≡ Some e → e.closed ≡ false
running_going entries k e i at = let x : Extending = fold extend begun_extents entries in stack_going x.intervals entries x.running k e (sound_at entries).stack i at

pub extents_match : ExtentsMatch
extents_match entries k x found =
    let h : IsSound entries (fold extend begun_extents entries) = sound_at entries in
    let at : slice_get (fold extend begun_extents entries).intervals k ≡ Some x = extent_there entries k (Some x) found in
    record {
      left = λ is. h.left k x at is;
      going = λ is. subst (λ es. IsNotLeft es x.prelog) (append-nil entries) (not_left (fold extend begun_extents entries).intervals entries [] (fold extend begun_extents entries).running k x (matched none) h.stack (h.runs k x at is) at);
    }
