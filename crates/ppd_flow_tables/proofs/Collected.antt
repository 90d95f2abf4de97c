-- Lists of numbers that grow at the end, and counts of synchronizations.
use Rattle.std.proofs.Common.{◌≡◌, ℕ, zero, suc, ◌+◌, ◌<◌, ◌≤◌, Bool, true, false, List, [], ◌∷◌, ◌++◌, refl, ap, sym, subst, ◌∙◌, arith, inl, inr, get_or, length, length-append, take, if◌then◌else◌}
use Rattle.std.specs.Prelude.{filter_map}
use Rattle.std.proofs.lemmas.Bool.{cases_lt}
use Rattle.std.proofs.lemmas.List.{get_or-append-add, get_or_append_left, get_or_past, take_all}
use Rattle.ppd_model.specs.declared.entry.Entry.{Entry}
use Rattle.ppd_model.specs.declared.entry.Entry.TheVariants as entry
use Rattle.ppd_model.specs.RecordedSets.{sync_in}
use Rattle.ppd_graph.specs.Ends.{syncs_before}
use Rattle.ppd_graph.proofs.FlowWords.{is_sync}
use Rattle.ppd_flow_tables.specs.Counts.{AreCounts}

-- ---- the values of a function at the first numbers

-- these are the first n
pub record AreFirst (f : ℕ → ℕ) (n : ℕ) (xs : List ℕ) : Type 0 where
  pub long : length xs ≡ n
  pub are : (k : ℕ) → k < n → get_or xs k 0 ≡ f k

pub none_first : (f : ℕ → ℕ) (xs : List ℕ) → xs ≡ [] → AreFirst f 0 xs
none_first f xs e = record { long = ap length e; are = λ k lt. absurd (omega (arith, lt)) }

pub one_longer : (xs xs' : List ℕ) (x : ℕ) → xs' ≡ xs ++ x ∷ [] → length xs' ≡ length xs + 1
one_longer xs xs' x e = ap length e ∙ length-append xs (x ∷ [])

pub first_at : (f : ℕ → ℕ) (n : ℕ) (xs xs' : List ℕ) (x : ℕ) → length xs ≡ n → ((k : ℕ) → k < n → get_or xs k 0 ≡ f k)
    → xs' ≡ xs ++ x ∷ [] → x ≡ f n → (k : ℕ) → k < n + 1 → get_or xs' k 0 ≡ f k
first_at f n xs xs' x long are e is k lt =
    ap (λ (l : List ℕ). get_or l k 0) e
    ∙ elim (cases_lt k n) [
      | inl before ↦ get_or_append_left xs (x ∷ []) 0 k (omega (arith, before, long)) ∙ are k before
      | inr after ↦
          let here : k ≡ length xs + 0 = omega (arith, after, lt, long) in
          let at : n ≡ k = omega (arith, after, lt) in
          ap (λ j. get_or (xs ++ x ∷ []) j 0) here ∙ get_or-append-add xs (x ∷ []) 0 0 ∙ is ∙ ap f at
    ]

pub first_more : (f : ℕ → ℕ) (n : ℕ) (xs xs' : List ℕ) (x : ℕ) → AreFirst f n xs → xs' ≡ xs ++ x ∷ [] → x ≡ f n
    → AreFirst f (n + 1) xs'
first_more f n xs xs' x h e is = record {
  long = one_longer xs xs' x e ∙ ap (λ m. m + 1) h.long;
  are = first_at f n xs xs' x h.long h.are e is;
}

-- all of them, where the others are 0
pub first_all : (f : ℕ → ℕ) (n : ℕ) (xs : List ℕ) → AreFirst f n xs → ((k : ℕ) → n ≤ k → f k ≡ 0) → (k : ℕ)
    → get_or xs k 0 ≡ f k
first_all f n xs h over k = elim (cases_lt k n) [
  | inl lt ↦ h.are k lt
  | inr le ↦ let long = h.long in get_or_past xs k 0 (omega (arith, long, le)) ∙ sym (over k le)
]

-- ---- counts of synchronizations

pub one_sync : (e : Entry) (es : List Entry)
    → length (filter_map sync_in (e ∷ es))
    ≡ (if is_sync e then length (filter_map sync_in es) + 1 else length (filter_map sync_in es))
one_sync (entry.Prelog b values) es = refl
one_sync (entry.Unit u values) es = refl
one_sync (entry.Sync kind object number value reads writes) es = omega arith
one_sync (entry.Postlog b values) es = refl
one_sync (entry.End status rest reads writes) es = refl

both_orders : (a b : Bool) (n : ℕ)
    → (if a then (if b then n + 1 else n) + 1 else (if b then n + 1 else n))
    ≡ (if b then (if a then n + 1 else n) + 1 else (if a then n + 1 else n))
both_orders true true n = refl
both_orders true false n = refl
both_orders false true n = refl
both_orders false false n = refl

syncs_suc : (es : List Entry) (n : ℕ) (d e : Entry) → n < length es → e ≡ get_or es n d
    → syncs_before es (suc n) ≡ (if is_sync e then syncs_before es n + 1 else syncs_before es n)
syncs_suc [] n d e lt is = absurd (omega (arith, lt))
syncs_suc (x ∷ es) zero d e lt is = one_sync x [] ∙ ap (λ y. if is_sync y then 0 + 1 else 0) (sym is)
syncs_suc (x ∷ es) (suc n) d e lt is =
    let before = length (filter_map sync_in (take n es)) in
    one_sync x (take (suc n) es)
    ∙ ap (λ m. if is_sync x then m + 1 else m) (syncs_suc es n d e (omega (arith, lt)) is)
    ∙ both_orders (is_sync x) (is_sync e) before
    ∙ ap (λ m. if is_sync e then m + 1 else m) (sym (one_sync x (take n es)))

pub syncs_more : (es : List Entry) (n : ℕ) (d e : Entry) → n < length es → e ≡ get_or es n d
    → syncs_before es (n + 1) ≡ (if is_sync e then syncs_before es n + 1 else syncs_before es n)
syncs_more es n d e lt is =
    let next : n + 1 ≡ suc n = omega arith in ap (syncs_before es) next ∙ syncs_suc es n d e lt is

-- the counts before the first entries, so many, and the last of them
pub record AreCounted (entries : List Entry) (n count : ℕ) (counts : List ℕ) : Type 0 where
  pub first : AreFirst (syncs_before entries) (n + 1) counts
  pub last : count ≡ syncs_before entries n
  pub most : count ≤ n

pub none_counted : (entries : List Entry) (counts counts' : List ℕ) (count : ℕ) → counts ≡ [] → count ≡ 0
    → counts' ≡ counts ++ count ∷ [] → AreCounted entries 0 count counts'
none_counted entries counts counts' count none zero_ e = record {
  first = first_more (syncs_before entries) 0 counts counts' count (none_first (syncs_before entries) counts none) e
      zero_;
  last = zero_;
  most = omega (arith, zero_);
}

most_more : (b : Bool) (m n : ℕ) → m ≤ n → (if b then m + 1 else m) ≤ n + 1
most_more true m n le = omega (arith, le)
most_more false m n le = omega (arith, le)

pub more_counted : (entries : List Entry) (n count count' : ℕ) (counts counts' : List ℕ) (d e : Entry)
    → AreCounted entries n count counts → n < length entries → e ≡ get_or entries n d
    → count' ≡ (if is_sync e then count + 1 else count) → counts' ≡ counts ++ count' ∷ []
    → AreCounted entries (n + 1) count' counts'
more_counted entries n count count' counts counts' d e h lt is counted more =
    let now : count' ≡ syncs_before entries (n + 1) =
    counted ∙ ap (λ m. if is_sync e then m + 1 else m) h.last ∙ sym (syncs_more entries n d e lt is) in
    record {
      first = first_more (syncs_before entries) (n + 1) counts counts' count' h.first more now;
      last = now;
      most = subst (λ m. m ≤ n + 1) (sym counted) (most_more (is_sync e) count n h.most);
    }

pub all_counted : (entries : List Entry) (n count : ℕ) (counts : List ℕ) → n ≡ length entries
    → AreCounted entries n count counts → AreCounts entries counts
all_counted entries n count counts e h = record {
  long = h.first.long ∙ ap (λ m. m + 1) e;
  are = λ k le. h.first.are k (omega (arith, le, e));
}

-- the count before an entry, also before one that is not there
pub count_before : (entries : List Entry) (counts : List ℕ) (n : ℕ) → AreCounts entries counts → n ≤ length entries
    → get_or counts n 0 ≡ syncs_before entries n
count_before entries counts n h le = h.are n le

pub count_past : (entries : List Entry) (counts : List ℕ) (n last : ℕ) → AreCounts entries counts → length entries ≤ n
    → last ≡ length entries → get_or counts last 0 ≡ syncs_before entries n
count_past entries counts n last h le e =
    h.are last (omega (arith, e))
    ∙ ap (λ (es : List Entry). length (filter_map sync_in es))
    (take_all last entries (omega (arith, e)) ∙ sym (take_all n entries le))
