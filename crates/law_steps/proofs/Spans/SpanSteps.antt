-- What each step makes of the spans of a process, as it matters to one interval.
use Rattle.std.proofs.Common.{◌≡◌, ℕ, zero, suc, ◌+◌, ◌<◌, List, [], ◌∷◌, ◌++◌, length, Option, Some, None, false, refl, ap, sym, ◌∙◌, subst, arith}
use Rattle.std.proofs.lemmas.List.{length-append}
use Rattle.std.proofs.lemmas.Option.{none-some}
use Rattle.std.specs.Prelude.{slice_get, option_map, drop}
use Rattle.ppd_model.specs.declared.flow.Item.{Item}
use Rattle.ppd_model.specs.declared.flow.Item.TheVariants as item
use Rattle.ppd_model.specs.Intervals.{Span, change_first}
use Rattle.ppd_model.proofs.IntervalWords.{item_of_span}
use Rattle.ppd_model.specs.World.{change}
use Rattle.ppd_model.proofs.Changes.{length-change}
use Rattle.ppd_model.proofs.Extents.{Fall}
use Rattle.law_steps.specs.Coming.Pieces.{Inner}
use Rattle.law_steps.proofs.Coming.Indexes.{IsNext, Rests, falls_on, next_below}
use Rattle.law_steps.proofs.Coming.IndexSteps.{rest_below}

pub changed_same : (f : Span → Span) (k : ℕ) (xs : List Span) (i : Span) → slice_get xs k ≡ Some i → slice_get (change f k xs) k ≡ Some (f i)
changed_same f k [] i e = absurd (none-some i e)
changed_same f zero (x ∷ xs) i e = ap (option_map f) e
changed_same f (suc k) (x ∷ xs) i e = changed_same f k xs i e

pub changed_other : (f : Span → Span) (j k : ℕ) (xs : List Span) → (j ≡ k → ⊥) → slice_get (change f j xs) k ≡ slice_get xs k
changed_other f j k [] d = refl
changed_other f zero zero (x ∷ xs) d = absurd (d refl)
changed_other f zero (suc k) (x ∷ xs) d = refl
changed_other f (suc j) zero (x ∷ xs) d = refl
changed_other f (suc j) (suc k) (x ∷ xs) d = changed_other f j k xs (λ e. d (ap suc e))

-- the interval as an item
abbrev pub Seen : List Span → ℕ → List Item
Seen xs j = item_of_span j (slice_get xs j)

abbrev pub IsAlike : (Span → Span) → Type 0
IsAlike f = (m : ℕ) (i : Span) → item_of_span m (Some (f i)) ≡ item_of_span m (Some i)

pub seen_changed : (f : Span → Span) → IsAlike f → (m j k : ℕ) (xs : List Span) → item_of_span m (slice_get (change f j xs) k) ≡ item_of_span m (slice_get xs k)
seen_changed f a m j k [] = refl
seen_changed f a m zero zero (x ∷ xs) = a m x
seen_changed f a m zero (suc k) (x ∷ xs) = refl
seen_changed f a m (suc j) zero (x ∷ xs) = refl
seen_changed f a m (suc j) (suc k) (x ∷ xs) = seen_changed f a m j k xs

pub put_span : (xs : List Span) (y : Span) (k : ℕ) → k < length xs → slice_get (xs ++ y ∷ []) k ≡ slice_get xs k
put_span [] y k h = let z : ⊥ = omega (arith, h) in absurd z
put_span (x ∷ xs) y zero h = refl
put_span (x ∷ xs) y (suc k) h = put_span xs y k (omega (arith, h))

pub last_span : (xs : List Span) (y : Span) → slice_get (xs ++ y ∷ []) (length xs) ≡ Some y
last_span [] y = refl
last_span (x ∷ xs) y = last_span xs y

-- ---- where an interval runs

abbrev pub RunsIn : (ℕ → List Item) → List ℕ → (level interval block k : ℕ) → Type 0
RunsIn v [] level n b k = ⊥
RunsIn v (j ∷ ks) zero n b k = (j ≡ n) × (v j ≡ item.Nested j b [] false ∷ []) × IsNext ks k
RunsIn v (j ∷ ks) (suc level) n b k = RunsIn v ks level n b k

abbrev pub RunsAt : (ℕ → List Item) → List ℕ → Option Inner → ℕ → Type 0
RunsAt v ks None k = IsNext ks k
RunsAt v ks (Some i) k = RunsIn v ks i.level i.interval i.block k

pub in_below : (v : ℕ → List Item) (n : ℕ) (ks : List ℕ) (level m b k : ℕ) → Fall n ks → RunsIn v ks level m b k → k < n
in_below v n [] level m b k f h = absurd h
in_below v n (j ∷ ks) zero m b k f h = let z : k < j = next_below j ks k f.1 h.2 in omega (arith, f.0, z)
in_below v n (j ∷ ks) (suc level) m b k f h = let z : k < j = in_below v j ks level m b k f.1 h in omega (arith, f.0, z)

pub in_alike : (v w : ℕ → List Item) (n : ℕ) (ks : List ℕ) (level m b k : ℕ) → Fall n ks → ((j : ℕ) → j < n → w j ≡ v j) → RunsIn v ks level m b k → RunsIn w ks level m b k
in_alike v w n [] level m b k f e h = absurd h
in_alike v w n (j ∷ ks) zero m b k f e h = (h.0, e j f.0 ∙ h.1, h.2)
in_alike v w n (j ∷ ks) (suc level) m b k f e h = in_alike v w j ks level m b k f.1 (λ l q. e l (omega (arith, q, f.0))) h

pub other_head : (v : ℕ → List Item) (n j : ℕ) (ks : List ℕ) (level m b k : ℕ) → Fall n (j ∷ ks) → RunsIn v (j ∷ ks) level m b k → j ≡ k → ⊥
other_head v n j ks zero m b k f h e = let z : k < j = next_below j ks k f.1 h.2 in omega (arith, z, e)
other_head v n j ks (suc level) m b k f h e = let z : k < j = in_below v j ks level m b k f.1 h in omega (arith, z, e)

pub record SpanAt (xs : List Span) (ks : List ℕ) (inner : Option Inner) (k : ℕ) (i : Span) : Type 0 where
  pub falls : Fall (length xs) ks
  pub runs : RunsAt (Seen xs) ks inner k
  pub there : slice_get xs k ≡ Some i

pub record SpanPast (xs : List Span) (ks : List ℕ) (k : ℕ) (i : Span) : Type 0 where
  pub falls : Fall (length xs) ks
  pub rests : Rests ks k
  pub there : slice_get xs k ≡ Some i

falls_change : (f : Span → Span) (j : ℕ) (xs : List Span) (ks : List ℕ) → Fall (length xs) ks → Fall (length (change f j xs)) ks
falls_change f j xs ks h = subst (λ m. Fall m ks) (sym (length-change f j xs)) h

-- ---- the innermost is changed, and stays the same as an item

pub change_own : (f : Span → Span) → IsAlike f → (xs : List Span) (ks : List ℕ) (k : ℕ) (i : Span) → SpanAt xs ks None k i → SpanAt (change_first f ks xs) ks None k (f i)
change_own f a xs [] k i h = absurd h.runs
change_own f a xs (j ∷ ks) k i h = record {
  falls = falls_change f j xs (j ∷ ks) h.falls;
  runs = h.runs;
  there = ap (λ l. slice_get (change f l xs) k) h.runs ∙ changed_same f k xs i h.there;
}

pub change_inner : (f : Span → Span) → IsAlike f → (xs : List Span) (ks : List ℕ) (m : Inner) (k : ℕ) (i : Span) → SpanAt xs ks (Some m) k i → SpanAt (change_first f ks xs) ks (Some m) k i
change_inner f a xs [] m k i h = absurd h.runs
change_inner f a xs (j ∷ ks) m k i h = record {
  falls = falls_change f j xs (j ∷ ks) h.falls;
  runs = in_alike (Seen xs) (Seen (change f j xs)) (length xs) (j ∷ ks) m.level m.interval m.block k h.falls (λ l q. seen_changed f a l j l xs) h.runs;
  there = changed_other f j k xs (other_head (Seen xs) (length xs) j ks m.level m.interval m.block k h.falls h.runs) ∙ h.there;
}

pub change_past : (f : Span → Span) (xs : List Span) (ks : List ℕ) (k : ℕ) (i : Span) → SpanPast xs ks k i → SpanPast (change_first f ks xs) ks k i
change_past f xs [] k i h = h
change_past f xs (j ∷ ks) k i h = record { falls = falls_change f j xs (j ∷ ks) h.falls; rests = h.rests; there = changed_other f j k xs h.rests.0 ∙ h.there }

-- ---- an interval begins

begin_falls : (xs : List Span) (ks : List ℕ) (y : Span) → Fall (length xs) ks → Fall (length (xs ++ y ∷ [])) (length xs ∷ ks)
begin_falls xs ks y f = (let e : length (xs ++ y ∷ []) ≡ length xs + 1 = length-append xs (y ∷ []) in let z : length xs < length (xs ++ y ∷ []) = omega (arith, e) in z, f)

span_below : (xs : List Span) (k : ℕ) (i : Span) → slice_get xs k ≡ Some i → k < length xs
span_below [] k i e = absurd (none-some i e)
span_below (x ∷ xs) zero i e = omega arith
span_below (x ∷ xs) (suc k) i e = let z : k < length xs = span_below xs k i e in omega (arith, z)

-- the new interval, as an item, is open
abbrev pub IsNew : Span → Type 0
IsNew y = (m : ℕ) → item_of_span m (Some y) ≡ item.Nested m y.block [] false ∷ []

pub begin_own : (xs : List Span) (ks : List ℕ) (y : Span) → IsNew y → (k : ℕ) (i : Span) → SpanAt xs ks None k i → SpanAt (xs ++ y ∷ []) (length xs ∷ ks) (Some (record { level = 0; interval = length xs; block = y.block })) k i
begin_own xs ks y new k i h = record {
  falls = begin_falls xs ks y h.falls;
  runs = (refl, ap (item_of_span (length xs)) (last_span xs y) ∙ new (length xs), h.runs);
  there = put_span xs y k (span_below xs k i h.there) ∙ h.there;
}

pub begin_inner : (xs : List Span) (ks : List ℕ) (y : Span) (m : Inner) (k : ℕ) (i : Span) → SpanAt xs ks (Some m) k i → SpanAt (xs ++ y ∷ []) (length xs ∷ ks) (Some (record m { level = m.level + 1 })) k i
begin_inner xs ks y m k i h = record {
  falls = begin_falls xs ks y h.falls;
  runs = let e : suc m.level ≡ m.level + 1 = omega arith in
      subst (λ l. RunsIn (Seen (xs ++ y ∷ [])) (length xs ∷ ks) l m.interval m.block k) e
      (in_alike (Seen xs) (Seen (xs ++ y ∷ [])) (length xs) ks m.level m.interval m.block k h.falls (λ j q. ap (item_of_span j) (put_span xs y j q)) h.runs);
  there = put_span xs y k (span_below xs k i h.there) ∙ h.there;
}

pub begin_past : (xs : List Span) (ks : List ℕ) (y : Span) (k : ℕ) (i : Span) → SpanPast xs ks k i → SpanPast (xs ++ y ∷ []) (length xs ∷ ks) k i
begin_past xs ks y k i h = record {
  falls = begin_falls xs ks y h.falls;
  rests = (λ e. let z : k < length xs = span_below xs k i h.there in omega (arith, z, e), h.rests);
  there = put_span xs y k (span_below xs k i h.there) ∙ h.there;
}

pub begin_new : (xs : List Span) (ks : List ℕ) (y : Span) → Fall (length xs) ks → SpanAt (xs ++ y ∷ []) (length xs ∷ ks) None (length xs) y
begin_new xs ks y f = record { falls = begin_falls xs ks y f; runs = refl; there = last_span xs y }

-- ---- the innermost ends

pub end_span_own : (f : Span → Span) (xs : List Span) (ks : List ℕ) (k : ℕ) (i : Span) → SpanAt xs ks None k i → SpanPast (change_first f ks xs) (drop 1 ks) k (f i)
end_span_own f xs [] k i h = absurd h.runs
end_span_own f xs (j ∷ ks) k i h = record {
  falls = falls_change f j xs ks (falls_on j (length xs) ks h.falls.1 h.falls.0);
  rests = rest_below j k ks h.falls.1 h.runs;
  there = ap (λ l. slice_get (change f l xs) k) h.runs ∙ changed_same f k xs i h.there;
}

pub end_span_past : (f : Span → Span) (xs : List Span) (ks : List ℕ) (k : ℕ) (i : Span) → SpanPast xs ks k i → SpanPast (change_first f ks xs) (drop 1 ks) k i
end_span_past f xs [] k i h = h
end_span_past f xs (j ∷ ks) k i h = record {
  falls = falls_change f j xs ks (falls_on j (length xs) ks h.falls.1 h.falls.0);
  rests = h.rests.1;
  there = changed_other f j k xs h.rests.0 ∙ h.there;
}

pub end_span_inner : (f : Span → Span) (xs : List Span) (ks : List ℕ) (level m b k : ℕ) (i : Span) → SpanAt xs ks (Some (record { level = suc level; interval = m; block = b })) k i
    → SpanAt (change_first f ks xs) (drop 1 ks) (Some (record { level = level; interval = m; block = b })) k i
end_span_inner f xs [] level m b k i h = absurd h.runs
end_span_inner f xs (j ∷ ks) level m b k i h = record {
  falls = falls_change f j xs ks (falls_on j (length xs) ks h.falls.1 h.falls.0);
  runs = in_alike (Seen xs) (Seen (change f j xs)) j ks level m b k h.falls.1 (λ l q. ap (item_of_span l) (changed_other f j l xs (λ e. omega (arith, q, e)))) h.runs;
  there = changed_other f j k xs (λ e. let z : k < j = in_below (Seen xs) j ks level m b k h.falls.1 h.runs in omega (arith, z, e)) ∙ h.there;
}

abbrev block_in : ℕ → List Item → ℕ
block_in b (item.Nested m c values c' ∷ is) = c
block_in b is = b

-- the interval inside has ended, and the one round it is the innermost
pub record HasEnded (f : Span → Span) (xs : List Span) (ks : List ℕ) (m b k : ℕ) (i : Span) : Type 0 where
  pub at : SpanAt (change_first f ks xs) (drop 1 ks) None k i
  pub span : Span
  pub block : span.block ≡ b
  pub past : SpanPast (change_first f ks xs) (drop 1 ks) m (f span)

pub end_span_leaves : (f : Span → Span) (xs : List Span) (ks : List ℕ) (m b k : ℕ) (i : Span) → SpanAt xs ks (Some (record { level = zero; interval = m; block = b })) k i → HasEnded f xs ks m b k i
end_span_leaves f xs [] m b k i h = absurd h.runs
end_span_leaves f xs (j ∷ ks) m b k i h = by (slice_get xs j) refl
  where
    falls : Fall (length (change f j xs)) ks
    falls = falls_change f j xs ks (falls_on j (length xs) ks h.falls.1 h.falls.0)

    by : (o : Option Span) → slice_get xs j ≡ o → HasEnded f xs (j ∷ ks) m b k i
    by None e = absurd (nil_cons (sym (ap (item_of_span j) e) ∙ h.runs.1))
      where
        nil_cons : {x : Item} {ys : List Item} → [] ≡ x ∷ ys → ⊥
        nil_cons {ys = ys} q = let z : 0 ≡ suc (length ys) = ap length q in omega (arith, z)
    by (Some x) e = record {
      at = record { falls = falls; runs = h.runs.2; there = changed_other f j k xs (λ q. let z : k < j = next_below j ks k h.falls.1 h.runs.2 in omega (arith, z, q)) ∙ h.there };
      span = x;
      block = ap (block_in 0) (sym (ap (item_of_span j) e) ∙ h.runs.1);
      past = record { falls = falls; rests = rest_below j m ks h.falls.1 h.runs.0; there = subst (λ l. slice_get (change f j xs) l ≡ Some (f x)) h.runs.0 (changed_same f j xs x e) };
    }

-- ---- at the end

pub still_open : (v : ℕ → List Item) (ks : List ℕ) (level m b k : ℕ) → RunsIn v ks level m b k → v m ≡ item.Nested m b [] false ∷ []
still_open v [] level m b k h = absurd h
still_open v (j ∷ ks) zero m b k h = subst (λ l. v l ≡ item.Nested l b [] false ∷ []) h.0 h.1
still_open v (j ∷ ks) (suc level) m b k h = still_open v ks level m b k h
