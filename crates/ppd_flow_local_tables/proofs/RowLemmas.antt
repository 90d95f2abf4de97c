-- Rows: what is between two places, where halves find it, and what one more value does.
use Rattle.std.proofs.Common.{◌≡◌, ℕ, zero, suc, ◌+◌, ◌-◌, ◌<◌, ◌≤◌, Bool, true, false, cond, not, ◌&&◌, eqb, ltb, List, [], ◌∷◌, ◌++◌, length, length-take, map, get_or, take, drop, Option, Some, None, refl, ap, ap₂, sym, ◌∙◌, arith, lt_of_lt_of_le, add-sub_of_le, lt-ltb, le-ltb, ltb-true, true≢false, subst, eq-eqb, ne_eqb, eqb-true, unwrap_or, le_of_suc-le-suc, not-suc-le-zero, suc-le-suc, zero-le, zero-lt-suc}
use Rattle.std.specs.Prelude.{IfSome, ⊤}
use Rattle.std.specs.List.{zip}
use Rattle.std.specs.List.Sorted.{IsNonDecreasing, IsPartitionPoint}
use Rattle.std.proofs.lemmas.List.{drop_all, drop-take, take-map, drop-map}
use Rattle.std.proofs.lemmas.List.Elements.{filter-append}
use Rattle.std.proofs.lemmas.List.Sorted.{IsNonDecreasingBy-push}
use Rattle.ppd_flow_local_tables.specs.Rows.{AllBefore, entries_between, is_between, is_of, last_of, last_or, noted}

-- ---- tests

pub between_yes : (from to n : ℕ) → ltb n from ≡ false → ltb n to ≡ true → is_between from to n ≡ true
between_yes from to n a b = ap₂ (λ x y. not x && y) a b

pub between_early : (from to n : ℕ) → ltb n from ≡ true → is_between from to n ≡ false
between_early from to n a = ap (λ x. not x && ltb n to) a

pub between_late : (from to n : ℕ) → ltb n from ≡ false → ltb n to ≡ false → is_between from to n ≡ false
between_late from to n a b = ap₂ (λ x y. not x && y) a b

-- ---- a point that halves find

abbrev pub IsPoint : ℕ → List ℕ → ℕ → Type 0
IsPoint b ns j = IsPartitionPoint (λ n. ltb n b ≡ true) (λ n. ltb n b ≡ false) ns j

point_head : (b n : ℕ) (ns : List ℕ) (j : ℕ) → IsPoint b (n ∷ ns) (suc j) → ltb n b ≡ true
point_head b n ns j h = h.0 0 0 zero-le (zero-lt-suc j)

point_tail : (b n : ℕ) (ns : List ℕ) (j : ℕ) → IsPoint b (n ∷ ns) (suc j) → IsPoint b ns j
point_tail b n ns j h =
    ((λ k d l m. h.0 (suc k) d zero-le (suc-le-suc m)), (λ k d l m. h.1 (suc k) d (suc-le-suc l) (suc-le-suc m)))

point_past : (b n : ℕ) (ns : List ℕ) → IsPoint b (n ∷ ns) 0 → ltb n b ≡ false
point_past b n ns h = h.1 0 0 zero-le (zero-lt-suc (length ns))

point_zero : (b n : ℕ) (ns : List ℕ) → IsPoint b (n ∷ ns) 0 → IsPoint b ns 0
point_zero b n ns h =
    ((λ k d l m. absurd (not-suc-le-zero m)), (λ k d l m. h.1 (suc k) d zero-le (suc-le-suc m)))

module _ {A : Type 0} where
  drop_none : (j : ℕ) → drop {A = A} j [] ≡ []
  drop_none zero = refl
  drop_none (suc j) = refl

  -- a test that says no, or yes
  skipped : (t : Bool) (x : A) (xs : List A) → t ≡ false → cond t (x ∷ xs) xs ≡ xs
  skipped t x xs e = ap (λ u. cond u (x ∷ xs) xs) e

  kept : (t : Bool) (x : A) (xs : List A) → t ≡ true → cond t (x ∷ xs) xs ≡ x ∷ xs
  kept t x xs e = ap (λ u. cond u (x ∷ xs) xs) e

module _ {A : Type 0} where
  pub entries_at : (b p : ℕ) (ns : List ℕ) (vs : List A) (j k : ℕ) → IsPoint b ns j → IsPoint p ns k
      → entries_between b p (zip ns vs) ≡ drop j (take k (zip ns vs))
  entries_at b p [] vs j zero hj hk = sym (drop_none j)
  entries_at b p [] vs j (suc k) hj hk = sym (drop_none j)
  entries_at b p (n ∷ ns) [] j zero hj hk = sym (drop_none j)
  entries_at b p (n ∷ ns) [] j (suc k) hj hk = sym (drop_none j)
  entries_at b p (n ∷ ns) (v ∷ vs) zero zero hj hk =
      skipped _ _ _ (between_late b p n (point_past b n ns hj) (point_past p n ns hk))
      ∙ entries_at b p ns vs zero zero (point_zero b n ns hj) (point_zero p n ns hk)
  entries_at b p (n ∷ ns) (v ∷ vs) zero (suc k) hj hk =
      kept _ _ _ (between_yes b p n (point_past b n ns hj) (point_head p n ns k hk))
      ∙ ap (λ ys. (n, v) ∷ ys) (entries_at b p ns vs zero k (point_zero b n ns hj) (point_tail p n ns k hk))
  entries_at b p (n ∷ ns) (v ∷ vs) (suc j) zero hj hk =
      skipped _ _ _ (between_early b p n (point_head b n ns j hj))
      ∙ (entries_at b p ns vs j zero (point_tail b n ns j hj) (point_zero p n ns hk) ∙ drop_none j)
  entries_at b p (n ∷ ns) (v ∷ vs) (suc j) (suc k) hj hk =
      skipped _ _ _ (between_early b p n (point_head b n ns j hj))
      ∙ entries_at b p ns vs j k (point_tail b n ns j hj) (point_tail p n ns k hk)

  -- ---- pairs of two lists

  values_of_pairs : (ns : List ℕ) (vs : List A) → length ns ≡ length vs → map (λ x. x.1) (zip ns vs) ≡ vs
  values_of_pairs [] [] e = refl
  values_of_pairs [] (v ∷ vs) e = absurd (omega (arith, e))
  values_of_pairs (n ∷ ns) [] e = absurd (omega (arith, e))
  values_of_pairs (n ∷ ns) (v ∷ vs) e = ap (λ ys. v ∷ ys) (values_of_pairs ns vs (omega (arith, e)))

  pub values_at : (b p : ℕ) (ns : List ℕ) (vs : List A) (j k : ℕ) → length ns ≡ length vs → IsPoint b ns j
      → IsPoint p ns k
      → map (λ x. x.1) (entries_between b p (zip ns vs)) ≡ drop j (take k vs)
  values_at b p ns vs j k e hj hk =
      let f : ℕ × A → A = λ x. x.1 in
      ap (map f) (entries_at b p ns vs j k hj hk)
      ∙ (sym (drop-map f j (take k (zip ns vs)))
      ∙ (ap (drop j) (sym (take-map f k (zip ns vs))) ∙ ap (λ ys. drop j (take k ys)) (values_of_pairs ns vs e)))

  pub pair_at : (ns : List ℕ) (vs : List A) (i d : ℕ) (e : A) → i < length ns → length ns ≡ length vs
      → get_or (zip ns vs) i (d, e) ≡ (get_or ns i d, get_or vs i e)
  pair_at [] vs i d e h l = absurd (not-suc-le-zero h)
  pair_at (n ∷ ns) [] i d e h l = absurd (omega (arith, l))
  pair_at (n ∷ ns) (v ∷ vs) zero d e h l = refl
  pair_at (n ∷ ns) (v ∷ vs) (suc i) d e h l = pair_at ns vs i d e (le_of_suc-le-suc h) (omega (arith, l))

  pub pairs_push : (ns : List ℕ) (vs : List A) (n : ℕ) (v : A) → length ns ≡ length vs
      → zip (ns ++ n ∷ []) (vs ++ v ∷ []) ≡ zip ns vs ++ (n, v) ∷ []
  pairs_push [] [] n v e = refl
  pairs_push [] (w ∷ vs) n v e = absurd (omega (arith, e))
  pairs_push (m ∷ ns) [] n v e = absurd (omega (arith, e))
  pairs_push (m ∷ ns) (w ∷ vs) n v e = ap (λ ys. (m, w) ∷ ys) (pairs_push ns vs n v (omega (arith, e)))

  pub length_pairs : (ns : List ℕ) (vs : List A) → length ns ≡ length vs → length (zip ns vs) ≡ length ns
  length_pairs [] vs e = refl
  length_pairs (n ∷ ns) [] e = absurd (omega (arith, e))
  length_pairs (n ∷ ns) (v ∷ vs) e = ap suc (length_pairs ns vs (omega (arith, e)))

module _ {A : Type 0} where
  -- ---- the last one

  last_or_push : (x : A) (xs : List A) (y : A) → last_or x (xs ++ y ∷ []) ≡ y
  last_or_push x [] y = refl
  last_or_push x (z ∷ zs) y = last_or_push z zs y

  pub last_push : (xs : List A) (y : A) → last_of (xs ++ y ∷ []) ≡ Some y
  last_push [] y = refl
  last_push (x ∷ xs) y = ap Some (last_or_push x xs y)

  abbrev IsMissing : Option A → Type 0
  IsMissing None = ⊤
  IsMissing (Some x) = ⊥

  last_more : (x z : A) (ys : List A) → last_of ys ≡ Some z → last_of (x ∷ ys) ≡ Some z
  last_more x z [] e = absurd (subst IsMissing e tt)
  last_more x z (y ∷ ys) e = e

  pub last_at : (xs : List A) (j i : ℕ) (d : A) → j ≤ i → i < length xs
      → last_of (drop j (take (suc i) xs)) ≡ Some (get_or xs i d)
  last_at [] j i d h l = absurd (not-suc-le-zero l)
  last_at (x ∷ xs) zero zero d h l = refl
  last_at (x ∷ xs) zero (suc i) d h l =
      last_more x _ (take (suc i) xs) (last_at xs zero i d zero-le (le_of_suc-le-suc l))
  last_at (x ∷ xs) (suc j) zero d h l = absurd (not-suc-le-zero h)
  last_at (x ∷ xs) (suc j) (suc i) d h l = last_at xs j i d (le_of_suc-le-suc h) (le_of_suc-le-suc l)

  pub last_between_at : (xs : List A) (j k : ℕ) (d : A) → j < k → k ≤ length xs
      → last_of (drop j (take k xs)) ≡ Some (get_or xs (k - 1) d)
  last_between_at xs j zero d h l = absurd (not-suc-le-zero h)
  last_between_at xs j (suc i) d h l =
      last_at xs j i d (le_of_suc-le-suc h) l ∙ ap (λ n. Some (get_or xs n d)) (omega arith)

  pub no_last : (xs : List A) (j k : ℕ) → k ≤ j → last_of (drop j (take k xs)) ≡ None
  no_last xs j k h = ap last_of (drop_all j (take k xs) (omega (arith, h, length-take k xs)))

  pub last_whole : (xs : List A) (i : ℕ) (d : A) → length xs ≡ suc i → last_of xs ≡ Some (get_or xs i d)
  last_whole [] i d e = absurd (omega (arith, e))
  last_whole (x ∷ []) zero d e = refl
  last_whole (x ∷ []) (suc i) d e = absurd (omega (arith, e))
  last_whole (x ∷ y ∷ ys) zero d e = absurd (omega (arith, e))
  last_whole (x ∷ y ∷ ys) (suc i) d e = last_whole (y ∷ ys) i d (omega (arith, e))

module _ {A : Type 0} where
  -- ---- entries before an item

  pub before_more : (n m : ℕ) (xs : List (ℕ × A)) → n ≤ m → AllBefore n xs → AllBefore m xs
  before_more n m [] l h = tt
  before_more n m (x ∷ xs) l h = (lt_of_lt_of_le h.0 l, before_more n m xs l h.1)

  pub before_push : (n m : ℕ) (v : A) (xs : List (ℕ × A)) → m < n → AllBefore n xs → AllBefore n (xs ++ (m, v) ∷ [])
  before_push n m v [] l h = (l, tt)
  before_push n m v (x ∷ xs) l h = (h.0, before_push n m v xs l h.1)

  pub before_at : (n : ℕ) (ns : List ℕ) (vs : List A) (i d : ℕ) → length ns ≡ length vs → AllBefore n (zip ns vs)
      → i < length ns → get_or ns i d < n
  before_at n [] vs i d e h l = absurd (not-suc-le-zero l)
  before_at n (m ∷ ns) [] i d e h l = absurd (omega (arith, e))
  before_at n (m ∷ ns) (v ∷ vs) zero d e h l = h.0
  before_at n (m ∷ ns) (v ∷ vs) (suc i) d e h l = before_at n ns vs i d (omega (arith, e)) h.1 (le_of_suc-le-suc l)

  pub rises_push : (ns : List ℕ) (vs : List A) (n : ℕ) → length ns ≡ length vs → IsNonDecreasing ns
      → AllBefore (n + 1) (zip ns vs)
      → IsNonDecreasing (ns ++ n ∷ [])
  rises_push ns vs n e up h =
      IsNonDecreasingBy-push (λ m. m) ns n up
      (λ d l. let m = before_at (n + 1) ns vs (length ns - 1) d e h (omega (arith, l)) in omega (arith, m))

  -- up to a later place there is no more
  pub entries_later : (b p n : ℕ) (xs : List (ℕ × A)) → n ≤ p → AllBefore n xs
      → entries_between b p xs ≡ entries_between b n xs
  entries_later b p n [] l h = refl
  entries_later b p n (x ∷ xs) l h =
      ap₂ (λ t ys. cond t (x ∷ ys) ys)
      (ap (λ t. not (ltb x.0 b) && t) (lt-ltb x.0 p (lt_of_lt_of_le h.0 l) ∙ sym (lt-ltb x.0 n h.0)))
      (entries_later b p n xs l h.1)

  -- none from there on
  pub entries_past : (b p n : ℕ) (xs : List (ℕ × A)) → n ≤ b → AllBefore n xs → entries_between b p xs ≡ []
  entries_past b p n [] l h = refl
  entries_past b p n (x ∷ xs) l h =
      skipped _ _ _ (between_early b p x.0 (lt-ltb x.0 b (lt_of_lt_of_le h.0 l))) ∙ entries_past b p n xs l h.1

  -- one more of item n
  pub entries_push : (b p n : ℕ) (v : A) (xs : List (ℕ × A)) → b ≤ n → n < p
      → entries_between b p (xs ++ (n, v) ∷ []) ≡ entries_between b p xs ++ (n, v) ∷ []
  entries_push b p n v xs l m =
      filter-append (λ x. is_between b p x.0) xs ((n, v) ∷ [])
      ∙ ap (λ t. entries_between b p xs ++ cond t ((n, v) ∷ []) []) (between_yes b p n (le-ltb n b l) (lt-ltb n p m))

  -- it does not show before it
  pub entries_keep : (b p n : ℕ) (v : A) (xs : List (ℕ × A)) → p ≤ n
      → entries_between b p (xs ++ (n, v) ∷ []) ≡ entries_between b p xs
  entries_keep b p n v [] l = skipped _ _ _ (early (ltb n b) (ltb n p) (le-ltb n p l))
    where
      early : (s t : Bool) → t ≡ false → (not s && t) ≡ false
      early true t e = refl
      early false t e = e
  entries_keep b p n v (x ∷ xs) l = ap (λ ys. cond (is_between b p x.0) (x ∷ ys) ys) (entries_keep b p n v xs l)

  cons_before : (p : ℕ) (t : Bool) (x : ℕ × A) (ys : List (ℕ × A)) → (t ≡ true → x.0 < p) → AllBefore p ys
      → AllBefore p (cond t (x ∷ ys) ys)
  cons_before p true x ys f h = (f refl, h)
  cons_before p false x ys f h = h

  entries_before : (b p : ℕ) (xs : List (ℕ × A)) → AllBefore p (entries_between b p xs)
  entries_before b p [] = tt
  entries_before b p (x ∷ xs) =
      cons_before p (is_between b p x.0) x (entries_between b p xs)
      (λ e. ltb-true x.0 p (second (ltb x.0 b) (ltb x.0 p) e)) (entries_before b p xs)
    where
      second : (s t : Bool) → (not s && t) ≡ true → t ≡ true
      second true t e = absurd (true≢false (sym e))
      second false t e = e

  last_or_before : (p : ℕ) (x : ℕ × A) (xs : List (ℕ × A)) → x.0 < p → AllBefore p xs → (last_or x xs).0 < p
  last_or_before p x [] l h = l
  last_or_before p x (y ∷ ys) l h = last_or_before p y ys h.0 h.1

  of_last : (p : ℕ) (xs : List (ℕ × A)) → AllBefore p xs → IfSome (last_of xs) (λ y. y.0 < p)
  of_last p [] h = tt
  of_last p (x ∷ xs) h = last_or_before p x xs h.0 h.1

  -- the last one between two places is before the second
  pub last_before : (b p : ℕ) (xs : List (ℕ × A)) (x : ℕ × A) → last_of (entries_between b p xs) ≡ Some x → x.0 < p
  last_before b p xs x e =
      let P : ℕ × A → Type 0 = λ y. y.0 < p in
      subst (λ o. IfSome o P) e (of_last p (entries_between b p xs) (entries_before b p xs))

  -- ---- a value of the latest item

  none_of : (n : ℕ) (x : ℕ × A) (xs : List (ℕ × A)) → x.0 < n → AllBefore n xs → eqb (last_or x xs).0 n ≡ false
  none_of n x [] l h = ne_eqb x.0 n (λ e. omega (arith, l, e))
  none_of n x (y ∷ ys) l h = none_of n y ys h.0 h.1

  pub noted_first : (n : ℕ) (v : A) (xs : List (ℕ × A)) → AllBefore n xs → noted n v xs ≡ xs ++ (n, v) ∷ []
  noted_first n v [] h = refl
  noted_first n v (x ∷ xs) h = ap (λ t. cond t (x ∷ xs) (x ∷ xs ++ (n, v) ∷ [])) (none_of n x xs h.0 h.1)

  pub noted_again : (n : ℕ) (v w : A) (xs : List (ℕ × A)) → noted n w (xs ++ (n, v) ∷ []) ≡ xs ++ (n, v) ∷ []
  noted_again n v w xs =
      let ys = xs ++ (n, v) ∷ [] in
      ap (λ t. cond t ys (ys ++ (n, w) ∷ [])) (ap (is_of n) (last_push xs (n, v)) ∙ eq-eqb n n refl)

-- ---- what a row's calls give

module _ {A : Type 0} (ns : List ℕ) (vs : List A) (xs : List (ℕ × A)) (e : length ns ≡ length vs)
    (pairs : zip ns vs ≡ xs) where
  pub slice_is : (b p j k : ℕ) → IsPoint b ns j → IsPoint p ns k → j ≤ k → (l : List A) → l ≡ vs
      → take (k - j) (drop j l) ≡ map (λ x. x.1) (entries_between b p xs)
  slice_is b p j k hj hk le l same =
      ap (λ y. take (k - j) (drop j y)) same
      ∙ (sym (drop-take j (k - j) vs)
      ∙ (ap (λ n. drop j (take n vs)) (add-sub_of_le le)
      ∙ (sym (values_at b p ns vs j k e hj hk) ∙ ap (λ y. map (λ x. x.1) (entries_between b p y)) pairs)))

  pub slice_none : (b p j k : ℕ) → IsPoint b ns j → IsPoint p ns k → k ≤ j
      → [] ≡ map (λ x. x.1) (entries_between b p xs)
  slice_none b p j k hj hk le =
      sym (ap (λ y. map (λ x. x.1) (entries_between b p y)) (sym pairs)
      ∙ (values_at b p ns vs j k e hj hk ∙ drop_all j (take k vs) (omega (arith, le, length-take k vs))))

  pub last_is : (b p j k : ℕ) → IsPoint b ns j → IsPoint p ns k → j < k → k ≤ length ns → (n : ℕ) (v : A)
      → n ≡ get_or ns (k - 1) n → v ≡ get_or vs (k - 1) v → Some (n, v) ≡ last_of (entries_between b p xs)
  last_is b p j k hj hk lt le n v at_n at_v =
      let whole : last_of (drop j (take k (zip ns vs))) ≡ Some (get_or (zip ns vs) (k - 1) (n, v)) =
      last_between_at (zip ns vs) j k (n, v) lt (omega (arith, le, length_pairs ns vs e)) in
      let pair : get_or (zip ns vs) (k - 1) (n, v) ≡ (get_or ns (k - 1) n, get_or vs (k - 1) v) =
      pair_at ns vs (k - 1) n v (omega (arith, lt, le)) e in
      let two : (get_or ns (k - 1) n, get_or vs (k - 1) v) ≡ (n, v) = ap₂ (λ a b. (a, b)) (sym at_n) (sym at_v) in
      sym (ap (λ y. last_of (entries_between b p y)) (sym pairs)
      ∙ (ap last_of (entries_at b p ns vs j k hj hk) ∙ (whole ∙ ap Some (pair ∙ two))))

  pub last_none : (b p j k : ℕ) → IsPoint b ns j → IsPoint p ns k → k ≤ j → None ≡ last_of (entries_between b p xs)
  last_none b p j k hj hk le =
      sym (ap (λ y. last_of (entries_between b p y)) (sym pairs)
      ∙ (ap last_of (entries_at b p ns vs j k hj hk) ∙ no_last (zip ns vs) j k le))

module _ {A : Type 0} where
  pub ends_at : (ns : List ℕ) (vs : List A) (xs : List (ℕ × A)) → length ns ≡ length vs → zip ns vs ≡ xs
      → (n i m : ℕ) → length ns ≡ suc i
      → m ≡ get_or ns i m → eqb m n ≡ is_of n (last_of xs)
  ends_at [] vs xs e pairs n i m long at_m = absurd (omega (arith, long))
  ends_at (k ∷ ks) [] xs e pairs n i m long at_m = absurd (omega (arith, e))
  ends_at (k ∷ ks) (w ∷ ws) xs e pairs n i m long at_m =
      let ps = zip (k ∷ ks) (w ∷ ws) in
      let whole : last_of ps ≡ Some (get_or ps i (m, w)) =
      last_whole ps i (m, w) (length_pairs (k ∷ ks) (w ∷ ws) e ∙ long) in
      let pair : get_or ps i (m, w) ≡ (get_or (k ∷ ks) i m, get_or (w ∷ ws) i w) =
      pair_at (k ∷ ks) (w ∷ ws) i m w (omega (arith, long)) e in
      ap (λ y. eqb y n) (at_m ∙ sym (ap (λ y. y.0) pair))
      ∙ (sym (ap (is_of n) whole) ∙ ap (λ y. is_of n (last_of y)) pairs)

-- ---- rows by their numbers

module _ {A : Type 0} where
  pub emptied : (t : Bool) (now old : Option (List A)) → now ≡ cond t None old
      → unwrap_or now [] ≡ cond t [] (unwrap_or old [])
  emptied true now old e = ap (λ o. unwrap_or o []) e
  emptied false now old e = ap (λ o. unwrap_or o []) e

  put_back : (t : Bool) (now taken : Option (List A)) (row : List A) → now ≡ cond t (Some row) taken
      → unwrap_or now [] ≡ cond t row (unwrap_or taken [])
  put_back true now taken row e = ap (λ o. unwrap_or o []) e
  put_back false now taken row e = ap (λ o. unwrap_or o []) e

both_true : (a b : Bool) → (a && b) ≡ true → (a ≡ true) × (b ≡ true)
both_true true b e = (refl, e)
both_true false b e = absurd (true≢false (sym e))

module _ {A : Type 0} where
  noted_by : (t : Bool) (now row taken here there : List (ℕ × A)) (n : ℕ) (v : A) → now ≡ cond t row taken
      → row ≡ noted n v there
      → taken ≡ cond t [] here → (t ≡ true → there ≡ here) → now ≡ cond t (noted n v here) here
  noted_by true now row taken here there n v e1 e2 e3 same = e1 ∙ (e2 ∙ ap (λ xs. noted n v xs) (same refl))
  noted_by false now row taken here there n v e1 e2 e3 same = e1 ∙ e3

  -- a row is taken out, has one more value, and is put back
  pub noted_in : (rows : ℕ → ℕ
      → List (ℕ × A)) (a b f k n : ℕ) (v : A) (now taken : Option (List (ℕ × A))) (row : List (ℕ × A))
      → now ≡ cond (eqb a f && eqb b k) (Some row) taken → row ≡ noted n v (rows a b)
      → unwrap_or taken [] ≡ cond (eqb a f && eqb b k) [] (rows f k)
      → unwrap_or now [] ≡ cond (eqb a f && eqb b k) (noted n v (rows f k)) (rows f k)
  noted_in rows a b f k n v now taken row e1 e2 e3 =
      noted_by (eqb a f && eqb b k) _ row _ (rows f k) (rows a b) n v
      (put_back (eqb a f && eqb b k) now taken row e1) e2 e3
      (λ e. let two = both_true (eqb a f) (eqb b k) e in ap₂ rows (eqb-true a f two.0) (eqb-true b k two.1))
