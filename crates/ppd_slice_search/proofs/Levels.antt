-- The search by levels finds the slice.
use Rattle.std.proofs.lemmas.List.Elements.{All-from_recursion}
use Rattle.std.proofs.lemmas.List.Kept.{AllPairs-cons}
use Rattle.std.proofs.Common.{◌≡◌, ℕ, zero, suc, ◌+◌, ◌<◌, ◌≤◌, Bool, true, false, List, [], ◌∷◌, ◌++◌, refl, ap, ap₂, sym, subst, ◌∙◌, arith, length, length-append, map, filter, cond, inl, inr, ◌⊎◌, true≢false}
use Rattle.std.specs.Prelude.{⊤, fold, nat_eq, nat_lt, not, ◌&&◌, ◌||◌, if◌then◌else◌, AllPairs}
use Rattle.std.specs.List.{flat_map, AllByRecursion}
use Rattle.std.proofs.lemmas.Bool.{and_parts, cases_eq, cases_lt, eq-eqb, eqb-true, le-ltb, lt-ltb, ltb-true, or_cases}
use Rattle.ppd_slice_search.specs.declared.reached.ItemAt.{ItemAt}
use Rattle.ppd_slice_search.specs.declared.reached.Reached.{Reached}
use Rattle.ppd_slice_search.specs.Laws.{LevelsAreReach}
use Rattle.ppd_slice_search.specs.Levels.{at_depth, is_among, is_item, is_sooner, levels, next_level, put_item, reached}
use Rattle.ppd_slice_search.specs.Reach.{IsBefore, IsIn, IsReach, Leads, at, comes, item_of, stays}

-- item a comes before item b: by process, then interval, then number
abbrev pub IsSooner : ItemAt → ItemAt → Type 0
IsSooner a b =
    (a.process < b.process)
    ⊎ ((a.process ≡ b.process) × ((a.interval < b.interval) ⊎ ((a.interval ≡ b.interval) × (a.item < b.item))))

-- r comes before each of these
abbrev pub AllAfter : Reached → List Reached → Type 0
AllAfter r ss = AllByRecursion (IsBefore r) ss

-- ---- lists

pub in_both : {A : Type 0} (x : A) (xs ys : List A) → IsIn x (xs ++ ys) → IsIn x xs ⊎ IsIn x ys
in_both x [] ys m = inr m
in_both x (z ∷ xs) ys (inl e) = inl (inl e)
in_both x (z ∷ xs) ys (inr m) = by (in_both x xs ys m)
  where
    by : IsIn x xs ⊎ IsIn x ys → IsIn x (z ∷ xs) ⊎ IsIn x ys
    by (inl k) = inl (inr k)
    by (inr k) = inr k

pub in_front : {A : Type 0} (x : A) (xs ys : List A) → IsIn x xs → IsIn x (xs ++ ys)
in_front x [] ys m = absurd m
in_front x (z ∷ xs) ys (inl e) = inl e
in_front x (z ∷ xs) ys (inr m) = inr (in_front x xs ys m)

pub in_back : {A : Type 0} (x : A) (xs ys : List A) → IsIn x ys → IsIn x (xs ++ ys)
in_back x [] ys m = m
in_back x (z ∷ xs) ys m = inr (in_back x xs ys m)

in_mapped : {A B : Type 0} (f : A → B) (xs : List A) (y : B) → IsIn y (map f xs) → (x : A) × IsIn x xs × (y ≡ f x)
in_mapped f [] y m = absurd m
in_mapped f (x ∷ xs) y (inl e) = (x, inl refl, e)
in_mapped f (x ∷ xs) y (inr m) = let r = in_mapped f xs y m in (r.0, inr r.1, r.2)

mapped_in : {A B : Type 0} (f : A → B) (xs : List A) (x : A) → IsIn x xs → IsIn (f x) (map f xs)
mapped_in f [] x m = absurd m
mapped_in f (y ∷ ys) x (inl e) = inl (ap f e)
mapped_in f (y ∷ ys) x (inr m) = inr (mapped_in f ys x m)

pub in_flat : {A B : Type 0} (f : A → List B) (xs : List A) (y : B) → IsIn y (flat_map f xs) → (x : A) × IsIn x xs × IsIn y (f x)
in_flat f [] y m = absurd m
in_flat f (x ∷ xs) y m = elim (in_both y (f x) (flat_map f xs) m) [
  | inl k ↦ (x, inl refl, k)
  | inr k ↦ let r = in_flat f xs y k in (r.0, inr r.1, r.2)
]

flat_in : {A B : Type 0} (f : A → List B) (xs : List A) (x : A) (y : B) → IsIn x xs → IsIn y (f x) → IsIn y (flat_map f xs)
flat_in f [] x y m k = absurd m
flat_in f (z ∷ xs) x y (inl e) k = in_front y (f z) (flat_map f xs) (subst (λ w. IsIn y (f w)) e k)
flat_in f (z ∷ xs) x y (inr m) k = in_back y (f z) (flat_map f xs) (flat_in f xs x y m k)

in_filtered : {A : Type 0} (t : A → Bool) (xs : List A) (x : A) → IsIn x (filter t xs) → IsIn x xs × (t x ≡ true)
in_filtered t [] x m = absurd m
in_filtered t (y ∷ ys) x m = by (t y) refl m (in_filtered t ys x)
  where
    by : (b : Bool) → t y ≡ b → IsIn x (cond b (y ∷ filter t ys) (filter t ys)) → (IsIn x (filter t ys) → IsIn x ys × (t x ≡ true)) → IsIn x (y ∷ ys) × (t x ≡ true)
    by true e (inl f) go = (inl f, ap t f ∙ e)
    by true e (inr k) go = let r = go k in (inr r.0, r.1)
    by false e k go = let r = go k in (inr r.0, r.1)

filtered_in : {A : Type 0} (t : A → Bool) (xs : List A) (x : A) → IsIn x xs → t x ≡ true → IsIn x (filter t xs)
filtered_in t [] x m e = absurd m
filtered_in t (y ∷ ys) x (inl f) e = subst (λ b. IsIn x (cond b (y ∷ filter t ys) (filter t ys))) (sym (ap t (sym f) ∙ e)) (inl f)
filtered_in t (y ∷ ys) x (inr m) e = by (t y) (filtered_in t ys x m e)
  where
    by : (b : Bool) → IsIn x (filter t ys) → IsIn x (cond b (y ∷ filter t ys) (filter t ys))
    by true k = inr k
    by false k = k

-- ---- items

pub item_same : (a b : ItemAt) → is_item a b ≡ true → a ≡ b
item_same a b e =
    let outer = and_parts (nat_eq a.process b.process) (nat_eq a.interval b.interval && nat_eq a.item b.item) e in
    let inner = and_parts (nat_eq a.interval b.interval) (nat_eq a.item b.item) outer.1 in
    ap₂ (λ p k. at p k a.item) (eqb-true a.process b.process outer.0) (eqb-true a.interval b.interval inner.0)
    ∙ ap (at b.process b.interval) (eqb-true a.item b.item inner.1)

pub same_item : (a b : ItemAt) → a ≡ b → is_item a b ≡ true
same_item a b e =
    subst (λ c. is_item a c ≡ true) e
    (ap₂ (λ x y. x && y) (eq-eqb a.process a.process refl) (ap₂ (λ x y. x && y) (eq-eqb a.interval a.interval refl) (eq-eqb a.item a.item refl)))

among_in : (xs : List ItemAt) (a : ItemAt) → is_among xs a ≡ true → IsIn a xs
among_in [] a e = absurd (true≢false (sym e))
among_in (x ∷ xs) a e = by (is_item a x) refl e (among_in xs a)
  where
    by : (b : Bool) → is_item a x ≡ b → (b || is_among xs a) ≡ true → (is_among xs a ≡ true → IsIn a xs) → IsIn a (x ∷ xs)
    by true f g go = inl (item_same a x f)
    by false f g go = inr (go g)

in_among : (xs : List ItemAt) (a : ItemAt) → IsIn a xs → is_among xs a ≡ true
in_among [] a m = absurd m
in_among (x ∷ xs) a (inl e) = ap (λ b. b || is_among xs a) (same_item a x e)
in_among (x ∷ xs) a (inr m) = by (is_item a x) (in_among xs a m)
  where
    by : (b : Bool) → is_among xs a ≡ true → (b || is_among xs a) ≡ true
    by true k = refl
    by false k = k

not_true : (b : Bool) → b ≡ false → not b ≡ true
not_true b e = ap not e

not_false : (b : Bool) → not b ≡ true → b ≡ false
not_false true e = absurd (true≢false (sym e))
not_false false e = refl

-- ---- sorted lists of items

abbrev Later : ItemAt → List ItemAt → Type 0
Later a [] = ⊤
Later a (b ∷ bs) = IsSooner a b × Later a bs

abbrev pub IsSorted : List ItemAt → Type 0
IsSorted [] = ⊤
IsSorted (a ∷ as') = Later a as' × IsSorted as'

pub sooner_trans : (a b c : ItemAt) → IsSooner a b → IsSooner b c → IsSooner a c
sooner_trans a b c (inl x) (inl y) = inl (omega (arith, x, y))
sooner_trans a b c (inl x) (inr (f, y)) = inl (omega (arith, x, f))
sooner_trans a b c (inr (e, x)) (inl y) = inl (omega (arith, e, y))
sooner_trans a b c (inr (e, inl x)) (inr (f, inl y)) = inr (e ∙ f, inl (omega (arith, x, y)))
sooner_trans a b c (inr (e, inl x)) (inr (f, inr (g, y))) = inr (e ∙ f, inl (omega (arith, x, g)))
sooner_trans a b c (inr (e, inr (g, x))) (inr (f, inl y)) = inr (e ∙ f, inl (omega (arith, g, y)))
sooner_trans a b c (inr (e, inr (g, x))) (inr (f, inr (k, y))) = inr (e ∙ f, inr (g ∙ k, omega (arith, x, y)))

sooner_is : (a b : ItemAt) → is_sooner a b ≡ true → IsSooner a b
sooner_is a b e = elim (or_cases (nat_lt a.process b.process) (nat_eq a.process b.process && (nat_lt a.interval b.interval || (nat_eq a.interval b.interval && nat_lt a.item b.item))) e) [
  | inl x ↦ inl (ltb-true a.process b.process x)
  | inr x ↦
      let p = and_parts (nat_eq a.process b.process) (nat_lt a.interval b.interval || (nat_eq a.interval b.interval && nat_lt a.item b.item)) x in
      inr (
        eqb-true a.process b.process p.0,
        elim (or_cases (nat_lt a.interval b.interval) (nat_eq a.interval b.interval && nat_lt a.item b.item) p.1) [
          | inl y ↦ inl (ltb-true a.interval b.interval y)
          | inr y ↦ let q = and_parts (nat_eq a.interval b.interval) (nat_lt a.item b.item) y in inr (eqb-true a.interval b.interval q.0, ltb-true a.item b.item q.1)
        ],
      )
]

-- two items are one, or in an order
pub ordered : (a b : ItemAt) → (a ≡ b) ⊎ (IsSooner a b ⊎ IsSooner b a)
ordered a b = elim (cases_lt a.process b.process) [
  | inl x ↦ inr (inl (inl x))
  | inr x ↦ elim (cases_eq a.process b.process) [
    | inr n ↦ inr (inr (inl (omega (arith, x, n))))
    | inl e ↦ elim (cases_lt a.interval b.interval) [
      | inl y ↦ inr (inl (inr (e, inl y)))
      | inr y ↦ elim (cases_eq a.interval b.interval) [
        | inr n ↦ inr (inr (inr (sym e, inl (omega (arith, y, n)))))
        | inl f ↦ elim (cases_lt a.item b.item) [
          | inl z ↦ inr (inl (inr (e, inr (f, z))))
          | inr z ↦ elim (cases_eq a.item b.item) [
            | inr n ↦ inr (inr (inr (sym e, inr (sym f, omega (arith, z, n)))))
            | inl g ↦ inl (ap₂ (λ p k. at p k a.item) e f ∙ ap (at b.process b.interval) g)
          ]
        ]
      ]
    ]
  ]
]

later_all : (a : ItemAt) (bs : List ItemAt) → ((b : ItemAt) → IsIn b bs → IsSooner a b) → Later a bs
later_all a [] h = tt
later_all a (b ∷ bs) h = (h b (inl refl), later_all a bs (λ c m. h c (inr m)))

all_later : (a : ItemAt) (bs : List ItemAt) (b : ItemAt) → Later a bs → IsIn b bs → IsSooner a b
all_later a [] b h m = absurd m
all_later a (c ∷ bs) b h (inl e) = subst (IsSooner a) (sym e) h.0
all_later a (c ∷ bs) b h (inr m) = all_later a bs b h.1 m

put_in : (a x : ItemAt) (bs : List ItemAt) → IsIn x (put_item a bs) → (x ≡ a) ⊎ IsIn x bs
put_in a x [] (inl e) = inl e
put_in a x [] (inr m) = absurd m
put_in a x (b ∷ bs) m = by (is_item a b) (is_sooner a b) m (put_in a x bs)
  where
    by : (s t : Bool) → IsIn x (if s then b ∷ bs else if t then a ∷ b ∷ bs else b ∷ put_item a bs) → (IsIn x (put_item a bs) → (x ≡ a) ⊎ IsIn x bs) → (x ≡ a) ⊎ IsIn x (b ∷ bs)
    by true t k go = inr k
    by false true (inl e) go = inl e
    by false true (inr k) go = inr k
    by false false (inl e) go = inr (inl e)
    by false false (inr k) go = elim (go k) [ inl e ↦ inl e | inr l ↦ inr (inr l) ]

in_put : (a x : ItemAt) (bs : List ItemAt) → (x ≡ a) ⊎ IsIn x bs → IsIn x (put_item a bs)
in_put a x [] m = m
in_put a x (b ∷ bs) m = by (is_item a b) refl (is_sooner a b) m (in_put a x bs)
  where
    by : (s : Bool) → is_item a b ≡ s → (t : Bool) → (x ≡ a) ⊎ IsIn x (b ∷ bs) → ((x ≡ a) ⊎ IsIn x bs → IsIn x (put_item a bs)) → IsIn x (if s then b ∷ bs else if t then a ∷ b ∷ bs else b ∷ put_item a bs)
    by true e t (inl f) go = inl (f ∙ item_same a b e)
    by true e t (inr k) go = k
    by false e true k go = k
    by false e false (inl f) go = inr (go (inl f))
    by false e false (inr (inl f)) go = inl f
    by false e false (inr (inr k)) go = inr (go (inr k))

put_sorted : (a : ItemAt) (bs : List ItemAt) → IsSorted bs → IsSorted (put_item a bs)
put_sorted a [] h = (tt, tt)
put_sorted a (b ∷ bs) h = by (is_item a b) refl (is_sooner a b) refl (put_sorted a bs h.1)
  where
    not_item : is_item a b ≡ false → a ≡ b → ⊥
    not_item e same = true≢false (sym (same_item a b same) ∙ e)

    sooner_yes : (x y : ItemAt) → IsSooner x y → is_sooner x y ≡ true
    sooner_yes x y (inl p) =
        ap (λ c. c || (nat_eq x.process y.process && (nat_lt x.interval y.interval || (nat_eq x.interval y.interval && nat_lt x.item y.item)))) (lt-ltb x.process y.process p)
    sooner_yes x y (inr (p, inl k)) =
        ap₂ (λ c d. c || (d && (nat_lt x.interval y.interval || (nat_eq x.interval y.interval && nat_lt x.item y.item)))) (le-ltb x.process y.process (omega (arith, p))) (eq-eqb x.process y.process p)
        ∙ ap (λ c. c || (nat_eq x.interval y.interval && nat_lt x.item y.item)) (lt-ltb x.interval y.interval k)
    sooner_yes x y (inr (p, inr (k, i))) =
        ap₂ (λ c d. c || (d && (nat_lt x.interval y.interval || (nat_eq x.interval y.interval && nat_lt x.item y.item)))) (le-ltb x.process y.process (omega (arith, p))) (eq-eqb x.process y.process p)
        ∙ ap₂ (λ c d. c || (d && nat_lt x.item y.item)) (le-ltb x.interval y.interval (omega (arith, k))) (eq-eqb x.interval y.interval k)
        ∙ lt-ltb x.item y.item i

    by : (s : Bool) → is_item a b ≡ s → (t : Bool) → is_sooner a b ≡ t → IsSorted (put_item a bs) → IsSorted (if s then b ∷ bs else if t then a ∷ b ∷ bs else b ∷ put_item a bs)
    by true e t f go = h
    by false e true f go =
        let first : IsSooner a b = sooner_is a b f in
        ((first, later_all a bs (λ c m. sooner_trans a b c first (all_later b bs c h.0 m))), h)
    by false e false f go =
        let first : IsSooner b a = elim (ordered a b) [
          | inl same ↦ absurd (not_item e same)
          | inr (inl x) ↦ absurd (true≢false (sym (sooner_yes a b x) ∙ f))
          | inr (inr x) ↦ x
        ] in
        (later_all b (put_item a bs) (λ c m. elim (put_in a c bs m) [ inl same ↦ subst (IsSooner b) (sym same) first | inr k ↦ all_later b bs c h.0 k ]), go)

fold_in : (acc as' : List ItemAt) (x : ItemAt) → IsIn x (fold (λ xs a. put_item a xs) acc as') → IsIn x acc ⊎ IsIn x as'
fold_in acc [] x m = inl m
fold_in acc (a ∷ as') x m = elim (fold_in (put_item a acc) as' x m) [
  | inl k ↦ elim (put_in a x acc k) [ inl e ↦ inr (inl e) | inr l ↦ inl l ]
  | inr k ↦ inr (inr k)
]

in_fold : (acc as' : List ItemAt) (x : ItemAt) → IsIn x acc ⊎ IsIn x as' → IsIn x (fold (λ xs a. put_item a xs) acc as')
in_fold acc [] x (inl m) = m
in_fold acc [] x (inr m) = absurd m
in_fold acc (a ∷ as') x (inl m) = in_fold (put_item a acc) as' x (inl (in_put a x acc (inr m)))
in_fold acc (a ∷ as') x (inr (inl e)) = in_fold (put_item a acc) as' x (inl (in_put a x acc (inl e)))
in_fold acc (a ∷ as') x (inr (inr m)) = in_fold (put_item a acc) as' x (inr m)

fold_sorted : (acc as' : List ItemAt) → IsSorted acc → IsSorted (fold (λ xs a. put_item a xs) acc as')
fold_sorted acc [] h = h
fold_sorted acc (a ∷ as') h = fold_sorted (put_item a acc) as' (put_sorted a acc h)

-- ---- distinct items

abbrev IsDistinct : List ItemAt → Type 0
IsDistinct [] = ⊤
IsDistinct (x ∷ xs) = (IsIn x xs → ⊥) × IsDistinct xs

not_sooner : (a : ItemAt) → IsSooner a a → ⊥
not_sooner a (inl x) = omega (arith, x)
not_sooner a (inr (e, inl x)) = omega (arith, x)
not_sooner a (inr (e, inr (f, x))) = omega (arith, x)

sorted_distinct : (xs : List ItemAt) → IsSorted xs → IsDistinct xs
sorted_distinct [] h = tt
sorted_distinct (x ∷ xs) h = ((λ m. not_sooner x (all_later x xs x h.0 m)), sorted_distinct xs h.1)

both_distinct : (xs ys : List ItemAt) → IsDistinct xs → IsDistinct ys → ((x : ItemAt) → IsIn x xs → IsIn x ys → ⊥) → IsDistinct (xs ++ ys)
both_distinct [] ys a b apart = b
both_distinct (x ∷ xs) ys a b apart =
    ((λ m. elim (in_both x xs ys m) [ inl k ↦ a.0 k | inr k ↦ apart x (inl refl) k ]), both_distinct xs ys a.1 b (λ z m k. apart z (inr m) k))

record Splits (x : ItemAt) (ys : List ItemAt) : Type 0 where
  front : List ItemAt
  back : List ItemAt
  are : ys ≡ front ++ x ∷ back

split_at : (x : ItemAt) (ys : List ItemAt) → IsIn x ys → Splits x ys
split_at x [] m = absurd m
split_at x (y ∷ ys) (inl e) = record { front = []; back = ys; are = ap (λ z. z ∷ ys) (sym e) }
split_at x (y ∷ ys) (inr m) = let s : Splits x ys = split_at x ys m in record { front = y ∷ s.front; back = s.back; are = ap (λ l. y ∷ l) s.are }

-- distinct items among others are no more than those
no_more : (xs ys : List ItemAt) → IsDistinct xs → ((x : ItemAt) → IsIn x xs → IsIn x ys) → length xs ≤ length ys
no_more [] ys d h = omega arith
no_more (x ∷ xs) ys d h =
    let s : Splits x ys = split_at x ys (h x (inl refl)) in
    let rest : length xs ≤ length (s.front ++ s.back) = no_more xs (s.front ++ s.back) d.1 (λ z m. left s z m (subst (IsIn z) s.are (h z (inr m)))) in
    let one : length (s.front ++ s.back) ≡ length s.front + length s.back = length-append s.front s.back in
    let two : length (s.front ++ x ∷ s.back) ≡ length s.front + length (x ∷ s.back) = length-append s.front (x ∷ s.back) in
    let all : length ys ≡ length (s.front ++ x ∷ s.back) = ap length s.are in
    omega (arith, rest, one, two, all)
  where
    left : (s : Splits x ys) (z : ItemAt) → IsIn z xs → IsIn z (s.front ++ x ∷ s.back) → IsIn z (s.front ++ s.back)
    left s z m k = elim (in_both z s.front (x ∷ s.back) k) [
      | inl l ↦ in_front z s.front s.back l
      | inr l ↦ by l
    ]
      where
        by : IsIn z (x ∷ s.back) → IsIn z (s.front ++ s.back)
        by (inl e) = absurd (d.0 (subst (λ w. IsIn w xs) e m))
        by (inr l) = in_back z s.front s.back l

-- ---- paths

module _ (next : ItemAt → List ItemAt) where
  pub leads_more : (n : ℕ) (a c b : ItemAt) → Leads next n a c → IsIn b (next c) → Leads next (suc n) a b
  leads_more n a c b (stays e f) m = comes n b refl (subst (λ x. IsIn b (next x)) (sym f) m) (stays e refl)
  leads_more n a c b (comes k x e i rest) m = comes n x refl i (subst (λ z. Leads next z x b) (sym e) (leads_more k x c b rest m))

  pub record Last (n : ℕ) (a b : ItemAt) : Type 0 where
    pub from : ItemAt
    pub leads : Leads next n a from
    pub edge : IsIn b (next from)

  pub leads_less : (n : ℕ) (a b : ItemAt) → Leads next (suc n) a b → Last n a b
  leads_less n a b (stays e f) = absurd (omega (arith, e))
  leads_less zero a b (comes k x e i (stays z f)) = record { from = a; leads = stays refl refl; edge = subst (λ w. IsIn w (next a)) f i }
  leads_less zero a b (comes k x e i (comes l y f j rest)) = absurd (omega (arith, e, f))
  leads_less (suc n) a b (comes k x e i rest) =
      let same : k ≡ suc n = omega (arith, e) in
      let r : Last n x b = leads_less n x b (subst (λ z. Leads next z x b) same rest) in
      record { from = r.from; leads = comes n x refl i r.leads; edge = r.edge }

  -- ---- one level

  module _ (items : List ItemAt) (a : ItemAt) (first : IsIn a items) (closed : (b c : ItemAt) → IsIn b items → IsIn c (next b) → IsIn c items) where
    record IsLevel (d : ℕ) (seen level : List ItemAt) : Type 0 where
      led : (b : ItemAt) → IsIn b level → Leads next d a b
      least : (b : ItemAt) → IsIn b level → (m : ℕ) → Leads next m a b → d ≤ m
      shallow : (m : ℕ) (b : ItemAt) → m ≤ d → Leads next m a b → IsIn b seen
      deep : (b : ItemAt) → IsIn b seen → (m : ℕ) × (m ≤ d) × Leads next m a b
      fresh : (b : ItemAt) → Leads next d a b → IsIn b level ⊎ ((m : ℕ) × (m < d) × Leads next m a b)
      sorted' : IsSorted level
      distinct : IsDistinct seen
      inside : (b : ItemAt) → IsIn b seen → IsIn b items
      among : (b : ItemAt) → IsIn b level → IsIn b seen

    module _ (d : ℕ) (seen level : List ItemAt) (h : IsLevel d seen level) where
      abbrev after : List ItemAt
      after = next_level next seen level

      abbrev others : List ItemAt
      others = filter (λ x. not (is_among seen x)) (flat_map next level)

      record IsNew (b : ItemAt) : Type 0 where
        from : ItemAt
        there : IsIn from level
        edge : IsIn b (next from)
        new : IsIn b seen → ⊥

      new_of : (b : ItemAt) → IsIn b after → IsNew b
      new_of b m =
          let k : IsIn b others = elim (fold_in [] others b m) [ inl x ↦ absurd x | inr x ↦ x ] in
          let f = in_filtered (λ x. not (is_among seen x)) (flat_map next level) b k in
          let g = in_flat next level b f.0 in
          record { from = g.0; there = g.1; edge = g.2; new = λ s. true≢false (sym (in_among seen b s) ∙ not_false (is_among seen b) f.1) }

      of_new : (b c : ItemAt) → IsIn c level → IsIn b (next c) → IsIn b seen ⊎ IsIn b after
      of_new b c m k = by (is_among seen b) refl
        where
          by : (t : Bool) → is_among seen b ≡ t → IsIn b seen ⊎ IsIn b after
          by true e = inl (among_in seen b e)
          by false e = inr (in_fold [] others b (inr (filtered_in (λ x. not (is_among seen x)) (flat_map next level) b (flat_in next level c b m k) (not_true (is_among seen b) e))))

      next_is : IsLevel (suc d) (seen ++ after) after
      next_is = record {
        led = λ b m. let w : IsNew b = new_of b m in leads_more d a w.from b (h.led w.from w.there) w.edge;
        least = λ b m k l. let w : IsNew b = new_of b m in elim (cases_lt d k) [ inl less ↦ omega (arith, less) | inr more ↦ absurd (w.new (h.shallow k b (omega (arith, more)) l)) ];
        shallow = λ m b le l. elim (cases_lt d m) [
          | inr more ↦ in_front b seen after (h.shallow m b (omega (arith, more)) l)
          | inl less ↦ last b (subst (λ z. Leads next z a b) (let z : m ≡ suc d = omega (arith, less, le) in z) l)
        ];
        deep = λ b m. elim (in_both b seen after m) [
          | inl k ↦ let x = h.deep b k in let le = x.1 in (x.0, omega (arith, le), x.2)
          | inr k ↦ let w : IsNew b = new_of b k in (suc d, omega arith, leads_more d a w.from b (h.led w.from w.there) w.edge)
        ];
        fresh = λ b l. newest b (leads_less d a b l);
        sorted' = fold_sorted [] others tt;
        distinct = both_distinct seen after h.distinct (sorted_distinct after (fold_sorted [] others tt)) (λ x s m. (new_of x m).new s);
        inside = λ b m. elim (in_both b seen after m) [ inl k ↦ h.inside b k | inr k ↦ let w : IsNew b = new_of b k in closed w.from b (h.inside w.from (h.among w.from w.there)) w.edge ];
        among = λ b m. in_back b seen after m;
      }
        where
          last : (b : ItemAt) → Leads next (suc d) a b → IsIn b (seen ++ after)
          last b l =
              let r : Last d a b = leads_less d a b l in
              elim (h.fresh r.from r.leads) [
                | inl m ↦ elim (of_new b r.from m r.edge) [ inl s ↦ in_front b seen after s | inr k ↦ in_back b seen after k ]
                | inr x ↦ let lt = x.1 in in_front b seen after (h.shallow (suc x.0) b (omega (arith, lt)) (leads_more x.0 a r.from b x.2 r.edge))
              ]

          newest : (b : ItemAt) → Last d a b → IsIn b after ⊎ ((m : ℕ) × (m < suc d) × Leads next m a b)
          newest b r = elim (h.fresh r.from r.leads) [
            | inl m ↦ elim (of_new b r.from m r.edge) [
              | inl s ↦ let x = h.deep b s in let le = x.1 in inr (x.0, omega (arith, le), x.2)
              | inr k ↦ inl k
            ]
            | inr x ↦ let lt = x.1 in inr (suc x.0, omega (arith, lt), leads_more x.0 a r.from b x.2 r.edge)
          ]

    -- ---- all levels

    -- what is listed from depth d on
    record IsRest (d : ℕ) (rs : List Reached) : Type 0 where
      rising : AllPairs IsBefore rs
      from : (r : Reached) → IsIn r rs → d ≤ r.depth
      led : (r : Reached) → IsIn r rs → Leads next r.depth a (item_of r)
      least : (r : Reached) → IsIn r rs → (m : ℕ) → Leads next m a (item_of r) → r.depth ≤ m
      all : (m : ℕ) (b : ItemAt) → Leads next m a b → ((k : ℕ) × (k < d) × Leads next k a b) ⊎ ((r : Reached) × IsIn r rs × (item_of r ≡ b))

    -- a level that is empty is the last
    at_end : (d : ℕ) (seen : List ItemAt) → IsLevel d seen [] → IsRest d []
    at_end d seen h = record { rising = λ i j r lt within. absurd (omega arith); from = λ r m. absurd m; led = λ r m. absurd m; least = λ r m. absurd m; all = λ m b l. inl (nearer m b l) }
      where
        at_depth' : (k : ℕ) (b : ItemAt) → k ≤ d → Leads next k a b → (m : ℕ) × (m < d) × Leads next m a b
        at_depth' k b le l = elim (cases_lt k d) [
          | inl less ↦ (k, less, l)
          | inr more ↦ elim (h.fresh b (subst (λ z. Leads next z a b) (let z : k ≡ d = omega (arith, le, more) in z) l)) [ inl m ↦ absurd m | inr x ↦ x ]
        ]

        nearer : (m : ℕ) (b : ItemAt) → Leads next m a b → (k : ℕ) × (k < d) × Leads next k a b
        nearer zero b l = at_depth' zero b (omega arith) l
        nearer (suc m) b l =
            let r : Last m a b = leads_less m a b l in
            let c = nearer m r.from r.leads in
            let lt = c.1 in
            at_depth' (suc c.0) b (omega (arith, lt)) (leads_more c.0 a r.from b c.2 r.edge)

    level_rising : (d : ℕ) (level : List ItemAt) (rs : List Reached) → IsSorted level → AllPairs IsBefore rs → ((r : Reached) → IsIn r rs → d < r.depth) → AllPairs IsBefore (map (at_depth d) level ++ rs)
    level_rising d [] rs s r far = r
    level_rising d (b ∷ bs) rs s r far =
        AllPairs-cons IsBefore (at_depth d b) (map (at_depth d) bs ++ rs)
        (All-from_recursion (IsBefore (at_depth d b)) (map (at_depth d) bs ++ rs) (after_all bs s.0)) (level_rising d bs rs s.1 r far)
      where
        rest_after : (ss : List Reached) → ((x : Reached) → IsIn x ss → d < x.depth) → AllAfter (at_depth d b) ss
        rest_after [] f = tt
        rest_after (x ∷ ss) f = (inl (f x (inl refl)), rest_after ss (λ y m. f y (inr m)))

        after_all : (cs : List ItemAt) → Later b cs → AllAfter (at_depth d b) (map (at_depth d) cs ++ rs)
        after_all [] l = rest_after rs far
        after_all (c ∷ cs) l = (inr (refl, l.0), after_all cs l.1)

    one_more : (d : ℕ) (seen level : List ItemAt) (rs : List Reached) → IsLevel d seen level → IsRest (suc d) rs → IsRest d (map (at_depth d) level ++ rs)
    one_more d seen level rs h k = record {
      rising = level_rising d level rs h.sorted' k.rising (λ r m. let le = k.from r m in omega (arith, le));
      from = λ r m. elim (in_both r (map (at_depth d) level) rs m) [
        | inl x ↦ let y = in_mapped (at_depth d) level r x in let z : r.depth ≡ d = ap (λ (q : Reached). q.depth) y.2 in omega (arith, z)
        | inr x ↦ let le = k.from r x in omega (arith, le)
      ];
      led = λ r m. elim (in_both r (map (at_depth d) level) rs m) [
        | inl x ↦ let y = in_mapped (at_depth d) level r x in subst (λ (q : Reached). Leads next q.depth a (item_of q)) (sym y.2) (h.led y.0 y.1)
        | inr x ↦ k.led r x
      ];
      least = λ r m. elim (in_both r (map (at_depth d) level) rs m) [
        | inl x ↦ let y = in_mapped (at_depth d) level r x in subst (λ (q : Reached). (n : ℕ) → Leads next n a (item_of q) → q.depth ≤ n) (sym y.2) (λ n l. h.least y.0 y.1 n l)
        | inr x ↦ k.least r x
      ];
      all = λ m b l. elim (k.all m b l) [
        | inl x ↦ let lt = x.1 in elim (cases_lt x.0 d) [
          | inl less ↦ inl (x.0, less, x.2)
          | inr more ↦ elim (h.fresh b (subst (λ z. Leads next z a b) (let z : x.0 ≡ d = omega (arith, lt, more) in z) x.2)) [
            | inl here ↦ inr (at_depth d b, in_front (at_depth d b) (map (at_depth d) level) rs (mapped_in (at_depth d) level b here), refl)
            | inr y ↦ inl y
          ]
        ]
        | inr x ↦ inr (x.0, in_back x.0 (map (at_depth d) level) rs x.1, x.2)
      ];
    }

    abbrev Enough : ℕ → List ItemAt → List ItemAt → Type 0
    Enough n seen level = (level ≡ []) ⊎ (length items < n + length seen)

    rest_is : (n d : ℕ) (seen level : List ItemAt) → IsLevel d seen level → Enough n seen level → IsRest d (levels next n d seen level)
    rest_is zero d seen [] h e = at_end d seen h
    rest_is zero d seen (b ∷ bs) h (inl e) = absurd (empty e)
      where
        empty : (b ∷ bs) ≡ [] → ⊥
        empty e = cc
    rest_is zero d seen (b ∷ bs) h (inr lt) = let le : length seen ≤ length items = no_more seen items h.distinct h.inside in absurd (omega (arith, le, lt))
    rest_is (suc n) d seen [] h e = at_end d seen h
    rest_is (suc n) d seen (b ∷ bs) h (inl e) = absurd (empty e)
      where
        empty : (b ∷ bs) ≡ [] → ⊥
        empty e = cc
    rest_is (suc n) d seen (b ∷ bs) h (inr lt) =
        let z : suc d ≡ d + 1 = omega arith in
        one_more d seen (b ∷ bs) (levels next n (d + 1) (seen ++ next_level next seen (b ∷ bs)) (next_level next seen (b ∷ bs))) h
        (subst (λ k. IsRest (suc d) (levels next n k (seen ++ next_level next seen (b ∷ bs)) (next_level next seen (b ∷ bs)))) z
        (rest_is n (suc d) (seen ++ next_level next seen (b ∷ bs)) (next_level next seen (b ∷ bs)) (next_is d seen (b ∷ bs) h) (more (next_level next seen (b ∷ bs)))))
      where
        more : (l : List ItemAt) → Enough n (seen ++ l) l
        more [] = inl refl
        more (x ∷ xs) =
            let both : length (seen ++ x ∷ xs) ≡ length seen + length (x ∷ xs) = length-append seen (x ∷ xs) in
            inr (omega (arith, lt, both))

    started : IsLevel 0 (a ∷ []) (a ∷ [])
    started = record {
      led = λ b m. only b m (λ e. stays refl (sym e));
      least = λ b m k l. omega arith;
      shallow = λ m b le l. zero_is m b (omega (arith, le)) l;
      deep = λ b m. only' b m;
      fresh = λ b l. inl (zero_is 0 b refl l);
      sorted' = (tt, tt);
      distinct = ((λ m. m), tt);
      inside = λ b m. inside' b m;
      among = λ b m. m;
    }
      where
        only : (b : ItemAt) → IsIn b (a ∷ []) → (b ≡ a → Leads next 0 a b) → Leads next 0 a b
        only b (inl e) f = f e
        only b (inr m) f = absurd m

        only' : (b : ItemAt) → IsIn b (a ∷ []) → (m : ℕ) × (m ≤ 0) × Leads next m a b
        only' b (inl e) = (0, omega arith, stays refl (sym e))
        only' b (inr m) = absurd m

        inside' : (b : ItemAt) → IsIn b (a ∷ []) → IsIn b items
        inside' b (inl e) = subst (λ c. IsIn c items) (sym e) first
        inside' b (inr m) = absurd m

        zero_is : (m : ℕ) (b : ItemAt) → m ≡ 0 → Leads next m a b → IsIn b (a ∷ [])
        zero_is m b e (stays z f) = inl (sym f)
        zero_is m b e (comes n c f i rest) = absurd (omega (arith, e, f))

    reach_is : (n : ℕ) → length items < n → IsReach next a (reached next n a)
    reach_is n lt =
        let k : IsRest 0 (reached next n a) = rest_is n 0 (a ∷ []) (a ∷ []) started (inr (omega (arith, lt))) in
        record {
          rising = k.rising;
          led_to = k.led;
          least = k.least;
          all = λ m b l. elim (k.all m b l) [ inl x ↦ let lt = x.1 in absurd (omega (arith, lt)) | inr x ↦ x ];
        }

pub levels_reach : LevelsAreReach
levels_reach next items a n first closed lt = reach_is next items a first closed n lt

-- ---- the same edges elsewhere

-- what leads alike from all that is reached reaches alike
module _ (next other : ItemAt → List ItemAt) (a : ItemAt) (rs : List Reached) (h : IsReach next a rs) (same : (r : Reached) → IsIn r rs → next (item_of r) ≡ other (item_of r)) where
  alike : (e : ℕ) (c : ItemAt) → Leads next e a c → next c ≡ other c
  alike e c l = let r = h.all e c l in subst (λ b. next b ≡ other b) r.2 (same r.0 r.1)

  forward : (d e : ℕ) (c b : ItemAt) → Leads next e a c → Leads next d c b → Leads other d c b
  forward d e c b l (stays z f) = stays z f
  forward d e c b l (comes n x z i rest) = comes n x z (subst (λ xs. IsIn x xs) (alike e c l) i) (forward n (suc e) x b (leads_more next e a c x l i) rest)

  backward : (d e : ℕ) (c b : ItemAt) → Leads next e a c → Leads other d c b → Leads next d c b
  backward d e c b l (stays z f) = stays z f
  backward d e c b l (comes n x z i rest) =
      let k : IsIn x (next c) = subst (λ xs. IsIn x xs) (sym (alike e c l)) i in
      comes n x z k (backward n (suc e) x b (leads_more next e a c x l k) rest)

  pub reach_as : IsReach other a rs
  reach_as = record {
    rising = h.rising;
    led_to = λ r m. forward r.depth 0 a (item_of r) (stays refl refl) (h.led_to r m);
    least = λ r m d l. h.least r m d (backward d 0 a (item_of r) (stays refl refl) l);
    all = λ d b l. h.all d b (backward d 0 a b (stays refl refl) l);
  }
