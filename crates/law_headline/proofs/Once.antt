-- Lists with each of their members once, by recursion, and the candidates of races among them.
use Rattle.std.proofs.Common.{◌≡◌, ℕ, zero, suc, ◌+◌, ◌-◌, Bool, true, false, cond, Some, List, [], ◌∷◌, ◌++◌, arith, filter, flat_map, inl, inr, map, refl, ap, slice_get, sym, ◌∙◌}
use Rattle.std.specs.List.{range_with_len}
use Rattle.std.specs.Prelude.{⊤}
use Rattle.ppd_model.specs.declared.graph.Race.{Race}
use Rattle.ppd_model.specs.declared.graph.RaceKind.{RaceKind}
use Rattle.ppd_model.specs.Races.{Edges, candidates, kinds, race}
use Rattle.ppd_model.proofs.OrderWords.{own_edges}
use Rattle.law_headline.proofs.Members.{Member, either, of_filter, of_flat, of_map, of_range}

abbrev pub Once : {A : Type 0} → List A → Type 0
Once [] = ⊤
Once (x ∷ xs) = (Member x xs → ⊥) × Once xs

-- ---- by place

at_member : {A : Type 0} (xs : List A) (k : ℕ) (x : A) → slice_get xs k ≡ Some x → Member x xs
at_member [] zero x e = absurd (cc)
at_member [] (suc k) x e = absurd (cc)
at_member (y ∷ ys) zero x e = inl (cc)
at_member (y ∷ ys) (suc k) x e = inr (at_member ys k x e)

first_alone : {A : Type 0} (y : A) (ys : List A) (k : ℕ) (x : A) → (Member y ys → ⊥) → ◌≡◌ (Some y) (Some x) → slice_get ys k ≡ Some x → ⊥
first_alone y ys k x out e f = let same : Some x ≡ Some y = sym e in out (at_member ys k y (f ∙ same))

pub one_place : {A : Type 0} (xs : List A) → Once xs → (a b : ℕ) (x : A) → slice_get xs a ≡ Some x → slice_get xs b ≡ Some x → a ≡ b
one_place [] o zero b x e f = absurd (cc)
one_place [] o (suc a) b x e f = absurd (cc)
one_place (y ∷ ys) o zero zero x e f = refl
one_place (y ∷ ys) o zero (suc b) x e f = absurd (first_alone y ys b x o.0 e f)
one_place (y ∷ ys) o (suc a) zero x e f = absurd (first_alone y ys a x o.0 f e)
one_place (y ∷ ys) o (suc a) (suc b) x e f = ap suc (one_place ys o.1 a b x e f)

-- ---- of joined, mapped and filtered lists

both_once : {A : Type 0} (xs ys : List A) → Once xs → Once ys → ((x : A) → Member x xs → Member x ys → ⊥) → Once (xs ++ ys)
both_once [] ys o w apart = w
both_once (x ∷ xs) ys o w apart = (
  λ m. elim (either x xs ys m) [ inl a ↦ o.0 a | inr b ↦ apart x (inl refl) b ],
  both_once xs ys o.1 w (λ z m n. apart z (inr m) n),
)

member_as : {A : Type 0} (xs : List A) (z x : A) → z ≡ x → Member z xs → Member x xs
member_as [] z x e m = m
member_as (y ∷ ys) z x e (inl s) = inl (sym e ∙ s)
member_as (y ∷ ys) z x e (inr m) = inr (member_as ys z x e m)

flat_once : {A B : Type 0} (f : A → List B) (xs : List A) → Once xs → ((x : A) → Once (f x)) → ((x y : A) (b : B) → Member b (f x) → Member b (f y) → x ≡ y) → Once (flat_map f xs)
flat_once f [] o each key = tt
flat_once f (x ∷ xs) o each key =
    both_once (f x) (flat_map f xs) (each x) (flat_once f xs o.1 each key)
    (λ b m n. let w = of_flat f b xs n in o.0 (member_as xs w.0 x (key w.0 x b w.2 m) w.1))

map_once : {A B : Type 0} (f : A → B) (xs : List A) → ((x y : A) → f x ≡ f y → x ≡ y) → Once xs → Once (map f xs)
map_once f [] key o = tt
map_once f (x ∷ xs) key o = (λ m. let w = of_map f (f x) xs m in o.0 (member_as xs w.0 x (key w.0 x (sym w.2)) w.1), map_once f xs key o.1)

filtered : {A : Type 0} (test : A → Bool) (x : A) (xs : List A) → (Member x xs → ⊥) → Once (filter test xs) → (b : Bool) → Once (cond b (x ∷ filter test xs) (filter test xs))
filtered test x xs out rest true = (λ m. out (of_filter test x xs m).0, rest)
filtered test x xs out rest false = rest

pub filter_once : {A : Type 0} (test : A → Bool) (xs : List A) → Once xs → Once (filter test xs)
filter_once test [] o = tt
filter_once test (x ∷ xs) o = filtered test x xs o.0 (filter_once test xs o.1) (test x)

range_once : (a n : ℕ) → Once (range_with_len a n)
range_once a zero = tt
range_once a (suc n) = (λ m. let low = (of_range (a + 1) n a m).0 in absurd (omega (arith, low)), range_once (a + 1) n)

-- ---- candidates of races

kinds_once : Once kinds
kinds_once = (
  λ m. elim m [ inl e ↦ absurd (cc) | inr n ↦ elim n [ inl e ↦ absurd (cc) | inr o ↦ o ] ],
  (λ m. elim m [ inl e ↦ absurd (cc) | inr n ↦ n ], (λ m. m, tt)),
)

module _ (e : Edges) where
  abbrev cells : List ℕ
  cells = range_with_len 0 e.cells

  abbrev after : ℕ → List ℕ
  after p = range_with_len (p + 1) (e.processes - (p + 1))

  abbrev of_cell : (p i q j c : ℕ) → List Race
  of_cell p i q j c = map (race p i q j c) kinds

  abbrev of_second_edge : (p i q j : ℕ) → List Race
  of_second_edge p i q j = flat_map (of_cell p i q j) cells

  abbrev of_second : (p i q : ℕ) → List Race
  of_second p i q = flat_map (of_second_edge p i q) (own_edges e q)

  abbrev of_first_edge : (p i : ℕ) → List Race
  of_first_edge p i = flat_map (of_second p i) (after p)

  abbrev of_first : (p : ℕ) → List Race
  of_first p = flat_map (of_first_edge p) (own_edges e p)

  in_cell : (p i q j c : ℕ) (r : Race) → Member r (of_cell p i q j c) → (k : RaceKind) × (r ≡ race p i q j c k)
  in_cell p i q j c r m = let w = of_map (race p i q j c) r kinds m in (w.0, w.2)

  in_second_edge : (p i q j : ℕ) (r : Race) → Member r (of_second_edge p i q j) → (c : ℕ) × (k : RaceKind) × (r ≡ race p i q j c k)
  in_second_edge p i q j r m =
      let w = of_flat (of_cell p i q j) r cells m in
      let v = in_cell p i q j w.0 r w.2 in (w.0, v.0, v.1)

  in_second : (p i q : ℕ) (r : Race) → Member r (of_second p i q) → (j : ℕ) × (c : ℕ) × (k : RaceKind) × (r ≡ race p i q j c k)
  in_second p i q r m =
      let w = of_flat (of_second_edge p i q) r (own_edges e q) m in
      let v = in_second_edge p i q w.0 r w.2 in (w.0, v.0, v.1, v.2)

  in_first_edge : (p i : ℕ) (r : Race) → Member r (of_first_edge p i) → (q : ℕ) × (j : ℕ) × (c : ℕ) × (k : RaceKind) × (r ≡ race p i q j c k)
  in_first_edge p i r m =
      let w = of_flat (of_second p i) r (after p) m in
      let v = in_second p i w.0 r w.2 in (w.0, v.0, v.1, v.2, v.3)

  in_first : (p : ℕ) (r : Race) → Member r (of_first p) → (i : ℕ) × (q : ℕ) × (j : ℕ) × (c : ℕ) × (k : RaceKind) × (r ≡ race p i q j c k)
  in_first p r m =
      let w = of_flat (of_first_edge p) r (own_edges e p) m in
      let v = in_first_edge p w.0 r w.2 in (w.0, v.0, v.1, v.2, v.3, v.4)

  cell_once : (p i q j c : ℕ) → Once (of_cell p i q j c)
  cell_once p i q j c = map_once (race p i q j c) kinds (λ x y e. ap (λ (r : Race). r.kind) e) kinds_once

  second_edge_once : (p i q j : ℕ) → Once (of_second_edge p i q j)
  second_edge_once p i q j = flat_once (of_cell p i q j) cells (range_once 0 e.cells) (cell_once p i q j)
      (λ x y r m n. ap (λ (z : Race). z.cell) (sym (in_cell p i q j x r m).1 ∙ (in_cell p i q j y r n).1))

  second_once : (p i q : ℕ) → Once (of_second p i q)
  second_once p i q = flat_once (of_second_edge p i q) (own_edges e q) (range_once 0 _) (second_edge_once p i q)
      (λ x y r m n. ap (λ (z : Race). z.j) (sym (in_second_edge p i q x r m).2 ∙ (in_second_edge p i q y r n).2))

  first_edge_once : (p i : ℕ) → Once (of_first_edge p i)
  first_edge_once p i = flat_once (of_second p i) (after p) (range_once (p + 1) (e.processes - (p + 1))) (second_once p i)
      (λ x y r m n. ap (λ (z : Race). z.q) (sym (in_second p i x r m).3 ∙ (in_second p i y r n).3))

  first_once : (p : ℕ) → Once (of_first p)
  first_once p = flat_once (of_first_edge p) (own_edges e p) (range_once 0 _) (first_edge_once p)
      (λ x y r m n. ap (λ (z : Race). z.i) (sym (in_first_edge p x r m).4 ∙ (in_first_edge p y r n).4))

  pub candidates_once : Once (candidates e)
  candidates_once = flat_once of_first (range_with_len 0 e.processes) (range_once 0 e.processes) first_once
      (λ x y r m n. ap (λ (z : Race). z.p) (sym (in_first x r m).5 ∙ (in_first y r n).5))
