-- Lists that stand in one another, and what holds of each of their elements.
use Rattle.std.proofs.Common.{◌≡◌, refl, sym, subst, ℕ, zero, suc, ◌+◌, ◌<◌, arith, List, [], ◌∷◌, ◌++◌, length, Option, Some}
use Rattle.std.specs.Prelude.{slice_get, slice_index_or, IsSomeAnd, ⊤}
use Rattle.std.specs.List.{AllByRecursion}
use Rattle.ppd_ast.specs.Table.{EachAt}

-- Parts of a table.

-- these stand in the table one after another, the first of them with number n
abbrev pub Stands : {X : Type 0} → List X → ℕ → List X → Type 0
Stands all n [] = ⊤
Stands all n (x ∷ xs) = (slice_get all n ≡ Some x) × Stands all (n + 1) xs

pub stands_append : {X : Type 0} (all xs ys : List X) (n : ℕ) → Stands all n (xs ++ ys) → Stands all n xs × Stands all (n + length xs) ys
stands_append all [] ys n h = let e : n ≡ n + 0 = omega arith in (tt, subst (λ k. Stands all k ys) e h)
stands_append all (x ∷ xs) ys n h =
    let parts : Stands all (n + 1) xs × Stands all (n + 1 + length xs) ys = stands_append all xs ys (n + 1) h.1 in
    let e : n + 1 + length xs ≡ n + suc (length xs) = omega arith in
    ((h.0, parts.0), subst (λ k. Stands all k ys) e parts.1)

stands_behind : {X : Type 0} (x : X) (all xs : List X) (n : ℕ) → Stands all n xs → Stands (x ∷ all) (suc n) xs
stands_behind x all [] n h = tt
stands_behind x all (y ∷ ys) n h =
    let e : suc (n + 1) ≡ suc n + 1 = omega arith in
    (h.0, subst (λ k. Stands (x ∷ all) k ys) e (stands_behind x all ys (n + 1) h.1))

-- a table stands in itself
pub stands_all : {X : Type 0} (all : List X) → Stands all 0 all
stands_all [] = tt
stands_all (x ∷ xs) = (refl, stands_behind x xs xs 0 (stands_all xs))

pub some_and : {X : Type 0} (o : Option X) (x : X) (P : X → Type 0) → o ≡ Some x → P x → IsSomeAnd o P
some_and o x P e h = subst (λ v. IsSomeAnd v P) (sym e) h

-- What holds of each element and its number.

abbrev pub EachFrom : {X : Type 0} → (ℕ → X → Type 0) → ℕ → List X → Type 0
EachFrom P n [] = ⊤
EachFrom P n (x ∷ xs) = P n x × EachFrom P (n + 1) xs

pub each_append : {X : Type 0} (P : ℕ → X → Type 0) (m n : ℕ) (xs ys : List X) → m + length xs ≡ n → EachFrom P m xs → EachFrom P n ys → EachFrom P m (xs ++ ys)
each_append P m n [] ys h a b = let e : n ≡ m = omega (arith, h) in subst (λ k. EachFrom P k ys) e b
each_append P m n (x ∷ xs) ys h a b = let e : m + 1 + length xs ≡ n = omega (arith, h) in (a.0, each_append P (m + 1) n xs ys e a.1 b)

each_from : {X : Type 0} (P : ℕ → X → Type 0) (n : ℕ) (xs : List X) → EachFrom P n xs → (k : ℕ) (d : X) → k < length xs → P (n + k) (slice_index_or xs k d)
each_from P n [] h k d l = absurd (omega (arith, l))
each_from P n (x ∷ xs) h zero d l = let e : n ≡ n + 0 = omega arith in subst (λ i. P i x) e h.0
each_from P n (x ∷ xs) h (suc k) d l =
    let e : n + 1 + k ≡ n + suc k = omega arith in
    subst (λ i. P i (slice_index_or xs k d)) e (each_from P (n + 1) xs h.1 k d (omega (arith, l)))

pub each_at : {X : Type 0} (P : ℕ → X → Type 0) (xs : List X) → EachFrom P 0 xs → EachAt P xs
each_at P xs h k d l = let e : 0 + k ≡ k = omega arith in subst (λ i. P i (slice_index_or xs k d)) e (each_from P 0 xs h k d l)

-- What holds of each element.

pub all_parts : {X : Type 0} (P : X → Type 0) (xs ys : List X) → AllByRecursion P (xs ++ ys) → AllByRecursion P xs × AllByRecursion P ys
all_parts P [] ys h = (tt, h)
all_parts P (x ∷ xs) ys h = let p : AllByRecursion P xs × AllByRecursion P ys = all_parts P xs ys h.1 in ((h.0, p.0), p.1)

pub all_two : {X : Type 0} (P Q : X → Type 0) (xs : List X) → AllByRecursion P xs → AllByRecursion Q xs → AllByRecursion (λ x. P x × Q x) xs
all_two P Q [] h i = tt
all_two P Q (x ∷ xs) h i = ((h.0, i.0), all_two P Q xs h.1 i.1)

pub all_three : {X : Type 0} (P Q R : X → Type 0) (xs : List X) → AllByRecursion P xs → AllByRecursion Q xs → AllByRecursion R xs → AllByRecursion (λ x. P x × Q x × R x) xs
all_three P Q R [] h i j = tt
all_three P Q R (x ∷ xs) h i j = ((h.0, i.0, j.0), all_three P Q R xs h.1 i.1 j.1)

-- two lists of which nothing comes are empty
pub nil_parts : {X : Type 0} (xs ys : List X) → xs ++ ys ≡ [] → (xs ≡ []) × (ys ≡ [])
nil_parts [] ys h = (refl, h)
nil_parts (x ∷ xs) ys h = absurd (cc)
