-- The place past the most statements, among places of which it is known which come before it and which after.
use Rattle.ppd_ast.specs.Counting.{one_if}
use Rattle.ppd_ast.specs.declared.program.Place.{Place}
use Rattle.ppd_check.proofs.Vocabulary.{is_up_to}
use Rattle.ppd_check_names.proofs.Found.First.{first_of_both_assoc, first_of_both_swap}
use Rattle.ppd_check_names.specs.Faults.{at, first, first_of_both, order}
use Rattle.ppd_check_names.specs.declared.fault.Cause.TheVariants.{TooMany}
use Rattle.ppd_check_names.specs.declared.fault.Fault.{Fault}
use Rattle.ppd_check_names.specs.declared.fault.Limit.TheVariants as L
use Rattle.std.proofs.Common.{Bool, List, None, Option, Some, [], ap, arith, cond, false, if◌then◌else◌, length, map, nat_lt, refl, suc, sym, true, zero, ℕ, ◌++◌, ◌+◌, ◌<◌, ◌∙◌, ◌∷◌, ◌≡◌, ◌≤◌}
use Rattle.std.proofs.lemmas.Bool.{false_from_ne_true, ltb-true, true≢false}
use Rattle.std.proofs.lemmas.List.Elements.{All-head, All-tail, All-weaker, Contains-append_right, filter_passes}
use Rattle.std.proofs.lemmas.List.Sorted.{Contains-permutation, IsPermutation-sym, sum_by-IsPermutation}
use Rattle.std.proofs.lemmas.List.Sums.{count_by-le-length, sum_by-append, sum_by-cons}
use Rattle.std.specs.Cmp.{IsTotalOrder, nat_cmp_total, on_total, then_total, upto}
use Rattle.std.specs.List.{All, Contains, count_by, filter}
use Rattle.std.specs.List.Sorted.{IsPermutation}
use Rattle.std.specs.Ordering.{is_gt, is_le, is_lt, nat_cmp, on, ordering_then, then_cmp}
use Rattle.std.specs.declared.cmp.Ordering.{Ordering}
use Rattle.std.specs.declared.cmp.Ordering.TheVariants.{Equal, Greater, Less}

abbrev too_many : Place → Fault
too_many p = at p (TooMany L.Statements)

-- Places in order.

pub up_to_itself : (p : Place) → is_up_to p p ≡ true
up_to_itself p = go p.line p.column
  where
    go : (a b : ℕ) → is_le (ordering_then (nat_cmp a a) (nat_cmp b b)) ≡ true
    go a b = grind arith

not_before : (x y : Place) → is_up_to y x ≡ true → is_lt (order (too_many y) (too_many x)) ≡ false
not_before x y h = go x.line x.column y.line y.column h
  where
    go : (a b c d : ℕ) → is_le (ordering_then (nat_cmp a c) (nat_cmp b d)) ≡ true → is_lt (ordering_then (nat_cmp c a) (ordering_then (nat_cmp d b) Equal)) ≡ false
    go a b c d h = grind (arith, h)

places : IsTotalOrder (then_cmp (on (λ (p : Place). p.line) nat_cmp) (on (λ (p : Place). p.column) nat_cmp))
places = then_total (on_total (λ (p : Place). p.line) nat_cmp_total) (on_total (λ (p : Place). p.column) nat_cmp_total)

up_to : (r : Ordering) → is_gt r ≡ false → is_le r ≡ true
up_to Less h = refl
up_to Equal h = refl
up_to Greater h = absurd (true≢false h)

not_past : (r : Ordering) → is_le r ≡ true → is_gt r ≡ false
not_past Less h = refl
not_past Equal h = refl
not_past Greater h = absurd (true≢false (sym h))

-- p is not before x, and x not up to q
not_up_to : (p q x : Place) → is_up_to p x ≡ true → is_up_to q x ≡ false → is_up_to q p ≡ false
not_up_to p q x h i =
    false_from_ne_true (is_up_to q p)
    (λ e. true≢false (sym (up_to _ (upto places x p q (not_past _ h) (not_past _ e))) ∙ i))

pub from_key : (p q : Place) → is_lt (ordering_then (nat_cmp q.line p.line) (nat_cmp q.column p.column)) ≡ false → is_up_to q p ≡ true
from_key p q h = go p.line p.column q.line q.column h
  where
    go : (a b c d : ℕ) → is_lt (ordering_then (nat_cmp c a) (nat_cmp d b)) ≡ false → is_le (ordering_then (nat_cmp a c) (nat_cmp b d)) ≡ true
    go a b c d h = grind (arith, h)

-- Counts.

pub count_all : (p : Place → Bool) (xs : List Place) → All (λ x. p x ≡ true) xs → count_by p xs ≡ length xs
count_all p [] h = refl
count_all p (x ∷ xs) h =
    let e : one_if (p x) ≡ 1 = ap one_if (All-head (λ x. p x ≡ true) x xs h) in
    let r : count_by p xs ≡ length xs = count_all p xs (All-tail (λ x. p x ≡ true) x xs h) in
    let s : count_by p (x ∷ xs) ≡ one_if (p x) + count_by p xs = sum_by-cons (λ x. one_if (p x)) x xs in
    omega (arith, e, r, s)

count_none : (p : Place → Bool) (xs : List Place) → All (λ x. p x ≡ false) xs → count_by p xs ≡ 0
count_none p [] h = refl
count_none p (x ∷ xs) h =
    let e : one_if (p x) ≡ 0 = ap one_if (All-head (λ x. p x ≡ false) x xs h) in
    let r : count_by p xs ≡ 0 = count_none p xs (All-tail (λ x. p x ≡ false) x xs h) in
    let s : count_by p (x ∷ xs) ≡ one_if (p x) + count_by p xs = sum_by-cons (λ x. one_if (p x)) x xs in
    omega (arith, e, r, s)

count_around : (p : Place → Bool) (front : List Place) (x : Place) (back : List Place)
    → count_by p (front ++ x ∷ back) ≡ count_by p front + (one_if (p x) + count_by p back)
count_around p front x back =
    sum_by-append (λ x. one_if (p x)) front (x ∷ back) ∙ ap (λ n. count_by p front + n) (sum_by-cons (λ x. one_if (p x)) x back)

-- The first fault at those of some places that pass a test, where one that passes comes before all that do.

swap_to : (x y : Place) → is_up_to y x ≡ true → first_of_both (Some (too_many x)) (Some (too_many y)) ≡ Some (too_many x)
swap_to x y h = ap (λ b. if b then Some (too_many y) else Some (too_many x)) (not_before x y h)

least_after : (x : Place) (ys : List Place) → All (λ y. is_up_to y x ≡ true) ys → first_of_both (Some (too_many x)) (first (map too_many ys)) ≡ Some (too_many x)
least_after x [] h = refl
least_after x (y ∷ ys) h =
    first_of_both_assoc (Some (too_many x)) (Some (too_many y)) (first (map too_many ys))
    ∙ ap (λ f. first_of_both f (first (map too_many ys))) (swap_to x y (All-head (λ y. is_up_to y x ≡ true) y ys h))
    ∙ least_after x ys (All-tail (λ y. is_up_to y x ≡ true) y ys h)

abbrev IsLeast : (Place → Bool) → Place → Type 0
IsLeast p x = (q : Place) → p q ≡ true → is_up_to q x ≡ true

first_passing : (p : Place → Bool) (ps : List Place) (x : Place) → Contains ps x → p x ≡ true → IsLeast p x → first (map too_many (filter p ps)) ≡ Some (too_many x)
first_passing p [] x (k, l, e) px least = absurd (omega (arith, l))
first_passing p (y ∷ ys) x (zero, l, e) px least = go (p y) (ap p e ∙ px)
  where
    go : (b : Bool) → b ≡ true → first (map too_many (cond b (y ∷ filter p ys) (filter p ys))) ≡ Some (too_many x)
    go false h = absurd (true≢false (sym h))
    go true h =
        ap (λ z. first_of_both (Some (too_many z)) (first (map too_many (filter p ys)))) e
        ∙ least_after x (filter p ys) (All-weaker (λ q. p q ≡ true) (λ q. is_up_to q x ≡ true) least (filter p ys) (filter_passes p ys))
first_passing p (y ∷ ys) x (suc k, l, e) px least = go (first_passing p ys x (k, omega (arith, l), e) px least) (p y) refl
  where
    go : first (map too_many (filter p ys)) ≡ Some (too_many x) → (b : Bool) → p y ≡ b
        → first (map too_many (cond b (y ∷ filter p ys) (filter p ys))) ≡ Some (too_many x)
    go rest false h = rest
    go rest true h =
        ap (first_of_both (Some (too_many y))) rest
        ∙ first_of_both_swap (Some (too_many y)) (Some (too_many x))
        ∙ swap_to x y (least y h)

filter_none : (p : Place → Bool) (ps : List Place) → ((q : Place) → p q ≡ false) → filter p ps ≡ []
filter_none p [] h = refl
filter_none p (q ∷ ps) h = ap (λ b. cond b (q ∷ filter p ps) (filter p ps)) (h q) ∙ filter_none p ps h

-- The places up to which more than some of them stand.

abbrev is_past : ℕ → List Place → Place → Bool
is_past most ps q = nat_lt most (count_by (is_up_to q) ps)

abbrev past : ℕ → List Place → Option Fault
past most ps = first (map too_many (filter (is_past most ps) ps))

lt_false : (a b : ℕ) → b ≤ a → nat_lt a b ≡ false
lt_false a b h = grind (arith, h)

lt_true : (a b : ℕ) → a < b → nat_lt a b ≡ true
lt_true a b h = grind (arith, h)

pub none_past : (most : ℕ) (ps : List Place) → length ps ≤ most → past most ps ≡ None
none_past most ps h =
    ap (λ l. first (map too_many l)) (filter_none (is_past most ps) ps
    (λ q. lt_false most _ (omega (arith, h, count_by-le-length (is_up_to q) ps))))

pub first_past : (most : ℕ) (ps front : List Place) (x : Place) (back : List Place) → IsPermutation ps (front ++ x ∷ back) → length front ≡ most
    → All (λ p. is_up_to x p ≡ true) front → All (λ p. is_up_to p x ≡ true) back → past most ps ≡ Some (too_many x)
first_past most ps front x back same count before after =
    first_passing (is_past most ps) ps x inside passes least
  where
    inside : Contains ps x
    inside = Contains-permutation (front ++ x ∷ back) ps x (IsPermutation-sym ps (front ++ x ∷ back) same) (Contains-append_right front (x ∷ back) x (zero, omega arith, refl))

    counted : (q : Place) → count_by (is_up_to q) ps ≡ count_by (is_up_to q) front + (one_if (is_up_to q x) + count_by (is_up_to q) back)
    counted q = sym (sum_by-IsPermutation (λ p. one_if (is_up_to q p)) ps (front ++ x ∷ back) same) ∙ count_around (is_up_to q) front x back

    passes : is_past most ps x ≡ true
    passes =
        let a : count_by (is_up_to x) front ≡ length front = count_all (is_up_to x) front before in
        let b : one_if (is_up_to x x) ≡ 1 = ap one_if (up_to_itself x) in
        let c : count_by (is_up_to x) ps ≡ count_by (is_up_to x) front + (one_if (is_up_to x x) + count_by (is_up_to x) back) = counted x in
        lt_true most _ (omega (arith, a, b, c, count))

    few : (q : Place) → is_up_to q x ≡ false → count_by (is_up_to q) ps ≤ most
    few q h =
        let a : count_by (is_up_to q) front ≤ length front = count_by-le-length (is_up_to q) front in
        let b : one_if (is_up_to q x) ≡ 0 = ap one_if h in
        let d : count_by (is_up_to q) back ≡ 0 =
        count_none (is_up_to q) back (All-weaker (λ p. is_up_to p x ≡ true) (λ p. is_up_to q p ≡ false) (λ p i. not_up_to p q x i h) back after) in
        let c : count_by (is_up_to q) ps ≡ count_by (is_up_to q) front + (one_if (is_up_to q x) + count_by (is_up_to q) back) = counted q in
        omega (arith, a, b, c, d, count)

    least : IsLeast (is_past most ps) x
    least q h = go (is_up_to q x) refl
      where
        go : (b : Bool) → is_up_to q x ≡ b → is_up_to q x ≡ true
        go true e = e
        go false e = absurd (omega (arith, ltb-true most _ h, few q e))
