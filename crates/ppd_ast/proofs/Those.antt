-- Laws of `those`.
use Rattle.std.proofs.Common.{◌≡◌, ℕ, zero, suc, ◌+◌, ◌<◌, ◌≤◌, List, [], ◌∷◌, ◌++◌, Bool, true, false, refl, sym, ap, ◌∙◌, arith, true≢false, cond}
use Rattle.std.specs.Prelude.{IsTrue}
use Rattle.std.specs.List.{range_with_len, filter}
use Rattle.ppd_ast.specs.Members.{has, those, RisesFrom}
use Rattle.ppd_ast.proofs.Members.{has_filter, filter_has, filter_same_in, from_zero, below_range}

pub both : (b c : Bool) → (IsTrue b → IsTrue c) → (IsTrue c → IsTrue b) → b ≡ c
both true true f g = refl
both true false f g = absurd (true≢false (sym (f refl)))
both false true f g = absurd (true≢false (sym (g refl)))
both false false f g = refl

pub those_has : (n : ℕ) (test : ℕ → Bool) (x : ℕ) → x < n → has (those n test) x ≡ test x
those_has n test x h =
    both (has (those n test) x) (test x) (λ t. (has_filter test (range_with_len 0 n) x t).1) (λ t. filter_has test (range_with_len 0 n) x (from_zero x n h) t)

pub those_below : (n : ℕ) (test : ℕ → Bool) (x : ℕ) → IsTrue (has (those n test) x) → x < n
those_below n test x t = let inside = below_range 0 n x (has_filter test (range_with_len 0 n) x t).0 in omega (arith, inside.1)

pub looser : (m n : ℕ) (xs : List ℕ) → n ≤ m → RisesFrom m xs → RisesFrom n xs
looser m n [] h r = tt
looser m n (x ∷ xs) h r = (let more = r.0 in omega (arith, more), r.1)

rises_by : (b : Bool) (a : ℕ) (xs : List ℕ) → RisesFrom (a + 1) xs → RisesFrom a (cond b (a ∷ xs) xs)
rises_by true a xs r = (omega arith, r)
rises_by false a xs r = looser (a + 1) a xs (omega arith) r

pub rises_filter : (test : ℕ → Bool) (a n : ℕ) → RisesFrom a (filter test (range_with_len a n))
rises_filter test a zero = tt
rises_filter test a (suc n) = rises_by (test a) a (filter test (range_with_len (a + 1) n)) (rises_filter test (a + 1) n)

pub those_same : (n : ℕ) (p q : ℕ → Bool) → ((x : ℕ) → x < n → p x ≡ q x) → those n p ≡ those n q
those_same n p q e = filter_same_in p q (range_with_len 0 n) (λ x h. e x (let inside = below_range 0 n x h in omega (arith, inside.1)))

pub those_again : (n : ℕ) (test : ℕ → Bool) → those n (has (those n test)) ≡ those n test
those_again n test = those_same n (has (those n test)) test (λ x h. those_has n test x h)

filter_none : (xs : List ℕ) → filter (λ _. false) xs ≡ []
filter_none [] = refl
filter_none (x ∷ xs) = filter_none xs

pub those_none : (n : ℕ) (test : ℕ → Bool) → ((x : ℕ) → x < n → test x ≡ false) → those n test ≡ []
those_none n test e = those_same n test (λ _. false) e ∙ filter_none (range_with_len 0 n)

filter_push : (test : ℕ → Bool) (xs : List ℕ) (x : ℕ) → filter test (xs ++ x ∷ []) ≡ filter test xs ++ filter test (x ∷ [])
filter_push test [] x = refl
filter_push test (y ∷ xs) x = by (test y) (filter_push test xs x) where
  by : (b : Bool) → filter test (xs ++ x ∷ []) ≡ filter test xs ++ filter test (x ∷ []) → cond b (y ∷ filter test (xs ++ x ∷ [])) (filter test (xs ++ x ∷ [])) ≡ cond b (y ∷ filter test xs) (filter test xs) ++ filter test (x ∷ [])
  by true e = ap (λ zs. y ∷ zs) e
  by false e = e

pub counting : (a n j : ℕ) → a + n ≡ j → range_with_len a (suc n) ≡ range_with_len a n ++ j ∷ []
counting a zero j e = let same : a ≡ j = omega arith in ap (λ x. x ∷ []) same
counting a (suc n) j e = ap (λ xs. a ∷ xs) (counting (a + 1) n j (omega arith))

pub counting_more : (n : ℕ) → range_with_len 0 (n + 1) ≡ range_with_len 0 n ++ n ∷ []
counting_more n = let on : n + 1 ≡ suc n = omega arith in ap (range_with_len 0) on ∙ counting 0 n n (omega arith)

those_next : (n : ℕ) (test : ℕ → Bool) → those (n + 1) test ≡ those n test ++ cond (test n) (n ∷ []) []
those_next n test = ap (filter test) (counting_more n) ∙ filter_push test (range_with_len 0 n) n

pub those_yes : (n : ℕ) (test : ℕ → Bool) → test n ≡ true → those (n + 1) test ≡ those n test ++ n ∷ []
those_yes n test e = those_next n test ∙ ap (λ b. those n test ++ cond b (n ∷ []) []) e

pub nothing_more : (xs : List ℕ) → xs ++ [] ≡ xs
nothing_more [] = refl
nothing_more (x ∷ xs) = ap (λ zs. x ∷ zs) (nothing_more xs)

pub those_no : (n : ℕ) (test : ℕ → Bool) → test n ≡ false → those (n + 1) test ≡ those n test
those_no n test e = those_next n test ∙ ap (λ b. those n test ++ cond b (n ∷ []) []) e ∙ nothing_more (those n test)
