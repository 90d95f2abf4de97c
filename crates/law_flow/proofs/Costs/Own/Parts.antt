-- Item j of an interval is its part j; products.
use Rattle.std.proofs.Common.{◌≡◌, ℕ, suc, ◌+◌, ◌*◌, ◌≤◌, ap, ap₂, sym, ◌∙◌, subst, arith}
use Rattle.std.proofs.Math.Nat.{add-mul, mul-add, suc-mul}

-- ---- products

-- one more term
pub one_times : (a b n m : ℕ) → a ≤ m → b ≤ n * m → a + b ≤ suc n * m
one_times a b n m h h' = subst (λ z. a + b ≤ z) (sym (suc-mul n m)) (by (n * m) h')
  where
    by : (x : ℕ) → b ≤ x → a + b ≤ x + m
    by x l = omega (arith, h, l)

-- two sums
pub both_times : (a b n k m : ℕ) → a ≤ n * m → b ≤ k * m → a + b ≤ (n + k) * m
both_times a b n k m h h' = subst (λ z. a + b ≤ z) (sym (add-mul n k m)) (by (n * m) (k * m) h h')
  where
    by : (x y : ℕ) → a ≤ x → b ≤ y → a + b ≤ x + y
    by x y l l' = omega (arith, l, l')

-- once and twice for each of n are at most twice for each of n + 1
pub twice : (n m : ℕ) → m + n * (m + m) ≤ 2 * (n + 1) * m
twice n m =
    let two : 2 * (n + 1) ≡ suc n + suc n = omega arith in
    let right : 2 * (n + 1) * m ≡ (n * m + m) + (n * m + m) = ap (λ z. z * m) two ∙ add-mul (suc n) (suc n) m ∙ ap₂ (λ a b. a + b) (suc-mul n m) (suc-mul n m) in
    let left : m + n * (m + m) ≡ m + (n * m + n * m) = ap (λ z. m + z) (mul-add n m m) in
    subst (λ z. z ≤ 2 * (n + 1) * m) (sym left) (subst (λ z. m + (n * m + n * m) ≤ z) (sym right) (by (n * m)))
  where
    by : (x : ℕ) → m + (x + x) ≤ (x + m) + (x + m)
    by x = omega arith
