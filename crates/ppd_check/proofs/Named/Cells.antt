-- Variables that are within a limit share no cell and cover their cells.
use Rattle.std.proofs.Common.{◌≡◌, refl, sym, ap, subst, ◌∙◌, ℕ, zero, suc, ◌+◌, ◌-◌, ◌^◌, ◌<◌, ◌≤◌, arith, true, false, ◌&&◌, nat_lt, nat_le, List, [], ◌∷◌, ◌++◌, map, length, None, IsSomeAnd, slice_get, ◌⊎◌, inl, inr}
use Rattle.std.specs.List.{All, count_by}
use Rattle.std.proofs.lemmas.List.Elements.{All-nil, All-cons}
use Rattle.std.proofs.lemmas.List.Sums.{sum_by-cons}
use Rattle.std.proofs.lemmas.Bool.{ltb-false}
use Rattle.std.specs.Prelude.{unwrap_or}
use Rattle.ppd_ast.specs.declared.program.Var.{Var}
use Rattle.ppd_ast.specs.Cells as A
use Rattle.ppd_ast.specs.Cells.{holds, CoverCells, AreParams}
use Rattle.ppd_ast.specs.Counting.{one_if}
use Rattle.ppd_check_names.specs.declared.fault.Cause.TheVariants.{TooMany}
use Rattle.ppd_check_names.specs.declared.fault.Limit.{Limit}
use Rattle.ppd_check_names.specs.declared.frame.Variable.{Variable}
use Rattle.ppd_check_names.specs.Faults.{if_so}
use Rattle.ppd_check_names.specs.Fitted.{fitted}
use Rattle.ppd_check_names.specs.Syntax.{Name}
use Rattle.ppd_check_names.specs.Frames.{after_cells, variable_of}
use Rattle.ppd_check.specs.Sources.{vars}
use Rattle.ppd_check_names.specs.Globals.{past_cells}
use Rattle.ppd_check_names.proofs.Declared.Counted.{end_cells}
use Rattle.ppd_check.proofs.Named.Terms.{nil_left, nil_right, if_so_false}

-- Numbers.

short_is : (n most : ℕ) → most < 2 ^ 16 - 1 → fitted 16 n ≤ most → fitted 16 n ≡ n
short_is n most small h = omega (arith, small, h)

holds_inside : (n c e : ℕ) → n ≤ c → c < e → nat_le n c && nat_lt c e ≡ true
holds_inside n c e h i = grind (arith, h, i)

holds_before : (n c e : ℕ) → c < n → nat_le n c && nat_lt c e ≡ false
holds_before n c e h = grind (arith, h)

holds_past : (n c e : ℕ) → e ≤ c → nat_le n c && nat_lt c e ≡ false
holds_past n c e h = grind (arith, h)

either_side : (c e : ℕ) → (c < e) ⊎ (e ≤ c)
either_side c e = grind arith

-- the cells of some variables, without any limit
abbrev pub total : List Variable → ℕ
total [] = 0
total (v ∷ vs) = unwrap_or v.length 1 + total vs

count_cons : (c : ℕ) (v : Var) (vs : List Var) → count_by (holds c) (v ∷ vs) ≡ one_if (holds c v) + count_by (holds c) vs
count_cons c v vs = sum_by-cons (λ x. one_if (holds c x)) v vs

-- a variable that begins at cell n
abbrev var_at : ℕ → Variable → Var
var_at n v = record { name = v.name; base = n; len = v.length }

module _ (most : ℕ) (limit : Limit) (small : most < 2 ^ 16 - 1) where
  -- the first of some variables ends within the limit, where it ends without one
  first_within : (n : ℕ) (v : Variable) (vs : List Variable) → past_cells most limit n (v ∷ vs) ≡ [] → (after_cells n v.length ≡ n + unwrap_or v.length 1) × (n + unwrap_or v.length 1 ≤ most)
  first_within n v vs h =
      let a : nat_lt most (after_cells n v.length) ≡ false =
      if_so_false (nat_lt most (after_cells n v.length)) v.place (TooMany limit) (nil_left (if_so (nat_lt most (after_cells n v.length)) v.place (TooMany limit)) _ h) in
      let b : after_cells n v.length ≤ most = ltb-false most (after_cells n v.length) a in
      let c : after_cells n v.length ≡ n + unwrap_or v.length 1 = short_is (n + unwrap_or v.length 1) most small b in
      (c, subst (λ k. k ≤ most) c b)

  rest_within : (n : ℕ) (v : Variable) (vs : List Variable) → past_cells most limit n (v ∷ vs) ≡ [] → past_cells most limit (n + unwrap_or v.length 1) vs ≡ []
  rest_within n v vs h =
      subst (λ k. past_cells most limit k vs ≡ []) (first_within n v vs h).0
      (nil_right (if_so (nat_lt most (after_cells n v.length)) v.place (TooMany limit)) (past_cells most limit (after_cells n v.length) vs) h)

  pub cells_total : (n : ℕ) (vs : List Variable) → past_cells most limit n vs ≡ [] → end_cells n vs ≡ n + total vs
  cells_total n [] h = omega arith
  cells_total n (v ∷ vs) h =
      let a : after_cells n v.length ≡ n + unwrap_or v.length 1 = (first_within n v vs h).0 in
      let b : end_cells (n + unwrap_or v.length 1) vs ≡ n + unwrap_or v.length 1 + total vs = cells_total (n + unwrap_or v.length 1) vs (rest_within n v vs h) in
      ap (λ k. end_cells k vs) a ∙ omega (arith, b)

  pub cells_within : (n : ℕ) (vs : List Variable) → n ≤ most → past_cells most limit n vs ≡ [] → end_cells n vs ≤ most
  cells_within n [] le h = le
  cells_within n (v ∷ vs) le h =
      subst (λ k. end_cells k vs ≤ most) (sym (first_within n v vs h).0)
      (cells_within (n + unwrap_or v.length 1) vs (first_within n v vs h).1 (rest_within n v vs h))

  -- Each cell is one variable's.

  vars_cons : (n : ℕ) (v : Variable) (vs : List Variable) → past_cells most limit n (v ∷ vs) ≡ []
      → vars n (v ∷ vs) ≡ var_at n v ∷ vars (n + unwrap_or v.length 1) vs
  vars_cons n v vs h = ap (λ k. var_at n v ∷ vars k vs) (first_within n v vs h).0

  none_before : (n c : ℕ) (vs : List Variable) → past_cells most limit n vs ≡ [] → c < n → count_by (holds c) (vars n vs) ≡ 0
  none_before n c [] h l = refl
  none_before n c (v ∷ vs) h l =
      let w : Var = var_at n v in
      let a : count_by (holds c) (vars (n + unwrap_or v.length 1) vs) ≡ 0 = none_before (n + unwrap_or v.length 1) c vs (rest_within n v vs h) (omega (arith, l)) in
      let b : one_if (holds c w) ≡ 0 = ap one_if (holds_before n c (A.after w) l) in
      let d : count_by (holds c) (w ∷ vars (n + unwrap_or v.length 1) vs) ≡ one_if (holds c w) + count_by (holds c) (vars (n + unwrap_or v.length 1) vs) = count_cons c w (vars (n + unwrap_or v.length 1) vs) in
      ap (count_by (holds c)) (vars_cons n v vs h) ∙ omega (arith, a, b, d)

  pub once_inside : (n c : ℕ) (vs : List Variable) → past_cells most limit n vs ≡ [] → n ≤ c → c < n + total vs → count_by (holds c) (vars n vs) ≡ 1
  once_inside n c [] h le l = absurd (omega (arith, le, l))
  once_inside n c (v ∷ vs) h le l = go (either_side c (n + unwrap_or v.length 1)) (once_inside (n + unwrap_or v.length 1) c vs (rest_within n v vs h))
    where
      end : n + unwrap_or v.length 1 ≡ A.after (var_at n v)
      end = refl

      counted : (k m : ℕ) → one_if (holds c (var_at n v)) ≡ k → count_by (holds c) (vars (n + unwrap_or v.length 1) vs) ≡ m → k + m ≡ 1 → count_by (holds c) (vars n (v ∷ vs)) ≡ 1
      counted k m a b e =
          ap (count_by (holds c)) (vars_cons n v vs h)
          ∙ count_cons c (var_at n v) (vars (n + unwrap_or v.length 1) vs)
          ∙ ap (λ i. i + count_by (holds c) (vars (n + unwrap_or v.length 1) vs)) a
          ∙ ap (λ i. k + i) b
          ∙ e

      go : (c < n + unwrap_or v.length 1) ⊎ (n + unwrap_or v.length 1 ≤ c) → (n + unwrap_or v.length 1 ≤ c → c < n + unwrap_or v.length 1 + total vs → count_by (holds c) (vars (n + unwrap_or v.length 1) vs) ≡ 1)
          → count_by (holds c) (vars n (v ∷ vs)) ≡ 1
      go (inl i) more =
          counted 1 0 (ap one_if (holds_inside n c (A.after (var_at n v)) le (subst (λ k. c < k) end i))) (none_before (n + unwrap_or v.length 1) c vs (rest_within n v vs h) i) (omega arith)
      go (inr i) more = counted 0 1 (ap one_if (holds_past n c (A.after (var_at n v)) (subst (λ k. k ≤ c) end i))) (more i (omega (arith, l))) (omega arith)

  all_within : (n : ℕ) (vs : List Variable) → past_cells most limit n vs ≡ [] → All (λ v. A.after v ≤ n + total vs) (vars n vs)
  all_within n [] h = All-nil (λ v. A.after v ≤ n + total [])
  all_within n (v ∷ vs) h =
      let w : Var = var_at n v in
      let end : n + unwrap_or v.length 1 ≡ A.after w = refl in
      let e : n + unwrap_or v.length 1 + total vs ≡ n + (unwrap_or v.length 1 + total vs) = omega arith in
      subst (λ l. All (λ u. A.after u ≤ n + total (v ∷ vs)) l) (sym (vars_cons n v vs h))
      (All-cons (λ u. A.after u ≤ n + total (v ∷ vs)) w (vars (n + unwrap_or v.length 1) vs) (omega (arith, end))
      (subst (λ k. All (λ u. A.after u ≤ k) (vars (n + unwrap_or v.length 1) vs)) e (all_within (n + unwrap_or v.length 1) vs (rest_within n v vs h))))

  pub cover_cells : (vs : List Variable) → past_cells most limit 0 vs ≡ [] → CoverCells (vars 0 vs) (total vs)
  cover_cells vs h =
      record {
        once = λ c l. once_inside 0 c vs h (omega arith) (omega (arith, l));
        within = subst (λ k. All (λ v. A.after v ≤ k) (vars 0 vs)) (omega arith) (all_within 0 vs h);
      }

  -- Parameters come first.

  params_from : (n : ℕ) (xs : List Name) (more : List Variable) (k : ℕ) → past_cells most limit n (map (λ x. variable_of x None) xs ++ more) ≡ [] → k < length xs
      → IsSomeAnd (slice_get (vars n (map (λ x. variable_of x None) xs ++ more)) k) (λ v. (v.base ≡ n + k) × (v.len ≡ None))
  params_from n [] more k h l = absurd (omega (arith, l))
  params_from n (x ∷ xs) more zero h l = (omega arith, refl)
  params_from n (x ∷ xs) more (suc k) h l =
      let vs : List Variable = map (λ x. variable_of x None) xs ++ more in
      let e : n + 1 + k ≡ n + suc k = omega arith in
      subst (λ m. IsSomeAnd (slice_get (vars m vs) k) (λ v. (v.base ≡ n + suc k) × (v.len ≡ None))) (sym (first_within n (variable_of x None) vs h).0)
      (subst (λ m. IsSomeAnd (slice_get (vars (n + 1) vs) k) (λ v. (v.base ≡ m) × (v.len ≡ None))) e
      (params_from (n + 1) xs more k (rest_within n (variable_of x None) vs h) (omega (arith, l))))

  pub params_first : (xs : List Name) (more : List Variable) (params : ℕ) → params ≤ length xs → past_cells most limit 0 (map (λ x. variable_of x None) xs ++ more) ≡ []
      → AreParams (vars 0 (map (λ x. variable_of x None) xs ++ more)) params
  params_first xs more params le h k l =
      let e : 0 + k ≡ k = omega arith in
      subst (λ m. IsSomeAnd (slice_get (vars 0 (map (λ x. variable_of x None) xs ++ more)) k) (λ v. (v.base ≡ m) × (v.len ≡ None))) e (params_from 0 xs more k h (omega (arith, l, le)))
