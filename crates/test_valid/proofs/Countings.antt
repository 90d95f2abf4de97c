-- Lists that count up, and the order of statements.
use Rattle.std.proofs.Common.{◌≡◌, ◌≢◌, ◌≤◌, ℕ, zero, suc, ◌+◌, ◌-◌, ◌<◌, ◌==◌, Bool, true, false, cond, List, [], ◌∷◌, ◌++◌, length, get_or, take, drop, Option, Some, None, refl, sym, ap, ◌∙◌, arith, nat_eq}
use Rattle.std.specs.List.{flat_map, range_with_len}
use Rattle.std.specs.Option.{option_eq}
use Rattle.std.proofs.lemmas.Bool.Decides.{nat_tests}
use Rattle.std.proofs.lemmas.Grind.{flat_map-append, common_steps}
use Rattle.ppd_ast.specs.declared.program.Stmt.{Stmt}
use Rattle.ppd_ast.specs.Order.{preorder}
use Rattle.ppd_ast.proofs.Vocabulary.{inner_at}
use Rattle.ppd_ast.proofs.Countings.{preorder_some}
use Rattle.ppd_ast.proofs.Walks.{flat_more}
use Rattle.test_valid.specs.Counting.{counted}

pub counted_some : (xs ys : List ℕ) (n m : ℕ) → counted xs n ≡ Some m → counted (xs ++ ys) n ≡ counted ys m
counted_some [] ys n m h = let e : n ≡ m = cc in ap (counted ys) e
counted_some (x ∷ xs) ys n m h =
    elim (x == n) as (λ b. cond b (counted xs (n + 1)) None ≡ Some m → cond b (counted (xs ++ ys) (n + 1)) None ≡ counted ys m) [
      | true ↦ counted_some xs ys (n + 1) m
      | false ↦ λ e. cc
    ] h

pub counted_none : (xs ys : List ℕ) (n : ℕ) → counted xs n ≡ None → counted (xs ++ ys) n ≡ None
counted_none [] ys n h = cc
counted_none (x ∷ xs) ys n h =
    elim (x == n) as (λ b. cond b (counted xs (n + 1)) None ≡ None → cond b (counted (xs ++ ys) (n + 1)) None ≡ None) [
      | true ↦ counted_none xs ys (n + 1)
      | false ↦ λ e. refl
    ] h

-- a list that goes on where it should, and one that does not
pub counted_next : (n : ℕ) (xs : List ℕ) → counted (n ∷ xs) n ≡ counted xs (n + 1)
counted_next n xs = let e : (n == n) ≡ true = grind (arith, common_steps) in ap (λ b. cond b (counted xs (n + 1)) None) e

pub counted_off : (i n : ℕ) (xs : List ℕ) → i ≢ n → counted (i ∷ xs) n ≡ None
counted_off i n xs h = let e : (i == n) ≡ false = grind (arith, common_steps) in ap (λ b. cond b (counted xs (n + 1)) None) e

module _ (stmts : List Stmt) (depth : ℕ) (deep : depth ≢ 0) (list : List ℕ) (k from next : ℕ) (inside : k < length list)
    (so_far : counted (flat_map (preorder depth stmts) (take k list)) from ≡ Some next) where
  one_more : counted (flat_map (preorder depth stmts) (take (k + 1) list)) from ≡ counted (get_or list k 0 ∷ flat_map (preorder (depth - 1) stmts) (inner_at stmts (get_or list k 0))) next
  one_more =
      ap (λ l. counted l from) (flat_more (preorder depth stmts) list k 0 inside)
      ∙ counted_some (flat_map (preorder depth stmts) (take k list)) (preorder depth stmts (get_or list k 0)) from next so_far
      ∙ ap (λ l. counted l next) (preorder_some depth stmts (get_or list k 0) deep)

  pub counted_on : get_or list k 0 ≡ next → counted (flat_map (preorder depth stmts) (take (k + 1) list)) from ≡ counted (flat_map (preorder (depth - 1) stmts) (inner_at stmts next)) (next + 1)
  counted_on e =
      one_more ∙ ap (λ i. counted (i ∷ flat_map (preorder (depth - 1) stmts) (inner_at stmts i)) next) e
      ∙ counted_next next (flat_map (preorder (depth - 1) stmts) (inner_at stmts next))

  pub counted_broken : get_or list k 0 ≢ next → counted (flat_map (preorder depth stmts) (take (k + 1) list)) from ≡ None
  counted_broken e = one_more ∙ counted_off (get_or list k 0) next (flat_map (preorder (depth - 1) stmts) (inner_at stmts (get_or list k 0))) e

pub counted_whole : (f : ℕ → List ℕ) (list : List ℕ) (k from : ℕ) → counted (flat_map f (take k list)) from ≡ None → counted (flat_map f list) from ≡ None
counted_whole f list k from h =
    let e : take k list ++ drop k list ≡ list = grind (arith, common_steps) in
    ap (λ l. counted (flat_map f l) from) (sym e)
    ∙ ap (λ l. counted l from) (flat_map-append f (take k list) (drop k list))
    ∙ counted_none (flat_map f (take k list)) (flat_map f (drop k list)) from h

-- a list that counts up from n to before m is their range
pub counted_is_range : (list : List ℕ) (n m : ℕ) → counted list n ≡ Some m → (n ≤ m) × (list ≡ range_with_len n (m - n))
counted_is_range [] n m h =
    let e : n ≡ m = cc in
    let z : m - n ≡ 0 = omega arith in
    (omega arith, ap (range_with_len n) (sym z))
counted_is_range (i ∷ is) n m h = split (λ r. counted_is_range is (n + 1) m r) (i == n) refl h
  where
    split : (counted is (n + 1) ≡ Some m → (n + 1 ≤ m) × (is ≡ range_with_len (n + 1) (m - (n + 1)))) → (b : Bool) → (i == n) ≡ b
        → cond b (counted is (n + 1)) None ≡ Some m → (n ≤ m) × (i ∷ is ≡ range_with_len n (m - n))
    split further true t r =
        let rest = further r in
        let below : n + 1 ≤ m = rest.0 in
        let same : i ≡ n = grind (arith, common_steps) in
        let more : m - n ≡ suc (m - (n + 1)) = omega arith in
        (omega arith, ap (λ k. k ∷ is) same ∙ ap (λ l. n ∷ l) rest.1 ∙ ap (range_with_len n) (sym more))
    split further false t r = absurd (let no : ⊥ = cc in no)

counted_range : (k n : ℕ) → counted (range_with_len n k) n ≡ Some (n + k)
counted_range zero n = ap Some (omega arith)
counted_range (suc k) n = counted_next n (range_with_len (n + 1) k) ∙ counted_range k (n + 1) ∙ ap Some (omega arith)

pub range_is_counted : (list : List ℕ) (n m : ℕ) → n ≤ m → list ≡ range_with_len n (m - n) → counted list n ≡ Some m
range_is_counted list n m h e =
    let s : n + (m - n) ≡ m = omega arith in
    ap (λ l. counted l n) e ∙ counted_range (m - n) n ∙ ap Some s

-- a test for one number
pub is_that : (o : Option ℕ) (m : ℕ) → option_eq nat_eq o (Some m) ≡ true → o ≡ Some m
is_that None m h = cc
is_that (Some n) m h = let e : n ≡ m = grind (arith, nat_tests) in ap Some e

pub that_is : (o : Option ℕ) (m : ℕ) → o ≡ Some m → option_eq nat_eq o (Some m) ≡ true
that_is None m h = cc
that_is (Some n) m h = let e : n ≡ m = cc in grind (arith, nat_tests)
