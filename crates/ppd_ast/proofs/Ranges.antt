-- Walks over the numbers of statements and over bodies.
use Rattle.std.proofs.Common.{◌≡◌, ℕ, zero, suc, ◌+◌, ◌-◌, ◌<◌, ◌≤◌, Bool, true, false, List, [], ◌∷◌, ◌++◌, length, get_or, take, sym, ap, ◌∙◌, arith, length-take}
use Rattle.std.specs.Prelude.{◌||◌}
use Rattle.std.specs.List.{flat_map, range_with_len, list_any, enumerate_from}
use Rattle.std.proofs.lemmas.List.{append_assoc, append-nil, take_more}
use Rattle.std.proofs.lemmas.List.Folds.{list_any-append}
use Rattle.std.proofs.lemmas.Grind.{flat_map-append, common_steps}
use Rattle.ppd_ast.specs.declared.program.Body.{Body}

range_append : (a m n : ℕ) → range_with_len a (m + n) ≡ range_with_len a m ++ range_with_len (a + m) n
range_append a zero n =
    let e : 0 + n ≡ n = omega arith in
    let f : a ≡ a + 0 = omega arith in
    ap (range_with_len a) e ∙ ap (λ b. range_with_len b n) f
range_append a (suc m) n =
    let e : suc m + n ≡ suc (m + n) = omega arith in
    let f : a + 1 + m ≡ a + suc m = omega arith in
    ap (range_with_len a) e ∙ ap (λ l. a ∷ l) (range_append (a + 1) m n ∙ ap (λ b. range_with_len (a + 1) m ++ range_with_len b n) f)

-- one more number
pub range_more : (a k : ℕ) → a ≤ k → range_with_len a (k + 1 - a) ≡ range_with_len a (k - a) ++ k ∷ []
range_more a k h =
    let e : k + 1 - a ≡ (k - a) + 1 = omega arith in
    let f : a + (k - a) ≡ k = omega arith in
    ap (range_with_len a) e ∙ range_append a (k - a) 1 ∙ ap (λ b. range_with_len a (k - a) ++ b ∷ []) f

-- the numbers up to k, k, and those after it
pub range_split : (a k e : ℕ) → a ≤ k → k < e → range_with_len a (e - a) ≡ (range_with_len a (k - a) ++ k ∷ []) ++ range_with_len (k + 1) (e - (k + 1))
range_split a k e h l =
    let n : e - a ≡ (k + 1 - a) + (e - (k + 1)) = omega arith in
    let f : a + (k + 1 - a) ≡ k + 1 = omega arith in
    ap (range_with_len a) n ∙ range_append a (k + 1 - a) (e - (k + 1))
    ∙ ap (λ b. range_with_len a (k + 1 - a) ++ range_with_len b (e - (k + 1))) f
    ∙ ap (λ r. r ++ range_with_len (k + 1) (e - (k + 1))) (range_more a k h)

pub flat_one : {X : Type 0} (f : ℕ → List X) (xs : List ℕ) (k : ℕ) → flat_map f (xs ++ k ∷ []) ≡ flat_map f xs ++ f k
flat_one f xs k = flat_map-append f xs (k ∷ []) ∙ ap (λ l. flat_map f xs ++ l) (append-nil (f k))

pub each_append : {X : Type 0} (f : ℕ → Body → List X) (j : ℕ) (xs ys : List Body) → flat_map (λ e. f e.0 e.1) (enumerate_from j (xs ++ ys)) ≡ flat_map (λ e. f e.0 e.1) (enumerate_from j xs) ++ flat_map (λ e. f e.0 e.1) (enumerate_from (j + length xs) ys)
each_append f j [] ys = let e : j ≡ j + 0 = omega arith in ap (λ n. flat_map (λ e. f e.0 e.1) (enumerate_from n ys)) e
each_append f j (x ∷ xs) ys =
    let e : j + 1 + length xs ≡ j + suc (length xs) = omega arith in
    ap (λ l. f j x ++ l) (each_append f (j + 1) xs ys ∙ ap (λ n. flat_map (λ e. f e.0 e.1) (enumerate_from (j + 1) xs) ++ flat_map (λ e. f e.0 e.1) (enumerate_from n ys)) e)
    ∙ sym (append_assoc (f j x) (flat_map (λ e. f e.0 e.1) (enumerate_from (j + 1) xs)) (flat_map (λ e. f e.0 e.1) (enumerate_from (j + suc (length xs)) ys)))

pub each_more : {X : Type 0} (f : ℕ → Body → List X) (bs : List Body) (k : ℕ) (b : Body) → k < length bs → b ≡ get_or bs k b → flat_map (λ e. f e.0 e.1) (enumerate_from 0 (take (k + 1) bs)) ≡ flat_map (λ e. f e.0 e.1) (enumerate_from 0 (take k bs)) ++ f k b
each_more f bs k b h is =
    let long : 0 + length (take k bs) ≡ k = omega (arith, length-take k bs) in
    ap (λ l. flat_map (λ e. f e.0 e.1) (enumerate_from 0 l)) (take_more bs k b h ∙ ap (λ x. take k bs ++ x ∷ []) (sym is)) ∙ each_append f 0 (take k bs) (b ∷ [])
    ∙ ap (λ l. flat_map (λ e. f e.0 e.1) (enumerate_from 0 (take k bs)) ++ l) (append-nil (f (0 + length (take k bs)) b)) ∙ ap (λ n. flat_map (λ e. f e.0 e.1) (enumerate_from 0 (take k bs)) ++ f n b) long

-- a test at each of the numbers
pub any_more : (p : ℕ → Bool) (a k : ℕ) → a ≤ k → list_any p (range_with_len a (k - a)) ≡ false → p k ≡ false → list_any p (range_with_len a (k + 1 - a)) ≡ false
any_more p a k low h g =
    ap (list_any p) (range_more a k low) ∙ list_any-append p (range_with_len a (k - a)) (k ∷ []) ∙ grind (arith, common_steps)

pub any_found : (p : ℕ → Bool) (a k e : ℕ) → a ≤ k → k < e → p k ≡ true → list_any p (range_with_len a (e - a)) ≡ true
any_found p a k e low high g =
    ap (list_any p) (range_split a k e low high) ∙ list_any-append p (range_with_len a (k - a) ++ k ∷ []) (range_with_len (k + 1) (e - (k + 1)))
    ∙ ap (λ b. b || list_any p (range_with_len (k + 1) (e - (k + 1)))) (list_any-append p (range_with_len a (k - a)) (k ∷ [])) ∙ grind (arith, common_steps)
