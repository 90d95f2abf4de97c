-- Searches through numbers and objects go on, and greatest numbers rise.
use Rattle.std.proofs.Common.{◌≡◌, ℕ, zero, suc, ◌+◌, ◌-◌, ◌<◌, List, [], ◌∷◌, ◌++◌, length, drop, get_or, map, Option, Some, None, Bool, true, false, not, find, cond, refl, ap, sym, ◌∙◌, true≢false, arith}
use Rattle.std.specs.Prelude.{is_some, IfNone}
use Rattle.std.specs.List.{cons_option, range_with_len}
use Rattle.std.proofs.lemmas.List.{drop_more}
use Rattle.ppd_ast.specs.declared.status.SyncKind.{SyncKind}
use Rattle.std.specs.Option.{option_or as or_else}
use Rattle.ppd_model.specs.Synchronizations.{Sync}
use Rattle.ppd_graph.specs.declared.placed.Placed.{Placed}
use Rattle.ppd_graph.specs.Refusals.{Missing, absent, first_missing, numbers_of, sync_placed}
use Rattle.ppd_graph.proofs.Vocabulary.{greatest, number_in}

-- ---- the first number that is not there

find_on : (f : ℕ → Bool) (x : ℕ) (xs : List ℕ) (all : Option ℕ) → f x ≡ false → cond (f x) (Some x) (find f xs) ≡ all → find f xs ≡ all
find_on f x xs all e h = by (f x) e h
  where
    by : (b : Bool) → b ≡ false → cond b (Some x) (find f xs) ≡ all → find f xs ≡ all
    by true k g = absurd (true≢false k)
    by false k g = g

pub absent_more : (is_there : ℕ → Bool) (b last : ℕ) (t : Bool) (all : Option ℕ) → b < last → is_there (b + 1) ≡ not t → t ≡ false → absent b last is_there ≡ all → absent (b + 1) last is_there ≡ all
absent_more is_there b last t all lt there test inv =
    let count : last - b ≡ suc (last - (b + 1)) = omega (arith, lt) in
    let f : ℕ → Bool = λ n. not (is_there n) in
    find_on f (b + 1) (range_with_len ((b + 1) + 1) (last - (b + 1))) all (ap not (there ∙ ap not test)) (sym (ap (λ n. find f (range_with_len (b + 1) n)) count) ∙ inv)

-- ---- the first object with something missing

-- what holds where nothing is found
pub none_so : {A P : Type 0} (o : Option A) (b : Bool) → b ≡ is_some o → b ≡ false → IfNone o P → P
none_so None b is none h = h
none_so (Some x) b is none h = absurd (true≢false (sym is ∙ none))

or_some : (x y : Option Missing) → is_some x ≡ true → or_else x y ≡ x
or_some (Some m) y e = refl
or_some None y e = absurd (true≢false (sym e))

or_other : (x y : Option Missing) → is_some x ≡ false → or_else x y ≡ y
or_other (Some m) y e = absurd (true≢false e)
or_other None y e = refl

pub missing_here : (f : ℕ → Option Missing) (i n : ℕ) (r all : Option Missing) (t : Bool) → i < n → r ≡ f i → t ≡ is_some r → t ≡ true → first_missing f (range_with_len i (n - i)) ≡ all → r ≡ all
missing_here f i n r all t lt is test yes_it inv =
    let count : n - i ≡ suc (n - (i + 1)) = omega (arith, lt) in
    is ∙ sym (or_some (f i) (first_missing f (range_with_len (i + 1) (n - (i + 1)))) (ap is_some (sym is) ∙ sym test ∙ yes_it))
    ∙ sym (ap (λ k. first_missing f (range_with_len i k)) count) ∙ inv

pub missing_more : (f : ℕ → Option Missing) (i n : ℕ) (r all : Option Missing) (t : Bool) → i < n → r ≡ f i → t ≡ is_some r → t ≡ false → first_missing f (range_with_len i (n - i)) ≡ all → first_missing f (range_with_len (i + 1) (n - (i + 1))) ≡ all
missing_more f i n r all t lt is test not_so inv =
    let count : n - i ≡ suc (n - (i + 1)) = omega (arith, lt) in
    sym (or_other (f i) (first_missing f (range_with_len (i + 1) (n - (i + 1)))) (ap is_some (sym is) ∙ sym test ∙ not_so))
    ∙ sym (ap (λ k. first_missing f (range_with_len i k)) count) ∙ inv

-- ---- the greatest number

greatest_cons : (kind : SyncKind) (o g : ℕ) (s : Sync) (ss : List Sync) → greatest g (numbers_of kind o (s ∷ ss)) ≡ greatest (greatest g (numbers_of kind o (s ∷ []))) (numbers_of kind o ss)
greatest_cons kind o g s ss = by (number_in kind o s)
  where
    by : (n : Option ℕ) → greatest g (cons_option n (numbers_of kind o ss)) ≡ greatest (greatest g (cons_option n [])) (numbers_of kind o ss)
    by None = refl
    by (Some n) = refl

module _ (kind : SyncKind) where
  -- the numbers so far, raised by one more
  pub greatest_more : (g g' : List ℕ) (i : ℕ) (xs : List Placed) (d : Placed) → i < length xs → ((o : ℕ) → get_or g' o 0 ≡ greatest (get_or g o 0) (numbers_of kind o (sync_placed (get_or xs i d) ∷ []))) → (o all : ℕ)
      → greatest (get_or g o 0) (numbers_of kind o (map sync_placed (drop i xs))) ≡ all → greatest (get_or g' o 0) (numbers_of kind o (map sync_placed (drop (i + 1) xs))) ≡ all
  greatest_more g g' i xs d lt raised o all inv =
      ap (λ n. greatest n (numbers_of kind o (map sync_placed (drop (i + 1) xs)))) (raised o)
      ∙ sym (greatest_cons kind o (get_or g o 0) (sync_placed (get_or xs i d)) (map sync_placed (drop (i + 1) xs)))
      ∙ ap (λ ys. greatest (get_or g o 0) (numbers_of kind o (map sync_placed ys))) (sym (drop_more xs i d lt)) ∙ inv

pub zero_more : (xs : List ℕ) (o : ℕ) → ((p : ℕ) → get_or xs p 0 ≡ 0) → get_or (xs ++ 0 ∷ []) o 0 ≡ 0
zero_more [] zero h = refl
zero_more [] (suc o) h = refl
zero_more (x ∷ xs) zero h = h 0
zero_more (x ∷ xs) (suc o) h = zero_more xs o (λ p. h (suc p))
