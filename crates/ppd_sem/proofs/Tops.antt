-- A change of a vector's last item is a change of the stack's top.
use Rattle.std.proofs.Common.{◌≡◌, ℕ, zero, suc, ◌+◌, ◌-◌, ◌<◌, ℤ, List, [], ◌∷◌, ◌++◌, length, drop, reverse, get_or, Some, refl, ap, sym, ◌∙◌, arith}
use Rattle.std.specs.Prelude.{slice_get, slice_set, replicate, pos}
use Rattle.std.proofs.Math.ListN.{set}
use Rattle.std.proofs.lemmas.List.{get_or-reverse, reverse-append, length-reverse}
use Rattle.std.proofs.lemmas.Option.{slice_get-get_or}
use Rattle.std.specs.List.{range_with_len}
use Rattle.ppd_sem.specs.declared.proc.Frame.{Frame}
use Rattle.ppd_sem.specs.Process.{on_top, with_values}

abbrev change : {A : Type 0} → (A → A) → List A → List A
change g [] = []
change g (x ∷ xs) = g x ∷ xs

change-snoc : {A : Type 0} (g : A → A) (l : List A) (y : A) → 0 < length l → change g (l ++ y ∷ []) ≡ change g l ++ y ∷ []
change-snoc g [] y h = absurd (omega arith)
change-snoc g (x ∷ l) y h = refl

last_changed : {A : Type 0} (g : A → A) (xs : List A) (n : ℕ) (d : A) → n + 1 ≡ length xs → reverse (set xs n (g (get_or xs n d))) ≡ change g (reverse xs)
last_changed g [] n d h = absurd (omega arith)
last_changed g (y ∷ []) zero d h = refl
last_changed g (y ∷ z ∷ ys) zero d h = absurd (omega arith)
last_changed {A} g (y ∷ ys) (suc n) d h =
    let short : n + 1 ≡ length ys = omega arith in
    let some : 0 < length (reverse ys) = omega (arith, length-reverse ys) in
    let there : reverse (y ∷ ys) ≡ reverse ys ++ y ∷ [] = reverse-append (y ∷ []) ys in
    reverse-append (y ∷ []) (set ys n (g (get_or ys n d))) ∙ ap (λ l. l ++ y ∷ []) (last_changed g ys n d short) ∙
    sym (change-snoc g (reverse ys) y some) ∙ ap (change g) (sym there)

-- another last item
pub topped : {A : Type 0} (xs : List A) (n : ℕ) (x : A) → n + 1 ≡ length xs → reverse (set xs n x) ≡ x ∷ drop 1 (reverse xs)
topped {A} xs n x h =
    let some : 0 < length (reverse xs) = omega (arith, length-reverse xs) in
    last_changed (λ (_ : A). x) xs n x h ∙ head (reverse xs) some
  where
    head : (l : List A) → 0 < length l → change (λ (_ : A). x) l ≡ x ∷ drop 1 l
    head [] h = absurd (omega arith)
    head (y ∷ ys) h = refl

write_is : (c : ℕ) (v : ℤ) (frames : List Frame) → change (λ f. record f { cells = slice_set f.cells c v }) frames ≡ on_top (λ cells. slice_set cells c v) frames
write_is c v [] = refl
write_is c v (f ∷ fs) = refl

clear_is : (base len : ℕ) (frames : List Frame) → change (λ f. record f { cells = with_values (range_with_len base len) (replicate len (pos 0)) f.cells }) frames ≡ on_top (with_values (range_with_len base len) (replicate len (pos 0))) frames
clear_is base len [] = refl
clear_is base len (f ∷ fs) = refl

pub written : (c : ℕ) (v : ℤ) (items : List Frame) (n : ℕ) (f : Frame) (cells : List ℤ) → n + 1 ≡ length items → f ≡ get_or items n f → cells ≡ slice_set f.cells c v → reverse (set items n record { body = f.body; cells = cells; call = f.call }) ≡ on_top (λ cells. slice_set cells c v) (reverse items)
written c v items n f cells h is new =
    let g : Frame → Frame = λ f. record f { cells = slice_set f.cells c v } in
    let same : record { body = f.body; cells = cells; call = f.call } ≡ g (get_or items n f) = ap (λ l. record f { cells = l }) new ∙ ap g is in
    ap (λ x. reverse (set items n x)) same ∙ last_changed g items n f h ∙ write_is c v (reverse items)

pub cleared : (base len : ℕ) (items : List Frame) (n : ℕ) (f : Frame) (cells : List ℤ) → n + 1 ≡ length items → f ≡ get_or items n f → cells ≡ with_values (range_with_len base len) (replicate len (pos 0)) f.cells → reverse (set items n record { body = f.body; cells = cells; call = f.call }) ≡ on_top (with_values (range_with_len base len) (replicate len (pos 0))) (reverse items)
cleared base len items n f cells h is new =
    let g : Frame → Frame = λ f. record f { cells = with_values (range_with_len base len) (replicate len (pos 0)) f.cells } in
    let same : record { body = f.body; cells = cells; call = f.call } ≡ g (get_or items n f) = ap (λ l. record f { cells = l }) new ∙ ap g is in
    ap (λ x. reverse (set items n x)) same ∙ last_changed g items n f h ∙ clear_is base len (reverse items)

all_is : (cs : List ℕ) (vs : List ℤ) (frames : List Frame) → change (λ f. record f { cells = with_values cs vs f.cells }) frames ≡ on_top (with_values cs vs) frames
all_is cs vs [] = refl
all_is cs vs (f ∷ fs) = refl

pub all_written : (cs : List ℕ) (vs : List ℤ) (items : List Frame) (n : ℕ) (f : Frame) (cells : List ℤ) → n + 1 ≡ length items → f ≡ get_or items n f → cells ≡ with_values cs vs f.cells → reverse (set items n record { body = f.body; cells = cells; call = f.call }) ≡ on_top (with_values cs vs) (reverse items)
all_written cs vs items n f cells h is new =
    let g : Frame → Frame = λ f. record f { cells = with_values cs vs f.cells } in
    let same : record { body = f.body; cells = cells; call = f.call } ≡ g (get_or items n f) = ap (λ l. record f { cells = l }) new ∙ ap g is in
    ap (λ x. reverse (set items n x)) same ∙ last_changed g items n f h ∙ all_is cs vs (reverse items)

-- an item by its number from the top
pub numbered : {A : Type 0} (items all : List A) (i n : ℕ) (x : A) → reverse items ≡ all → n ≡ length items → i < n → x ≡ get_or items (n - 1 - i) x → Some x ≡ slice_get all i
numbered items all i n x v e lt is =
    let inside : i < length (reverse items) = omega (arith, length-reverse items) in
    let there : length items - 1 - i ≡ n - 1 - i = omega arith in
    let top : get_or (reverse items) i x ≡ x = get_or-reverse items i x (omega arith) ∙ ap (λ k. get_or items k x) there ∙ sym is in
    ap Some (sym top) ∙ sym (slice_get-get_or (reverse items) i x inside) ∙ ap (λ l. slice_get l i) v
