-- Numbers, one digit at a time.
use Rattle.std.proofs.Common.{◌≡◌, ◌<◌, ◌≤◌, ℕ, ◌+◌, ◌-◌, ◌*◌, List, [], ◌∷◌, length, drop, take, true, false, sym, ◌∙◌, ap, arith, ◌^◌, Some, None, take_all}
use Rattle.std.specs.List.{list_all}
use Rattle.std.proofs.lemmas.List.{take-append-drop}
use Rattle.std.proofs.lemmas.Bool.Decides.{nat_tests}
use Rattle.std.specs.Char.{is_ascii_digit}
use Rattle.ppd_ast.specs.Digits.{value_from}
use Rattle.ppd_ast.proofs.Digits.{value_append}
use Rattle.ppd_parse.specs.Front.{value_of}

value_rises : (n : ℕ) (bs : List ℕ) → n ≤ value_from n bs
value_rises n [] = omega arith
value_rises n (b ∷ bs) = let h = value_rises (n * 10 + (b - 48)) bs in omega arith

pub value_front : (bs : List ℕ) (i : ℕ) → value_from 0 (take i bs) ≤ value_from 0 bs
value_front bs i =
    let e = ap (value_from 0) (take-append-drop i bs) in
    let a = value_append 0 (take i bs) (drop i bs) in
    let h = value_rises (value_from 0 (take i bs)) (drop i bs) in
    omega arith

pub not_digits : (bs : List ℕ) → list_all is_ascii_digit bs ≡ false → value_of bs ≡ None
not_digits bs h = grind (arith, nat_tests)

pub too_great : (bs : List ℕ) → 2 ^ 63 ≤ value_from 0 bs → value_of bs ≡ None
too_great bs h = grind (arith, nat_tests)

pub value_is : (bs : List ℕ) → list_all is_ascii_digit bs ≡ true → value_from 0 bs < 2 ^ 63 → value_of bs ≡ Some (value_from 0 bs)
value_is bs p v = grind (arith, nat_tests)

pub digit_small : (b : ℕ) → is_ascii_digit b ≡ true → (48 ≤ b) × (b - 48 ≤ 9)
digit_small b h = (grind (arith, nat_tests), grind (arith, nat_tests))

pub all_digits : (bs : List ℕ) (i value : ℕ) → length bs ≤ i → list_all is_ascii_digit (take i bs) ≡ true → value ≡ value_from 0 (take i bs) → value < 2 ^ 63 → value_of bs ≡ Some value
all_digits bs i value l p e v =
    let whole : take i bs ≡ bs = take_all i bs l in
    let is : value ≡ value_from 0 bs = e ∙ ap (value_from 0) whole in
    value_is bs (sym (ap (list_all is_ascii_digit) whole) ∙ p) (omega (arith, is)) ∙ ap Some (sym is)
