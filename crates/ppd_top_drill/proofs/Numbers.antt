-- The decimal digits of a number, as a token.
use Rattle.std.specs.Prelude.{decimal, take_while}
use Rattle.std.specs.List.{list_all}
use Rattle.std.proofs.Common.{◌≡◌, ◌<◌, ◌≤◌, ℕ, pos, ◌+◌, ◌/◌, ◌%◌, ◌^◌, Bool, true, false, List, [], ◌∷◌, ◌++◌, length, get_or, Some, refl, ap, ◌∙◌, arith, nat_eq, ◌&&◌}
use Rattle.std.proofs.lemmas.Bool.Decides.{nat_tests}
use Rattle.std.proofs.lemmas.List.Sums.{take_while-cons}
use Rattle.std.proofs.lemmas.Fmt.{decimal_by_steps, decimal_digit, decimal_nonempty, first_decimal}
use Rattle.std.specs.Char.{is_ascii_digit}
use Rattle.ppd_ast.specs.Digits.{value_from}
use Rattle.ppd_ast.proofs.Digits.{value_append}
use Rattle.ppd_parse.specs.declared.token.TokenKind.TheVariants.{Number}
use Rattle.ppd_parse.specs.declared.scan.Piece.TheVariants.{Read}
use Rattle.ppd_parse.specs.Front.{front, is_space, is_letter, is_name_byte, number_of}
use Rattle.ppd_parse.proofs.Words.{read_value}
use Rattle.ppd_parse.proofs.Begins.{front_number}
use Rattle.ppd_parse.proofs.Numbers.{value_is}

-- ---- the digits of a number

-- digits, and the number that they write
abbrev IsWritten : ℕ → List ℕ → Type 0
IsWritten n ds = (list_all is_ascii_digit ds ≡ true) × (value_from 0 ds ≡ n)

digit_passes : (d : ℕ) → d < 10 → is_ascii_digit (48 + d) ≡ true
digit_passes d lt = grind (arith, nat_tests)

all_more : (ds : List ℕ) (b : ℕ) → list_all is_ascii_digit ds ≡ true → is_ascii_digit b ≡ true → list_all is_ascii_digit (ds ++ b ∷ []) ≡ true
all_more [] b h k = rw k refl
all_more (d ∷ ds) b h k = by (is_ascii_digit d) refl h (λ g. all_more ds b g k)
  where
    by : (t : Bool) → is_ascii_digit d ≡ t → (t && list_all is_ascii_digit ds) ≡ true → (list_all is_ascii_digit ds ≡ true → list_all is_ascii_digit (ds ++ b ∷ []) ≡ true) → (is_ascii_digit d && list_all is_ascii_digit (ds ++ b ∷ [])) ≡ true
    by true e g rest = rw e (rest g)
    by false e g rest = cc

one_written : (n : ℕ) → n < 10 → IsWritten n ((48 + n) ∷ [])
one_written n lt = (all_more [] (48 + n) refl (digit_passes n lt), omega arith)

more_written : (n : ℕ) (ds : List ℕ) → 10 ≤ n → IsWritten (n / 10) ds → IsWritten n (ds ++ ((48 + n % 10) ∷ []))
more_written n ds ge h = (
  all_more ds (48 + n % 10) h.0 (digit_passes (n % 10) (omega arith)),
  value_append 0 ds ((48 + n % 10) ∷ []) ∙ omega (arith, h.1),
)

decimal_written : (n : ℕ) → n < 2 ^ 64 → IsWritten n (decimal n)
decimal_written = decimal_by_steps IsWritten one_written more_written

-- no digit is needless
number_written : (n : ℕ) → n < 2 ^ 63 → number_of (decimal n) ≡ Some n
number_written n lt =
    by (decimal n) (decimal_written n (omega arith)) (decimal_nonempty n (omega arith)) (λ some. first_decimal n some (omega arith)) (λ none. ap (λ k. length (decimal k)) none ∙ ap length (decimal_digit 0 (omega arith)))
  where
    by : (ds : List ℕ) → IsWritten n ds → 0 < length ds → (0 < n → 48 < get_or ds 0 0) → (n ≡ 0 → length ds ≡ 1) → number_of ds ≡ Some n
    by [] w some lead none = absurd (omega (arith, some))
    by (b ∷ []) w some lead none = value_is (b ∷ []) w.0 (omega (arith, w.1)) ∙ ap Some w.1
    by (b ∷ (c ∷ cs)) w some lead none = rw (ne b lead none) (value_is (b ∷ (c ∷ cs)) w.0 (omega (arith, w.1)) ∙ ap Some w.1)
      where
        ne : (b : ℕ) → (0 < n → 48 < b) → (n ≡ 0 → length (b ∷ (c ∷ cs)) ≡ 1) → nat_eq b 48 ≡ false
        ne b lead none = grind (arith, nat_tests)

-- ---- before a byte that goes on with no name and no number

digit_named : (b : ℕ) → is_ascii_digit b ≡ true → (is_space b ≡ false) × (is_letter b ≡ false) × (is_name_byte b ≡ true)
digit_named b h = (grind (arith, nat_tests), grind (arith, nat_tests), grind (arith, nat_tests))

digits_taken : (ds : List ℕ) (b : ℕ) (rest : List ℕ) → list_all is_ascii_digit ds ≡ true → is_name_byte b ≡ false → take_while is_name_byte (ds ++ b ∷ rest) ≡ ds
digits_taken [] b rest h stop = rw stop refl
digits_taken (d ∷ ds) b rest h stop = by (is_ascii_digit d) refl h (λ g. digits_taken ds b rest g stop)
  where
    by : (t : Bool) → is_ascii_digit d ≡ t → (t && list_all is_ascii_digit ds) ≡ true → (list_all is_ascii_digit ds ≡ true → take_while is_name_byte (ds ++ b ∷ rest) ≡ ds) → take_while is_name_byte (d ∷ (ds ++ b ∷ rest)) ≡ d ∷ ds
    by true e g more = take_while-cons is_name_byte d (ds ++ b ∷ rest) ∙ rw (digit_named d e).2 (ap (λ x. d ∷ x) (more g))
    by false e g more = cc

pub front_decimal : (n b : ℕ) (rest : List ℕ) → n < 2 ^ 63 → is_name_byte b ≡ false → front (decimal n ++ b ∷ rest) ≡ Read (length (decimal n)) (Number (pos n))
front_decimal n b rest lt stop = by (decimal n) (decimal_written n (omega arith)).0 (decimal_nonempty n (omega arith)) (number_written n lt)
  where
    by : (ds : List ℕ) → list_all is_ascii_digit ds ≡ true → 0 < length ds → number_of ds ≡ Some n → front (ds ++ b ∷ rest) ≡ Read (length ds) (Number (pos n))
    by [] h some is = absurd (omega (arith, some))
    by (d ∷ ds) h some is = of (is_ascii_digit d) refl h
      where
        of : (t : Bool) → is_ascii_digit d ≡ t → (t && list_all is_ascii_digit ds) ≡ true → front (d ∷ (ds ++ b ∷ rest)) ≡ Read (length (d ∷ ds)) (Number (pos n))
        of true e g =
            let k = digit_named d e in
            let taken = digits_taken (d ∷ ds) b rest h stop in
            front_number d (ds ++ b ∷ rest) k.0 k.1 e
            ∙ (ap (λ x. read_value (length x) (number_of x)) taken ∙ ap (λ o. read_value (length (d ∷ ds)) o) is)
        of false e g = cc
