-- Digits, one more at a time.
use Rattle.std.proofs.Common.{◌≡◌, ℕ, ◌+◌, ◌*◌, ◌-◌, ◌<◌, List, [], ◌∷◌, ◌++◌, length, get_or, take, refl, ◌∙◌, ap}
use Rattle.std.proofs.lemmas.List.{take_more}
use Rattle.ppd_ast.specs.Digits.{value_from}

pub value_append : (n : ℕ) (xs bs : List ℕ) → value_from n (xs ++ bs) ≡ value_from (value_from n xs) bs
value_append n [] bs = refl
value_append n (x ∷ xs) bs = value_append (n * 10 + (x - 48)) xs bs

pub value_next : (bs : List ℕ) (i d : ℕ) → i < length bs → value_from 0 (take (i + 1) bs) ≡ value_from 0 (take i bs) * 10 + (get_or bs i d - 48)
value_next bs i d h = ap (value_from 0) (take_more bs i d h) ∙ value_append 0 (take i bs) (get_or bs i d ∷ [])
