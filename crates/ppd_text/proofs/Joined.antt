-- One line or name more.
use Rattle.std.proofs.Common.{◌≡◌, ℕ, ◌+◌, ◌-◌, ◌<◌, ◌≤◌, List, ◌++◌, length, get_or, take, sym, ap, ◌∙◌, append_assoc, arith}
use Rattle.std.specs.List.{flat_map, range_with_len}
use Rattle.std.proofs.lemmas.List.{take_more}
use Rattle.ppd_ast.proofs.Ranges.{range_more, flat_one}

pub joined : (old before now one new more : List ℕ) → now ≡ old ++ before → new ≡ now ++ one → more ≡ before ++ one → new ≡ old ++ more
joined old before now one new more a b c = b ∙ (ap (λ (w : List ℕ). w ++ one) a ∙ (append_assoc old before one ∙ ap (λ (w : List ℕ). old ++ w) (sym c)))

-- the next number of a range
pub range_joined : (f : ℕ → List ℕ) (a k : ℕ) (old now new : List ℕ) → a ≤ k → now ≡ old ++ flat_map f (range_with_len a (k - a)) → new ≡ now ++ f k → new ≡ old ++ flat_map f (range_with_len a (k + 1 - a))
range_joined f a k old now new h before is =
    joined old (flat_map f (range_with_len a (k - a))) now (f k) new (flat_map f (range_with_len a (k + 1 - a))) before is
    (ap (flat_map f) (range_more a k h) ∙ flat_one f (range_with_len a (k - a)) k)

-- the next number of a range from 0
pub first_joined : (f : ℕ → List ℕ) (k : ℕ) (old now new : List ℕ) → now ≡ old ++ flat_map f (range_with_len 0 k) → new ≡ now ++ f k → new ≡ old ++ flat_map f (range_with_len 0 (k + 1))
first_joined f k old now new before is =
    let none : k ≡ k - 0 = omega arith in
    let more : k + 1 - 0 ≡ k + 1 = omega arith in
    range_joined f 0 k old now new (omega arith) (before ∙ ap (λ n. old ++ flat_map f (range_with_len 0 n)) none) is ∙ ap (λ n. old ++ flat_map f (range_with_len 0 n)) more

-- the next of a list
pub taken_joined : (f : ℕ → List ℕ) (xs : List ℕ) (i d : ℕ) (old now new : List ℕ) → i < length xs → now ≡ old ++ flat_map f (take i xs) → new ≡ now ++ f (get_or xs i d) → new ≡ old ++ flat_map f (take (i + 1) xs)
taken_joined f xs i d old now new h before is =
    joined old (flat_map f (take i xs)) now (f (get_or xs i d)) new (flat_map f (take (i + 1) xs)) before is
    (ap (flat_map f) (take_more xs i d h) ∙ flat_one f (take i xs) (get_or xs i d))
