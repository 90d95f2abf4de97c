-- Bytes written in pieces.
use Rattle.std.specs.Prelude.{None, Some, Option}
use Rattle.std.proofs.Common.{◌≡◌, ℕ, ◌+◌, List, [], ◌++◌, take, drop, arith, ap, sym, ◌∙◌, append_assoc, append-nil}
use Rattle.std.proofs.lemmas.List.{drop-take, take-take, take-append-drop}
use Rattle.ppd_io.specs.Content.{Appends}

pub take_plus : (m n : ℕ) (xs : List ℕ) → take m xs ++ take n (drop m xs) ≡ take (m + n) xs
take_plus m n xs =
    let a : take m (take (m + n) xs) ≡ take m xs = take-take m (m + n) xs (omega arith) in
    let b : drop m (take (m + n) xs) ≡ take n (drop m xs) = drop-take m n xs in
    let c : take m (take (m + n) xs) ++ drop m (take (m + n) xs) ≡ take (m + n) xs = take-append-drop m (take (m + n) xs) in cc

-- what was written in two steps
pub appends_twice : (a b c : Option (List ℕ)) (xs ys : List ℕ) → Appends a b xs → Appends b c ys → Appends a c (xs ++ ys)
appends_twice a b None xs ys h k = tt
appends_twice a None (Some zs) xs ys h k = absurd k
appends_twice None (Some us) (Some zs) xs ys h k = absurd h
appends_twice (Some vs) (Some us) (Some zs) xs ys h k = k ∙ (ap (λ w. w ++ ys) h ∙ append_assoc vs xs ys)

pub appends_nothing : (a : Option (List ℕ)) → Appends a a []
appends_nothing None = tt
appends_nothing (Some xs) = sym (append-nil xs)

-- the next piece after some first bytes
pub appends_more : (a b c : Option (List ℕ)) (m n : ℕ) (xs : List ℕ) → Appends a b (take m xs) → Appends b c (take n (drop m xs)) → Appends a c (take (m + n) xs)
appends_more a b c m n xs h k = let P : List ℕ → Type 0 = λ w. Appends a c w in rw (← take_plus m n xs) (appends_twice a b c (take m xs) (take n (drop m xs)) h k)
