-- Lines of numbers, one more at a time.
use Rattle.std.proofs.Common.{◌≡◌, ℕ, zero, suc, ◌+◌, List, ◌++◌, ap, sym, ◌∙◌, append_assoc, append-nil, arith, add-one}
use Rattle.std.specs.List.{flat_map, range_with_len}

lines_after : (line : ℕ → List ℕ) (k n : ℕ) → flat_map line (range_with_len k (suc n)) ≡ flat_map line (range_with_len k n) ++ line (k + n)
lines_after line k zero =
    let z : k ≡ k + 0 = omega arith in
    append-nil (line k) ∙ ap line z
lines_after line k (suc n) =
    let z : k + 1 + n ≡ k + suc n = omega arith in
    ap (λ w. line k ++ w) (lines_after line (k + 1) n ∙ ap (λ j. flat_map line (range_with_len (k + 1) n) ++ line j) z)
    ∙ sym (append_assoc (line k) (flat_map line (range_with_len (k + 1) n)) (line (k + suc n)))

-- the line after n of them is that of number m
pub lines_more : (line : ℕ → List ℕ) (k n m : ℕ) (old now new : List ℕ) → k + n ≡ m → now ≡ old ++ flat_map line (range_with_len k n)
    → new ≡ now ++ line m → new ≡ old ++ flat_map line (range_with_len k (n + 1))
lines_more line k n m old now new is a b =
    b ∙ (ap (λ w. w ++ line m) a
    ∙ (append_assoc old (flat_map line (range_with_len k n)) (line m)
    ∙ ap (λ w. old ++ w) (ap (λ j. flat_map line (range_with_len k n) ++ line j) (sym is) ∙ sym (lines_after line k n)
    ∙ ap (λ j. flat_map line (range_with_len k j)) (sym (add-one n)))))
