-- What a loop left, one more cell at a time.
use Rattle.std.proofs.Common.{◌≡◌, ℕ, zero, suc, ◌+◌, ◌<◌, ◌≤◌, List, [], ◌∷◌, ◌++◌, length, take, get_or, ap, sym, ◌∙◌, append_assoc, append-nil, arith, add-one}
use Rattle.std.specs.Prelude.{ℤ, min, zip}
use Rattle.std.specs.List.{flat_map}
use Rattle.std.proofs.lemmas.List.{take_all}
use Rattle.std.proofs.lemmas.Slice.Zip.{length-zip}

module _ (f : ℕ × ℤ → List ℕ) (d : ℕ) (e : ℤ) where
  pairs_after : (cs : List ℕ) (vs : List ℤ) (n : ℕ) → n < length cs → n < length vs
      → flat_map f (take (suc n) (zip cs vs)) ≡ flat_map f (take n (zip cs vs)) ++ f (get_or cs n d, get_or vs n e)
  pairs_after [] vs n lt less = absurd (omega arith)
  pairs_after (c ∷ cs) [] n lt less = absurd (omega arith)
  pairs_after (c ∷ cs) (v ∷ vs) zero lt less = append-nil (f (c, v))
  pairs_after (c ∷ cs) (v ∷ vs) (suc n) lt less =
      ap (λ r. f (c, v) ++ r) (pairs_after cs vs n (omega arith) (omega arith))
      ∙ sym (append_assoc (f (c, v)) (flat_map f (take n (zip cs vs))) (f (get_or cs n d, get_or vs n e)))

  pub pairs_more : (cs : List ℕ) (vs : List ℤ) (n : ℕ) (old now new : List ℕ) → n < length cs → n < length vs
      → now ≡ old ++ flat_map f (take n (zip cs vs)) → new ≡ now ++ f (get_or cs n d, get_or vs n e)
      → new ≡ old ++ flat_map f (take (n + 1) (zip cs vs))
  pairs_more cs vs n old now new lt less a b =
      b ∙ (ap (λ w. w ++ f (get_or cs n d, get_or vs n e)) a
      ∙ (append_assoc old (flat_map f (take n (zip cs vs))) (f (get_or cs n d, get_or vs n e))
      ∙ ap (λ w. old ++ w)
      (sym (pairs_after cs vs n lt less) ∙ ap (λ j. flat_map f (take j (zip cs vs))) (sym (add-one n)))))

  pub all_pairs : (cs : List ℕ) (vs : List ℤ) (n : ℕ) → min (length cs) (length vs) ≤ n
      → flat_map f (take n (zip cs vs)) ≡ flat_map f (zip cs vs)
  all_pairs cs vs n le = ap (flat_map f) (take_all n (zip cs vs) (omega (arith, length-zip cs vs)))
