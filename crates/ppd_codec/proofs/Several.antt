-- A list read element by element in code.
use Rattle.std.proofs.Common.{◌≡◌, ℕ, zero, suc, ◌-◌, ◌<◌, List, [], ◌∷◌, ◌++◌, Result, Ok, Err, refl, ap, sym, ◌∙◌, arith}
use Rattle.std.proofs.lemmas.List.{append_assoc}
use Rattle.ppd_codec.specs.declared.bad.BadBytes.{BadBytes}
use Rattle.ppd_codec.specs.Reader.{Got, Reader, after, done, next, several}
use Rattle.ppd_codec.specs.Came.{Came, Refuses}

-- what was found goes before what is to come
abbrev pub onto : {A : Type 0} → List A → List A → Reader (List A)
onto found xs = done (found ++ xs)

module _ {S A : Type 0} (r : S → Reader A) (leaves : A → S) where
  pub one_more : (s t : S) (left at now : ℕ) (bytes rest : List ℕ) (found more : List A) (x : A) → 0 < left → Came (r s) at bytes now rest x → t ≡ leaves x → more ≡ found ++ x ∷ []
      → next (several r leaves s left) (onto found) at bytes ≡ next (several r leaves t (left - 1)) (onto more) now rest
  one_more s t zero at now bytes rest found more x h came same is = absurd (omega arith)
  one_more s t (suc k) at now bytes rest found more x h came same is =
      ap (λ (g : Result (Got A) BadBytes). after (after g (λ y. next (several r leaves (leaves y) k) (λ ys. done (y ∷ ys)))) (onto found)) came
      ∙ by (several r leaves (leaves x) k now rest)
      ∙ ap (λ n. next (several r leaves (leaves x) n) (onto more) now rest) (omega arith)
      ∙ ap (λ (u : S). next (several r leaves u (suc k - 1)) (onto more) now rest) (sym same)
    where
      by : (g : Result (Got (List A)) BadBytes) → after (after g (λ ys. done (x ∷ ys))) (onto found) ≡ after g (onto more)
      by (Err e) = refl
      by (Ok g) = ap (λ (xs : List A). Ok (record { value = xs; at = g.at; rest = g.rest })) (sym (append_assoc found (x ∷ []) g.value) ∙ ap (λ (xs : List A). xs ++ g.value) (sym is))

  pub no_more : (s : S) (left at : ℕ) (bytes : List ℕ) (found : List A) (e : BadBytes) → 0 < left → Refuses (r s) at bytes e → Refuses (next (several r leaves s left) (onto found)) at bytes e
  no_more s zero at bytes found e h c m = absurd (omega arith)
  no_more s (suc k) at bytes found e h c m =
      ap (λ (g : Result (Got A) BadBytes). after (after g (λ y. next (several r leaves (leaves y) k) (λ ys. done (y ∷ ys)))) (onto found)) (c m)

-- the elements after their count
pub counted : {A B : Type 0} (count : Reader A) (more : A → Reader B) (at now : ℕ) (bytes rest : List ℕ) (n : A) → Came count at bytes now rest n → next count more at bytes ≡ more n now rest
counted count more at now bytes rest n c = ap (λ (g : Result (Got _) BadBytes). after g more) c
