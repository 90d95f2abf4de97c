-- Walks over the numbers of statements and over bodies that compare a list piece by piece.
use Rattle.std.proofs.Common.{◌≡◌, ℕ, ◌+◌, ◌-◌, ◌<◌, ◌≤◌, List, [], ◌∷◌, ◌++◌, length, get_or, take, drop, None, sym, ap, ◌∙◌, arith}
use Rattle.std.specs.List.{flat_map, range_with_len, enumerate_from}
use Rattle.std.proofs.lemmas.List.{append_assoc}
use Rattle.std.proofs.lemmas.Grind.{flat_map-append, common_steps}
use Rattle.ppd_ast.specs.declared.program.Body.{Body}
use Rattle.ppd_ast.proofs.Ranges.{range_more, range_split, flat_one, each_append, each_more}
use Rattle.test_valid.specs.Begins.{Begins}
use Rattle.test_valid.proofs.Beginnings.{begins_then, begins_stop_at}

module _ {X : Type 0} (f : ℕ → List X) (list : List X) (place next a k : ℕ) (low : a ≤ k)
    (so_far : drop place list ≡ flat_map f (range_with_len a (k - a)) ++ drop next list) where
  pub walk_more : (m : ℕ) → drop next list ≡ f k ++ drop m list → drop place list ≡ flat_map f (range_with_len a (k + 1 - a)) ++ drop m list
  walk_more m h =
      so_far ∙ ap (λ l. flat_map f (range_with_len a (k - a)) ++ l) h
      ∙ sym (append_assoc (flat_map f (range_with_len a (k - a))) (f k) (drop m list))
      ∙ ap (λ l. l ++ drop m list) (sym (flat_one f (range_with_len a (k - a)) k) ∙ ap (flat_map f) (sym (range_more a k low)))

  pub walk_stop : (e : ℕ) → k < e → ((rest : List X) → drop next list ≡ f k ++ rest → ⊥) → Begins None list place (flat_map f (range_with_len a (e - a)))
  walk_stop e high h =
      let all : flat_map f (range_with_len a (e - a)) ≡ (flat_map f (range_with_len a (k - a)) ++ f k) ++ flat_map f (range_with_len (k + 1) (e - (k + 1))) =
      ap (flat_map f) (range_split a k e low high) ∙ flat_map-append f (range_with_len a (k - a) ++ k ∷ []) (range_with_len (k + 1) (e - (k + 1)))
      ∙ ap (λ l. l ++ flat_map f (range_with_len (k + 1) (e - (k + 1)))) (flat_one f (range_with_len a (k - a)) k) in
      begins_stop_at list place (flat_map f (range_with_len a (k - a)) ++ f k) (flat_map f (range_with_len (k + 1) (e - (k + 1)))) _ all
      (begins_then list place next (flat_map f (range_with_len a (k - a))) (f k) None so_far h)

module _ {X : Type 0} (f : ℕ → Body → List X) (list : List X) (next k : ℕ) (bs : List Body) (b : Body) (inside : k < length bs) (is : b ≡ get_or bs k b)
    (so_far : drop 0 list ≡ flat_map (λ e. f e.0 e.1) (enumerate_from 0 (take k bs)) ++ drop next list) where
  pub bodies_more : (m : ℕ) → drop next list ≡ f k b ++ drop m list → drop 0 list ≡ flat_map (λ e. f e.0 e.1) (enumerate_from 0 (take (k + 1) bs)) ++ drop m list
  bodies_more m h =
      so_far ∙ ap (λ l. flat_map (λ e. f e.0 e.1) (enumerate_from 0 (take k bs)) ++ l) h ∙ sym (append_assoc (flat_map (λ e. f e.0 e.1) (enumerate_from 0 (take k bs))) (f k b) (drop m list))
      ∙ ap (λ l. l ++ drop m list) (sym (each_more f bs k b inside is))

  pub bodies_stop : ((rest : List X) → drop next list ≡ f k b ++ rest → ⊥) → Begins None list 0 (flat_map (λ e. f e.0 e.1) (enumerate_from 0 bs))
  bodies_stop h =
      let cut : take (k + 1) bs ++ drop (k + 1) bs ≡ bs = grind (arith, common_steps) in
      let all : flat_map (λ e. f e.0 e.1) (enumerate_from 0 bs) ≡ (flat_map (λ e. f e.0 e.1) (enumerate_from 0 (take k bs)) ++ f k b) ++ flat_map (λ e. f e.0 e.1) (enumerate_from (0 + length (take (k + 1) bs)) (drop (k + 1) bs)) =
      ap (λ l. flat_map (λ e. f e.0 e.1) (enumerate_from 0 l)) (sym cut) ∙ each_append f 0 (take (k + 1) bs) (drop (k + 1) bs)
      ∙ ap (λ l. l ++ flat_map (λ e. f e.0 e.1) (enumerate_from (0 + length (take (k + 1) bs)) (drop (k + 1) bs))) (each_more f bs k b inside is) in
      begins_stop_at list 0 (flat_map (λ e. f e.0 e.1) (enumerate_from 0 (take k bs)) ++ f k b) (flat_map (λ e. f e.0 e.1) (enumerate_from (0 + length (take (k + 1) bs)) (drop (k + 1) bs))) _ all
      (begins_then list 0 next (flat_map (λ e. f e.0 e.1) (enumerate_from 0 (take k bs))) (f k b) None so_far h)
