-- Lists that have each grown by their part.
use Rattle.std.proofs.Common.{◌≡◌, ℕ, zero, suc, ◌+◌, ◌<◌, ◌≤◌, List, [], ◌∷◌, ◌++◌, refl, ap, sym, subst, ◌∙◌, arith, length, drop, get_or, inl, inr, eq-eqb, ne_eqb}
use Rattle.std.specs.Prelude.{nat_eq}
use Rattle.std.specs.List.{flat_map}
use Rattle.std.proofs.lemmas.Bool.{cond-true, cond-false, cases_eq}
use Rattle.std.proofs.lemmas.List.{drop_all, drop_more, append_assoc, append-nil}
use Rattle.std.proofs.lemmas.List.Sums.{sum_by-cons}
use Rattle.ppd_model.specs.World.{change}
use Rattle.ppd_model.proofs.Changes.{length-change}
use Rattle.ppd_graph.proofs.Timed.{at_changed, at_other, length_more}
use Rattle.ppd_race_found.specs.Lists.{GrowsBy, one_at, total}

-- ---- by a part

module _ {A : Type 0} where
  pub grown_none : (f : ℕ → List A) (old : List (List A)) → ((m : ℕ) → m < length old → f m ≡ []) → GrowsBy f old old
  grown_none f old h = record { long = refl; at = λ m lt. sym (append-nil (get_or old m [])) ∙ ap (λ r. get_or old m [] ++ r) (sym (h m lt)) }

  pub grown_as : (f g : ℕ → List A) (old new : List (List A)) → ((m : ℕ) → f m ≡ g m) → GrowsBy f old new → GrowsBy g old new
  grown_as f g old new e h = record { long = h.long; at = λ m lt. h.at m lt ∙ ap (λ r. get_or old m [] ++ r) (e m) }

  pub grown_then : (f g : ℕ → List A) (old now new : List (List A)) → GrowsBy f old now → GrowsBy g now new → GrowsBy (λ m. f m ++ g m) old new
  grown_then f g old now new h k = record {
    long = k.long ∙ h.long;
    at = λ m lt. k.at m (subst (λ n. m < n) (sym h.long) lt) ∙ ap (λ r. r ++ g m) (h.at m lt) ∙ append_assoc (get_or old m []) (f m) (g m);
  }

  -- one item at a place, where there is one
  pub one_there : (lists : List (List A)) (place : ℕ) (item : A) → place < length lists → GrowsBy (one_at place item) lists (change (λ list. list ++ item ∷ []) place lists)
  one_there lists place item there = record { long = length-change (λ list. list ++ item ∷ []) place lists; at = at }
    where
      at : (m : ℕ) → m < length lists → get_or (change (λ list. list ++ item ∷ []) place lists) m [] ≡ get_or lists m [] ++ one_at place item m
      at m lt = elim (cases_eq place m) [
        | inl same ↦
            ap (λ k. get_or (change (λ list. list ++ item ∷ []) place lists) k []) (sym same) ∙ at_changed (λ list. list ++ item ∷ []) place lists there ∙ ap (λ k. get_or lists k [] ++ item ∷ []) same
            ∙ ap (λ r. get_or lists m [] ++ r) (sym (cond-true (nat_eq place m) (item ∷ []) [] (eq-eqb place m same)))
        | inr other ↦
            at_other (λ list. list ++ item ∷ []) place m lists (λ e. other (sym e)) ∙ sym (append-nil (get_or lists m []))
            ∙ ap (λ r. get_or lists m [] ++ r) (sym (cond-false (nat_eq place m) (item ∷ []) [] (ne_eqb place m other)))
      ]

  pub one_nowhere : (lists : List (List A)) (place : ℕ) (item : A) → length lists ≤ place → GrowsBy (one_at place item) lists lists
  one_nowhere lists place item past = grown_none (one_at place item) lists (λ m lt. cond-false (nat_eq place m) (item ∷ []) [] (ne_eqb place m (λ e. absurd (omega (arith, e, lt, past)))))

  pub total_more : (lists : List (List A)) (place : ℕ) (item : A) → place < length lists → total (change (λ list. list ++ item ∷ []) place lists) ≡ total lists + 1
  total_more [] place item h = absurd (omega (arith, h))
  total_more (l ∷ ls) zero item h =
      let e = length_more l item in
      let one = sum_by-cons length l ls in
      let two = sum_by-cons length (l ++ item ∷ []) ls in
      omega (arith, e, one, two)
  total_more (l ∷ ls) (suc place) item h =
      let e = total_more ls place item (omega (arith, h)) in
      let one = sum_by-cons length l ls in
      let two = sum_by-cons length l (change (λ list. list ++ item ∷ []) place ls) in
      omega (arith, e, one, two)

-- ---- by the parts of a list's items

module _ {A B : Type 0} (f : ℕ → A → List B) where
  -- grown by the parts of the first i items
  pub record GrownPast (i : ℕ) (xs : List A) (old now : List (List B)) : Type 0 where
    pub long : length now ≡ length old
    pub at : (m : ℕ) → m < length old → get_or now m [] ++ flat_map (f m) (drop i xs) ≡ get_or old m [] ++ flat_map (f m) xs

  pub past_none : (xs : List A) (old : List (List B)) → GrownPast 0 xs old old
  past_none xs old = record { long = refl; at = λ m lt. refl }

  pub past_more : (i : ℕ) (xs : List A) (d : A) (old now new : List (List B)) → i < length xs → GrownPast i xs old now → GrowsBy (λ m. f m (get_or xs i d)) now new → GrownPast (i + 1) xs old new
  past_more i xs d old now new lt h k = record {
    long = k.long ∙ h.long;
    at = λ m there.
        ap (λ r. r ++ flat_map (f m) (drop (i + 1) xs)) (k.at m (subst (λ n. m < n) (sym h.long) there)) ∙ append_assoc (get_or now m []) (f m (get_or xs i d)) (flat_map (f m) (drop (i + 1) xs))
        ∙ ap (λ ys. get_or now m [] ++ flat_map (f m) ys) (sym (drop_more xs i d lt)) ∙ h.at m there;
  }

  pub past_all : (i : ℕ) (xs : List A) (old now : List (List B)) → length xs ≤ i → GrownPast i xs old now → GrowsBy (λ m. flat_map (f m) xs) old now
  past_all i xs old now past h = record {
    long = h.long;
    at = λ m there. sym (append-nil (get_or now m [])) ∙ ap (λ ys. get_or now m [] ++ flat_map (f m) ys) (sym (drop_all i xs past)) ∙ h.at m there;
  }
