-- Kept blocks after each call of the cache, and after blocks were asked for.
use Rattle.std.specs.Prelude.{Contains, OnErr, OnOk, if◌then◌else◌}
use Rattle.std.specs.Borrow.{Bor}
use Rattle.std.specs.Map.{lookup, lookup_entry, remove_entry}
use Rattle.std.specs.Option.{option_copied, option_map_or}
use Rattle.std.proofs.Common.{◌≡◌, ℕ, zero, suc, ◌+◌, ◌-◌, ◌<◌, ◌≤◌, Bool, true, false, ◌&&◌, nat_eq, ◌⊎◌, arith, List, [], ◌∷◌, ◌++◌, length, take, Option, Some, None, Result, Ok, Err, refl, ap, ap₂, sym, ◌∙◌, subst, inl, inr}
use Rattle.std.proofs.lemmas.Bool.Decides.{nat_tests}
use Rattle.lru.specs.LruCache.{LruCache, lru_cache, promoted, put_entries}
use Rattle.lru.proofs.CallerLemmas.{Contains-lookup, Contains-lookup_entry, Contains-promoted, Contains-take}
use Rattle.lru.proofs.Splits.{Contains-cons}
use Rattle.ppd_model.specs.declared.flow.Item.{Item}
pub use Rattle.ppd_flow_past.proofs.Keeping.{nothing_kept}
use Rattle.ppd_session.specs.declared.place.Place.{Place}
use Rattle.ppd_session.specs.Keeping.{AreAsked, AreAskedInPart, IsAsked, IsKeptNow, Keeping, in_front, is_place, kept_of, with_block}
use Rattle.ppd_session.specs.Known.{Known}
use Rattle.ppd_session.specs.Sessions.{AreTold}
use Rattle.ppd_session.specs.Texts.{told_at}
use Rattle.ppd_session.proofs.KnownWords.{of_cells}

abbrev pub Blocks : Type 0
Blocks = LruCache Place (List Item)

-- a cache as what is kept
abbrev pub as_keeping : ℕ → Blocks → Keeping
as_keeping most c = record { blocks = c.entries; most = most }

abbrev pub place_at : ℕ → ℕ → Place
place_at p k = record { process = p; interval = k }

-- places are told apart by their numbers
pub same_place : (a b : Place) → nat_eq a.process b.process && nat_eq a.interval b.interval ≡ true → a ≡ b
same_place a b h =
    let p : a.process ≡ b.process = grind (arith, nat_tests) in
    let k : a.interval ≡ b.interval = grind (arith, nat_tests) in
    ap₂ place_at p k

-- ---- look-ups

module _ {X : Type 0} (test : Place → Bool) where
  no_entry : (es : List (Place × X)) → lookup test es ≡ None → lookup_entry test es ≡ None
  no_entry [] none = refl
  no_entry (e ∷ es) none = (elim (test e.0) as (λ y. test e.0 ≡ y → lookup_entry test (e ∷ es) ≡ None) [
    | true ↦ λ t. let never = rw t at none in absurd (cc)
    | false ↦ λ t. let rest = rw t at none in rw t (no_entry es rest)
  ]) refl

  none_in_front : (es : List (Place × X)) (o : Option (Place × X)) → lookup_entry test es ≡ o
      → lookup test (option_map_or (λ e. e ∷ remove_entry test es) o es) ≡ None → o ≡ None
  none_in_front es None is none = refl
  none_in_front es (Some e) is none =
      let t = (Contains-lookup_entry test es e is).1 in
      let never = rw t at none in
      absurd (cc)

  -- where none is found in front, the list is as before
  front_same : (es : List (Place × X)) → lookup test (promoted test es) ≡ None → promoted test es ≡ es
  front_same es none =
      ap (λ (o : Option (Place × X)). option_map_or (λ e. e ∷ remove_entry test es) o es)
      (none_in_front es (lookup_entry test es) refl none)

take_first : {X : Type 0} (n : ℕ) (x : X) (xs : List X) → 0 < n → take n (x ∷ xs) ≡ x ∷ take (n - 1) xs
take_first zero x xs lt = absurd (omega arith)
take_first (suc n) x xs lt =
    let z : n ≡ suc n - 1 = omega arith in ap (λ k. x ∷ take k xs) z

module _ (eq : Place → Place → Bool) (place : Place) (items : List Item) (old : Blocks) where
  -- a place that is not there is put in front
  pub put_new : (most : ℕ) → 0 < most → old.cap ≡ most → lookup (eq place) old.entries ≡ None
      → put_entries eq old place items ≡ take most ((place, items) ∷ old.entries)
  put_new most some cap none =
      ap (λ (o : Option (Place × List Item)). option_map_or (λ e. (e.0, items) ∷ remove_entry (eq place) old.entries) o ((place, items) ∷ take (old.cap - 1) old.entries))
      (no_entry (eq place) old.entries none)
      ∙ ap (λ n. (place, items) ∷ take (n - 1) old.entries) cap
      ∙ sym (take_first most (place, items) old.entries some)

-- ---- what is told

module _ (x : Known) where
  abbrev IsToldOf : Place × List Item → Type 0
  IsToldOf block = told_at x block.0.process block.0.interval ≡ Some (Ok block.1)

  pub told_kept : (kept : Keeping) (place : Place) (items : List Item) → AreTold x kept.blocks → kept_of kept place ≡ Some items → IsToldOf (place, items)
  told_kept kept place items told is =
      let c = Contains-lookup (is_place place) kept.blocks items is in
      subst (λ (p : Place). IsToldOf (p, items)) (sym (same_place place c.0 c.2)) (told c.0 items c.1)

  told_front : (kept : Keeping) (place : Place) → AreTold x kept.blocks → AreTold x (in_front place kept).blocks
  told_front kept place told other items h =
      told other items (Contains-promoted (is_place place) kept.blocks (other, items) h)

  told_with : (kept : Keeping) (place : Place) (items : List Item) → AreTold x kept.blocks → IsToldOf (place, items)
      → AreTold x (with_block place items kept).blocks
  told_with kept place items told here other shown h =
      by (other, shown)
      (Contains-cons (place, items) kept.blocks (other, shown)
      (Contains-take kept.most ((place, items) ∷ kept.blocks) (other, shown) h))
    where
      by : (block : Place × List Item) → (◌≡◌ {A = Place × List Item} (place, items) block) ⊎ Contains kept.blocks block → IsToldOf block
      by block (inl e) = subst IsToldOf e here
      by block (inr c) = told block.0 block.1 c

  -- a block that is found after it was put in front is told
  pub told_found : (old now : Keeping) (place : Place) (r : Option (Bor (List Item))) (items : Bor (List Item)) → AreTold x old.blocks → now ≡ in_front place old
      → option_copied r ≡ kept_of now place → r ≡ Some items → IsToldOf (place, items.now)
  told_found old now place r items told front found is =
      told_kept now place items.now
      (subst (λ (k : Keeping). AreTold x k.blocks) (sym front) (told_front old place told))
      (sym found ∙ ap (λ (o : Option (Bor (List Item))). option_copied o) is)

  pub not_found : (now : Keeping) (place : Place) (r : Option (Bor (List Item))) → option_copied r ≡ kept_of now place → r ≡ None
      → kept_of now place ≡ None
  not_found now place r found is = sym found ∙ ap (λ (o : Option (Bor (List Item))). option_copied o) is

  -- one that is not found there may be kept
  pub kept_now : (old now new : Keeping) (place : Place) (items : List Item) → now ≡ in_front place old → kept_of now place ≡ None
      → IsToldOf (place, items) → (new ≡ with_block place items now) ⊎ (new ≡ now) → IsAsked x (Some place) old new
  kept_now old now new place items front none told (inr e) = inl (e ∙ front)
  kept_now old now new place items front none told (inl e) =
      let gone : kept_of (in_front place old) place ≡ None = subst (λ (k : Keeping). kept_of k place ≡ None) front none in
      let same : in_front place old ≡ old = ap (λ bs. record { blocks = bs; most = old.most }) (front_same (is_place place) old.blocks gone) in
      inr (record {
        items = items;
        told = told;
        unkept = subst (λ (k : Keeping). kept_of k place ≡ None) same gone;
        kept = e ∙ ap (with_block place items) (front ∙ same);
      })

  -- blocks that are told stay so
  asked_told : (o : Option Place) (old new : Keeping) → AreTold x old.blocks → IsAsked x o old new → AreTold x new.blocks
  asked_told None old new told e = subst (λ (k : Keeping). AreTold x k.blocks) (sym e) told
  asked_told (Some place) old new told (inl e) = subst (λ (k : Keeping). AreTold x k.blocks) (sym e) (told_front old place told)
  asked_told (Some place) old new told (inr k) =
      subst (λ (k : Keeping). AreTold x k.blocks) (sym k.kept) (told_with old place k.items told k.told)

  pub are_told : (os : List (Option Place)) (old new : Keeping) → AreTold x old.blocks → AreAsked x os old new → AreTold x new.blocks
  are_told [] old new told e = subst (λ (k : Keeping). AreTold x k.blocks) (sym e) told
  are_told (o ∷ os) old new told (now, a, rest) = are_told os now new (asked_told o old now told a) rest

  -- ---- one block after another

  one_more : (os : List (Option Place)) (o : Option Place) (old now new : Keeping) → AreAsked x os old now → IsAsked x o now new → AreAsked x (os ++ o ∷ []) old new
  one_more [] o old now new e a = (new, subst (λ (k : Keeping). IsAsked x o k new) e a, refl)
  one_more (p ∷ os) o old now new (mid, b, rest) a = (mid, b, one_more os o mid now new rest a)

  module _ (f : ℕ → Option Place) where
    cells_more : (c n : ℕ) → of_cells f c n ++ f (c + n) ∷ [] ≡ of_cells f c (suc n)
    cells_more c zero = let z : c + 0 ≡ c = omega arith in ap (λ k. f k ∷ []) z
    cells_more c (suc n) =
        let z : c + suc n ≡ c + 1 + n = omega arith in
        ap (λ w. f c ∷ w) (ap (λ k. of_cells f (c + 1) n ++ f k ∷ []) z ∙ cells_more (c + 1) n)

    cells_taken : (c i n : ℕ) → i ≤ n → take i (of_cells f c n) ≡ of_cells f c i
    cells_taken c zero n le = refl
    cells_taken c (suc i) zero le = absurd (omega arith)
    cells_taken c (suc i) (suc n) le = ap (λ w. f c ∷ w) (cells_taken (c + 1) i n (omega arith))

    pub next_asked : (i : ℕ) (old now new : Keeping) → AreAsked x (of_cells f 0 i) old now → IsAsked x (f i) now new → AreAsked x (of_cells f 0 (i + 1)) old new
    next_asked i old now new before a =
        let z : i ≡ 0 + i = omega arith in
        let s : suc i ≡ i + 1 = omega arith in
        subst (λ (os : List (Option Place)). AreAsked x os old new)
        (ap (λ k. of_cells f 0 i ++ f k ∷ []) z ∙ (cells_more 0 i ∙ ap (of_cells f 0) s))
        (one_more (of_cells f 0 i) (f i) old now new before a)

    in_part : (i n : ℕ) (old new : Keeping) → i ≤ n → AreAsked x (of_cells f 0 i) old new → AreAskedInPart x (of_cells f 0 n) old new
    in_part i n old new le a =
        (i, subst (λ (os : List (Option Place)). AreAsked x os old new) (sym (cells_taken 0 i n le)) a)

    pub part_asked : (i n : ℕ) (old now new : Keeping) → i < n → AreAsked x (of_cells f 0 i) old now → (new ≡ now) ⊎ IsAsked x (f i) now new
        → AreAskedInPart x (of_cells f 0 n) old new
    part_asked i n old now new lt before (inl e) =
        in_part i n old new (omega arith) (subst (λ (k : Keeping). AreAsked x (of_cells f 0 i) old k) (sym e) before)
    part_asked i n old now new lt before (inr a) =
        in_part (i + 1) n old new (omega arith) (next_asked i old now new before a)

  -- all of them are a part
  take_all : {A : Type 0} (xs : List A) → xs ≡ take (length xs) xs
  take_all [] = refl
  take_all (y ∷ xs) = ap (λ w. y ∷ w) (take_all xs)

  pub all_asked : (os : List (Option Place)) (old new : Keeping) → AreAsked x os old new → AreAskedInPart x os old new
  all_asked os old new a =
      (length os, subst (λ (ps : List (Option Place)). AreAsked x ps old new) (take_all os) a)

  -- whether there is an answer or not
  pub told_after : {T E : Type 0} (r : Result T E) (os : List (Option Place)) (old new : Keeping) → AreTold x old.blocks
      → OnOk r (AreAsked x os old new) → OnErr r (AreAskedInPart x os old new) → AreTold x new.blocks
  told_after (Ok y) os old new told a part = are_told os old new told a
  told_after (Err e) os old new told a part = are_told (take part.0 os) old new told part.1

pub on_err : {T E P : Type 0} (r : Result T E) → P → OnErr r P
on_err (Ok x) p = tt
on_err (Err e) p = p
