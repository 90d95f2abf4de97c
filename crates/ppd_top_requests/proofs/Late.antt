-- A test of each value as it comes is the test of all at the end.
use Rattle.std.proofs.Common.{◌≡◌, ◌∙◌, ◌+◌, ◌&&◌, Bool, true, false, true≢false, refl, sym, ap, List, [], ◌∷◌, ◌++◌, Option, Some, None, option_and_then}
use Rattle.std.specs.Prelude.{if◌then◌else◌, is_none, slice_get}
use Rattle.std.specs.List.{list_all}
use Rattle.ppd_top_requests.specs.Tested.{are_good, if_good, only_good, tested_from}
use Rattle.ppd_top_requests.specs.GivenWords.{Given, Kind, Text, Uses, after_word, ends, given_from, was_used, name, other, sets, waits, with_name, with_use, with_word}

module _ (good : Text → Text → Bool) (spell : Text → Kind) (ids : List Text) where
  StillBad : Option Given → Type 0
  StillBad o = (h : Given) → o ≡ Some h → are_good good h.uses ≡ false

  still : (u : Uses) (x : Text × Text) → are_good good u ≡ false → are_good good (u ++ x ∷ []) ≡ false
  still [] x e = absurd (true≢false e)
  still (y ∷ u) x e = go (good y.0 y.1) e (still u x)
    where
      go : (b : Bool) → (b && are_good good u) ≡ false → (are_good good u ≡ false → are_good good (u ++ x ∷ []) ≡ false) → (b && are_good good (u ++ x ∷ [])) ≡ false
      go true e next = next e
      go false e next = refl

  none_bad : StillBad None
  unfolding StillBad
  none_bad h e = cc

  some_bad : (g : Given) → are_good good g.uses ≡ false → StillBad (Some g)
  unfolding StillBad
  some_bad g bad h e =
      let same : g ≡ h = cc in
      ap (λ (x : Given). are_good good x.uses) (sym same) ∙ bad

  bad_use : (id value : Text) (g : Given) → are_good good g.uses ≡ false → StillBad (with_use id value g)
  bad_use id value g bad = go (was_used id g.uses)
    where
      go : (b : Bool) → StillBad (if b then None else Some (record g { uses = g.uses ++ (id, value) ∷ [] }))
      go true = none_bad
      go false = some_bad (record g { uses = g.uses ++ (id, value) ∷ [] }) (still g.uses (id, value) bad)

  bad_name : (w : Text) (g : Given) → are_good good g.uses ≡ false → StillBad (with_name ids w g)
  bad_name w g bad = go (slice_get ids g.count)
    where
      go : (o : Option Text) → StillBad (option_and_then (λ id. with_use id w (record g { count = g.count + 1 })) o)
      go None = none_bad
      go (Some id) = bad_use id w (record g { count = g.count + 1 }) bad

  bad_kind : (k : Kind) (w : Text) (g : Given) → are_good good g.uses ≡ false → StillBad (with_word ids None k w g)
  bad_kind ends w g bad = some_bad (record g { ended = true }) bad
  bad_kind (waits id) w g bad = some_bad (record g { waiting = Some id }) bad
  bad_kind (sets id value) w g bad = bad_use id value g bad
  bad_kind other w g bad = none_bad
  bad_kind name w g bad = bad_name w g bad

  bad_value : (id : Text) (k : Kind) (w : Text) (g : Given) → are_good good g.uses ≡ false → StillBad (with_word ids (Some id) k w g)
  bad_value id name w g bad = bad_use id w (record g { waiting = None }) bad
  bad_value id ends w g bad = none_bad
  bad_value id (waits x) w g bad = none_bad
  bad_value id (sets x v) w g bad = none_bad
  bad_value id other w g bad = none_bad

  bad_word : (k : Kind) (o : Option Text) (w : Text) (g : Given) → are_good good g.uses ≡ false → StillBad (with_word ids o k w g)
  bad_word k None w g bad = bad_kind k w g bad
  bad_word k (Some id) w g bad = bad_value id k w g bad

  bad_after : (w : Text) (g : Given) → are_good good g.uses ≡ false → StillBad (after_word spell ids g w)
  bad_after w g bad = go g.ended
    where
      go : (b : Bool) → StillBad (if b then with_name ids w g else with_word ids g.waiting (spell w) w g)
      go true = bad_name w g bad
      go false = bad_word (spell w) g.waiting w g bad

  bad_ends : (ws : List Text) (g : Given) → are_good good g.uses ≡ false → only_good good (given_from spell ids g ws) ≡ None
  unfolding StillBad
  bad_ends [] g bad = go (is_none g.waiting && list_all (λ id. was_used id g.uses) ids)
    where
      go : (b : Bool) → only_good good (if b then Some g.uses else None) ≡ None
      go true = ap (λ (t : Bool). if t then Some g.uses else None) bad
      go false = refl
  bad_ends (w ∷ ws) g bad = go (after_word spell ids g w) (bad_after w g bad) (bad_ends ws)
    where
      go : (o : Option Given) → ((h : Given) → o ≡ Some h → are_good good h.uses ≡ false) → ((h : Given) → are_good good h.uses ≡ false → only_good good (given_from spell ids h ws) ≡ None)
          → only_good good (option_and_then (λ h. given_from spell ids h ws) o) ≡ None
      go None still_bad next = refl
      go (Some h) still_bad next = next h (still_bad h refl)

  pub tested_is : (ws : List Text) (g : Given) → are_good good g.uses ≡ true → tested_from good spell ids g ws ≡ only_good good (given_from spell ids g ws)
  tested_is [] g fine = go (is_none g.waiting && list_all (λ id. was_used id g.uses) ids)
    where
      go : (b : Bool) → (if b then Some g.uses else None) ≡ only_good good (if b then Some g.uses else None)
      go true = sym (ap (λ (t : Bool). if t then Some g.uses else None) fine)
      go false = refl
  tested_is (w ∷ ws) g fine = go (after_word spell ids g w) (tested_is ws)
    where
      inner : (h : Given) (t : Bool) → are_good good h.uses ≡ t → (are_good good h.uses ≡ true → tested_from good spell ids h ws ≡ only_good good (given_from spell ids h ws))
          → option_and_then (λ x. tested_from good spell ids x ws) (if t then Some h else None) ≡ only_good good (given_from spell ids h ws)
      inner h true e next = next e
      inner h false e next = sym (bad_ends ws h e)

      go : (o : Option Given) → ((h : Given) → are_good good h.uses ≡ true → tested_from good spell ids h ws ≡ only_good good (given_from spell ids h ws))
          → option_and_then (λ h. tested_from good spell ids h ws) (if_good good o) ≡ only_good good (option_and_then (λ h. given_from spell ids h ws) o)
      go None next = refl
      go (Some h) next = inner h (are_good good h.uses) refl (next h)
