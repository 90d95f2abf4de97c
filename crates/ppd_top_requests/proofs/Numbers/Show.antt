-- The words of `show` read by hand are what the words give to two options.
use Rattle.std.proofs.Common.{◌≡◌, ◌∙◌, ◌&&◌, ◌||◌, ℕ, zero, suc, Bool, cond, true, false, true≢false, refl, sym, ap, List, [], ◌∷◌, Option, Some, None, codes, option_map}
use Rattle.std.specs.Prelude.{find, if◌then◌else◌, is_none, is_some, not, option_and_then, slice_get}
use Rattle.std.specs.Borrow.{Bor}
use Rattle.std.specs.Str.{bytes_eq}
use Rattle.ppd_ast.specs.Digits.{number_in}
use Rattle.ppd_top_requests.proofs.Clap.Kinds.{clap_gives}
use Rattle.ppd_top_requests.proofs.Clap.Lookups.{same-equal}
use Rattle.ppd_top_requests.proofs.Numbers.Fewer.{given_fewer, without}
use Rattle.ppd_top_requests.proofs.Numbers.Flow.{flow_is_given}
use Rattle.ppd_top_requests.proofs.Numbers.Words.{flow_longs}
use Rattle.ppd_top_requests.proofs.Uses.{value_none}
use Rattle.ppd_top_requests.specs.Numbers.{Asked, Choice, NumbersGiven, after_one, all_given, all_shown, and_more, asked_for, asked_of, budget, good, named_of, no_numbers, numbers_from, shown_from}
use Rattle.ppd_top_requests.specs.GivenWords.{Text, Uses, texts, value_of, was_used}
use Rattle.ppd_top_requests.specs.Tested.{are_good, only_good}

abbrev show_only : Option Asked → Option Asked
show_only None = None
show_only (Some r) = if is_some r.budget_is then None else Some r

ends_alike : (g : NumbersGiven) → all_shown g ≡ show_only (all_given g)
ends_alike g = go (is_some g.asks) g.source g.budget_is
  where
    go : (a : Bool) (s : Option (Bor Text)) (b : Option ℕ) → (if a || not (is_none b) then None else asked_for (record g { budget_is = b }) s) ≡ show_only (if a then None else asked_for (record g { budget_is = b }) s)
    go true s b = refl
    go false None None = refl
    go false None (Some n) = refl
    go false (Some w) None = refl
    go false (Some w) (Some n) = refl

abbrev asked_at : Option Uses → Option Text → Option Asked
asked_at None s = None
asked_at (Some u) s = named_of u s

module _ (allowed : Choice → ℕ → Bool) where
  shown : (ws : List (Bor Text)) (g : NumbersGiven) → shown_from allowed g ws ≡ show_only (numbers_from allowed g ws)
  shown [] g = ends_alike g
  shown (w ∷ ws) g = go (after_one allowed g w) (shown ws)
    where
      go : (o : Option NumbersGiven) → ((h : NumbersGiven) → shown_from allowed h ws ≡ show_only (numbers_from allowed h ws)) → and_more o (λ h. shown_from allowed h ws) ≡ show_only (and_more o (λ h. numbers_from allowed h ws))
      go None next = refl
      go (Some h) next = next h

  -- a good use of the budget has a number
  number_there : (u : Uses) → are_good (good allowed) u ≡ true → was_used (codes "budget") u ≡ true → is_some (option_and_then number_in (value_of (codes "budget") u)) ≡ true
  number_there [] e h = absurd (true≢false (sym h))
  number_there (y ∷ u) e h = go (bytes_eq y.0 (codes "budget")) refl h (number_there u (parts (good allowed y.0 y.1) (are_good (good allowed) u) e).1)
    where
      parts : (a b : Bool) → (a && b) ≡ true → (a ≡ true) × (b ≡ true)
      parts true b e = (refl, e)
      parts false b e = absurd (true≢false (sym e))

      number : (o : Option ℕ) → number_in y.1 ≡ o → good allowed (codes "budget") y.1 ≡ true → is_some o ≡ true
      number (Some n) is fine = refl
      number None is fine =
          absurd (true≢false (sym (sym (ap (λ (o : Option ℕ). allows o) is) ∙ fine)))
        where
          allows : Option ℕ → Bool
          allows None = false
          allows (Some n) = allowed budget n

      go : (b : Bool) → bytes_eq y.0 (codes "budget") ≡ b → (b || was_used (codes "budget") u) ≡ true → (was_used (codes "budget") u ≡ true → is_some (option_and_then number_in (value_of (codes "budget") u)) ≡ true)
          → is_some (option_and_then number_in (option_map (λ (z : Text × Text). z.1) (cond b (Some y) (find (λ z. bytes_eq z.0 (codes "budget")) u)))) ≡ true
      go false is h next = next h
      go true is h next = number (number_in y.1) refl (ap (λ (i : Text). good allowed i y.1) (sym (same-equal y.0 (codes "budget") is)) ∙ (parts (good allowed y.0 y.1) (are_good (good allowed) u) e).0)

  tested_late : (g : Option Uses) → show_only (asked_of (only_good (good allowed) g)) ≡ asked_of (only_good (good allowed) (without (codes "budget") g))
  tested_late None = refl
  tested_late (Some u) = ap show_only (at_left (are_good (good allowed) u)) ∙ go (are_good (good allowed) u) refl (was_used (codes "budget") u) refl (value_of (codes "source") u) ∙ sym (at_right (was_used (codes "budget") u))
    where
      at_left : (b : Bool) → asked_of (if b then Some u else None) ≡ asked_at (if b then Some u else None) (value_of (codes "source") u)
      at_left true = refl
      at_left false = refl

      at_right : (h : Bool) → asked_of (only_good (good allowed) (if h then None else Some u)) ≡ asked_at (only_good (good allowed) (if h then None else Some u)) (value_of (codes "source") u)
      at_right true = refl
      at_right false = at_left (are_good (good allowed) u)

      none_there : was_used (codes "budget") u ≡ false → option_and_then number_in (value_of (codes "budget") u) ≡ None
      none_there h = ap (option_and_then number_in) (value_none (codes "budget") u h)

      go : (a : Bool) → are_good (good allowed) u ≡ a → (h : Bool) → was_used (codes "budget") u ≡ h → (s : Option Text)
          → show_only (asked_at (if a then Some u else None) s) ≡ asked_at (only_good (good allowed) (if h then None else Some u)) s
      go false e true f s = refl
      go false e false f s = sym (ap (λ (b : Bool). asked_at (if b then Some u else None) s) e)
      go true e true f None = refl
      go true e true f (Some w) = ap (λ (b : Bool). if b then None else named_of u (Some w)) (number_there u e f)
      go true e false f None = sym (ap (λ (b : Bool). asked_at (if b then Some u else None) None) e)
      go true e false f (Some w) =
          ap (λ (o : Option ℕ). if is_some o then None else named_of u (Some w)) (none_there f) ∙ sym (ap (λ (b : Bool). asked_at (if b then Some u else None) (Some w)) e)

  other_name : (k : ℕ) (id : Text) → slice_get (codes "source" ∷ []) k ≡ Some id → bytes_eq id (codes "budget") ≡ false
  other_name zero id e =
      let same : codes "source" ≡ id = cc in
      ap (λ (x : Text). bytes_eq x (codes "budget")) (sym same)
  other_name (suc k) id e = cc

  -- what is read by hand for `show` is what the words give to two options, with the numbers tested at the end
  pub show_is_given : (ws : List (Bor Text)) → shown_from allowed no_numbers ws ≡ asked_of (only_good (good allowed) (clap_gives (codes "leaf" ∷ codes "loops" ∷ []) (codes "source" ∷ []) (texts ws)))
  show_is_given ws =
      shown ws no_numbers ∙ ap show_only (flow_is_given allowed ws) ∙ tested_late (clap_gives flow_longs (codes "source" ∷ []) (texts ws))
      ∙ ap (λ (g : Option Uses). asked_of (only_good (good allowed) g)) (sym (given_fewer (codes "budget") (codes "leaf" ∷ codes "loops" ∷ []) (codes "source" ∷ []) refl other_name (texts ws)))
