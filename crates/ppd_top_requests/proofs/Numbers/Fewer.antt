-- A command with one option less gives what the other gives where that option was not used.
use Rattle.std.proofs.Common.{◌≡◌, ◌∙◌, ◌+◌, ◌&&◌, ◌||◌, ℕ, Bool, true, false, true≢false, refl, sym, ap, ap₂, subst, List, [], ◌∷◌, ◌++◌, Option, Some, None, inl, inr, option_and_then}
use Rattle.std.specs.Prelude.{◌⊎◌, ⊤, if◌then◌else◌, is_none, slice_get}
use Rattle.std.specs.List.{list_all}
use Rattle.std.specs.Str.{bytes_eq}
use Rattle.std.proofs.Math.Bool.{or-true}
use Rattle.clap.specs.Lexer.{long_of, short_of}
use Rattle.ppd_top_requests.proofs.Clap.Kinds.{clap_gives, clap_spelled, is_among, kind_by, option_kind}
use Rattle.ppd_top_requests.proofs.Clap.Lookups.{same-equal, same-refl}
use Rattle.ppd_top_requests.proofs.Uses.{has_push}
use Rattle.ppd_top_requests.specs.GivenWords.{Given, Kind, Text, Uses, after_word, ends, given_from, was_used, name, nothing_given, other, sets, waits, with_name, with_use, with_word}

abbrev pub without : Text → Option Uses → Option Uses
without l None = None
without l (Some u) = if was_used l u then None else Some u

module _ (l : Text) (longs ids : List Text) where
  abbrev IsDoomed : Given → Type 0
  IsDoomed g = (was_used l g.uses ≡ true) ⊎ (g.waiting ≡ Some l)

  StaysDoomed : Option Given → Type 0
  StaysDoomed o = (h : Given) → o ≡ Some h → IsDoomed h

  none_doomed : StaysDoomed None
  unfolding StaysDoomed
  none_doomed h e = cc

  some_doomed : (g : Given) → IsDoomed g → StaysDoomed (Some g)
  unfolding StaysDoomed
  some_doomed g d h e =
      let same : g ≡ h = cc in
      subst IsDoomed same d

  use_doomed : (id value : Text) (g : Given) → IsDoomed g → StaysDoomed (with_use id value g)
  use_doomed id value g d = go (was_used id g.uses)
    where
      after : IsDoomed g → IsDoomed (record g { uses = g.uses ++ (id, value) ∷ [] })
      after (inl e) = inl (has_push l g.uses (id, value) ∙ ap (λ (b : Bool). b || bytes_eq id l) e)
      after (inr e) = inr e

      go : (b : Bool) → StaysDoomed (if b then None else Some (record g { uses = g.uses ++ (id, value) ∷ [] }))
      go true = none_doomed
      go false = some_doomed (record g { uses = g.uses ++ (id, value) ∷ [] }) (after d)

  name_doomed : (w : Text) (g : Given) → IsDoomed g → StaysDoomed (with_name ids w g)
  name_doomed w g d = go (slice_get ids g.count)
    where
      go : (o : Option Text) → StaysDoomed (option_and_then (λ id. with_use id w (record g { count = g.count + 1 })) o)
      go None = none_doomed
      go (Some id) = use_doomed id w (record g { count = g.count + 1 }) d

  kind_doomed : (k : Kind) (w : Text) (g : Given) → was_used l g.uses ≡ true → StaysDoomed (with_word ids None k w g)
  kind_doomed ends w g e = some_doomed (record g { ended = true }) (inl e)
  kind_doomed (waits id) w g e = some_doomed (record g { waiting = Some id }) (inl e)
  kind_doomed (sets id value) w g e = use_doomed id value g (inl e)
  kind_doomed other w g e = none_doomed
  kind_doomed name w g e = name_doomed w g (inl e)

  value_doomed : (id : Text) (k : Kind) (w : Text) (g : Given) → g.waiting ≡ Some id → IsDoomed g → StaysDoomed (with_word ids (Some id) k w g)
  value_doomed id ends w g is d = none_doomed
  value_doomed id (waits x) w g is d = none_doomed
  value_doomed id (sets x v) w g is d = none_doomed
  value_doomed id other w g is d = none_doomed
  value_doomed id name w g is (inl e) = use_doomed id w (record g { waiting = None }) (inl e)
  value_doomed id name w g is (inr e) = go (was_used id g.uses)
    where
      go : (b : Bool) → StaysDoomed (if b then None else Some (record g { waiting = None; uses = g.uses ++ (id, w) ∷ [] }))
      go true = none_doomed
      go false =
          let same : id ≡ l = cc in
          some_doomed (record g { waiting = None; uses = g.uses ++ (id, w) ∷ [] })
          (inl (has_push l g.uses (id, w) ∙ ap (λ (x : Text). was_used l g.uses || bytes_eq x l) same ∙ ap (λ (b : Bool). was_used l g.uses || b) (same-refl l) ∙ or-true (was_used l g.uses)))

  after_doomed : (all : List Text) (w : Text) (g : Given) → IsDoomed g → StaysDoomed (after_word (clap_spelled all) ids g w)
  after_doomed all w g d = by_end g.ended
    where
      by_wait : (o : Option Text) → g.waiting ≡ o → IsDoomed g → StaysDoomed (with_word ids o (clap_spelled all w) w g)
      by_wait (Some id) is d = value_doomed id (clap_spelled all w) w g is d
      by_wait None is (inl e) = kind_doomed (clap_spelled all w) w g e
      by_wait None is (inr e) = cc

      by_end : (b : Bool) → StaysDoomed (if b then with_name ids w g else with_word ids g.waiting (clap_spelled all w) w g)
      by_end true = name_doomed w g d
      by_end false = by_wait g.waiting refl d

  doomed : (all : List Text) (ws : List Text) (g : Given) → IsDoomed g → without l (given_from (clap_spelled all) ids g ws) ≡ None
  unfolding StaysDoomed
  doomed all [] g (inr e) = ap (λ (o : Option Text). without l (if is_none o && list_all (λ id. was_used id g.uses) ids then Some g.uses else None)) e
  doomed all [] g (inl e) = go (is_none g.waiting && list_all (λ id. was_used id g.uses) ids)
    where
      go : (b : Bool) → without l (if b then Some g.uses else None) ≡ None
      go true = ap (λ (t : Bool). if t then None else Some g.uses) e
      go false = refl
  doomed all (w ∷ ws) g d = go (after_word (clap_spelled all) ids g w) (after_doomed all w g d) (doomed all ws)
    where
      go : (o : Option Given) → ((h : Given) → o ≡ Some h → IsDoomed h) → ((h : Given) → IsDoomed h → without l (given_from (clap_spelled all) ids h ws) ≡ None) → without l (option_and_then (λ h. given_from (clap_spelled all) ids h ws) o) ≡ None
      go None stays next = refl
      go (Some h) stays next = next h (stays h refl)

  -- ---- a command that does not know the option

  pub record Fine (g : Given) : Type 0 where
    pub unused : was_used l g.uses ≡ false
    pub elsewhere : (id : Text) → g.waiting ≡ Some id → bytes_eq id l ≡ false

  abbrev AreFine : Option Given → Type 0
  AreFine None = ⊤
  AreFine (Some h) = Fine h

  abbrev Steps : Option Given → Option Given → Type 0
  Steps o p = ((o ≡ p) × AreFine o) ⊎ ((o ≡ None) × StaysDoomed p)

  push_fine : (id value : Text) (u : Uses) → was_used l u ≡ false → bytes_eq id l ≡ false → was_used l (u ++ (id, value) ∷ []) ≡ false
  push_fine id value u e f = has_push l u (id, value) ∙ ap₂ (λ (a b : Bool). a || b) e f

  use_fine : (id value : Text) (g : Given) → Fine g → bytes_eq id l ≡ false → AreFine (with_use id value g)
  use_fine id value g fine f = go (was_used id g.uses)
    where
      go : (b : Bool) → AreFine (if b then None else Some (record g { uses = g.uses ++ (id, value) ∷ [] }))
      go true = tt
      go false = record { unused = push_fine id value g.uses fine.unused f; elsewhere = fine.elsewhere }

  module _ (lack : is_among longs l ≡ false) (other_names : (k : ℕ) (id : Text) → slice_get ids k ≡ Some id → bytes_eq id l ≡ false) where
    name_fine : (w : Text) (g : Given) → Fine g → AreFine (with_name ids w g)
    name_fine w g fine = go (slice_get ids g.count) refl
      where
        go : (o : Option Text) → slice_get ids g.count ≡ o → AreFine (option_and_then (λ id. with_use id w (record g { count = g.count + 1 })) o)
        go None e = tt
        go (Some id) e = use_fine id w (record g { count = g.count + 1 }) (record { unused = fine.unused; elsewhere = fine.elsewhere }) (other_names g.count id e)

    kind_steps : (w : Text) (g : Given) → Fine g → g.waiting ≡ None → (b : Bool) (o : Option (Text × Option Text)) (f : Option Text) → Steps (with_word ids None (kind_by longs b o f) w g) (with_word ids None (kind_by (l ∷ longs) b o f) w g)
    kind_steps w g fine is true o f = inl (refl, record { unused = fine.unused; elsewhere = fine.elsewhere })
    kind_steps w g fine is false None None = inl (refl, name_fine w g fine)
    kind_steps w g fine is false None (Some flags) = inl (refl, tt)
    kind_steps w g fine is false (Some p) f = go (bytes_eq l p.0) refl
      where
        known : (t : Bool) (v : Option Text) → bytes_eq p.0 l ≡ false → AreFine (with_word ids None (if t then option_kind p.0 v else other) w g)
        known false v e = tt
        known true None e = record { unused = fine.unused; elsewhere = λ id h. (let same : p.0 ≡ id = cc in ap (λ (x : Text). bytes_eq x l) (sym same) ∙ e) }
        known true (Some v) e = use_fine p.0 v g fine e

        new : (v : Option Text) → p.0 ≡ l → StaysDoomed (with_word ids None (option_kind p.0 v) w g)
        new None same = some_doomed (record g { waiting = Some p.0 }) (inr (ap Some same))
        new (Some v) same = by (was_used p.0 g.uses)
          where
            by : (b : Bool) → StaysDoomed (if b then None else Some (record g { uses = g.uses ++ (p.0, v) ∷ [] }))
            by true = none_doomed
            by false = some_doomed (record g { uses = g.uses ++ (p.0, v) ∷ [] })
                (inl (has_push l g.uses (p.0, v) ∙ ap (λ (x : Text). was_used l g.uses || bytes_eq x l) same ∙ ap (λ (b : Bool). was_used l g.uses || b) (same-refl l) ∙ or-true (was_used l g.uses)))

        go : (t : Bool) → bytes_eq l p.0 ≡ t → Steps (with_word ids None (if is_among longs p.0 then option_kind p.0 p.1 else other) w g) (with_word ids None (if t || is_among longs p.0 then option_kind p.0 p.1 else other) w g)
        go true e =
            let same : l ≡ p.0 = same-equal l p.0 e in
            inr (ap (λ (b : Bool). with_word ids None (if b then option_kind p.0 p.1 else other) w g) (ap (is_among longs) (sym same) ∙ lack), new p.1 (sym same))
        go false e = inl (refl, known (is_among longs p.0) p.1 (swapped e))
          where
            swapped : bytes_eq l p.0 ≡ false → bytes_eq p.0 l ≡ false
            swapped e = by (bytes_eq p.0 l) refl
              where
                by : (t : Bool) → bytes_eq p.0 l ≡ t → t ≡ false
                by false h = refl
                by true h =
                    let same : p.0 ≡ l = same-equal p.0 l h in
                    absurd (true≢false (sym (same-refl l) ∙ ap (bytes_eq l) (sym same) ∙ e))

    value_steps : (id w : Text) (g : Given) → Fine g → g.waiting ≡ Some id → (b : Bool) (o : Option (Text × Option Text)) (f : Option Text) → Steps (with_word ids (Some id) (kind_by longs b o f) w g) (with_word ids (Some id) (kind_by (l ∷ longs) b o f) w g)
    value_steps id w g fine is true o f = inl (refl, tt)
    value_steps id w g fine is false None None = inl (refl, use_fine id w (record g { waiting = None }) (record { unused = fine.unused; elsewhere = λ x h. cc }) (fine.elsewhere id is))
    value_steps id w g fine is false None (Some flags) = inl (refl, tt)
    value_steps id w g fine is false (Some p) f = inl (none (is_among longs p.0) p.1 ∙ sym (none (is_among (l ∷ longs) p.0) p.1), subst AreFine (sym (none (is_among longs p.0) p.1)) tt)
      where
        none : (t : Bool) (v : Option Text) → with_word ids (Some id) (if t then option_kind p.0 v else other) w g ≡ None
        none false v = refl
        none true None = refl
        none true (Some v) = refl

    after_steps : (w : Text) (g : Given) → Fine g → Steps (after_word (clap_spelled longs) ids g w) (after_word (clap_spelled (l ∷ longs)) ids g w)
    after_steps w g fine = by_end g.ended
      where
        by_wait : (o : Option Text) → g.waiting ≡ o → Steps (with_word ids o (clap_spelled longs w) w g) (with_word ids o (clap_spelled (l ∷ longs) w) w g)
        by_wait None is = kind_steps w g fine is (bytes_eq w (45 ∷ 45 ∷ [])) (long_of w) (short_of w)
        by_wait (Some id) is = value_steps id w g fine is (bytes_eq w (45 ∷ 45 ∷ [])) (long_of w) (short_of w)

        by_end : (b : Bool) → Steps (if b then with_name ids w g else with_word ids g.waiting (clap_spelled longs w) w g) (if b then with_name ids w g else with_word ids g.waiting (clap_spelled (l ∷ longs) w) w g)
        by_end true = inl (refl, name_fine w g fine)
        by_end false = by_wait g.waiting refl

    pub fewer : (ws : List Text) (g : Given) → Fine g → given_from (clap_spelled longs) ids g ws ≡ without l (given_from (clap_spelled (l ∷ longs)) ids g ws)
    unfolding StaysDoomed
    fewer [] g fine = go (is_none g.waiting && list_all (λ id. was_used id g.uses) ids)
      where
        go : (b : Bool) → (if b then Some g.uses else None) ≡ without l (if b then Some g.uses else None)
        go true = sym (ap (λ (t : Bool). if t then None else Some g.uses) fine.unused)
        go false = refl
    fewer (w ∷ ws) g fine = go (after_word (clap_spelled longs) ids g w) (after_word (clap_spelled (l ∷ longs)) ids g w) (after_steps w g fine) (fewer ws)
      where
        both : (o : Option Given) → AreFine o → ((h : Given) → Fine h → given_from (clap_spelled longs) ids h ws ≡ without l (given_from (clap_spelled (l ∷ longs)) ids h ws)) → option_and_then (λ h. given_from (clap_spelled longs) ids h ws) o ≡ without l (option_and_then (λ h. given_from (clap_spelled (l ∷ longs)) ids h ws) o)
        both None f next = refl
        both (Some h) f next = next h f

        lost : (p : Option Given) → ((h : Given) → p ≡ Some h → IsDoomed h) → None ≡ without l (option_and_then (λ h. given_from (clap_spelled (l ∷ longs)) ids h ws) p)
        lost None stays = refl
        lost (Some h) stays = sym (doomed (l ∷ longs) ws h (stays h refl))

        go : (o p : Option Given) → ((o ≡ p) × AreFine o) ⊎ ((o ≡ None) × ((h : Given) → p ≡ Some h → IsDoomed h)) → ((h : Given) → Fine h → given_from (clap_spelled longs) ids h ws ≡ without l (given_from (clap_spelled (l ∷ longs)) ids h ws))
            → option_and_then (λ h. given_from (clap_spelled longs) ids h ws) o ≡ without l (option_and_then (λ h. given_from (clap_spelled (l ∷ longs)) ids h ws) p)
        go o p (inl s) next = both o s.1 next ∙ ap (λ (x : Option Given). without l (option_and_then (λ h. given_from (clap_spelled (l ∷ longs)) ids h ws) x)) s.0
        go o p (inr s) next = ap (λ (x : Option Given). option_and_then (λ h. given_from (clap_spelled longs) ids h ws) x) s.0 ∙ lost p s.1

    pub given_fewer : (ws : List Text) → clap_gives longs ids ws ≡ without l (clap_gives (l ∷ longs) ids ws)
    given_fewer ws = fewer ws nothing_given (record { unused = refl; elsewhere = λ id e. cc })
