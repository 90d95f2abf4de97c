-- What is told of a schedule with one step more: the moments of each process, its record and its state.
use Rattle.ppd_model.specs.Setting.{Setting}
use Rattle.ppd_model.specs.Synchronizations.{sync_of}
use Rattle.std.proofs.Common.{◌≡◌, ℕ, zero, suc, ◌<◌, ◌≤◌, List, [], ◌∷◌, ◌++◌, length, map, get_or, refl, ap, sym, ◌∙◌, arith}
use Rattle.std.proofs.lemmas.List.{length-map}
use Rattle.std.specs.Prelude.{fold, filter_map}
use Rattle.ppd_model.specs.Record.{sync_record}
use Rattle.ppd_model.specs.Schedule.{started_world}
use Rattle.ppd_model.specs.Story.{Moment, Telling, begun, moment_of, steps_of, story, tell, told}
use Rattle.ppd_model.proofs.Changes.{length-change, own-at, own-else}
use Rattle.ppd_model.proofs.Stories.{told-append}
use Rattle.ppd_model.proofs.Lists.{change_past, get_or_map}

-- ---- lists

pub none_own : {A : Type 0} (xs : List A) (p : ℕ) → ◌≡◌ {A = List Moment} (get_or (map (λ _. []) xs) p []) []
none_own [] p = refl
none_own (x ∷ xs) zero = refl
none_own (x ∷ xs) (suc p) = none_own xs p

-- ---- one step more

module _ (setting : Setting) where
  one_each : (t : Telling) (h : List ℕ) → length t.moments ≡ length t.world.procs → length (fold (tell setting.program setting.plan) t h).moments ≡ length (fold (tell setting.program setting.plan) t h).world.procs
  one_each t [] e = e
  one_each t (p ∷ h) e = one_each (tell setting.program setting.plan t p) h (length-change _ p t.moments ∙ e ∙ sym (length-change _ p t.world.procs))

  -- each process has its list of moments
  pub moments_length : (h : List ℕ) → length (told setting h).moments ≡ length (told setting h).world.procs
  moments_length h = one_each (begun (started_world setting)) h (length-map (started_world setting).procs (λ _. []))

  pub own_syncs_are : (h : List ℕ) (q : ℕ) → get_or (sync_record setting h) q [] ≡ filter_map sync_of (steps_of (get_or (told setting h).moments q []))
  own_syncs_are h q =
      get_or_map (filter_map sync_of) (map steps_of (told setting h).moments) q refl
      ∙ ap (filter_map sync_of) (get_or_map steps_of (told setting h).moments q refl)

  pub own_steps_are : (h : List ℕ) (q : ℕ) → get_or (story setting h).steps q [] ≡ steps_of (get_or (told setting h).moments q [])
  own_steps_are h q = get_or_map steps_of (told setting h).moments q refl

  -- the process itself steps
  pub own_more : (h : List ℕ) (p : ℕ) → p < length (told setting h).world.procs
      → get_or (told setting (h ++ p ∷ [])).moments p [] ≡ get_or (told setting h).moments p [] ++ moment_of setting.program setting.plan (told setting h) p ∷ []
  own_more h p lt =
      ap (λ t. get_or t.moments p []) (told-append setting h p)
      ∙ own-at (λ ms. ms ++ moment_of setting.program setting.plan (told setting h) p ∷ []) p [] (told setting h).moments (omega (arith, lt, moments_length h))

  -- another one steps
  pub own_same : (h : List ℕ) (r p : ℕ) → (r ≡ p → ⊥) → get_or (told setting (h ++ r ∷ [])).moments p [] ≡ get_or (told setting h).moments p []
  own_same h r p other =
      ap (λ t. get_or t.moments p []) (told-append setting h r)
      ∙ own-else (λ ms. ms ++ moment_of setting.program setting.plan (told setting h) r ∷ []) r p [] (told setting h).moments (λ e. other (sym e))

  -- a number of no process steps
  pub own_past : (h : List ℕ) (r : ℕ) → length (told setting h).world.procs ≤ r → get_or (told setting (h ++ r ∷ [])).moments r [] ≡ get_or (told setting h).moments r []
  own_past h r past =
      ap (λ t. get_or t.moments r []) (told-append setting h r)
      ∙ ap (λ ms. get_or ms r []) (change_past (λ ms. ms ++ moment_of setting.program setting.plan (told setting h) r ∷ []) r (told setting h).moments (omega (arith, past, moments_length h)))
