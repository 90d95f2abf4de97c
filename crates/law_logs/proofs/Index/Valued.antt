-- Each unit that starts in a schedule has as many values as the plan has cells for it.
use Rattle.ppd_model.specs.Setting.{setting_of}
use Rattle.std.specs.Option.{option_map_or}
use Rattle.std.proofs.Common.{◌≡◌, ℕ, zero, suc, List, [], ◌∷◌, ◌++◌, length, map, get_or, Some, ap, ◌∙◌, pos}
use Rattle.std.proofs.lemmas.List.{length-map}
use Rattle.std.specs.Prelude.{fold, slice_get, ⊤}
use Rattle.ppd_ast.specs.declared.plan.Plan.{Plan}
use Rattle.ppd_ast.specs.declared.program.Program.{Program}
use Rattle.ppd_sem.specs.declared.proc.Proc.{Proc}
use Rattle.ppd_model.specs.Laws.{begins}
use Rattle.ppd_model.specs.Schedule.{started_world}
use Rattle.ppd_model.specs.Story.{Moment, Telling, moment_of, tell, told, unit_started}
use Rattle.ppd_model.proofs.WorldWords.{values_at_start}
use Rattle.ppd_model.specs.World.{change, step}

-- a unit that the step starts has a value for each of its cells
abbrev pub IsValued : Plan → Moment → Type 0
IsValued plan m = (u : ℕ) → unit_started m.taken.need ≡ Some u → length m.unit_values ≡ length (option_map_or (λ u. u.cells) (slice_get plan.units u) [])

abbrev pub AreValued : Plan → List Moment → Type 0
AreValued plan [] = ⊤
AreValued plan (m ∷ ms) = IsValued plan m × AreValued plan ms

abbrev AllValued : Plan → List (List Moment) → Type 0
AllValued plan [] = ⊤
AllValued plan (ms ∷ rest) = AreValued plan ms × AllValued plan rest

module _ (program : Program) (plan : Plan) where
  next_valued : (t : Telling) (p : ℕ) → IsValued plan (moment_of program plan t p)
  next_valued t p u e =
      ap (λ o. length (values_at_start plan (step program plan t.world p).shared o)) e
      ∙ length-map (option_map_or (λ u. u.cells) (slice_get plan.units u) []) (λ c. get_or (step program plan t.world p).shared c (pos 0))

  valued-append : (ms : List Moment) (m : Moment) → AreValued plan ms → IsValued plan m → AreValued plan (ms ++ m ∷ [])
  valued-append [] m all one = (one, tt)
  valued-append (x ∷ xs) m all one = (all.0, valued-append xs m all.1 one)

  valued-change : (m : Moment) (p : ℕ) (moments : List (List Moment)) → AllValued plan moments → IsValued plan m → AllValued plan (change (λ ms. ms ++ m ∷ []) p moments)
  valued-change m p [] all one = tt
  valued-change m zero (ms ∷ rest) all one = (valued-append ms m all.0 one, all.1)
  valued-change m (suc p) (ms ∷ rest) all one = (all.0, valued-change m p rest all.1 one)

  valued_fold : (t : Telling) (h : List ℕ) → AllValued plan t.moments → AllValued plan (fold (tell program plan) t h).moments
  valued_fold t [] all = all
  valued_fold t (p ∷ h) all = valued_fold (tell program plan t p) h (valued-change (moment_of program plan t p) p t.moments all (next_valued t p))

  none_valued : (procs : List Proc) → AllValued plan (map (λ _. []) procs)
  none_valued [] = tt
  none_valued (s ∷ ss) = (tt, none_valued ss)

  valued_at : (moments : List (List Moment)) (p : ℕ) → AllValued plan moments → AreValued plan (get_or moments p [])
  valued_at [] p all = tt
  valued_at (ms ∷ rest) zero all = all.0
  valued_at (ms ∷ rest) (suc p) all = valued_at rest p all.1

  pub all_valued : (budget : ℕ) (h : List ℕ) (p : ℕ) → AreValued plan (get_or (told (setting_of program plan budget) h).moments p [])
  all_valued budget h p = valued_at (told (setting_of program plan budget) h).moments p (valued_fold (begins (setting_of program plan budget)) h (none_valued (started_world (setting_of program plan budget)).procs))
