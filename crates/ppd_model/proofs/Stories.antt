-- A story with one more step, and the world of which it is told.
use Rattle.ppd_model.specs.Setting.{Setting}
use Rattle.std.proofs.Common.{◌≡◌, ℕ, zero, suc, List, [], ◌∷◌, ◌++◌, Some, None, Bool, true, false, refl, ap, ◌∙◌, cond, map}
use Rattle.std.proofs.lemmas.List.Sums.{fold-append}
use Rattle.std.proofs.lemmas.Option.{none-some}
use Rattle.std.specs.Prelude.{fold}
use Rattle.std.proofs.lemmas.List.{map-append}
use Rattle.ppd_ast.specs.declared.plan.Plan.{Plan}
use Rattle.ppd_ast.specs.declared.program.Program.{Program}
use Rattle.ppd_model.specs.World.{World, change, enabled, step}
use Rattle.ppd_model.specs.Schedule.{run_from, started_world}
use Rattle.ppd_model.specs.Story.{Moment, Telling, begun, moment_of, steps_of, tell, told}
use Rattle.ppd_model.specs.Laws.{StoriesAreOfRuns, StoriesGrow}
use Rattle.ppd_model.proofs.Changes.{some}

-- the steps of the processes, where process p has one more moment
pub steps-change : (m : Moment) (p : ℕ) (moments : List (List Moment)) → map steps_of (change (λ ms. ms ++ m ∷ []) p moments) ≡ change (λ xs. xs ++ m.taken ∷ []) p (map steps_of moments)
steps-change m p [] = refl
steps-change m zero (ms ∷ rest) = ap (λ xs. xs ∷ map steps_of rest) (map-append (λ x. x.taken) ms (m ∷ []))
steps-change m (suc p) (ms ∷ rest) = ap (λ xs. steps_of ms ∷ xs) (steps-change m p rest)

pub told-append : (setting : Setting) (h : List ℕ) (p : ℕ) → told setting (h ++ p ∷ []) ≡ tell setting.program setting.plan (told setting h) p
told-append setting h p = fold-append (tell setting.program setting.plan) (begun (started_world setting)) h (p ∷ [])

pub stories_grow : StoriesGrow
stories_grow setting h p = record {
  told_is = told-append setting h p;
  steps_are = ap (λ t. map steps_of t.moments) (told-append setting h p)
      ∙ steps-change (moment_of setting.program setting.plan (told setting h) p) p (told setting h).moments;
  cells_are = ap (λ t. t.world.shared) (told-append setting h p);
  writers_are = ap (λ t. t.writers) (told-append setting h p);
}

taken : (program : Program) (plan : Plan) (t : Telling) (p : ℕ) (h : List ℕ) (w : World) (b : Bool) → cond b (run_from program plan (step program plan t.world p) h) None ≡ Some w → run_from program plan (step program plan t.world p) h ≡ Some w
taken program plan t p h w true e = e
taken program plan t p h w false e = absurd (none-some w e)

run_told : (program : Program) (plan : Plan) (t : Telling) (h : List ℕ) (w : World) → run_from program plan t.world h ≡ Some w → (fold (tell program plan) t h).world ≡ w
run_told program plan t [] w e = some e
run_told program plan t (p ∷ h) w e = run_told program plan (tell program plan t p) h w (taken program plan t p h w (enabled program plan t.world p) e)

pub stories_are_of_runs : StoriesAreOfRuns
stories_are_of_runs setting h w e = run_told setting.program setting.plan (begun (started_world setting)) h w e

pub steps_append : (xs ys : List Moment) → steps_of (xs ++ ys) ≡ steps_of xs ++ steps_of ys
steps_append [] ys = refl
steps_append (x ∷ xs) ys = ap (λ zs. x.taken ∷ zs) (steps_append xs ys)
