-- A schedule that is handed in, taken from the start of a program.
use Rattle.law_steps.specs.Policies.{setting_by}
use Rattle.ppd_model.specs.Setting.{Setting}
use Rattle.ppd_blocks.specs.Blocks.{plan_of}
use Rattle.std.specs.Prelude.{Option, Some, None, IsSomeAnd, slice_get}
use Rattle.std.proofs.Common.{◌≡◌, ℕ, List, [], take, true, false, Err, refl, sym, ◌∙◌, ap, subst}
use Rattle.ppd_ast.specs.declared.program.Program.{Program}
use Rattle.ppd_model.specs.declared.trace.DriveError.{DriveError}
use Rattle.ppd_model.specs.declared.trace.DriveError.TheVariants as drive
use Rattle.ppd_model.specs.World.{enabled}
use Rattle.ppd_world.specs.Running.{Running, IsOf, IsDriven, Takes, begun, can_step}
use Rattle.ppd_top_requests.specs.declared.options.Options.{Options}
use Rattle.ppd_top_following.specs.declared.following.FollowError.{FollowError}
use Rattle.ppd_top_following.specs.Following.{StopsAt, drive_error}
use Rattle.ppd_top_following.specs.Following.{IsStuckAt, IsUnfinished}
use Rattle.ppd_top_following.proofs.Comes.{runs_as}

at_some : (o : Option ℕ) (P : ℕ → Type 0) → IsSomeAnd o P → (p : ℕ) × (o ≡ Some p) × P p
at_some None P h = absurd h
at_some (Some p) P h = (p, refl, h)

module _ (program : Program) (options : Options) (w v : Running) (first : w ≡ begun (setting_by program options.policy options.budget)) (none : IsOf [] w) (h : List ℕ) (t : Takes w h v) where
  pub same_setting : v.setting ≡ setting_by program options.policy options.budget
  same_setting = t.setting ∙ ap (λ (x : Running). x.setting) first

  pub comes_to : IsOf h v
  comes_to = t.comes [] none

  step_as : (p : ℕ) (b : _) → can_step v p ≡ b → enabled program (plan_of program options.policy) v.world p ≡ b
  step_as p b e = subst (λ (x : Setting). enabled x.program x.plan v.world p ≡ b) same_setting e

  pub stuck_at : (schedule : List ℕ) (n : ℕ) → h ≡ take n schedule → IsSomeAnd (slice_get schedule n) (λ p. can_step v p ≡ false) → IsStuckAt program options schedule n
  stuck_at schedule n is e =
      let at = at_some (slice_get schedule n) (λ p. can_step v p ≡ false) e in
      record {
        world = v.world;
        runs = runs_as program options v same_setting (take n schedule) (subst (λ g. IsOf g v) is comes_to).runs;
        process = at.0;
        next = at.1;
        stuck = step_as at.0 false at.2;
      }

  pub unfinished : (p : ℕ) → can_step v p ≡ true → IsUnfinished program options h
  unfinished p e = record {
    world = v.world;
    runs = runs_as program options v same_setting h comes_to.runs;
    process = p;
    next = step_as p true e;
  }

pub fails_at : (program : Program) (options : Options) (w v : Running) (schedule : List ℕ) (d : DriveError) (e : FollowError) → w ≡ begun (setting_by program options.policy options.budget) → IsOf [] w → IsDriven w schedule v (Err d) → e ≡ drive_error d → StopsAt program options schedule e
fails_at program options w v schedule (drive.NotEnabled n) e first none driven is =
    subst (StopsAt program options schedule) (sym is) (stuck_at program options w v first none (take n schedule) driven.0 schedule n refl driven.1)
fails_at program options w v schedule drive.Memory e first none driven is = subst (StopsAt program options schedule) (sym is) tt
