-- The guided schedule can be taken, and where it ends nobody may step.
use Rattle.ppd_model.specs.Setting.{setting_of}
use Rattle.std.specs.Option.{option_map_or}
use Rattle.std.specs.List.{range_with_len}
use Rattle.std.proofs.Common.{◌≡◌, ℕ, zero, suc, ◌+◌, ◌*◌, ◌<◌, ◌≤◌, ◌-◌, ◌&&◌, List, [], ◌∷◌, Option, Some, None, Bool, true, false, cond, refl, ap, sym, subst, ◌∙◌, arith, length, get_or, take, inl, inr}
use Rattle.std.specs.Prelude.{fold, slice_get, find}
use Rattle.std.proofs.lemmas.Bool.{and_parts, cases_eq, cases_lt, cond-true}
use Rattle.std.proofs.lemmas.Option.{none-some}
use Rattle.ppd_ast.specs.declared.plan.Plan.{Plan}
use Rattle.ppd_ast.specs.declared.program.Program.{Program}
use Rattle.ppd_sem.specs.declared.proc.Proc.{Proc}
use Rattle.ppd_model.specs.Bounds.{steps_left}
use Rattle.ppd_model.specs.Schedule.{run_from}
use Rattle.ppd_model.proofs.WorldWords.{need_at, started_procs}
use Rattle.ppd_model.specs.Synchronizations.{Sync}
use Rattle.ppd_model.specs.World.{World, answer, can, enabled, need, step}
use Rattle.ppd_model.proofs.Bounded.{ArePaid, all_falls, paid_change, started_all, started_paid}
use Rattle.ppd_model.proofs.Changes.{some}
use Rattle.ppd_rerun_guide.specs.Guided.{Guiding, chosen, guide, guided_from, guiding, is_let, may_step, sync_of_next}
use Rattle.ppd_rerun_guide.specs.Laws.{EndsGuided, GuidedSchedulesEnd, guided_end}
use Rattle.ppd_rerun_guide.proofs.MostSteps.{most_steps}

-- ---- the first

found_from : (test : ℕ → Bool) (p n q : ℕ) → find test (range_with_len p n) ≡ Some q → test q ≡ true
found_from test p zero q e = absurd (none-some q e)
found_from test p (suc n) q e = by (test p) refl e (found_from test (p + 1) n q)
  where
    by : (b : Bool) → test p ≡ b → cond b (Some p) (find test (range_with_len (p + 1) n)) ≡ Some q → (find test (range_with_len (p + 1) n) ≡ Some q → test q ≡ true) → test q ≡ true
    by true is e rest = sym (ap test (some e)) ∙ is
    by false is e rest = rest e

none_from : (test : ℕ → Bool) (p n : ℕ) → find test (range_with_len p n) ≡ None → (i : ℕ) → p ≤ i → i < p + n → test i ≡ false
none_from test p zero e i lo hi = absurd (omega (arith, lo, hi))
none_from test p (suc n) e i lo hi = by (test p) refl e (none_from test (p + 1) n)
  where
    by : (b : Bool) → test p ≡ b → cond b (Some p) (find test (range_with_len (p + 1) n)) ≡ None
        → (find test (range_with_len (p + 1) n) ≡ None → (j : ℕ) → p + 1 ≤ j → j < p + 1 + n → test j ≡ false) → test i ≡ false
    by true is e rest = absurd (none-some p (sym e))
    by false is e rest = elim (cases_eq i p) [
      | inl same ↦ ap test same ∙ is
      | inr d ↦ rest e i (omega (arith, lo, d)) (omega (arith, hi))
    ]

pub past : {A : Type 0} (xs : List A) (p : ℕ) → length xs ≤ p → slice_get xs p ≡ None
past [] p h = refl
past (x ∷ xs) zero h = absurd (omega (arith, h))
past (x ∷ xs) (suc p) h = past xs p (omega (arith, h))

pub fold_at : {A B : Type 0} (f : A → B → A) (x : A) (h : List B) (d : B) (i : ℕ) → i < length h → fold f x (take (suc i) h) ≡ f (fold f x (take i h)) (get_or h i d)
fold_at f x [] d i lt = absurd (omega (arith, lt))
fold_at f x (p ∷ h) d zero lt = refl
fold_at f x (p ∷ h) d (suc i) lt = fold_at f (f x p) h d i (omega (arith, lt))

module _ (program : Program) (plan : Plan) where
  chosen_may : (g : Guiding) (p : ℕ) → chosen program plan g ≡ Some p → may_step program plan g p ≡ true
  chosen_may g p e = found_from (may_step program plan g) 0 (length g.world.procs) p e

  pub chosen_can : (g : Guiding) (p : ℕ) → chosen program plan g ≡ Some p → enabled program plan g.world p ≡ true
  chosen_can g p e = (and_parts (enabled program plan g.world p) (is_let (sync_of_next program plan g.world p) (slice_get (get_or g.left p []) 0)) (chosen_may g p e)).0

  pub chosen_let : (g : Guiding) (p : ℕ) → chosen program plan g ≡ Some p → is_let (sync_of_next program plan g.world p) (slice_get (get_or g.left p []) 0) ≡ true
  chosen_let g p e = (and_parts (enabled program plan g.world p) (is_let (sync_of_next program plan g.world p) (slice_get (get_or g.left p []) 0)) (chosen_may g p e)).1

  nobody_may : (g : Guiding) → chosen program plan g ≡ None → (p : ℕ) → may_step program plan g p ≡ false
  nobody_may g e p = elim (cases_lt p (length g.world.procs)) [
    | inl lt ↦ none_from (may_step program plan g) 0 (length g.world.procs) e p (omega arith) (omega (arith, lt))
    | inr ge ↦ ap (λ (o : Option Proc). can g.world (need_at program plan o) && is_let (sync_of_next program plan g.world p) (slice_get (get_or g.left p []) 0)) (past g.world.procs p ge)
  ]

  -- ---- the schedule

  runs_from : (n : ℕ) (g : Guiding) → run_from program plan g.world (guided_from program plan n g) ≡ Some (fold (guide program plan) g (guided_from program plan n g)).world
  runs_from zero g = refl
  runs_from (suc n) g = by (chosen program plan g) refl (λ p. runs_from n (guide program plan g p))
    where
      by : (o : Option ℕ) → chosen program plan g ≡ o
          → ((p : ℕ) → run_from program plan (step program plan g.world p) (guided_from program plan n (guide program plan g p)) ≡ Some (fold (guide program plan) (guide program plan g p) (guided_from program plan n (guide program plan g p))).world)
          → run_from program plan g.world (option_map_or (λ p. p ∷ guided_from program plan n (guide program plan g p)) o []) ≡ Some (fold (guide program plan) g (option_map_or (λ p. p ∷ guided_from program plan n (guide program plan g p)) o [])).world
      by None is rest = refl
      by (Some p) is rest =
          cond-true (enabled program plan g.world p) (run_from program plan (step program plan g.world p) (guided_from program plan n (guide program plan g p))) None (chosen_can g p is)
          ∙ rest p

  -- each number is that of the one who is chosen then
  pub chosen_at : (n : ℕ) (g : Guiding) (i : ℕ) → i < length (guided_from program plan n g) → chosen program plan (fold (guide program plan) g (take i (guided_from program plan n g))) ≡ Some (get_or (guided_from program plan n g) i 0)
  chosen_at zero g i lt = absurd (omega (arith, lt))
  chosen_at (suc n) g i lt = by (chosen program plan g) refl (λ p j l. chosen_at n (guide program plan g p) j l) i lt
    where
      by : (o : Option ℕ) → chosen program plan g ≡ o
          → ((p j : ℕ) → j < length (guided_from program plan n (guide program plan g p)) → chosen program plan (fold (guide program plan) (guide program plan g p) (take j (guided_from program plan n (guide program plan g p)))) ≡ Some (get_or (guided_from program plan n (guide program plan g p)) j 0))
          → (i : ℕ) → i < length (option_map_or (λ p. p ∷ guided_from program plan n (guide program plan g p)) o []) → chosen program plan (fold (guide program plan) g (take i (option_map_or (λ p. p ∷ guided_from program plan n (guide program plan g p)) o []))) ≡ Some (get_or (option_map_or (λ p. p ∷ guided_from program plan n (guide program plan g p)) o []) i 0)
      by None is rest i lt = absurd (omega (arith, lt))
      by (Some p) is rest zero lt = is
      by (Some p) is rest (suc i) lt = rest p i (omega (arith, lt))

  chosen_end : (n : ℕ) (g : Guiding) → ArePaid g.world.procs → steps_left g.world.procs ≤ n → chosen program plan (fold (guide program plan) g (guided_from program plan n g)) ≡ None
  chosen_end zero g paid few = by (chosen program plan g) refl
    where
      by : (o : Option ℕ) → chosen program plan g ≡ o → chosen program plan g ≡ None
      by None is = is
      by (Some p) is = absurd (omega (arith, few, all_falls program plan g.world (answer g.world (need program plan g.world p)) p g.world.procs paid (chosen_can g p is)))
  chosen_end (suc n) g paid few = by (chosen program plan g) refl (λ p. chosen_end n (guide program plan g p))
    where
      by : (o : Option ℕ) → chosen program plan g ≡ o
          → ((p : ℕ) → ArePaid (guide program plan g p).world.procs → steps_left (guide program plan g p).world.procs ≤ n → chosen program plan (fold (guide program plan) (guide program plan g p) (guided_from program plan n (guide program plan g p))) ≡ None)
          → chosen program plan (fold (guide program plan) g (option_map_or (λ p. p ∷ guided_from program plan n (guide program plan g p)) o [])) ≡ None
      by None is rest = is
      by (Some p) is rest =
          rest p (paid_change program plan (answer g.world (need program plan g.world p)) p g.world.procs paid)
          (omega (arith, few, all_falls program plan g.world (answer g.world (need program plan g.world p)) p g.world.procs paid (chosen_can g p is)))

  pub ends_guided : (budget : ℕ) (syncs : List (List Sync)) → EndsGuided (setting_of program plan budget) syncs
  ends_guided budget syncs =
      let n : ℕ = length program.bodies - program.functions in
      let all : steps_left (started_procs (setting_of program plan budget) n) ≡ n * (budget + 1) = started_all (setting_of program plan budget) 0 n in
      let few : steps_left (started_procs (setting_of program plan budget) n) ≤ most_steps program budget = subst (λ (m : ℕ). steps_left (started_procs (setting_of program plan budget) n) ≤ m) all (omega arith) in
      record {
        runs = runs_from (most_steps program budget) (guiding (setting_of program plan budget) syncs);
        stops = nobody_may (guided_end (setting_of program plan budget) syncs) (chosen_end (most_steps program budget) (guiding (setting_of program plan budget) syncs) (started_paid (setting_of program plan budget) 0 n) few);
      }

pub schedules_end : GuidedSchedulesEnd
schedules_end setting syncs = ends_guided setting.program setting.plan setting.budget syncs
