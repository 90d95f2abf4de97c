-- A schedule of a program is a run of the machine.
use Rattle.ppd_model.specs.Setting.{Setting}
use Rattle.std.proofs.Common.{◌≡◌, ℕ, zero, suc, ◌+◌, List, [], ◌∷◌, ◌++◌, Some, None, true, cond, refl, ap, ap₂, sym, subst, ◌∙◌, arith, length, map, get_or, inl, inr}
use Rattle.std.specs.Prelude.{count_by, fold, option_map, slice_get}
use Rattle.std.proofs.lemmas.Bool.{cases_lt}
use Rattle.std.proofs.lemmas.Option.{none-some}
use Rattle.ppd_sem.specs.declared.proc.Need.{Need}
use Rattle.ppd_sem.specs.declared.proc.Need.TheVariants as n
use Rattle.ppd_sem.specs.declared.proc.Proc.{Proc}
use Rattle.ppd_sem.specs.Described.{is_event}
use Rattle.ppd_model.specs.declared.trace.EventId.{EventId}
use Rattle.ppd_model.specs.declared.tracing.Taken.{Taken}
use Rattle.ppd_model.specs.Laws.{begins}
use Rattle.ppd_model.specs.Numbers.{count_of}
use Rattle.ppd_model.specs.Schedule.{run_from, started_world}
use Rattle.ppd_model.specs.States.{state_of, states_from}
use Rattle.ppd_model.specs.Story.{Moment, Telling, moment_of, next_event, steps_of, tell}
use Rattle.ppd_model.proofs.WorldWords.{count_events, need_at, taken_of}
use Rattle.ppd_model.specs.World.{World, enabled, need}
use Rattle.ppd_model.specs.Prefixes.{Good, told_to}
use Rattle.ppd_model.proofs.Changes.{change-at, change-else, some}
use Rattle.ppd_model.proofs.Prefixes.{enabled_at, goes_at, good_to}
use Rattle.ppd_model.proofs.Stories.{steps-change}
use Rattle.law_steps.proofs.Machine.Model.{Want, Enabled, IsStep, Run, Writes, answer_for, number_for, wants_of}
use Rattle.law_steps.proofs.Instance.Wants.{History, Line, Tagged, event_after, grown, machine, made, need_after, sorted, view, want_after}
use Rattle.law_steps.proofs.Instance.Lawful.{lawful}
use Rattle.law_steps.proofs.Instance.Given.{enabled_there, taken_is}
use Rattle.law_steps.proofs.Instance.Effects.{cell_kept, cell_new, count_new, counted, pay_kept, pay_new}

-- ---- who is there

-- the events of the steps, with and without the values of units
count_steps : (ms : List Moment) → count_by (λ (x : Taken). is_event x.need) (steps_of ms) ≡ count_by (λ (m : Moment). is_event m.taken.need) ms
count_steps ms = go 0 ms
  where
    go : (a : ℕ) (ms : List Moment) → fold (λ (k : ℕ) (x : Taken). k + cond (is_event x.need) 1 0) a (steps_of ms) ≡ fold (λ (k : ℕ) (m : Moment). k + cond (is_event m.taken.need) 1 0) a ms
    go a [] = refl
    go a (m ∷ ms) = go (a + cond (is_event m.taken.need) 1 0) ms

events_of : (moments : List (List Moment)) (p : ℕ) (xs : List Taken) → slice_get (map steps_of moments) p ≡ Some xs → count_by (λ (x : Taken). is_event x.need) xs ≡ count_events (get_or moments p [])
events_of [] p xs is = absurd (none-some xs is)
events_of (ms ∷ rest) zero xs is = ap (λ (ys : List Taken). count_by (λ (x : Taken). is_event x.need) ys) (sym (some is)) ∙ count_steps ms
events_of (ms ∷ rest) (suc p) xs is = events_of rest p xs is

module _ (setting : Setting) where
  state_at : (q p : ℕ) (steps : List (List Taken)) → slice_get (states_from setting q steps) p ≡ option_map (λ (xs : List Taken). state_of setting (q + p) xs) (slice_get steps p)
  state_at q p [] = refl
  state_at q zero (xs ∷ rest) = let e : q ≡ q + zero = omega arith in ap (λ (r : ℕ). Some (state_of setting r xs)) e
  state_at q (suc p) (xs ∷ rest) =
      let e : (q + 1) + p ≡ q + suc p = omega arith in
      state_at (q + 1) p rest ∙ ap (λ (r : ℕ). option_map (λ (ys : List Taken). state_of setting r ys) (slice_get rest p)) e

  -- what a process needs, by its own steps
  abbrev pub need_by : History → ℕ → Need
  need_by None p = n.Stopped
  need_by (Some xs) p = need_after setting p xs

  need_is : (t : Telling) (p : ℕ) → Good setting t → need setting.program setting.plan t.world p ≡ need_by (slice_get (map steps_of t.moments) p) p
  need_is t p g =
      let e : 0 + p ≡ p = omega arith in
      ap (λ (ps : List Proc). need_at setting.program setting.plan (slice_get ps p)) g.procs
      ∙ ap (need_at setting.program setting.plan) (state_at 0 p (map steps_of t.moments))
      ∙ ap (λ (r : ℕ). need_at setting.program setting.plan (option_map (λ (xs : List Taken). state_of setting r xs) (slice_get (map steps_of t.moments) p))) e
      ∙ of_one (slice_get (map steps_of t.moments) p)
    where
      of_one : (h : History) → need_at setting.program setting.plan (option_map (λ (xs : List Taken). state_of setting p xs) h) ≡ need_by h p
      of_one None = refl
      of_one (Some xs) = refl

  -- ---- a step

  event_is : (t : Telling) (p : ℕ) (xs : List Taken) → slice_get (map steps_of t.moments) p ≡ Some xs → event_after p xs ≡ next_event t p
  event_is t p xs is = ap (λ (k : ℕ). record { process = p; number = k }) (events_of t.moments p xs is)

  pub want_is : (t : Telling) (p : ℕ) → Good setting t → wants_of (machine setting) (view t) p ≡ sorted setting.program (next_event t p) (need setting.program setting.plan t.world p)
  want_is t p g = of_one (slice_get (map steps_of t.moments) p) refl ∙ ap (sorted setting.program (next_event t p)) (sym (need_is t p g))
    where
      of_one : (h : History) → slice_get (map steps_of t.moments) p ≡ h → want_after setting p h ≡ sorted setting.program (next_event t p) (need_by h p)
      of_one None is = refl
      of_one (Some xs) is = ap (λ (e : EventId). sorted setting.program e (need_after setting p xs)) (event_is t p xs is)

  pub is_step : (t : Telling) (p : ℕ) → Good setting t → enabled setting.program setting.plan t.world p ≡ true → IsStep (machine setting) (view t) p (view (tell setting.program setting.plan t p))
  is_step t p g can_step =
      let e : EventId = next_event t p in
      let now : Need = need setting.program setting.plan t.world p in
      let m : Moment = moment_of setting.program setting.plan t p in
      let w : Want Line Tagged = wants_of (machine setting) (view t) p in
      let is : w ≡ sorted setting.program e now = want_is t p g in
      record {
        hist_own =
            ap (λ (xs : List (List Taken)). slice_get xs p) (steps-change m p t.moments)
            ∙ change-at (λ (xs : List Taken). xs ++ m.taken ∷ []) p (map steps_of t.moments)
            ∙ own_hist t p g can_step (slice_get (map steps_of t.moments) p) refl;
        hist_other = λ q d.
            ap (λ (xs : List (List Taken)). slice_get xs q) (steps-change m p t.moments)
            ∙ change-else (λ (xs : List Taken). xs ++ m.taken ∷ []) p q (map steps_of t.moments) d;
        cell_new = λ x v f. cell_new setting.program t g.sizes e p refl now x v (sym is ∙ f);
        cell_kept = λ x free. cell_kept setting.program t g.sizes e p now x (λ h. free (subst (λ (a : Want Line Tagged). Writes x a) (sym is) h));
        count_new = λ l v f. count_new setting.program t g.sizes e now can_step l v (sym is ∙ f);
        count_kept = λ l. elim (counted setting.program t g.sizes e now l.0 l.1) [ inl same ↦ omega (arith, same) | inr up ↦ omega (arith, up.2) ];
        count_old = λ l k low. elim (counted setting.program t g.sizes e now l.0 l.1) [
          | inl same ↦ inl (omega (arith, same, low))
          | inr up ↦ elim (cases_lt k (suc (count_of t.world l.0 l.1))) [
            | inl old ↦ inl (omega (arith, old))
            | inr new ↦ inr (up.0, is ∙ up.1, omega (arith, up.2, new, low))
          ]
        ];
        pay_new = λ l v f. pay_new setting.program t g.sizes e now can_step l v (sym is ∙ f);
        pay_kept = λ l k low. pay_kept setting.program t g.sizes e now l.0 l.1 k low;
      }
    where
      own_hist : (t : Telling) (p : ℕ) → Good setting t → enabled setting.program setting.plan t.world p ≡ true → (h : History) → slice_get (map steps_of t.moments) p ≡ h
          → option_map (λ (xs : List Taken). xs ++ taken_of t (need setting.program setting.plan t.world p) ∷ []) h
          ≡ grown setting p h (answer_for (machine setting) (view t) (wants_of (machine setting) (view t) p)) (number_for (view t) (wants_of (machine setting) (view t) p))
      own_hist t p g can_step None is = refl
      own_hist t p g can_step (Some xs) is =
          let now : Need = need setting.program setting.plan t.world p in
          let needs : now ≡ need_after setting p xs = need_is t p g ∙ ap (λ (h : History). need_by h p) is in
          ap (λ (x : Taken). Some (xs ++ x ∷ []))
          (taken_is setting t g.sizes (next_event t p) now can_step
          ∙ ap₂ (λ (x : Need) (w : Want Line Tagged). made setting.program x (answer_for (machine setting) (view t) w) (number_for (view t) w)) needs (sym (want_is t p g)))

  -- ---- a schedule

  unfoldable pub run_of : (h : List ℕ) (last : World) → run_from setting.program setting.plan (started_world setting) h ≡ Some last → Run (machine setting) (view (begins setting))
  run_of h last runs = record {
    laws = lawful setting.program setting.plan setting.budget;
    ends = length h;
    who = λ i. get_or h i 0;
    at = λ i. view (told_to setting h i);
    starts = record { hist = λ q. refl; cells = λ x. refl; count = λ l. refl; pay = λ l k. refl };
    enabled = λ i lt.
        let p : ℕ = get_or h i 0 in
        let t : Telling = told_to setting h i in
        subst (λ (w : Want Line Tagged). Enabled (machine setting) (view t) w) (sym (want_is t p (good_to setting h i)))
        (enabled_there setting t (good_to setting h i).sizes (next_event t p) (need setting.program setting.plan t.world p) (enabled_at setting (begins setting) h i last runs lt));
    goes = λ i lt.
        let p : ℕ = get_or h i 0 in
        let t : Telling = told_to setting h i in
        subst (λ (a : Telling). IsStep (machine setting) (view t) p (view a)) (sym (goes_at setting (begins setting) h i lt))
        (is_step t p (good_to setting h i) (enabled_at setting (begins setting) h i last runs lt));
  }
