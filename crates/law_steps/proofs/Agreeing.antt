-- Schedules that agree with one that has no race have one story.
use Rattle.ppd_model.specs.Setting.{Setting}
use Rattle.std.proofs.Common.{◌≡◌, ℕ, zero, suc, pos, List, [], ◌∷◌, Some, None, true, refl, ap, sym, subst, ◌∙◌, arith, length, map, take_all, true≢false}
use Rattle.std.specs.Prelude.{slice_get, get_or}
use Rattle.std.proofs.lemmas.List.{ext_get_or}
use Rattle.std.proofs.lemmas.Option.{none-some}
use Rattle.ppd_model.specs.declared.tracing.Story.{Story}
use Rattle.ppd_model.specs.Agreement.{Agree}
use Rattle.ppd_model.specs.Laws.{begins}
use Rattle.ppd_model.specs.Prefixes.{Good, told_to}
use Rattle.ppd_model.specs.Races.{races, races_among, edges_of_story}
use Rattle.ppd_model.specs.Record.{record_of, sync_record}
use Rattle.ppd_model.specs.Schedule as sched
use Rattle.ppd_model.specs.Schedule.{run_from, started_world}
use Rattle.ppd_model.specs.Story.{Telling, next_event, steps_of, story, told}
use Rattle.ppd_model.specs.Synchronizations as s
use Rattle.ppd_model.specs.World.{World, enabled, need}
use Rattle.ppd_model.proofs.Changes.{some}
use Rattle.ppd_model.proofs.OneHistory.{one_history}
use Rattle.ppd_model.proofs.Prefixes.{good_to}
use Rattle.ppd_model.proofs.Stories.{stories_are_of_runs}
use Rattle.law_steps.specs.Agreeing.{AgreeingSchedulesHaveNoRace, AgreeingSchedulesHaveOneHistory, AgreeingSchedulesHaveOneStory}
use Rattle.law_steps.proofs.Machine.Model.{Want, Enabled, HasRecord, IsFinal, IsOrdered}
use Rattle.law_steps.proofs.Machine.Meeting.{Agrees, agree}
use Rattle.law_steps.proofs.Instance.Wants.{Line, Tagged, machine, sorted, synced_in, view}
use Rattle.law_steps.proofs.Instance.Given.{enabled_back}
use Rattle.law_steps.proofs.Schedules.Steps.{run_of, want_is}
use Rattle.law_steps.proofs.Schedules.Records.{has_record, sheet}
use Rattle.law_steps.proofs.Schedules.Orders.{ordered, syncs_at}

-- lists with the same elements
ext_slice : {A : Type 0} (xs ys : List A) → ((i : ℕ) → slice_get xs i ≡ slice_get ys i) → xs ≡ ys
ext_slice [] [] same = refl
ext_slice [] (y ∷ ys) same = absurd (none-some y (same 0))
ext_slice (x ∷ xs) [] same = absurd (none-some x (sym (same 0)))
ext_slice (x ∷ xs) (y ∷ ys) same = (λ i. some (same 0) i ∷ ext_slice xs ys (λ k. same (suc k)) i)

nothing_yet : {A : Type 0} (xs : List A) (q : ℕ) → synced_in (slice_get (map steps_of (map (λ _. []) xs)) q) ≡ 0
nothing_yet [] q = refl
nothing_yet (x ∷ xs) zero = refl
nothing_yet (x ∷ xs) (suc q) = nothing_yet xs q

module _ (setting : Setting) where
  pub fresh : (q : ℕ) → synced_in ((view (begins setting)).hist q) ≡ 0
  fresh q = nothing_yet (begins setting).world.procs q

  -- at the end all steps are told
  ended : List ℕ → Telling
  ended h = told_to setting h (length h)

  ended_is : (h : List ℕ) → ended h ≡ told setting h
  unfolding ended
  ended_is h = ap (λ (xs : List ℕ). told setting xs) (take_all (length h) h (omega arith))

  pub final : (h : List ℕ) (w : sched.IsWhole setting h) → IsFinal (run_of setting h w.last w.runs)
  unfolding run_of ended
  final h w p free =
      let t : Telling = told_to setting h (length h) in
      let good : Good setting t = good_to setting h (length h) in
      let free2 : Enabled (machine setting) (view t) (sorted setting.program (next_event t p) (need setting.program setting.plan t.world p)) =
      subst (λ (a : Want Line Tagged). Enabled (machine setting) (view t) a) (want_is setting t p good) free in
      let can_step : enabled setting.program setting.plan t.world p ≡ true = enabled_back setting t good.sizes (next_event t p) (need setting.program setting.plan t.world p) free2 in
      let last_is : t.world ≡ w.last = ap (λ (a : Telling). a.world) (ended_is h) ∙ stories_are_of_runs setting h w.last w.runs in
      true≢false (sym can_step ∙ ap (λ (a : World). enabled setting.program setting.plan a p) last_is ∙ w.over.nobody p)

  -- the run has the record of its schedule
  pub recorded : (h : List ℕ) (w : sched.IsWhole setting h) (syncs : List (List s.Sync)) → sync_record setting h ≡ syncs → HasRecord (run_of setting h w.last w.runs) (sheet (λ q. get_or syncs q []))
  unfolding run_of ended
  recorded h w syncs e =
      has_record setting (run_of setting h w.last w.runs) (λ q. get_or syncs q [])
      (λ p. sym (syncs_at (map steps_of (ended h).moments) p)
      ∙ ap (λ (t : Telling). get_or (record_of (record { steps = map steps_of t.moments; cells = t.world.shared; writers = t.writers })) p []) (ended_is h)
      ∙ ap (λ (ss : List (List s.Sync)). get_or ss p []) e)

  pub run_ordered : (h : List ℕ) (w : sched.IsWhole setting h) → races setting h ≡ [] → IsOrdered (run_of setting h w.last w.runs)
  unfolding run_of ended
  run_ordered h w none =
      ordered setting (run_of setting h w.last w.runs) fresh (story setting h)
      (λ p. ap (λ (t : Telling). slice_get (map steps_of t.moments) p) (sym (ended_is h)))
      (ap (λ (t : Telling). length t.world.shared) (sym (ended_is h)) ∙ (good_to setting h (length h)).sizes.cells)
      none

  runs_agree : (h h' : List ℕ) (a : Agree setting h h') → races setting h ≡ [] → Agrees (run_of setting h a.first.last a.first.runs) (run_of setting h' a.second.last a.second.runs)
  runs_agree h h' a none =
      agree (run_of setting h a.first.last a.first.runs) (sheet (λ q. get_or (sync_record setting h) q []))
      (recorded h a.first (sync_record setting h) refl)
      (run_ordered h a.first none)
      (run_of setting h' a.second.last a.second.runs)
      (recorded h' a.second (sync_record setting h) (sym a.records))
      (final h a.first) (final h' a.second)

  -- runs that come to the same have one story
  pub story_by : (h h' : List ℕ) (w w' : World) (e : run_from setting.program setting.plan (started_world setting) h ≡ Some w) (e' : run_from setting.program setting.plan (started_world setting) h' ≡ Some w') → Agrees (run_of setting h w e) (run_of setting h' w' e') → story setting h ≡ story setting h'
  unfolding run_of ended
  story_by h h' w w' e e' g =
      let t : Telling = ended h in
      let t' : Telling = ended h' in
      let good : Good setting t = good_to setting h (length h) in
      let good' : Good setting t' = good_to setting h' (length h') in
      let steps : map steps_of t.moments ≡ map steps_of t'.moments = ext_slice (map steps_of t.moments) (map steps_of t'.moments) (λ p. sym (g.hist p)) in
      let cells : t.world.shared ≡ t'.world.shared = ext_get_or (pos 0) t.world.shared t'.world.shared (good.sizes.cells ∙ sym good'.sizes.cells) (λ x lt. ap (λ (v : Tagged). v.0) (sym (g.cells x))) in
      let writers : t.writers ≡ t'.writers = ext_get_or None t.writers t'.writers (good.sizes.writers ∙ sym good'.sizes.writers) (λ x lt. ap (λ (v : Tagged). v.1) (sym (g.cells x))) in
      ap (λ (x : Telling). record { steps = map steps_of x.moments; cells = x.world.shared; writers = x.writers }) (sym (ended_is h))
      ∙ (λ i. record { steps = steps i; cells = cells i; writers = writers i })
      ∙ ap (λ (x : Telling). record { steps = map steps_of x.moments; cells = x.world.shared; writers = x.writers }) (ended_is h')

  pub one_story : (h h' : List ℕ) → Agree setting h h' → races setting h ≡ [] → story setting h ≡ story setting h'
  one_story h h' a none = story_by h h' a.first.last a.second.last a.first.runs a.second.runs (runs_agree h h' a none)

pub agreeing_stories : AgreeingSchedulesHaveOneStory
agreeing_stories setting h h' a none = one_story setting h h' a none

pub agreeing_histories : AgreeingSchedulesHaveOneHistory
agreeing_histories setting h h' a none = one_history setting h h' (one_story setting h h' a none)

pub agreeing_races : AgreeingSchedulesHaveNoRace
agreeing_races setting h h' a none = ap (λ (s : Story). races_among (edges_of_story setting.program s)) (sym (one_story setting h h' a none)) ∙ none
