-- The guided schedule of the record of a whole schedule without a race is whole and has its story.
use Rattle.ppd_model.specs.Setting.{Setting}
use Rattle.std.specs.Prelude.{get_or}
use Rattle.std.proofs.Common.{◌≡◌, ℕ, List, [], Some, Bool, true, false, refl, ap, sym, subst, ◌∙◌, arith, length, take_all}
use Rattle.ppd_model.specs.declared.tracing.Story.{Story}
use Rattle.ppd_model.specs.Agreement.{Agree}
use Rattle.ppd_model.specs.Laws.{begins}
use Rattle.ppd_model.specs.Prefixes.{Good, told_to}
use Rattle.ppd_model.specs.Races.{races}
use Rattle.ppd_model.specs.Record.{record_of, sync_record}
use Rattle.ppd_model.specs.Schedule as sched
use Rattle.ppd_model.specs.Story.{Telling, next_event, story, told}
use Rattle.ppd_model.specs.Synchronizations as s
use Rattle.ppd_model.specs.World.{World, enabled, need}
use Rattle.ppd_model.proofs.Prefixes.{good_to}
use Rattle.ppd_model.proofs.Stories.{stories_are_of_runs}
use Rattle.law_steps.proofs.Machine.Model.{Enabled, IsFinal, Run, Want}
use Rattle.law_steps.proofs.Instance.Wants.{Line, Tagged, machine, view}
use Rattle.law_steps.proofs.Instance.Given.{enabled_there}
use Rattle.law_steps.proofs.Schedules.Records.{sheet}
use Rattle.law_steps.proofs.Schedules.Steps.{run_of, want_is}
use Rattle.law_steps.proofs.Agreeing.{final, fresh, recorded, run_ordered, story_by}
use Rattle.ppd_rerun_guide.specs.Guided.{guided}
use Rattle.ppd_rerun_guide.specs.Laws.{EndsGuided, GuidedSchedulesAgree, IsGuidedAlike, guided_end}
use Rattle.ppd_rerun_guide.proofs.Ending.{ends_guided}
use Rattle.ppd_rerun_guide.proofs.Following.{Comes, comes}
use Rattle.ppd_rerun_guide.proofs.Lines.{monotone, once}
use Rattle.ppd_rerun_guide.proofs.Taking.{guided_run}

module _ (setting : Setting) where
  module _ (h : List ℕ) (last : World) (e : sched.run_from setting.program setting.plan (sched.started_world setting) h ≡ Some last) where
    abbrev t : Telling
    t = told_to setting h (length h)

    world_is : t.world ≡ last
    world_is = ap (λ (xs : List ℕ). (told setting xs).world) (take_all (length h) h (omega arith)) ∙ stories_are_of_runs setting h last e

    good_last : Good setting t
    good_last = good_to setting h (length h)

    nobody_by : IsFinal (run_of setting h last e) → (p : ℕ) (b : Bool) → enabled setting.program setting.plan last p ≡ b → enabled setting.program setting.plan last p ≡ false
    unfolding run_of
    nobody_by done p false is = is
    nobody_by done p true is =
        absurd (done p
        (subst (λ (w : Want Line Tagged). Enabled (machine setting) (view t) w) (sym (want_is setting t p good_last))
        (enabled_there setting t good_last.sizes (next_event t p) (need setting.program setting.plan t.world p)
        (ap (λ (w : World). enabled setting.program setting.plan w p) world_is ∙ is))))

    -- where a schedule's run is final, nobody is enabled after it
    over_by : IsFinal (run_of setting h last e) → sched.IsOver setting.program setting.plan last
    over_by done = record { nobody = λ p. nobody_by done p (enabled setting.program setting.plan last p) refl }

  module _ (h : List ℕ) (w : sched.IsWhole setting h) (none : races setting h ≡ []) where
    abbrev syncs : List (List s.Sync)
    syncs = sync_record setting h

    abbrev g : List ℕ
    g = guided setting syncs

    abbrev last_world : World
    last_world = (guided_end setting syncs).world

    ends : EndsGuided setting syncs
    ends = ends_guided setting.program setting.plan setting.budget syncs

    come : Comes (run_of setting h w.last w.runs) (run_of setting g last_world ends.runs)
    come =
        comes (run_of setting h w.last w.runs) (sheet (λ q. get_or syncs q []))
        (recorded setting h w syncs refl)
        (run_ordered setting h w none)
        (final setting h w)
        (run_of setting g last_world ends.runs)
        (guided_run setting syncs ends.runs)
        (fresh setting)
        (once setting h)
        (monotone setting)

    one_story : story setting g ≡ story setting h
    one_story = sym (story_by setting h g w.last last_world w.runs ends.runs come.agrees)

    pub alike : IsGuidedAlike setting h
    alike = record {
      agree = record {
        first = w;
        second = record { last = last_world; runs = ends.runs; over = over_by g last_world ends.runs come.final };
        records = ap record_of (sym one_story);
      };
      story_is = one_story;
    }

pub schedules_agree : GuidedSchedulesAgree
schedules_agree setting h w none = alike setting h w none
