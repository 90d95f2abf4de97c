-- The laws of guided schedules and of verdicts.
use Rattle.law_steps.specs.Policies.{setting_by}
use Rattle.ppd_model.specs.Setting.{Setting}
use Rattle.ppd_model.specs.RecordedSets.{record_in}
use Rattle.std.specs.Prelude.{◌≡◌, ℕ, true, false, List, [], fold}
use Rattle.ppd_ast.specs.Valid.{IsValid}
use Rattle.ppd_ast.specs.declared.plan.Policy.{Policy}
use Rattle.ppd_ast.specs.declared.program.Program.{Program}
use Rattle.ppd_model.specs.declared.entry.Logs.{Logs}
use Rattle.ppd_model.specs.Agreement.{Agree}
use Rattle.ppd_model.specs.Logs.{closed_logs}
use Rattle.ppd_model.specs.Races.{races}
use Rattle.ppd_model.specs.Record.{sync_record}
use Rattle.ppd_model.specs.Schedule.{IsWhole, run}
use Rattle.ppd_model.specs.Story.{story}
use Rattle.ppd_model.specs.Synchronizations.{Sync}
use Rattle.std.specs.Prelude.{Some}
use Rattle.ppd_rerun_guide.specs.declared.verdict.Verdict.{Verdict}
use Rattle.ppd_rerun_guide.specs.declared.verdict.Verdict.TheVariants as verdict
use Rattle.ppd_rerun_guide.specs.Guided.{Guiding, guide, guided, guiding, may_step}
use Rattle.ppd_rerun_guide.specs.Verdicts.{IsVerdict}

-- what the guided schedule of a record comes to
abbrev pub guided_end : Setting → List (List Sync) → Guiding
guided_end setting syncs =
    fold (guide setting.program setting.plan) (guiding setting syncs) (guided setting syncs)

-- the guided schedule can be taken, and it ends only where nobody may step
pub record EndsGuided (setting : Setting) (syncs : List (List Sync)) : Type 0 where
  pub runs : run setting (guided setting syncs)
      ≡ Some (guided_end setting syncs).world
  pub stops : (p : ℕ) → may_step setting.program setting.plan (guided_end setting syncs) p ≡ false

-- so it is with each record
abbrev pub GuidedSchedulesEnd : Type 0
GuidedSchedulesEnd =
    (setting : Setting) (syncs : List (List Sync)) → EndsGuided setting syncs

-- the guided schedule of this schedule's record agrees with it and has its story
pub record IsGuidedAlike (setting : Setting) (h : List ℕ) : Type 0 where
  pub agree : Agree setting h (guided setting (sync_record setting h))
  pub story_is : story setting (guided setting (sync_record setting h))
      ≡ story setting h

-- so it is with each whole schedule without a race
abbrev pub GuidedSchedulesAgree : Type 0
GuidedSchedulesAgree =
    (setting : Setting) (h : List ℕ) → IsWhole setting h
    → races setting h ≡ [] → IsGuidedAlike setting h

-- two verdicts on logs are one
abbrev pub VerdictsAreOne : Type 0
VerdictsAreOne =
    (setting : Setting) (logs : Logs) (a b : Verdict)
    → IsVerdict setting logs a → IsVerdict setting logs b → a ≡ b

-- on the logs of a whole schedule without a race it is yes
abbrev pub RerunsSayYes : Type 0
RerunsSayYes =
    (program : Program) (policy : Policy) (budget : ℕ) (h : List ℕ) → IsValid program
    → IsWhole (setting_by program policy budget) h → races (setting_by program policy budget) h ≡ []
    → IsVerdict (setting_by program policy budget) (closed_logs (setting_by program policy budget) h)
    (verdict.Yes (guided (setting_by program policy budget)
    (record_in (closed_logs (setting_by program policy budget) h))))
