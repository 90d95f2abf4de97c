-- What a controlled re-execution of the logs of a run answers.
use Rattle.ppd_model.specs.Setting.{Setting}
use Rattle.ppd_rerun_guide.specs.Guided.{guided}
use Rattle.ppd_model.specs.RecordedSets.{record_in}
use Rattle.std.specs.Prelude.{◌≡◌, ℕ, List, [], Result, IfOk}
use Rattle.ppd_ast.specs.declared.lists.Memory.{Memory}
use Rattle.ppd_ast.specs.declared.plan.Policy.{Policy}
use Rattle.ppd_blocks.specs.Blocks.{plan_of}
use Rattle.ppd_model.specs.declared.entry.Logs.{Logs}
use Rattle.ppd_model.specs.Logs.{closed_logs}
use Rattle.ppd_model.specs.Races.{races}
use Rattle.ppd_model.specs.Schedule.{IsWhole}
use Rattle.ppd_rerun_guide.specs.declared.verdict.Verdict.{Verdict}
use Rattle.ppd_rerun_guide.specs.declared.verdict.Verdict.TheVariants as verdict

-- of the logs of a whole schedule without a race, under the plan of a policy, the answer is the yes
abbrev pub SaysYes : Setting → Logs → Result Verdict Memory → Type 0
SaysYes setting logs result =
    (policy : Policy) (h : List ℕ) → setting.plan ≡ plan_of setting.program policy → IsWhole setting h
    → races setting h ≡ [] → logs ≡ closed_logs setting h
    → IfOk result (λ v. v ≡ verdict.Yes (guided setting (record_in logs)))
