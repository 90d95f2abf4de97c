-- That the logs of a run tell what the run does, and that a run is answered.
use Rattle.law_steps.specs.Policies.{setting_by}
use Rattle.ppd_model.specs.Setting.{Setting}
use Rattle.std.specs.Prelude.{◌≡◌, ℕ, List, None}
use Rattle.ppd_ast.specs.declared.plan.Policy.{Policy}
use Rattle.ppd_ast.specs.declared.program.Program.{Program}
use Rattle.ppd_ast.specs.Valid.{IsValid}
use Rattle.ppd_model.specs.Logs.{closed_logs}
use Rattle.ppd_model.specs.Schedule.{IsWhole}
use Rattle.ppd_session.specs.Known.{known_of_logs, known_of_run}
use Rattle.ppd_session.specs.Texts.{failure_of}

-- what is known of the logs of a whole run, under the plan of a policy, is what is known of the run
abbrev pub LogsTellRuns : Type 0
LogsTellRuns =
    (program : Program) (policy : Policy) (budget : ℕ) (h : List ℕ)
    → IsValid program → IsWhole (setting_by program policy budget) h
    → known_of_logs (setting_by program policy budget)
    (closed_logs (setting_by program policy budget) h)
    ≡ known_of_run (setting_by program policy budget) h

-- of a run no line is left without an answer
abbrev pub RunsAreAnswered : Type 0
RunsAreAnswered =
    (setting : Setting) (h line : List ℕ)
    → failure_of (known_of_run setting h) line ≡ None
