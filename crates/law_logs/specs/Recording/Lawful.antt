-- The logs of a whole run are lawful for its recording.
use Rattle.std.specs.Prelude.{ℕ, ◌≤◌, List}
use Rattle.ppd_ast.specs.ValidPlan.{IsValidPolicy}
use Rattle.ppd_ast.specs.declared.limits.TheConstants.{MOST_BUDGET}
use Rattle.ppd_ast.specs.declared.program.Program.{Program}
use Rattle.ppd_check.specs.Read.{IsRead}
use Rattle.ppd_codec.specs.Recordings.{AreLawful}
use Rattle.ppd_codec.specs.declared.recording.Header.{Header}
use Rattle.law_steps.specs.Policies.{setting_by}
use Rattle.ppd_model.specs.Logs.{closed_logs}
use Rattle.ppd_model.specs.Schedule.{IsWhole}

-- what a source may be run with
pub record IsWithinRange (header : Header) : Type 0 where
  pub policy : IsValidPolicy header.policy
  pub least : 1 ≤ header.budget
  pub most : header.budget ≤ MOST_BUDGET

-- the source, the header and the logs of each whole schedule of the source's program, with the plan of the
-- policy, have a recording
abbrev pub RunLogsAreLawful : Type 0
RunLogsAreLawful =
    (source : List ℕ) (program : Program) (header : Header) (h : List ℕ) → IsRead source program → IsWithinRange header
    → IsWhole (setting_by program header.policy header.budget) h
    → AreLawful source header (closed_logs (setting_by program header.policy header.budget) h)
