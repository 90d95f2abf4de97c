-- What replays of the logs of a run without a race give: what happened in each interval.
use Rattle.law_steps.specs.Policies.{setting_by}
use Rattle.ppd_model.specs.Setting.{Setting}
use Rattle.std.specs.Prelude.{◌≡◌, ℕ, List, [], get_or, slice_get, Some, None}
use Rattle.ppd_ast.specs.declared.plan.Policy.{Policy}
use Rattle.ppd_ast.specs.declared.program.Program.{Program}
use Rattle.ppd_ast.specs.Valid.{IsValid}
use Rattle.ppd_model.specs.declared.entry.Entry.{Entry}
use Rattle.ppd_model.specs.Intervals.{Split, splits}
use Rattle.ppd_model.specs.Logs.{closed_logs}
use Rattle.ppd_model.specs.Races.{races}
use Rattle.ppd_model.specs.Schedule.{IsWhole}
use Rattle.ppd_model.specs.Story.{story}
use Rattle.ppd_flow_past.specs.SeenBy.{failed_at, own_steps_of, seen_by}
use Rattle.ppd_graph.specs.Seen.{seen_of}
use Rattle.ppd_graph.specs.Spans.{steps_of_span}

-- replays of these entries give the process in its intervals
pub record IsSeen (setting : Setting) (entries : List Entry) (x : Split) : Type 0 where
  pub seen : seen_by setting entries ≡ seen_of x
  pub never_fails : (k : ℕ) → failed_at setting entries k ≡ None
  pub steps : (k : ℕ) → own_steps_of setting entries k ≡ steps_of_span (slice_get x.spans k)

-- so it is with each process of a whole schedule without a race, under the plan of a policy
abbrev pub ReplaysAreSeen : Type 0
ReplaysAreSeen =
    (program : Program) (policy : Policy) (budget : ℕ) (h : List ℕ) (p : ℕ) (x : Split)
    → IsValid program → IsWhole (setting_by program policy budget) h
    → races (setting_by program policy budget) h ≡ []
    → slice_get (splits (setting_by program policy budget) (story (setting_by program policy budget) h)) p ≡ Some x
    → IsSeen (setting_by program policy budget)
    (get_or (closed_logs (setting_by program policy budget) h).lists p []) x
