-- What the answers are of what is kept of a whole run, with races or without.
use Rattle.ppd_flow_past.specs.PastSetting.{past_setting}
use Rattle.ppd_race.specs.Races.{races_among, edges_of_logs}
use Rattle.std.specs.Prelude.{◌≡◌, ℕ, List, slice_get, Some, Result}
use Rattle.law_clean.specs.Answers.{answer_of}
use Rattle.ppd_ast.specs.Valid.{IsValid}
use Rattle.ppd_ast.specs.declared.plan.Policy.{Policy}
use Rattle.ppd_blocks.specs.Blocks.{plan_of}
use Rattle.ppd_clean.specs.declared.clean_error.CleanError.{CleanError}
use Rattle.ppd_clean.specs.declared.clean.Clean.{Clean}
use Rattle.ppd_clean.specs.Answers.{IsAnswer, IsCleanBy, IsOrdered}
use Rattle.ppd_flow.specs.Runs.{splits_in}
use Rattle.ppd_flow_past.specs.declared.past.Past.{Past}
use Rattle.ppd_model.specs.declared.graph.Race.{Race}
use Rattle.ppd_model.specs.Intervals.{Span, Split}
use Rattle.ppd_model.specs.Logs.{closed_logs}
use Rattle.ppd_model.specs.Schedule.{IsWhole}

-- what is kept of a whole schedule, with races or without, under the plan of a policy
pub record IsOfAnyRun (past : Past) (policy : Policy) (h : List ℕ) : Type 0 where
  pub plan_is : past.plan.now ≡ plan_of past.program.now policy
  pub logs_are : past.logs.now ≡ closed_logs (past_setting past) h
  pub whole : IsWhole (past_setting past) h

-- of item j of an interval that is there: the item with its edges, where it is clean; else why not; or want of memory
abbrev pub GivesClean : Past → (p k j : ℕ) → Result Clean CleanError → Type 0
GivesClean past p k j result =
    (policy : Policy) (h : List ℕ) (x : Split) (i : Span) → IsOfAnyRun past policy h
    → slice_get (splits_in past h) p ≡ Some x → slice_get x.spans k ≡ Some i
    → IsAnswer (answer_of (past_setting past) h p k j) result

-- whatever is answered by cut logs is so answered of a run
abbrev pub CleansAreOfRuns : Type 0
CleansAreOfRuns =
    (past : Past) (races : List Race) (p k j : ℕ) (result : Result Clean CleanError)
    → IsValid past.program.now → races ≡ races_among (edges_of_logs past.program.now past.logs.now)
    → (IsOrdered past → IsCleanBy past races p k j result) → GivesClean past p k j result
