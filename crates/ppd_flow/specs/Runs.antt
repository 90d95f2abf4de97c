-- What the answers are of what is kept of a whole run without a race.
use Rattle.ppd_flow_past.specs.PastSetting.{past_setting}
use Rattle.std.specs.Prelude.{◌≡◌, ℕ, ◌+◌, ◌*◌, ◌<◌, ◌≤◌, ℤ, List, [], length, slice_get, Some, Result, Ok, ok_or}
use Rattle.ppd_ast.specs.declared.plan.Policy.{Policy}
use Rattle.ppd_ast.specs.Valid.{IsValid}
use Rattle.ppd_blocks.specs.Blocks.{plan_of}
use Rattle.ppd_model.specs.declared.flow.FlowEdge.{FlowEdge}
use Rattle.ppd_model.specs.declared.flow.Origin.{Origin}
use Rattle.ppd_model.specs.FlowbackEdges.{edges, last}
use Rattle.ppd_model.specs.Intervals.{Split, splits}
use Rattle.ppd_model.specs.Logs.{closed_logs}
use Rattle.ppd_model.specs.NearIntervals.{last_steps, near_steps}
use Rattle.ppd_model.specs.Races.{races}
use Rattle.ppd_model.specs.Schedule.{IsWhole}
use Rattle.ppd_model.specs.declared.tracing.Story.{Story}
use Rattle.ppd_model.specs.Story.{story}
use Rattle.ppd_model.specs.declared.flow_error.FlowError.{FlowError}
use Rattle.ppd_model.specs.declared.flow_error.FlowError.TheVariants.{NoEvent}
use Rattle.ppd_flow_past.specs.declared.past.Past.{Past}
use Rattle.law_flow.specs.Edges.Assembled.{HasOwnParts}
use Rattle.ppd_flow_shared.specs.SharedCells.{IsMemoryOr}
use Rattle.ppd_flow.specs.Answers.{IsEdges}

-- what is kept of a whole schedule without a race, under the plan of a policy, of which no log is cut
pub record IsOfRun (past : Past) (policy : Policy) (h : List ℕ) : Type 0 where
  pub plan_is : past.plan.now ≡ plan_of past.program.now policy
  pub logs_are : past.logs.now ≡ closed_logs (past_setting past) h
  pub cut_are : past.cut.now ≡ closed_logs (past_setting past) h
  pub whole : IsWhole (past_setting past) h
  pub no_race : races (past_setting past) h ≡ []

-- what each process did in it
abbrev pub story_in : Past → List ℕ → Story
story_in past h = story (past_setting past) h

-- its processes in their intervals
abbrev pub splits_in : Past → List ℕ → List Split
splits_in past h = splits (past_setting past) (story_in past h)

-- the last value of the cell in the run with the item that wrote it is answered, or want of memory
abbrev pub GivesLast : Past → ℕ → Result (ℤ × Origin) FlowError → Type 0
GivesLast past c result =
    (policy : Policy) (h : List ℕ) → IsOfRun past policy h → c < length past.program.now.starts
    → IsMemoryOr (Ok (last (past_setting past) (story_in past h) c)) result

-- the edges of an item of a process in the run are answered, or that there is no such item, or want of memory
abbrev pub GivesEdges : Past → (p k j : ℕ) → Result (List FlowEdge) FlowError → Type 0
GivesEdges past p k j result =
    (policy : Policy) (h : List ℕ) (x : Split) → IsOfRun past policy h
    → slice_get (splits_in past h) p ≡ Some x
    → IsMemoryOr (ok_or (edges (past_setting past) (story_in past h) p k j) NoEvent) result

-- where n edges are answered for an item of a process in the run, the counter rose by at most 2 (n + 1) times the own
-- steps of the intervals near to the item
abbrev pub CostsEdges : Past → (p k j before after : ℕ) → Result (List FlowEdge) FlowError → Type 0
CostsEdges past p k j before after result =
    (policy : Policy) (h : List ℕ) (x : Split) (es : List FlowEdge) → IsOfRun past policy h
    → slice_get (splits_in past h) p ≡ Some x → result ≡ Ok es
    → after ≤ before
    + 2 * (length es + 1) * near_steps (past_setting past) (story_in past h) p k j

-- where a last value is answered, the counter rose by at most the own steps of the intervals of the writer's process
-- that are open in the internal edge of the last write, and so by nothing where it is the start value
abbrev pub CostsLast : Past → (c before after : ℕ) → Result (ℤ × Origin) FlowError → Type 0
CostsLast past c before after result =
    (policy : Policy) (h : List ℕ) (answer : ℤ × Origin) → IsOfRun past policy h → c < length past.program.now.starts
    → result ≡ Ok answer
    → after ≤ before + last_steps (past_setting past) (story_in past h) c

-- where what is found of an item within its process is as in the run, the answer is the edges of the item in the run,
-- or that there is no such item, or want of memory
abbrev pub AnswersAreOfRuns : Type 0
AnswersAreOfRuns =
    (past : Past) (policy : Policy) (h : List ℕ) (p k j before after : ℕ) (x : Split)
    (result : Result (List FlowEdge) FlowError)
    → IsValid past.program.now → IsOfRun past policy h → IsEdges past p k j before after result
    → slice_get (splits_in past h) p ≡ Some x
    → HasOwnParts past.program.now past.plan.now (splits_in past h) x p k j
    → IsMemoryOr (ok_or (edges (past_setting past) (story_in past h) p k j) NoEvent) result
