-- The theorem of replays: an interval replayed from its own log alone gives its items, in its own steps.
use Rattle.law_steps.specs.Policies.{setting_by}
use Rattle.ppd_model.specs.Setting.{Setting}
use Rattle.std.specs.Prelude.{◌≡◌, ℕ, ◌+◌, List, [], get_or, slice_get, Option, Some, None, Result, Ok, Err, ⊤}
use Rattle.ppd_ast.specs.declared.plan.Policy.{Policy}
use Rattle.ppd_ast.specs.declared.program.Program.{Program}
use Rattle.ppd_ast.specs.Valid.{IsValid}
use Rattle.ppd_blocks.specs.Blocks.{plan_of}
use Rattle.ppd_model.specs.IntervalLogs.{IntervalLog, interval_log}
use Rattle.ppd_model.specs.Intervals.{Split, Span, splits, items_of}
use Rattle.ppd_model.specs.Logs.{closed_logs}
use Rattle.ppd_model.specs.Races.{races}
use Rattle.ppd_model.specs.Schedule.{IsWhole}
use Rattle.ppd_model.specs.Story.{story}
use Rattle.ppd_model.specs.declared.block_trace.BlockTrace.{BlockTrace}
use Rattle.ppd_model.specs.declared.block_trace.EmulError.{EmulError}
use Rattle.ppd_model.specs.declared.block_trace.EmulError.TheVariants.{Memory}
use Rattle.ppd_model.specs.Replay.{Replayed, replay}

-- the replay of an interval that is there
abbrev pub replay_of : Setting → Option IntervalLog → Option Replayed
replay_of setting None = None
replay_of setting (Some l) = Some (replay setting.program setting.plan l setting.budget)

-- the replay of interval k of process p, from its log in a whole schedule
abbrev pub replay_at : Setting → List ℕ → ℕ → ℕ → Option Replayed
replay_at setting h p k =
    replay_of setting (interval_log setting.plan (get_or (closed_logs setting h).lists p []) k)

-- an interval's own steps and its items in the story, if it is there
abbrev pub modelled_of : Split → Option Span → Option Replayed
modelled_of x None = None
modelled_of x (Some i) = Some (record { steps = i.steps; answer = Ok (record { items = items_of x i }) })

-- the same for interval k of a process that is there
abbrev pub modelled_in : ℕ → Option Split → Option Replayed
modelled_in k None = None
modelled_in k (Some x) = modelled_of x (slice_get x.spans k)

-- the same for interval k of process p in a schedule
abbrev pub model_at : Setting → List ℕ → ℕ → ℕ → Option Replayed
model_at setting h p k =
    modelled_in k (slice_get (splits setting (story setting h)) p)

-- in a whole schedule without a race each interval is replayed to its items, in as many steps as it has of its own,
-- and the logs have just the intervals of the story
abbrev pub ReplaysGiveIntervals : Type 0
ReplaysGiveIntervals =
    (program : Program) (policy : Policy) (budget : ℕ) (h : List ℕ) (p k : ℕ)
    → IsValid program → IsWhole (setting_by program policy budget) h
    → races (setting_by program policy budget) h ≡ []
    → replay_at (setting_by program policy budget) h p k ≡ model_at (setting_by program policy budget) h p k

-- ---- emulation

-- the answer is the replay's, and the counter rose by its steps; or want of memory was answered
abbrev pub IsAnswerOf : Replayed → (before after : ℕ) → Result BlockTrace EmulError → Type 0
IsAnswerOf x before after (Err Memory) = ⊤
IsAnswerOf x before after answer = (answer ≡ x.answer) × (after ≡ before + x.steps)

-- the answer is the interval's items, and the counter rose by its own steps; or want of memory was answered
abbrev pub GivesInterval : Split → Span → (before after : ℕ) → Result BlockTrace EmulError → Type 0
GivesInterval x i before after (Ok trace) = (trace.items ≡ items_of x i) × (after ≡ before + i.steps)
GivesInterval x i before after (Err Memory) = ⊤
GivesInterval x i before after (Err error) = ⊥

-- interval k of process p is there in the story of the schedule, and the answer gives it
pub record GivesIntervalAt (setting : Setting) (h : List ℕ) (p k : ℕ) (before after : ℕ)
    (answer : Result BlockTrace EmulError) : Type 0 where
  pub process : Split
  pub process_is : slice_get (splits setting (story setting h)) p ≡ Some process
  pub interval : Span
  pub interval_is : slice_get process.spans k ≡ Some interval
  pub gives : GivesInterval process interval before after answer

-- whatever answers as the replay of an interval's log, as `emulate` does, gives the interval of such a schedule or
-- wants memory: it never finds that the log is another interval's
abbrev pub EmulationsGiveIntervals : Type 0
EmulationsGiveIntervals =
    (program : Program) (policy : Policy) (budget : ℕ) (h : List ℕ) (p k : ℕ) (log : IntervalLog) (before after : ℕ)
    (answer : Result BlockTrace EmulError)
    → IsValid program → IsWhole (setting_by program policy budget) h
    → races (setting_by program policy budget) h ≡ []
    → interval_log (plan_of program policy)
    (get_or (closed_logs (setting_by program policy budget) h).lists p []) k ≡ Some log
    → IsAnswerOf (replay program (plan_of program policy) log budget) before after answer
    → GivesIntervalAt (setting_by program policy budget) h p k before after answer

-- the same as a clause of one answer: it gives the interval of each such schedule of which the log is the interval's
abbrev pub GivesIntervals : Setting → IntervalLog → (before after : ℕ) → Result BlockTrace EmulError → Type 0
GivesIntervals setting log before after answer =
    (policy : Policy) (h : List ℕ) (p k : ℕ)
    → setting.plan ≡ plan_of setting.program policy → IsWhole setting h → races setting h ≡ []
    → interval_log setting.plan (get_or (closed_logs setting h).lists p []) k ≡ Some log
    → GivesIntervalAt setting h p k before after answer
