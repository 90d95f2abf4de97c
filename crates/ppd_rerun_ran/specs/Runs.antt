-- What a guided run comes to, with what is held of its processes.
use Rattle.ppd_model.specs.Setting.{Setting}
use Rattle.ppd_rerun_guide.specs.Guided.{guided}
use Rattle.ppd_model.specs.RecordedSets.{record_in}
use Rattle.std.specs.Bool.{Decides}
use Rattle.std.specs.List.{range_with_len}
use Rattle.std.specs.Prelude.{◌≡◌, ℕ, ◌++◌, List, length, map, slice_get, Some, get_or, []}
use Rattle.ppd_ast.specs.declared.plan.Plan.{Plan}
use Rattle.ppd_ast.specs.declared.program.Program.{Program}
use Rattle.ppd_model.specs.declared.entry.Logs.{Logs}
use Rattle.ppd_sem.specs.declared.proc.Proc.{Proc}
use Rattle.ppd_model.specs.Laws.{logged_moment}
use Rattle.ppd_model.specs.Record.{sync_record}
use Rattle.ppd_model.specs.Story.{story}
use Rattle.ppd_model.specs.Synchronizations.{Sync}
use Rattle.ppd_model.specs.World.{change}
use Rattle.ppd_world.specs.Running.{IsHeld, Running}
use Rattle.ppd_rerun_guide.specs.Verdicts.{HasRecordOf}
use Rattle.ppd_rerun_ran.specs.declared.ran.Ran.{Ran}
use Rattle.ppd_rerun_ran.specs.Holding.{Holding, begun_held, courses, hold_step}
use Rattle.ppd_rerun_ran.specs.Seeing.{seen}

-- what is held of each process in a schedule
abbrev pub helds : Setting → List ℕ → List Holding
helds setting h = map (λ g. g.held) (courses setting (story setting h))

-- what is held of the first processes, so many, before their first steps
abbrev pub begun_helds : Program → Plan → ℕ → List Holding
begun_helds program plan n = map (begun_held program plan) (range_with_len 0 n)

-- process p of this run takes its step, which is held
abbrev pub HoldsStep : Running → ℕ → List Holding → List Holding → Type 0
HoldsStep r p before after =
    (s : Proc) → slice_get r.world.procs p ≡ Some s
    → after ≡ change (λ x. hold_step r.setting.program r.setting.plan s x
    (logged_moment r.setting.program r.setting.plan r.world p).taken) p before

-- the run of this schedule, and what is left of these records after it, with what is held of its processes
pub record HasCome (setting : Setting) (syncs : List (List Sync)) (h : List ℕ) (r : Running)
    (left : List (List Sync)) (held : List Holding) : Type 0 where
  pub run : IsHeld setting r h
  pub lists : length left ≡ length syncs
  pub taken : (q : ℕ) → get_or (sync_record setting h) q [] ++ get_or left q [] ≡ get_or syncs q []
  pub held_is : held ≡ helds setting h

-- the guided run of these logs
pub record IsRan (setting : Setting) (logs : Logs) (ran : Ran) : Type 0 where
  pub schedule_is : ran.schedule ≡ guided setting (record_in logs)
  pub follows : Decides ran.follows (HasRecordOf setting logs ran.schedule)
  pub held_is : map seen ran.held.items ≡ helds setting ran.schedule
