-- The replay of an interval of a run without a race gives the interval.
use Rattle.ppd_model.specs.Setting.{setting_of}
use Rattle.std.proofs.Common.{◌≡◌, ℕ, ◌+◌, [], get_or, Result, Some, Ok, Err, sym, subst}
use Rattle.ppd_ast.specs.Valid.{IsValid}
use Rattle.ppd_ast.specs.declared.plan.Plan.{Plan}
use Rattle.ppd_ast.specs.declared.program.Program.{Program}
use Rattle.ppd_model.specs.IntervalLogs.{IntervalLog, interval_log}
use Rattle.ppd_model.specs.Logs.{closed_logs}
use Rattle.ppd_model.specs.Races.{races}
use Rattle.ppd_model.specs.Schedule.{IsWhole}
use Rattle.ppd_model.specs.Replay.{Replayed, replay}
use Rattle.ppd_model.specs.declared.block_trace.BlockTrace.{BlockTrace}
use Rattle.ppd_model.specs.declared.block_trace.EmulError.{EmulError}
use Rattle.ppd_model.specs.declared.block_trace.EmulError.TheVariants.{Diverged, Memory}
use Rattle.law_steps.specs.Theorem.Laws.{EmulationsGiveIntervals, GivesIntervalAt, IsAnswerOf, GivesIntervals}
use Rattle.ppd_emul_values.specs.Emulated.{IfTold}

-- the two clauses are an answer
answers : (x : Replayed) (before after : ℕ) (r : Result BlockTrace EmulError) → IfTold r (r ≡ x.answer)
    → IfTold r (after ≡ before + x.steps) → IsAnswerOf x before after r
answers x before after (Ok t) told counted = (told, counted)
answers x before after (Err (Diverged n w f)) told counted = (told, counted)
answers x before after (Err Memory) told counted = tt

pub gives_intervals : EmulationsGiveIntervals → (program : Program) (plan : Plan) (budget : ℕ) (log : IntervalLog)
    (before after : ℕ) (r : Result BlockTrace EmulError) → IsValid program
    → IfTold r (r ≡ (replay program plan log budget).answer)
    → IfTold r (after ≡ before + (replay program plan log budget).steps)
    → GivesIntervals (setting_of program plan budget) log before after r
gives_intervals law program plan budget log before after r valid told counted policy h p k is whole free found =
    subst Given (sym is)
    (λ answer w f l. law program policy budget h p k log before after r valid w f l answer)
    (answers (replay program plan log budget) before after r told counted) whole free found
  where
    Given : Plan → Type 0
    Given q = IsAnswerOf (replay program q log budget) before after r → IsWhole (setting_of program q budget) h
        → races (setting_of program q budget) h ≡ []
        → interval_log q (get_or (closed_logs (setting_of program q budget) h).lists p []) k ≡ Some log
        → GivesIntervalAt (setting_of program q budget) h p k before after r
