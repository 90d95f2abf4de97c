-- The theorem of replays: an interval replayed from its own log alone gives its items, in its own steps.
use Rattle.law_steps.specs.Policies.{setting_by}
use Rattle.ppd_model.specs.Setting.{setting_of}
use Rattle.std.proofs.Common.{◌≡◌, ℕ, ◌+◌, ◌<◌, List, [], get_or, Option, Some, None, Ok, refl, ap, ap₂, sym, ◌∙◌, length}
use Rattle.std.specs.Prelude.{slice_get}
use Rattle.ppd_ast.specs.declared.plan.Plan.{Plan}
use Rattle.ppd_ast.specs.declared.plan.Policy.{Policy}
use Rattle.ppd_ast.specs.declared.program.Program.{Program}
use Rattle.ppd_ast.specs.Valid.{IsValid}
use Rattle.ppd_blocks.specs.Blocks.{plan_of}
use Rattle.ppd_model.specs.IntervalLogs.{IntervalLog, interval_log}
use Rattle.ppd_sem.specs.Process.{started}
use Rattle.ppd_model.specs.Intervals.{Span, Split, items_of, splits}
use Rattle.ppd_model.specs.Logs.{closed_logs}
use Rattle.ppd_model.specs.Races.{races}
use Rattle.ppd_model.specs.Schedule.{IsWhole}
use Rattle.ppd_model.specs.Story.{Moment, story, told}
use Rattle.ppd_model.specs.Replay.{replay}
use Rattle.law_steps.proofs.InForce.Answered.{reads_are_in_force}
use Rattle.law_steps.specs.OpenBlocks.Run.{IsRun}
use Rattle.law_steps.specs.Coming.Openings.{AreAlike, IsLogOf, IsSpanOf, Opening, SpansAreComing, opening_of}
use Rattle.law_steps.proofs.Coming.LogsComing.{logs_are_coming}
use Rattle.law_steps.proofs.OpenBlocks.Runs.{schedules_run}
use Rattle.law_steps.proofs.Openings.AtBlocks.{IsAtBlock, opening_at}
use Rattle.law_steps.proofs.Openings.Purses.{opening_of_purse}
use Rattle.law_steps.proofs.Theorem.Begins.{replay_gives}
use Rattle.law_steps.proofs.Theorem.Processes.{process_there, without_log}
use Rattle.law_steps.proofs.Theorem.Units.{interval_reads}
use Rattle.law_steps.specs.Theorem.Laws.{ReplaysGiveIntervals, modelled_in, modelled_of, replay_at, replay_of}

module _ (spans : SpansAreComing) (program : Program) (policy : Policy) (budget : ℕ) (h : List ℕ) (p k : ℕ)
    (v : IsValid program) (whole : IsWhole (setting_by program policy budget) h)
    (free : races (setting_by program policy budget) h ≡ []) where
  abbrev plan : Plan
  plan = plan_of program policy

  abbrev moments : List Moment
  moments = get_or (told (setting_of program plan budget) h).moments p []

  module _ (there : program.functions + p < length program.bodies) where
    run : IsRun program plan (started program plan p budget) moments
    run = schedules_run (setting_of program plan budget) h p v whole there

    -- one interval
    interval : (o : Opening) (l : IntervalLog) (x : Split) (i : Span)
        → opening_of (setting_of program plan budget) p moments k ≡ Some o → IsLogOf program plan k o l
        → IsSpanOf program plan k o x i
        → replay program plan l budget ≡ record { steps = i.steps; answer = Ok (record { items = items_of x i }) }
    interval o l x i e log span =
        let at : IsAtBlock program plan o = opening_at program policy budget p moments k v there run o e in
        replay_gives program policy v o at budget l.depth k l log refl
        (opening_of_purse program plan v budget p moments k there o e)
        (interval_reads program plan budget p k moments
        (reads_are_in_force program policy budget h whole.last p v whole.runs free) o e _ at.values at.units_are)
        ∙ ap₂ (λ n items. record { steps = n; answer = Ok (record { items = items }) }) (sym span.steps)
        (sym span.items)

    -- it is there in the log just where it is in the story
    both_alike : (x : Split) (o : Option Opening) (l : Option IntervalLog) (i : Option Span)
        → opening_of (setting_of program plan budget) p moments k ≡ o → AreAlike (IsLogOf program plan k) o l
        → AreAlike (λ o i. IsSpanOf program plan k o x i) o i
        → replay_of (setting_of program plan budget) l ≡ modelled_of x i
    both_alike x None None None e log span = refl
    both_alike x None None (Some i) e log span = absurd span
    both_alike x None (Some l) i e log span = absurd log
    both_alike x (Some o) None i e log span = absurd log
    both_alike x (Some o) (Some l) None e log span = absurd span
    both_alike x (Some o) (Some l) (Some i) e log span = ap Some (interval o l x i e log span)

  by_process : (o : Option Split) → slice_get (splits (setting_of program plan budget) (story (setting_of program plan budget) h)) p ≡ o
      → replay_at (setting_of program plan budget) h p k ≡ modelled_in k o
  by_process None e = ap (λ entries. replay_of (setting_of program plan budget) (interval_log plan entries k))
      (without_log (setting_of program plan budget) h p e)
  by_process (Some x) e =
      let there : program.functions + p < length program.bodies = process_there (setting_of program plan budget) h p x e in
      both_alike there x (opening_of (setting_of program plan budget) p moments k)
      (interval_log plan (get_or (closed_logs (setting_of program plan budget) h).lists p []) k) (slice_get x.spans k) refl
      (logs_are_coming program policy budget h p k v whole there)
      (spans program policy budget h p k x v whole e)

-- the theorem, from that of the intervals of the story
pub replays_by : SpansAreComing → ReplaysGiveIntervals
replays_by spans program policy budget h p k v whole free =
    by_process spans program policy budget h p k v whole free
    (slice_get (splits (setting_by program policy budget)
    (story (setting_by program policy budget) h)) p) refl
