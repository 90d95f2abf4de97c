-- What calls of the program tell of runs: of each of them the headline holds.
use Rattle.ppd_top.specs.declared.loads.TheConstants.{MOST_BYTES, MOST_RECORDING}
use Rattle.std.specs.Prelude.{◌≡◌, ◌⊎◌, ℕ, List, ◌++◌}
use Rattle.ppd_codec_runs.specs.Recordings.{IsRunRecorded}
use Rattle.ppd_io.specs.Content.{Loads, Stores}
use Rattle.ppd_model.specs.Logs.{close}
use Rattle.ppd_session.specs.Known.{Known}
use Rattle.ppd_top.specs.Ran.{Options}
use Rattle.ppd_top.specs.Call.{Call, Wrote}
use Rattle.ppd_top.specs.Clauses.{IsOutcome, IsPromised, IsPromisedAnswers}
use Rattle.ppd_top_commands.specs.Output.{AreCommands, answers}
use Rattle.ppd_top_commands.specs.Summary.{summary_of}
use Rattle.ppd_top_requests.specs.Words.{Asks}
use Rattle.ppd_top_requests.specs.Words.Request.{on_source, on_recording}
use Rattle.ppd_top_requests.specs.Words.Command.{Flow, Run as RunTo}
use Rattle.law_headline.specs.Headline.{Headline}
use Rattle.law_headline.specs.Runs.{Run, plan_in, setting_in}

-- how the processes of the run ended, then the race report by what is told of it
abbrev pub report : Run → Known → List ℕ
report r x = summary_of r.program (close (setting_in r) r.schedule).ends x.races

-- the bytes are the recording of the run
abbrev pub IsRecorded : Run → (bytes : List ℕ) → Type 0
IsRecorded r bytes = IsRunRecorded r.source (record { policy = r.policy; budget = r.budget }) r.program r.schedule bytes

-- the call answered lines: all of them or those before one that is too long or one too many
abbrev pub HasAnswered : Call → Type 0
HasAnswered c = (c.status ≡ 0) ⊎ ((c.status ≡ 7) ⊎ (c.status ≡ 8))

-- ---- `flow`

abbrev pub AsksFlow : Call → Type 0
AsksFlow c = (name : List ℕ) × (options : Options) × Asks c.words (on_source Flow name options)

-- the run is that of the loaded source with the options, by the schedule that the threads took; all that was written is
-- its report and, by what is told of it, the answers to the lines of the input
pub record FlowTells (c : Call) : Type 0 where
  pub name : List ℕ
  pub options : Options
  pub run : Run
  pub known : Known
  pub commands : List ℕ
  pub asked : Asks c.words (on_source Flow name options)
  pub loaded : Loads c.before.held name MOST_BYTES run.source
  pub policy_is : run.policy ≡ options.policy
  pub budget_is : run.budget ≡ options.budget
  pub taken : run.schedule ≡ c.schedule
  pub headline : Headline run known
  pub told : AreCommands c.before.io.left c.after.io.left commands
  pub written : Wrote c (report run known ++ (answers known commands).text)
  pub status_is : c.status ≡ (answers known commands).status

abbrev pub FlowTellsOfRuns : Type 0
FlowTellsOfRuns = (c : Call) → IsOutcome c → AsksFlow c → HasAnswered c → FlowTells c

-- no accepted program is refused: but for want of memory its run is told of, where no device fails
abbrev pub AcceptedProgramsAreTold : Type 0
AcceptedProgramsAreTold =
    (c : Call) → IsOutcome c → (p : IsPromised c) → AsksFlow c
    → (c.status ≡ 5) ⊎ ((t : FlowTells c) × (t.run.program ≡ p.program))

-- ---- `run`

abbrev pub AsksRun : Call → Type 0
AsksRun c = (recording : List ℕ) × (name : List ℕ) × (options : Options)
    × Asks c.words (on_source (RunTo recording) name options)

-- so is the run, whose report was written; and the shelf holds its recording
pub record RunTells (c : Call) : Type 0 where
  pub name : List ℕ
  pub recording : List ℕ
  pub options : Options
  pub run : Run
  pub known : Known
  pub stored : List ℕ
  pub asked : Asks c.words (on_source (RunTo recording) name options)
  pub loaded : Loads c.before.held name MOST_BYTES run.source
  pub policy_is : run.policy ≡ options.policy
  pub budget_is : run.budget ≡ options.budget
  pub taken : run.schedule ≡ c.schedule
  pub headline : Headline run known
  pub is : IsRecorded run stored
  pub kept : Stores c.before.held c.after.held recording stored
  pub written : Wrote c (report run known)

abbrev pub RunTellsOfRuns : Type 0
RunTellsOfRuns = (c : Call) → IsOutcome c → AsksRun c → c.status ≡ 0 → RunTells c

-- and no accepted program is refused
abbrev pub SourcesAreRecorded : Type 0
SourcesAreRecorded =
    (c : Call) → IsOutcome c → (p : IsPromised c) → AsksRun c
    → (c.status ≡ 5) ⊎ ((t : RunTells c) × (t.run.program ≡ p.program))

-- ---- `debug`

abbrev pub AsksLines : Call → Type 0
AsksLines c = (name : List ℕ) × Asks c.words (on_recording name)

-- all that was written is, by what is told of each run whose recording was loaded, the answers to the lines of the
-- input
pub record DebugTells (c : Call) : Type 0 where
  pub name : List ℕ
  pub bytes : List ℕ
  pub known : Known
  pub commands : List ℕ
  pub asked : Asks c.words (on_recording name)
  pub loaded : Loads c.before.held name MOST_RECORDING bytes
  pub headline : (run : Run) → IsRecorded run bytes → Headline run known
  pub told : AreCommands c.before.io.left c.after.io.left commands
  pub written : Wrote c (answers known commands).text
  pub status_is : c.status ≡ (answers known commands).status

abbrev pub DebugTellsOfRuns : Type 0
DebugTellsOfRuns = (c : Call) → IsOutcome c → AsksLines c → HasAnswered c → DebugTells c

-- the run whose recording the shelf is told to hold
abbrev pub promised_run : (c : Call) → IsPromisedAnswers c → Run
promised_run c p = record {
  source = p.source;
  program = p.program;
  policy = p.header.policy;
  budget = p.header.budget;
  schedule = p.schedule;
}

-- no recording of a run is refused: but for want of memory the run is told of, where no device fails
abbrev pub RecordedRunsAreTold : Type 0
RecordedRunsAreTold =
    (c : Call) → IsOutcome c → (p : IsPromisedAnswers c) → AsksLines c
    → (c.status ≡ 5) ⊎ ((t : DebugTells c) × Headline (promised_run c p) t.known)
