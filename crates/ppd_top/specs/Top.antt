-- What is written for the words, the source, the run and the commands, and with which status.
use Rattle.law_steps.specs.Policies.{setting_by}
use Rattle.ppd_codec_runs.specs.Recordings.{recorded_setting}
use Rattle.ppd_top.specs.declared.loads.TheConstants.{MOST_BYTES, MOST_RECORDING}
use Rattle.ppd_blocks.specs.Blocks.{plan_of}
use Rattle.std.specs.Prelude.{◌≡◌, ◌≢◌, ℕ, List, [], codes, None}
use Rattle.ppd_io.specs.Content.{Loads}
use Rattle.ppd_ast.specs.declared.program.Program.{Program}
use Rattle.ppd_ast.specs.declared.limits.TheConstants.{MOST_BUDGET}
use Rattle.ppd_check.specs.declared.error.SourceError.{SourceError}
use Rattle.ppd_check.specs.declared.error.SourceError.TheVariants as source
use Rattle.ppd_check.specs.Read.{IsRead, IsRefused}
use Rattle.ppd_top_drill.specs.Drills.{generated}
use Rattle.ppd_model.specs.Agreement.{Agree}
use Rattle.ppd_model.specs.Races.{races}
use Rattle.ppd_text.specs.Table.{table_of}
use Rattle.ppd_top_commands.specs.Commands.{IsWholeRun, known_of, summary_of_run}
use Rattle.ppd_top_requests.specs.declared.options.Options.{Options}
use Rattle.ppd_top.specs.Call.{Call}
use Rattle.ppd_top_commands.specs.Output.{Output, answers, before, output}
use Rattle.ppd_text_refusals.specs.Sources.{refused}
use Rattle.ppd_top_requests.specs.Words.{Asks, AsksRecording, Command, Request, asked}
use Rattle.ppd_top_requests.specs.Words.Request.{on_source, on_recording, on_number, on_query}
use Rattle.ppd_top_requests.specs.Words.Command.{Flow, Run, Show}
use Rattle.ppd_codec.specs.declared.recording.Recording.{Recording}
use Rattle.ppd_session.specs.Known.{Known}
use Rattle.ppd_session.specs.Knowing.{IsKnownOfLogs}
use Rattle.ppd_top.specs.Determined.{GivesBy}
use Rattle.ppd_top.specs.OfRuns.{IsOfRuns}
use Rattle.ppd_top_requests.specs.Questions.{Query}
use Rattle.ppd_codec_runs.specs.Laws.{IsKnownOfRuns}
use Rattle.ppd_codec_runs.specs.Recordings.{IsAccepted, IsRefusedBy}

-- ---- the run of a program

-- all that is written of that run and of these commands, with its status: the summary, then the answers
abbrev pub out_of : Program → Options → (schedule commands : List ℕ) → Output
out_of program options schedule commands =
    before (summary_of_run program options schedule) (answers (known_of program options schedule) commands)

-- where this schedule has no race, each schedule that agrees with it has that output too
abbrev pub IsOfAgreeing : Program → Options → (schedule commands : List ℕ) → Output → Type 0
IsOfAgreeing program options schedule commands out =
    races (setting_by program options.policy options.budget) schedule ≡ [] → (h' : List ℕ)
    → Agree (setting_by program options.policy options.budget) schedule h' → out ≡ out_of program options h' commands

-- with what a drill's source is run; what is asked of it then is `final` alone
abbrev pub drill_options : Options
drill_options = record { budget = MOST_BUDGET; policy = record { leaf = 0; loops = 0 } }

-- ---- what is written

abbrev pub usage : List ℕ
usage = codes "usage: ppd flow|run|debug|show|drill|slice|rerun|clean|whole\n"

-- the words ask for this command of a source, which was loaded and is that of this program
pub record WasRead (c : Call) (command : Command) : Type 0 where
  pub name : List ℕ
  pub options : Options
  pub bytes : List ℕ
  pub program : Program
  pub asked : Asks c.words (on_source command name options)
  pub loaded : Loads c.before.held name MOST_BYTES bytes
  pub accepted : IsRead bytes program

-- the words ask for this of a recording, which was loaded and accepted, and this is known of it: of the recording of a
-- run what is known of the run, and the same of each schedule that agrees with a run without a race
pub record IsRecalledFrom (c : Call) (request : (name : List ℕ) → Request) (recording : Recording) (known : Known)
    : Type 0 where
  pub name : List ℕ
  pub bytes : List ℕ
  pub asked : Asks c.words (request name)
  pub loaded : Loads c.before.held name MOST_RECORDING bytes
  pub accepted : IsAccepted bytes recording
  pub knows : IsKnownOfLogs (recorded_setting recording) recording.logs known
  pub of_runs : IsKnownOfRuns bytes known

-- what a call writes in all, by its words, what the shelf held and the schedule, where the input has these commands
pub data Writes (c : Call) (commands : List ℕ) : Output → Type 0 where
  for_words : asked c.words ≡ None → c.schedule ≡ [] → Writes c commands (output 2 usage)
  -- of a source: why it is refused, or what belongs to the command
  refused_source : (command : Command) (name : List ℕ) (options : Options) (bytes : List ℕ) (error : SourceError)
      → Asks c.words (on_source command name options) → Loads c.before.held name MOST_BYTES bytes
      → error ≢ source.Memory → IsRefused bytes error → c.schedule ≡ [] → Writes c commands (output 1 (refused error))
  for_flow : (read : WasRead c Flow) → IsWholeRun read.program read.options c.schedule
      → Writes c commands (out_of read.program read.options c.schedule commands)
  for_run : (name : List ℕ) (read : WasRead c (Run name)) → IsWholeRun read.program read.options c.schedule
      → Writes c commands (output 0 (summary_of_run read.program read.options c.schedule))
  for_show : (read : WasRead c Show) → c.schedule ≡ []
      → Writes c commands (output 0 (table_of read.program (plan_of read.program read.options.policy)))
  for_number : (number : ℕ) (program : Program) → Asks c.words (on_number number) → IsRead (generated number) program
      → IsWholeRun program drill_options c.schedule
      → Writes c commands (out_of program drill_options c.schedule (codes "final\n"))
  -- of a recording, for the lines of the input or for a query: why it is refused, or what belongs to it
  refused_recording : (name bytes line : List ℕ) → AsksRecording c.words name
      → Loads c.before.held name MOST_RECORDING bytes → IsRefusedBy bytes line → c.schedule ≡ []
      → Writes c commands (output 6 line)
  for_recording : (r : Recording) (known : Known) → IsRecalledFrom c on_recording r known → c.schedule ≡ []
      → Writes c commands (answers known commands)
  for_query : (query : Query) (r : Recording) (known : Known) (status : ℕ) (text : List ℕ)
      → (from : IsRecalledFrom c (λ name. on_query name query) r known) → GivesBy r known query c.schedule status text
      → (status ≡ 0 → IsOfRuns from.bytes query c.schedule text) → Writes c commands (output status text)
