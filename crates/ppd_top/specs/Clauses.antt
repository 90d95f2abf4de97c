-- The clauses of the top call, each over the call: what it came to by its status, and when it succeeds.
use Rattle.ppd_codec_runs.specs.Recordings.{recorded_setting}
use Rattle.ppd_top.specs.declared.loads.TheConstants.{MOST_BYTES, MOST_RECORDING}
use Rattle.ppd_blocks.specs.Blocks.{plan_of}
use Rattle.ppd_io.specs.Causes.{Rose}
use Rattle.std.specs.Prelude.{◌≡◌, ◌≢◌, ◌⊎◌, ◌<◌, ℕ, List, [], take, Option, Some, option_map, None, codes}
use Rattle.std.specs.Borrow.{Bor}
use Rattle.ppd_io.specs.Content.{Loads, Stores, StoreFails, AppendsPart}
use Rattle.ppd_ast.specs.declared.program.Program.{Program}
use Rattle.ppd_check.specs.declared.error.SourceError.{SourceError}
use Rattle.ppd_check.specs.declared.error.SourceError.TheVariants as source
use Rattle.ppd_check.specs.Read.{IsRead, IsRefused}
use Rattle.ppd_top_drill.specs.Drills.{generated}
use Rattle.ppd_text.specs.Table.{table_of}
use Rattle.ppd_text_refusals.specs.Sources.{refused}
use Rattle.ppd_codec.specs.declared.recording.Header.{Header}
use Rattle.ppd_codec.specs.declared.recording.Recording.{Recording}
use Rattle.ppd_model.specs.declared.entry.At.{At}
use Rattle.ppd_rerun_guide.specs.Verdicts.{IsVerdict}
use Rattle.ppd_rerun_guide.specs.declared.verdict.Verdict.TheVariants.{Yes}
use Rattle.ppd_session.specs.Known.{Known, seens}
use Rattle.ppd_session.specs.Missing.{IsMissingAt}
use Rattle.ppd_session.specs.Sessions.{error_of}
use Rattle.ppd_session.specs.Texts.{failure_of}
use Rattle.ppd_session.specs.declared.reply.SessionError.TheVariants.{Sets}
use Rattle.ppd_top.specs.Determined.{GivesBy, IsFailedBy}
use Rattle.ppd_top.specs.Missing.{IsMissingFor}
use Rattle.ppd_top.specs.OfRuns.{IsOfRuns}
use Rattle.ppd_top_requests.specs.Questions.{Query}
use Rattle.ppd_top_requests.specs.Questions.Query.{Rerun}
use Rattle.ppd_codec_runs.specs.Recordings.{IsAccepted, IsRefusedBy, IsRunRecorded}
use Rattle.ppd_top_commands.specs.Commands.{IsWholeRun, header_of, known_of, summary_of_run}
use Rattle.ppd_top_requests.specs.declared.options.Options.{Options}
use Rattle.ppd_top.specs.Call.{Call, HasFailedLoad, HasFailedWrite, Wrote}
use Rattle.ppd_top_commands.specs.Output.{AreCommands, IsBroken, IsReadNoFurther, Output, answers, IsUnread, AppendsFront}
use Rattle.ppd_top.specs.Top.{IsOfAgreeing, IsRecalledFrom, WasRead, Writes, drill_options, out_of, usage}
use Rattle.ppd_top_requests.specs.Words.{Asks, AsksRecording, Command, asked}
use Rattle.ppd_top_requests.specs.Words.Request.{on_source, on_recording, on_number, on_query}
use Rattle.ppd_top_requests.specs.Words.Command.{Flow, Run, Show}

-- ---- what a call came to

-- statuses 0, 7 and 8 of `flow`: the loaded source's program ran under this schedule until nobody could take a step,
-- and all that belongs to it and to the commands was written, with its status
pub record RanWhole (c : Call) : Type 0 where
  pub read : WasRead c Flow
  pub commands : List ℕ
  pub whole : IsWholeRun read.program read.options c.schedule
  pub told : AreCommands c.before.io.left c.after.io.left commands
  pub unread : IsReadNoFurther (known_of read.program read.options c.schedule) commands c.after.io.left c.after.io.last
  pub status_is : c.status ≡ (out_of read.program read.options c.schedule commands).status
  pub written : Wrote c (out_of read.program read.options c.schedule commands).text
  pub agreeing : IsOfAgreeing read.program read.options c.schedule commands
      (out_of read.program read.options c.schedule commands)

-- statuses 0, 7 and 8 of `debug`, and 6 where a replay failed: the loaded recording was accepted, nothing ran, and all
-- that belongs to it and to the commands was written, with its status: of the recording of a run, all that is written
-- of the run but the summary
pub record WasAnswered (c : Call) : Type 0 where
  pub recording : Recording
  pub known : Known
  pub commands : List ℕ
  pub recalled : IsRecalledFrom c on_recording recording known
  pub no_run : c.schedule ≡ []
  pub told : AreCommands c.before.io.left c.after.io.left commands
  pub unread : IsReadNoFurther known commands c.after.io.left c.after.io.last
  pub status_is : c.status ≡ (answers known commands).status
  pub written : Wrote c (answers known commands).text

-- statuses 0 and 6 of a query: the loaded recording was accepted, and what belongs to the query was written, with its
-- status; the schedule is that which belongs to it. What is known of the recording is what is known of the run, where
-- it is that of a whole one, and of each schedule that agrees with a run without a race; and so is the answer
pub record WasQueried (c : Call) : Type 0 where
  pub query : Query
  pub recording : Recording
  pub known : Known
  pub text : List ℕ
  pub recalled : IsRecalledFrom c (λ name. on_query name query) recording known
  pub gives : GivesBy recording known query c.schedule c.status text
  pub answers_runs : c.status ≡ 0 → IsOfRuns recalled.bytes query c.schedule text
  pub written : Wrote c text

-- status 0: what belongs to the command was done and written whole
pub data WasDone (c : Call) : Type 0 where
  ran : RanWhole c → WasDone c
  -- `show`: the tables of the loaded source's program and its plan were written, and nothing ran
  shown : (read : WasRead c Show) → c.schedule ≡ []
      → Wrote c (table_of read.program (plan_of read.program read.options.policy)) → WasDone c
  -- `run`: the loaded source's program ran under this schedule until nobody could take a step, the shelf holds the
  -- recording of that run under its name and all others as before, and the summary was written
  stored : (recording : List ℕ) (read : WasRead c (Run recording)) (bytes : List ℕ)
      → IsWholeRun read.program read.options c.schedule
      → IsRunRecorded read.bytes (header_of read.options) read.program c.schedule bytes
      → Stores c.before.held c.after.held recording bytes → StoreFails c.before.held c.after.held recording
      → Wrote c (summary_of_run read.program read.options c.schedule) → WasDone c
  answered : WasAnswered c → WasDone c
  -- `drill`: the program of the source that the number makes ran under this schedule until nobody could take a step,
  -- and all that `flow` writes of it and of `final` was written
  drilled : (number : ℕ) (program : Program) → Asks c.words (on_number number) → IsRead (generated number) program
      → IsWholeRun program drill_options c.schedule → (out : Output)
      → out ≡ out_of program drill_options c.schedule (codes "final\n") → out.status ≡ 0 → Wrote c out.text
      → IsOfAgreeing program drill_options c.schedule (codes "final\n") out → WasDone c
  queried : WasQueried c → WasDone c

-- status 1, which no drill has: the loaded source has no program, and the line that says why was written
pub record WasRefused (c : Call) : Type 0 where
  pub command : Command
  pub name : List ℕ
  pub options : Options
  pub bytes : List ℕ
  pub error : SourceError
  pub asked : Asks c.words (on_source command name options)
  pub loaded : Loads c.before.held name MOST_BYTES bytes
  pub fault : error ≢ source.Memory
  pub cause : IsRefused bytes error
  pub no_program : (program : Program) → IsRead bytes program → ⊥
  pub written : Wrote c (refused error)

-- status 3
pub data ReadFailed (c : Call) : Type 0 where
  -- a load failed of the name of the source or of the recording that the words ask for, nothing ran, nothing was read
  -- of the input, and nothing was written
  load_failed : (name : List ℕ)
      → ((command : Command) × (options : Options) × Asks c.words (on_source command name options))
      ⊎ AsksRecording c.words name
      → HasFailedLoad c name → c.schedule ≡ [] → IsUnread c.before.io c.after.io
      → c.after.io.written ≡ c.before.io.written → ReadFailed c
  -- or in `flow` a read of the input failed, and the summary with the answers to the whole lines among the bytes taken
  -- was written; none of these lines ends the answers
  input_failed : (read : WasRead c Flow) → IsWholeRun read.program read.options c.schedule
      → IsBroken (known_of read.program read.options c.schedule)
      (summary_of_run read.program read.options c.schedule) c.before.io c.after.io → ReadFailed c
  -- or in `debug`, where the answers to the whole lines among the bytes taken were written
  lines_failed : (recording : Recording) (known : Known) → IsRecalledFrom c on_recording recording known
      → c.schedule ≡ [] → IsBroken known [] c.before.io c.after.io → ReadFailed c

-- status 4
pub data WriteFailed (c : Call) : Type 0 where
  -- a write failed, and a proper prefix of what the command writes went out
  output_failed : (commands : List ℕ) (out : Output) → HasFailedWrite c
      → AreCommands c.before.io.left c.after.io.left commands → Writes c commands out
      → AppendsPart c.before.io.written c.after.io.written out.text → WriteFailed c
  -- or in `run` a store under the recording's name failed, after the run came to its end, and nothing was written
  shelf_failed : (recording : List ℕ) (read : WasRead c (Run recording))
      → IsWholeRun read.program read.options c.schedule
      → Rose (c.before.stores recording) (c.after.stores recording)
      → StoreFails c.before.held c.after.held recording → c.after.io.written ≡ c.before.io.written → WriteFailed c

-- status 5: want of memory
pub data MemoryRanOut (c : Call) : Type 0 where
  -- perhaps before the words were read; nothing came to its end, and nothing was stored or written
  early : c.after.held ≡ c.before.held → c.schedule ≡ [] → c.after.io.written ≡ c.before.io.written → MemoryRanOut c
  -- or in `flow` after the run, and a prefix of what the command writes went out
  in_flow : (read : WasRead c Flow) (commands : List ℕ) → IsWholeRun read.program read.options c.schedule
      → AreCommands c.before.io.left c.after.io.left commands
      → AppendsFront c.before.io.written c.after.io.written
      (out_of read.program read.options c.schedule commands).text → MemoryRanOut c
  -- or in `run` after the run: the shelf is as before, and nothing was written
  in_run : (recording : List ℕ) (read : WasRead c (Run recording)) → IsWholeRun read.program read.options c.schedule
      → c.after.held ≡ c.before.held → c.after.io.written ≡ c.before.io.written → MemoryRanOut c
  -- or in `drill` after the run, and a prefix of what the command writes went out
  in_drill : (number : ℕ) (program : Program) → Asks c.words (on_number number) → IsRead (generated number) program
      → IsWholeRun program drill_options c.schedule
      → AppendsFront c.before.io.written c.after.io.written
      (out_of program drill_options c.schedule (codes "final\n")).text → MemoryRanOut c
  -- or in `debug`, and a prefix of what the command writes went out
  in_debug : (recording : Recording) (known : Known) (commands : List ℕ)
      → IsRecalledFrom c on_recording recording known → c.schedule ≡ []
      → AreCommands c.before.io.left c.after.io.left commands
      → AppendsFront c.before.io.written c.after.io.written (answers known commands).text → MemoryRanOut c

-- status 6, of the loaded bytes
pub data RecordingRefused (c : Call) : (bytes : List ℕ) → Type 0 where
  -- they are refused, and the line that says why was written; they are accepted by no recording
  bytes_refused : (name bytes line : List ℕ) → AsksRecording c.words name
      → Loads c.before.held name MOST_RECORDING bytes → IsRefusedBy bytes line
      → ((r : Recording) → IsAccepted bytes r → ⊥) → c.schedule ≡ [] → IsUnread c.before.io c.after.io
      → Wrote c line → RecordingRefused c bytes
  -- or a replay failed that the answer to a line needs, or a write is missing that it asks for, and the answers before
  -- it and the line that says so were written
  line_failed : (w : WasAnswered c)
      → ((line : List ℕ) (at : At) → option_map error_of (failure_of w.known line) ≡ Some (Sets at)
      → IsMissingAt w.recording.logs
      (seens (recorded_setting w.recording) w.recording.logs) at)
      → RecordingRefused c w.recalled.bytes
  -- or one that the answer to a query needs, and the line that says so was written
  query_failed : (w : WasQueried c)
      → ((at : At) → IsFailedBy w.recording w.known w.query (Sets at) → IsMissingFor w.recording w.query at)
      → RecordingRefused c w.recalled.bytes

-- an input whose bytes are told, whose lines are answered with status 0 by whatever is known where no replay fails (so
-- at most 65,536 lines of at most 4,096 bytes through the first `quit`, or else to the end), and no read that failed
pub record IsFineInput (c : Call) : Type 0 where
  pub commands : List ℕ
  pub rest : List ℕ
  pub told : c.before.io.left ≡ Some commands
  pub told_still : c.after.io.left ≡ Some rest
  pub fine : (x : Known) → ((line : List ℕ) → failure_of x line ≡ None) → (answers x commands).status ≡ 0
  pub no_read_fault : Rose c.before.io.reads c.after.io.reads → ⊥

-- A told source of the language succeeds, but for want of memory, where no load of its name and no write failed, in
-- `flow` the input is fine, and in `run` no store of the recording's name failed.
pub record IsPromised (c : Call) : Type 0 where
  pub command : Command
  pub name : List ℕ
  pub options : Options
  pub at : List ℕ → Option (List ℕ)
  pub all : List ℕ
  pub program : Program
  pub asked : Asks c.words (on_source command name options)
  pub told : c.before.held ≡ Some at
  pub there : at name ≡ Some all
  pub accepted : IsRead (take MOST_BYTES all) program
  pub no_load_fault : HasFailedLoad c name → ⊥
  pub no_write_fault : HasFailedWrite c → ⊥
  pub fine : command ≡ Flow → IsFineInput c
  pub no_store_fault : (recording : List ℕ) → command ≡ Run recording
      → Rose (c.before.stores recording) (c.after.stores recording) → ⊥

-- The told recording of a whole run succeeds, for the lines of the input or for a query, but for want of memory, where
-- no load of its name and no write failed, and the input, if its lines are asked for, is fine.
pub record IsPromisedAnswers (c : Call) : Type 0 where
  pub name : List ℕ
  pub at : List ℕ → Option (List ℕ)
  pub all : List ℕ
  pub source : List ℕ
  pub header : Header
  pub program : Program
  pub schedule : List ℕ
  pub asked : AsksRecording c.words name
  pub told : c.before.held ≡ Some at
  pub there : at name ≡ Some all
  pub of_run : IsRunRecorded source header program schedule (take MOST_RECORDING all)
  pub no_load_fault : HasFailedLoad c name → ⊥
  pub no_write_fault : HasFailedWrite c → ⊥
  pub fine : Asks c.words (on_recording name) → IsFineInput c

-- the schedule is that of a run of the loaded source, or of a drill's, that came to its close, or that of the run again
-- by which `rerun` answers yes
pub data IsTaken (c : Call) : Type 0 where
  by_run : (command : Command) (read : WasRead c command) → IsWholeRun read.program read.options c.schedule → IsTaken c
  by_drill : (number : ℕ) (program : Program) → Asks c.words (on_number number) → IsRead (generated number) program
      → IsWholeRun program drill_options c.schedule → IsTaken c
  by_rerun : (name bytes : List ℕ) (r : Recording) → Asks c.words (on_query name Rerun)
      → Loads c.before.held name MOST_RECORDING bytes → IsAccepted bytes r
      → IsVerdict (recorded_setting r) r.logs (Yes c.schedule) → IsTaken c

-- ---- all clauses of the top call but that on the input

pub record IsOutcome (c : Call) : Type 0 where
  pub range : c.status < 9
  pub done : c.status ≡ 0 → WasDone c
  pub refused : c.status ≡ 1 → WasRefused c
  pub usage : c.status ≡ 2 → (asked c.words ≡ None) × Wrote c usage
  pub read : c.status ≡ 3 → ReadFailed c
  pub write : c.status ≡ 4 → WriteFailed c
  pub memory : c.status ≡ 5 → MemoryRanOut c
  -- and the loaded bytes are the recording of no whole run
  pub recording : c.status ≡ 6 → (bytes : List ℕ) × RecordingRefused c bytes
      × ((source : List ℕ) (header : Header) (program : Program) (h : List ℕ)
      → IsRunRecorded source header program h bytes → ⊥)
  pub lines : (c.status ≡ 7) ⊎ (c.status ≡ 8) → RanWhole c ⊎ WasAnswered c
  pub complete : IsPromised c → (c.status ≡ 0) ⊎ (c.status ≡ 5)
  pub answers : IsPromisedAnswers c → (c.status ≡ 0) ⊎ (c.status ≡ 5)
  -- a drill succeeds, but for want of memory, where no write failed
  pub drills : (number : ℕ) → Asks c.words (on_number number) → (HasFailedWrite c → ⊥) → (c.status ≡ 0) ⊎ (c.status ≡ 5)
  pub schedule : (c.schedule ≡ []) ⊎ IsTaken c
  pub no_run : (c.status ≡ 1) ⊎ (c.status ≡ 2) → c.schedule ≡ []
  -- nothing is stored by a status before any store, or where the words ask for none
  pub shelf : (c.status ≡ 1) ⊎ ((c.status ≡ 2) ⊎ ((c.status ≡ 3)
      ⊎ ((name recording : List ℕ) (options : Options) → Asks c.words (on_source (Run recording) name options) → ⊥)))
      → (c.after.held ≡ c.before.held) × ((n : List ℕ) → c.after.stores n ≡ c.before.stores n)
  pub others : (name recording : List ℕ) (options : Options) → Asks c.words (on_source (Run recording) name options)
      → StoreFails c.before.held c.after.held recording

-- a status before any read of the input, or words that ask for no line of it
abbrev pub ReadsNothing : List (Bor (List ℕ)) → (status : ℕ) → Type 0
ReadsNothing words status =
    (status ≡ 1) ⊎ ((status ≡ 2) ⊎ (((name : List ℕ) (options : Options) → Asks words (on_source Flow name options) → ⊥)
    × ((name : List ℕ) → Asks words (on_recording name) → ⊥)))
