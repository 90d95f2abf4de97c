-- What a command comes to, by the schedule that was taken.
use Rattle.ppd_top.specs.declared.loads.TheConstants.{MOST_BYTES, MOST_RECORDING}
use Rattle.std.specs.Prelude.{◌≡◌, ◌≢◌, ◌⊎◌, ℕ, List, [], Option, None, codes}
use Rattle.ppd_ast.specs.declared.program.Program.{Program}
use Rattle.ppd_check.specs.Read.{IsRead, IsRefused}
use Rattle.ppd_top_drill.specs.Drills.{generated}
use Rattle.ppd_io.specs.Content.{Loads}
use Rattle.ppd_io.specs.declared.shelf.ShelfError.{ShelfError}
use Rattle.ppd_io.specs.declared.shelf.ShelfError.TheVariants as shelf
use Rattle.ppd_check.specs.declared.error.SourceError.{SourceError}
use Rattle.ppd_check.specs.declared.error.SourceError.TheVariants as source
use Rattle.ppd_top_commands.specs.Commands.{DidNothing, Flows, IsWholeRun, Keeping, Records, Shows, keeping}
pub use Rattle.ppd_top_requests.specs.declared.options.Options.{Options}
use Rattle.ppd_top.specs.Call.{Call, Devices, HasFailedLoad, LeftShelf}
use Rattle.ppd_top_commands.specs.Output.{AppendsFront, Finished, IsUnread}
use Rattle.ppd_text_refusals.specs.Sources.{refused}
use Rattle.ppd_top.specs.Top.{drill_options, out_of, usage}
use Rattle.ppd_top.specs.Queries.{Gives}
use Rattle.ppd_top_requests.specs.Questions.{Query}
use Rattle.ppd_top_requests.specs.Words.{Asks, AsksRecording, Command, asked}
use Rattle.ppd_top_requests.specs.Words.Request.{on_source, on_recording, on_number, on_query}
use Rattle.ppd_top_requests.specs.Words.Command.{Flow, Run, Show}
use Rattle.ppd_codec.specs.declared.recording.Recording.{Recording}
use Rattle.ppd_codec_runs.specs.Recordings.{IsAccepted, IsRefusedBy}
use Rattle.ppd_top_commands.specs.Debugging.{Debugs}

-- ---- a command

-- what a query comes to for an accepted recording: want of memory, or what belongs to it
abbrev pub IsTold : Recording → Query → (schedule : List ℕ) → Option (List ℕ) → Option (List ℕ) → ℕ → ℕ → ℕ → Type 0
IsTold r query schedule old new before now status =
    ((status ≡ 5) × (schedule ≡ []) × (new ≡ old))
    ⊎ ((given : ℕ) × (text : List ℕ) × Gives r query schedule given text
    × Finished old new before now status given text)

-- what a query comes to for the bytes of a recording: want of memory, a refusal, or what belongs to it
pub data Queries (bytes : List ℕ) (query : Query) (schedule : List ℕ) (old new : Option (List ℕ)) (before now : ℕ)
    (status : ℕ) : Type 0 where
  no_query : status ≡ 5 → schedule ≡ [] → new ≡ old → Queries bytes query schedule old new before now status
  query_refused : (line : List ℕ) → IsRefusedBy bytes line → schedule ≡ []
      → Finished old new before now status 6 line → Queries bytes query schedule old new before now status
  queried : (r : Recording) → IsAccepted bytes r → (given : ℕ) (text : List ℕ) → Gives r query schedule given text
      → Finished old new before now status given text → Queries bytes query schedule old new before now status

-- the status of a load that was not done
abbrev pub IsUnloaded : ShelfError → ℕ → Type 0
IsUnloaded shelf.Failed status = status ≡ 3
IsUnloaded shelf.Memory status = status ≡ 5

-- why a source is refused was written, or memory ran out before
abbrev pub Refuses : SourceError → Option (List ℕ) → Option (List ℕ) → ℕ → ℕ → ℕ → Type 0
Refuses error old new before now status =
    ((status ≡ 5) × (new ≡ old)) ⊎ ((error ≢ source.Memory) × Finished old new before now status 1 (refused error))

-- what is written of a drill's run by this schedule: all of it, or a proper prefix where a write failed, or some prefix
-- where memory ran out
pub record WasDrilledBy (program : Program) (schedule : List ℕ) (old new : Option (List ℕ)) (before now : ℕ)
    (status : ℕ) : Type 0 where
  pub whole : IsWholeRun program drill_options schedule
  pub ends : Finished old new before now status 0 (out_of program drill_options schedule (codes "final\n")).text
      ⊎ ((status ≡ 5) × AppendsFront old new (out_of program drill_options schedule (codes "final\n")).text)

-- what a drill comes to for a program: want of memory before there was anything to write, or what it writes
abbrev pub Drills : Program → (schedule : List ℕ) → Option (List ℕ) → Option (List ℕ) → ℕ → ℕ → (status : ℕ) → Type 0
Drills program schedule old new before now status =
    ((status ≡ 5) × (schedule ≡ []) × (new ≡ old)) ⊎ WasDrilledBy program schedule old new before now status

-- what `drill` comes to for a number: want of memory before it had a program, or its program
pub data Drilled (number : ℕ) (schedule : List ℕ) (old new : Option (List ℕ)) (before now : ℕ)
    (status : ℕ) : Type 0 where
  no_program : status ≡ 5 → schedule ≡ [] → new ≡ old → Drilled number schedule old new before now status
  drilled : (program : Program) → IsRead (generated number) program
      → Drills program schedule old new before now status → Drilled number schedule old new before now status

-- ---- the top call

-- shelf and output of them
abbrev pub kept_in : Devices → Keeping
kept_in x = keeping x.held x.stores x.io.written x.io.writes

-- what a call comes to, by how far it came: to words that ask for nothing, to want of memory, to a load that failed, to
-- a refused source, to a program, to a recording, to a drill, or to a query
pub data Comes (c : Call) : Type 0 where
  not_asked : asked c.words ≡ None → LeftShelf c → c.schedule ≡ [] → IsUnread c.before.io c.after.io
      → Finished c.before.io.written c.after.io.written c.before.io.writes c.after.io.writes c.status 2 usage → Comes c
  no_memory : c.status ≡ 5 → LeftShelf c → DidNothing c.schedule c.before.io c.after.io → Comes c
  not_loaded : (command : Command) (name : List ℕ) (options : Options)
      → Asks c.words (on_source command name options) → LeftShelf c
      → c.status ≡ 3 → HasFailedLoad c name → DidNothing c.schedule c.before.io c.after.io → Comes c
  refusal : (command : Command) (name : List ℕ) (options : Options) (bytes : List ℕ) (error : SourceError)
      → Asks c.words (on_source command name options)
      → Loads c.before.held name MOST_BYTES bytes → IsRefused bytes error
      → LeftShelf c → c.schedule ≡ [] → IsUnread c.before.io c.after.io
      → Refuses error c.before.io.written c.after.io.written c.before.io.writes c.after.io.writes c.status → Comes c
  flow_done : (name : List ℕ) (options : Options) (bytes : List ℕ) (program : Program)
      → Asks c.words (on_source Flow name options) → Loads c.before.held name MOST_BYTES bytes → IsRead bytes program
      → LeftShelf c → Flows program options c.schedule c.before.io c.after.io c.status → Comes c
  show_done : (name : List ℕ) (options : Options) (bytes : List ℕ) (program : Program)
      → Asks c.words (on_source Show name options) → Loads c.before.held name MOST_BYTES bytes → IsRead bytes program
      → LeftShelf c → IsUnread c.before.io c.after.io
      → Shows program options c.schedule c.before.io c.after.io c.status → Comes c
  run_done : (name recording : List ℕ) (options : Options) (bytes : List ℕ) (program : Program)
      → Asks c.words (on_source (Run recording) name options)
      → Loads c.before.held name MOST_BYTES bytes → IsRead bytes program
      → IsUnread c.before.io c.after.io
      → Records bytes program options recording c.schedule (kept_in c.before) (kept_in c.after) c.status → Comes c
  recording_not_loaded : (name : List ℕ) → AsksRecording c.words name → LeftShelf c
      → c.status ≡ 3 → HasFailedLoad c name → DidNothing c.schedule c.before.io c.after.io → Comes c
  debug_done : (name bytes : List ℕ) → Asks c.words (on_recording name) → Loads c.before.held name MOST_RECORDING bytes
      → LeftShelf c → c.schedule ≡ [] → Debugs bytes c.before.io c.after.io c.status → Comes c
  drill_done : (number : ℕ) → Asks c.words (on_number number) → LeftShelf c → IsUnread c.before.io c.after.io
      → Drilled number c.schedule c.before.io.written c.after.io.written c.before.io.writes c.after.io.writes c.status
      → Comes c
  query_done : (name : List ℕ) (query : Query) (bytes : List ℕ) → Asks c.words (on_query name query)
      → Loads c.before.held name MOST_RECORDING bytes → LeftShelf c → IsUnread c.before.io c.after.io
      → Queries bytes query c.schedule c.before.io.written c.after.io.written c.before.io.writes c.after.io.writes
      c.status → Comes c
