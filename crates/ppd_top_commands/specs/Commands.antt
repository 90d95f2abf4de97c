-- What the commands on a source come to for its program.
use Rattle.law_steps.specs.Policies.{setting_by}
use Rattle.std.specs.Prelude.{◌≡◌, ◌⊎◌, ℕ, List, [], Option}
use Rattle.ppd_io.specs.Causes.{Rose}
use Rattle.ppd_io.specs.Content.{StoreFails, Stores}
use Rattle.ppd_ast.specs.declared.program.Program.{Program}
use Rattle.ppd_blocks.specs.Blocks.{plan_of}
use Rattle.ppd_model.specs.Logs.{close}
use Rattle.ppd_model.specs.Races.{races}
use Rattle.ppd_model.specs.Schedule.{IsWhole}
use Rattle.ppd_codec_runs.specs.Known.{Known, known_of_run}
use Rattle.ppd_text.specs.Table.{table_of}
use Rattle.ppd_top_requests.specs.declared.options.Options.{Options}
use Rattle.ppd_top_commands.specs.Output.{IsUnread, Standing, Talks, Finished}
use Rattle.ppd_top_commands.specs.Summary.{summary_of}
use Rattle.ppd_codec.specs.declared.recording.Header.{Header}
use Rattle.ppd_codec_runs.specs.Recordings.{IsRunRecorded}

-- ---- the run of a program

-- the schedule is one that the processes take until nobody can take a step
abbrev pub IsWholeRun : Program → Options → List ℕ → Type 0
IsWholeRun program options schedule = IsWhole (setting_by program options.policy options.budget) schedule

-- the summary of that run
abbrev pub summary_of_run : Program → Options → List ℕ → List ℕ
summary_of_run program options schedule =
    summary_of program (close (setting_by program options.policy options.budget) schedule).ends
    (races (setting_by program options.policy options.budget) schedule)

-- what is known of that run
abbrev pub known_of : Program → Options → List ℕ → Known
known_of program options schedule = known_of_run (setting_by program options.policy options.budget) schedule

-- with what a source is run, as its recording says it
abbrev pub header_of : Options → Header
header_of options = record { policy = options.policy; budget = options.budget }

-- ---- a command

-- nothing came to its end, and nothing was read or written
pub record DidNothing (schedule : List ℕ) (a b : Standing) : Type 0 where
  pub no_run : schedule ≡ []
  pub unread : IsUnread a b
  pub written : b.written ≡ a.written

-- a whole schedule was told
pub record WasTold (program : Program) (options : Options) (schedule : List ℕ) (a b : Standing)
    (status : ℕ) : Type 0 where
  pub whole : IsWholeRun program options schedule
  pub talks : Talks (known_of program options schedule) (summary_of_run program options schedule) a b status

-- what `flow` comes to for a program: want of memory before there was anything to write, or what it writes
abbrev pub Flows : Program → Options → (schedule : List ℕ) → (a b : Standing) → (status : ℕ) → Type 0
Flows program options schedule a b status =
    ((status ≡ 5) × DidNothing schedule a b) ⊎ WasTold program options schedule a b status

-- the same of `show`
abbrev pub Shows : Program → Options → (schedule : List ℕ) → (a b : Standing) → (status : ℕ) → Type 0
Shows program options schedule a b status =
    ((status ≡ 5) × DidNothing schedule a b)
    ⊎ ((schedule ≡ []) × Finished a.written b.written a.writes b.writes status 0
    (table_of program (plan_of program options.policy)))

-- how a shelf and an output stand: what they are told to hold, and their counts of stores and writes that failed
pub record Keeping : Type 0 where
  pub held : Option (List ℕ → Option (List ℕ))
  pub stores : List ℕ → ℕ
  pub written : Option (List ℕ)
  pub writes : ℕ

abbrev pub keeping : Option (List ℕ → Option (List ℕ)) → (List ℕ → ℕ) → Option (List ℕ) → ℕ → Keeping
keeping held stores written writes = record { held = held; stores = stores; written = written; writes = writes }

-- a recording was to be stored under a name, and then a summary written: memory ran out, and the shelf is as before, or
-- the store failed, and nothing was written; or the recording was stored
pub data Keeps (IsRecording : List ℕ → Type 0) (name summary : List ℕ) (x y : Keeping) (status : ℕ) : Type 0 where
  not_kept : status ≡ 5 → y.held ≡ x.held → y.written ≡ x.written
      → Keeps IsRecording name summary x y status
  store_failed : status ≡ 4 → Rose (x.stores name) (y.stores name) → StoreFails x.held y.held name
      → y.written ≡ x.written → Keeps IsRecording name summary x y status
  kept : (bytes : List ℕ) → IsRecording bytes → Stores x.held y.held name bytes → StoreFails x.held y.held name
      → Finished x.written y.written x.writes y.writes status 0 summary → Keeps IsRecording name summary x y status

-- a whole schedule was recorded
pub record WasRecorded (source : List ℕ) (program : Program) (options : Options) (name schedule : List ℕ)
    (x y : Keeping) (status : ℕ) : Type 0 where
  pub whole : IsWholeRun program options schedule
  pub keeps : Keeps (IsRunRecorded source (header_of options) program schedule) name
      (summary_of_run program options schedule) x y status

-- nothing came to its end, and nothing was stored or written
pub record KeptNothing (schedule : List ℕ) (x y : Keeping) : Type 0 where
  pub no_run : schedule ≡ []
  pub held : y.held ≡ x.held
  pub stores : (n : List ℕ) → y.stores n ≡ x.stores n
  pub written : y.written ≡ x.written

-- what `run` comes to for a program
abbrev pub Records : (source : List ℕ) → Program → Options → (name schedule : List ℕ) → (x y : Keeping) → (status : ℕ)
    → Type 0
Records source program options name schedule x y status =
    ((status ≡ 5) × KeptNothing schedule x y) ⊎ WasRecorded source program options name schedule x y status
