-- Recordings of whole runs, and which recordings are accepted or refused.
use Rattle.law_steps.specs.Policies.{setting_by}
use Rattle.ppd_model.specs.Setting.{Setting}
use Rattle.std.specs.Prelude.{◌≡◌, ◌≢◌, ℕ, List, [], None, ⊤}
use Rattle.ppd_ast.specs.declared.program.Program.{Program}
use Rattle.ppd_check.specs.Read.{IsRead}
use Rattle.ppd_codec.specs.Recordings.{IsBad, IsDecoded, IsRecordingOf}
use Rattle.ppd_codec.specs.declared.bad.BadBytes.{BadBytes}
use Rattle.ppd_codec.specs.declared.bad.BadBytes.TheVariants as bad
use Rattle.ppd_codec.specs.declared.recording.Header.{Header}
use Rattle.ppd_codec.specs.declared.recording.Recording.{Recording}
use Rattle.ppd_model.specs.declared.entry.Logs.{Logs}
use Rattle.ppd_graph.specs.Refusals.{AreOrdered, IsRefused as IsNoGraph}
use Rattle.ppd_model.specs.declared.bad_sync.BadSync.{BadSync}
use Rattle.ppd_model.specs.declared.bad_sync.BadSync.TheVariants as sync
use Rattle.ppd_index.specs.Refusals.{IsRefused as IsNoIndex, first_in_lists}
use Rattle.ppd_model.specs.declared.bad_log.BadLog.{BadLog}
use Rattle.ppd_model.specs.declared.bad_log.BadLog.TheVariants as log
use Rattle.law_logs.specs.Recording.Lawful.{IsWithinRange}
use Rattle.ppd_model.specs.Logs.{closed_logs}
use Rattle.ppd_model.specs.Schedule.{IsWhole}
use Rattle.ppd_session.specs.Known.{Known, known_of_logs}
use Rattle.ppd_session.specs.Pasts.{BelongTogether}
use Rattle.ppd_text_refusals.specs.Recordings.{refused_bytes, refused_log, refused_sync}
use Rattle.ppd_codec_runs.specs.declared.recalling.NoRecall.{NoRecall}
use Rattle.ppd_codec_runs.specs.declared.recalling.NoRecall.TheVariants.{Refused, Memory}
use Rattle.ppd_codec_runs.specs.declared.recalling.Recalled.{Recalled}

-- ---- recordings of whole runs

-- the setting that a recording keeps
abbrev pub recorded_setting : Recording → Setting
recorded_setting r = record { program = r.program; plan = r.plan; budget = r.header.budget }

-- the logs are those of this whole schedule of the source's program, with the policy's plan and the budget
pub record AreOfRun (source : List ℕ) (header : Header) (program : Program) (h : List ℕ) (logs : Logs) : Type 0 where
  pub accepted : IsRead source program
  pub range : IsWithinRange header
  pub whole : IsWhole (setting_by program header.policy header.budget) h
  pub are : logs ≡ closed_logs (setting_by program header.policy header.budget) h

-- of some whole schedule
pub record AreOfSomeRun (source : List ℕ) (header : Header) (logs : Logs) : Type 0 where
  pub program : Program
  pub schedule : List ℕ
  pub of_run : AreOfRun source header program schedule logs

-- these bytes are the recording of this whole schedule
pub record IsRunRecorded (source : List ℕ) (header : Header) (program : Program) (h : List ℕ)
    (bytes : List ℕ) : Type 0 where
  pub accepted : IsRead source program
  pub whole : IsWhole (setting_by program header.policy header.budget) h
  pub is : IsRecordingOf source header (closed_logs (setting_by program header.policy header.budget) h) bytes

-- ---- which bytes are accepted

-- the bytes record these logs, and the logs have an index and a graph
pub record IsAccepted (bytes : List ℕ) (r : Recording) : Type 0 where
  pub decoded : IsDecoded bytes r
  pub indexed : first_in_lists r.program r.plan 0 r.logs.lists ≡ None
  pub ordered : AreOrdered r.program r.logs

-- what is known of a recording
abbrev pub known_of : Recording → Known
known_of r = known_of_logs (recorded_setting r) r.logs

-- the bytes are refused with this line: they are no recording, else its logs have no index, else they have no graph
pub data IsRefusedBy (bytes : List ℕ) : List ℕ → Type 0 where
  by_bytes : (e : BadBytes) → e ≢ bad.Memory → IsBad bytes e → IsRefusedBy bytes (refused_bytes e)
  by_log : (r : Recording) → IsDecoded bytes r → (e : BadLog) → e ≢ log.Memory
      → IsNoIndex (first_in_lists r.program r.plan 0 r.logs.lists) e → IsRefusedBy bytes (refused_log r.program e)
  by_sync : (r : Recording) → IsDecoded bytes r → first_in_lists r.program r.plan 0 r.logs.lists ≡ None
      → (e : BadSync) → e ≢ sync.Memory → IsNoGraph r.program r.logs e → IsRefusedBy bytes (refused_sync r.program e)

-- why nothing is taken from bytes
abbrev pub IsNotRecalled : List ℕ → NoRecall → Type 0
IsNotRecalled bytes (Refused line) = IsRefusedBy bytes line.items
IsNotRecalled bytes Memory = ⊤

-- what is taken from accepted bytes belongs together
abbrev pub IsRecalled : Recalled → Type 0
IsRecalled r =
    BelongTogether (recorded_setting r.recording) r.recording.logs r.index r.graph r.recording.logs r.index []
