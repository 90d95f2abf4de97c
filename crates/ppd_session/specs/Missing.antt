-- What `Sets` says of a line: a write that the entry records is missing.
use Rattle.ppd_model.specs.Setting.{Setting}
use Rattle.std.specs.Prelude.{◌≡◌, ℕ, List, Some, option_map, Result, Err, ⊤}
use Rattle.ppd_model.specs.declared.entry.At.{At}
use Rattle.ppd_model.specs.declared.entry.Logs.{Logs}
use Rattle.ppd_graph.specs.Seen.{Seen}
use Rattle.ppd_model.specs.declared.flow_error.FlowError.TheVariants as flow_error
use Rattle.ppd_model.specs.declared.graph.Race.{Race}
use Rattle.ppd_session.specs.Known.{Known, known_with, seens}
use Rattle.ppd_session.specs.Sessions.{error_of}
use Rattle.ppd_session.specs.Texts.{failure_of, flow_at}
use Rattle.ppd_session.specs.declared.reply.SessionError.{SessionError}
use Rattle.ppd_session.specs.declared.reply.SessionError.TheVariants.{Sets}
use Rattle.law_flow.specs.Missing.{AreIndexed, IsMissingWrite, write_at}

-- a write that the entry records is missing, where this is seen of the processes
abbrev pub IsMissingAt : Logs → List Seen → At → Type 0
IsMissingAt logs xs at = (c : ℕ) × IsMissingWrite logs xs (write_at at.process at.entry c)

-- where `Sets` is answered of what is known of logs that the index accepts, such a write is missing
abbrev pub IsCauseOfSets : {A : Type 0} → Known → Result A SessionError → Type 0
IsCauseOfSets x (Err (Sets at)) =
    (setting : Setting) (logs : Logs) (races : List Race)
    → x ≡ known_with setting logs races → AreIndexed setting.program setting.plan logs
    → IsMissingAt logs (seens setting logs) at
IsCauseOfSets x result = ⊤

-- of logs with these races: where the edges of an item, or what a line asks for, are not found for want of a write,
-- that write is missing
pub record AreMissing (setting : Setting) (logs : Logs) (races : List Race) : Type 0 where
  pub flow : (p k j q n c : ℕ) → flow_at (known_with setting logs races) p k j ≡ Err (flow_error.Sets q n c)
      → IsMissingWrite logs (seens setting logs) (write_at q n c)
  pub lines : (line : List ℕ) (at : At)
      → option_map error_of (failure_of (known_with setting logs races) line) ≡ Some (Sets at)
      → IsMissingAt logs (seens setting logs) at

-- so it is of all logs that the index accepts
abbrev pub MissingWritesAreTold : Type 0
MissingWritesAreTold =
    (setting : Setting) (logs : Logs) (races : List Race)
    → AreIndexed setting.program setting.plan logs → AreMissing setting logs races
