-- What is known of all logs that the index accepts. Last values and edges are searched for among the items that replays
-- give: of the logs of a run they are the run's (`LogsTellRuns`); of any others it is said here that they are there or
-- why they are not, and not which they are.
use Rattle.ppd_model.specs.Setting.{Setting}
use Rattle.ppd_race.specs.Races.{races_among, edges_of_logs}
use Rattle.std.specs.Prelude.{◌≡◌, ◌<◌, ℕ, List, length, map, slice_get, Some, Result, Ok, Err, ⊤}
use Rattle.law_flow.specs.Missing.{AreIndexed, IsMissingWrite, write_at}
use Rattle.ppd_model.specs.declared.entry.Logs.{Logs}
use Rattle.ppd_model.specs.declared.flow_error.FlowError.{FlowError}
use Rattle.ppd_model.specs.declared.flow_error.FlowError.TheVariants.{Diverged, NoEvent, Sets, Memory}
use Rattle.ppd_model.specs.Extents.{extents}
use Rattle.ppd_model.specs.declared.flow.Item.{Item}
use Rattle.ppd_session.specs.Known.{Known, Last, known_of_logs, of_extent, seens, told_of_entries, unless_raced}
use Rattle.ppd_session.specs.Texts.{flow_at, told_at}

-- something is found, or there is a reason why it is not: an interval of the process is told to fail at that entry; or
-- a write of the cell is missing that the entry records
abbrev pub IsFoundOrNot : {A : Type 0} → Setting → Logs → Known → Result A FlowError → Type 0
IsFoundOrNot setting logs x (Ok found) = ⊤
IsFoundOrNot setting logs x (Err (Diverged q n)) = (k : ℕ) × (told_at x q k ≡ Some (Err n))
IsFoundOrNot setting logs x (Err (Sets q n c)) =
    IsMissingWrite logs (seens setting logs) (write_at q n c)
IsFoundOrNot setting logs x (Err NoEvent) = ⊥
IsFoundOrNot setting logs x (Err Memory) = ⊥

-- this is known of logs: their program and plan, the races of their record and sets, the intervals of their entries
-- and, where there is no race, what the replay of each tells; and then for each shared cell whether its last value is
-- found, and for each item whether its edges are
pub record IsKnownOfLogs (setting : Setting) (logs : Logs) (x : Known) : Type 0 where
  pub program_is : x.program ≡ setting.program
  pub plan_is : x.plan ≡ setting.plan
  pub races : x.races ≡ races_among (edges_of_logs setting.program logs)
  pub intervals : x.intervals ≡ map (λ entries. map of_extent (extents entries)) logs.lists
  pub items : x.items ≡ unless_raced x.races (map (told_of_entries setting) logs.lists)
  pub cells : length x.lasts ≡ length (unless_raced x.races setting.program.starts)
  pub lasts : (c : ℕ) (l : Last) → slice_get x.lasts c ≡ Some l → IsFoundOrNot setting logs x l
  pub flow : (q k j : ℕ) (items : List Item) → told_at x q k ≡ Some (Ok items) → j < length items
      → IsFoundOrNot setting logs x (flow_at x q k j)

-- so it is of all logs that the index accepts with what is known of them by those searches
abbrev pub LogsAreKnown : Type 0
LogsAreKnown =
    (setting : Setting) (logs : Logs)
    → AreIndexed setting.program setting.plan logs → IsKnownOfLogs setting logs (known_of_logs setting logs)
