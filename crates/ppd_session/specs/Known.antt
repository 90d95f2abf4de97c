-- What is known of a run or of a recording: its program and plan, its races, and the intervals of each process with
-- their items.
use Rattle.ppd_model.specs.Setting.{Setting}
use Rattle.ppd_ast.specs.declared.plan.Plan.{Plan}
use Rattle.ppd_ast.specs.declared.program.Program.{Program}
use Rattle.ppd_model.specs.Replay.{replay}
use Rattle.ppd_model.specs.IntervalLogs.{indexed, log_by}
use Rattle.ppd_model.specs.declared.entry.At.{At}
use Rattle.ppd_model.specs.declared.entry.Entry.{Entry}
use Rattle.ppd_model.specs.declared.entry.Logs.{Logs}
pub use Rattle.ppd_flow.specs.Answers.{answer_if}
use Rattle.ppd_flow.specs.SharedCells.{answer_of}
use Rattle.ppd_graph.specs.Found.{found_edges}
pub use Rattle.ppd_graph.specs.Seen.{Seen}
use Rattle.ppd_graph.specs.Shared.{found_last}
use Rattle.ppd_flow_past.specs.ByReplays.{first_failed}
pub use Rattle.ppd_flow_past.specs.SeenBy.{told_by}
use Rattle.ppd_flow_past.specs.SeenBy.{seen_by}
use Rattle.ppd_model.specs.declared.flow_error.FlowError.{FlowError}
use Rattle.ppd_model.specs.declared.flow_error.FlowError.TheVariants as flow_error
use Rattle.ppd_model.specs.declared.flow_error.FlowError.TheVariants.{NoEvent}
use Rattle.ppd_model.specs.Extents.{Extent, extents}
use Rattle.ppd_model.specs.FlowbackEdges.{edges, last}
use Rattle.ppd_model.specs.Intervals.{Split, items_of, splits}
use Rattle.ppd_model.specs.Races.{edges_of_story, races_among}
use Rattle.ppd_model.specs.Story.{story}
use Rattle.ppd_model.specs.declared.flow.FlowEdge.{FlowEdge}
use Rattle.ppd_model.specs.declared.flow.Item.{Item}
use Rattle.ppd_model.specs.declared.flow.Origin.{Origin}
use Rattle.ppd_model.specs.declared.graph.Race.{Race}
use Rattle.ppd_model.specs.declared.tracing.Story.{Story}
use Rattle.ppd_race.specs.Races.{edges_of_logs}
use Rattle.std.specs.List.{enumerate_from, range_with_len}
use Rattle.std.specs.Prelude.{Bool, Err, List, None, Ok, Option, Result, Some, [], is_some, length, map, ok_or, slice_get, ℕ, ℤ, ◌∷◌}
use Rattle.std.specs.Result.{result_unwrap_or}

-- an interval: its block, the interval directly round it, and whether it was left
pub record Interval : Type 0 where
  pub block : ℕ
  pub parent : Option ℕ
  pub closed : Bool

-- what is told of an interval: its items, or the number of the entry with which its replay cannot go on
abbrev pub Told : Type 0
Told = Result (List Item) ℕ

-- what is told of a shared cell: its last value with the write of it, or why that is not found
abbrev pub Last : Type 0
Last = Result (ℤ × Origin) FlowError

-- what is told of an item: its flowback edges, that there is no such item, or why they are not found
abbrev pub Flow : Type 0
Flow = Result (List FlowEdge) FlowError

pub record Known : Type 0 where
  pub program : Program
  pub plan : Plan
  pub races : List Race
  pub intervals : List (List Interval)
  pub items : List (List Told)
  pub lasts : List Last
  pub flow : List (List (List Flow))

-- what may depend on the order of shared accesses is not told where there is a race
abbrev pub unless_raced : {A : Type 0} → List Race → List A → List A
unless_raced [] xs = xs
unless_raced (r ∷ rs) xs = []

-- of each process from number p on, for each of its intervals: for each item that is told of it
abbrev pub of_processes : (ℕ → ℕ → ℕ → Flow) → (p : ℕ) → List (List Told) → List (List (List Flow))
of_processes f p rows =
    map
    (λ ts. map (λ t. map (f ts.0 t.0) (range_with_len 0 (length (result_unwrap_or t.1 [])))) (enumerate_from 0 ts.1))
    (enumerate_from p rows)

-- ---- of a run

-- the items of each interval of a process
abbrev pub told_of_split : Split → List Told
told_of_split x = map (λ i. Ok (items_of x i)) x.spans

-- what is known of a story
abbrev pub known_of_story : Setting → Story → Known
known_of_story setting s = record {
  program = setting.program;
  plan = setting.plan;
  races = races_among (edges_of_story setting.program s);
  intervals = map
      (λ x. map (λ i. record { block = i.block; parent = slice_get i.round 0; closed = is_some i.closed }) x.spans)
      (splits setting s);
  items = unless_raced (races_among (edges_of_story setting.program s)) (map told_of_split (splits setting s));
  lasts = unless_raced (races_among (edges_of_story setting.program s))
      (map (λ c. Ok (last setting s c)) (range_with_len 0 (length setting.program.starts)));
  flow = of_processes (λ p k j. ok_or (edges setting s p k j) NoEvent) 0
      (unless_raced (races_among (edges_of_story setting.program s)) (map told_of_split (splits setting s)));
}

-- what is known of the run by a schedule
abbrev pub known_of_run : Setting → List ℕ → Known
known_of_run setting h = known_of_story setting (story setting h)

-- ---- of logs

abbrev pub of_extent : Extent → Interval
of_extent x = record { block = x.block; parent = x.parent; closed = x.closed }

-- the items of each interval of a process, by its replay from its own log
abbrev pub told_of_entries : Setting → List Entry → List Told
told_of_entries setting entries =
    map (λ i. told_by (replay setting.program setting.plan (log_by setting.plan i) setting.budget).answer)
    (indexed entries)

-- what the replays of each process give
abbrev pub seens : Setting → Logs → List Seen
seens setting logs = map (λ entries. seen_by setting entries) logs.lists

-- this is found, where no replay fails
abbrev pub unless_failed : {A : Type 0} → Option At → Result A FlowError → Result A FlowError
unless_failed None found = found
unless_failed (Some at) found = Err (flow_error.Diverged at.process at.entry)

-- the last value of a cell by the replays that the search for its last write needs
abbrev pub last_by : Setting → Logs → ℕ → Last
last_by setting logs c =
    let search = found_last setting.program logs (seens setting logs) c in
    unless_failed (first_failed setting logs search.replays) (answer_of search.found)

-- the edges of item j of interval k of process p by the replays that the search for them needs
abbrev pub flow_by : Setting → Logs → ℕ → ℕ → ℕ → Flow
flow_by setting logs p k j =
    let search = found_edges setting.program setting.plan logs (seens setting logs) p k j in
    unless_failed (first_failed setting logs search.replays) (answer_if search.found)

-- what is known of logs that have these races: the intervals of their entries, and by replay their items, the last
-- values of shared cells and the edges of items
abbrev pub known_with : Setting → Logs → List Race → Known
known_with setting logs races = record {
  program = setting.program;
  plan = setting.plan;
  races = races;
  intervals = map (λ entries. map of_extent (extents entries)) logs.lists;
  items = unless_raced races (map (told_of_entries setting) logs.lists);
  lasts = unless_raced races (map (last_by setting logs) (range_with_len 0 (length setting.program.starts)));
  flow = of_processes (flow_by setting logs) 0
      (unless_raced races (map (told_of_entries setting) logs.lists));
}

-- what is known of logs: the races are those of their record and sets
abbrev pub known_of_logs : Setting → Logs → Known
known_of_logs setting logs = known_with setting logs (races_among (edges_of_logs setting.program logs))
