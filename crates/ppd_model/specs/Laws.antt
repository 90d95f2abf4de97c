-- Laws of the definitions, which hold of every program, plan, budget and schedule.
use Rattle.ppd_model.specs.Setting.{Setting}
use Rattle.ppd_ast.specs.declared.plan.Plan.{Plan}
use Rattle.ppd_ast.specs.declared.program.Program.{Program}
use Rattle.ppd_model.specs.declared.entry.Entry.{Entry}
use Rattle.ppd_model.specs.declared.entry.Entry.TheVariants as entry
use Rattle.ppd_model.specs.FlowbackEdges.{edges, last}
use Rattle.ppd_model.specs.FullTrace.{full_trace, tracing_of}
use Rattle.ppd_model.specs.HappenedBefore.{Before, EdgeBefore, edge, is_before, is_edge_before, node, sync_at}
use Rattle.ppd_model.specs.Intervals.{intervals, items, split_of}
use Rattle.ppd_model.specs.Logs.{close, closed_logs, log_step, loggings}
use Rattle.ppd_model.specs.NearIntervals.{near_intervals}
use Rattle.ppd_model.specs.Numbers.{IsCounted, count_of}
use Rattle.ppd_model.specs.Races.{edges_of_story, races, races_among}
use Rattle.ppd_model.specs.Record.{SharedAccess, accesses, record_of, sync_record}
use Rattle.ppd_model.specs.Schedule.{run, started_world}
use Rattle.ppd_model.specs.States.{state_of, states}
use Rattle.ppd_model.specs.Story.{Moment, Story, Taken, Telling, begun, moment_of, next_event, number_of, story, tell, told, unit_started, values_of_unit, writers_after}
use Rattle.ppd_model.specs.Synchronizations.{Sync}
use Rattle.ppd_model.specs.World.{World, answer, change, need, step, writes_cell}
use Rattle.ppd_model.specs.declared.graph.EdgeId.{EdgeId}
use Rattle.ppd_model.specs.declared.graph.NodeId.{NodeId}
use Rattle.ppd_model.specs.declared.trace.EventId.{EventId}
use Rattle.ppd_sem.specs.declared.proc.Need.TheVariants.{Write}
use Rattle.std.specs.Option.{option_map_or}
use Rattle.std.specs.Prelude.{IsTrue, List, None, Some, [], false, fold, get_or, length, map, pos, slice_get, ℕ, ℤ, ⊤, ◌++◌, ◌<◌, ◌||◌, ◌↔◌, ◌∷◌, ◌≡◌, ◌≤◌, ◌⊎◌}

-- ---- one more step

-- the story of the schedule with a step of p after it
pub record HasOneMoreStep (setting : Setting) (h : List ℕ) (p : ℕ) : Type 0 where
  pub told_is : told setting (h ++ p ∷ []) ≡ tell setting.program setting.plan (told setting h) p
  pub steps_are : (story setting (h ++ p ∷ [])).steps
      ≡ change (λ xs. xs ++ (moment_of setting.program setting.plan (told setting h) p).taken ∷ []) p
      (story setting h).steps
  pub cells_are : (story setting (h ++ p ∷ [])).cells
      ≡ (step setting.program setting.plan (told setting h).world p).shared
  pub writers_are : (story setting (h ++ p ∷ [])).writers
      ≡ writers_after (told setting h) p (need setting.program setting.plan (told setting h).world p)

-- each story grows by what the step is
abbrev pub StoriesGrow : Type 0
StoriesGrow =
    (setting : Setting) (h : List ℕ) (p : ℕ) → HasOneMoreStep setting h p

-- the world of which a story is told is the one that the schedule comes to
abbrev pub StoriesAreOfRuns : Type 0
StoriesAreOfRuns =
    (setting : Setting) (h : List ℕ) (w : World) → run setting h ≡ Some w
    → (told setting h).world ≡ w

-- ---- a process by its own steps

-- the states of the processes, as the world, the traces, the intervals and the logs of a story have them
pub record HasOneState (setting : Setting) (h : List ℕ) : Type 0 where
  pub worlds : (told setting h).world.procs ≡ states setting (story setting h)
  pub logged : map (λ l. l.proc) (loggings setting h)
      ≡ states setting (story setting h)
  pub traced : (s : Story) (p : ℕ) (steps : List Taken)
      → (tracing_of setting s p steps).proc ≡ state_of setting p steps
  pub split : (s : Story) (p : ℕ) (steps : List Taken)
      → (split_of setting s p steps).trace ≡ tracing_of setting s p steps

-- each process comes to what its own steps lead to
abbrev pub ProcessesFollowTheirSteps : Type 0
ProcessesFollowTheirSteps =
    (setting : Setting) (h : List ℕ) → HasOneState setting h

-- ---- logs

-- the next step of process p as a log needs it, without a tag
abbrev pub logged_moment : Program → Plan → World → ℕ → Moment
logged_moment program plan w p =
    let n = need program plan w p in
    record {
      taken = record { need = n; answer = answer w n; writer = None; number = number_of w n };
      unit_values = option_map_or (values_of_unit plan (step program plan w p).shared) (unit_started n) [];
    }

-- a step adds its entries to the log of its process
abbrev pub LogsGrow : Type 0
LogsGrow =
    (setting : Setting) (h : List ℕ) (p : ℕ)
    → loggings setting (h ++ p ∷ [])
    ≡ change (λ l. log_step setting.program setting.plan l
    (logged_moment setting.program setting.plan (told setting h).world p)) p
    (loggings setting h)

-- ---- equal stories

-- an entry without the values of a unit
abbrev pub without_values : Entry → Entry
without_values (entry.Unit u values) = entry.Unit u []
without_values e = e

-- all that is found in two schedules is the same, of the logs but for the values of units
pub record HasOneHistory (setting : Setting) (h h' : List ℕ) : Type 0 where
  pub traces : full_trace setting (story setting h)
      ≡ full_trace setting (story setting h')
  pub records : sync_record setting h ≡ sync_record setting h'
  pub all_accesses : (p : ℕ) → accesses (story setting h) p ≡ accesses (story setting h') p
  pub all_races : races setting h ≡ races setting h'
  pub all_intervals : (p : ℕ)
      → intervals setting (story setting h) p
      ≡ intervals setting (story setting h') p
  pub all_items : (p k : ℕ)
      → items setting (story setting h) p k
      ≡ items setting (story setting h') p k
  pub all_edges : (p k j : ℕ)
      → edges setting (story setting h) p k j
      ≡ edges setting (story setting h') p k j
  pub last_values : (c : ℕ)
      → last setting (story setting h) c
      ≡ last setting (story setting h') c
  pub near : (p k j : ℕ)
      → near_intervals setting (story setting h) p k j
      ≡ near_intervals setting (story setting h') p k j
  pub all_logs : map (map without_values) (closed_logs setting h).lists
      ≡ map (map without_values) (closed_logs setting h').lists
  pub all_ends : (close setting h).ends ≡ (close setting h').ends

-- two schedules with one story have one history
abbrev pub StoriesTellAll : Type 0
StoriesTellAll =
    (setting : Setting) (h h' : List ℕ)
    → story setting h ≡ story setting h' → HasOneHistory setting h h'

-- ---- happened before

-- the tests answer true exactly where the relations hold
abbrev pub IsTestOfBefore : Type 0
IsTestOfBefore =
    (program : Program) (syncs : List (List Sync)) (a b : NodeId)
    → IsTrue (is_before program syncs a b) ↔ Before program syncs a b

-- the same of edges
abbrev pub IsTestOfEdges : Type 0
IsTestOfEdges =
    (program : Program) (syncs : List (List Sync)) (a b : EdgeId)
    → IsTrue (is_edge_before program syncs a b) ↔ EdgeBefore program syncs a b

-- no synchronization ends the last edge of process p, which is before no edge
pub record IsOpenEnded (program : Program) (syncs : List (List Sync)) (p : ℕ) : Type 0 where
  pub no_end : sync_at syncs (node p (length (get_or syncs p []))) ≡ None
  pub before_none : (q j : ℕ) → j ≤ length (get_or syncs q [])
      → EdgeBefore program syncs (edge p (length (get_or syncs p []))) (edge q j) → ⊥

-- so it is with the last edge of every process
abbrev pub LastEdgesAreOpen : Type 0
LastEdgesAreOpen = (program : Program) (syncs : List (List Sync)) (p : ℕ) → IsOpenEnded program syncs p

-- ---- numbers

-- the synchronizations of one kind and object have the numbers after its first count through its last, each once
abbrev pub SynchronizationsAreCounted : Type 0
SynchronizationsAreCounted =
    (setting : Setting) (h : List ℕ)
    → IsCounted (count_of (started_world setting)) (count_of (told setting h).world)
    (sync_record setting h)

-- ---- races

-- an access of process p and one of process q, of one cell that is there, one of them a write
pub record DoConflict (s : Story) (p q : ℕ) (a b : SharedAccess) : Type 0 where
  pub apart : p ≡ q → ⊥
  pub first : (m : ℕ) × (slice_get (accesses s p) m ≡ Some a)
  pub second : (n : ℕ) × (slice_get (accesses s q) n ≡ Some b)
  pub cell : a.cell ≡ b.cell
  pub there : a.cell < length s.cells
  pub writes : IsTrue (a.writes || b.writes)

-- where no race is listed, all accesses that conflict are ordered by their edges
abbrev pub NoRaceMeansOrder : Type 0
NoRaceMeansOrder =
    (program : Program) (s : Story) → races_among (edges_of_story program s) ≡ []
    → (p q : ℕ) (a b : SharedAccess) → DoConflict s p q a b
    → EdgeBefore program (record_of s) (edge p a.edge) (edge q b.edge)
    ⊎ EdgeBefore program (record_of s) (edge q b.edge) (edge p a.edge)

-- ---- tags

-- what is told after the steps of h, from t on
abbrev pub told_on : Program → Plan → Telling → List ℕ → Telling
told_on program plan t h = fold (tell program plan) t h

-- no step of the schedule from here on writes the cell
abbrev pub IsUnwritten : Program → Plan → ℕ → Telling → List ℕ → Type 0
IsUnwritten program plan c t [] = ⊤
IsUnwritten program plan c t (p ∷ h) =
    (writes_cell c (need program plan t.world p) ≡ false) × IsUnwritten program plan c (tell program plan t p) h

-- in the schedule from t on, the event is that of the last step that writes the cell, and writes this value
pub record IsLastWrite (program : Program) (plan : Plan) (c : ℕ) (t : Telling) (h : List ℕ) (value : ℤ)
    (e : EventId) : Type 0 where
  pub before : List ℕ
  pub process : ℕ
  pub after : List ℕ
  pub schedule_is : h ≡ before ++ process ∷ after
  pub writes : need program plan (told_on program plan t before).world process ≡ Write c value
  pub event_is : e ≡ next_event (told_on program plan t before) process
  pub unwritten : IsUnwritten program plan c (tell program plan (told_on program plan t before) process) after

-- no step from t on writes the cell, whose tag and value are as at t
pub record IsAtStart (program : Program) (plan : Plan) (c : ℕ) (t now : Telling) (h : List ℕ) : Type 0 where
  pub unwritten : IsUnwritten program plan c t h
  pub tag_is : get_or now.writers c None ≡ get_or t.writers c None
  pub value_is : get_or now.world.shared c (pos 0) ≡ get_or t.world.shared c (pos 0)

-- the cell has the tag and the value of the last write
pub record IsTagged (program : Program) (plan : Plan) (c : ℕ) (t now : Telling) (h : List ℕ) : Type 0 where
  pub event : EventId
  pub tag_is : get_or now.writers c None ≡ Some event
  pub last : IsLastWrite program plan c t h (get_or now.world.shared c (pos 0)) event

-- what is told before the first step
abbrev pub begins : Setting → Telling
begins setting = begun (started_world setting)

-- the tag of a shared cell is the event that last wrote it, with its value, and none where nothing did
abbrev pub TagsAreLastWrites : Type 0
TagsAreLastWrites =
    (setting : Setting) (h : List ℕ) (c : ℕ) → c < length setting.program.starts
    → IsAtStart setting.program setting.plan c (begins setting) (told setting h) h
    ⊎ IsTagged setting.program setting.plan c (begins setting) (told setting h) h
