-- What is answered for an item of a run with races.
use Rattle.ppd_flow_past.specs.PastSetting.{past_setting}
use Rattle.law_clean.specs.Answers.{CleanOr, clean, is_reached, no_item, unclean, unclean_or, unwritten}
use Rattle.law_clean.specs.Cuts.{cut_logs}
use Rattle.law_clean.specs.Pasts.{first_raced, left_edge}
use Rattle.law_clean.specs.Search.{clean_by, last_wanted}
use Rattle.law_flow.specs.Missing.{write_at}
use Rattle.ppd_clean.specs.ByOrder.{cut_for, is_unclean}
use Rattle.ppd_clean.specs.declared.clean.Clean.{Clean}
use Rattle.ppd_clean.specs.declared.clean_error.CleanError.{CleanError}
use Rattle.ppd_clean.specs.declared.clean_error.CleanError.TheVariants as error
use Rattle.ppd_clean_past.specs.declared.asked.Asked.{Asked}
use Rattle.ppd_model.specs.declared.entry.Logs.{Logs}
use Rattle.ppd_flow.specs.SharedCells.{seens_in}
use Rattle.ppd_graph.specs.Ends.{first_edge}
use Rattle.ppd_graph.specs.Found.{found_edges}
use Rattle.ppd_graph.specs.Seen.{Seen}
use Rattle.ppd_graph.specs.Shared.{Missing, seen_at}
use Rattle.ppd_flow_past.specs.SeenBy.{failed_at, items_in, seen_by}
use Rattle.ppd_model.specs.declared.flow_error.FlowError.{FlowError}
use Rattle.ppd_model.specs.declared.flow_error.FlowError.TheVariants as flow_error
use Rattle.ppd_flow_past.specs.declared.past.Past.{Past}
use Rattle.ppd_model.specs.HappenedBefore.{Before, edge}
use Rattle.ppd_model.specs.RecordedSets.{record_in}
use Rattle.ppd_model.specs.declared.flow.FlowEdge.{FlowEdge}
use Rattle.ppd_model.specs.declared.flow.Item.{Item}
use Rattle.ppd_model.specs.declared.graph.NodeId.{NodeId}
use Rattle.ppd_model.specs.declared.graph.Race.{Race}
use Rattle.std.specs.Prelude.{Err, List, None, Ok, Option, Result, Some, [], false, get_or, if◌then◌else◌, map, nat_le, slice_get, ℕ, ⊤, ◌≡◌}

-- ---- answers

-- this is answered, or want of memory
abbrev pub IsAnswer : CleanOr → Result Clean CleanError → Type 0
IsAnswer x (Ok c) = x ≡ clean c.item c.edges
IsAnswer x (Err (error.Unclean e)) = x ≡ unclean e
IsAnswer x (Err error.NoEvent) = x ≡ no_item
IsAnswer x (Err (error.Diverged q n)) = ⊥
IsAnswer x (Err (error.Sets q n c)) = ⊥
IsAnswer x (Err error.Memory) = ⊤

-- the replay of some interval of process q, from these logs, fails at entry n
abbrev pub Fails : Past → Logs → (q n : ℕ) → Type 0
Fails past cut q n =
    (m : ℕ) × (failed_at (past_setting past) (get_or cut.lists q []) m ≡ Some n)

-- this is answered, where a write may be missing, or a replay fails
abbrev pub IsFound : (ℕ → ℕ → Type 0) → CleanOr → Result Clean CleanError → Type 0
IsFound fails x (Ok c) = x ≡ clean c.item c.edges
IsFound fails x (Err (error.Unclean e)) = x ≡ unclean e
IsFound fails x (Err error.NoEvent) = x ≡ no_item
IsFound fails x (Err (error.Diverged q n)) = fails q n
IsFound fails x (Err (error.Sets q n c)) = x ≡ unwritten (write_at q n c)
IsFound fails x (Err error.Memory) = ⊤

-- nothing happens before itself, as in every record that has a graph
abbrev pub IsOrdered : Past → Type 0
IsOrdered past = (a : NodeId) → Before past.program.now (record_in past.logs.now) a a → ⊥

-- the logs of a past, cut where its races are for an item of interval k of process p
abbrev pub cut_of : Past → List Race → (p k j : ℕ) → Logs
cut_of past races p k j =
    cut_logs
    (last_wanted past.program.now (record_in past.logs.now) races p
    (first_raced past.program.now (record_in past.logs.now) races (get_or past.logs.now.lists p []) p k))
    past.logs.now

-- the interval does not begin in an edge whose past has a race, and a replay from the cut logs fails
abbrev pub Diverges : Past → List Race → (p k j q n : ℕ) → Type 0
Diverges past races p k j q n =
    (is_reached (first_edge (get_or past.logs.now.lists p []) k)
    (first_raced past.program.now (record_in past.logs.now) races (get_or past.logs.now.lists p []) p k)
    ≡ false)
    × Fails past (cut_of past races p k j) q n

-- what is found of item j of interval k of process p of a past with these races
abbrev pub IsCleanBy : Past → List Race → (p k j : ℕ) → Result Clean CleanError → Type 0
IsCleanBy past races p k j result =
    IsFound (Diverges past races p k j)
    (clean_by (past_setting past) past.logs.now races p k j) result

-- ---- as they are found

abbrev pub of_flow : FlowError → CleanError
of_flow (flow_error.Diverged q n) = error.Diverged q n
of_flow flow_error.NoEvent = error.NoEvent
of_flow (flow_error.Sets q n c) = error.Sets q n c
of_flow flow_error.Memory = error.Memory

abbrev pub unclean_error : ℕ → Option ℕ → CleanError
unclean_error p None = error.NoEvent
unclean_error p (Some i) = error.Unclean (edge p i)

-- the interval that is asked reaches an edge whose past has a race, or there is no such item
abbrev pub reached_from : Past → Asked → Option ℕ → CleanOr
reached_from past a o =
    if is_reached (left_edge (get_or past.logs.now.lists a.process []) a.interval) o
    then unclean_or a.process o no_item else no_item

abbrev pub with_edges : Item → Option (Result (List FlowEdge) Missing) → CleanOr
with_edges t None = no_item
with_edges t (Some (Ok es)) = clean t es
with_edges t (Some (Err m)) = unwritten m

-- what is asked, where the replays give these and the item is this one
abbrev pub answer_at : Past → Asked → List Seen → Option Item → CleanOr
answer_at past a xs None = reached_from past a a.first
answer_at past a xs (Some t) =
    if is_unclean past a (seen_at xs a.process) t then unclean_or a.process a.first no_item
    else with_edges t
    (found_edges past.program.now past.plan.now past.logs.now xs a.process a.interval a.item).found

-- the item that replays give
abbrev pub item_at : Asked → List Seen → Option Item
item_at a xs = slice_get (get_or (seen_at xs a.process).items a.interval []) a.item

-- of cut logs
abbrev pub seens_of : Past → Logs → List Seen
seens_of past cut =
    map (λ entries. seen_by (past_setting past) entries) cut.lists

abbrev pub answer_by : Past → Asked → Logs → CleanOr
answer_by past a cut = answer_at past a (seens_of past cut) (item_at a (seens_of past cut))

-- an interval that begins in an edge whose past has a race is not replayed
abbrev pub unless_begun : (begun p : ℕ) → Option ℕ → CleanOr → CleanOr
unless_begun begun p None rest = rest
unless_begun begun p (Some u) rest = if nat_le u begun then unclean (edge p u) else rest

abbrev pub FailsFrom : ℕ → Past → Asked → (q n : ℕ) → Type 0
FailsFrom begun past a q n = (is_reached begun a.first ≡ false) × Fails past (cut_for past a) q n

-- ---- by the parts of a search

abbrev pub AreItems : Past → Asked → Result (List Item) CleanError → Type 0
AreItems past a (Ok items) = items ≡ items_in past a.process a.interval
AreItems past a (Err (error.Diverged q n)) = Fails past past.cut.now q n
AreItems past a (Err error.Memory) = ⊤
AreItems past a (Err error.NoEvent) = ⊥
AreItems past a (Err (error.Sets q n c)) = ⊥
AreItems past a (Err (error.Unclean e)) = ⊥

abbrev pub edges_in : Past → Asked → Option (Result (List FlowEdge) Missing)
edges_in past a =
    (found_edges past.program.now past.plan.now past.logs.now (seens_in past) a.process a.interval a.item).found

abbrev pub AreEdges : Past → Asked → Result (List FlowEdge) CleanError → Type 0
AreEdges past a (Ok es) = edges_in past a ≡ Some (Ok es)
AreEdges past a (Err (error.Diverged q n)) = Fails past past.cut.now q n
AreEdges past a (Err (error.Sets q n c)) = edges_in past a ≡ Some (Err (write_at q n c))
AreEdges past a (Err error.NoEvent) = edges_in past a ≡ None
AreEdges past a (Err error.Memory) = ⊤
AreEdges past a (Err (error.Unclean e)) = ⊥

-- there is such an item, and its past has no race
abbrev pub IsCleanItem : Past → Asked → Option Item → Type 0
IsCleanItem past a o =
    (t : Item) × (o ≡ Some t) × (is_unclean past a (seen_at (seens_in past) a.process) t ≡ false)

-- the item that is asked, where its past has no race
abbrev pub IsItem : Past → Asked → Option Item → Result Item CleanError → Type 0
IsItem past a o (Ok t) = (o ≡ Some t) × (is_unclean past a (seen_at (seens_in past) a.process) t ≡ false)
IsItem past a o (Err e) = IsAnswer (answer_at past a (seens_in past) o) (Err e)
