-- Laws of runs with races: replays of logs that are cut where no race was, and the edges of clean items by them.
use Rattle.law_steps.specs.Policies.{setting_by}
use Rattle.ppd_model.specs.Setting.{Setting}
use Rattle.std.specs.Prelude.{◌≡◌, ℕ, ◌<◌, ◌≤◌, true, List, [], ◌∷◌, ◌++◌, length, is_some, option_map, slice_get, Option, Some, None, Ok, get_or, filter_map}
use Rattle.ppd_ast.specs.Valid.{IsValid}
use Rattle.ppd_ast.specs.declared.plan.Plan.{Plan}
use Rattle.ppd_ast.specs.declared.plan.Policy.{Policy}
use Rattle.ppd_ast.specs.declared.program.Program.{Program}
use Rattle.ppd_blocks.specs.Blocks.{plan_of}
use Rattle.ppd_model.specs.declared.entry.Entry.{Entry}
use Rattle.ppd_model.specs.declared.entry.Logs.{Logs}
use Rattle.ppd_model.specs.IntervalLogs.{interval_log}
use Rattle.ppd_index.specs.Refusals.{first_in_lists}
use Rattle.ppd_model.specs.declared.graph.EdgeId.{EdgeId}
use Rattle.ppd_model.specs.FlowbackEdges.{edges, part_at}
use Rattle.ppd_model.specs.Forward.{edge_in}
use Rattle.ppd_model.specs.Intervals.{Part, Span, Split, splits}
use Rattle.ppd_model.specs.Logs.{closed_logs, log_of}
use Rattle.ppd_model.specs.Races.{races}
use Rattle.ppd_model.specs.Schedule.{IsWhole, run}
use Rattle.ppd_model.specs.Story.{moment_of, story, told}
use Rattle.ppd_model.specs.Synchronizations.{sync_of}
use Rattle.ppd_model.specs.World.{World}
use Rattle.law_steps.specs.Theorem.Laws.{modelled_of, replay_of}
use Rattle.ppd_graph.specs.Found.{found_edges}
use Rattle.law_flow.specs.Edges.SharedEdges.{all_seen}
use Rattle.law_clean.specs.Answers.{answer_of}
use Rattle.law_clean.specs.Cuts.{cut_logs, stop}
use Rattle.law_clean.specs.Ordered.{IsUnracedIn}
use Rattle.law_clean.specs.Pasts.{is_clean, lies}
use Rattle.law_clean.specs.Search.{clean_by}

-- the log of process p after a beginning of a schedule, cut off there
abbrev pub cut_after : Setting → List ℕ → ℕ → List Entry
cut_after setting g p =
    (log_of setting p (get_or (told setting g).moments p [])).entries ++ stop ∷ []

-- in a whole schedule of a valid program with the plan of a policy, racy or not, process p does its synchronization i
-- after `before`, and no race has an edge of p up to the one that it ends. Then each interval of p's log, cut off after
-- that synchronization, is replayed to what it has by then
abbrev pub CutsAreReplayed : Type 0
CutsAreReplayed =
    (program : Program) (policy : Policy) (budget : ℕ) (before rest : List ℕ) (p i k : ℕ) (x : Split)
    → IsValid program → IsWhole (setting_by program policy budget) ((before ++ p ∷ []) ++ rest)
    → edge_in (setting_by program policy budget) before p ≡ i
    → is_some (sync_of (moment_of program (plan_of program policy)
    (told (setting_by program policy budget) before) p).taken) ≡ true
    → p < length (told (setting_by program policy budget) before).world.procs
    → ((e : ℕ) → e ≤ i → IsUnracedIn (setting_by program policy budget) ((before ++ p ∷ []) ++ rest) p e)
    → slice_get (splits (setting_by program policy budget)
    (story (setting_by program policy budget) (before ++ p ∷ []))) p ≡ Some x
    → replay_of (setting_by program policy budget) (interval_log (plan_of program policy)
    (cut_after (setting_by program policy budget) (before ++ p ∷ []) p) k)
    ≡ modelled_of x (slice_get x.spans k)

-- in a schedule, racy or not: the search over what its processes are in their intervals finds the edges of each clean
-- item
abbrev pub CleanEdgesAreFound : Type 0
CleanEdgesAreFound =
    (program : Program) (policy : Policy) (budget : ℕ) (h : List ℕ) (w : World) (p k j : ℕ) (x : Split) (part : Part)
    → IsValid program → run (setting_by program policy budget) h ≡ Some w
    → slice_get (splits (setting_by program policy budget)
    (story (setting_by program policy budget) h)) p ≡ Some x
    → part_at x k j ≡ Some part
    → p < length (story (setting_by program policy budget) h).steps
    → (lies (get_or (closed_logs (setting_by program policy budget) h).lists p []) x part).edge
    ≤ length (filter_map sync_of (get_or (story (setting_by program policy budget) h).steps p []))
    → is_clean program (story (setting_by program policy budget) h) p
    (lies (get_or (closed_logs (setting_by program policy budget) h).lists p []) x part) ≡ true
    → (found_edges program (plan_of program policy) (closed_logs (setting_by program policy budget) h)
    (all_seen (setting_by program policy budget) h) p k j).found
    ≡ option_map (λ es. Ok es)
    (edges (setting_by program policy budget) (story (setting_by program policy budget) h) p k j)

-- in a whole schedule of a valid program with the plan of a policy, racy or not: what is found of an item by its logs
-- and the replays of cut ones is what is to be answered
abbrev pub AnswersAreOfRuns : Type 0
AnswersAreOfRuns =
    (program : Program) (policy : Policy) (budget : ℕ) (h : List ℕ) (p k j : ℕ) (x : Split) (i : Span)
    → IsValid program → IsWhole (setting_by program policy budget) h
    → slice_get (splits (setting_by program policy budget)
    (story (setting_by program policy budget) h)) p ≡ Some x
    → slice_get x.spans k ≡ Some i
    → clean_by (setting_by program policy budget) (closed_logs (setting_by program policy budget) h)
    (races (setting_by program policy budget) h) p k j
    ≡ answer_of (setting_by program policy budget) h p k j

-- of any logs, honest or not: where none of the lists is refused, none of the cut ones is
abbrev pub CutsAreAccepted : Type 0
CutsAreAccepted =
    (program : Program) (plan : Plan) (last : ℕ → Option ℕ) (logs : Logs)
    → first_in_lists program plan 0 logs.lists ≡ None
    → first_in_lists program plan 0 (cut_logs last logs).lists ≡ None
