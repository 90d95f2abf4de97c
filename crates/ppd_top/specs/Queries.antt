-- What is answered to what is asked of a recording without an input.
use Rattle.law_clean.specs.Answers.{CleanOr, clean, is_reached, no_item, unclean, unwritten}
use Rattle.law_clean.specs.Cuts.{cut_logs}
use Rattle.law_clean.specs.Pasts.{first_raced}
use Rattle.law_clean.specs.Search.{clean_by, last_wanted}
use Rattle.law_flow.specs.Linked.{joined_trace}
use Rattle.ppd_ast.specs.declared.plan.Plan.{Plan}
use Rattle.ppd_ast.specs.declared.program.Program.{Program}
use Rattle.ppd_codec.specs.declared.recording.Recording.{Recording}
use Rattle.ppd_codec_runs.specs.Recordings.{known_of, recorded_setting}
use Rattle.ppd_model.specs.declared.entry.At.{At}
use Rattle.ppd_model.specs.declared.entry.Logs.{Logs}
use Rattle.ppd_graph.specs.Ends.{first_edge}
use Rattle.ppd_flow_past.specs.ByReplays.{first_failed}
use Rattle.ppd_flow_past.specs.SeenBy.{failed_at}
use Rattle.ppd_model.specs.declared.flow_error.FlowError.TheVariants as flow_error
use Rattle.ppd_model.specs.RecordedSets.{record_in}
use Rattle.ppd_model.specs.declared.graph.EdgeId.{EdgeId}
use Rattle.ppd_race.specs.Races.{edges_of_logs, races_among}
use Rattle.ppd_rerun_guide.specs.Verdicts.{IsVerdict}
use Rattle.ppd_rerun_guide.specs.declared.verdict.Verdict.{Verdict}
use Rattle.ppd_rerun_guide.specs.declared.verdict.Verdict.TheVariants as verdict
use Rattle.ppd_session.specs.Known.{Flow, Known, Told, seens}
use Rattle.ppd_session.specs.Questions.{process_named}
use Rattle.ppd_session.specs.Texts.{flow_at, no_event, no_process, races_refusal, refused_replay, told_at}
use Rattle.ppd_session.specs.declared.reply.SessionError.{SessionError}
use Rattle.ppd_session.specs.declared.reply.SessionError.TheVariants.{Diverged, Memory, Sets}
use Rattle.ppd_slice_search.specs.Reach.{IsReach, at, places_of}
use Rattle.ppd_slice_search.specs.declared.reached.ItemAt.{ItemAt}
use Rattle.ppd_slice_search.specs.declared.reached.Reached.{Reached}
use Rattle.ppd_text.specs.CellNames.{process_name}
use Rattle.ppd_text.specs.Edges.{why_text}
use Rattle.ppd_top.specs.VerdictTexts.{verdict_text}
use Rattle.ppd_top_requests.specs.Questions.{ItemAsked, Query}
use Rattle.ppd_top_requests.specs.Questions.Query.{Clean, Rerun, Slice, Whole}
use Rattle.ppd_whole.specs.Intervals.{intervals_from}
use Rattle.ppd_whole.specs.WholeText.{whole_text}
use Rattle.std.specs.List.{flat_map}
use Rattle.std.specs.Option.{option_map_or, option_or}
use Rattle.std.specs.Prelude.{Err, List, None, Ok, Option, Some, [], codes, decimal, false, get_or, if◌then◌else◌, length, nat_lt, ℕ, ◌++◌, ◌≡◌}
use Rattle.std.specs.Result.{result_unwrap_or}

-- ---- refusals, each with what stands in its place where it does not apply

-- process q has no such interval
abbrev pub block_refusal : Known → (q k : ℕ) → Option (List ℕ) → Option (List ℕ)
block_refusal x q k rest = if nat_lt k (length (get_or x.intervals q [])) then rest else Some (codes "? block\n")

-- the interval, of which this is told, has no such item
abbrev pub event_refusal : Option Told → (j : ℕ) → Option (List ℕ)
event_refusal (Some (Ok items)) j = if nat_lt j (length items) then None else Some no_event
event_refusal told j = None

-- ---- slices

-- the items that an item comes from: it is told with these edges
abbrev pub origins_told : Option Told → (j : ℕ) → Flow → List ItemAt
origins_told (Some (Ok items)) j flow = if nat_lt j (length items) then places_of (result_unwrap_or flow []) else []
origins_told told j flow = []

abbrev pub reached_line : Program → Reached → List ℕ
reached_line p r =
    codes "at " ++ decimal r.depth ++ codes " " ++ process_name p r.process ++ codes " " ++ decimal r.interval
    ++ codes " " ++ decimal r.item ++ codes "\n"

-- a line for each item of the slice of item j of interval k of process q
pub record IsSliceText (x : Known) (q k j : ℕ) (text : List ℕ) : Type 0 where
  pub slice : List Reached
  pub is_slice : IsReach
      (λ a. origins_told (told_at x a.process a.interval) a.item (flow_at x a.process a.interval a.item))
      (at q k j) slice
  pub is : text ≡ flat_map (reached_line x.program) slice

-- what is written of the slice, without a run of its own
abbrev pub IsSliceAnswer : Known → ItemAsked → (schedule text : List ℕ) → Type 0
IsSliceAnswer x a schedule text = (schedule ≡ []) × ((q : ℕ) × (process_named x.program a.process ≡ Some q)
    × IsSliceText x q a.interval a.item text)

-- an interval of the process is told to fail at that entry; or edges of some item are not found, since a write that the
-- entry records is nowhere
abbrev pub IsSliceFailure : Known → SessionError → Type 0
IsSliceFailure x (Diverged failure) = (m : ℕ) × (told_at x failure.process m ≡ Some (Err failure.entry))
IsSliceFailure x (Sets failure) = (a : ItemAt) × (c : ℕ)
    × (flow_at x a.process a.interval a.item ≡ Err (flow_error.Sets failure.process failure.entry c))
IsSliceFailure x Memory = ⊥

-- ---- the whole trace

-- the failure of the first interval, by process and number, whose replay fails, if one does
abbrev pub first_failure : Recording → Option At
first_failure r =
    first_failed (recorded_setting r) r.logs
    (intervals_from 0 (seens (recorded_setting r) r.logs))

-- the text of the trace that the items of all replays make
abbrev pub IsWholeAnswer : Recording → (schedule text : List ℕ) → Type 0
IsWholeAnswer r schedule text = (schedule ≡ []) × (first_failure r ≡ None)
    × (text ≡ whole_text r.program (joined_trace r.program r.logs (seens (recorded_setting r) r.logs)))

abbrev pub IsWholeFailure : Recording → SessionError → Type 0
IsWholeFailure r (Diverged failure) = first_failure r ≡ Some failure
IsWholeFailure r (Sets failure) = ⊥
IsWholeFailure r Memory = ⊥

-- ---- a run again

-- the schedule that was taken: the guided one, where the verdict is yes
abbrev pub schedule_of : Verdict → List ℕ
schedule_of (verdict.Yes h) = h
schedule_of (verdict.No why) = []

-- the line of the verdict on the logs
abbrev pub IsRerunAnswer : Recording → (schedule text : List ℕ) → Type 0
IsRerunAnswer r schedule text = (v : Verdict) × IsVerdict (recorded_setting r) r.logs v
    × (schedule ≡ schedule_of v) × (text ≡ verdict_text r.program v)

-- ---- an item in a run with races

-- a race touches the past of this edge
abbrev pub unclean_line : Program → EdgeId → List ℕ
unclean_line p e = codes "? unclean " ++ process_name p e.process ++ codes " " ++ decimal e.edge ++ codes "\n"

-- the item with its edges, the edge whose past has a race, or that there is no such item
abbrev pub clean_text : Program → Plan → (j : ℕ) → CleanOr → Option (List ℕ)
clean_text p plan j (clean t es) = Some (why_text p plan j t es)
clean_text p plan j (unclean e) = Some (unclean_line p e)
clean_text p plan j no_item = Some no_event
clean_text p plan j (unwritten m) = None

-- what is found of item j of interval k of process q by the logs of a recording, cut off where its races are
abbrev pub clean_of : Recording → (q k j : ℕ) → CleanOr
clean_of r q k j = clean_by (recorded_setting r) r.logs (races_among (edges_of_logs r.program r.logs)) q k j

-- the least edge of process q, from the one in which the interval begins, whose past has a race
abbrev pub first_raced_of : Recording → (q k : ℕ) → Option ℕ
first_raced_of r q k =
    first_raced r.program (record_in r.logs)
    (races_among (edges_of_logs r.program r.logs)) (get_or r.logs.lists q []) q k

-- the logs that are cut off there
abbrev pub cut_of : Recording → (q k j : ℕ) → Logs
cut_of r q k j =
    cut_logs
    (last_wanted r.program (record_in r.logs) (races_among (edges_of_logs r.program r.logs)) q (first_raced_of r q k))
    r.logs

-- the interval does not begin there or later, and the replay of some interval of process p from these logs fails at
-- entry n
abbrev pub Diverges : Recording → (q k j : ℕ) → (p n : ℕ) → Type 0
Diverges r q k j p n =
    (is_reached (first_edge (get_or r.logs.lists q []) k) (first_raced_of r q k) ≡ false)
    × ((m : ℕ) × (failed_at (recorded_setting r) (get_or (cut_of r q k j).lists p []) m ≡ Some n))

abbrev pub IsCleanAnswer : Recording → ItemAsked → (schedule text : List ℕ) → Type 0
IsCleanAnswer r a schedule text = (schedule ≡ []) × ((q : ℕ) × (process_named r.program a.process ≡ Some q)
    × (clean_text r.program r.plan a.item (clean_of r q a.interval a.item) ≡ Some text))

-- the replay of some interval fails at that entry, from the cut logs; or a write that the entry records is nowhere
abbrev pub IsCleanFailure : Recording → ItemAsked → SessionError → Type 0
IsCleanFailure r a (Diverged failure) = (q : ℕ) × (process_named r.program a.process ≡ Some q)
    × Diverges r q a.interval a.item failure.process failure.entry
IsCleanFailure r a (Sets failure) = (q : ℕ) × (process_named r.program a.process ≡ Some q)
    × ((c : ℕ) × (clean_of r q a.interval a.item
    ≡ unwritten (record { process = failure.process; entry = failure.entry; cell = c })))
IsCleanFailure r a Memory = ⊥

-- ---- answers

-- the refusal that stands in place of the answer, if one does: there are races, or no such process, interval or item
abbrev pub refusal : Known → Query → Option (List ℕ)
refusal x (Slice a) =
    option_or (races_refusal x.races)
    (option_map_or (λ q. block_refusal x q a.interval (event_refusal (told_at x q a.interval) a.item))
    (process_named x.program a.process) (Some no_process))
refusal x (Whole workers) = races_refusal x.races
refusal x Rerun = None
refusal x (Clean a) =
    option_map_or (λ q. block_refusal x q a.interval None) (process_named x.program a.process) (Some no_process)

-- where nothing is refused: this schedule was taken, and this is the text of the answer
abbrev pub IsAnswer : Recording → Query → (schedule text : List ℕ) → Type 0
IsAnswer r (Slice a) schedule text = IsSliceAnswer (known_of r) a schedule text
IsAnswer r (Whole workers) schedule text = IsWholeAnswer r schedule text
IsAnswer r Rerun schedule text = IsRerunAnswer r schedule text
IsAnswer r (Clean a) schedule text = IsCleanAnswer r a schedule text

-- or a replay that the answer needs fails
abbrev pub IsFailure : Recording → Query → SessionError → Type 0
IsFailure r (Slice a) error = IsSliceFailure (known_of r) error
IsFailure r (Whole workers) error = IsWholeFailure r error
IsFailure r Rerun error = ⊥
IsFailure r (Clean a) error = IsCleanFailure r a error

-- what is written in all, with which status, and the schedule that was taken: a refusal or the answer; or, where
-- nothing is refused, the line of a replay that fails
pub data IsWritten (refused : Option (List ℕ)) (Answers : (schedule text : List ℕ) → Type 0)
    (Fails : SessionError → Type 0) (program : Program)
    : (schedule : List ℕ) → (status : ℕ) → (text : List ℕ) → Type 0 where
  refuses : (line : List ℕ) → refused ≡ Some line → IsWritten refused Answers Fails program [] 0 line
  answers : (schedule text : List ℕ) → refused ≡ None → Answers schedule text
      → IsWritten refused Answers Fails program schedule 0 text
  fails : (error : SessionError) → refused ≡ None → Fails error
      → IsWritten refused Answers Fails program [] 6 (refused_replay program error)

-- so it is of a recording
abbrev pub Gives : Recording → Query → (schedule : List ℕ) → (status : ℕ) → (text : List ℕ) → Type 0
Gives r query schedule status text =
    IsWritten (refusal (known_of r) query) (IsAnswer r query) (IsFailure r query) r.program schedule status text
