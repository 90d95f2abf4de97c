-- What is written of each accepted recording, by what is known of it. Of edges, and so of slices, the whole trace and
-- clean edges, it is said here that they are told, and not which they are: of the recording of a run they are the run's
-- (`IsOfRuns`).
use Rattle.law_clean.specs.Answers.{CleanOr, clean, is_reached, no_item, unclean_or, unwritten}
use Rattle.law_clean.specs.Pasts.{left_edge}
use Rattle.law_clean.specs.Search.{is_unclean}
use Rattle.law_flow.specs.Missing.{IsMissingWrite, write_at}
use Rattle.ppd_codec.specs.declared.recording.Recording.{Recording}
use Rattle.ppd_codec_runs.specs.Recordings.{IsAccepted, known_of, recorded_setting}
use Rattle.ppd_model.specs.declared.entry.At.{At}
use Rattle.ppd_graph.specs.Ends.{first_edge}
use Rattle.ppd_graph.specs.Shared.{Missing, seen_at}
use Rattle.ppd_model.specs.RecordedSets.{record_in}
use Rattle.ppd_model.specs.declared.flow.FlowEdge.{FlowEdge}
use Rattle.ppd_model.specs.declared.flow.Item.{Item}
use Rattle.ppd_race.specs.Races.{edges_of_logs, races_among}
use Rattle.ppd_session.specs.Known.{Known, seens}
use Rattle.ppd_session.specs.Questions.{process_named}
use Rattle.ppd_session.specs.Texts.{told_at}
use Rattle.ppd_session.specs.declared.reply.SessionError.{SessionError}
use Rattle.ppd_session.specs.declared.reply.SessionError.TheVariants.{Diverged, Memory, Sets}
use Rattle.ppd_top.specs.Missing.{IsMissingFor}
use Rattle.ppd_top.specs.Queries.{Diverges, Gives, IsRerunAnswer, IsSliceAnswer, IsSliceFailure, IsWritten, clean_text, cut_of, first_raced_of, refusal}
use Rattle.ppd_top_requests.specs.Questions.{Query}
use Rattle.ppd_top_requests.specs.Questions.Query.{Clean, Rerun, Slice, Whole}
use Rattle.std.specs.Prelude.{Bool, Err, List, None, Some, [], false, get_or, if◌then◌else◌, slice_get, true, ℕ, ◌<◌, ◌≡◌, ◌≤◌, ◌⊎◌}

-- ---- an item in a run with races: item j of interval k of process q

module _ (r : Recording) (q k j : ℕ) where
  -- the past of this item, among what the replays of the cut logs give, has one
  abbrev pub is_item_raced : Item → Bool
  is_item_raced t =
      is_unclean (recorded_setting r) r.logs (record_in r.logs)
      (races_among (edges_of_logs r.program r.logs)) q k j
      (seens (recorded_setting r) (cut_of r q k j)) (first_raced_of r q k) t

-- this is found of an item in a run with races, by replays of the logs that are cut for it
pub data IsCleanBy (r : Recording) (q k j : ℕ) (found : CleanOr) : Type 0 where
  -- where the interval begins in an edge whose past has a race, the first such edge
  begins_raced : is_reached (first_edge (get_or r.logs.lists q []) k) (first_raced_of r q k) ≡ true
      → found ≡ unclean_or q (first_raced_of r q k) no_item → IsCleanBy r q k j found
  -- else, where the replays give no such item, that edge if the interval reaches it
  ends_before : is_reached (first_edge (get_or r.logs.lists q []) k) (first_raced_of r q k) ≡ false
      → slice_get (get_or (seen_at (seens (recorded_setting r) (cut_of r q k j)) q).items k []) j ≡ None
      → found ≡ (if is_reached (left_edge (get_or r.logs.lists q []) k) (first_raced_of r q k)
      then unclean_or q (first_raced_of r q k) no_item else no_item) → IsCleanBy r q k j found
  -- where they give the item, and its past has a race, the edge whose past has one
  is_raced : is_reached (first_edge (get_or r.logs.lists q []) k) (first_raced_of r q k) ≡ false
      → (t : Item) → slice_get (get_or (seen_at (seens (recorded_setting r) (cut_of r q k j)) q).items k []) j ≡ Some t
      → is_item_raced r q k j t ≡ true
      → found ≡ unclean_or q (first_raced_of r q k) no_item → IsCleanBy r q k j found
  -- and where it has none, the item with some edges, or a write that is missing
  has_edges : is_reached (first_edge (get_or r.logs.lists q []) k) (first_raced_of r q k) ≡ false
      → (t : Item) → slice_get (get_or (seen_at (seens (recorded_setting r) (cut_of r q k j)) q).items k []) j ≡ Some t
      → is_item_raced r q k j t ≡ false
      → ((es : List FlowEdge) × (found ≡ clean t es))
      ⊎ ((m : Missing) × (found ≡ unwritten m) × IsMissingWrite r.logs (seens (recorded_setting r) (cut_of r q k j)) m)
      → IsCleanBy r q k j found

-- ---- answers

-- where nothing is refused: this schedule was taken, and this is the text of the answer; of the whole trace any text,
-- where no interval is told to fail
abbrev pub IsAnsweredBy : Recording → Known → Query → (schedule text : List ℕ) → Type 0
IsAnsweredBy r x (Slice a) schedule text = IsSliceAnswer x a schedule text
IsAnsweredBy r x (Whole workers) schedule text = (schedule ≡ []) × ((q k n : ℕ) → told_at x q k ≡ Some (Err n) → ⊥)
IsAnsweredBy r x Rerun schedule text = IsRerunAnswer r schedule text
IsAnsweredBy r x (Clean a) schedule text = (schedule ≡ []) × ((q : ℕ) × (process_named r.program a.process ≡ Some q)
    × ((found : CleanOr) × IsCleanBy r q a.interval a.item found
    × (clean_text r.program r.plan a.item found ≡ Some text)))

-- or a replay that the answer needs fails: of the whole trace that of the first interval, by process and number, that
-- is told to fail; of an item in a run with races, that of some interval from the cut logs, or a write that the entry
-- records is missing
abbrev pub IsFailedBy : Recording → Known → Query → SessionError → Type 0
IsFailedBy r x (Slice a) error = IsSliceFailure x error
IsFailedBy r x (Whole workers) (Diverged failure) = (interval : ℕ)
    × (told_at x failure.process interval ≡ Some (Err failure.entry))
    × ((q k n : ℕ) → told_at x q k ≡ Some (Err n)
    → (failure.process < q) ⊎ ((failure.process ≡ q) × (interval ≤ k)))
IsFailedBy r x (Whole workers) (Sets failure) = ⊥
IsFailedBy r x (Whole workers) Memory = ⊥
IsFailedBy r x Rerun error = ⊥
IsFailedBy r x (Clean a) (Diverged failure) = (q : ℕ) × (process_named r.program a.process ≡ Some q)
    × Diverges r q a.interval a.item failure.process failure.entry
IsFailedBy r x (Clean a) (Sets failure) = (q : ℕ) × (process_named r.program a.process ≡ Some q)
    × ((c : ℕ) × IsCleanBy r q a.interval a.item (unwritten (write_at failure.process failure.entry c)))
IsFailedBy r x (Clean a) Memory = ⊥

-- what is written in all of a recording of which this is known, with which status, and the schedule that was taken
abbrev pub GivesBy : Recording → Known → Query → (schedule : List ℕ) → (status : ℕ) → (text : List ℕ) → Type 0
GivesBy r x query schedule status text =
    IsWritten (refusal x query) (IsAnsweredBy r x query) (IsFailedBy r x query) r.program schedule status text

-- so it is of an accepted recording
abbrev pub AnswersAreDetermined : Type 0
AnswersAreDetermined =
    (bytes : List ℕ) (r : Recording) (query : Query) (schedule : List ℕ) (status : ℕ) (text : List ℕ)
    → IsAccepted bytes r → Gives r query schedule status text → GivesBy r (known_of r) query schedule status text

-- where that fails with `Sets` at an entry, a write that the entry records is missing
abbrev pub FailedAreMissing : Type 0
FailedAreMissing =
    (bytes : List ℕ) (r : Recording) (query : Query) (at : At)
    → IsAccepted bytes r → IsFailedBy r (known_of r) query (Sets at) → IsMissingFor r query at
