-- What is answered of the recording of a whole run, by the run itself.
use Rattle.law_steps.specs.Policies.{setting_by}
use Rattle.ppd_model.specs.Setting.{Setting}
use Rattle.law_clean.specs.Answers.{answer_of}
use Rattle.ppd_ast.specs.Valid.{IsValid}
use Rattle.ppd_ast.specs.declared.program.Program.{Program}
use Rattle.ppd_codec.specs.declared.recording.Header.{Header}
use Rattle.ppd_codec.specs.declared.recording.Recording.{Recording}
use Rattle.ppd_codec_runs.specs.Recordings.{IsAccepted, IsRunRecorded}
use Rattle.ppd_model.specs.Agreement.{Agree}
use Rattle.ppd_model.specs.FullTrace.{full_trace}
use Rattle.ppd_model.specs.Intervals.{Span, Split, splits}
use Rattle.ppd_model.specs.Races.{races}
use Rattle.ppd_model.specs.Story.{story}
use Rattle.ppd_rerun_guide.specs.declared.verdict.Verdict.TheVariants as verdict
use Rattle.ppd_session.specs.Known.{known_of_run}
use Rattle.ppd_session.specs.Questions.{process_named}
use Rattle.ppd_slice_search.specs.OfRuns.{origins}
use Rattle.ppd_slice_search.specs.Reach.{IsReach, at}
use Rattle.ppd_slice_search.specs.declared.reached.Reached.{Reached}
use Rattle.ppd_top.specs.Queries.{Gives, IsSliceAnswer, clean_text, reached_line, refusal}
use Rattle.ppd_top_requests.specs.Questions.{ItemAsked, Query}
use Rattle.ppd_top_requests.specs.Questions.Query.{Clean, Rerun, Slice, Whole}
use Rattle.ppd_top.specs.VerdictTexts.{verdict_text}
use Rattle.ppd_whole.specs.WholeText.{whole_text}
use Rattle.std.specs.List.{flat_map}
use Rattle.std.specs.Prelude.{List, None, Some, [], slice_get, ℕ, ◌≡◌}

-- a slice that is not refused has a line for each item that the run's flowback edges lead to from the item that is
-- asked for, of the process of that name, and no other; the whole trace is the text of its full
-- trace; a run again is confirmed, by a schedule that agrees with it; and clean flowback of an item of an interval that
-- is there is what is to be answered by the run itself
abbrev pub IsOfRun : Setting → List ℕ → Query → (schedule text : List ℕ) → Type 0
IsOfRun setting h (Slice a) schedule text =
    refusal (known_of_run setting h) (Slice a) ≡ None → (q : ℕ)
    × (process_named setting.program a.process ≡ Some q)
    × ((slice : List Reached)
    × IsReach (origins setting (story setting h)) (at q a.interval a.item) slice
    × (text ≡ flat_map (reached_line setting.program) slice))
IsOfRun setting h (Whole workers) schedule text =
    text ≡ whole_text setting.program (full_trace setting (story setting h))
IsOfRun setting h Rerun schedule text = Agree setting h schedule
    × (text ≡ verdict_text setting.program (verdict.Yes schedule))
IsOfRun setting h (Clean a) schedule text =
    (q : ℕ) (x : Split) (i : Span) → process_named setting.program a.process ≡ Some q
    → slice_get (splits setting (story setting h)) q ≡ Some x
    → slice_get x.spans a.interval ≡ Some i
    → clean_text setting.program setting.plan a.item (answer_of setting h q a.interval a.item) ≡ Some text

-- so is a slice by what is known of a run
abbrev pub SlicesAreOfRuns : Type 0
SlicesAreOfRuns =
    (setting : Setting) (h : List ℕ) (a : ItemAsked) (schedule text : List ℕ)
    → IsValid setting.program → IsSliceAnswer (known_of_run setting h) a schedule text
    → IsOfRun setting h (Slice a) schedule text

-- clean flowback is so of each whole run of which the bytes are the recording, with races or without; and the others of
-- each without a race, and of each schedule that agrees with it
abbrev pub IsOfRuns : List ℕ → Query → (schedule text : List ℕ) → Type 0
IsOfRuns bytes (Clean a) schedule text =
    (source : List ℕ) (header : Header) (program : Program) (h : List ℕ)
    → IsRunRecorded source header program h bytes
    → IsOfRun (setting_by program header.policy header.budget) h (Clean a) schedule text
IsOfRuns bytes query schedule text =
    (source : List ℕ) (header : Header) (program : Program) (h h' : List ℕ)
    → IsRunRecorded source header program h bytes → races (setting_by program header.policy header.budget) h ≡ []
    → Agree (setting_by program header.policy header.budget) h h'
    → IsOfRun (setting_by program header.policy header.budget) h' query schedule text

-- what is answered of an accepted recording is so
abbrev pub AnswersAreOfRuns : Type 0
AnswersAreOfRuns =
    (bytes : List ℕ) (r : Recording) (query : Query) (schedule text : List ℕ)
    → IsAccepted bytes r → Gives r query schedule 0 text → IsOfRuns bytes query schedule text
