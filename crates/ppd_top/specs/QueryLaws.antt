-- Laws of queries.
use Rattle.std.specs.Prelude.{◌≡◌, ◌⊎◌, ℕ, List}
use Rattle.ppd_ast.specs.declared.program.Program.{Program}
use Rattle.ppd_codec.specs.declared.recording.Header.{Header}
use Rattle.ppd_codec.specs.declared.recording.Recording.{Recording}
use Rattle.ppd_top.specs.Queries.{Gives}
use Rattle.ppd_top_requests.specs.Questions.{Query}
use Rattle.ppd_codec_runs.specs.Recordings.{IsAccepted, IsRunRecorded}

-- what is asked of a recording ends with status 0, or with status 6
abbrev pub QueriesEnd : Type 0
QueriesEnd =
    (r : Recording) (query : Query) (schedule : List ℕ) (status : ℕ) (text : List ℕ)
    → Gives r query schedule status text
    → (status ≡ 0) ⊎ (status ≡ 6)

-- of the recording of a whole run with status 0
abbrev pub RunsAreTold : Type 0
RunsAreTold =
    (bytes : List ℕ) (r : Recording) (query : Query) (schedule : List ℕ) (status : ℕ) (text : List ℕ)
    → IsAccepted bytes r → (source : List ℕ) (header : Header) (program : Program) (h : List ℕ)
    → IsRunRecorded source header program h bytes → Gives r query schedule status text → status ≡ 0
