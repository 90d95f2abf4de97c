-- Laws of recordings that are accepted or refused.
use Rattle.law_steps.specs.Policies.{setting_by}
use Rattle.std.specs.Prelude.{◌≡◌, ℕ, List, []}
use Rattle.ppd_ast.specs.declared.program.Program.{Program}
use Rattle.ppd_codec.specs.declared.recording.Header.{Header}
use Rattle.ppd_codec.specs.declared.recording.Recording.{Recording}
use Rattle.ppd_model.specs.Agreement.{Agree}
use Rattle.ppd_model.specs.Races.{races}
use Rattle.ppd_session.specs.Known.{Known, known_of_run}
use Rattle.ppd_codec_runs.specs.Recordings.{IsAccepted, IsRefusedBy, IsRunRecorded, known_of}

-- no bytes are both accepted and refused
abbrev pub RefusedOrAccepted : Type 0
RefusedOrAccepted = (bytes line : List ℕ) (r : Recording) → IsAccepted bytes r → IsRefusedBy bytes line → ⊥

-- this is what is known of each whole run of which the bytes are the recording, and where it has no race, of each
-- schedule that agrees with it
abbrev pub IsKnownOfRuns : List ℕ → Known → Type 0
IsKnownOfRuns bytes x =
    (source : List ℕ) (header : Header) (program : Program) (h : List ℕ) → IsRunRecorded source header program h bytes
    → (x ≡ known_of_run (setting_by program header.policy header.budget) h)
    × (races (setting_by program header.policy header.budget) h ≡ [] → (h' : List ℕ)
    → Agree (setting_by program header.policy header.budget) h h'
    → x ≡ known_of_run (setting_by program header.policy header.budget) h')

-- what is known of an accepted recording of a run is what is known of the run
abbrev pub RunsAreRecalled : Type 0
RunsAreRecalled = (bytes : List ℕ) (r : Recording) → IsAccepted bytes r → IsKnownOfRuns bytes (known_of r)

-- no recording of a whole run is refused
abbrev pub NoRunIsRefused : Type 0
NoRunIsRefused =
    (source : List ℕ) (header : Header) (program : Program) (h bytes line : List ℕ)
    → IsRunRecorded source header program h bytes → IsRefusedBy bytes line → ⊥
