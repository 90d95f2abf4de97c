-- Laws of recordings.
use Rattle.std.specs.Prelude.{◌≡◌, ℕ, List}
use Rattle.ppd_model.specs.declared.entry.Logs.{Logs}
use Rattle.ppd_codec.specs.declared.bad.BadBytes.{BadBytes}
use Rattle.ppd_codec.specs.declared.recording.Header.{Header}
use Rattle.ppd_codec.specs.Recordings.{IsBad, IsRecordingOf}

-- three have one recording at most
abbrev pub OneSpelling : Type 0
OneSpelling =
    (s : List ℕ) (h : Header) (l : Logs) (x y : List ℕ) → IsRecordingOf s h l x → IsRecordingOf s h l y → x ≡ y

-- bytes are the recording of three at most
abbrev pub OneReading : Type 0
OneReading =
    (s t : List ℕ) (h k : Header) (l m : Logs) (x : List ℕ) → IsRecordingOf s h l x → IsRecordingOf t k m x
    → (s ≡ t) × (h ≡ k) × (l ≡ m)

-- no test fails on a recording
abbrev pub NoRecordingIsBad : Type 0
NoRecordingIsBad =
    (s : List ℕ) (h : Header) (l : Logs) (x : List ℕ) (e : BadBytes) → IsRecordingOf s h l x → IsBad x e → ⊥
