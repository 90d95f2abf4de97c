-- What `debug` comes to for the bytes of a recording.
use Rattle.std.specs.Prelude.{◌≡◌, ℕ, List, []}
use Rattle.ppd_top_commands.specs.Output.{IsUnread, Standing, Talks, Finished}
use Rattle.ppd_codec.specs.declared.recording.Recording.{Recording}
use Rattle.ppd_codec_runs.specs.Recordings.{IsAccepted, IsRefusedBy, known_of as known_of_recording}

-- what `debug` comes to for the bytes of a recording: want of memory, a refusal, or answers
pub data Debugs (bytes : List ℕ) (a b : Standing) (status : ℕ) : Type 0 where
  no_recall : status ≡ 5 → b.written ≡ a.written → Debugs bytes a b status
  recording_refused : (line : List ℕ) → IsRefusedBy bytes line → IsUnread a b
      → Finished a.written b.written a.writes b.writes status 6 line → Debugs bytes a b status
  recalled : (r : Recording) → IsAccepted bytes r → Talks (known_of_recording r) [] a b status → Debugs bytes a b status
