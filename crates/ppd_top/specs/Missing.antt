-- What `Sets` says of a query: a write that the entry records is missing.
use Rattle.std.specs.Prelude.{◌≡◌, ℕ, List, Some}
use Rattle.ppd_codec.specs.declared.recording.Recording.{Recording}
use Rattle.ppd_codec_runs.specs.Recordings.{IsAccepted, recorded_setting}
use Rattle.ppd_model.specs.declared.entry.At.{At}
use Rattle.ppd_session.specs.Known.{seens}
use Rattle.ppd_session.specs.Missing.{IsMissingAt}
use Rattle.ppd_session.specs.Questions.{process_named}
use Rattle.ppd_session.specs.declared.reply.SessionError.TheVariants.{Sets}
use Rattle.ppd_top.specs.Queries.{IsFailure, cut_of}
use Rattle.ppd_top_requests.specs.Questions.{Query}
use Rattle.ppd_top_requests.specs.Questions.Query.{Slice, Whole, Rerun, Clean}

-- a write that the entry records is missing by what the query replays: the logs of the recording; for an item in a run
-- with races, the logs cut off where these are. The others need no write
abbrev pub IsMissingFor : Recording → Query → At → Type 0
IsMissingFor r (Slice a) at = IsMissingAt r.logs (seens (recorded_setting r) r.logs) at
IsMissingFor r (Whole workers) at = ⊥
IsMissingFor r Rerun at = ⊥
IsMissingFor r (Clean a) at = (q : ℕ) × (process_named r.program a.process ≡ Some q)
    × IsMissingAt r.logs (seens (recorded_setting r) (cut_of r q a.interval a.item)) at

-- so it is where a query of an accepted recording fails with `Sets` at the entry
abbrev pub FailuresAreMissing : Type 0
FailuresAreMissing =
    (bytes : List ℕ) (r : Recording) (query : Query) (at : At)
    → IsAccepted bytes r → IsFailure r query (Sets at) → IsMissingFor r query at
