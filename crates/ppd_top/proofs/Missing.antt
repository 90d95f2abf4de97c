-- A query that fails for want of a write: the write is missing.
use Rattle.ppd_race.specs.Races.{races_among, edges_of_logs}
use Rattle.ppd_clean.proofs.Missing.{clean_missed}
use Rattle.law_flow.specs.Missing.{write_at}
use Rattle.ppd_codec_runs.specs.Recordings.{known_of, recorded_setting}
use Rattle.ppd_session.proofs.Missing.{missing_writes_told}
use Rattle.ppd_top.specs.Missing.{FailuresAreMissing}
use Rattle.ppd_top_requests.specs.Questions.Query.{Slice, Whole, Rerun, Clean}

pub failures_missing : FailuresAreMissing
failures_missing bytes r (Slice a) at accepted f = (
  f.1,
  (missing_writes_told (recorded_setting r) r.logs (races_among (edges_of_logs r.program r.logs)) accepted.indexed).flow
      f.0.process f.0.interval f.0.item at.process at.entry f.1 f.2,
)
failures_missing bytes r (Whole workers) at accepted f = f
failures_missing bytes r Rerun at accepted f = f
failures_missing bytes r (Clean a) at accepted f = (
  f.0,
  f.1,
  (
    f.2.0,
    clean_missed (recorded_setting r) r.logs (known_of r).races f.0 a.interval a.item accepted.indexed
        (write_at at.process at.entry f.2.0) f.2.1,
  ),
)
