use Rattle.ppd_slice.proofs.OfRuns.{slices_of_runs}
use Rattle.ppd_slice.proofs.laws.slices_are_of_runs.Goals as goal

pub returns : goal.returns
returns c =
    slices_of_runs c.replays_are_seen.ensures c.edges_are_found.ensures c.all_own_parts_are_found.ensures
    c.reaches_are_slices.ensures c.slices_are_one.ensures
