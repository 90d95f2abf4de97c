use Rattle.ppd_slice_search.proofs.Closed.{reach_is_slice}
use Rattle.ppd_slice_search.proofs.laws.reaches_are_slices.Goals as goal

pub returns : goal.returns
returns c = reach_is_slice
