use Rattle.ppd_slice_search.proofs.Slices.{slices_one}
use Rattle.ppd_slice_search.proofs.laws.slices_are_one.Goals as goal

pub returns : goal.returns
returns c = slices_one
