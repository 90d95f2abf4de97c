use Rattle.std.proofs.Common.{◌≡◌, map, take}
use Rattle.std.specs.Prelude.{filter_map}
use Rattle.ppd_model.specs.RecordedSets.{sync_in}
use Rattle.ppd_rerun_guide.specs.Guides.{left_of}
use Rattle.ppd_rerun_guide.proofs.guide.all_due.Given as goal

abbrev pub invariant-loop-list : goal.invariant-loop-list
invariant-loop-list l = map left_of l.dues.items ≡ map (filter_map sync_in) (take l.list-index l.lists)
