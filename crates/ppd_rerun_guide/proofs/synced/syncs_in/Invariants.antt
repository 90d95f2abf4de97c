use Rattle.std.proofs.Common.{◌≡◌, map, take}
use Rattle.std.specs.Prelude.{filter_map}
use Rattle.ppd_model.specs.RecordedSets.{sync_in}
use Rattle.ppd_rerun_guide.specs.Guides.{plain}
use Rattle.ppd_rerun_guide.proofs.synced.syncs_in.Given as goal

abbrev pub invariant-loop-entry : goal.invariant-loop-entry
invariant-loop-entry l = map plain l.syncs ≡ filter_map sync_in (take l.entry-index l.entries)
