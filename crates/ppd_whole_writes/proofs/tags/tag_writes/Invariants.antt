use Rattle.std.proofs.Common.{◌≡◌, take}
use Rattle.std.specs.Prelude.{fold}
use Rattle.ppd_whole_writes.specs.Tags.{tag_write}
use Rattle.ppd_whole_writes.proofs.tags.tag_writes.Given as goal

abbrev pub invariant-loop-access : goal.invariant-loop-access
invariant-loop-access g l = l.runs ≡ fold (tag_write l.tag) l.fn.runs (take l.access-index l.writes)
