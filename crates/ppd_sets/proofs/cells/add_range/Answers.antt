use Rattle.std.proofs.Common.{refl, ◌+◌}
use Rattle.ppd_sets.proofs.Gaining.{gains_none, gains_range}
use Rattle.ppd_sets.proofs.cells.add_range.Goals as goal

pub loop-place-init : goal.loop-place-init
loop-place-init c = gains_none c.args.cells.now

pub loop-place-preserved : goal.loop-place-preserved
loop-place-preserved c = gains_range c.args.base c.loop-place.place (c.args.base + c.loop-place.place) refl c.loop-place.invariant c.add_cell.ensures
