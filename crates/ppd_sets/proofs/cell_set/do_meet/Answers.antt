use Rattle.std.proofs.Common.{Fits, w64, arith}
use Rattle.std.proofs.lemmas.Simd.{Each1-get_or}
use Rattle.ppd_sets.proofs.CellSets.Words.{meet_is}
use Rattle.ppd_sets.proofs.cell_set.do_meet.Goals as goal

pub returns : goal.returns
returns c = meet_is c.args.left c.args.right c.fits-left.0 c.fits-right.0 (λ i h. (Each1-get_or (Fits w64) c.args.left i 0 (omega (arith, c.fits-left.0)) c.fits-left.1).fits)
