use Rattle.std.proofs.Common.{subst, sym}
use Rattle.ppd_flow_past.specs.Keeping.{AreKeptOf}
use Rattle.ppd_slice.proofs.held.keep.Goals as goal

pub make-requires-clause-kept : goal.make-requires-clause-kept
make-requires-clause-kept g c = subst (AreKeptOf c.args.past.now) (sym c.as_slice.ensures) c.keep.ensures.kept
