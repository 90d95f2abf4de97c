use Rattle.std.proofs.Common.{arith}
use Rattle.ppd_check.proofs.returns.note_ended.Goals as goal

pub but_last-requires : goal.but_last-requires
but_last-requires c = omega arith

pub fits-requires : goal.fits-requires
fits-requires c = omega arith

pub note_returns-requires : goal.note_returns-requires
note_returns-requires c = search depth 0

pub note_unless-requires : goal.note_unless-requires
note_unless-requires c = omega arith
