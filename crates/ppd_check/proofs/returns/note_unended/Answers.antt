use Rattle.std.proofs.Common.{arith}
use Rattle.ppd_check.proofs.returns.note_unended.Goals as goal

pub note_if-requires : goal.note_if-requires
note_if-requires c = omega arith

pub note_returns-requires : goal.note_returns-requires
note_returns-requires c = search depth 0
