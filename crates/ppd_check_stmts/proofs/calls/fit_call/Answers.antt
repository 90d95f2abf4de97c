use Rattle.std.proofs.Common.{rules}
use Rattle.ppd_check_stmts.proofs.calls.fit_call.Goals as goal

pub lacks-requires : goal.lacks-requires
lacks-requires c = search rules depth 1 fits 30

pub note_if-requires : goal.note_if-requires
note_if-requires c = search rules depth 1 fits 30

pub note_unless-requires : goal.note_unless-requires
note_unless-requires c = search rules depth 1 fits 30
