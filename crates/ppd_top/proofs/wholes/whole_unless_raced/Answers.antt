use Rattle.std.proofs.Common.{sym}
use Rattle.ppd_top.proofs.WholeTraces.{whole_raced, whole_told}
use Rattle.ppd_top.proofs.wholes.whole_unless_raced.Goals as goal

pub returns-then-not-is_empty : goal.returns-then-not-is_empty
returns-then-not-is_empty g c =
    whole_raced c.args.recalled.now.recording c.args.workers c.args.races.now c.requires.races (sym c.if-not-is_empty.ensures) c.racy.result c.racy.ensures.text c.racy.ensures.error

pub returns : goal.returns
returns g c = whole_told c.args.recalled.now.recording c.args.workers c.args.races.now c.requires.races (sym c.if-not-is_empty.ensures) c.whole_text.result c.whole_text.ensures
