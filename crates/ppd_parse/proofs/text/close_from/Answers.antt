use Rattle.std.proofs.Common.{sym, ◌∙◌}
use Rattle.ppd_parse.proofs.Comments.{close_more}
use Rattle.ppd_parse.proofs.text.close_from.Goals as goal

pub loop-i-preserved : goal.loop-i-preserved
loop-i-preserved c =
    sym (close_more c.args.before c.loop-i.i c.args.bytes.now c.loop-i-test.true c.if-starts_with.ensures.value) ∙ c.loop-i.invariant
