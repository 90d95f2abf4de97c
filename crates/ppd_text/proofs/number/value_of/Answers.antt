use Rattle.std.proofs.Common.{arith, get_or, Fits, w8, rules}
use Rattle.ppd_ast.proofs.Digits.{value_next}
use Rattle.ppd_text.proofs.Digits.{ten-more}
use Rattle.ppd_text.proofs.number.value_of.Goals as goal

pub loop-digit-preserved : goal.loop-digit-preserved
loop-digit-preserved c =
    let t = value_next c.args.digits.now c.loop-digit.digit-index 0 c.loop-digit-test.true in
    let small : Fits w8 (get_or c.args.digits.now c.loop-digit.digit-index 0) = search rules in
    (omega (arith, t, c.loop-digit.invariant.0, c.saturating_sub.ensures, c.from.ensures), omega (arith, small, ten-more c.loop-digit.digit-index, c.loop-digit.invariant.1, c.saturating_sub.ensures, c.from.ensures))
