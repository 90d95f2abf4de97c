use Rattle.std.proofs.lemmas.Grind.{common_steps}
use Rattle.std.proofs.lemmas.Int.{to_z-of_z}
use Rattle.std.proofs.Common.{get_or, pos, arith, rules, FitsSigned, w64}
use Rattle.ppd_codec.specs.Form.{value}
use Rattle.ppd_codec.proofs.Writing.{grown}
use Rattle.ppd_codec.proofs.writer.Writer.values.Goals as goal

pub loop-value-preserved : goal.loop-value-preserved
loop-value-preserved g c =
    let fits : FitsSigned w64 (get_or c.args.values.now c.loop-value.value-index (pos 0)) = search rules in
    record {
      bytes = grown value.bytes c.args.values.now c.loop-value.value-index (pos 0) _ _ _ c.loop-value-test.true c.loop-value.invariant.bytes (simp to_z-of_z at c.in_ok-value.ensures.ok);
      cost = omega (arith, c.loop-value.invariant.cost, c.value.ensures.cost);
    }

pub branch-number_2-requires : goal.branch-number_2-requires
branch-number_2-requires c = search rules depth 1 fits 30

pub from_residual-requires : goal.from_residual-requires
from_residual-requires c = search rules depth 1 fits 30

pub loop-value-init : goal.loop-value-init
loop-value-init c = grind (arith, common_steps) steps 250000

pub loop-value-smaller : goal.loop-value-smaller
loop-value-smaller c = grind (arith, common_steps) steps 250000

pub number_2-requires : goal.number_2-requires
number_2-requires c = search rules depth 1 fits 30

pub returns : goal.returns
returns c = grind (arith, common_steps) steps 250000

pub returns-in_err-number_2 : goal.returns-in_err-number_2
returns-in_err-number_2 c = search rules depth 1 fits 30

pub returns-in_err-value : goal.returns-in_err-value
returns-in_err-value c = grind (arith, common_steps) steps 250000

pub value-requires : goal.value-requires
value-requires c = search rules depth 1 fits 30
