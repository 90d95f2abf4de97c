use Rattle.std.proofs.Common.{arith}
use Rattle.std.proofs.lemmas.Grind.{common_steps}
use Rattle.ppd_check.proofs.places.places_of.Goals as goal

pub bounds-stmts-stmt-index : goal.bounds-stmts-stmt-index
bounds-stmts-stmt-index c = omega arith

pub loop-stmt-preserved : goal.loop-stmt-preserved
loop-stmt-preserved c = grind (arith, common_steps) steps 800000

pub loop-stmt-smaller : goal.loop-stmt-smaller
loop-stmt-smaller c = omega arith

pub offset_bounds-stmts-stmt-index : goal.offset_bounds-stmts-stmt-index
offset_bounds-stmts-stmt-index c = omega arith

pub returns : goal.returns
returns c = grind (arith, common_steps) steps 250000

pub returns-then-is_err : goal.returns-then-is_err
returns-then-is_err c = omega arith
