use Rattle.std.proofs.Common.{arith, ◌≤◌}
use Rattle.ppd_ast.proofs.Growing.{numbers_more}
use Rattle.ppd_blocks.specs.Starts.{unit_starts_at, unit_of}
use Rattle.ppd_blocks.proofs.numbering.add_at_stmts.Goals as goal

pub loop-number-preserved : goal.loop-number-preserved
loop-number-preserved c =
    let low : c.args.body.now.first ≤ c.loop-number.number = omega arith in
    record {
      added = numbers_more (unit_of c.args.ways.now.program.now c.args.ways.now.loops.now) (unit_starts_at c.args.ways.now.program.now c.args.ways.now.loops.now) c.args.units.now c.loop-number.units c.add_at.new.units c.args.body.now.first c.loop-number.number low c.loop-number.invariant.added c.in_ok-add_at.ensures;
      within = omega (arith, c.loop-number-test.true);
    }
