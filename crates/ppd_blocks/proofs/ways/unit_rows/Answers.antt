use Rattle.ppd_sets.proofs.Calling.{map_more}
use Rattle.ppd_blocks.proofs.Vocabulary.{unit_next}
use Rattle.ppd_blocks.proofs.ways.unit_rows.Goals as goal

pub loop-stmt-preserved : goal.loop-stmt-preserved
loop-stmt-preserved c = map_more (unit_next c.args.program.now c.args.loops.now) c.loop-stmt.stmt c.loop-stmt.rows c.push.new.self c.in_ok-row.row c.loop-stmt.invariant c.in_ok-row.ensures c.in_ok-push.ensures.ok
