use Rattle.ppd_sets.proofs.Meeting.{bodies_fit, stmts_fit}
use Rattle.ppd_sets.proofs.var_sets.sets.Goals as goal

pub body_rows-requires-clause-count : goal.body_rows-requires-clause-count
body_rows-requires-clause-count c = bodies_fit c.args.program.now c.requires

pub loop_rows-requires-clause-count : goal.loop_rows-requires-clause-count
loop_rows-requires-clause-count c = stmts_fit c.args.program.now c.requires
