use Rattle.std.specs.Prelude.{slice_get}
use Rattle.ppd_deps.proofs.Vocabulary.{kept_next}
use Rattle.ppd_sets.proofs.Calling.{map_more}
use Rattle.ppd_deps.proofs.locals.kept_rows.Goals as goal
use Rattle.ppd_ast.specs.Lookups.{body_numbered}

pub loop-stmt-preserved : goal.loop-stmt-preserved
loop-stmt-preserved c = map_more (kept_next c.args.program.now c.args.local.body (slice_get (body_numbered c.args.program.now c.args.local.body).locals c.args.local.var)) c.loop-stmt.stmt c.loop-stmt.rows c.push.new.self c.in_ok-row.row c.loop-stmt.invariant c.in_ok-row.ensures c.in_ok-push.ensures.ok
