use Rattle.std.proofs.Common.{◌≡◌, map}
use Rattle.std.specs.List.{range_with_len}
use Rattle.std.specs.Prelude.{slice_get}
use Rattle.ppd_deps.proofs.Vocabulary.{kept_next}
use Rattle.ppd_deps.proofs.locals.kept_rows.Given as goal
use Rattle.ppd_ast.specs.Lookups.{body_numbered}

abbrev pub invariant-loop-stmt : goal.invariant-loop-stmt
invariant-loop-stmt l = l.rows ≡ map (kept_next l.program l.local.body (slice_get (body_numbered l.program l.local.body).locals l.local.var)) (range_with_len 0 l.stmt)
