use Rattle.std.proofs.Common.{◌∙◌, [], sym}
use Rattle.std.specs.Prelude.{not, nat_eq, slice_get, ◌&&◌}
use Rattle.std.proofs.lemmas.Bool.{cond-true}
use Rattle.ppd_ast.specs.Lookups.{kind_of, body_of, body_numbered}
use Rattle.ppd_sets.specs.Flow.{next_of}
use Rattle.ppd_deps.proofs.Tabled.{ok_as}
use Rattle.ppd_deps.specs.Edges.{ends_paths}
use Rattle.ppd_deps.proofs.Vocabulary.{kept_next}
use Rattle.ppd_deps.proofs.locals.kept_row.Goals as goal

pub returns-then-is_kept : goal.returns-then-is_kept
returns-then-is_kept c =
    let p = c.args.program.now in
    let s = c.args.stmt in
    let b = c.args.local.body in
    let x = slice_get (body_numbered p b).locals c.args.local.var in
    ok_as c.copy.result c.next_at.result.now (kept_next p b x s)
    (c.next_at.ensures ∙ sym (cond-true (nat_eq (body_of p s) b && not (ends_paths x (kind_of p s))) (next_of p s) [] (sym c.is_kept.ensures ∙ c.if-is_kept.true)))
    c.copy.ensures
