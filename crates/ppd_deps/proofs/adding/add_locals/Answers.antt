use Rattle.std.proofs.Common.{◌≡◌, ◌∙◌, ap, arith, length, map}
use Rattle.std.specs.Prelude.{min, ◌&&◌}
use Rattle.ppd_ast.specs.Members.{those}
use Rattle.ppd_deps.proofs.Added.{adds_as, adds_then}
use Rattle.ppd_deps.proofs.Arriving.{body_edges, one_more}
use Rattle.ppd_deps.specs.Edges.{comes_to}
use Rattle.ppd_deps.proofs.Vocabulary.{local_edge}
use Rattle.ppd_deps.specs.Rows.{is_reader}
use Rattle.ppd_deps.proofs.adding.add_locals.Goals as goal
use Rattle.ppd_ast.specs.Lookups.{body_numbered}

pub loop-var-preserved : goal.loop-var-preserved
loop-var-preserved c = adds_as _ _ _ _ (λ t lt. one_more c.args.program.now c.args.body c.args.stmt t c.loop-var.var) (adds_then _ _ _ _ _ c.loop-var.invariant c.in_ok-add_local_edges.ensures)

pub returns : goal.returns
returns c =
    let p = c.args.program.now in
    let b = c.args.body in
    let s = c.args.stmt in
    let all : c.loop-var.var ≡ min (length (body_numbered p b).locals) 65536 = omega (arith, c.loop-var-test.false, c.loop-var.auto.var-end, c.min-var-end.ensures, ap length c.locals.ensures) in
    adds_as _ _ _ _ (λ t lt. ap (λ n. map (local_edge s) (those n (λ v. is_reader p b v t && comes_to p b s v t))) all ∙ body_edges p b s t) c.loop-var.invariant
