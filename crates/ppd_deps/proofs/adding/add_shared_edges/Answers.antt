use Rattle.ppd_ast.specs.Members.{has}
use Rattle.ppd_deps.proofs.Added.{adds_as, adds_none, adds_then}
use Rattle.ppd_deps.proofs.Graphs.{vars_all, vars_more}
use Rattle.ppd_deps.proofs.Vocabulary.{shared_edge}
use Rattle.ppd_deps.specs.Named.{shared_reads}
use Rattle.ppd_deps.proofs.adding.add_shared_edges.Goals as goal

pub loop-var-init : goal.loop-var-init
loop-var-init c = adds_none c.args.rows.now

pub loop-var-preserved : goal.loop-var-preserved
loop-var-preserved c =
    adds_as _ _ _ _ (λ t lt. vars_more (shared_edge c.args.stmt) (has (shared_reads c.args.program.now t)) c.args.vars.now c.loop-var.var-index c.loop-var-test.true) (adds_then _ _ _ _ _ c.loop-var.invariant c.in_ok-add_shared_edge.ensures)

pub returns : goal.returns
returns c = adds_as _ _ _ _ (λ t lt. vars_all (shared_edge c.args.stmt) (has (shared_reads c.args.program.now t)) c.args.vars.now c.loop-var.var-index c.loop-var-test.false) c.loop-var.invariant
