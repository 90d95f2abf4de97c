use Rattle.std.proofs.Common.{◌≡◌, subst}
use Rattle.std.specs.Prelude.{IfOk}
use Rattle.ppd_ast.specs.declared.plan.Plan.{Plan}
use Rattle.ppd_ast.specs.declared.program.Program.{Program}
use Rattle.ppd_graph.specs.Locals.{scan}
use Rattle.ppd_flow_local.specs.Scans.{scanned}
use Rattle.ppd_flow_local.specs.Searches.{plan_in}
use Rattle.ppd_flow_local.specs.declared.scan.Scan.{Scan}
use Rattle.ppd_flow_local.proofs.search.Search.scanned.Goals as goal

pub returns : goal.returns
returns c =
    let items = c.args.items.now in
    subst (λ (program : Program). IfOk c.over.result (λ (state : Scan). scanned state ≡ scan program (plan_in c.args.self.now) c.args.wanted.frame c.args.wanted.cell items))
    c.code.ensures.program
    (subst (λ (plan : Plan). IfOk c.over.result (λ (state : Scan). scanned state ≡ scan c.code.result.program.now plan c.args.wanted.frame c.args.wanted.cell items))
    c.code.ensures.plan c.over.ensures)
