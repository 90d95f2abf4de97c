use Rattle.std.proofs.Common.{subst, [], List, map}
use Rattle.ppd_ast.specs.declared.program.Body.{Body}
use Rattle.ppd_check.specs.Bodies.{WroteHeads}
use Rattle.ppd_check_names.specs.Holding.{head_at}
use Rattle.ppd_check_names.specs.Names.{innermost, Scope}
use Rattle.ppd_check.proofs.Heading.{heads_join}
use Rattle.ppd_check.proofs.checking.write_all.Goals as goal

pub returns-clause-wrote : goal.returns-clause-wrote
returns-clause-wrote g c =
    let ns = c.args.source.nodes.now in
    let fs = map (head_at ns) c.args.functions.now in
    let ps = map (head_at ns) c.args.processes.now in
    heads_join (innermost c.args.scopes) fs ps c.args.out.now.table c.write_heads.new.out.table c.write_heads-2.new.out.table [] c.write_heads.new.bodies c.write_heads-2.new.bodies
    (subst (λ (l : List Body). WroteHeads (innermost c.args.scopes) fs c.args.out.now.table c.write_heads.new.out.table l c.write_heads.new.bodies) c.new-bodies.ensures c.in_ok-scopes.ensures.wrote)
    (subst (λ (s : List Scope). WroteHeads (innermost s) ps c.write_heads.new.out.table c.write_heads-2.new.out.table c.write_heads.new.bodies c.write_heads-2.new.bodies) c.in_ok-scopes.ensures.scopes c.in_ok-write_heads.ensures.wrote)
