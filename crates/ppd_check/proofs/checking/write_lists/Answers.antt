use Rattle.std.proofs.Common.{subst, ◌++◌, [], List, ℕ, map, arith, ap, length}
use Rattle.ppd_check.specs.Bodies.{WroteHeads}
use Rattle.ppd_check_names.specs.Cost.{nodes_at, total}
use Rattle.ppd_check_names.specs.Holding.{head_at}
use Rattle.ppd_check_names.specs.Names.{innermost, Scope}
use Rattle.ppd_check_names.specs.declared.frame.Variable.{Variable}
use Rattle.ppd_check.proofs.checking.write_lists.Goals as goal
use Rattle.std.proofs.lemmas.Grind.{common_steps, elements}

pub returns-clause-wrote : goal.returns-clause-wrote
returns-clause-wrote g c =
    let ns = c.args.source.nodes.now in
    let old = c.args.lists.now.out.table in
    let new = c.write_all.new.out.table in
    let bs = c.in_ok-bodies.bodies in
    subst (λ (s : List Scope). WroteHeads (innermost s) (map (head_at ns) c.args.globals.now.functions ++ map (head_at ns) c.args.globals.now.processes) old new [] bs) c.replace-scopes.ensures.value
    (subst (λ (x : List ℕ). WroteHeads (innermost c.replace-scopes.result) (map (head_at ns) c.args.globals.now.functions ++ map (head_at ns) x) old new [] bs) c.as_slice-3.ensures
    (subst (λ (x : List ℕ). WroteHeads (innermost c.replace-scopes.result) (map (head_at ns) x ++ map (head_at ns) c.as_slice-3.result.now) old new [] bs) c.as_slice-2.ensures
    c.in_ok-bodies.ensures.wrote))

pub returns-clause-cost : goal.returns-clause-cost
returns-clause-cost g c =
    let ns = c.args.source.nodes.now in
    omega (arith, c.vars_of.ensures.cost, c.write_all.ensures.cost, ap (λ (l : List Variable). length l) c.as_slice.ensures, ap (total (nodes_at ns)) c.as_slice-2.ensures, ap (total (nodes_at ns)) c.as_slice-3.ensures)

pub new-requires : goal.new-requires
new-requires c = omega arith

pub returns-in_err-bodies : goal.returns-in_err-bodies
returns-in_err-bodies c = grind (arith, elements) steps 250000

pub returns-in_err-lists : goal.returns-in_err-lists
returns-in_err-lists c = grind (arith, common_steps) steps 250000
