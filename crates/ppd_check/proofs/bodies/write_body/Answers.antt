use Rattle.std.proofs.Common.{◌∙◌, ap, subst, sym, arith, ℕ, None, refl, ◌≡◌, ◌∷◌, [], drop}
use Rattle.ppd_check_names.specs.declared.writer.Writer.{Writer}
use Rattle.ppd_check_names.specs.Fitted.{fitted}
use Rattle.ppd_check_names.specs.Globals.{Head}
use Rattle.ppd_check_names.specs.Holding.{head_said}
use Rattle.ppd_check_names.specs.Names.{innermost}
use Rattle.ppd_check_names.specs.Nodes.{phrases_below}
use Rattle.ppd_check_names.specs.Syntax.{Name}
use Rattle.ppd_check.specs.Bodies.{WroteHeads}
use Rattle.ppd_check_names.proofs.Found.Outcomes.{ok_map}
use Rattle.ppd_check_names.proofs.Declared.Costs.{ok_any}
use Rattle.ppd_check_names.proofs.Table.Costs.{nodes_step}
use Rattle.ppd_check.proofs.Filling.{body_from, scopes_after}
use Rattle.ppd_check.proofs.HeadCosts.{body_few}
use Rattle.ppd_check.proofs.bodies.write_body.Goals as goal

pub returns-clause-wrote : goal.returns-clause-wrote
returns-clause-wrote g c =
    let scope = innermost (drop 1 c.args.frame.now.scopes) in
    let head : Head = head_said c.args.heads.process (phrases_below c.args.heads.source.nodes.now c.args.id) in
    ok_map c.close_body.result _ _
    (λ pushed. subst (λ (w : Writer). WroteHeads scope (head ∷ []) c.args.out.now.table w c.args.bodies.now c.close_body.new.bodies) (sym c.close_body.ensures.table)
    (body_from (drop 1 c.args.frame.now.scopes) head (record { body = c.as_short.result; parent = None })
    c.args.frame.now c.declare_params.new.frame c.fill.new.frame c.args.out.now.table c.fill.new.out.table c.declare_params.new.found _
    c.new.result c.fill.new.out.row c.args.bodies.now c.close_body.new.bodies c.as_short-params.result c.in_ok-first.first _ c.label_at.result.text.now c.gives_at.result _
    c.requires.one c.requires.entered c.in_ok-declare_params.ensures.declares c.new.ensures c.in_ok-fill.ensures.filled refl
    (ap (λ (n : ℕ). record { body = n; parent = None }) (c.as_short.ensures ∙ ap (fitted 16) c.len.ensures))
    (c.as_short-params.ensures ∙ ap (fitted 16) c.len-2.ensures)
    c.in_ok-first.ensures refl
    (ap (λ (x : Name). x.text) c.label_at.ensures)
    c.gives_at.ensures
    refl
    pushed))
    c.close_body.ensures.pushed

pub returns-clause-scopes : goal.returns-clause-scopes
returns-clause-scopes g c =
    ok_any c.close_body.result _
    (scopes_after (head_said c.args.heads.process (phrases_below c.args.heads.source.nodes.now c.args.id)) (drop 1 c.args.frame.now.scopes) c.args.frame.now c.declare_params.new.frame c.fill.new.frame (drop 1 c.fill.new.frame.scopes)
    c.requires.entered c.in_ok-declare_params.ensures.declares.frame c.in_ok-fill.ensures.filled.frame refl)

pub returns-in_err-first-clause-cost : goal.returns-in_err-first-clause-cost
returns-in_err-first-clause-cost g c = omega (arith, nodes_step c.args.heads.source.nodes.now c.args.id c.args.heads.source.table c.requires.within)

pub returns-in_err-declare_params-clause-cost : goal.returns-in_err-declare_params-clause-cost
returns-in_err-declare_params-clause-cost g c = omega (arith, c.declare_params.ensures.cost, nodes_step c.args.heads.source.nodes.now c.args.id c.args.heads.source.table c.requires.within)

pub returns-in_err-fill-clause-cost : goal.returns-in_err-fill-clause-cost
returns-in_err-fill-clause-cost g c =
    let few = body_few c.args.heads.source.nodes.now c.args.id c.args.heads.process (drop 1 c.args.frame.now.scopes) c.args.frame.now c.declare_params.new.frame _ c.requires.entered c.in_ok-declare_params.ensures.declares.frame refl in
    omega (arith, c.declare_params.ensures.cost, c.fill.ensures.cost, nodes_step c.args.heads.source.nodes.now c.args.id c.args.heads.source.table c.requires.within, few.0)

pub returns-clause-cost : goal.returns-clause-cost
returns-clause-cost g c =
    let few = body_few c.args.heads.source.nodes.now c.args.id c.args.heads.process (drop 1 c.args.frame.now.scopes) c.args.frame.now c.declare_params.new.frame c.fill.new.frame c.requires.entered c.in_ok-declare_params.ensures.declares.frame c.in_ok-fill.ensures.filled.frame in
    omega (arith, c.declare_params.ensures.cost, c.fill.ensures.cost, c.close_body.ensures.cost, nodes_step c.args.heads.source.nodes.now c.args.id c.args.heads.source.table c.requires.within, few.0, few.1)

pub alloc-requires : goal.alloc-requires
alloc-requires c = omega arith

pub as_short-params-requires : goal.as_short-params-requires
as_short-params-requires c = omega arith

pub count_of-requires : goal.count_of-requires
count_of-requires c = omega arith

pub declare_params-requires : goal.declare_params-requires
declare_params-requires c = omega arith

pub fill-requires : goal.fill-requires
fill-requires c = omega arith
