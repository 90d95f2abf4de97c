use Rattle.ppd_check.specs.Sources.{entered}
use Rattle.std.proofs.Common.{◌∙◌, ap, subst, sym, refl, arith, ◌≡◌, [], ◌∷◌, drop}
use Rattle.ppd_check_names.specs.declared.frame.Frame.{Frame}
use Rattle.ppd_check_names.specs.Holding.{head_said}
use Rattle.ppd_check_names.specs.Names.{innermost}
use Rattle.ppd_check_names.specs.Nodes.{phrases_below}
use Rattle.ppd_check.specs.Bodies.{WroteHeads}
use Rattle.ppd_check_names.proofs.Table.Costs.{nodes_step}
use Rattle.ppd_check.proofs.bodies.write_head.Goals as goal

pub write_body-requires-clause-entered : goal.write_body-requires-clause-entered
write_body-requires-clause-entered g c = subst (λ (f : Frame). f ≡ entered (drop 1 f.scopes)) (sym c.in_ok-frame.ensures.value) refl

pub write_body-requires-clause-one : goal.write_body-requires-clause-one
write_body-requires-clause-one g c = subst (λ (f : Frame). drop 1 f.scopes ≡ innermost (drop 1 f.scopes) ∷ []) (sym c.in_ok-frame.ensures.value) c.requires.one

pub returns-clause-wrote : goal.returns-clause-wrote
returns-clause-wrote g c =
    subst (λ (f : Frame). WroteHeads (innermost (drop 1 f.scopes)) (head_said c.args.heads.process (phrases_below c.args.heads.source.nodes.now c.args.id) ∷ []) c.args.out.now.table c.write_body.new.out.table c.args.bodies.now c.write_body.new.bodies)
    c.in_ok-frame.ensures.value c.in_ok-write_body.ensures.wrote

pub returns-clause-scopes : goal.returns-clause-scopes
returns-clause-scopes g c = c.leave.ensures ∙ c.in_ok-write_body.ensures.scopes ∙ ap (λ (f : Frame). drop 1 f.scopes) c.in_ok-frame.ensures.value

pub returns-in_err-frame-clause-cost : goal.returns-in_err-frame-clause-cost
returns-in_err-frame-clause-cost g c = omega (arith, c.enter.ensures.cost, nodes_step c.args.heads.source.nodes.now c.args.id c.args.heads.source.table c.requires.within)
