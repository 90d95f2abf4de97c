use Rattle.std.proofs.Common.{arith, get_or, ◌∙◌, ap, subst, sym, ◌∷◌, [], List}
use Rattle.std.proofs.lemmas.List.{get_or_default}
use Rattle.ppd_check.specs.Bodies.{WroteHeads}
use Rattle.ppd_check_names.specs.Holding.{head_said}
use Rattle.ppd_check_names.specs.Names.{innermost, Scope}
use Rattle.ppd_check_names.specs.Nodes.{phrases_below}
use Rattle.ppd_check.proofs.Heading.{heads_next, heads_all}
use Rattle.ppd_check_names.specs.Cost.{nodes_at}
use Rattle.ppd_check_names.proofs.Table.Costs.{total_more, some_nodes_at, total_all, total_part}
use Rattle.ppd_check.proofs.bodies.write_heads.Goals as goal

pub loop-id-preserved : goal.loop-id-preserved
loop-id-preserved g c =
    let d = get_or c.args.ids.now c.loop-id.id-index 0 in
    record {
      scopes = c.in_ok-scopes.ensures.scopes ∙ c.loop-id.invariant.scopes;
      wrote =
          heads_next (innermost c.args.scopes) c.args.heads.source.nodes.now c.args.heads.process c.args.ids.now c.loop-id.id-index d
          c.args.out.now.table c.loop-id.out.table c.write_head.new.out.table c.args.bodies.now c.loop-id.bodies c.write_head.new.bodies
          (omega (arith, c.loop-id-test.true))
          (get_or_default c.args.ids.now c.loop-id.id-index 0 _ (omega (arith, c.loop-id-test.true)))
          (c.requires.heads c.loop-id.id-index 0 (omega (arith, c.loop-id-test.true)))
          c.loop-id.invariant.wrote
          (subst (λ (s : List Scope). WroteHeads (innermost s) (head_said c.args.heads.process (phrases_below c.args.heads.source.nodes.now d) ∷ []) c.loop-id.out.table c.write_head.new.out.table c.loop-id.bodies c.write_head.new.bodies) c.loop-id.invariant.scopes c.in_ok-scopes.ensures.wrote);
      cost = omega (arith, c.loop-id.invariant.cost, c.tick.ensures, c.in_ok-scopes.ensures.cost, total_more (nodes_at c.args.heads.source.nodes.now) c.args.ids.now c.loop-id.id-index 0 (omega (arith, c.loop-id-test.true)), some_nodes_at c.args.heads.source.nodes.now (get_or c.args.ids.now c.loop-id.id-index 0));
    }

pub write_head-requires-clause-within : goal.write_head-requires-clause-within
write_head-requires-clause-within g c = (c.requires.heads c.loop-id.id-index 0 (omega (arith, c.loop-id-test.true))).within

pub write_head-requires-clause-one : goal.write_head-requires-clause-one
write_head-requires-clause-one g c = c.loop-id.invariant.scopes ∙ c.requires.one ∙ ap (λ (s : List Scope). innermost s ∷ []) (sym c.loop-id.invariant.scopes)

pub returns-clause-wrote : goal.returns-clause-wrote
returns-clause-wrote g c =
    heads_all (innermost c.args.scopes) c.args.heads.source.nodes.now c.args.ids.now c.loop-id.id-index c.args.out.now.table c.loop-id.out.table c.args.bodies.now c.loop-id.bodies
    (omega (arith, c.loop-id-test.false)) c.loop-id.invariant.wrote

pub returns-clause-cost : goal.returns-clause-cost
returns-clause-cost g c =
    omega (arith, c.loop-id.invariant.cost, total_all (nodes_at c.args.heads.source.nodes.now) c.args.ids.now c.loop-id.id-index (omega (arith, c.loop-id-test.false)))

pub returns-in_err-scopes-clause-cost : goal.returns-in_err-scopes-clause-cost
returns-in_err-scopes-clause-cost g c =
    omega (arith, c.loop-id.invariant.cost, c.tick.ensures, c.write_head.ensures.cost, total_part (nodes_at c.args.heads.source.nodes.now) c.args.ids.now c.loop-id.id-index 0 (omega (arith, c.loop-id-test.true)), some_nodes_at c.args.heads.source.nodes.now (get_or c.args.ids.now c.loop-id.id-index 0))

pub bounds-ids-id-index : goal.bounds-ids-id-index
bounds-ids-id-index c = omega arith

pub loop-id-smaller : goal.loop-id-smaller
loop-id-smaller c = omega arith

pub offset_bounds-ids-id-index : goal.offset_bounds-ids-id-index
offset_bounds-ids-id-index c = omega arith
