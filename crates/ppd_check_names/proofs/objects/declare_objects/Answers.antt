use Rattle.std.proofs.Common.{arith, subst, ◌∙◌}
use Rattle.ppd_check_names.specs.Holding.{Declares}
use Rattle.ppd_check_names.specs.Nodes.{phrases_below}
use Rattle.ppd_check_names.specs.Items.{numbered_item}
use Rattle.ppd_check_names.proofs.Table.Listing.{declares_more, declares_all}
use Rattle.ppd_check_names.proofs.objects.declare_objects.Goals as goal

pub loop-k-preserved : goal.loop-k-preserved
loop-k-preserved g c =
    let make = numbered_item c.args.sort in
    let ps = phrases_below c.args.source.nodes.now c.args.id in
    record {
      declares = λ ns.
          declares_more ns make ps c.loop-k.k c.args.globals.now c.loop-k.globals c.declare_named.new.globals c.args.found.now c.loop-k.found c.declare_named.new.found
          (omega (arith, c.loop-k-test.true, c.in_ok-count.ensures)) (c.loop-k.invariant.declares ns)
          (subst (λ is. Declares ns is c.loop-k.globals c.declare_named.new.globals c.loop-k.found c.declare_named.new.found) (c.numbered_at.ensures make) (c.in_ok-declare_named.ensures.declares ns));
      cost = omega (arith, c.loop-k.invariant.cost, c.tick.ensures, c.in_ok-declare_named.ensures.cost);
      heads = (c.in_ok-declare_named.ensures.heads.0 ∙ c.loop-k.invariant.heads.0, c.in_ok-declare_named.ensures.heads.1 ∙ c.loop-k.invariant.heads.1);
    }

pub returns-clause-declares : goal.returns-clause-declares
returns-clause-declares g c = λ ns.
    declares_all ns (numbered_item c.args.sort) (phrases_below c.args.source.nodes.now c.args.id) c.loop-k.k c.args.globals.now c.loop-k.globals c.args.found.now c.loop-k.found
    (omega (arith, c.loop-k-test.false, c.loop-k.auto.k-end, c.in_ok-count.ensures)) (c.loop-k.invariant.declares ns)
