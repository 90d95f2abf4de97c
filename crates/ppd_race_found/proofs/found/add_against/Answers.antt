use Rattle.std.proofs.Common.{ap, arith}
use Rattle.std.specs.List.{flat_map}
use Rattle.ppd_race_found.specs.Search.{found_against, picked}
use Rattle.ppd_race_found.proofs.Grown.{grown_as, past_all, past_none}
use Rattle.ppd_race_found.proofs.found.add_against.Goals as goal

pub loop-one-init : goal.loop-one-init
loop-one-init g c = record { grown = past_none (λ m a. picked m c.args.against a) c.window-apart.result.now c.args.found.now.items; least = omega (arith, c.window-apart.ensures.on); spent = omega (arith, c.window-apart.ensures.cost) }

pub returns-clause-grows : goal.returns-clause-grows
returns-clause-grows g c = λ rising p order elsewhere.
    grown_as (λ m. flat_map (picked m c.args.against) c.window-apart.result.now) (found_against c.args.graph.now c.args.list.now c.args.against) c.args.found.now.items c.loop-one.found.items (λ m. ap (flat_map (picked m c.args.against)) (c.window-apart.ensures.apart rising p order elsewhere)) (past_all (λ m a. picked m c.args.against a) c.loop-one.one-index c.window-apart.result.now c.args.found.now.items c.loop-one.found.items c.loop-one-test.false c.loop-one.invariant.grown)

pub returns-clause-long : goal.returns-clause-long
returns-clause-long g c = c.loop-one.invariant.grown.long
