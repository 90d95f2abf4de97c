use Rattle.std.proofs.Common.{subst}
use Rattle.ppd_graph.specs.Locals.{local_outside}
use Rattle.ppd_flow_local.specs.Searches.{IsFound, plan_in, program_in, seen}
use Rattle.ppd_flow_local.proofs.search.Search.local_at.Goals as goal

pub returns : goal.returns
returns g c =
    subst (λ frame. IsFound c.args.self.now
    (local_outside (program_in c.args.self.now) (plan_in c.args.self.now) (seen c.args.self.now) c.args.self.now.process c.args.place.now.interval c.args.place.now.item frame c.args.cell)
    c.args.steps.now c.local_outside.new.steps c.local_outside.result) c.in_ok-frame.ensures c.local_outside.ensures
