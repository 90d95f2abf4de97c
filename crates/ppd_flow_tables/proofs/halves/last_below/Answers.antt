use Rattle.std.proofs.Common.{refl}
use Rattle.ppd_flow_tables.proofs.Cut.{none_below, some_below}
use Rattle.ppd_flow_tables.proofs.halves.last_below.Goals as goal

pub returns-then-count-eq0-clause-last : goal.returns-then-count-eq0-clause-last
returns-then-count-eq0-clause-last g c = none_below c.args.limit c.args.numbers.now c.count_below-count.result c.if-count-eq0.true c.count_below-count.ensures.cut

pub returns-clause-last : goal.returns-clause-last
returns-clause-last g c = some_below c.args.limit c.args.numbers.now c.count_below-count.result _ 0 c.if-count-eq0.false refl c.count_below-count.ensures.cut
