use Rattle.std.specs.Prelude.{get_or, []}
use Rattle.std.proofs.Common.{◌∙◌, ◌-◌, None, Some, ap₂}
use Rattle.ppd_flow_past.proofs.Edges.Standing.{inside_is}
use Rattle.ppd_flow_tables.proofs.spans.syncs_inside.Goals as goal

pub returns-in-Some : goal.returns-in-Some
returns-in-Some c =
    let entries = get_or c.args.past.now.logs.now.lists c.args.process [] in
    c.saturating_sub.ensures
    ∙ ap₂ (λ a b. a - b) (c.count_at.ensures entries c.requires.counts)
    (c.count_at-in-Some.ensures entries c.requires.counts)
    ∙ inside_is c.args.past.now c.args.process c.args.interval c.requires.past.index_is (Some c.in-Some.found)
    c.in-Some.ensures

pub returns-in-None : goal.returns-in-None
returns-in-None c = inside_is c.args.past.now c.args.process c.args.interval c.requires.past.index_is None
    c.in-None.ensures
