use Rattle.std.proofs.Common.{◌-◌, ◌∙◌, List, None, Some, ap}
use Rattle.ppd_model.specs.declared.entry.Entry.{Entry}
use Rattle.ppd_graph.specs.Ends.{syncs_before}
use Rattle.ppd_flow_past.proofs.Edges.Standing.{inside_is}
use Rattle.ppd_flow_past.proofs.places.syncs_inside.Goals as goal

pub returns-in-Some : goal.returns-in-Some
returns-in-Some c =
    c.syncs_between.ensures ∙ ap (λ
    (es : List Entry). syncs_before es c.in-Some.found.last - syncs_before es c.in-Some.found.first)
    c.entries_of.ensures
    ∙ inside_is c.args.past.now c.args.process c.args.interval c.requires.index_is
    (Some c.in-Some.found) c.in-Some.ensures

pub returns-in-None : goal.returns-in-None
returns-in-None c = inside_is c.args.past.now c.args.process c.args.interval c.requires.index_is None c.in-None.ensures
