use Rattle.std.proofs.Common.{rules, ◌≡◌, ◌∙◌, ap, ◌-◌, length, Some, None}
use Rattle.ppd_check_names.specs.Reading.{place_at}
use Rattle.ppd_check_names.specs.Nodes.{phrases_below}
use Rattle.ppd_check_names.proofs.Table.Roots.{end_told}
use Rattle.ppd_check_names.proofs.collecting.end_at.Goals as goal

pub returns-in-Some : goal.returns-in-Some
returns-in-Some c = end_told c.args.source.nodes.now (Some c.in-Some.token.now) c.args.source.table c.in-Some.ensures

pub returns-in-None : goal.returns-in-None
returns-in-None c =
    let k : c.saturating_sub.result ≡ length c.children_of.result.now - 1 = search rules in
    c.place_at.ensures
    ∙ ap (place_at (phrases_below c.args.source.nodes.now 0)) k
    ∙ ap (λ cs. place_at (phrases_below c.args.source.nodes.now 0) (length cs - 1)) c.children_of.ensures.children
    ∙ end_told c.args.source.nodes.now None c.args.source.table c.in-None.ensures
