use Rattle.std.proofs.Common.{rules, ◌≡◌, ◌∙◌, sym, ap, ◌-◌, length}
use Rattle.ppd_check_names.specs.Reading.{Phrase, as_token}
use Rattle.ppd_check.proofs.Filling.{last_child}
use Rattle.ppd_check.proofs.bodies.last_place.Goals as goal

pub returns : goal.returns
returns c =
    let k : c.saturating_sub.result ≡ length c.children_of-count.result.now - 1 = search rules in
    c.place_at.ensures
    ∙ sym (ap (λ (p : Phrase). (as_token p).place) (last_child c.args.source.nodes.now c.args.id c.saturating_sub.result c.children_of-count.result.now c.children_of-count.ensures.children k))
