use Rattle.std.proofs.Common.{◌∙◌, ap, sym}
use Rattle.std.specs.Prelude.{◌-◌}
use Rattle.ppd_model.specs.declared.flow.Origin.TheVariants as origin
use Rattle.ppd_graph.specs.Looked.{known}
use Rattle.ppd_flow_local.proofs.Joined.{no_memory, nothing}
use Rattle.ppd_flow_local.proofs.search.Search.item_before.Goals as goal

pub returns : goal.returns
returns c = λ n.
    nothing c.args.self.now (origin.Item c.args.self.now.process c.args.interval (c.args.place - 1)) c.origin.result n
    (sym (c.origin.ensures ∙ ap (λ j. origin.Item c.args.self.now.process c.args.interval j) (c.in_ok-item.ensures.ok ∙ c.saturating_sub.ensures)))

pub returns-in_err-item : goal.returns-in_err-item
returns-in_err-item c = λ n.
    no_memory c.args.self.now (known (origin.Item c.args.self.now.process c.args.interval (c.args.place - 1))) n n c.from_residual.result
    c.from_residual.ensures.1
