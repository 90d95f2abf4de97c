use Rattle.std.proofs.Common.{◌∙◌, Option, ap, ℕ}
use Rattle.std.specs.Prelude.{get_or, unwrap_or, []}
use Rattle.ppd_flow_local.specs.Searches.{seen}
use Rattle.ppd_flow_local.proofs.Places.{first_there}
use Rattle.ppd_flow_local.proofs.search.Search.outer.Goals as goal

pub returns : goal.returns
returns c =
    c.unwrap_or.ensures
    ∙ ap (λ (o : Option ℕ). unwrap_or o c.args.interval) c.outer_of.ensures
    ∙ first_there c.args.interval (get_or (seen c.args.self.now).rounds c.args.interval [])
