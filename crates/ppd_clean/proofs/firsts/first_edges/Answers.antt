use Rattle.std.proofs.Common.{◌≡◌, ◌∙◌, ◌++◌, ℕ, List, ap}
use Rattle.ppd_clean.specs.Firsts.{edge_if, firsts_of, least_of}
use Rattle.ppd_model.specs.declared.graph.EdgeId.{EdgeId}
use Rattle.ppd_race.proofs.Over.{from_zero}
use Rattle.ppd_clean.proofs.firsts.first_edges.Goals as goal

pub loop-number-preserved : goal.loop-number-preserved
loop-number-preserved c =
    let n : ℕ = c.loop-number.number in
    let before : List EdgeId = firsts_of c.args.races.now n in
    let same : c.in-Ok.process ≡ n = c.in-Ok.ensures.1 in
    c.in_ok-push_if.ensures
    ∙ ap (λ (es : List EdgeId). es ++ edge_if c.in-Ok.process c.least.result) c.loop-number.invariant
    ∙ ap (λ o. before ++ edge_if c.in-Ok.process o) c.least.ensures
    ∙ ap (λ q. before ++ edge_if q (least_of c.args.races.now q)) same
    ∙ from_zero (λ q. edge_if q (least_of c.args.races.now q)) n
