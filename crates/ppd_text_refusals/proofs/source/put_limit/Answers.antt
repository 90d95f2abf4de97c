use Rattle.std.proofs.Common.{◌∙◌, ◌++◌, List, ℕ, decimal, ap, append_assoc}
use Rattle.ppd_text_refusals.proofs.source.put_limit.Goals as goal

pub returns : goal.returns
returns c =
    let word = c.limit_row-most.result.0.now in
    let most = decimal c.limit_row-most.result.1 in
    c.in_ok-put_count.ensures ∙ ap (λ (t : List ℕ). t ++ most) c.in_ok-put.ensures
    ∙ append_assoc c.args.line.now.items word most
    ∙ ap (λ (t : List ℕ). c.args.line.now.items ++ t) (c.limit_row-most.ensures c.args.place)
