use Rattle.std.proofs.Common.{◌∷◌, [], ◌∙◌, List, ap, reverse, ℕ}
use Rattle.std.proofs.lemmas.List.{reverse-append}
use Rattle.ppd_flow_local.proofs.scan.push_loop.Goals as goal

pub returns : goal.returns
returns c =
    ap (λ (ms : List ℕ). reverse ms) c.in_ok-push.ensures.ok
    ∙ reverse-append c.args.loops.now (c.args.interval ∷ [])
