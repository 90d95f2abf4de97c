use Rattle.std.proofs.Common.{sym, subst, reverse, ◌∷◌}
use Rattle.ppd_parse.specs.declared.symbol.Want.{Want}
use Rattle.ppd_parse.specs.declared.growth.Step.TheVariants as M
use Rattle.ppd_parse.specs.Machine.{Advanced, state_of, wanting}
use Rattle.ppd_parse.specs.Stack.{IsGood}
use Rattle.ppd_parse.specs.Table.{shapes_of}
use Rattle.ppd_parse.proofs.Moves.{close_moves}
use Rattle.ppd_parse.proofs.machine.advance.Goals as goal

pub returns-in_ok-close-in-Close : goal.returns-in_ok-close-in-Close
returns-in_ok-close-in-Close c =
    let ws = c.args.wants.now.items in
    let g = c.args.grove.now in
    let new = c.close.new.self in
    subst (λ (w : Want). Advanced c.args.token.now M.Moved (wanting w (state_of ws g)) (state_of ws new)) (sym c.in-Close.is)
    (close_moves c.args.token.now c.in-Close.rule c.in-Close.base (reverse ws) (shapes_of g.nodes.items g.roots.items) (shapes_of new.nodes.items new.roots.items) c.in_ok-close-in-Close.ensures (subst (λ (w : Want). IsGood (w ∷ reverse ws)) c.in-Close.is c.requires))
