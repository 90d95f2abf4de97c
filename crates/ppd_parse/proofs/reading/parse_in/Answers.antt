use Rattle.ppd_parse.proofs.Renumbered.{short, numbered}
use Rattle.ppd_parse.proofs.reading.parse_in.Goals as goal

pub renumber-requires : goal.renumber-requires
renumber-requires g c =
    let w = c.in_ok-grove.grove in
    record { few = short c.args.tokens.now w.nodes.items w.roots.items c.requires.short w.grown c.in_ok-grove.ensures.tree }

pub returns-clause-parse : goal.returns-clause-parse
returns-clause-parse g c =
    let w = c.in_ok-grove.grove in
    let n = numbered c.args.tokens.now w.nodes.items w.roots.items c.in_ok-renumber.field-0.nodes c.in_ok-renumber.ensures w.grown c.in_ok-grove.ensures.tree in
    record { tree = n.tree; table = n.table; few = n.few; refused = tt }
