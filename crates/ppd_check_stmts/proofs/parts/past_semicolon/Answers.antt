use Rattle.std.proofs.Common.{◌∙◌, ap, sym, drop, arith}
use Rattle.ppd_check_names.specs.Nodes.{phrases_below}
use Rattle.ppd_check_stmts.proofs.Rows.Semicolons.{behind_all}
use Rattle.ppd_check_stmts.proofs.parts.past_semicolon.Goals as goal

pub returns-then-at-count-clause-value : goal.returns-then-at-count-clause-value
returns-then-at-count-clause-value g c = sym c.semicolon_from-at.ensures.beyond

pub returns-clause-value : goal.returns-clause-value
returns-clause-value g c =
    let ps = phrases_below c.args.source.nodes.now c.args.id in
    ap (λ n. drop n ps) c.count_of-count.ensures ∙ behind_all ps c.args.from c.semicolon_from-at.result (omega (arith, c.if-at-count.false, c.count_of-count.ensures)) c.semicolon_from-at.ensures.beyond
