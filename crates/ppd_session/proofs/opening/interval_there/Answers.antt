use Rattle.std.specs.Prelude.{get_or}
use Rattle.std.proofs.Common.{◌≡◌, arith, length, sym, ◌∙◌}
use Rattle.std.proofs.lemmas.Bool.{le-ltb, lt-ltb}
use Rattle.ppd_session.specs.Sessions.{known_by}
use Rattle.std.proofs.Common.{[]}
use Rattle.ppd_session.proofs.Indexed.{count_is}
use Rattle.ppd_session.proofs.opening.interval_there.Goals as goal

pub returns-then-interval-from-clause-known : goal.returns-then-interval-from-clause-known
returns-then-interval-from-clause-known c =
    let past = c.args.past.now in
    let all = length (get_or (known_by past []).intervals c.args.process []) in
    let long : c.from.result ≡ all =
    c.from.ensures ∙ (c.count.ensures ∙ count_is past.plan.now past.logs.now past.index.now.tables c.args.process c.requires.index_is) in
    sym (lt-ltb c.args.interval all (omega (arith, long, c.if-interval-from.true)))

pub returns-clause-known : goal.returns-clause-known
returns-clause-known c =
    let past = c.args.past.now in
    let all = length (get_or (known_by past []).intervals c.args.process []) in
    let long : c.from.result ≡ all =
    c.from.ensures ∙ (c.count.ensures ∙ count_is past.plan.now past.logs.now past.index.now.tables c.args.process c.requires.index_is) in
    sym (le-ltb c.args.interval all (omega (arith, long, c.if-interval-from.false)))
