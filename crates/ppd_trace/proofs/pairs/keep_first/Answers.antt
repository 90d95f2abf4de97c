use Rattle.std.proofs.Common.{◌≡◌, Some, rules}
use Rattle.ppd_trace.proofs.Leading.{keeps_put}
use Rattle.ppd_trace.proofs.pairs.keep_first.Goals as goal

pub returns-clause-kept : goal.returns-clause-kept
returns-clause-kept g c =
    let is : c.args.target ≡ Some (c.in-Some.object, c.in-Some.number) = search rules in
    keeps_put c.args.leads.now c.insert.new.self c.args.target c.in-Some.object c.in-Some.number c.args.event c.found.result c.is_some.result is c.found.ensures.value c.is_some.ensures c.if-is_some.false
    c.in_ok-insert.ensures.updates.0
