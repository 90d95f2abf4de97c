use Rattle.std.proofs.Common.{◌≡◌, drop}
use Rattle.std.specs.Prelude.{fold}
use Rattle.ppd_graph.specs.Control.{Tests, last_test, test_item}
use Rattle.ppd_flow_local.proofs.testing.last_test.Given as goal

abbrev pub invariant-loop-i : goal.invariant-loop-i
invariant-loop-i l =
    let t : Tests = record { next = l.i; found = l.found } in
    (fold (test_item l.code.program.now l.code.plan.now l.frame l.stmt) t (drop l.i l.items)).found ≡ last_test l.code.program.now l.code.plan.now l.frame l.stmt l.items
