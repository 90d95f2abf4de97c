use Rattle.std.proofs.Common.{◌≡◌, ◌++◌, drop, map, take}
use Rattle.std.specs.List.{flat_map, enumerate_from}
use Rattle.ppd_ast.specs.Numbered.{of_body}
use Rattle.test_valid.proofs.numbered.past_bodies.Given as goal

abbrev pub invariant-loop-number : goal.invariant-loop-number
invariant-loop-number g l =
    drop 0 (map g.T.Numbered.key l.list)
    ≡ flat_map (λ e. of_body g.T.Numbered.own g.T.Numbered.at_stmt l.stmts l.policy e.0 e.1) (enumerate_from 0 (take l.number l.bodies))
    ++ drop l.next (map g.T.Numbered.key l.list)
