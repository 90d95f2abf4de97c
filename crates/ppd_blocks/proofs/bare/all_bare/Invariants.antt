use Rattle.std.proofs.Common.{◌≡◌, map, take}
use Rattle.std.specs.List.{flat_map, enumerate_from}
use Rattle.ppd_ast.specs.Numbered.{of_body}
use Rattle.ppd_blocks.proofs.bare.all_bare.Given as goal

abbrev pub invariant-loop-number : goal.invariant-loop-number
invariant-loop-number g l =
    l.list ≡ map (g.T.Bare.bare l.program.bodies) (flat_map (λ e. of_body g.T.Bare.own g.T.Bare.at_stmt l.program.stmts l.policy e.0 e.1) (enumerate_from 0 (take l.number l.bodies)))
