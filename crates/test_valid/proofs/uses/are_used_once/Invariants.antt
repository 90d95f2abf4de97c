use Rattle.std.proofs.Common.{◌<◌, ◌-◌, ℕ, length}
use Rattle.ppd_ast.specs.Tally.{IsOnce}
use Rattle.test_valid.proofs.uses.are_used_once.Given as goal
use Rattle.ppd_ast.specs.Uses.{uses_of}

abbrev pub invariant-loop-start : goal.invariant-loop-start
invariant-loop-start l = (n : ℕ) → n < l.start → n < length l.exprs → IsOnce (uses_of l.exprs l.stmts) n

abbrev pub decreases-loop-start : goal.decreases-loop-start
decreases-loop-start l = length l.exprs - l.start
