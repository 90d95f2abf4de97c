use Rattle.std.proofs.Common.{ℕ, ◌<◌, ◌≤◌, get_or}
use Rattle.ppd_ast.specs.Valid.{IsName}
use Rattle.ppd_ast.specs.declared.program.Sem.{Sem}
use Rattle.ppd_ast.specs.declared.limits.TheConstants.{MOST_START}
use Rattle.test_valid.proofs.valid.are_valid_sems.Given as goal

abbrev pub invariant-loop-index : goal.invariant-loop-index
invariant-loop-index l = (k : ℕ) (d : Sem) → k < l.index → IsName (get_or l.sems k d).name × ((get_or l.sems k d).start ≤ MOST_START)
