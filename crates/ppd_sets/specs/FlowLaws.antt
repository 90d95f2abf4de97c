-- Laws of successors and flow paths.
use Rattle.std.specs.Prelude.{◌≡◌, ◌↔◌, ℕ, Some, slice_get}
use Rattle.ppd_ast.specs.declared.program.Stmt.{Stmt}
use Rattle.ppd_ast.specs.declared.program.Program.{Program}
use Rattle.ppd_ast.specs.Valid.{IsValid}
use Rattle.ppd_sets.specs.Reach.{Reached}
use Rattle.ppd_sets.specs.Flow.{next_of, flow_rows, follow, follow_under, FlowsTo}

-- a flow path leads from one statement to another just where the successors of the one lead there
abbrev pub PathsAreChains : Type 0
PathsAreChains = (p : Program) (s t : ℕ) → FlowsTo p s t ↔ Reached (flow_rows p) (next_of p s) t

-- in a valid program what follows a statement is what stands behind it in its list, or what follows that list
abbrev pub FollowsItsList : Type 0
FollowsItsList =
    (p : Program) (s : ℕ) (x : Stmt) → IsValid p → slice_get p.stmts s ≡ Some x
    → follow p s ≡ follow_under p (follow p) x.body s x.parent
