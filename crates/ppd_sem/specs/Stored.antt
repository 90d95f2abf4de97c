-- What a statement evaluates, and what it does by the value.
use Rattle.std.specs.Prelude.{ℕ, ℤ, List, None, Some, Result, Ok, Err, true, false, if◌then◌else◌, pos}
use Rattle.std.specs.Ordering.{int_eq}
use Rattle.ppd_ast.specs.declared.program.Expr.{Expr}
use Rattle.ppd_ast.specs.declared.program.Kind.{Kind}
use Rattle.ppd_ast.specs.declared.program.Kind.TheVariants as kind
use Rattle.ppd_ast.specs.declared.program.Target.{Target}
use Rattle.ppd_ast.specs.declared.program.Target.TheVariants as target
use Rattle.ppd_ast.specs.declared.status.Trap.TheVariants as trap
use Rattle.ppd_ast.specs.Term.{term}
use Rattle.ppd_sem.specs.declared.asking.Pause.{Pause}
use Rattle.ppd_sem.specs.declared.asking.Pause.TheVariants.{Traps}
use Rattle.ppd_sem.specs.declared.effect.Effect.{Effect}
use Rattle.ppd_sem.specs.declared.effect.Effect.TheVariants as effect
use Rattle.ppd_sem.specs.Asked.{Asked, gives}
use Rattle.ppd_sem.specs.Reads.{ask_place}

-- the cell of a target, whose index is tested
abbrev pub ask_target : List Expr → Target → List ℤ → List ℤ → Asked ℕ
ask_target es (target.Local c) cells answers = gives answers c
ask_target es (target.LocalAt base len i) cells answers = ask_place (term es i) base len cells answers
ask_target es (target.Shared c) cells answers = gives answers c
ask_target es (target.SharedAt base len i) cells answers = ask_place (term es i) base len cells answers

abbrev pub stored : Target → ℕ → ℤ → Effect
stored (target.Local _) c v = effect.SetLocal c v
stored (target.LocalAt base len i) c v = effect.SetLocal c v
stored (target.Shared _) c v = effect.SetShared c v
stored (target.SharedAt base len i) c v = effect.SetShared c v

-- what a statement does by the value of its one expression, where it is no assignment and no call
abbrev pub by_value : Kind → ℤ → Result Effect Pause
by_value (kind.If e first second) v = Ok (effect.Branch (if int_eq v (pos 0) then false else true))
by_value (kind.While e body) v = Ok (if int_eq v (pos 0) then effect.Leave else effect.Turn)
by_value (kind.Send c e) v = Ok (effect.Send c v)
by_value (kind.Print e) v = Ok (effect.Print v)
by_value (kind.Assert e) v = if int_eq v (pos 0) then Err (Traps trap.Assert) else Ok effect.Pass
by_value k v = Ok (effect.Back (Some v))

-- what a statement does that evaluates nothing
abbrev pub without_value : Kind → Effect
without_value (kind.Zero base len) = effect.Clear base len
without_value (kind.P s) = effect.Take s
without_value (kind.V s) = effect.Give s
without_value (kind.Recv c into) = effect.Receive c into
without_value (kind.Return value) = effect.Back None
without_value k = effect.Finish
