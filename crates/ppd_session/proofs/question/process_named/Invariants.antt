use Rattle.std.specs.Str.{bytes_eq}
use Rattle.std.proofs.Common.{◌≡◌, ℕ, ◌<◌, false, get_or}
use Rattle.ppd_ast.specs.declared.program.Body.{Body}
use Rattle.ppd_session.proofs.question.process_named.Given as goal

abbrev pub invariant-loop-number : goal.invariant-loop-number
invariant-loop-number l = (k : ℕ) (d : Body) → k < l.number → bytes_eq (get_or l.bodies k d).name l.name ≡ false
