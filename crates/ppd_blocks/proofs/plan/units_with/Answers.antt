use Rattle.std.proofs.Common.{◌≡◌, ◌∙◌, List, ℕ, subst}
use Rattle.std.specs.Prelude.{IfOk}
use Rattle.ppd_ast.specs.declared.plan.Unit.{Unit as UnitOf}
use Rattle.ppd_blocks.specs.Starts.{units_of}
use Rattle.ppd_blocks.proofs.plan.units_with.Goals as goal

pub returns : goal.returns
returns c = subst (λ (loops : List ℕ). IfOk c.units.result (λ (us : List UnitOf). us ≡ units_of c.args.program.now loops)) (c.as_slice.ensures ∙ c.in_ok-loops.ensures) c.units.ensures
