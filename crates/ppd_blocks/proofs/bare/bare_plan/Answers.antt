use Rattle.std.proofs.Common.{◌≡◌, sym, ap, ◌∙◌, subst}
use Rattle.ppd_ast.specs.Bare.{bare}
use Rattle.ppd_ast.specs.ValidPlan.{IsValidPlan}
use Rattle.ppd_ast.proofs.BareValid.{bare_valid}
use Rattle.ppd_blocks.proofs.bare.bare_plan.Goals as goal

pub returns-clause-valid : goal.returns-clause-valid
returns-clause-valid c =
    let is : bare c.args.program.now c.args.policy.now ≡ record { policy = c.args.policy.now; blocks = c.in_ok-blocks.blocks; units = c.in_ok-units.units } =
    ap (λ l. record { policy = c.args.policy.now; blocks = l; units = (bare c.args.program.now c.args.policy.now).units }) (sym c.in_ok-blocks.ensures)
    ∙ ap (λ l. record { policy = c.args.policy.now; blocks = c.in_ok-blocks.blocks; units = l }) (sym c.in_ok-units.ensures) in
    subst (IsValidPlan c.args.program.now) is (bare_valid c.args.program.now c.args.policy.now c.requires.program c.requires.policy)
