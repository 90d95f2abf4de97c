use Rattle.std.proofs.Common.{◌≡◌, ◌≤◌, true, refl, sym, subst, arith, length}
use Rattle.ppd_ast.specs.ValidPlan.{AreCells}
use Rattle.ppd_ast.specs.declared.plan.Unit.{Unit}
use Rattle.ppd_ast.proofs.Walks.{each_more}
use Rattle.test_valid.proofs.valid_plan.are_valid_units.Goals as goal

pub returns-then-not-is_valid_unit : goal.returns-then-not-is_valid_unit
returns-then-not-is_valid_unit c = (
  λ e. cc,
  λ h.
      let here : AreCells c.args.cells c.index-units-index.result.cells =
      subst (λ (u : Unit). AreCells c.args.cells u.cells) (sym c.index-units-index.is) (h c.loop-index.index c.index-units-index.result c.loop-index-test.true) in
      let yes : c.is_valid_unit.result ≡ true = c.is_valid_unit.ensures.1 here in
      cc,
)

pub loop-index-preserved : goal.loop-index-preserved
loop-index-preserved c =
    each_more (λ k (u : Unit). AreCells c.args.cells u.cells) c.args.units.now c.loop-index.index c.index-units-index.result c.loop-index.invariant c.loop-index-test.true c.index-units-index.is
    (c.is_valid_unit.ensures.0 c.if-not-is_valid_unit.false)

pub returns : goal.returns
returns c = (λ e k d h. c.loop-index.invariant k d (let long : length c.args.units.now ≤ c.loop-index.index = c.loop-index-test.false in omega arith), λ h. refl)
