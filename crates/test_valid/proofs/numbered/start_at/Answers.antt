use Rattle.std.proofs.Common.{◌≡◌, true}
use Rattle.ppd_ast.specs.declared.plan.Unit.{Unit}
use Rattle.test_valid.proofs.Beginnings.{begins_here, begins_not}
use Rattle.test_valid.proofs.numbered.start_at.Goals as goal

pub returns-then-is_same_start : goal.returns-then-is_same_start
returns-then-is_same_start c =
    begins_here (λ (u : Unit). u.start) c.args.units.now c.args.place c.in-Some.unit.now c.args.start c.in-Some.ensures.lookup.3.0 c.in-Some.ensures.lookup.1 (c.is_same_start.ensures.0 c.if-is_same_start.true)

pub returns-else-is_same_start : goal.returns-else-is_same_start
returns-else-is_same_start c =
    begins_not (λ (u : Unit). u.start) c.args.units.now c.args.place c.in-Some.unit.now c.args.start c.in-Some.ensures.lookup.3.0 c.in-Some.ensures.lookup.1 (λ e.
    let yes : c.is_same_start.result ≡ true = c.is_same_start.ensures.1 e in
    cc)
