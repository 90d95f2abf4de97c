use Rattle.std.proofs.Common.{◌≡◌, ◌∙◌, ap}
use Rattle.ppd_ast.specs.declared.plan.Unit.{Unit}
use Rattle.ppd_ast.specs.declared.plan.Start.TheVariants.{Entry}
use Rattle.test_valid.proofs.Beginnings.{begins_here, begins_not}
use Rattle.test_valid.proofs.numbered.entry_at.Goals as goal

pub returns-then-number-body : goal.returns-then-number-body
returns-then-number-body c =
    begins_here (λ (u : Unit). u.start) c.args.units.now c.args.place c.in-Some.unit.now (Entry c.args.body) c.in-Some.ensures.lookup.3.0 c.in-Some.ensures.lookup.1 (c.in-Entry.is ∙ ap Entry c.if-number-body.true)

pub returns-else-number-body : goal.returns-else-number-body
returns-else-number-body c =
    begins_not (λ (u : Unit). u.start) c.args.units.now c.args.place c.in-Some.unit.now (Entry c.args.body) c.in-Some.ensures.lookup.3.0 c.in-Some.ensures.lookup.1 (λ e.
    let same : c.in-Entry.number ≡ c.args.body = cc in
    c.if-number-body.false same)

pub returns-in_default : goal.returns-in_default
returns-in_default c =
    begins_not (λ (u : Unit). u.start) c.args.units.now c.args.place c.in-Some.unit.now (Entry c.args.body) c.in-Some.ensures.lookup.3.0 c.in-Some.ensures.lookup.1 (c.in_default.not-Entry c.args.body)
