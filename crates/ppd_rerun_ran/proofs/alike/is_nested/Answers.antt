use Rattle.std.proofs.Common.{◌≡◌, sym, subst}
use Rattle.std.specs.Bool.{Decides}
use Rattle.ppd_model.specs.declared.flow.Item.{Item}
use Rattle.ppd_model.specs.declared.flow.Item.TheVariants as item
use Rattle.ppd_rerun_ran.proofs.Items.{nested_is}
use Rattle.ppd_rerun_ran.proofs.alike.is_nested.Goals as goal

pub returns-in-Nested : goal.returns-in-Nested
returns-in-Nested c =
    subst (λ (i : Item). Decides c.same_nested.result (item.Nested c.args.number c.args.kept.now.block c.args.kept.now.values c.args.kept.now.closed ≡ i)) (sym c.in-Nested.is)
    (nested_is c.args.number c.args.kept.now.block c.in-Nested.interval c.in-Nested.block c.args.kept.now.values c.in-Nested.values c.args.kept.now.closed c.in-Nested.closed
    c.same_nested.result c.same_nested.ensures)
