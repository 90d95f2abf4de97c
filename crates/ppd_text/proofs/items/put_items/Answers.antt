use Rattle.std.proofs.Common.{◌∙◌, ◌++◌, [], sym, ap}
use Rattle.std.specs.Prelude.{slice_get}
use Rattle.std.specs.Option.{option_map_or}
use Rattle.ppd_ast.proofs.Walks.{got_some}
use Rattle.ppd_text.specs.Items.{item_line}
use Rattle.ppd_text.proofs.Joined.{first_joined}
use Rattle.ppd_text.proofs.items.put_items.Goals as goal

pub loop-number-preserved : goal.loop-number-preserved
loop-number-preserved c =
    let p = c.args.program.now in
    let plan = c.args.plan.now in
    let n = c.loop-number.number in
    first_joined (λ k. option_map_or (item_line p plan k) (slice_get c.args.items.now k) []) n c.args.text.now.items
    c.loop-number.text.items c.put_item.new.text.items c.loop-number.invariant
    (c.in_ok-put_item.ensures ∙ ap (λ o. c.loop-number.text.items ++ option_map_or (item_line p plan n) o [])
    (sym (got_some _ _ _ c.loop-number-test.true c.index-items-number.is)))
