use Rattle.std.proofs.Common.{◌∙◌, Option, sym}
use Rattle.std.specs.Prelude.{slice_get}
use Rattle.ppd_clean.proofs.Found.{at_place, place_clean, place_raced}
use Rattle.ppd_model.specs.declared.flow.Item.{Item}
use Rattle.ppd_clean.proofs.unclean.check_item.Goals as goal

pub returns-then-branch-clause-err : goal.returns-then-branch-clause-err
returns-then-branch-clause-err c =
    let o : Option Item = slice_get c.args.items.now c.args.asked.now.item in
    place_raced c.args.past.now c.args.asked.now o c.index-items-place.result c.unclean.result
    (at_place c.args.past.now c.args.asked.now c.args.items.now c.args.asked.now.item c.index-items-place.result c.if-place-items.false c.index-items-place.is)
    (sym c.in_ok-is_unclean.ensures ∙ c.if-branch.true) c.unclean.ensures

pub returns-clause-ok : goal.returns-clause-ok
returns-clause-ok c =
    let o : Option Item = slice_get c.args.items.now c.args.asked.now.item in
    place_clean c.args.past.now c.args.asked.now o c.index-items-place.result
    (at_place c.args.past.now c.args.asked.now c.args.items.now c.args.asked.now.item c.index-items-place.result c.if-place-items.false c.index-items-place.is)
    (sym c.in_ok-is_unclean.ensures ∙ c.if-branch.false)
