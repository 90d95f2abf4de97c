use Rattle.std.specs.Prelude.{Some}
use Rattle.std.proofs.Common.{List, Ok, [], ap, inl, sym, ◌∙◌, rules, arith}
use Rattle.std.proofs.lemmas.Result.{err_from_is_err_and, IfErr-weaker, on_ok_weaker}
use Rattle.ppd_model.specs.declared.flow.Item.{Item}
use Rattle.ppd_session.specs.Sessions.{known_by}
use Rattle.ppd_session.specs.Texts.{told_at}
use Rattle.ppd_session.proofs.Keeping.{kept_now, not_found, told_found}
use Rattle.ppd_session.proofs.Replayed.{told_none, told_texts, told_why, why_failed}
use Rattle.ppd_session.proofs.opening.put_block.Goals as goal
use Rattle.std.proofs.lemmas.Grind.{common_steps}

pub returns-in-Some-clause-text : goal.returns-in-Some-clause-text
returns-in-Some-clause-text c =
    let at = told_found (known_by c.args.past.now []) c.args.kept.now c.touch.new.self c.args.place c.find.result c.in-Some.items
    c.requires.kept c.touch.ensures c.find.ensures c.in-Some.is in
    on_ok_weaker c.put_told.result (told_texts (known_by c.args.past.now []) c.args.place.process c.args.place.interval c.args.item _
    c.in-Some.items.now c.as_slice.result.now at c.as_slice.ensures c.args.text.now.items
    c.put_told.new.text.items) c.put_told.ensures.text

pub returns-in-Some-clause-told : goal.returns-in-Some-clause-told
returns-in-Some-clause-told c =
    let at = told_found (known_by c.args.past.now []) c.args.kept.now c.touch.new.self c.args.place c.find.result c.in-Some.items
    c.requires.kept c.touch.ensures c.find.ensures c.in-Some.is in
    on_ok_weaker c.put_told.result (told_none (known_by c.args.past.now []) c.args.place.process c.args.place.interval c.args.item _
    c.in-Some.items.now c.as_slice.result.now at c.as_slice.ensures)
    c.put_told.ensures.told

pub returns-in-Some-clause-error : goal.returns-in-Some-clause-error
returns-in-Some-clause-error c =
    let at = told_found (known_by c.args.past.now []) c.args.kept.now c.touch.new.self c.args.place c.find.result c.in-Some.items
    c.requires.kept c.touch.ensures c.find.ensures c.in-Some.is in
    IfErr-weaker c.put_told.result _ _ (told_why (known_by c.args.past.now []) c.args.place.process c.args.place.interval c.args.item _
    c.in-Some.items.now c.as_slice.result.now at c.as_slice.ensures)
    c.put_told.ensures.error

pub returns-in-Some-clause-kept : goal.returns-in-Some-clause-kept
returns-in-Some-clause-kept c = inl c.touch.ensures

pub returns-in_err-items-clause-kept : goal.returns-in_err-items-clause-kept
returns-in_err-items-clause-kept c = inl c.touch.ensures

pub returns-in_err-items-clause-error : goal.returns-in_err-items-clause-error
returns-in_err-items-clause-error c =
    let e = err_from_is_err_and c.from_residual.result c.from_residual.ensures.1 in
    rw (e.1, e.2) (why_failed (known_by c.args.past.now []) c.args.place.process c.args.place.interval c.args.item
    (told_at (known_by c.args.past.now []) c.args.place.process c.args.place.interval) c.in_err-items.field-0.0
    c.in_err-items.ensures.error)

pub returns-in_err-put_told-clause-kept : goal.returns-in_err-put_told-clause-kept
returns-in_err-put_told-clause-kept c = inl c.touch.ensures

pub returns-in_err-put_told-clause-error : goal.returns-in_err-put_told-clause-error
returns-in_err-put_told-clause-error c =
    let e = err_from_is_err_and c.from_residual-in_err-put_told.result c.from_residual-in_err-put_told.ensures.1 in
    rw (e.1, e.2) (told_why (known_by c.args.past.now []) c.args.place.process c.args.place.interval c.args.item _
    c.in_ok-items.items c.as_slice-2.result.now c.in_ok-items.ensures.items c.as_slice-2.ensures
    c.in_err-put_told.field-0.0 c.in_err-put_told.ensures.error)

pub returns-clause-text : goal.returns-clause-text
returns-clause-text c =
    told_texts (known_by c.args.past.now []) c.args.place.process c.args.place.interval c.args.item _
    c.in_ok-items.items c.as_slice-2.result.now c.in_ok-items.ensures.items c.as_slice-2.ensures
    c.args.text.now.items c.put_told-2.new.text.items c.in_ok-put_told.ensures.text

pub returns-clause-told : goal.returns-clause-told
returns-clause-told c =
    told_none (known_by c.args.past.now []) c.args.place.process c.args.place.interval c.args.item _
    c.in_ok-items.items c.as_slice-2.result.now c.in_ok-items.ensures.items c.as_slice-2.ensures
    c.in_ok-put_told.ensures.told

pub returns-clause-kept : goal.returns-clause-kept
returns-clause-kept c =
    kept_now (known_by c.args.past.now []) c.args.kept.now c.touch.new.self c.keep.new.self c.args.place c.in_ok-items.items
    c.touch.ensures
    (not_found (known_by c.args.past.now []) c.touch.new.self c.args.place c.find.result c.find.ensures c.in_default.is) c.in_ok-items.ensures.items c.keep.ensures

pub put_told-requires-clause-told : goal.put_told-requires-clause-told
put_told-requires-clause-told c =
    told_found (known_by c.args.past.now []) c.args.kept.now c.touch.new.self c.args.place c.find.result c.in-Some.items
    c.requires.kept c.touch.ensures c.find.ensures c.in-Some.is
    ∙ ap (λ (is : List Item). Some (Ok is)) (sym c.as_slice.ensures)

pub as_slice-requires : goal.as_slice-requires
as_slice-requires c = search rules depth 1 fits 30

pub as_slice-requires-2 : goal.as_slice-requires-2
as_slice-requires-2 c = search rules depth 1 fits 30

pub find-requires : goal.find-requires
find-requires c = search rules depth 1 fits 30

pub from_residual-requires : goal.from_residual-requires
from_residual-requires c = search rules depth 1 fits 30

pub keep-requires : goal.keep-requires
keep-requires c = search rules depth 1 fits 30

pub put_told-requires-2 : goal.put_told-requires-2
put_told-requires-2 c = grind (arith, common_steps) steps 250000

pub replay-requires : goal.replay-requires
replay-requires c = search rules depth 1 fits 30

pub touch-requires : goal.touch-requires
touch-requires c = search rules depth 1 fits 30

pub put_told-requires-clause-past : goal.put_told-requires-clause-past
put_told-requires-clause-past c = search rules depth 1 fits 30

pub put_told-requires-clause-uncut : goal.put_told-requires-clause-uncut
put_told-requires-clause-uncut c = search rules depth 1 fits 30

pub returns-clause-error : goal.returns-clause-error
returns-clause-error c = search rules depth 1 fits 30
