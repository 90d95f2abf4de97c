use Rattle.std.proofs.Common.{sym, subst, length}
use Rattle.std.proofs.lemmas.Result.{IfOk-weaker}
use Rattle.ppd_ast.specs.Members.{AreBelow}
use Rattle.ppd_deps.proofs.Arriving.{own_by}
use Rattle.ppd_deps.proofs.Tabled.{calls_below, ok_as, own_places, places_below, return_places, stmt_got}
use Rattle.ppd_deps.proofs.locals.places.Goals as goal

pub returns-in-Return-clause-places : goal.returns-in-Return-clause-places
returns-in-Return-clause-places c =
    let p = c.args.program.now in
    let x = c.index-as_slice-stmt.result in
    let at = stmt_got p c.as_slice.result.now c.args.stmt x c.as_slice.ensures c.requires c.index-as_slice-stmt.is in
    ok_as c.calls_at.result _ _ (return_places p c.args.body c.args.stmt x c.in-Return.field-0 at c.in-Return.is) c.calls_at.ensures

pub returns-in-Return-clause-there : goal.returns-in-Return-clause-there
returns-in-Return-clause-there c =
    IfOk-weaker c.calls_at.result _ _ (λ ids is. calls_below c.args.program.now c.args.body c.index-as_slice-stmt.result.body ids is) c.calls_at.ensures

pub returns-in_default-clause-places : goal.returns-in_default-clause-places
returns-in_default-clause-places c =
    let p = c.args.program.now in
    let x = c.index-as_slice-stmt.result in
    let at = stmt_got p c.as_slice.result.now c.args.stmt x c.as_slice.ensures c.requires c.index-as_slice-stmt.is in
    IfOk-weaker c.one_if.result _ _ (λ ids is. own_places p c.args.body c.args.stmt x ids at (own_by p x.kind c.in_default.not-Call c.in_default.not-Return) is) c.one_if.ensures

pub returns-in_default-clause-there : goal.returns-in_default-clause-there
returns-in_default-clause-there c =
    let p = c.args.program.now in
    let x = c.index-as_slice-stmt.result in
    let at = stmt_got p c.as_slice.result.now c.args.stmt x c.as_slice.ensures c.requires c.index-as_slice-stmt.is in
    IfOk-weaker c.one_if.result _ _ (λ ids is.
    subst (AreBelow (length p.stmts)) (sym (own_places p c.args.body c.args.stmt x ids at (own_by p x.kind c.in_default.not-Call c.in_default.not-Return) is)) (places_below p c.args.body c.args.stmt c.requires)) c.one_if.ensures
