use Rattle.std.proofs.Common.{◌≡◌, ◌∙◌, ◌<◌, ◌≤◌, ℕ, zero, suc, List, [], ◌∷◌, Option, Some, IfOk, ap, arith, length, refl, slice_set, subst, sym}
use Rattle.std.specs.Prelude.{slice_get}
use Rattle.std.proofs.lemmas.List.{set-get_or}
use Rattle.std.proofs.lemmas.Result.{on_err_weaker, on_ok_weaker}
use Rattle.ppd_ast.proofs.Walks.{got_none, got_some}
use Rattle.ppd_model.specs.declared.state.Logging.{Logging}
use Rattle.ppd_model.specs.Logs.{log_step}
use Rattle.ppd_model.proofs.Lists.{change_past, set_is_change}
use Rattle.ppd_world_steps.specs.Entries.{moment_with}
use Rattle.ppd_world.specs.Parts.{IsSmallLogging, need_of_logging}
use Rattle.ppd_world.proofs.logging.step_at.Goals as goal

pub returns-then-place-len-clause-ok : goal.returns-then-place-len-clause-ok
returns-then-place-len-clause-ok c =
    let past : length c.args.loggings.now.items ≤ c.args.place = omega (arith, c.args.loggings.now.ok.0, c.len.ensures, c.if-place-len.true) in
    sym (change_past (λ l. log_step c.args.code.now.program.now c.args.code.now.plan.now l (moment_with c.args.code.now.plan.now c.args.shared.now c.args.taken)) c.args.place c.args.loggings.now.items past)

pub step_one-requires-clause-logging : goal.step_one-requires-clause-logging
step_one-requires-clause-logging c =
    let inside : c.args.place < length c.args.loggings.now.items = omega (arith, c.args.loggings.now.ok.0, c.len.ensures, c.if-place-len.false) in
    subst (λ (l : Logging). IsSmallLogging c.args.code.now.program.now l) (sym c.index_mut.ensures.value) (c.requires.loggings c.args.place c.index_mut.result.now inside)

pub step_one-requires-clause-need : goal.step_one-requires-clause-need
step_one-requires-clause-need c =
    let inside : c.args.place < length c.args.loggings.now.items = omega (arith, c.args.loggings.now.ok.0, c.len.ensures, c.if-place-len.false) in
    c.requires.need ∙ ap (λ o. need_of_logging c.args.code.now.program.now c.args.code.now.plan.now o) (got_some c.args.loggings.now.items c.args.place c.index_mut.result.now inside c.index_mut.ensures.value)

pub returns-clause-ok : goal.returns-clause-ok
returns-clause-ok c =
    let inside : c.args.place < length c.args.loggings.now.items = omega (arith, c.args.loggings.now.ok.0, c.len.ensures, c.if-place-len.false) in
    on_ok_weaker c.step_one.result
    (λ e. set_is_change (λ l. log_step c.args.code.now.program.now c.args.code.now.plan.now l (moment_with c.args.code.now.plan.now c.args.shared.now c.args.taken)) c.args.place c.args.loggings.now.items c.index_mut.result.now c.step_one.new.logging inside
    (e ∙ ap (λ l. log_step c.args.code.now.program.now c.args.code.now.plan.now l (moment_with c.args.code.now.plan.now c.args.shared.now c.args.taken)) c.index_mut.ensures.value)) c.step_one.ensures.ok

pub returns-then-place-len-clause-need : goal.returns-then-place-len-clause-need
returns-then-place-len-clause-need c =
    let past : length c.args.loggings.now.items ≤ c.args.place = omega (arith, c.args.loggings.now.ok.0, c.len.ensures, c.if-place-len.true) in
    sym (ap (λ o. need_of_logging c.args.code.now.program.now c.args.code.now.plan.now o) (got_none c.args.loggings.now.items c.args.place past))

set_here : {A : Type 0} (xs : List A) (i : ℕ) (x : A) → i < length xs → slice_get (slice_set xs i x) i ≡ Some x
set_here [] i x lt = absurd (omega arith)
set_here (y ∷ ys) zero x lt = refl
set_here (y ∷ ys) (suc i) x lt = set_here ys i x (omega arith)

pub returns-clause-need : goal.returns-clause-need
returns-clause-need c =
    let inside : c.args.place < length c.args.loggings.now.items = omega (arith, c.args.loggings.now.ok.0, c.len.ensures, c.if-place-len.false) in
    subst (λ (o : Option Logging). IfOk c.step_one.result (λ need. need ≡ need_of_logging c.args.code.now.program.now c.args.code.now.plan.now o)) (sym (set_here c.args.loggings.now.items c.args.place c.step_one.new.logging inside)) c.step_one.ensures.need

pub returns-clause-err : goal.returns-clause-err
returns-clause-err c =
    on_err_weaker c.step_one.result
    (λ e. ap (slice_set c.args.loggings.now.items c.args.place) (e ∙ c.index_mut.ensures.value) ∙ set-get_or c.args.loggings.now.items c.args.place c.index_mut.result.now) c.step_one.ensures.err
