use Rattle.std.proofs.Common.{◌≡◌, Ok, refl, ap, sym, subst, ◌∙◌}
use Rattle.ppd_sem.specs.Asked.{outcome}
use Rattle.ppd_sem.specs.Deed.{ask_all}
use Rattle.ppd_sem.specs.Effects.{given, given_if}
use Rattle.ppd_sem.proofs.Arguments.{goes_on, none, stops}
use Rattle.ppd_sem.proofs.Asks.{is_err}
use Rattle.ppd_sem.proofs.effect.+check_all.Goals as goal

pub ask-requires-clause-at_in : goal.ask-requires-clause-at_in
ask-requires-clause-at_in t c = (c.requires.uses 0 0 c.in-len1-up.len_at_least).there

pub ask-requires-clause-within : goal.ask-requires-clause-within
ask-requires-clause-within t c = (c.requires.uses 0 0 c.in-len1-up.len_at_least).within

pub returns-in_err-left-in-len1-up : goal.returns-in_err-left-in-len1-up
returns-in_err-left-in-len1-up t c =
    stops c.args.exprs.now c.args.arguments.now c.args.cells.now c.args.answers.now c.in-len1-up.len_at_least c.in_err-left-in-len1-up.field-0.0 c.in_err-left-in-len1-up.ensures.err
    ∙ ap (given_if (given c.args.exprs.now c.args.arguments.now c.args.cells.now c.args.answers.now)) (sym (is_err _ _ c.from_residual.ensures))

pub returns-in-empty : goal.returns-in-empty
returns-in-empty t c =
    subst (λ xs. outcome (ask_all c.args.exprs.now xs c.args.cells.now c.args.answers.now) ≡ given_if (given c.args.exprs.now xs c.args.cells.now c.args.answers.now) (Ok tt)) (sym (none c.args.arguments.now c.in-empty.len_below)) refl

pub returns-in_ok-left-in-len1-up : goal.returns-in_ok-left-in-len1-up
returns-in_ok-left-in-len1-up t c =
    goes_on c.args.exprs.now c.args.arguments.now c.args.cells.now c.args.answers.now c.in-len1-up.len_at_least _ c.in_ok-left-in-len1-up.left.now c.check_all.result c.in_ok-left-in-len1-up.ensures.ok c.check_all.ensures
