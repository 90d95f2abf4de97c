use Rattle.std.proofs.Common.{◌≡◌, ◌∷◌, ◌++◌, [], List, ℤ, ap, subst, ◌∙◌, to_z, of_z, w64, rules}
use Rattle.std.specs.Prelude.{OnOk}
use Rattle.std.proofs.lemmas.Int.{to_z-of_z}
use Rattle.ppd_sem.specs.Effects.{given}
use Rattle.ppd_sem.proofs.Arguments.{given_more, given_none, others}
use Rattle.ppd_sem.proofs.frame.+push_values.Goals as goal

pub ask-requires-clause-at_in : goal.ask-requires-clause-at_in
ask-requires-clause-at_in t c = (c.requires.uses 0 0 c.in-len1-up.len_at_least).there

pub ask-requires-clause-within : goal.ask-requires-clause-within
ask-requires-clause-within t c = (c.requires.uses 0 0 c.in-len1-up.len_at_least).within

pub returns-in_ok-push-in-Ok : goal.returns-in_ok-push-in-Ok
returns-in_ok-push-in-Ok t c =
    let same : to_z w64 (of_z w64 c.in-Ok.value) ≡ c.in-Ok.value = search (rules, to_z-of_z) in
    let others_given : List ℤ = given c.args.exprs.now (others c.args.arguments.now) c.args.cells.now c.in-Ok.left.now in
    subst (λ (l : List ℤ). OnOk c.push_values.result (c.push_values.new.values ≡ l))
    (ap (λ l. l ++ others_given) (c.in_ok-push-in-Ok.ensures.ok ∙ ap (λ v. c.args.values.now ++ v ∷ []) same)
    ∙ given_more c.args.exprs.now c.args.arguments.now c.args.cells.now c.args.answers.now c.in-len1-up.len_at_least c.args.values.now c.in-Ok.value c.in-Ok.left.now c.in-Ok.ensures.ok)
    c.push_values.ensures

pub returns-in-Err : goal.returns-in-Err
returns-in-Err t c =
    given_none c.args.exprs.now c.args.arguments.now c.args.cells.now c.args.answers.now c.in-len1-up.len_at_least c.args.values.now c.in-Err.field-0 c.in-Err.ensures.err
