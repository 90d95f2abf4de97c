use Rattle.std.specs.Prelude.{None}
use Rattle.std.proofs.Common.{◌≡◌, ℕ, Option, [], ap, subst, sym, rules, arith}
use Rattle.ppd_session.specs.Sessions.{known_by}
use Rattle.ppd_session.specs.Texts.{opening_failure, told_failure}
use Rattle.ppd_session.proofs.Replayed.{not_told, on_ok}
use Rattle.ppd_session.proofs.opening.put_interval.Goals as goal
use Rattle.std.proofs.lemmas.Grind.{elements}

pub returns-in_default-interval_there-clause-told : goal.returns-in_default-interval_there-clause-told
returns-in_default-interval_there-clause-told c =
    let past = c.args.past.now in
    let x = known_by past [] in
    on_ok c.put_refusal-in_default-interval_there.result
    (subst (λ (q : Option ℕ). opening_failure x q c.args.opening.interval c.args.opening.item ≡ None) (sym c.in-Some.is)
    (ap (told_failure x c.in-Some.process c.args.opening.interval c.args.opening.item)
    (not_told past c.requires.uncut c.in-Some.process c.args.opening.interval c.requires.past.index_is
    (c.interval_there.ensures.none c.in_default-interval_there.is))))

pub interval_there-requires : goal.interval_there-requires
interval_there-requires c = search rules depth 1 fits 30

pub put_block-requires : goal.put_block-requires
put_block-requires c = search rules depth 1 fits 30

pub put_refusal-requires : goal.put_refusal-requires
put_refusal-requires c = search rules depth 1 fits 30

pub put_refusal-requires-in_default-interval_there : goal.put_refusal-requires-in_default-interval_there
put_refusal-requires-in_default-interval_there c = search rules depth 1 fits 30

pub returns : goal.returns
returns c = grind (arith, elements) steps 250000

pub returns-in_default : goal.returns-in_default
returns-in_default c = search rules depth 1 fits 30

pub returns-in_default-interval_there-clause-error : goal.returns-in_default-interval_there-clause-error
returns-in_default-interval_there-clause-error c = search rules depth 1 fits 30

pub returns-in_default-interval_there-clause-kept : goal.returns-in_default-interval_there-clause-kept
returns-in_default-interval_there-clause-kept c = search rules depth 1 fits 30

pub returns-in_default-interval_there-clause-text : goal.returns-in_default-interval_there-clause-text
returns-in_default-interval_there-clause-text c = search rules depth 1 fits 30
