use Rattle.std.specs.Prelude.{IfErr, OnOk}
use Rattle.std.proofs.Common.{◌≡◌, ◌++◌, List, None, [], ◌∷◌, refl, subst, sym}
use Rattle.ppd_model.specs.declared.graph.Race.{Race}
use Rattle.ppd_session.specs.Keeping.{AreAsked}
use Rattle.ppd_session.specs.Known.{unless_raced}
use Rattle.ppd_session.specs.Sessions.{AreTold, IsWhy, block_at, known_by}
use Rattle.ppd_session.specs.Texts.{opened_text, opening_failure}
use Rattle.ppd_session.proofs.Replayed.{none_there}
use Rattle.ppd_session.proofs.opening.put_open.Goals as goal

pub put_interval-requires-clause-kept : goal.put_interval-requires-clause-kept
put_interval-requires-clause-kept c =
    subst (λ (rs : List Race). AreTold (known_by c.args.past.now rs) c.args.kept.now.blocks)
    (none_there c.args.races.now c.if-not-is_empty.ensures) c.requires.told

pub returns-clause-error : goal.returns-clause-error
returns-clause-error c =
    subst
    (λ (rs : List Race). IfErr c.put_interval.result
    (IsWhy (opening_failure (known_by c.args.past.now rs) c.args.opening.process c.args.opening.interval c.args.opening.item)))
    (sym (none_there c.args.races.now c.if-not-is_empty.ensures)) c.put_interval.ensures.error

pub returns-clause-kept : goal.returns-clause-kept
returns-clause-kept c =
    subst
    (λ (rs : List Race). AreAsked (known_by c.args.past.now rs)
    (unless_raced rs (block_at (known_by c.args.past.now rs) c.args.opening.process c.args.opening.interval ∷ [])) c.args.kept.now
    c.put_interval.new.kept)
    (sym (none_there c.args.races.now c.if-not-is_empty.ensures)) (c.put_interval.new.kept, c.put_interval.ensures.kept, refl)

pub put_interval-requires-clause-past : goal.put_interval-requires-clause-past
put_interval-requires-clause-past c = c.requires.together

pub put_interval-requires-clause-uncut : goal.put_interval-requires-clause-uncut
put_interval-requires-clause-uncut c = c.requires.uncut

pub returns-clause-text : goal.returns-clause-text
returns-clause-text c =
    subst
    (λ (rs : List Race). OnOk c.put_interval.result
    (c.put_interval.new.text.items
    ≡ c.args.text.now.items
    ++ opened_text (known_by c.args.past.now rs) c.args.opening.process c.args.opening.interval c.args.opening.item))
    (sym (none_there c.args.races.now c.if-not-is_empty.ensures)) c.put_interval.ensures.text

pub returns-clause-told : goal.returns-clause-told
returns-clause-told c =
    subst
    (λ (rs : List Race). OnOk c.put_interval.result
    (opening_failure (known_by c.args.past.now rs) c.args.opening.process c.args.opening.interval c.args.opening.item ≡ None))
    (sym (none_there c.args.races.now c.if-not-is_empty.ensures)) c.put_interval.ensures.told
