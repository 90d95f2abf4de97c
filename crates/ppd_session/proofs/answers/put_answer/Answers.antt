use Rattle.std.specs.Prelude.{IfErr, OnErr, OnOk}
use Rattle.std.proofs.Common.{◌≡◌, ◌++◌, None, subst, sym}
use Rattle.ppd_session.specs.Keeping.{AreAsked, AreAskedInPart}
use Rattle.ppd_session.specs.Sessions.{IsWhy, SessionState, blocks_of, known_by, state_of}
use Rattle.ppd_session.specs.Texts.{answer_text, failure}
use Rattle.ppd_session.specs.declared.question.Question.{Question}
use Rattle.ppd_session.proofs.Keeping.{all_asked, on_err}
use Rattle.ppd_session.proofs.Replayed.{on_ok}
use Rattle.ppd_session.proofs.answers.put_answer.Goals as goal

pub returns-in-Open-clause-part : goal.returns-in-Open-clause-part
returns-in-Open-clause-part c =
    let s : SessionState = state_of c.args.past.now c.args.races.now c.args.kept.now in
    on_err c.put_open.result (all_asked s.known (blocks_of s c.args.question) c.args.kept.now c.put_open.new.kept
    (subst (λ (q : Question). AreAsked s.known (blocks_of s q) c.args.kept.now c.put_open.new.kept) (sym c.in-Open.is) c.put_open.ensures.kept))

pub returns-in-Why-clause-part : goal.returns-in-Why-clause-part
returns-in-Why-clause-part c =
    let s : SessionState = state_of c.args.past.now c.args.races.now c.args.kept.now in
    on_err c.put_open-in-Why.result (all_asked s.known (blocks_of s c.args.question) c.args.kept.now c.put_open-in-Why.new.kept
    (subst (λ (q : Question). AreAsked s.known (blocks_of s q) c.args.kept.now c.put_open-in-Why.new.kept) (sym c.in-Why.is) c.put_open-in-Why.ensures.kept))

pub returns-in-Open-clause-text : goal.returns-in-Open-clause-text
returns-in-Open-clause-text c =
    subst
    (λ (q : Question). OnOk c.put_open.result
    (c.put_open.new.text.items ≡ c.args.text.now.items ++ answer_text (known_by c.args.past.now c.args.races.now) q))
    (sym c.in-Open.is) c.put_open.ensures.text

pub returns-in-Open-clause-told : goal.returns-in-Open-clause-told
returns-in-Open-clause-told c =
    subst (λ (q : Question). OnOk c.put_open.result (failure (known_by c.args.past.now c.args.races.now) q ≡ None))
    (sym c.in-Open.is) c.put_open.ensures.told

pub returns-in-Open-clause-error : goal.returns-in-Open-clause-error
returns-in-Open-clause-error c =
    subst (λ (q : Question). IfErr c.put_open.result (IsWhy (failure (known_by c.args.past.now c.args.races.now) q)))
    (sym c.in-Open.is) c.put_open.ensures.error

pub returns-in-Open-clause-kept : goal.returns-in-Open-clause-kept
returns-in-Open-clause-kept c =
    let s : SessionState = state_of c.args.past.now c.args.races.now c.args.kept.now in
    on_ok c.put_open.result
    (subst (λ (q : Question). AreAsked s.known (blocks_of s q) c.args.kept.now c.put_open.new.kept) (sym c.in-Open.is) c.put_open.ensures.kept)

pub returns-in-Why-clause-text : goal.returns-in-Why-clause-text
returns-in-Why-clause-text c =
    subst
    (λ (q : Question). OnOk c.put_open-in-Why.result
    (c.put_open-in-Why.new.text.items ≡ c.args.text.now.items ++ answer_text (known_by c.args.past.now c.args.races.now) q))
    (sym c.in-Why.is) c.put_open-in-Why.ensures.text

pub returns-in-Why-clause-told : goal.returns-in-Why-clause-told
returns-in-Why-clause-told c =
    subst (λ (q : Question). OnOk c.put_open-in-Why.result (failure (known_by c.args.past.now c.args.races.now) q ≡ None))
    (sym c.in-Why.is) c.put_open-in-Why.ensures.told

pub returns-in-Why-clause-error : goal.returns-in-Why-clause-error
returns-in-Why-clause-error c =
    subst (λ (q : Question). IfErr c.put_open-in-Why.result (IsWhy (failure (known_by c.args.past.now c.args.races.now) q)))
    (sym c.in-Why.is) c.put_open-in-Why.ensures.error

pub returns-in-Why-clause-kept : goal.returns-in-Why-clause-kept
returns-in-Why-clause-kept c =
    let s : SessionState = state_of c.args.past.now c.args.races.now c.args.kept.now in
    on_ok c.put_open-in-Why.result
    (subst (λ (q : Question). AreAsked s.known (blocks_of s q) c.args.kept.now c.put_open-in-Why.new.kept) (sym c.in-Why.is) c.put_open-in-Why.ensures.kept)

pub returns-in-Final-clause-text : goal.returns-in-Final-clause-text
returns-in-Final-clause-text c =
    subst
    (λ (q : Question). OnOk c.put_final.result
    (c.put_final.new.text.items ≡ c.args.text.now.items ++ answer_text (known_by c.args.past.now c.args.races.now) q))
    (sym c.in-Final.is) c.put_final.ensures.text

pub returns-in-Final-clause-told : goal.returns-in-Final-clause-told
returns-in-Final-clause-told c =
    subst (λ (q : Question). OnOk c.put_final.result (failure (known_by c.args.past.now c.args.races.now) q ≡ None))
    (sym c.in-Final.is) c.put_final.ensures.told

pub returns-in-Final-clause-error : goal.returns-in-Final-clause-error
returns-in-Final-clause-error c =
    subst (λ (q : Question). IfErr c.put_final.result (IsWhy (failure (known_by c.args.past.now c.args.races.now) q)))
    (sym c.in-Final.is) c.put_final.ensures.error

pub returns-in-Final-clause-kept : goal.returns-in-Final-clause-kept
returns-in-Final-clause-kept c =
    let s : SessionState = state_of c.args.past.now c.args.races.now c.args.kept.now in
    subst (λ (q : Question). OnOk c.put_final.result (AreAsked s.known (blocks_of s q) c.args.kept.now c.put_final.new.kept))
    (sym c.in-Final.is) c.put_final.ensures.kept

pub returns-in-Final-clause-part : goal.returns-in-Final-clause-part
returns-in-Final-clause-part c =
    let s : SessionState = state_of c.args.past.now c.args.races.now c.args.kept.now in
    subst (λ (q : Question). OnErr c.put_final.result (AreAskedInPart s.known (blocks_of s q) c.args.kept.now c.put_final.new.kept))
    (sym c.in-Final.is) c.put_final.ensures.part
