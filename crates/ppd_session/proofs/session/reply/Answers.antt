use Rattle.std.specs.Borrow.{Bor}
use Rattle.std.proofs.Common.{◌∙◌, ◌++◌, List, ℕ, ap, map, subst, sym}
use Rattle.std.proofs.lemmas.Result.{err_from_is_err_and}
use Rattle.ppd_session.specs.Keeping.{AreAsked, AreAskedInPart}
use Rattle.ppd_session.specs.Questions.{asked as asked_of}
use Rattle.ppd_session.specs.Sessions.{IsWhy, SessionState, blocks_of, known_by, state_of}
use Rattle.ppd_session.specs.Texts.{answer_text, failure}
use Rattle.ppd_session.specs.declared.question.Question.{Question}
use Rattle.ppd_session.proofs.session.reply.Goals as goal

abbrev shown : List (Bor (List ℕ)) → List (List ℕ)
shown xs = map (λ (w : Bor (List ℕ)). w.now) xs

pub returns-clause-quit : goal.returns-clause-quit
returns-clause-quit c =
    c.quits.ensures c.args.line.now (sym (ap shown c.as_slice-2.ensures.value ∙ c.in_ok-words.ensures))

pub returns-clause-text : goal.returns-clause-text
returns-clause-text c =
    let p = c.args.past.now.program.now in
    let known = known_by c.args.past.now c.args.races.now in
    let asks = c.asked-question.ensures ∙ ap (λ ws. asked_of p (shown ws)) c.as_slice.ensures.value ∙ ap (asked_of p) c.in_ok-words.ensures in
    c.from_vec.ensures ∙ (c.in_ok-put_answer.ensures.text
    ∙ (ap (λ t. t ++ answer_text known c.asked-question.result) c.new-text.ensures.items ∙ ap (answer_text known) asks))

pub returns-clause-told : goal.returns-clause-told
returns-clause-told c =
    let p = c.args.past.now.program.now in
    let asks = c.asked-question.ensures ∙ ap (λ ws. asked_of p (shown ws)) c.as_slice.ensures.value ∙ ap (asked_of p) c.in_ok-words.ensures in
    ap (failure (known_by c.args.past.now c.args.races.now)) (sym asks) ∙ c.in_ok-put_answer.ensures.told

pub returns-clause-kept : goal.returns-clause-kept
returns-clause-kept c =
    let p = c.args.past.now.program.now in
    let s : SessionState = state_of c.args.past.now c.args.races.now c.args.kept.now in
    let asks = c.asked-question.ensures ∙ ap (λ ws. asked_of p (shown ws)) c.as_slice.ensures.value ∙ ap (asked_of p) c.in_ok-words.ensures in
    subst (λ (q : Question). AreAsked s.known (blocks_of s q) c.args.kept.now c.put_answer.new.kept) asks
    c.in_ok-put_answer.ensures.kept

pub returns-in_err-put_answer-clause-error : goal.returns-in_err-put_answer-clause-error
returns-in_err-put_answer-clause-error c =
    let p = c.args.past.now.program.now in
    let asks = c.asked-question.ensures ∙ ap (λ ws. asked_of p (shown ws)) c.as_slice.ensures.value ∙ ap (asked_of p) c.in_ok-words.ensures in
    let e = err_from_is_err_and c.from_residual-in_err-put_answer.result c.from_residual-in_err-put_answer.ensures.1 in
    rw (e.1, e.2) (subst
    (λ (q : Question). IsWhy (failure (known_by c.args.past.now c.args.races.now) q) c.in_err-put_answer.field-0.0)
    asks c.in_err-put_answer.ensures.error)

pub returns-in_err-put_answer-clause-part : goal.returns-in_err-put_answer-clause-part
returns-in_err-put_answer-clause-part c =
    let p = c.args.past.now.program.now in
    let s : SessionState = state_of c.args.past.now c.args.races.now c.args.kept.now in
    let asks = c.asked-question.ensures ∙ ap (λ ws. asked_of p (shown ws)) c.as_slice.ensures.value ∙ ap (asked_of p) c.in_ok-words.ensures in
    let e = err_from_is_err_and c.from_residual-in_err-put_answer.result c.from_residual-in_err-put_answer.ensures.1 in
    rw (e.1) (subst
    (λ (q : Question). AreAskedInPart s.known (blocks_of s q) c.args.kept.now c.put_answer.new.kept)
    asks c.in_err-put_answer.ensures.part)
