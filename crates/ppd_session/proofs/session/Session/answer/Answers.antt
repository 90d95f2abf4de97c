use Rattle.std.specs.Prelude.{IfErr, IfOk, OnErr, OnOk}
use Rattle.std.proofs.Common.{◌≡◌, List, None, ap, subst, sym, ◌∙◌}
use Rattle.ppd_model.specs.declared.graph.Race.{Race}
use Rattle.ppd_session.specs.Keeping.{AreAsked, AreAskedInPart}
use Rattle.ppd_session.specs.Missing.{IsCauseOfSets}
use Rattle.ppd_session.specs.Sessions.{AreTold, IsSession, IsWhy, SessionState, blocks_of_line, known_by, state_of}
use Rattle.ppd_session.specs.Texts.{failure_of, text_of}
use Rattle.ppd_session.proofs.Keeping.{told_after}
use Rattle.ppd_session.proofs.Missing.{cause_of_sets}
use Rattle.ppd_session.proofs.session.Session.answer.Goals as goal

pub reply-requires : goal.reply-requires
reply-requires c =
    subst (λ (rs : List Race). IsSession c.self.inside.past rs c.self.inside.kept)
    (sym c.as_slice.ensures) c.self.invariant

pub invariant_of-self : goal.invariant_of-self
invariant_of-self c = record {
  together = c.self.invariant.together;
  uncut = c.self.invariant.uncut;
  told =
      let told = subst (λ (rs : List Race). AreTold (known_by c.self.inside.past rs) c.self.inside.kept.blocks)
      (sym c.as_slice.ensures) c.self.invariant.told in
      subst (λ (rs : List Race). AreTold (known_by c.self.inside.past rs) c.reply.new.kept.blocks) c.as_slice.ensures
      (told_after (known_by c.self.inside.past c.as_slice.result.now) c.reply.result
      (blocks_of_line (state_of c.self.inside.past c.as_slice.result.now c.self.inside.kept) c.args.line.now)
      c.self.inside.kept c.reply.new.kept told c.reply.ensures.kept c.reply.ensures.part);
}

pub returns-clause-text : goal.returns-clause-text
returns-clause-text c =
    subst (λ (s : SessionState). IfOk c.reply.result (λ r. r.text ≡ text_of s.known c.args.line.now))
    (ap (λ (rs : List Race). state_of c.self.inside.past rs c.self.inside.kept) c.as_slice.ensures ∙ c.self.view_is)
    c.reply.ensures.text

pub returns-clause-told : goal.returns-clause-told
returns-clause-told c =
    subst (λ (s : SessionState). OnOk c.reply.result (failure_of s.known c.args.line.now ≡ None))
    (ap (λ (rs : List Race). state_of c.self.inside.past rs c.self.inside.kept) c.as_slice.ensures ∙ c.self.view_is)
    c.reply.ensures.told

pub returns-clause-error : goal.returns-clause-error
returns-clause-error c =
    subst (λ (s : SessionState). IfErr c.reply.result (IsWhy (failure_of s.known c.args.line.now)))
    (ap (λ (rs : List Race). state_of c.self.inside.past rs c.self.inside.kept) c.as_slice.ensures ∙ c.self.view_is)
    c.reply.ensures.error

pub returns-clause-sets : goal.returns-clause-sets
returns-clause-sets c =
    subst (λ (s : SessionState). IsCauseOfSets s.known c.reply.result)
    (ap (λ (rs : List Race). state_of c.self.inside.past rs c.self.inside.kept) c.as_slice.ensures ∙ c.self.view_is)
    (cause_of_sets (known_by c.self.inside.past c.as_slice.result.now) c.args.line.now c.reply.result
    c.reply.ensures.error)

pub returns-clause-same : goal.returns-clause-same
returns-clause-same c = ap (λ (s : SessionState). s.known) c.self.view_is

pub returns-clause-lasts : goal.returns-clause-lasts
returns-clause-lasts c = ap (λ (s : SessionState). s.last_blocks) c.self.view_is

pub returns-clause-kept : goal.returns-clause-kept
returns-clause-kept c =
    subst
    (λ (s : SessionState). OnOk c.reply.result
    (AreAsked s.known (blocks_of_line s c.args.line.now) s.kept c.reply.new.kept))
    (ap (λ (rs : List Race). state_of c.self.inside.past rs c.self.inside.kept) c.as_slice.ensures ∙ c.self.view_is)
    c.reply.ensures.kept

pub returns-clause-part : goal.returns-clause-part
returns-clause-part c =
    subst
    (λ (s : SessionState). OnErr c.reply.result
    (AreAskedInPart s.known (blocks_of_line s c.args.line.now) s.kept c.reply.new.kept))
    (ap (λ (rs : List Race). state_of c.self.inside.past rs c.self.inside.kept) c.as_slice.ensures ∙ c.self.view_is)
    c.reply.ensures.part
