use Rattle.std.proofs.Common.{Err, refl, subst}
use Rattle.law_clean.specs.Answers.{no_item, unclean}
use Rattle.ppd_clean.specs.declared.clean_error.CleanError.{CleanError}
use Rattle.ppd_session.specs.Texts.{no_event}
use Rattle.ppd_top.specs.Queries.{unclean_line}
use Rattle.ppd_top.specs.Replies.{IsFoundClean}
use Rattle.ppd_top.proofs.CleanTold.{item_told}
use Rattle.ppd_top.proofs.cleans.unanswered.Goals as goal

pub returns-in-Unclean : goal.returns-in-Unclean
returns-in-Unclean c =
    item_told c.args.recalled.now.recording c.args.wanted.process c.args.wanted.interval c.args.wanted.item (unclean c.in-Unclean.edge)
    (unclean_line c.args.recalled.now.recording.program c.in-Unclean.edge)
    (subst (λ (e : CleanError). IsFoundClean c.args.recalled.now.recording c.args.wanted.process c.args.wanted.interval c.args.wanted.item (Err e)) c.in-Unclean.is c.requires) refl
    c.unclean_text.result c.unclean_text.ensures.text c.unclean_text.ensures.error

pub returns-in-NoEvent : goal.returns-in-NoEvent
returns-in-NoEvent c =
    item_told c.args.recalled.now.recording c.args.wanted.process c.args.wanted.interval c.args.wanted.item no_item no_event
    (subst (λ (e : CleanError). IsFoundClean c.args.recalled.now.recording c.args.wanted.process c.args.wanted.interval c.args.wanted.item (Err e)) c.in-NoEvent.is c.requires) refl
    c.line_of.result c.line_of.ensures.text c.line_of.ensures.error
