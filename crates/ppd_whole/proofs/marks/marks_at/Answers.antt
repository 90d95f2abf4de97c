use Rattle.std.proofs.Common.{◌∙◌, [], map, ap}
use Rattle.std.proofs.lemmas.Result.{IfOk-weaker}
use Rattle.ppd_whole_link.specs.Marks.{marks_after}
use Rattle.ppd_whole.proofs.Events.Parts.{made_at}
use Rattle.ppd_whole.proofs.marks.marks_at.Goals as goal

pub returns : goal.returns
returns c = IfOk-weaker c.marks_of.result _ _ (λ marks h. h ∙ ap marks_after (ap (map _) c.deref.ensures.value ∙ made_at _ c.args.events.now c.args.p c.index-events-p.result [] c.requires c.index-events-p.is)) c.marks_of.ensures.marks
