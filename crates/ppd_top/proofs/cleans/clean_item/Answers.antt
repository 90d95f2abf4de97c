use Rattle.std.proofs.Common.{refl}
use Rattle.law_clean.specs.Answers.{clean}
use Rattle.ppd_text.specs.Edges.{why_text}
use Rattle.ppd_top.proofs.CleanTold.{item_told}
use Rattle.ppd_top.proofs.cleans.clean_item.Goals as goal

pub returns-in-Ok : goal.returns-in-Ok
returns-in-Ok c =
    item_told c.args.recalled.now.recording c.args.wanted.process c.args.wanted.interval c.args.wanted.item (clean c.in-Ok.found.item c.in-Ok.found.edges)
    (why_text c.args.recalled.now.recording.program c.args.recalled.now.recording.plan c.args.wanted.item c.in-Ok.found.item c.in-Ok.found.edges) c.in-Ok.ensures refl
    c.item_text.result c.item_text.ensures.text c.item_text.ensures.error
