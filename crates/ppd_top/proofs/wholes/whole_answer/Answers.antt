use Rattle.ppd_top_requests.specs.Questions.Query.{Whole}
use Rattle.ppd_top.proofs.wholes.whole_answer.Goals as goal

pub returns : goal.returns
returns g c = c.unscheduled.ensures c.args.recalled.now.recording (Whole c.args.workers) c.whole_unless_raced-text.ensures
