use Rattle.ppd_top_requests.specs.Questions.{asked_of}
use Rattle.ppd_top_requests.specs.Questions.Query.{Clean}
use Rattle.ppd_top.proofs.cleans.clean_answer.Goals as goal

pub returns : goal.returns
returns g c = c.unscheduled.ensures c.args.recalled.now.recording (Clean (asked_of c.args.asked.now)) c.clean_of_process-text.ensures
