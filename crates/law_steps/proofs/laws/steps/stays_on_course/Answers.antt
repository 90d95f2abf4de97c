use Rattle.law_steps.proofs.Course.Leading.{stays_on_course}
use Rattle.law_steps.proofs.laws.steps.stays_on_course.Goals as goal

pub returns : goal.returns
returns c = stays_on_course
