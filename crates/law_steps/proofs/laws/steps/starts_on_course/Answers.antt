use Rattle.law_steps.proofs.Course.Beginning.{starts_on_course}
use Rattle.law_steps.proofs.laws.steps.starts_on_course.Goals as goal

pub returns : goal.returns
returns c = starts_on_course
