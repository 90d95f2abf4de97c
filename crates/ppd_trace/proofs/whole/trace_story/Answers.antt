use Rattle.std.proofs.Common.{subst}
use Rattle.ppd_model.specs.Setting.{Setting}
use Rattle.ppd_trace.specs.Subjects.{ArePaired}
use Rattle.ppd_trace.proofs.whole.trace_story.Goals as goal

pub trace_all-requires-clause-pairs : goal.trace_all-requires-clause-pairs
trace_all-requires-clause-pairs g c = subst (λ (s : Setting). ArePaired s.program c.in_ok-told.told) c.setting.view_is c.in_ok-told.ensures.pairs
