use Rattle.law_flow.proofs.WholeTrace.{joined_trace_full}
use Rattle.law_flow.proofs.laws.whole.joined_trace_is_full.Goals as goal

pub returns : goal.returns
returns c = joined_trace_full
