use Rattle.law_steps.proofs.Spans.SpansComing.{spans_are_coming}
use Rattle.law_steps.proofs.laws.spans.spans_are_coming.Goals as goal

pub returns : goal.returns
returns c = spans_are_coming
