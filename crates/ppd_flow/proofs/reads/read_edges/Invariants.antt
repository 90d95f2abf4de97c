use Rattle.std.proofs.Common.{ℕ, List, drop, Result}
use Rattle.ppd_model.specs.declared.flow.FlowEdge.{FlowEdge}
use Rattle.ppd_model.specs.declared.flow_error.FlowError.{FlowError}
use Rattle.ppd_flow_shared.specs.SharedCells.{IsAnswerTo}
use Rattle.ppd_flow.specs.Answers.{reads_at}
use Rattle.ppd_flow.proofs.reads.read_edges.Given as goal
use Rattle.ppd_flow_local.proofs.Lefts.{prefixed}

abbrev pub invariant-loop-read : goal.invariant-loop-read
invariant-loop-read g l =
    (o : ℕ) (r : Result (List FlowEdge) FlowError)
    → IsAnswerTo l.search.past.now (reads_at l.search l.place (drop l.read-index l.reads)) l.steps o r
    → IsAnswerTo l.search.past.now (reads_at l.search l.place l.reads) l.initial.steps o (prefixed l.edges r)
