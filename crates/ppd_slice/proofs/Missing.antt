-- The write that `Sets` names is missing.
use Rattle.std.proofs.Common.{◌≡◌, ℕ, List, Option, Some, None, Result, Ok, Err}
use Rattle.ppd_model.specs.declared.entry.At.{At}
use Rattle.ppd_flow.specs.Answers.{answer_if}
use Rattle.ppd_flow.specs.Missing.{IsCauseOfSets}
use Rattle.ppd_flow.proofs.Missing.{missed_edges}
use Rattle.ppd_model.specs.declared.flow.FlowEdge.{FlowEdge}
use Rattle.ppd_model.specs.declared.flow_error.FlowError.{FlowError}
use Rattle.ppd_model.specs.declared.flow_error.FlowError.TheVariants.{Diverged, NoEvent, Sets, Memory}
use Rattle.ppd_flow_past.specs.declared.past.Past.{Past}
use Rattle.ppd_flow_past.specs.ByReplays.{first_failed_in}
use Rattle.law_flow.specs.Missing.{write_at}
use Rattle.ppd_graph.specs.Found.{found_edges}
use Rattle.ppd_graph.specs.Shared.{Missing}
use Rattle.ppd_flow.specs.SharedCells.{seens_in}
use Rattle.ppd_slice_search.specs.declared.reached.ItemAt.{ItemAt}
use Rattle.ppd_slice_search.specs.declared.reached.Reached.{Reached}
use Rattle.ppd_slice.specs.Slices.{IsSliceOf, unless_failed}
use Rattle.law_flow.proofs.MissingWrites.{missing_writes_are_told}

found_missing : (failure : Option At) (o : Option (Result (List FlowEdge) Missing)) (q n c : ℕ)
    → unless_failed failure (answer_if o) ≡ Err (Sets q n c) → o ≡ Some (Err (write_at q n c))
found_missing None o q n c e = missed_edges q n c o e
found_missing (Some failure) o q n c e = absurd (cc e)

pub slice_missed : (past : Past) (a : ItemAt) (r : Result (List Reached) FlowError)
    → IsSliceOf past a r → IsCauseOfSets past r
slice_missed past a (Err (Sets q n c)) f = λ indexed.
    let b = f.1.0 in
    (missing_writes_are_told past.program.now past.plan.now past.logs.now (seens_in past) indexed).edges b.process b.interval b.item
    (write_at q n c)
    (found_missing
    (first_failed_in past
    (found_edges past.program.now past.plan.now past.logs.now (seens_in past) b.process b.interval b.item).replays)
    (found_edges past.program.now past.plan.now past.logs.now (seens_in past) b.process b.interval b.item).found q n c f.1.1)
slice_missed past a (Err (Diverged q n)) f = tt
slice_missed past a (Err NoEvent) f = tt
slice_missed past a (Err Memory) f = tt
slice_missed past a (Ok rs) f = tt
