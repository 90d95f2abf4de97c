-- What `Sets` says: the write that it names is missing.
use Rattle.std.specs.Prelude.{Result, Err, ⊤}
use Rattle.ppd_model.specs.declared.flow_error.FlowError.{FlowError}
use Rattle.ppd_model.specs.declared.flow_error.FlowError.TheVariants.{Sets}
use Rattle.ppd_flow_past.specs.declared.past.Past.{Past}
use Rattle.ppd_flow_shared.specs.SharedCells.{seens_in}
use Rattle.law_flow.specs.Missing.{AreIndexed, IsMissingWrite, write_at}

-- where `Sets` is answered of a past whose logs the index accepts, the write that it names is missing: the entry ends
-- an internal edge and its write set has the cell, which no event of that edge writes by the replays
abbrev pub IsCauseOfSets : {A : Type 0} → Past → Result A FlowError → Type 0
IsCauseOfSets past (Err (Sets q n c)) = AreIndexed past.program.now past.plan.now past.logs.now
    → IsMissingWrite past.logs.now (seens_in past) (write_at q n c)
IsCauseOfSets past result = ⊤
