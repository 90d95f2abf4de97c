-- What `Sets` says of an item of a run with races: the write that it names is missing.
use Rattle.std.specs.Prelude.{ℕ, List, Result, Err, ⊤}
use Rattle.law_flow.specs.Missing.{AreIndexed, IsMissingWrite, write_at}
use Rattle.ppd_clean.specs.Answers.{cut_of, seens_of}
use Rattle.ppd_clean.specs.declared.clean_error.CleanError.{CleanError}
use Rattle.ppd_clean.specs.declared.clean_error.CleanError.TheVariants as error
use Rattle.ppd_clean.specs.declared.clean.Clean.{Clean}
use Rattle.ppd_flow_past.specs.declared.past.Past.{Past}
use Rattle.ppd_model.specs.declared.graph.Race.{Race}

-- where `Sets` is answered of item j of interval k of process p of a past with these races, whose logs the index
-- accepts, the write that it names is missing: the entry ends an internal edge and its write set has the cell, which no
-- event of that edge writes by the replays of the cut logs
abbrev pub IsCauseOfSets : Past → List Race → (p k j : ℕ) → Result Clean CleanError → Type 0
IsCauseOfSets past races p k j (Err (error.Sets q n c)) = AreIndexed past.program.now past.plan.now past.logs.now
    → IsMissingWrite past.logs.now (seens_of past (cut_of past races p k j)) (write_at q n c)
IsCauseOfSets past races p k j result = ⊤
