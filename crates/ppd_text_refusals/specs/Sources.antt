-- Why a source is refused, and the line that says so.
use Rattle.std.specs.Prelude.{◌++◌, ℕ, List, [], codes, decimal}
use Rattle.ppd_ast.specs.declared.limits.TheConstants.{
  MOST_CHANNELS,
  MOST_FUNCTIONS,
  MOST_LOCAL_CELLS,
  MOST_PROCESSES,
  MOST_SEMAPHORES,
  MOST_SHARED_CELLS,
  MOST_STATEMENTS,
}
use Rattle.ppd_check.specs.declared.error.CheckError.TheVariants as check
use Rattle.ppd_check.specs.declared.error.SourceError.{SourceError}
use Rattle.ppd_check.specs.declared.error.SourceError.TheVariants as source
use Rattle.ppd_check_names.specs.declared.fault.Limit.TheVariants as limit
use Rattle.ppd_text_refusals.specs.Stages.{stage_text}

-- what follows the place: of too many of a kind its word, and how many there may be at most
abbrev pub limit_part : SourceError → List ℕ
limit_part (source.Check (check.TooMany p limit.Statements)) = codes " statements " ++ decimal MOST_STATEMENTS
limit_part (source.Check (check.TooMany p limit.Functions)) = codes " functions " ++ decimal MOST_FUNCTIONS
limit_part (source.Check (check.TooMany p limit.Processes)) = codes " processes " ++ decimal MOST_PROCESSES
limit_part (source.Check (check.TooMany p limit.Semaphores)) = codes " semaphores " ++ decimal MOST_SEMAPHORES
limit_part (source.Check (check.TooMany p limit.Channels)) = codes " channels " ++ decimal MOST_CHANNELS
limit_part (source.Check (check.TooMany p limit.Shared)) = codes " shared " ++ decimal MOST_SHARED_CELLS
limit_part (source.Check (check.TooMany p limit.Locals)) = codes " locals " ++ decimal MOST_LOCAL_CELLS
limit_part e = []

-- the line of a fault; for want of memory none is written
abbrev pub refused : SourceError → List ℕ
refused e = codes "refused " ++ stage_text e ++ limit_part e ++ codes "\n"
