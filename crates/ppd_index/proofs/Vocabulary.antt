-- What the proofs speak of: the parts of the definitions, each by a name of its own.
use Rattle.ppd_ast.specs.declared.plan.Block.{Block}
use Rattle.ppd_ast.specs.declared.plan.BlockKind.{BlockKind}
use Rattle.ppd_ast.specs.declared.plan.Unit.{Unit}
use Rattle.ppd_model.specs.IntervalLogs.{LoggedInterval, interval_at}
use Rattle.ppd_model.specs.declared.bad_log.BadLog.{BadLog}
use Rattle.ppd_model.specs.declared.bad_log.BadLog.TheVariants.{NoEnd}
use Rattle.std.specs.Option.{option_eq, option_map_or}
use Rattle.std.specs.Prelude.{Bool, List, None, Option, Some, false, if◌then◌else◌, length, nat_eq, option_map, slice_get, ℕ, ℤ, ◌+◌}

-- what a block is the code of, if it is there
abbrev pub kind_there : Option Block → Option BlockKind
kind_there o = option_map (λ b. b.kind) o

-- the innermost interval is of this block
abbrev pub is_same : ℕ → Option ℕ → Bool
is_same b o = option_eq nat_eq o (Some b)

-- the block of the innermost of the running intervals
abbrev pub innermost_of : List ℕ → List LoggedInterval → Option ℕ
innermost_of running intervals = option_map (λ k. (interval_at intervals k).extent.block) (slice_get running 0)

-- a list that is over has an end
abbrev pub unended : ℕ → ℕ → Bool → Option BadLog
unended p n ended = if ended then None else Some (NoEnd (record { process = p; entry = n }))

-- there are as many values as the plan has there
abbrev pub fits_prelog : Option Block → List ℤ → Bool
fits_prelog o values = option_map_or (λ b. nat_eq (length values) (length b.prelog)) o false

abbrev pub fits_postlog : Option Block → List ℤ → Bool
fits_postlog o values =
    option_map_or (λ b. nat_eq (length values) (length b.postlog + (if b.value then 1 else 0))) o false

abbrev pub fits_unit : Option Unit → List ℤ → Bool
fits_unit o values = option_map_or (λ u. nat_eq (length values) (length u.cells)) o false
