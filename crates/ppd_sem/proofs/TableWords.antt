-- Words of the proofs for look-ups in tables.
use Rattle.std.specs.Option.{option_map_or}
use Rattle.std.specs.Prelude.{[], ℕ, List, Option, unwrap_or}
use Rattle.ppd_ast.specs.declared.plan.Block.{Block}
use Rattle.ppd_ast.specs.declared.plan.BlockKind.{BlockKind}
use Rattle.ppd_ast.specs.declared.program.Chan.{Chan}
use Rattle.ppd_ast.specs.declared.plan.BlockKind.TheVariants as block

-- the number that is there, and 0 without one
abbrev pub or_zero : Option ℕ → ℕ
or_zero o = unwrap_or o 0

-- the capacity of a channel that is there
abbrev pub capacity_in : Option Chan → ℕ
capacity_in o = option_map_or (λ (c : Chan). c.capacity) o 0

-- what a block that is there is the code of
abbrev pub kind_in : Option Block → BlockKind
kind_in o = option_map_or (λ (x : Block). x.kind) o (block.Process 0)

-- the local cells of a block's prelog
abbrev pub prelog_in : Option Block → List ℕ
prelog_in o = option_map_or (λ (x : Block). x.prelog) o []

-- the local cells of a block's postlog
abbrev pub postlog_in : Option Block → List ℕ
postlog_in o = option_map_or (λ (x : Block). x.postlog) o []
