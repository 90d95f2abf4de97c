-- Look-ups in the plan, and of a channel in the program.
use Rattle.std.specs.Prelude.{ℕ, nat_eq, Bool, false, List, [], length, Option, Some, None, slice_get, unwrap_or, if◌then◌else◌}
use Rattle.std.specs.List.{position}
use Rattle.std.specs.Option.{option_map_or}
use Rattle.ppd_ast.specs.declared.plan.BlockKind.{BlockKind}
use Rattle.ppd_ast.specs.declared.plan.BlockKind.TheVariants as block
use Rattle.ppd_ast.specs.declared.plan.Plan.{Plan}
use Rattle.ppd_ast.specs.declared.plan.Start.{Start}
use Rattle.ppd_ast.specs.declared.plan.Start.TheVariants as start
use Rattle.ppd_ast.specs.declared.program.Program.{Program}

abbrev pub same_start : Start → Start → Bool
same_start (start.Entry a) (start.Entry b) = nat_eq a b
same_start (start.After a) (start.After b) = nat_eq a b
same_start (start.Enter a) (start.Enter b) = nat_eq a b
same_start (start.Exit a) (start.Exit b) = nat_eq a b
same_start s t = false

abbrev pub same_block : BlockKind → BlockKind → Bool
same_block (block.Function a) (block.Function b) = nat_eq a b
same_block (block.Process a) (block.Process b) = nat_eq a b
same_block (block.Loop a) (block.Loop b) = nat_eq a b
same_block a b = false

-- the block of this kind, if it is one
abbrev pub block_of : Plan → BlockKind → Option ℕ
block_of plan kind = position (λ b. same_block b.kind kind) plan.blocks

-- the unit with this start
abbrev pub unit_of : Plan → Start → ℕ
unit_of plan s = unwrap_or (position (λ u. same_start u.start s) plan.units) 0

-- the local cells of the prelog of block b
abbrev pub prelog_cells : Plan → ℕ → List ℕ
prelog_cells plan b = option_map_or (λ x. x.prelog) (slice_get plan.blocks b) []

-- the local cells of the postlog of block b
abbrev pub postlog_cells : Plan → ℕ → List ℕ
postlog_cells plan b = option_map_or (λ x. x.postlog) (slice_get plan.blocks b) []

-- how many cells unit u has
abbrev pub unit_length : Plan → ℕ → ℕ
unit_length plan u = option_map_or (λ x. length x.cells) (slice_get plan.units u) 0

-- the values in the postlog of a function's block, if the function is one
abbrev pub returned_length : Plan → Option ℕ → ℕ
returned_length plan None = 0
returned_length plan (Some b) = option_map_or (λ x. if x.value then 1 else 0) (slice_get plan.blocks b) 0

-- the capacity of channel c
abbrev pub capacity_of : Program → ℕ → ℕ
capacity_of program c = option_map_or (λ x. x.capacity) (slice_get program.chans c) 0
