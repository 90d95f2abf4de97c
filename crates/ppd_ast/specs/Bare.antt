-- The plan of a policy whose lists of cells are all empty.
use Rattle.std.specs.Prelude.{Bool, false, List, [], map, slice_get}
use Rattle.std.specs.Option.{option_map_or}
use Rattle.ppd_ast.specs.declared.program.Body.{Body}
use Rattle.ppd_ast.specs.declared.program.Program.{Program}
use Rattle.ppd_ast.specs.declared.plan.Plan.{Plan}
use Rattle.ppd_ast.specs.declared.plan.Policy.{Policy}
use Rattle.ppd_ast.specs.declared.plan.Block.{Block}
use Rattle.ppd_ast.specs.declared.plan.BlockKind.{BlockKind}
use Rattle.ppd_ast.specs.declared.plan.BlockKind.TheVariants.{Function, Process, Loop}
use Rattle.ppd_ast.specs.declared.plan.Start.{Start}
use Rattle.ppd_ast.specs.declared.plan.Unit.{Unit as UnitOf}
use Rattle.ppd_ast.specs.Numbered.{blocks_by, starts_by}

-- a postlog holds a returned value where the block is a function's and its body gives one
abbrev pub gives_value : List Body → BlockKind → Bool
gives_value bodies (Function f) = option_map_or (λ b. b.value) (slice_get bodies f) false
gives_value bodies (Process f) = false
gives_value bodies (Loop k) = false

abbrev pub bare_block : List Body → BlockKind → Block
bare_block bodies kind = record { kind = kind; prelog = []; postlog = []; value = gives_value bodies kind }

abbrev pub bare_unit : Start → UnitOf
bare_unit start = record { start = start; cells = [] }

-- the blocks and units of the policy, in the order of their numbers, without any cells
abbrev pub bare : Program → Policy → Plan
bare p policy = record {
  policy = policy;
  blocks = map (bare_block p.bodies) (blocks_by p.stmts policy p.bodies);
  units = map bare_unit (starts_by p.stmts policy p.bodies);
}
