-- Which plans are valid for a program.
use Rattle.std.specs.Prelude.{◌≡◌, ℕ, ◌<◌, ◌≤◌, false, List, [], map, length, IsSomeAnd, slice_get}
use Rattle.std.specs.List.{All}
use Rattle.std.specs.List.Sorted.{IsStrictlyIncreasing}
use Rattle.ppd_ast.specs.declared.program.Body.{Body}
use Rattle.ppd_ast.specs.declared.program.Program.{Program}
use Rattle.ppd_ast.specs.declared.plan.Plan.{Plan}
use Rattle.ppd_ast.specs.declared.plan.Policy.{Policy}
use Rattle.ppd_ast.specs.declared.plan.Block.{Block}
use Rattle.ppd_ast.specs.declared.plan.BlockKind.{BlockKind}
use Rattle.ppd_ast.specs.declared.plan.BlockKind.TheVariants.{Function, Process, Loop}
use Rattle.ppd_ast.specs.declared.limits.TheConstants.{MOST_POLICY}
use Rattle.ppd_ast.specs.Numbered.{blocks_by, starts_by}

-- a list of cells is rising, and its cells are below n
pub record AreCells (n : ℕ) (cells : List ℕ) : Type 0 where
  pub rising : IsStrictlyIncreasing cells
  pub below : All (λ c. c < n) cells

pub record IsValidPolicy (policy : Policy) : Type 0 where
  pub leaf : policy.leaf ≤ MOST_POLICY
  pub loops : policy.loops ≤ MOST_POLICY

-- a function's block: parameters alone before it, nothing after it but the value that its body gives
pub record IsFunctionBlock (b : Body) (block : Block) : Type 0 where
  pub prelog : AreCells b.params block.prelog
  pub postlog : block.postlog ≡ []
  pub value : block.value ≡ b.value

-- a process's block: nothing before it and nothing after it
pub record IsProcessBlock (block : Block) : Type 0 where
  pub prelog : block.prelog ≡ []
  pub postlog : block.postlog ≡ []
  pub value : block.value ≡ false

-- a loop's block: cells of its body's frame, and no value
pub record IsLoopBlock (cells : ℕ) (block : Block) : Type 0 where
  pub prelog : AreCells cells block.prelog
  pub postlog : AreCells cells block.postlog
  pub value : block.value ≡ false

abbrev pub IsBlockOf : Program → BlockKind → Block → Type 0
IsBlockOf p (Function f) block = IsSomeAnd (slice_get p.bodies f) (λ b. IsFunctionBlock b block)
IsBlockOf p (Process f) block = IsProcessBlock block
IsBlockOf p (Loop k) block =
    IsSomeAnd (slice_get p.stmts k) (λ s. IsSomeAnd (slice_get p.bodies s.body) (λ b. IsLoopBlock b.cells block))

abbrev pub IsValidBlock : Program → Block → Type 0
IsValidBlock p block = IsBlockOf p block.kind block

pub record IsValidPlan (p : Program) (plan : Plan) : Type 0 where
  pub policy : IsValidPolicy plan.policy
  -- the blocks and units are those of the policy, in the order of their numbers
  pub kinds : map (λ block. block.kind) plan.blocks ≡ blocks_by p.stmts plan.policy p.bodies
  pub starts : map (λ unit. unit.start) plan.units ≡ starts_by p.stmts plan.policy p.bodies
  pub blocks : All (IsValidBlock p) plan.blocks
  -- a unit's cells are shared cells
  pub units : All (λ unit. AreCells (length p.starts) unit.cells) plan.units
