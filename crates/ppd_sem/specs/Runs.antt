-- What a program's tables and a process state must be so that the process can run.
use Rattle.std.specs.Prelude.{◌≡◌, ℕ, ◌+◌, ◌<◌, ◌≤◌, ◌^◌, Bool, true, false, List, [], ◌∷◌, length, map, Option, Some, None, slice_get, ⊤}
use Rattle.std.specs.List.{All}
use Rattle.ppd_ast.specs.Table.{AreChildrenBelow, EachAt}
use Rattle.ppd_ast.specs.Term.{term}
use Rattle.ppd_ast.specs.declared.program.Body.{Body}
use Rattle.ppd_ast.specs.declared.program.Expr.{Expr}
use Rattle.ppd_ast.specs.declared.program.Kind.{Kind}
use Rattle.ppd_ast.specs.declared.program.Kind.TheVariants as kind
use Rattle.ppd_ast.specs.declared.program.Program.{Program}
use Rattle.ppd_ast.specs.declared.program.Stmt.{Stmt}
use Rattle.ppd_ast.specs.declared.program.Target.{Target}
use Rattle.ppd_ast.specs.declared.program.Target.TheVariants as target
use Rattle.ppd_ast.specs.declared.limits.TheConstants.{MOST_CALLS}
use Rattle.ppd_ast.specs.declared.plan.Plan.{Plan}
use Rattle.ppd_ast.specs.Lookups.{kind_of, body_numbered}
use Rattle.ppd_sem.specs.declared.proc.Frame.{Frame}
use Rattle.ppd_sem.specs.declared.proc.Proc.{Proc}
use Rattle.ppd_sem.specs.declared.proc.Todo.{Todo}
use Rattle.ppd_sem.specs.Within.{IsWithin}
use Rattle.ppd_sem.specs.Process.{top_frame}

-- an expression that is there, over a frame of n cells
pub record IsUse (es : List Expr) (n : ℕ) (e : ℕ) : Type 0 where
  pub there : e < length es
  pub within : IsWithin n (term es e)

abbrev pub IsTargetWithin : List Expr → ℕ → Target → Type 0
IsTargetWithin es n (target.Local c) = ⊤
IsTargetWithin es n (target.LocalAt base len i) = IsUse es n i × (base + len < 2 ^ 16)
IsTargetWithin es n (target.Shared c) = ⊤
IsTargetWithin es n (target.SharedAt base len i) = IsUse es n i × (base + len < 2 ^ 16)

-- the expressions of a statement are there, and name cells of a frame of n cells
abbrev pub AreUses : List Expr → ℕ → Kind → Type 0
AreUses es n (kind.Set t e) = IsTargetWithin es n t × IsUse es n e
AreUses es n (kind.Zero base len) = base + len < 2 ^ 16
AreUses es n (kind.If e first second) = IsUse es n e
AreUses es n (kind.While e body) = IsUse es n e
AreUses es n (kind.Call f arguments into) = All (IsUse es n) arguments
AreUses es n (kind.Return None) = ⊤
AreUses es n (kind.Return (Some e)) = IsUse es n e
AreUses es n (kind.P s) = ⊤
AreUses es n (kind.V s) = ⊤
AreUses es n (kind.Send c e) = IsUse es n e
AreUses es n (kind.Recv c into) = ⊤
AreUses es n (kind.Print e) = IsUse es n e
AreUses es n (kind.Assert e) = IsUse es n e
AreUses es n kind.End = ⊤

-- ---- statements and the frames that they run over

abbrev pub returns : Kind → Bool
returns (kind.Return value) = true
returns k = false

-- the cells of a frame of this body
abbrev pub size_of : Program → ℕ → ℕ
size_of program body = (body_numbered program body).cells

abbrev pub stmt_size : Program → Option Stmt → ℕ
stmt_size program None = 0
stmt_size program (Some s) = size_of program s.body

-- a statement that runs over frames of n cells
pub record RunsOver (program : Program) (n : ℕ) (stmt : ℕ) : Type 0 where
  pub there : stmt < length program.stmts
  pub size : stmt_size program (slice_get program.stmts stmt) ≡ n

-- statements over frames of n cells, none of which returns
pub record IsInner (program : Program) (n : ℕ) (stmt : ℕ) : Type 0 where
  pub over : RunsOver program n stmt
  pub stays : returns (kind_of program stmt) ≡ false

-- a function's outermost statements, over frames of n cells: the last one returns, and no other
abbrev pub AreOfFunction : Program → ℕ → List ℕ → Type 0
AreOfFunction program n [] = ⊥
AreOfFunction program n (s ∷ []) = RunsOver program n s × (returns (kind_of program s) ≡ true)
AreOfFunction program n (s ∷ t ∷ ss) = IsInner program n s × AreOfFunction program n (t ∷ ss)

-- a function that is there, takes so many arguments, and whose statements end with its return
pub record IsCallable (program : Program) (f count : ℕ) : Type 0 where
  pub there : f < length program.bodies
  pub arguments : count ≤ size_of program f
  pub top : AreOfFunction program (size_of program f) (body_numbered program f).top

-- where a statement over frames of n cells leads
abbrev pub LeadsOn : Program → ℕ → Kind → Type 0
LeadsOn program n (kind.If e first second) = All (IsInner program n) first × All (IsInner program n) second
LeadsOn program n (kind.While e body) = All (IsInner program n) body
LeadsOn program n (kind.Call f arguments into) = IsCallable program f (length arguments)
LeadsOn program n k = ⊤

pub record IsRunnableStmt (program : Program) (s : Stmt) : Type 0 where
  pub uses : AreUses program.exprs (size_of program s.body) s.kind
  pub leads : LeadsOn program (size_of program s.body) s.kind

-- a process's outermost statements have none that returns
pub record IsRunnableBody (program : Program) (number : ℕ) (b : Body) : Type 0 where
  pub cells : b.cells < 2 ^ 16
  pub top : program.functions ≤ number → All (IsInner program b.cells) b.top

-- a program whose processes can run
pub record IsRunnable (program : Program) : Type 0 where
  pub children : EachAt AreChildrenBelow program.exprs
  pub stmts : EachAt (λ _ s. IsRunnableStmt program s) program.stmts
  pub bodies : EachAt (IsRunnableBody program) program.bodies

-- the numbers of a plan's blocks and units have 16 bits
pub record IsNumbered (plan : Plan) : Type 0 where
  pub blocks : length plan.blocks ≤ 2 ^ 16
  pub units : length plan.units ≤ 2 ^ 16

-- ---- a process state

-- the bodies of the frames
abbrev pub bodies_in : List Frame → List ℕ
bodies_in frames = map (λ f. f.body) frames

abbrev pub sizes : List Frame → List ℕ
sizes frames = map (λ f. length f.cells) frames

-- the frames, as their sizes, that are left after a statement
abbrev pub left_by : Bool → (n : ℕ) → List ℕ → List ℕ
left_by true n ns = ns
left_by false n ns = n ∷ ns

-- each statement that is still to do runs over the frame that will then be the top one
abbrev pub AreOver : Program → List ℕ → List Todo → Type 0
AreOver program ns [] = ⊤
AreOver program [] (t ∷ ts) = ⊥
AreOver program (n ∷ ns) (t ∷ ts) =
    RunsOver program n t.stmt × AreOver program (left_by (returns (kind_of program t.stmt)) n ns) ts

-- a process state of the program: what is to do runs over its frames, each step cost at least 1, and
-- the budget is not overspent
pub record IsRunning (program : Program) (s : Proc) : Type 0 where
  pub todo : AreOver program (sizes s.frames) s.todo
  pub frames : All (λ n. n < 2 ^ 16) (sizes s.frames)
  pub below : s.below ≤ MOST_CALLS
  pub steps : s.steps ≤ s.spent
  pub spent : s.spent ≤ s.budget

-- the head statement of a process of a program that can run, over the top frame
pub record IsHead (program : Program) (s : Proc) (t : Todo) : Type 0 where
  pub runnable : IsRunnable program
  pub first : slice_get s.todo 0 ≡ Some t
  pub cells : length (top_frame s.frames).cells < 2 ^ 16
  pub over : RunsOver program (length (top_frame s.frames).cells) t.stmt
