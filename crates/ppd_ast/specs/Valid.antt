-- Which programs are valid.
use Rattle.std.specs.Prelude.{◌≡◌, ℕ, ◌+◌, ◌-◌, ◌<◌, ◌≤◌, nat_eq, nat_le, List, [], ◌∷◌, length, Option, Some, None, true, false, is_some, IsTrue, IsSome, IsSomeAnd, slice_get, ⊤}
use Rattle.std.specs.List.{All, count_by, flat_map, range_with_len}
use Rattle.ppd_ast.specs.declared.program.Kind.{Kind}
use Rattle.ppd_ast.specs.declared.program.Kind.TheVariants as K
use Rattle.ppd_ast.specs.declared.program.Stmt.{Stmt}
use Rattle.ppd_ast.specs.declared.program.Var.{Var}
use Rattle.ppd_ast.specs.declared.program.Body.{Body}
use Rattle.ppd_ast.specs.declared.program.Program.{Program}
use Rattle.ppd_ast.specs.declared.limits.TheConstants.{MOST_STATEMENTS, MOST_FUNCTIONS, MOST_PROCESSES, MOST_LOCAL_CELLS, MOST_SHARED_CELLS, MOST_SEMAPHORES, MOST_CHANNELS, MOST_NAME_BYTES, MOST_START, LEAST_CAPACITY, MOST_CAPACITY, MOST_NESTING, MOST_OPERATORS, MOST_EXPRESSION_DEPTH}
use Rattle.ppd_ast.specs.Term.{term}
use Rattle.ppd_ast.specs.Table.{EachAt, AreChildrenBelow}
use Rattle.ppd_ast.specs.Uses.{kind_uses, uses, operators_of, depth_of}
use Rattle.ppd_ast.specs.Cells.{CoverCells, AreParams, NamesWhole, WritesWhole}
use Rattle.ppd_ast.specs.Order.{inner, preorder, StandIn}

abbrev pub IsName : List ℕ → Type 0
IsName name = length name ≤ MOST_NAME_BYTES

abbrev pub AreNamed : List Var → Type 0
AreNamed vs = All (λ v. IsName v.name) vs

-- the numbers of a program's parts, and what the limits say of names, initial values and capacities
pub record AreWithinLimits (p : Program) : Type 0 where
  pub stmts : length p.stmts ≤ MOST_STATEMENTS
  pub functions : p.functions ≤ MOST_FUNCTIONS
  -- at least one process
  pub process : p.functions < length p.bodies
  pub processes : length p.bodies ≤ p.functions + MOST_PROCESSES
  pub starts : length p.starts ≤ MOST_SHARED_CELLS
  pub names : AreNamed p.shared
  pub sem_count : length p.sems ≤ MOST_SEMAPHORES
  pub sems : All (λ s. IsName s.name × (s.start ≤ MOST_START)) p.sems
  pub chan_count : length p.chans ≤ MOST_CHANNELS
  pub chans : All (λ c. IsName c.name × (LEAST_CAPACITY ≤ c.capacity) × (c.capacity ≤ MOST_CAPACITY)) p.chans

-- the bodies' ranges of statements follow one another from n on, up to `end`
abbrev pub Follow : (n : ℕ) → List Body → (end : ℕ) → Type 0
Follow n [] end = n ≡ end
Follow n (b ∷ bs) end = (b.first ≡ n) × (n ≤ b.end) × Follow b.end bs end

-- the last number of a list
abbrev pub last_of : List ℕ → Option ℕ
last_of list = slice_get list (length list - 1)

-- a statement with which a body ends
abbrev pub IsEnding : Kind → Type 0
IsEnding (K.Return v) = ⊤
IsEnding K.End = ⊤
IsEnding _ = ⊥

-- statement k of body b, where it is a `Return` or an `End`, is the last of the top list: a `Return`
-- in a function, with a value where the function gives one, and an `End` in a process
abbrev pub EndsBody : Body → (k : ℕ) → Kind → Type 0
EndsBody b k (K.Return v) = (b.process ≡ false) × (is_some v ≡ b.value) × (last_of b.top ≡ Some k)
EndsBody b k K.End = (b.process ≡ true) × (last_of b.top ≡ Some k)
EndsBody b k _ = ⊤

-- the semaphore or channel of a statement is there
abbrev pub HasObject : Program → Kind → Type 0
HasObject p (K.P s) = s < length p.sems
HasObject p (K.V s) = s < length p.sems
HasObject p (K.Send c e) = c < length p.chans
HasObject p (K.Recv c into) = c < length p.chans
HasObject p _ = ⊤

-- a call is of a function that is there, has as many arguments as that has parameters, and receives only
-- a value that is returned
abbrev pub CallsRightly : Program → Kind → Type 0
CallsRightly p (K.Call f args into) =
    (f < p.functions)
    × IsSomeAnd (slice_get p.bodies f) (λ g. (length args ≡ g.params) × (IsSome into → IsTrue g.value))
CallsRightly p _ = ⊤

-- an expression that a statement of body b uses: it is there, is not too large, and names whole variables
pub record IsValidUse (p : Program) (b : Body) (e : ℕ) : Type 0 where
  pub there : e < length p.exprs
  pub depth : depth_of (term p.exprs e) ≤ MOST_EXPRESSION_DEPTH
  pub operators : operators_of (term p.exprs e) ≤ MOST_OPERATORS
  pub names : NamesWhole p.shared b.locals (term p.exprs e)

-- statement k, of this kind, in body b
pub record IsValidKind (p : Program) (b : Body) (k : ℕ) (kind : Kind) : Type 0 where
  pub uses : All (IsValidUse p b) (kind_uses kind)
  pub writes : WritesWhole p.shared b.locals kind
  pub object : HasObject p kind
  pub call : CallsRightly p kind
  pub ending : EndsBody b k kind

pub record IsValidStmt (p : Program) (k : ℕ) (s : Stmt) : Type 0 where
  -- its body is there
  pub kind : IsSomeAnd (slice_get p.bodies s.body) (λ b. IsValidKind p b k s.kind)
  -- what stands in it has it as its parent, and its body
  pub inside : StandIn p.stmts (Some k) s.body (inner s.kind)

-- body j
pub record IsValidBody (p : Program) (j : ℕ) (b : Body) : Type 0 where
  -- the first bodies are the functions, the others the processes
  pub process : b.process ≡ nat_le p.functions j
  -- a process has no parameters and gives no value
  pub plain : IsTrue b.process → (b.params ≡ 0) × (b.value ≡ false)
  pub name : IsName b.name
  pub names : AreNamed b.locals
  -- its variables share no cell and cover its frame
  pub frame : b.cells ≤ MOST_LOCAL_CELLS
  pub cells : CoverCells b.locals b.cells
  pub params : AreParams b.locals b.params
  -- each of its statements stands in one list, in pre-order, at most so deep
  pub order : flat_map (preorder MOST_NESTING p.stmts) b.top ≡ range_with_len b.first (b.end - b.first)
  pub top : StandIn p.stmts None j b.top
  -- its top list ends with a `Return` or an `End`
  pub ending : IsSomeAnd (last_of b.top) (λ i. IsSomeAnd (slice_get p.stmts i) (λ s. IsEnding s.kind))

pub record IsValid (p : Program) : Type 0 where
  pub limits : AreWithinLimits p
  -- children of expressions have smaller numbers
  pub children : EachAt AreChildrenBelow p.exprs
  -- each expression is used in one place
  pub once : (e : ℕ) → e < length p.exprs → count_by (nat_eq e) (uses p) ≡ 1
  -- the shared variables share no cell and cover the shared cells, each of which has one start value
  pub cells : CoverCells p.shared (length p.starts)
  -- the bodies' ranges of statements follow one another and cover all statements
  pub ranges : Follow 0 p.bodies (length p.stmts)
  pub bodies : EachAt (IsValidBody p) p.bodies
  pub stmts : EachAt (IsValidStmt p) p.stmts
