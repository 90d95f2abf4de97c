-- What the names and the sizes of a source give for its program, before its statements and expressions are numbered.
use Rattle.std.specs.Prelude.{ℕ, suc, ◌+◌, ◌<◌, ◌≤◌, max, List, [], ◌∷◌, ◌++◌, length}
use Rattle.std.specs.List.{All, AllByRecursion}
use Rattle.ppd_ast.specs.declared.program.Var.{Var}
use Rattle.ppd_ast.specs.declared.program.Program.{Program}
use Rattle.ppd_ast.specs.declared.limits.TheConstants.{MOST_STATEMENTS, MOST_FUNCTIONS, MOST_PROCESSES, MOST_LOCAL_CELLS, MOST_SHARED_CELLS, MOST_SEMAPHORES, MOST_CHANNELS, MOST_START, LEAST_CAPACITY, MOST_CAPACITY, MOST_NESTING, MOST_OPERATORS, MOST_EXPRESSION_DEPTH}
use Rattle.ppd_ast.specs.Term.{Term}
use Rattle.ppd_ast.specs.Uses.{operators_of, depth_of}
use Rattle.ppd_ast.specs.Cells.{CoverCells, AreParams, NamesWhole, WritesWhole}
use Rattle.ppd_ast.specs.Valid.{IsName, AreNamed, HasObject, CallsRightly}
use Rattle.ppd_parse.specs.Grammar.{Shape}
use Rattle.ppd_check_names.specs.Fitted.{fitted}
use Rattle.ppd_check_names.specs.Names.{Scope}
use Rattle.ppd_check_stmts.specs.Code.{Act, Code, done, act, choice, loop}
use Rattle.ppd_check_names.specs.Reading.{source_of}
use Rattle.ppd_check_stmts.specs.Table.{terms, kind}
use Rattle.ppd_check.specs.Sources.{head_code, head_frame, vars, heads, core_of}
use Rattle.ppd_check_names.specs.Globals.{Head, globals}

-- the statements that have none inside them, in order
abbrev pub acts_in : Code → List Act
acts_in done = []
acts_in (act p a c) = a ∷ acts_in c
acts_in (choice p e x y c) = acts_in x ++ (acts_in y ++ acts_in c)
acts_in (loop p e x c) = acts_in x ++ acts_in c

-- a term within the limits of an expression of the table
abbrev pub TermSmall : Term → Type 0
TermSmall t = (depth_of t ≤ MOST_EXPRESSION_DEPTH) × (operators_of t ≤ MOST_OPERATORS)

-- how deep statements stand in one another, those of the row itself at 1
abbrev pub nesting : Code → ℕ
nesting done = 0
nesting (act p a c) = max 1 (nesting c)
nesting (choice p e x y c) = max (suc (max (nesting x) (nesting y))) (nesting c)
nesting (loop p e x c) = max (suc (nesting x)) (nesting c)

-- What the names of a source give.

-- of a row of a body with these variables, whatever number its first expression has
pub record CodeNames (p : Program) (locals : List Var) (c : Code) : Type 0 where
  pub names : All (NamesWhole p.shared locals) (terms c)
  pub writes : All (λ a. (m : ℕ) → WritesWhole p.shared locals (kind m a)) (acts_in c)
  pub objects : All (λ a. (m : ℕ) → HasObject p (kind m a)) (acts_in c)
  pub calls : All (λ a. (m : ℕ) → CallsRightly p (kind m a)) (acts_in c)

-- of a function or a process
pub record HeadNames (p : Program) (scope : Scope) (h : Head) : Type 0 where
  pub frame : (head_frame scope h).cells ≤ MOST_LOCAL_CELLS
  pub cells : CoverCells (vars 0 (head_frame scope h).variables) (head_frame scope h).cells
  pub params : AreParams (vars 0 (head_frame scope h).variables) (fitted 16 (length h.params))
  pub code : CodeNames p (vars 0 (head_frame scope h).variables) (head_code scope h)

-- of the numbers of a program's parts, and of initial values and capacities
pub record AreCounted (p : Program) : Type 0 where
  pub stmts : length p.stmts ≤ MOST_STATEMENTS
  pub functions : p.functions ≤ MOST_FUNCTIONS
  pub process : p.functions < length p.bodies
  pub processes : length p.bodies ≤ p.functions + MOST_PROCESSES
  pub starts : length p.starts ≤ MOST_SHARED_CELLS
  pub sem_count : length p.sems ≤ MOST_SEMAPHORES
  pub sems : All (λ s. s.start ≤ MOST_START) p.sems
  pub chan_count : length p.chans ≤ MOST_CHANNELS
  pub chans : All (λ c. (LEAST_CAPACITY ≤ c.capacity) × (c.capacity ≤ MOST_CAPACITY)) p.chans

-- of a whole source
pub record SourceNames (t : Shape) : Type 0 where
  pub counted : AreCounted (core_of (source_of t))
  pub cells : CoverCells (core_of (source_of t)).shared (length (core_of (source_of t)).starts)
  pub heads : All (HeadNames (core_of (source_of t)) (globals (source_of t)).scope) (heads (globals (source_of t)))

-- What its sizes give.

-- of a row
pub record CodeSizes (c : Code) : Type 0 where
  pub nested : nesting c ≤ MOST_NESTING
  pub terms : AllByRecursion TermSmall (terms c)

-- of a function or a process
pub record HeadSizes (scope : Scope) (h : Head) : Type 0 where
  pub name : IsName h.name.text
  pub names : AreNamed (vars 0 (head_frame scope h).variables)
  pub code : CodeSizes (head_code scope h)
