-- A process that replays an interval beside the one that ran it.
use Rattle.std.specs.Prelude.{Option, Some, None, ◌≡◌, ℕ, ◌+◌, ◌≤◌, true, false, List, [], ◌∷◌, ◌++◌, length, if◌then◌else◌, ◌⊎◌, ⊤, Ok, Err}
use Rattle.std.specs.List.{AllByRecursion as Each}
use Rattle.ppd_ast.specs.declared.program.Kind.{Kind}
use Rattle.ppd_ast.specs.declared.program.Kind.TheVariants.{Return, End}
use Rattle.ppd_ast.specs.declared.program.Program.{Program}
use Rattle.ppd_ast.specs.Lookups.{kind_of, body_numbered}
use Rattle.ppd_sem.specs.declared.proc.Frame.{Frame}
use Rattle.ppd_sem.specs.declared.proc.Todo.{Todo}
use Rattle.ppd_sem.specs.declared.proc.Proc.{Proc}
use Rattle.ppd_sem.specs.Asked.{Asked}
use Rattle.ppd_sem.specs.Deed.{Deed, branch, turn, invoke, back, finish}
use Rattle.ppd_sem.specs.Process.{todos}
use Rattle.ppd_sem.specs.Described.{ends_body}
use Rattle.law_steps.proofs.Vocabulary.Over.{SameIn, IsKindOver}
use Rattle.law_steps.specs.Beside.Relation.{IsListOf, IsCallOf}

-- a statement that ends a body is still to do
abbrev pub HasEnd : Program → List Todo → Type 0
HasEnd program [] = ⊥
HasEnd program (t ∷ ts) = (ends_body (kind_of program t.stmt) ≡ true) ⊎ HasEnd program ts

-- what is to do after the body of the top frame
abbrev pub past_body : Program → List Todo → List Todo
past_body program [] = []
past_body program (t ∷ ts) = if ends_body (kind_of program t.stmt) then ts else past_body program ts

abbrev pub IsReturn : Kind → Type 0
IsReturn (Return e) = ⊤
IsReturn k = ⊥

abbrev pub IsEnd : Kind → Type 0
IsEnd End = ⊤
IsEnd k = ⊥

-- a body ends in its last statement, and nowhere before
pub record HasEnds (program : Program) : Type 0 where
  pub nested : (s : ℕ) (stmts : List ℕ) → IsListOf (kind_of program s) stmts → (ts : List Todo)
      → past_body program (todos stmts ++ ts) ≡ past_body program ts
  pub ended : (s f : ℕ) → IsCallOf (kind_of program s) f → (ts : List Todo)
      → HasEnd program (todos (body_numbered program f).top ++ ts)
  pub whole : (s f : ℕ) → IsCallOf (kind_of program s) f → (ts : List Todo)
      → past_body program (todos (body_numbered program f).top ++ ts) ≡ ts

-- the statements of a block, the local cells of its frame that they read, and whether one of them is a call
pub record IsBlock (program : Program) (used inside : ℕ → Type 0) (calls : Type 0) : Type 0 where
  pub reads : (s : ℕ) → inside s → IsKindOver used program.exprs (kind_of program s)
  pub within : (s : ℕ) → inside s → (stmts : List ℕ) → IsListOf (kind_of program s) stmts → Each inside stmts
  pub calling : (s f : ℕ) → inside s → IsCallOf (kind_of program s) f → calls

-- the last that is to do
abbrev pub IsLast : Todo → List Todo → Type 0
IsLast closer [] = ⊥
IsLast closer (t ∷ []) = t ≡ closer
IsLast closer (t ∷ u ∷ us) = IsLast closer (u ∷ us)

-- at least two
abbrev pub IsLong : List Todo → Type 0
IsLong [] = ⊥
IsLong (t ∷ []) = ⊥
IsLong (t ∷ u ∷ us) = ⊤

-- what is to do in the interval's own frame: statements of the block, and last the one that closes it
abbrev pub IsOwnTodo : (ℕ → Type 0) → Todo → List Todo → Type 0
IsOwnTodo inside closer todo = Each (λ t. inside t.stmt) todo × IsLast closer todo

-- ---- the two processes

-- two activations of one body that are the same in these cells
pub record IsSameIn (used : ℕ → Type 0) (f g : Frame) : Type 0 where
  pub body : f.body ≡ g.body
  pub cells : SameIn used f.cells g.cells

-- the frames of the process and of the replay, with what is to do in the interval: those that the
-- interval called are the same, its own frame is the same in these cells, and what is to do in its
-- own frame are statements of the block
pub data Stacked (program : Program) (used inside : ℕ → Type 0) (calls : Type 0) (closer : Todo)
    (home : ℕ) : List Frame → List Frame → List Todo → Type 0 where
  at_base : (f g : Frame) (fs gs : List Frame) (todo : List Todo) → IsSameIn used f g → f.body ≡ home → g.call ≡ None
      → IsOwnTodo inside closer todo → Stacked program used inside calls closer home (f ∷ fs) (g ∷ gs) todo
  called : (f : Frame) (fs gs : List Frame) (todo : List Todo) → calls → HasEnd program todo
      → Stacked program used inside calls closer home fs gs (past_body program todo)
      → Stacked program used inside calls closer home (f ∷ fs) (f ∷ gs) todo

-- `calls`: the interval has a call, so that the count of calls not returned matters; `depth` is that of its log;
-- `outside` is what the process does after the interval
pub record IsBeside (program : Program) (used inside : ℕ → Type 0) (calls : Type 0) (closer : Todo) (home : ℕ)
    (depth : ℕ) (outside : List Todo) (s r : Proc) : Type 0 where
  pub todo : s.todo ≡ r.todo ++ outside
  pub frames : Stacked program used inside calls closer home s.frames r.frames r.todo
  pub whole : s.below ≡ 0
  pub below : r.below ≡ depth
  pub count : calls → length s.frames ≡ depth + length r.frames
  pub answers : s.answers ≡ r.answers
  pub status : s.status ≡ r.status
  pub budget : s.budget ≡ r.budget
  pub spent : r.spent ≤ s.spent

-- ---- deeds

-- a statement of this kind comes to this deed alone
abbrev pub Suits : Kind → Deed → Type 0
Suits k (branch stmts) = IsListOf k stmts
Suits k (turn stmts) = IsListOf k stmts
Suits k (invoke f values into) = IsCallOf k f
Suits k (back value) = IsReturn k
Suits k finish = IsEnd k
Suits k deed = ends_body k ≡ false

-- the deed, if it comes to one
abbrev pub Yields : (Deed → Type 0) → Asked Deed → Type 0
Yields P (Ok p) = P p.0
Yields P (Err pause) = ⊤

-- the step does not end the body of the interval's own frame
abbrev pub IsCalled : {program : Program} {used inside : ℕ → Type 0} {calls : Type 0} {closer : Todo} {home : ℕ}
    {fs gs : List Frame} {todo : List Todo} → Stacked program used inside calls closer home fs gs todo → Type 0
IsCalled (at_base f g fs gs todo same body first within) = ⊥
IsCalled (called f fs gs todo k end below) = ⊤

-- something stays to do in the interval's own frame
abbrev pub Rests : {program : Program} {used inside : ℕ → Type 0} {calls : Type 0} {closer : Todo} {home : ℕ}
    {fs gs : List Frame} {todo : List Todo} → Stacked program used inside calls closer home fs gs todo → Type 0
Rests (at_base f g fs gs todo same body first within) = IsLong todo
Rests (called f fs gs todo k end below) = ⊤

abbrev pub Stays : {program : Program} {used inside : ℕ → Type 0} {calls : Type 0} {closer : Todo} {home : ℕ}
    {fs gs : List Frame} {todo : List Todo} → Deed → Stacked program used inside calls closer home fs gs todo → Type 0
Stays (back value) x = IsCalled x
Stays finish x = ⊥
Stays (turn stmts) x = ⊤
Stays deed x = Rests x

-- the step of the head stays in the interval: a completion removes the head, any other step does its deed
abbrev pub StaysAt : {program : Program} {used inside : ℕ → Type 0} {calls : Type 0} {closer : Todo} {home : ℕ}
    {fs gs : List Frame} {todo : List Todo} → Option ℕ → Asked Deed
    → Stacked program used inside calls closer home fs gs todo → Type 0
StaysAt (Some chan) q x = Rests x
StaysAt None q x = Yields (λ d. Stays d x) q
