-- A process inside a nested block: what the block leaves alone in the frame in which it began.
use Rattle.std.specs.Prelude.{◌≡◌, ℕ, ◌+◌, ◌++◌, ◌<◌, Bool, true, false, List, [], ◌∷◌, length, Some, ⊤, ◌⊎◌, get_or, pos}
use Rattle.std.specs.List.{AllByRecursion as Each}
use Rattle.ppd_ast.specs.declared.program.Kind.{Kind}
use Rattle.ppd_ast.specs.declared.program.Kind.TheVariants.{Set, Zero, Call, Recv}
use Rattle.ppd_ast.specs.declared.program.Target.TheVariants as target
use Rattle.ppd_ast.specs.declared.program.Program.{Program}
use Rattle.ppd_ast.specs.Lookups.{kind_of}
use Rattle.ppd_sem.specs.declared.proc.Frame.{Frame}
use Rattle.ppd_sem.specs.declared.proc.Todo.{Todo}
use Rattle.ppd_sem.specs.declared.proc.Proc.{Proc}
use Rattle.ppd_sem.specs.Deed.{Deed, set_local, clear, back, receive, turn, finish}
use Rattle.ppd_sem.specs.Process.{into_of}
use Rattle.law_steps.specs.Beside.Relation.{IsListOf}
use Rattle.law_steps.proofs.Vocabulary.Relation.{HasEnd, IsLong, IsOwnTodo, past_body}

-- the local cells that a statement of this kind writes are some of these
abbrev pub IsWriting : (ℕ → Type 0) → Kind → Type 0
IsWriting written (Set (target.Local c) e) = written c
IsWriting written (Set (target.LocalAt base len i) e) = (k : ℕ) → k < len → written (base + k)
IsWriting written (Zero base len) = (k : ℕ) → k < len → written (base + k)
IsWriting written (Call f arguments into) = (c : ℕ) → into ≡ Some c → written c
IsWriting written (Recv chan into) = written into
IsWriting written k = ⊤

abbrev pub MayWrite : (ℕ → Type 0) → Deed → Type 0
MayWrite written (set_local c v) = written c
MayWrite written (clear base len) = (k : ℕ) → k < len → written (base + k)
MayWrite written (receive chan into) = written into
MayWrite written deed = ⊤

pub record IsWritingBlock (program : Program) (written inside : ℕ → Type 0) : Type 0 where
  pub writes : (s : ℕ) → inside s → IsWriting written (kind_of program s)
  pub within : (s : ℕ) → inside s → (stmts : List ℕ) → IsListOf (kind_of program s) stmts → Each inside stmts

-- the frame as it was but for these cells
pub record IsKeptBut (written : ℕ → Type 0) (f g : Frame) : Type 0 where
  pub body : g.body ≡ f.body
  pub call : g.call ≡ f.call
  pub lengths : length g.cells ≡ length f.cells
  pub values : (c : ℕ) → (written c → ⊥) → get_or g.cells c (pos 0) ≡ get_or f.cells c (pos 0)

-- what the call that made the frame receives into is some of these
abbrev pub IsReceiving : Program → (ℕ → Type 0) → Frame → Type 0
IsReceiving program written f = (s c : ℕ) → f.call ≡ Some s → into_of (kind_of program s) ≡ Some c → written c

-- the frames of a process that is in a block which began in `base` above `below`, with what is to do
-- in the block; the Bool says whether the block has called
pub data Held (program : Program) (written inside : ℕ → Type 0) (closer : Todo) (base : Frame)
    (below : List Frame) : Bool → List Frame → List Todo → Type 0 where
  own : (f : Frame) (todo : List Todo) → IsKeptBut written base f → IsOwnTodo inside closer todo
      → Held program written inside closer base below false (f ∷ below) todo
  called : (b : Bool) (f : Frame) (fs : List Frame) (todo : List Todo) → (b ≡ false → IsReceiving program written f)
      → HasEnd program todo → Held program written inside closer base below b fs (past_body program todo)
      → Held program written inside closer base below true (f ∷ fs) todo

-- the step does not end the body of the block's own frame
abbrev pub StaysIn : Bool → List Todo → Deed → Type 0
StaysIn b todo (back value) = b ≡ true
StaysIn b todo finish = ⊥
StaysIn b todo (turn stmts) = ⊤
StaysIn b todo deed = b ≡ false → IsLong todo

-- a process in the block, before what is to do after it
pub record IsIn (program : Program) (written inside : ℕ → Type 0) (closer : Todo) (base : Frame) (below : List Frame)
    (outside : List Todo) (s : Proc) : Type 0 where
  pub has_called : Bool
  pub todo : List Todo
  pub todo_is : s.todo ≡ todo ++ outside
  pub frames : Held program written inside closer base below has_called s.frames todo

-- one of these cells
abbrev pub Among : List ℕ → ℕ → Type 0
Among [] d = ⊥
Among (c ∷ cs) d = (d ≡ c) ⊎ Among cs d
