-- What the next step of a process needs, one constructor for each rule.
use Rattle.std.specs.Prelude.{◌≡◌, ◌↔◌, ℕ, suc, ◌+◌, ◌<◌, ◌≤◌, ℤ, List, [], ◌∷◌, length, Option, Some, None, Ok, Err, ⊤, unwrap_or}
use Rattle.ppd_ast.specs.declared.limits.TheConstants.{MOST_CALLS}
use Rattle.ppd_ast.specs.declared.plan.BlockKind.TheVariants as block
use Rattle.ppd_ast.specs.declared.plan.Plan.{Plan}
use Rattle.ppd_ast.specs.declared.plan.Start.TheVariants as start
use Rattle.ppd_ast.specs.declared.program.Program.{Program}
use Rattle.ppd_ast.specs.declared.status.Status.{Status}
use Rattle.ppd_ast.specs.declared.status.Trap.{Trap as TrapOf}
use Rattle.ppd_ast.specs.declared.status.Trap.TheVariants as trap
use Rattle.ppd_sem.specs.declared.asking.Pause.TheVariants.{Wants, Traps}
use Rattle.ppd_sem.specs.declared.proc.Need.{Need}
use Rattle.ppd_sem.specs.declared.proc.Need.TheVariants.{Read, Write, Plain, Enter, Leave, Invoke, Back, P, V, Send, Offer, Done, Recv, End, Trap, Budget, Stopped}
use Rattle.ppd_sem.specs.declared.proc.Proc.{Proc}
use Rattle.ppd_sem.specs.declared.proc.Todo.{Todo}
use Rattle.ppd_sem.specs.Deed.{Deed, set_local, set_shared, clear, branch, turn, leave, invoke, back, take, give, send, receive, print, pass, finish}
use Rattle.ppd_sem.specs.Process.{call_unit, cost, entry_of, head_deed, need_of, offer_of, top_frame}
use Rattle.ppd_sem.specs.Tables.{block_of, capacity_of, unit_of}

-- what is done in the frame alone
abbrev pub IsOwn : Deed → Type 0
IsOwn (set_local c v) = ⊤
IsOwn (clear base len) = ⊤
IsOwn (branch stmts) = ⊤
IsOwn (turn stmts) = ⊤
IsOwn (print v) = ⊤
IsOwn pass = ⊤
IsOwn deed = ⊥

-- ---- the statement at the head

module _ (program : Program) (plan : Plan) (s : Proc) (t : Todo) where
  -- it is evaluated: no offer of it was taken, and no block of it is yet to be entered
  pub record IsEvaluated : Type 0 where
    pub offer : offer_of program t ≡ None
    pub entry : entry_of program plan t ≡ None

  -- with the answers that are there it comes to this
  pub record Does (deed : Deed) : Type 0 where
    pub evaluated : IsEvaluated
    pub left : List ℤ
    pub is : head_deed program t s ≡ Ok (deed, left)

-- what it needs
pub data HeadNeeds (program : Program) (plan : Plan) (s : Proc) (t : Todo) : Need → Type 0 where
  -- a send whose offer was taken is completed
  completes : (chan : ℕ) → offer_of program t ≡ Some chan
      → HeadNeeds program plan s t (Done chan (unit_of plan (start.After t.stmt)))
  -- a loop that is a block is entered before its first test
  enters : (b : ℕ) → offer_of program t ≡ None → entry_of program plan t ≡ Some b
      → HeadNeeds program plan s t (Enter b (unit_of plan (start.Enter t.stmt)))
  -- a shared cell whose value is wanted is read
  reads : (cell : ℕ) → IsEvaluated program plan s t → head_deed program t s ≡ Err (Wants cell)
      → HeadNeeds program plan s t (Read cell)
  -- an expression has no value
  traps : (x : TrapOf) → IsEvaluated program plan s t → head_deed program t s ≡ Err (Traps x)
      → HeadNeeds program plan s t (Trap x)
  -- a shared cell is written
  writes : (c : ℕ) (v : ℤ) → Does program plan s t (set_shared c v) → HeadNeeds program plan s t (Write c v)
  -- a loop that is a block is left
  leaves : (b : ℕ) → Does program plan s t leave → block_of plan (block.Loop t.stmt) ≡ Some b
      → HeadNeeds program plan s t (Leave b (unit_of plan (start.Exit t.stmt)))
  -- another loop ends
  ends_loop : Does program plan s t leave → block_of plan (block.Loop t.stmt) ≡ None → HeadNeeds program plan s t Plain
  -- a call stands too deep
  calls_too_deep : (f : ℕ) (values : List ℤ) (into : Option ℕ) → Does program plan s t (invoke f values into)
      → MOST_CALLS < s.below + length s.frames → HeadNeeds program plan s t (Trap trap.Depth)
  -- a function is called
  calls : (f : ℕ) (values : List ℤ) (into : Option ℕ) → Does program plan s t (invoke f values into)
      → s.below + length s.frames ≤ MOST_CALLS
      → HeadNeeds program plan s t (Invoke (block_of plan (block.Function f)) (unit_of plan (start.Entry f)))
  -- the function of the top frame returns
  returns : (value : Option ℤ) → Does program plan s t (back value)
      → HeadNeeds program plan s t
      (Back (block_of plan (block.Function (top_frame s.frames).body)) (call_unit plan (top_frame s.frames).call))
  -- a semaphore is taken, or given
  takes : (sem : ℕ) → Does program plan s t (take sem)
      → HeadNeeds program plan s t (P sem (unit_of plan (start.After t.stmt)))
  gives : (sem : ℕ) → Does program plan s t (give sem)
      → HeadNeeds program plan s t (V sem (unit_of plan (start.After t.stmt)))
  -- a value is offered on a channel of capacity 0, or sent on another
  offers : (chan : ℕ) (v : ℤ) → Does program plan s t (send chan v) → capacity_of program chan ≡ 0
      → HeadNeeds program plan s t (Offer chan v)
  sends : (chan n : ℕ) (v : ℤ) → Does program plan s t (send chan v) → capacity_of program chan ≡ suc n
      → HeadNeeds program plan s t (Send chan v (unit_of plan (start.After t.stmt)))
  -- a value is received
  receives : (chan into : ℕ) → Does program plan s t (receive chan into)
      → HeadNeeds program plan s t (Recv chan (unit_of plan (start.After t.stmt)))
  -- the process comes to its closing brace
  ends_process : Does program plan s t finish
      → HeadNeeds program plan s t (End (unwrap_or (block_of plan (block.Process (top_frame s.frames).body)) 0))
  -- any other statement needs nothing but the process itself
  goes_on : (deed : Deed) → Does program plan s t deed → IsOwn deed → HeadNeeds program plan s t Plain

-- ---- the process

-- what its next step needs
pub data Needs (program : Program) (plan : Plan) (s : Proc) : Need → Type 0 where
  -- it has ended, or there is nothing left to do
  has_ended : (how : Status) → s.status ≡ Some how → Needs program plan s Stopped
  has_done_all : s.status ≡ None → s.todo ≡ [] → Needs program plan s Stopped
  -- the step costs more than is left
  too_dear : (t : Todo) (ts : List Todo) (need : Need) → s.status ≡ None → s.todo ≡ t ∷ ts
      → HeadNeeds program plan s t need → s.budget < s.spent + cost plan need → Needs program plan s Budget
  -- it can be paid for
  needs : (t : Todo) (ts : List Todo) (need : Need) → s.status ≡ None → s.todo ≡ t ∷ ts
      → HeadNeeds program plan s t need → s.spent + cost plan need ≤ s.budget → Needs program plan s need

-- ---- the law

-- what a process needs is so by these rules
abbrev pub NeedsFollowTheRules : Type 0
NeedsFollowTheRules = (program : Program) (plan : Plan) (s : Proc) (need : Need)
    → Needs program plan s need ↔ (need_of program plan s ≡ need)
