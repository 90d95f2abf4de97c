-- What a process has to do lies along the flow graph, and where each step leads it there.
use Rattle.ppd_ast.specs.Lookups.{body_numbered, kind_of}
use Rattle.ppd_ast.specs.Members.{has}
use Rattle.ppd_ast.specs.Numbered.{is_left, is_while}
use Rattle.ppd_ast.specs.declared.plan.BlockKind.TheVariants.{Loop}
use Rattle.ppd_ast.specs.declared.plan.Plan.{Plan}
use Rattle.ppd_ast.specs.declared.plan.Start.{Start}
use Rattle.ppd_ast.specs.declared.plan.Start.TheVariants.{After, Enter as EntersAt, Entry, Exit}
use Rattle.ppd_ast.specs.declared.program.Kind.TheVariants as ends
use Rattle.ppd_ast.specs.declared.program.Program.{Program}
use Rattle.ppd_blocks.specs.Walk.{stands_in}
use Rattle.ppd_sets.specs.Flow.{follow, next_of}
use Rattle.ppd_sem.specs.Passed.{next_stmt_of}
use Rattle.ppd_sem.specs.Runs.{returns}
use Rattle.ppd_sem.specs.Tables.{block_of, unit_of}
use Rattle.ppd_sem.specs.declared.proc.Frame.{Frame}
use Rattle.ppd_sem.specs.declared.proc.Need.{Need}
use Rattle.ppd_sem.specs.declared.proc.Need.TheVariants.{Back, Budget, Done, End, Enter, Invoke, Leave, Offer, P, Plain, Read, Recv, Send, Stopped, Trap, V, Write}
use Rattle.ppd_sem.specs.declared.proc.Proc.{Proc}
use Rattle.ppd_sem.specs.declared.proc.Todo.{Todo}
use Rattle.std.specs.Prelude.{Bool, IsSome, IsTrue, List, None, Option, Some, [], false, map, slice_get, true, ℕ, ⊤, ◌∷◌, ◌≡◌}

-- ---- a way along the flow graph

-- the calls that began the frames, the top one first
abbrev pub calls_of : List Frame → List (Option ℕ)
calls_of frames = map (λ f. f.call) frames

-- the call that began the top frame, if there is one
abbrev pub top_call_of : List (Option ℕ) → Option ℕ
top_call_of [] = None
top_call_of (c ∷ cs) = c

-- the calls that are left after a statement, which may return
abbrev pub calls_left : (is_return : Bool) → List (Option ℕ) → List (Option ℕ)
calls_left false calls = calls
calls_left true [] = []
calls_left true (c ∷ cs) = cs

-- the statement behind which the process goes on after statement s: s itself, and where it returns the call
-- that began its frame
abbrev pub behind : (is_return : Bool) → ℕ → List (Option ℕ) → Option ℕ
behind false s calls = Some s
behind true s calls = top_call_of calls

-- what follows the statement, if there is one
abbrev pub follow_if : Program → Option ℕ → Option ℕ
follow_if program None = None
follow_if program (Some s) = follow program s

-- the first of these, where it is a block loop, is marked as entered just where statement s stands in it
abbrev pub IsMarkedBehind : Program → Plan → (s : Option ℕ) → List Todo → Type 0
IsMarkedBehind program plan None ts = ⊤
IsMarkedBehind program plan (Some s) [] = ⊤
IsMarkedBehind program plan (Some s) (t ∷ ts) =
    (b : ℕ) → block_of plan (Loop t.stmt) ≡ Some b → t.entered ≡ stands_in program s t.stmt

-- these are to do behind statement s: first what follows it
pub record IsBehind (program : Program) (plan : Plan) (s : Option ℕ) (todo : List Todo) : Type 0 where
  pub follows : next_stmt_of todo ≡ follow_if program s
  pub marks : IsMarkedBehind program plan s todo

-- each statement that is to do is followed by what follows it, or by what follows the call where it returns
abbrev pub IsWay : Program → Plan → (calls : List (Option ℕ)) → List Todo → Type 0
IsWay program plan calls [] = ⊤
IsWay program plan calls (t ∷ ts) =
    IsBehind program plan (behind (returns (kind_of program t.stmt)) t.stmt calls) ts
    × IsWay program plan (calls_left (returns (kind_of program t.stmt)) calls) ts

-- what the process has to do is a way along the flow graph
abbrev pub IsOnCourse : Program → Plan → Proc → Type 0
IsOnCourse program plan s = IsWay program plan (calls_of s.frames) s.todo

-- ---- where a step leads

-- the process goes on at the first of this list, which is not entered yet
pub record BeginsList (list : List ℕ) (todo : List Todo) : Type 0 where
  pub first : next_stmt_of todo ≡ slice_get list 0
  pub unmarked : (t : Todo) (ts : List Todo) → todo ≡ t ∷ ts → t.entered ≡ false

-- the step goes from statement s to its successor t, with no start of a unit after s; t, where it is a block
-- loop, is marked as entered just where s stands in it; and a block loop s is not left
pub record GoesAlong (program : Program) (plan : Plan) (s : ℕ) (t : Todo) : Type 0 where
  pub next : IsTrue (has (next_of program s) t.stmt)
  pub same_unit : is_left (kind_of program s) ≡ false
  pub marks : (b : ℕ) → block_of plan (Loop t.stmt) ≡ Some b → t.entered ≡ stands_in program s t.stmt
  pub inside : (b : ℕ) → is_while (kind_of program s) ≡ true → block_of plan (Loop s) ≡ Some b
      → stands_in program t.stmt s ≡ true

-- the same, if the process still has something to do
abbrev pub GoesOn : Program → Plan → ℕ → List Todo → Type 0
GoesOn program plan s todo = (t : Todo) (ts : List Todo) → todo ≡ t ∷ ts → GoesAlong program plan s t

-- the step enters the block loop s, which stays the head: unit u starts
pub record EntersLoop (plan : Plan) (s b u : ℕ) (before after : List Todo) : Type 0 where
  pub head : Todo
  pub rest : List Todo
  pub before_is : before ≡ head ∷ rest
  pub after_is : after ≡ (record head { entered = true }) ∷ rest
  pub stmt_is : head.stmt ≡ s
  pub unmarked : head.entered ≡ false
  pub block_is : block_of plan (Loop s) ≡ Some b
  pub unit_is : u ≡ unit_of plan (EntersAt s)

-- the step offers what the send s sends, which stays the head: no unit starts
pub record OffersSend (s : ℕ) (before after : List Todo) : Type 0 where
  pub head : Todo
  pub rest : List Todo
  pub before_is : before ≡ head ∷ rest
  pub after_is : after ≡ (record head { offered = true }) ∷ rest
  pub stmt_is : head.stmt ≡ s

-- the process goes on behind statement s, where unit u starts, by this start
pub record StartsBehind (program : Program) (plan : Plan) (s : ℕ) (start : Start) (u : ℕ)
    (todo : List Todo) : Type 0 where
  pub goes : IsBehind program plan (Some s) todo
  pub unit_is : u ≡ unit_of plan start

-- the process goes on at the first statement of the function that it calls, where unit u starts
pub record StartsFunction (program : Program) (plan : Plan) (u : ℕ) (todo : List Todo) : Type 0 where
  pub function : ℕ
  pub goes : BeginsList (body_numbered program function).top todo
  pub unit_is : u ≡ unit_of plan (Entry function)

-- the process goes on behind the call of the frame that returned, where a unit starts, if there is a call
abbrev pub ReturnsBehind : Program → Plan → (call unit : Option ℕ) → List Todo → Type 0
ReturnsBehind program plan None None todo = todo ≡ []
ReturnsBehind program plan None (Some u) todo = ⊥
ReturnsBehind program plan (Some c) None todo = ⊥
ReturnsBehind program plan (Some c) (Some u) todo = StartsBehind program plan c (After c) u todo

-- where a step with this need leads a process whose head is statement s, in a frame that this call began
abbrev pub LeadsTo : Program → Plan → Need → (s : ℕ) → (call : Option ℕ) → (before after : Proc) → Type 0
LeadsTo program plan (Read c) s call before after = after.todo ≡ before.todo
LeadsTo program plan (Write c v) s call before after = GoesOn program plan s after.todo
LeadsTo program plan Plain s call before after = GoesOn program plan s after.todo
LeadsTo program plan (Enter b u) s call before after = EntersLoop plan s b u before.todo after.todo
LeadsTo program plan (Leave b u) s call before after = StartsBehind program plan s (Exit s) u after.todo
LeadsTo program plan (Invoke b u) s call before after = StartsFunction program plan u after.todo
LeadsTo program plan (Back b unit) s call before after = ReturnsBehind program plan call unit after.todo
LeadsTo program plan (P sem u) s call before after = StartsBehind program plan s (After s) u after.todo
LeadsTo program plan (V sem u) s call before after = StartsBehind program plan s (After s) u after.todo
LeadsTo program plan (Send chan v u) s call before after = StartsBehind program plan s (After s) u after.todo
LeadsTo program plan (Offer chan v) s call before after = OffersSend s before.todo after.todo
LeadsTo program plan (Done chan u) s call before after = StartsBehind program plan s (After s) u after.todo
LeadsTo program plan (Recv chan u) s call before after = StartsBehind program plan s (After s) u after.todo
LeadsTo program plan (End b) s call before after = IsSome after.status
LeadsTo program plan (Trap t) s call before after = IsSome after.status
LeadsTo program plan Budget s call before after = IsSome after.status
LeadsTo program plan Stopped s call before after = after ≡ before

-- ---- until the end

-- the last statement that is to do is an `End`
abbrev pub EndsWithEnd : Program → List Todo → Type 0
EndsWithEnd program [] = ⊥
EndsWithEnd program (t ∷ []) = kind_of program t.stmt ≡ ends.End
EndsWithEnd program (t ∷ u ∷ us) = EndsWithEnd program (u ∷ us)

-- the process has stopped, or goes on until an `End`
abbrev pub GoesUntilEnd : Program → Proc → Type 0
GoesUntilEnd program s = s.status ≡ None → EndsWithEnd program s.todo
