-- What a process does by levels, the innermost first: its own body, the functions that are blocks, a function that is
-- none, and block loops; each with its interval as the search sees it, and the tests of its activation.
use Rattle.std.proofs.Common.{◌≡◌, ℕ, suc, ◌+◌, ◌<◌, Bool, true, false, ◌⊎◌, List, [], ◌∷◌, ◌++◌, Option, Some, None, length}
use Rattle.std.specs.Prelude.{⊤, drop, is_some, slice_get, option_and_then}
use Rattle.ppd_ast.specs.declared.plan.BlockKind.{BlockKind}
use Rattle.ppd_ast.specs.declared.plan.BlockKind.TheVariants as block
use Rattle.ppd_ast.specs.declared.plan.Policy.{Policy}
use Rattle.ppd_ast.specs.declared.program.Program.{Program}
use Rattle.ppd_ast.specs.Numbered.{is_while}
use Rattle.ppd_ast.specs.Lookups.{kind_of, body_of}
use Rattle.ppd_blocks.specs.Blocks.{plan_of}
use Rattle.ppd_sem.specs.declared.event.Event.{Event}
use Rattle.ppd_sem.specs.declared.proc.Todo.{Todo}
use Rattle.ppd_sem.specs.Runs.{returns}
use Rattle.ppd_sem.specs.Tables.{block_of}
use Rattle.ppd_blocks.specs.Walk.{stands_in}
use Rattle.ppd_model.specs.declared.trace.EventId.{EventId}
use Rattle.ppd_model.specs.declared.tracing.Test.{Test}
use Rattle.ppd_model.specs.FullTrace.{latest}
use Rattle.ppd_model.specs.Parents.{is_choice}
use Rattle.ppd_model.proofs.TestSteps.{View}
use Rattle.ppd_graph.specs.declared.last_test.LastTest.{LastTest}
use Rattle.ppd_graph.specs.declared.leaf_call.LeafCall.{LeafCall}
use Rattle.law_flow.proofs.Control.Sights.{Sign, leaf_over, tests_over}
use Rattle.law_flow.proofs.Control.Statics.{Calm, Free, IsBlockLoop}

-- ---- what there is

-- a running interval: its number, what it is the code of, its place in the interval round it, and its items so far
pub record Run : Type 0 where
  pub number : ℕ
  pub kind : BlockKind
  pub place : ℕ
  pub sight : List Sign

pub data Sort : Type 0 where
  process : Sort
  function : Sort
  leaf : Sort
  loop : ℕ → Sort

-- a level: its body, its interval, its activation, and what is to do in it, with what ends it
pub record Level : Type 0 where
  pub sort : Sort
  pub body : ℕ
  pub run : Run
  pub view : View
  pub todo : List Todo
  pub last : List Todo

-- the frame in the interval
abbrev pub frame_of : Sort → ℕ
frame_of leaf = 1
frame_of s = 0

-- an activation without an interval is in that of its caller
abbrev pub runs_with : Sort → Run → List Run → List Run
runs_with leaf r rs = r ∷ drop 1 rs
runs_with s r rs = r ∷ rs

-- a loop is in the activation round it
abbrev pub views_with : Sort → View → List View → List View
views_with (loop l) v vs = v ∷ drop 1 vs
views_with s v vs = v ∷ vs

abbrev pub runs_of : List Level → List Run
runs_of [] = []
runs_of (x ∷ xs) = runs_with x.sort x.run (runs_of xs)

abbrev pub views_of : List Level → List View
views_of [] = []
views_of (x ∷ xs) = views_with x.sort x.view (views_of xs)

abbrev pub todo_of : List Level → List Todo
todo_of [] = []
todo_of (x ∷ xs) = x.todo ++ (x.last ++ todo_of xs)

-- the test passed
abbrev pub passes : Option Test → Bool
passes None = false
passes (Some y) = y.passed

-- one of these is statement s
abbrev pub Has : ℕ → List Todo → Type 0
Has s [] = ⊥
Has s (t ∷ ts) = (t.stmt ≡ s) ⊎ Has s ts

module _ (program : Program) (policy : Policy) (p : ℕ) where
  -- ---- what is known of a statement

  -- the test that is found among these items is the latest one of the activation
  pub record Met (frame : ℕ) (sight : List Sign) (v : View) (o : ℕ) : Type 0 where
    pub found : LastTest
    pub found_is : tests_over program (plan_of program policy) frame o sight ≡ Some found
    pub test : Test
    pub test_is : latest o v.1 ≡ Some test
    pub event : Event
    pub there : slice_get sight found.item ≡ Some (Some (test.event.number, event))
    pub process_is : test.event.process ≡ p
    pub passed_is : test.passed ≡ found.passed

  abbrev pub IsUnfound : ℕ → List Sign → ℕ → Type 0
  IsUnfound frame sight s = tests_over program (plan_of program policy) frame s sight ≡ None

  -- outside loops the search finds all tests
  abbrev pub Agrees : ℕ → List Sign → View → ℕ → Type 0
  Agrees frame sight v s = (IsUnfound frame sight s × (latest s v.1 ≡ None)) ⊎ Met frame sight v s

  -- a level that is no loop's
  pub record Plain (frame body : ℕ) (sight : List Sign) (v : View) : Type 0 where
    pub free : (s : ℕ) → body_of program s ≡ body → is_choice (kind_of program s) ≡ true → Free program policy s
        → Agrees frame sight v s
    pub unfound : (l : ℕ) → body_of program l ≡ body → IsBlockLoop program policy l → IsUnfound frame sight l
    -- no run of a `while` in a block loop goes on
    pub quiet : (s l : ℕ) → is_while (kind_of program s) ≡ true → IsBlockLoop program policy l
        → stands_in program s l ≡ true → passes (latest s v.1) ≡ false

  -- the level of loop l
  pub record Looping (l body : ℕ) (sight : List Sign) (v : View) (todo : List Todo) : Type 0 where
    pub met : (s : ℕ) → body_of program s ≡ body → is_choice (kind_of program s) ≡ true → IsUnfound 0 sight s
        ⊎ Met 0 sight v s
    pub quiet : (s : ℕ) → body_of program s ≡ body → is_while (kind_of program s) ≡ true → stands_in program s l ≡ true
        → IsUnfound 0 sight s → passes (latest s v.1) ≡ false
    -- a run that goes on is of a `while` that is still to do
    pub runs : (s : ℕ) → is_while (kind_of program s) ≡ true → stands_in program s l ≡ true → (s ≡ l → ⊥)
        → passes (latest s v.1) ≡ true → Has s todo

  abbrev pub Knows : Sort → ℕ → List Sign → View → List Todo → Type 0
  Knows (loop l) body sight v todo = Looping l body sight v todo
  Knows s body sight v todo = Plain (frame_of s) body sight v

  -- where a statement of the level stands, and the one round it
  abbrev pub StandsAt : Sort → ℕ → Type 0
  StandsAt (loop l) s = (stands_in program s l ≡ true) × (s ≡ l → ⊥)
  StandsAt s i = Calm program policy i

  abbrev pub OuterAt : Sort → ℕ → Type 0
  OuterAt (loop l) o = ⊤
  OuterAt s o = Free program policy o

  -- the statement round statement s was tested in the level
  pub record Outer (sort : Sort) (body : ℕ) (sight : List Sign) (v : View) (o : ℕ) : Type 0 where
    pub home : body_of program o ≡ body
    pub choice : is_choice (kind_of program o) ≡ true
    pub stands : OuterAt sort o
    pub met : Met (frame_of sort) sight v o

  -- a statement that is to do in the level
  pub record Fact (sort : Sort) (body : ℕ) (sight : List Sign) (v : View) (s : ℕ) : Type 0 where
    pub home : body_of program s ≡ body
    pub stands : StandsAt sort s
    pub outer : (o : ℕ) → option_and_then (λ x. x.parent) (slice_get program.stmts s) ≡ Some o → Outer sort body sight v o

  -- and is neither entered nor a return
  abbrev pub Facts : Sort → ℕ → List Sign → View → List Todo → Type 0
  Facts sort body sight v [] = ⊤
  Facts sort body sight v (t ∷ ts) =
      (Fact sort body sight v t.stmt × ((returns (kind_of program t.stmt) ≡ false) × (t.entered ≡ false)))
      × Facts sort body sight v ts

  -- ---- what is known of a level over the one below it

  -- event n of the process is the call
  abbrev pub IsCall : Option EventId → ℕ → Type 0
  IsCall call n = call ≡ Some (record { process = p; number = n })

  -- the block of a function whose call stands straight before it
  pub record OfFunction (body : ℕ) (kind : BlockKind) (place : ℕ) (call : Option EventId) (y : Level) : Type 0 where
    pub function : ℕ
    pub kind_is : kind ≡ block.Function function
    pub before : List Sign
    pub number : ℕ
    pub event : Event
    pub called : IsCall call number
    pub sight_is : y.run.sight ≡ (before ++ Some (number, event) ∷ []) ++ None ∷ []
    pub place_is : place ≡ suc (length before)
    pub no_leaf : leaf_over program (plan_of program policy) y.run.sight ≡ None
    pub frame_is : frame_of y.sort ≡ 0
    pub is_block : is_some (block_of (plan_of program policy) (block.Function body)) ≡ true

  -- a call without an interval; what was seen of the caller is still seen
  pub record OfLeaf (body : ℕ) (r : Run) (made : Option EventId) (y : Level) : Type 0 where
    pub call : LeafCall
    pub leaf_is : leaf_over program (plan_of program policy) r.sight ≡ Some call
    pub number : ℕ
    pub event : Event
    pub there : slice_get r.sight call.item ≡ Some (Some (number, event))
    pub called : IsCall made number
    pub frame_is : frame_of y.sort ≡ 0
    pub number_is : r.number ≡ y.run.number
    pub kind_is : r.kind ≡ y.run.kind
    pub place_is : r.place ≡ y.run.place
    pub longer : (j : ℕ) (q : Sign) → slice_get y.run.sight j ≡ Some q → slice_get r.sight j ≡ Some q
    pub same : (s : ℕ) → body_of program s ≡ y.body → is_choice (kind_of program s) ≡ true
        → tests_over program (plan_of program policy) 0 s r.sight ≡ tests_over program
        (plan_of program policy) 0 s y.run.sight
    pub other : body ≡ y.body → ⊥
    pub no_block : block_of (plan_of program policy) (block.Function body) ≡ None
    pub low : body < program.functions

  -- a loop over the level that is no loop's; what was tested outside it is still so
  pub record OfLoop (l body : ℕ) (kind : BlockKind) (place : ℕ) (v : View) (y : Level) : Type 0 where
    pub is_loop : IsBlockLoop program policy l
    pub kind_is : kind ≡ block.Loop l
    pub body_is : body ≡ y.body
    pub home : body_of program l ≡ body
    pub before : List Sign
    pub sight_is : y.run.sight ≡ before ++ None ∷ []
    pub place_is : place ≡ length before
    pub call_is : v.0 ≡ y.view.0
    pub same : (s : ℕ) → stands_in program s l ≡ false → latest s v.1 ≡ latest s y.view.1
    pub fact : Fact y.sort y.body y.run.sight y.view l
    pub no_leaf : frame_of y.sort ≡ 0 → leaf_over program (plan_of program policy) y.run.sight ≡ None
    pub not_loop : (m : ℕ) → y.sort ≡ loop m → ⊥

  -- what ends a level: a return, or the loop, entered
  abbrev pub EndsWith : Sort → ℕ → List Sign → View → List Todo → Type 0
  EndsWith process body sight v last = last ≡ []
  EndsWith (loop l) body sight v last = (t : Todo) × (last ≡ t ∷ []) × (t.stmt ≡ l) × (t.entered ≡ true)
  EndsWith s body sight v last = (t : Todo) × (last ≡ t ∷ []) × (returns (kind_of program t.stmt) ≡ true)
      × (t.entered ≡ false) × Fact s body sight v t.stmt

  abbrev pub OverNext : Sort → Level → List Level → Type 0
  OverNext process x ys = (ys ≡ []) × (x.run.kind ≡ block.Process (program.functions + p)) × (x.view.0 ≡ None)
  OverNext function x [] = ⊥
  OverNext function x (y ∷ ys) = OfFunction x.body x.run.kind x.run.place x.view.0 y
  OverNext leaf x [] = ⊥
  OverNext leaf x (y ∷ ys) = OfLeaf x.body x.run x.view.0 y
  OverNext (loop l) x [] = ⊥
  OverNext (loop l) x (y ∷ ys) = OfLoop l x.body x.run.kind x.run.place x.view y

  pub record Holds (x : Level) (ys : List Level) : Type 0 where
    pub knows : Knows x.sort x.body x.run.sight x.view x.todo
    pub facts : Facts x.sort x.body x.run.sight x.view x.todo
    pub ends : EndsWith x.sort x.body x.run.sight x.view x.last
    pub over : OverNext x.sort x ys

  -- so it is with each level
  abbrev pub AllHold : List Level → Type 0
  AllHold [] = ⊤
  AllHold (x ∷ xs) = Holds x xs × AllHold xs

  -- no activation without an interval goes on where the top level is none
  abbrev pub TopLeaf : List Level → Type 0
  TopLeaf [] = ⊤
  TopLeaf (x ∷ xs) = frame_of x.sort ≡ 0 → leaf_over program (plan_of program policy) x.run.sight ≡ None
