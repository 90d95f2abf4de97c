-- One step of a statement that is to do in the top level.
use Rattle.std.proofs.Common.{◌≡◌, ℕ, true, List, [], ◌∷◌, ◌++◌, Option, Some, None, refl, ap, sym, ◌∙◌, true≢false, append_assoc}
use Rattle.ppd_ast.specs.Valid.{IsValid}
use Rattle.ppd_ast.specs.declared.plan.BlockKind.TheVariants as block
use Rattle.ppd_ast.specs.declared.plan.Policy.{Policy}
use Rattle.ppd_ast.specs.declared.program.Program.{Program}
use Rattle.ppd_ast.specs.Lookups.{kind_of, body_of, body_numbered}
use Rattle.law_steps.specs.Beside.Relation.{IsCallOf}
use Rattle.ppd_blocks.specs.Blocks.{plan_of}
use Rattle.ppd_sem.specs.declared.event.Event.{Event}
use Rattle.ppd_sem.specs.declared.proc.Need.{Need}
use Rattle.ppd_sem.specs.declared.proc.Need.TheVariants as need
use Rattle.ppd_sem.specs.declared.proc.Proc.{Proc}
use Rattle.ppd_sem.specs.declared.proc.Todo.{Todo}
use Rattle.ppd_sem.specs.Described.{trap_of, is_event}
use Rattle.ppd_sem.specs.Process.{todos, top_frame}
use Rattle.ppd_sem.specs.Tables.{block_of}
use Rattle.ppd_model.specs.FullTrace.{is_passed}
use Rattle.ppd_model.specs.Marks.{closed, opened}
use Rattle.ppd_model.proofs.Homes.{AreTop as AreTopOf}
use Rattle.ppd_model.proofs.Moves.{AreTop}
use Rattle.ppd_model.proofs.TestSteps.{View}
use Rattle.law_flow.proofs.Control.Levels.{AllHold, Holds, Level, Run, TopLeaf, runs_of, todo_of, views_of}
use Rattle.law_flow.proofs.Control.AtLevel.{me_of}
use Rattle.law_flow.proofs.Control.Moved.{Moved, add, begun, ended, owned, tested}
use Rattle.law_flow.proofs.Control.InLevel.{choosing, offering, passing, stopping, turning}
use Rattle.law_flow.proofs.Control.NewLevels.{calls_block, calls_leaf}
use Rattle.law_flow.proofs.Control.Entering.{enters_loop}
use Rattle.law_flow.proofs.Control.Steps.{IsOwn, IsQuiet, Step, backs, calls, chooses, enters, leaves, offers, passes, reads, stops, turns, value_in}

module _ (program : Program) (policy : Policy) (p : ℕ) (v : IsValid program) (s : Proc) (n number : ℕ) (e : Event)
    (m : Need) where
  -- the event of a step of head t
  pub record EventOf (t : Todo) : Type 0 where
    pub is : e.stmt ≡ t.stmt
    pub trap_is : e.trap ≡ trap_of m
    pub value_is : e.value ≡ value_in program s t m
    pub home : (top_frame s.frames).body ≡ body_of program t.stmt

  -- the running intervals after the step
  abbrev pub runs_after : List Run → List Run
  runs_after rs = begun (plan_of program policy) number (opened program (plan_of program policy) s m)
      (ended (closed program (plan_of program policy) s m) (owned (is_event m) n e rs))

  -- the step of a process that has these to do
  abbrev pub Given : List View → List Todo → List View → List Todo → Type 0
  Given old todo now [] = ⊥
  Given old todo now (t ∷ ts) = Step program (plan_of program policy) s t ts (Some (me_of program policy p n)) old
      (tested program (me_of program policy p n) e old) m todo now × EventOf t

  pub quiet_runs : (rs : List Run) → IsQuiet program (plan_of program policy) s m → runs_after rs ≡ rs
  quiet_runs rs q =
      ap (λ o. begun (plan_of program policy) number o
      (ended (closed program (plan_of program policy) s m) (owned (is_event m) n e rs))) q.1
      ∙ ap (λ o. ended o (owned (is_event m) n e rs)) q.2
      ∙ ap (λ b. owned b n e rs) q.0

  pub own_runs : (rs : List Run) → IsOwn program (plan_of program policy) s m → runs_after rs ≡ add (Some (n, e)) rs
  own_runs rs q =
      ap (λ o. begun (plan_of program policy) number o
      (ended (closed program (plan_of program policy) s m) (owned (is_event m) n e rs))) q.1
      ∙ ap (λ o. ended o (owned (is_event m) n e rs)) q.2
      ∙ ap (λ b. owned b n e rs) q.0

  -- what is then to do, the activations and the intervals by equations
  pub put : (todo todo2 : List Todo) (now now2 : List View) (runs runs2 : List Run) → todo ≡ todo2 → now ≡ now2
      → runs ≡ runs2 → Moved program policy p todo2 now2 runs2 → Moved program policy p todo now runs
  put todo todo2 now now2 runs runs2 a b c h = record {
    levels = h.levels;
    hold = h.hold;
    leaf = h.leaf;
    todo_is = a ∙ h.todo_is;
    now_is = b ∙ h.now_is;
    runs_is = c ∙ h.runs_is;
  }

  pub by_need : (m' : Need) → m ≡ m' → (rs : List Run)
      → runs_after rs ≡ begun (plan_of program policy) number (opened program (plan_of program policy) s m')
      (ended (closed program (plan_of program policy) s m') (owned (is_event m') n e rs))
  by_need m' is rs = ap (λ z. begun (plan_of program policy) number (opened program (plan_of program policy) s z)
      (ended (closed program (plan_of program policy) s z) (owned (is_event z) n e rs))) is

  module _ (todo : List Todo) (now : List View) where
    abbrev pub To : List Level → Type 0
    To levels = Moved program policy p todo now (runs_after (runs_of levels))

    pub same : (levels : List Level) → AllHold program policy p levels → TopLeaf program policy p levels
        → IsQuiet program (plan_of program policy) s m → todo ≡ todo_of levels → now ≡ views_of levels → To levels
    same levels hold top q a b = record {
      levels = levels;
      hold = hold;
      leaf = top;
      todo_is = a;
      now_is = b;
      runs_is =
          quiet_runs (runs_of levels) q;
    }

    -- ---- a statement of the level

    module _ (x : Level) (xs : List Level) (t : Todo) (ys : List Todo)
        (h : Holds program policy p (record x { todo = t ∷ ys }) xs) (hs : AllHold program policy p xs)
        (top : TopLeaf program policy p (record x { todo = t ∷ ys } ∷ xs)) (ev : EventOf t) where
      abbrev pub here : List Level
      here = record x { todo = t ∷ ys } ∷ xs

      abbrev pub rest : List Todo
      rest = ys ++ (x.last ++ todo_of xs)

      pub fine : trap_of m ≡ None → e.trap ≡ None
      fine none = ev.trap_is ∙ none

      pub calling : (f u : ℕ) (o : Option ℕ) → block_of (plan_of program policy) (block.Function f) ≡ o
          → m ≡ need.Invoke o u → IsCallOf (kind_of program t.stmt) f
          → AreTop program (body_numbered program f).top
          → AreTopOf program f (body_numbered program f).top
          → todo ≡ todos (body_numbered program f).top ++ rest
          → now ≡ (Some (me_of program policy p n), []) ∷ tested program (me_of program policy p n) e (views_of here)
          → To here
      calling f u None at is call tops homes a b =
          put todo _ now _ (runs_after (runs_of here)) (add (Some (n, e)) (runs_of here)) a b
          (by_need (need.Invoke None u) is (runs_of here))
          (calls_leaf program policy p v x xs t ys h hs top n e ev.is (fine (ap trap_of is)) f call tops homes at)
      calling f u (Some b') at is call tops homes a b =
          put todo _ now _ (runs_after (runs_of here)) _ a b (by_need (need.Invoke (Some b') u) is (runs_of here))
          (calls_block program policy p v x xs t ys h hs top n e ev.is
          (fine (ap trap_of is)) f call tops homes b' number at)

      pub in_level : Step program (plan_of program policy) s t rest (Some (me_of program policy p n)) (views_of here)
          (tested program (me_of program policy p n) e (views_of here)) m todo now → To here
      in_level (reads q a b) = same here (h, hs) top q a b
      in_level (enters b u is unmarked some w a c) =
          put todo _ now _ (runs_after (runs_of here)) _ a c (by_need (need.Enter b u) is (runs_of here))
          (enters_loop program policy p v x xs t ys h hs top b number some)
      in_level (offers q simple a b) =
          put todo _ now _ (runs_after (runs_of here)) (add (Some (n, e)) (runs_of here)) a b
          (own_runs (runs_of here) q)
          (offering program policy p v x xs t ys n e ev.is (fine q.3) h hs top
          (record t { offered = true }) refl refl simple)
      in_level (passes q simple a b) =
          put todo _ now _ (runs_after (runs_of here)) (add (Some (n, e)) (runs_of here)) a b
          (own_runs (runs_of here) q) (passing program policy p v x xs t ys n e ev.is (fine q.3) h hs top simple)
      in_level (stops q w none fails a b) =
          put todo _ now _ (runs_after (runs_of here)) (add (Some (n, e)) (runs_of here)) a b
          (own_runs (runs_of here) q)
          (stopping program policy p v x xs t ys n e ev.is (fine q.3) h hs top w none
          (ap is_passed ev.value_is ∙ fails))
      in_level (leaves b u is marked w some fails a c) = absurd (true≢false (sym marked ∙ h.facts.0.1.1))
      in_level (chooses stmts q choice isnt inside a b) =
          put todo ((todos stmts ++ ys) ++ (x.last ++ todo_of xs)) now _ (runs_after (runs_of here))
          (add (Some (n, e)) (runs_of here)) (a ∙ sym (append_assoc (todos stmts) ys (x.last ++ todo_of xs))) b
          (own_runs (runs_of here) q)
          (choosing program policy p v x xs t ys n e ev.is (fine q.3) h hs top stmts choice isnt inside)
      in_level (turns stmts q w entered inside a b) =
          put todo ((todos stmts ++ t ∷ ys) ++ (x.last ++ todo_of xs)) now _ (runs_after (runs_of here))
          (add (Some (n, e)) (runs_of here))
          (a ∙ sym (append_assoc (todos stmts) (t ∷ ys) (x.last ++ todo_of xs))) b (own_runs (runs_of here) q)
          (turning program policy p v x xs t ys n e ev.is (fine q.3) h hs top stmts w (entered h.facts.0.1.1) inside)
      in_level (calls f u is call tops homes a b) = calling f u
          (block_of (plan_of program policy) (block.Function f)) refl is call tops homes a b
      in_level (backs u is returning a b) = absurd (true≢false (sym returning ∙ h.facts.0.1.0))
