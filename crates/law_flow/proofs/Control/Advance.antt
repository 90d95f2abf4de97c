-- One step of a process that goes on, by the levels before it.
use Rattle.std.proofs.Common.{◌≡◌, ℕ, true, List, [], ◌∷◌, ◌++◌, Option, Some, None, refl, ap, sym, subst, ◌∙◌, true≢false}
use Rattle.std.specs.Prelude.{drop, is_some}
use Rattle.ppd_ast.specs.Numbered.{is_while}
use Rattle.ppd_ast.specs.Valid.{IsValid}
use Rattle.ppd_ast.specs.declared.plan.BlockKind.TheVariants as block
use Rattle.ppd_ast.specs.declared.plan.Policy.{Policy}
use Rattle.ppd_ast.specs.declared.program.Program.{Program}
use Rattle.ppd_ast.specs.Lookups.{kind_of, body_of}
use Rattle.ppd_blocks.specs.Blocks.{plan_of}
use Rattle.ppd_sem.specs.declared.event.Event.{Event}
use Rattle.ppd_sem.specs.declared.proc.Need.{Need}
use Rattle.ppd_sem.specs.declared.proc.Need.TheVariants as need
use Rattle.ppd_sem.specs.declared.proc.Proc.{Proc}
use Rattle.ppd_sem.specs.declared.proc.Todo.{Todo}
use Rattle.ppd_sem.specs.Described.{trap_of}
use Rattle.ppd_sem.specs.Runs.{returns}
use Rattle.ppd_sem.specs.Tables.{block_of}
use Rattle.ppd_model.specs.FullTrace.{is_passed}
use Rattle.ppd_model.proofs.TestSteps.{View}
use Rattle.law_flow.proofs.Control.KindDeeds.{calls_simply, choice_stays, while_choice}
use Rattle.law_flow.proofs.Control.Statics.{block_loop_while}
use Rattle.law_flow.proofs.Control.Levels.{AllHold, Holds, Level, OfLoop, Sort, TopLeaf, function, leaf, loop, process, runs_of, todo_of, views_of}
use Rattle.law_flow.proofs.Control.AtLevel.{me_of}
use Rattle.law_flow.proofs.Control.Moved.{Moved, add, tested}
use Rattle.law_flow.proofs.Control.Endings.{leaves_loop, turns_again}
use Rattle.law_flow.proofs.Control.Returns.{returns_block, returns_leaf}
use Rattle.law_flow.proofs.Control.Steps.{Step, backs, calls, chooses, enters, leaves, offers, passes, reads, stops, turns}
use Rattle.law_flow.proofs.Control.Along.{EventOf, runs_after, Given, own_runs, put, by_need, same, in_level}
use Rattle.law_steps.proofs.OpenBlocks.DeedKinds.{while_stays}
use Rattle.ppd_sem.specs.Process.{top_frame}

module _ (program : Program) (policy : Policy) (p : ℕ) (v : IsValid program) (s : Proc) (n number : ℕ) (e : Event)
    (m : Need) where
  module _ (todo : List Todo) (now : List View) where
    abbrev To : List Level → Type 0
    To levels = Moved program policy p todo now (runs_after program policy p v s n number e m (runs_of levels))

    -- ---- what ends the level

    module _ (x : Level) (y : Level) (ys : List Level) (t : Todo) (hs : AllHold program policy p (y ∷ ys))
        (ev : EventOf program policy p v s n number e m t) where
      abbrev ending : Sort → List Level
      ending sort = record x { sort = sort; todo = []; last = t ∷ [] } ∷ y ∷ ys

      abbrev StepAt : Sort → Type 0
      StepAt sort = Step program (plan_of program policy) s t (todo_of (y ∷ ys)) (Some (me_of program policy p n))
          (views_of (ending sort)) (tested program (me_of program policy p n) e (views_of (ending sort))) m todo now

      -- a return
      by_return : (sort : Sort) → Holds program policy p (record x { sort = sort; todo = []; last = t ∷ [] }) (y ∷ ys)
          → TopLeaf program policy p (ending sort) → returns (kind_of program t.stmt) ≡ true
          → ((u : Option ℕ) → m ≡ need.Back (block_of (plan_of program policy) (block.Function (top_frame s.frames).body)) u
          → todo ≡ todo_of (y ∷ ys) → now ≡ drop 1
          (tested program (me_of program policy p n) e (views_of (ending sort))) → To (ending sort))
          → StepAt sort → To (ending sort)
      by_return sort h top is back (reads q a b) = same program policy p v s n number e m todo now (ending sort)
          (h, hs) top q a b
      by_return sort h top is back (enters b u need_is unmarked some w a c) = absurd
          (true≢false (sym is ∙ while_stays (kind_of program t.stmt) w))
      by_return sort h top is back (offers q simple a b) = absurd (true≢false (sym is ∙ simple.1))
      by_return sort h top is back (passes q simple a b) = absurd (true≢false (sym is ∙ simple.1))
      by_return sort h top is back (stops q w none fails a b) = absurd
          (true≢false (sym is ∙ while_stays (kind_of program t.stmt) w))
      by_return sort h top is back (leaves b u need_is marked w some fails a c) = absurd
          (true≢false (sym is ∙ while_stays (kind_of program t.stmt) w))
      by_return sort h top is back (chooses stmts q choice isnt inside a b) = absurd
          (true≢false (sym is ∙ choice_stays (kind_of program t.stmt) choice))
      by_return sort h top is back (turns stmts q w entered inside a b) = absurd
          (true≢false (sym is ∙ while_stays (kind_of program t.stmt) w))
      by_return sort h top is back (calls f u need_is call tops homes a b) = absurd
          (true≢false (sym is ∙ (calls_simply (kind_of program t.stmt) f call).1))
      by_return sort h top is back (backs u need_is returning a b) = back u need_is a b

      body_of_level : body_of program t.stmt ≡ x.body → (top_frame s.frames).body ≡ x.body
      body_of_level home = ev.home ∙ home

      from_function : Holds program policy p (record x { sort = function; todo = []; last = t ∷ [] }) (y ∷ ys)
          → body_of program t.stmt ≡ x.body → (u : Option ℕ)
          → m ≡ need.Back (block_of (plan_of program policy) (block.Function (top_frame s.frames).body)) u
          → todo ≡ todo_of (y ∷ ys) → now ≡ drop 1
          (tested program (me_of program policy p n) e (views_of (ending function))) → To (ending function)
      from_function h home u is a b = by (block_of (plan_of program policy) (block.Function x.body)) refl
        where
          by : (o : Option ℕ) → block_of (plan_of program policy) (block.Function x.body) ≡ o → To (ending function)
          by None at = absurd (true≢false (sym h.over.is_block ∙ ap is_some at))
          by (Some k) at =
              let is_back : m ≡ need.Back (Some k) u = is
              ∙ ap (λ i. need.Back (block_of (plan_of program policy) (block.Function i)) u) (body_of_level home)
              ∙ ap (λ o. need.Back o u) at in
              put program policy p v s n number e m todo _ now _
              (runs_after program policy p v s n number e m (runs_of (ending function))) _ a b
              (by_need program policy p v s n number e m (need.Back (Some k) u) is_back (runs_of (ending function)))
              (returns_block program policy p v x t n e ev.is (ev.trap_is ∙ ap trap_of is) y ys hs h.over)

      from_leaf : Holds program policy p (record x { sort = leaf; todo = []; last = t ∷ [] }) (y ∷ ys)
          → body_of program t.stmt ≡ x.body → returns (kind_of program t.stmt) ≡ true → (u : Option ℕ)
          → m ≡ need.Back (block_of (plan_of program policy) (block.Function (top_frame s.frames).body)) u
          → todo ≡ todo_of (y ∷ ys) → now ≡ drop 1
          (tested program (me_of program policy p n) e (views_of (ending leaf))) → To (ending leaf)
      from_leaf h home returning u is a b =
          let is_back : m ≡ need.Back None u = is
          ∙ ap (λ i. need.Back (block_of (plan_of program policy) (block.Function i)) u) (body_of_level home)
          ∙ ap (λ o. need.Back o u) h.over.no_block in
          put program policy p v s n number e m todo _ now _
          (runs_after program policy p v s n number e m (runs_of (ending leaf))) _ a b
          (by_need program policy p v s n number e m (need.Back None u) is_back (runs_of (ending leaf)))
          (returns_leaf program policy p v x t n e ev.is (ev.trap_is ∙ ap trap_of is) y ys hs h.over returning)

      -- a loop, which was entered
      by_loop : (l : ℕ) → Holds program policy p (record x { sort = loop l; todo = []; last = t ∷ [] }) (y ∷ ys)
          → TopLeaf program policy p (ending (loop l)) → t.stmt ≡ l → t.entered ≡ true
          → is_while (kind_of program t.stmt) ≡ true
          → is_some (block_of (plan_of program policy) (block.Loop t.stmt)) ≡ true
          → StepAt (loop l) → To (ending (loop l))
      by_loop l h top own marked is block_is (reads q a b) = same program policy p v s n number e m todo now
          (ending (loop l)) (h, hs) top q a b
      by_loop l h top own marked is block_is (enters b u need_is unmarked some w a c) = absurd
          (true≢false (sym marked ∙ unmarked))
      by_loop l h top own marked is block_is (offers q simple a b) = absurd
          (true≢false (sym (while_choice (kind_of program t.stmt) is) ∙ simple.0))
      by_loop l h top own marked is block_is (passes q simple a b) = absurd
          (true≢false (sym (while_choice (kind_of program t.stmt) is) ∙ simple.0))
      by_loop l h top own marked is block_is (stops q w none fails a b) = absurd
          (true≢false (sym block_is ∙ ap is_some none))
      by_loop l h top own marked is block_is (leaves b u need_is entered w some fails a c) =
          put program policy p v s n number e m todo _ now _
          (runs_after program policy p v s n number e m (runs_of (ending (loop l)))) _ a c
          (by_need program policy p v s n number e m (need.Leave b u) need_is (runs_of (ending (loop l))))
          (leaves_loop program policy p v x t n e ev.is (ev.trap_is ∙ ap trap_of need_is) l y ys h.over own w
          (ap is_passed ev.value_is ∙ fails) h.knows hs)
      by_loop l h top own marked is block_is (chooses stmts q choice isnt inside a b) = absurd
          (true≢false (sym is ∙ isnt))
      by_loop l h top own marked is block_is (turns stmts q w entered inside a b) =
          put program policy p v s n number e m todo _ now _
          (runs_after program policy p v s n number e m (runs_of (ending (loop l))))
          (add (Some (n, e)) (runs_of (ending (loop l)))) a b
          (own_runs program policy p v s n number e m (runs_of (ending (loop l))) q)
          (turns_again program policy p v x t n e ev.is (ev.trap_is ∙ q.3) l y ys h hs top stmts w inside)
      by_loop l h top own marked is block_is (calls f u need_is call tops homes a b) = absurd
          (true≢false (sym (while_choice (kind_of program t.stmt) is)
          ∙ (calls_simply (kind_of program t.stmt) f call).0))
      by_loop l h top own marked is block_is (backs u need_is returning a b) = absurd
          (true≢false (sym returning ∙ while_stays (kind_of program t.stmt) is))

    -- ---- any level

    abbrev with' : Level → Sort → List Todo → List Todo → Level
    with' x sort todo' last = record x { sort = sort; todo = todo'; last = last }

    abbrev Dispatch : Level → List Level → Sort → List Todo → List Todo → Type 0
    Dispatch x xs sort todo' last =
        Holds program policy p (with' x sort todo' last) xs → TopLeaf program policy p (with' x sort todo' last ∷ xs)
        → Given program policy p v s n number e m (views_of (with' x sort todo' last ∷ xs)) todo now
        (todo' ++ (last ++ todo_of xs))
        → To (with' x sort todo' last ∷ xs)

    -- the level's own statements are done, and `last` is to do
    ended_by : (x : Level) (xs : List Level) → AllHold program policy p xs → (sort : Sort) (last : List Todo)
        → Dispatch x xs sort [] last
    ended_by x xs hs process last h top g =
        absurd (subst (λ ts. Given program policy p v s n number e m
        (views_of (with' x process [] last ∷ xs)) todo now ts)
        (ap (λ l. l ++ todo_of xs) h.ends ∙ ap todo_of h.over.0) g)
    ended_by x [] hs function last h top g = absurd h.over
    ended_by x (y ∷ ys) hs function last h top g =
        subst (λ l. Dispatch x (y ∷ ys) function [] l) (sym h.ends.1)
        (λ k high given. by_return x y ys h.ends.0 hs given.1 function k high h.ends.2
        (from_function x y ys h.ends.0 hs given.1 k h.ends.4.home) given.0) h top g
    ended_by x [] hs leaf last h top g = absurd h.over
    ended_by x (y ∷ ys) hs leaf last h top g =
        subst (λ l. Dispatch x (y ∷ ys) leaf [] l) (sym h.ends.1)
        (λ k high given. by_return x y ys h.ends.0 hs given.1 leaf k high h.ends.2
        (from_leaf x y ys h.ends.0 hs given.1 k h.ends.4.home h.ends.2) given.0) h top g
    ended_by x [] hs (loop l) last h top g = absurd h.over
    ended_by x (y ∷ ys) hs (loop l) last h top g =
        let o : OfLoop program policy p l x.body x.run.kind x.run.place x.view y = h.over in
        let own : h.ends.0.stmt ≡ l = h.ends.2 in
        subst (λ ls. Dispatch x (y ∷ ys) (loop l) [] ls) (sym h.ends.1)
        (λ k high given. by_loop x y ys h.ends.0 hs given.1 l k high own h.ends.3
        (ap (λ i. is_while (kind_of program i)) own ∙ block_loop_while program policy l o.is_loop)
        (ap (λ i. is_some (block_of (plan_of program policy) (block.Loop i))) own ∙ o.is_loop) given.0) h top g

    by_todo : (x : Level) (xs : List Level) → AllHold program policy p xs → (ts last : List Todo)
        → Dispatch x xs x.sort ts last
    by_todo x xs hs [] last h top g = ended_by x xs hs x.sort last h top g
    by_todo x xs hs (t ∷ ts) last h top g = in_level program policy p v s n number e m todo now
        (record x { last = last }) xs t ts h hs top g.1 g.0

    -- the step leaves levels as they should be
    pub advance : (levels : List Level) → AllHold program policy p levels → TopLeaf program policy p levels
        → Given program policy p v s n number e m (views_of levels) todo now (todo_of levels) → To levels
    advance [] hs top g = absurd g
    advance (x ∷ xs) hs top g = by_todo x xs hs.1 x.todo x.last hs.0 top g
