-- Of every state of a run: only a block's loop is entered, and there are no answers while a loop is yet to be entered.
use Rattle.std.proofs.Common.{◌≡◌, ℕ, ℤ, Bool, true, false, List, [], ◌∷◌, ◌++◌, Some, None, refl, ap, sym, subst, ◌∙◌, true≢false}
use Rattle.std.specs.Prelude.{⊤, is_some, if◌then◌else◌}
use Rattle.std.specs.List.{AllByRecursion as Each}
use Rattle.ppd_ast.specs.declared.plan.BlockKind.TheVariants as block
use Rattle.ppd_ast.specs.declared.plan.Plan.{Plan}
use Rattle.ppd_ast.specs.declared.program.Kind.{Kind}
use Rattle.ppd_ast.specs.declared.program.Kind.TheVariants as kind
use Rattle.ppd_ast.specs.declared.program.Program.{Program}
use Rattle.ppd_ast.specs.Lookups.{kind_of}
use Rattle.ppd_sem.specs.declared.proc.Answer.{Answer}
use Rattle.ppd_sem.specs.declared.proc.Frame.{Frame}
use Rattle.ppd_sem.specs.declared.proc.Proc.{Proc}
use Rattle.ppd_sem.specs.declared.proc.Todo.{Todo}
use Rattle.ppd_sem.specs.Deed.{Deed, branch, turn, invoke}
use Rattle.ppd_sem.specs.Process.{act, act_by_deed, entry_of, loop_of, started, todos}
use Rattle.ppd_sem.specs.Tables.{block_of}
use Rattle.law_steps.specs.Beside.Opens.{IsWhile}
use Rattle.law_steps.proofs.Facts.Keeping.{keeps}

-- a statement that is entered is a loop that is a block
pub record IsEntered (program : Program) (plan : Plan) (t : Todo) : Type 0 where
  pub loops : t.entered ≡ true → IsWhile (kind_of program t.stmt)
  pub blocks : t.entered ≡ true → is_some (block_of plan (block.Loop t.stmt)) ≡ true

-- no answers where the first of these is yet to be entered
abbrev pub IsReady : Program → Plan → List Todo → List ℤ → Type 0
IsReady program plan [] answers = ⊤
IsReady program plan (t ∷ ts) answers = (b : ℕ) → entry_of program plan t ≡ Some b → answers ≡ []

abbrev pub IsReadied : Program → Plan → List Frame → List Todo → List ℤ → Type 0
IsReadied program plan frames todo answers = Each (IsEntered program plan) todo × IsReady program plan todo answers

-- the same of a process
abbrev pub IsReadyAll : Program → Plan → Proc → Type 0
IsReadyAll program plan s = IsReadied program plan s.frames s.todo s.answers

module _ (program : Program) (plan : Plan) where
  fresh : (i : ℕ) → IsEntered program plan (record { stmt = i; entered = false; offered = false })
  fresh i = record { loops = λ e. absurd (true≢false (sym e)); blocks = λ e. absurd (true≢false (sym e)) }

  all_fresh : (stmts : List ℕ) (ts : List Todo) → Each (IsEntered program plan) ts
      → Each (IsEntered program plan) (todos stmts ++ ts)
  all_fresh [] ts h = h
  all_fresh (i ∷ is) ts h = (fresh i, all_fresh is ts h)

  none_ready : (todo : List Todo) → IsReady program plan todo []
  none_ready [] = tt
  none_ready (t ∷ ts) = λ b e. refl

  -- the loop that is yet to be entered
  pub entry_while : (t : ℕ) (k : Kind) (b : ℕ) → loop_of plan t k ≡ Some b → IsWhile k
      × (is_some (block_of plan (block.Loop t)) ≡ true)
  entry_while t (kind.While x body) b h = (tt, ap is_some h)
  entry_while t k b h = absurd (true≢false (sym (ap is_some h)))

  pub unentered : (t : Todo) (b : ℕ) → entry_of program plan t ≡ Some b
      → loop_of plan t.stmt (kind_of program t.stmt) ≡ Some b
  unentered t b e = by t.entered refl
    where
      by : (x : Bool) → t.entered ≡ x → loop_of plan t.stmt (kind_of program t.stmt) ≡ Some b
      by true is = absurd (true≢false
          (ap is_some (sym e ∙ ap (λ y. if y then None else loop_of plan t.stmt (kind_of program t.stmt)) is)))
      by false is = sym (ap (λ y. if y then None else loop_of plan t.stmt (kind_of program t.stmt)) is) ∙ e

  after_deed : (a : Answer) (t : Todo) (ts : List Todo) (d : Deed) (x : Proc) → x.answers ≡ []
      → Each (IsEntered program plan) (t ∷ ts) → IsReadyAll program plan (act_by_deed program a t ts d x)
  after_deed a t ts d x e h = (
    entered d,
    subst (λ as'. IsReady program plan (act_by_deed program a t ts d x).todo as') (sym (same d ∙ e))
        (none_ready (act_by_deed program a t ts d x).todo),
  )
    where
      entered : (d : Deed) → Each (IsEntered program plan) (act_by_deed program a t ts d x).todo
      entered (branch stmts) = all_fresh stmts ts h.1
      entered (turn stmts) = all_fresh stmts (t ∷ ts) h
      entered (invoke f values into) = all_fresh _ ts h.1
      entered d = h.1

      same : (d : Deed) → (act_by_deed program a t ts d x).answers ≡ x.answers
      same (branch stmts) = refl
      same d = refl

  -- each step keeps it
  pub act_ready : (s : Proc) (a : Answer) → IsReadyAll program plan s → IsReadyAll program plan (act program plan s a)
  act_ready s a h = keeps program plan (IsReadied program plan) s a h
      (λ t ts b is e. (
        (
          record {
            loops = λ z. (entry_while t.stmt (kind_of program t.stmt) b (unentered t b e)).0;
            blocks = λ z.
                (entry_while t.stmt (kind_of program t.stmt) b (unentered t b e)).1;
          },
          (subst (Each (IsEntered program plan)) is h.0).1,
        ),
        λ c f. absurd (true≢false (sym (ap is_some f))),
      ))
      (λ t ts v is e. (
        h.0,
        subst (λ ys. IsReady program plan ys (s.answers ++ v ∷ [])) (sym is)
            (λ c f. absurd (true≢false (sym (ap is_some (sym e ∙ f))))),
      ))
      (λ t ts d left is e f. after_deed a t ts d (record s { answers = [] }) refl
      (subst (Each (IsEntered program plan)) is h.0))
      (λ t ts c is e. (
        (
          record {
            loops = (subst (Each (IsEntered program plan)) is h.0).0.loops;
            blocks = (subst (Each (IsEntered program plan)) is h.0).0.blocks;
          },
          (subst (Each (IsEntered program plan)) is h.0).1,
        ),
        none_ready (record t { offered = true } ∷ ts),
      ))
      (λ t ts c is e. ((subst (Each (IsEntered program plan)) is h.0).1, none_ready ts))

  pub started_ready : (p budget : ℕ) → IsReadyAll program plan (started program plan p budget)
  started_ready p budget = by _
    where
      no_more : (stmts : List ℕ) → Each (IsEntered program plan) (todos stmts)
      no_more [] = tt
      no_more (i ∷ is) = (fresh i, no_more is)

      by : (stmts : List ℕ) → Each (IsEntered program plan) (todos stmts) × IsReady program plan (todos stmts) []
      by stmts = (no_more stmts, none_ready (todos stmts))
