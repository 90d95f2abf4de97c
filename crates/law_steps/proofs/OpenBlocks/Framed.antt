-- The returns to come are those of the frames above the process's own, and so after each step.
use Rattle.std.proofs.Common.{◌≡◌, ℕ, suc, ◌+◌, ◌≤◌, ℤ, true, false, List, [], ◌∷◌, ◌++◌, Option, Some, None, Ok, Err, refl, ap, sym, subst, ◌∙◌, arith, if◌then◌else◌}
use Rattle.std.specs.List.{All}
use Rattle.std.specs.Prelude.{drop, slice_get, unwrap_or}
use Rattle.std.specs.Option.{option_map_or}
use Rattle.ppd_ast.specs.Valid.{IsValid}
use Rattle.ppd_ast.proofs.ValidLaws.{each_at}
use Rattle.ppd_ast.specs.declared.program.Body.{Body}
use Rattle.ppd_ast.specs.declared.plan.Plan.{Plan}
use Rattle.ppd_ast.specs.declared.program.Program.{Program}
use Rattle.ppd_ast.specs.declared.program.Stmt.{Stmt}
use Rattle.ppd_ast.specs.Lookups.{kind_of, body_of, body_numbered, no_body}
use Rattle.ppd_sem.specs.declared.asking.Pause.TheVariants.{Wants, Traps}
use Rattle.ppd_sem.specs.declared.proc.Answer.{Answer}
use Rattle.ppd_sem.specs.declared.proc.Need.{Need}
use Rattle.ppd_sem.specs.declared.proc.Need.TheVariants as need
use Rattle.ppd_sem.specs.declared.proc.Proc.{Proc}
use Rattle.ppd_sem.specs.declared.proc.Todo.{Todo}
use Rattle.ppd_sem.specs.Asked.{Asked}
use Rattle.ppd_sem.specs.Deed.{Deed, set_local, set_shared, clear, branch, turn, leave, invoke, back, take, give, send, receive, print, pass, finish}
use Rattle.ppd_sem.specs.Process.{act, act_by_asked, act_by_deed, act_by_need, head_deed, need_of, started, todos, value_of}
use Rattle.ppd_sem.proofs.NeedWords.{act_at}
use Rattle.ppd_sem.specs.Runs.{IsInner, IsRunnableBody, returns, bodies_in}
use Rattle.ppd_sem.proofs.Offers.{CompletesSend, completes, send_stays}
use Rattle.ppd_sem.proofs.Validity.{valid-runnable}
use Rattle.ppd_model.proofs.Homes.{AllBeside, AreTop, AskedOf, DeedOf, bodies-clear, bodies-returned, bodies-write, head_of}
use Rattle.law_steps.specs.OpenBlocks.Stack.{returning}

-- ---- the returns of lists of statements

same_body : (o : Option Stmt) → option_map_or (λ (x : Stmt). x.body) o 0 ≡ option_map_or (λ (x : Stmt). x.body) o 0
same_body None = refl
same_body (Some x) = refl

pub body_is : (program : Program) (s : ℕ) → body_of program s ≡ body_of program s
body_is program s = same_body (slice_get program.stmts s)

module _ (program : Program) where
  -- a head that returns, and one that does not
  pub head_returns : (t : Todo) (ts : List Todo) → returns (kind_of program t.stmt) ≡ true → returning program (t ∷ ts) ≡ body_of program t.stmt ∷ returning program ts
  head_returns t ts e = ap (λ b. (if b then body_of program t.stmt ∷ [] else []) ++ returning program ts) e

  pub head_stays : (t : Todo) (ts : List Todo) → returns (kind_of program t.stmt) ≡ false → returning program (t ∷ ts) ≡ returning program ts
  head_stays t ts e = ap (λ b. (if b then body_of program t.stmt ∷ [] else []) ++ returning program ts) e

  inner_stays : (body : ℕ) (stmts : List ℕ) (ts : List Todo) → AllBeside program body stmts → returning program (todos stmts ++ ts) ≡ returning program ts
  inner_stays body [] ts h = refl
  inner_stays body (i ∷ is) ts h = head_stays (record { stmt = i; entered = false; offered = false }) (todos is ++ ts) h.0.stays ∙ inner_stays body is ts h.1

  top_returns : (f : ℕ) (stmts : List ℕ) (ts : List Todo) → AreTop program f stmts → returning program (todos stmts ++ ts) ≡ f ∷ returning program ts
  top_returns f [] ts h = absurd h
  top_returns f (i ∷ []) ts h = head_returns (record { stmt = i; entered = false; offered = false }) ts h.1 ∙ ap (λ b. b ∷ returning program ts) (sym (body_is program i) ∙ h.0)
  top_returns f (i ∷ j ∷ is) ts h = head_stays (record { stmt = i; entered = false; offered = false }) (todos (j ∷ is) ++ ts) h.0.stays ∙ top_returns f (j ∷ is) ts h.1

-- ---- one step

module _ (program : Program) (plan : Plan) (v : IsValid program) (a : Answer) (t : Todo) (ts : List Todo) (s : Proc) (base : List ℕ) (framed : bodies_in s.frames ≡ returning program (t ∷ ts) ++ base) where
  abbrev IsFramed : Proc → Type 0
  IsFramed x = bodies_in x.frames ≡ returning program x.todo ++ base

  abbrev Tells : Need → Type 0
  Tells n = IsFramed (act_by_need program plan a t ts n s)

  -- the state that a deed leaves
  abbrev after : Deed → Proc
  after d = act_by_deed program a t ts d (record s { answers = [] })

  moved : (x : Asked Deed) → head_deed program t s ≡ x → IsFramed (act_by_asked program a t ts x s) → IsFramed (act_by_asked program a t ts (head_deed program t s) s)
  moved x at h = subst (λ y. IsFramed (act_by_asked program a t ts y s)) (sym at) h

  -- the head is gone, and the frames are of the same bodies
  gone : (x : Proc) → x.todo ≡ ts → bodies_in x.frames ≡ bodies_in s.frames → returns (kind_of program t.stmt) ≡ false → IsFramed x
  gone x todo frames stays = frames ∙ framed ∙ ap (λ bs. bs ++ base) (head_stays program t ts stays) ∙ ap (λ us. returning program us ++ base) (sym todo)

  by_deed : (d : Deed) (left : List ℤ) → head_deed program t s ≡ Ok (d, left) → DeedOf program (body_of program t.stmt) (kind_of program t.stmt) d → IsFramed (act_by_asked program a t ts (head_deed program t s) s)
  by_deed (set_local c x) left at h = moved (Ok (set_local c x, left)) at (gone (after (set_local c x)) refl (bodies-write c x s.frames) h)
  by_deed (set_shared c x) left at h = moved (Ok (set_shared c x, left)) at (gone (after (set_shared c x)) refl refl h)
  by_deed (clear first len) left at h = moved (Ok (clear first len, left)) at (gone (after (clear first len)) refl (bodies-clear first len s.frames) h)
  by_deed (branch stmts) left at h =
      moved (Ok (branch stmts, left)) at
      (framed ∙ ap (λ bs. bs ++ base) (head_stays program t ts h.0 ∙ sym (inner_stays program (body_of program t.stmt) stmts ts h.1)))
  by_deed (turn stmts) left at h = moved (Ok (turn stmts, left)) at (framed ∙ ap (λ bs. bs ++ base) (sym (inner_stays program (body_of program t.stmt) stmts (t ∷ ts) h.1)))
  by_deed leave left at h = moved (Ok (leave, left)) at (gone (after leave) refl refl h)
  by_deed (invoke f values into) left at h =
      moved (Ok (invoke f values into, left)) at
      (ap (λ bs. f ∷ bs) (framed ∙ ap (λ bs. bs ++ base) (head_stays program t ts h.0))
      ∙ ap (λ bs. bs ++ base) (sym (top_returns program f (body_numbered program f).top ts h.1.0)))
  by_deed (back value) left at h =
      moved (Ok (back value, left)) at
      (bodies-returned program value s.frames ∙ ap (λ bs. drop 1 bs) (framed ∙ ap (λ bs. bs ++ base) (head_returns program t ts h.0)))
  by_deed (take x) left at h = moved (Ok (take x, left)) at (gone (after (take x)) refl refl h)
  by_deed (give x) left at h = moved (Ok (give x, left)) at (gone (after (give x)) refl refl h)
  by_deed (send c x) left at h = moved (Ok (send c x, left)) at (gone (after (send c x)) refl refl h)
  by_deed (receive c into) left at h = moved (Ok (receive c into, left)) at (gone (after (receive c into)) refl (bodies-write into (value_of a) s.frames) h)
  by_deed (print x) left at h = moved (Ok (print x, left)) at (gone (after (print x)) refl refl h)
  by_deed pass left at h = moved (Ok (pass, left)) at (gone (after pass) refl refl h)
  by_deed finish left at h = moved (Ok (finish, left)) at (gone (after finish) refl refl h)

  unchanged : (todo : List Todo) → todo ≡ t ∷ ts → bodies_in s.frames ≡ returning program todo ++ base
  unchanged todo is = framed ∙ ap (λ us. returning program us ++ base) (sym is)

  by_asked : (x : Asked Deed) → head_deed program t s ≡ x → s.todo ≡ t ∷ ts → AskedOf program (body_of program t.stmt) (kind_of program t.stmt) x → IsFramed (act_by_asked program a t ts (head_deed program t s) s)
  by_asked (Ok q) at is h = by_deed q.0 q.1 at h
  by_asked (Err (Wants c)) at is h = moved (Err (Wants c)) at (unchanged s.todo is)
  by_asked (Err (Traps x)) at is h = moved (Err (Traps x)) at (unchanged s.todo is)

  by_need : (n : Need) → s.todo ≡ t ∷ ts → CompletesSend program t.stmt n → Tells n
  by_need (need.Enter x u) is o = framed
  by_need (need.Trap x) is o = unchanged s.todo is
  by_need need.Budget is o = unchanged s.todo is
  by_need need.Stopped is o = unchanged s.todo is
  by_need (need.Offer c x) is o = framed
  by_need (need.Done c u) is o = gone (act_by_need program plan a t ts (need.Done c u) s) refl refl (send_stays (kind_of program t.stmt) c o)
  by_need n is o = by_asked (head_deed program t s) refl is (head_of program t s v)

-- each step keeps it
pub act_framed : (program : Program) (plan : Plan) (s : Proc) (a : Answer) (base : List ℕ) → IsValid program → bodies_in s.frames ≡ returning program s.todo ++ base → bodies_in (act program plan s a).frames ≡ returning program (act program plan s a).todo ++ base
act_framed program plan s a base v h = by s.todo refl
  where
    by : (todo : List Todo) → s.todo ≡ todo → bodies_in (act_at program plan a todo s).frames ≡ returning program (act_at program plan a todo s).todo ++ base
    by [] is = h
    by (t ∷ ts) is = by_need program plan v a t ts s base (h ∙ ap (λ us. returning program us ++ base) is) (need_of program plan s) is (completes program plan s t ts is)

-- ---- the start

none_return : (program : Program) (n : ℕ) (stmts : List ℕ) → All (IsInner program n) stmts → returning program (todos stmts) ≡ []
none_return program n [] h = refl
none_return program n (i ∷ is) h = head_stays program (record { stmt = i; entered = false; offered = false }) (todos is) (h 0 i (omega arith)).stays ∙ none_return program n is (λ k d lt. h (suc k) d (omega arith))

-- the outermost statements of a process return nowhere
pub process_stays : (program : Program) (f : ℕ) → IsValid program → program.functions ≤ f → (n : ℕ) × All (IsInner program n) (body_numbered program f).top
process_stays program f v le = by (slice_get program.bodies f) refl
  where
    by : (o : Option Body) → slice_get program.bodies f ≡ o → (n : ℕ) × All (IsInner program n) (unwrap_or o no_body).top
    by None e = (0, λ k d lt. absurd (omega (arith, lt)))
    by (Some b) e = (b.cells, (each_at (IsRunnableBody program) program.bodies f b (valid-runnable program v).bodies e).top le)

pub started_framed : (program : Program) (plan : Plan) (p budget : ℕ) → IsValid program → bodies_in (started program plan p budget).frames ≡ returning program (started program plan p budget).todo ++ (program.functions + p) ∷ []
started_framed program plan p budget v =
    let inner = process_stays program (program.functions + p) v (omega arith) in
    ap (λ bs. bs ++ (program.functions + p) ∷ []) (sym (none_return program inner.0 (body_numbered program (program.functions + p)).top inner.1))
