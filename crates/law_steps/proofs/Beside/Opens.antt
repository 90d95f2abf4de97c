-- Each step opens and closes as many blocks as its need says.
use Rattle.std.proofs.Common.{◌≡◌, ℕ, ◌+◌, ℤ, List, [], ◌∷◌, ◌++◌, Bool, true, false, cond, Option, Some, None, Ok, Err, length, refl, ap, sym, subst, ◌∙◌, arith, true≢false, zero, suc}
use Rattle.std.specs.Prelude.{is_some, nat_lt, if◌then◌else◌}
use Rattle.ppd_ast.specs.declared.plan.BlockKind.TheVariants as block
use Rattle.ppd_ast.specs.declared.plan.Plan.{Plan}
use Rattle.ppd_ast.specs.declared.program.Kind.{Kind}
use Rattle.ppd_ast.specs.declared.program.Kind.TheVariants as kind
use Rattle.ppd_ast.specs.declared.program.Program.{Program}
use Rattle.ppd_sem.specs.declared.asking.Pause.TheVariants.{Wants, Traps}
use Rattle.ppd_sem.specs.declared.proc.Answer.{Answer}
use Rattle.ppd_sem.specs.declared.proc.Need.{Need}
use Rattle.ppd_sem.specs.declared.proc.Need.TheVariants.{Read, Write, Plain, Invoke, Back, Send, Done, Trap, Budget}
use Rattle.ppd_sem.specs.declared.proc.Proc.{Proc}
use Rattle.ppd_sem.specs.declared.proc.Todo.{Todo}
use Rattle.ppd_sem.specs.Asked.{Asked}
use Rattle.ppd_sem.specs.Deed.{Deed, set_local, set_shared, clear, branch, turn, leave, invoke, back, take, give, send, receive, print, pass, finish}
use Rattle.ppd_sem.specs.Described.{ends_body}
use Rattle.ppd_sem.specs.Process.{act, act_by_asked, act_by_need, head_deed, need_of, need_of_asked, need_of_deed, need_of_head, need_of_leaving, call_unit, cost, entry_of, loop_of, need_of_send, offer_of, todos, top_frame}
use Rattle.ppd_sem.proofs.NeedWords.{act_at, need_by_entry, need_by_offer}
use Rattle.ppd_sem.specs.Tables.{block_of, capacity_of, unit_of}
use Rattle.ppd_sem.proofs.Progress.{need_at_todo}
use Rattle.ppd_ast.specs.declared.plan.Start.TheVariants as start
use Rattle.ppd_ast.specs.declared.status.Trap.TheVariants as trap
use Rattle.ppd_ast.specs.Lookups.{kind_of, body_of, body_numbered}
use Rattle.ppd_ast.specs.Counting.{one_if}
use Rattle.ppd_ast.specs.declared.limits.TheConstants.{MOST_CALLS}
use Rattle.ppd_model.specs.Marks.{opened, closed}
use Rattle.law_steps.specs.Beside.Relation.{IsCallOf}
use Rattle.law_steps.proofs.Vocabulary.Relation.{IsReturn, IsEnd, Suits, Yields}
use Rattle.law_steps.specs.Beside.Opens.{IsCountable, IsCountedStep, IsHome, IsWhile, ends_block, open_at, opens}
use Rattle.law_steps.proofs.Beside.Deeds.{call_goes_on, list_goes_on, suits}
use Rattle.law_steps.proofs.Beside.Sends.{offered_goes_on, offered_no_loop}
use Rattle.law_steps.proofs.Beside.LoopKinds.{call_no_loop, end_no_loop, return_no_loop, while_ends_none}
use Rattle.law_steps.proofs.Beside.OfLoop.{IsOfLoop, of_loop}

module _ (program : Program) (plan : Plan) (c : IsCountable program plan) where
  pub opens_append : (xs ys : List Todo) → opens program plan (xs ++ ys) ≡ opens program plan xs + opens program plan ys
  opens_append [] ys = let z : opens program plan ys ≡ 0 + opens program plan ys = omega arith in z
  opens_append (x ∷ xs) ys = omega (arith, opens_append xs ys)

  -- a statement that goes on ends no block
  goes_on : (body : ℕ) (k : Kind) → ends_body k ≡ false → ends_block plan body k ≡ 0
  goes_on body (kind.Return e) h = absurd (true≢false h)
  goes_on body kind.End h = absurd (true≢false h)
  goes_on body k h = refl

  return_opens : (body : ℕ) (k : Kind) → IsReturn k
      → ends_block plan body k ≡ one_if (is_some (block_of plan (block.Function body)))
  return_opens body (kind.Return e) h = refl
  return_opens body k h = absurd h

  end_opens : (body : ℕ) (k : Kind) → IsEnd k → ends_block plan body k ≡ 1
  end_opens body kind.End h = refl
  end_opens body k h = absurd h

  -- ---- one step

  module _ (s : Proc) (a : Answer) (t : Todo) (ts : List Todo) (is : s.todo ≡ t ∷ ts)
      (home : IsHome program plan s t) where
    before_is : opens program plan s.todo ≡ open_at program plan t + opens program plan ts
    before_is = ap (opens program plan) is

    -- a head that is no loop is not entered
    unentered : (b : Bool) → t.entered ≡ b → (IsWhile (kind_of program t.stmt) → ⊥) → one_if t.entered ≡ 0
    unentered true e h = absurd (h (home.loops e))
    unentered false e h = ap one_if e

    no_loop : (k : Kind) (d : Deed) → IsOfLoop k d → (IsOfLoop (kind.While 0 []) d → ⊥) → IsWhile k → ⊥
    no_loop (kind.While e body) d h other is = other (same d h)
      where
        same : (d : Deed) → IsOfLoop (kind.While e body) d → IsOfLoop (kind.While 0 []) d
        same leave h = tt
        same (turn stmts) h = tt
        same d h = absurd h
    no_loop k d h other is = is

    -- a head that is no loop and goes on is not open
    closed_head : ends_body (kind_of program t.stmt) ≡ false → (IsWhile (kind_of program t.stmt) → ⊥)
        → open_at program plan t ≡ 0
    closed_head e loop = omega (
      arith,
      unentered t.entered refl loop,
      goes_on
          (body_of program t.stmt) (kind_of program t.stmt) e,
    )

    popped : (n : Need) (after : Proc) → after.todo ≡ ts → closed program plan s n ≡ None
        → opened program plan s n ≡ None → open_at program plan t ≡ 0 → IsCountedStep program plan s n after
    popped n after at cl op zero_is =
        omega (arith, ap (opens program plan) at, before_is, zero_is, ap (λ o. one_if (is_some o)) cl, ap (λ o. one_if (is_some o)) op)

    same_todo : (n : Need) (after : Proc) → after.todo ≡ s.todo → closed program plan s n ≡ None
        → opened program plan s n ≡ None → IsCountedStep program plan s n after
    same_todo n after at cl op =
        omega (arith, ap (opens program plan) at, ap (λ o. one_if (is_some o)) cl, ap (λ o. one_if (is_some o)) op)

    leaving : (o : Option ℕ) (b : Bool) → block_of plan (block.Loop t.stmt) ≡ o → t.entered ≡ b
        → (b ≡ false → o ≡ None) → IsWhile (kind_of program t.stmt) → (x : Proc) → x.todo ≡ ts
        → IsCountedStep program plan s (need_of_leaving plan t.stmt o) x
    leaving None true eo eb none loop x at = absurd (true≢false (sym (home.blocks eb) ∙ ap is_some eo))
    leaving None false eo eb none loop x at =
        popped Plain x at refl refl
        (omega (
          arith,
          ap one_if eb,
          while_ends_none plan (body_of program t.stmt)
              (kind_of program t.stmt) loop,
        ))
    leaving (Some b) true eo eb none loop x at =
        omega (
          arith,
          ap (opens program plan) at,
          before_is,
          ap one_if eb,
          while_ends_none plan
              (body_of program t.stmt) (kind_of program t.stmt) loop,
        )
    leaving (Some b) false eo eb none loop x at = absurd (true≢false (ap is_some (none refl)))

    invoking : (o : Option ℕ) (u : ℕ) → one_if (is_some (opened program plan s (Invoke o u))) ≡ one_if (is_some o)
    invoking None u = refl
    invoking (Some b) u = refl

    backing : (o u : Option ℕ) → one_if (is_some (closed program plan s (Back o u))) ≡ one_if (is_some o)
    backing None u = refl
    backing (Some b) u = refl

    opens_none : (o : Option ℕ) (u : Option ℕ) → opened program plan s (Back o u) ≡ None
    opens_none None u = refl
    opens_none (Some b) u = refl

    closes_none : (o : Option ℕ) (u : ℕ) → closed program plan s (Invoke o u) ≡ None
    closes_none None u = refl
    closes_none (Some b) u = refl

    -- the head and its deed
    record Heading (d : Deed) : Type 0 where
      suits_so : Suits (kind_of program t.stmt) d
      of_loop_so : IsOfLoop (kind_of program t.stmt) d
      no_entry : t.entered ≡ false → IsWhile (kind_of program t.stmt) → block_of plan (block.Loop t.stmt) ≡ None

    plain_deed : (n : Need) (d : Deed) (after : Proc) → Heading d → ends_body (kind_of program t.stmt) ≡ false
        → (IsOfLoop (kind.While 0 []) d → ⊥) → after.todo ≡ ts → closed program plan s n ≡ None
        → opened program plan s n ≡ None → IsCountedStep program plan s n after
    plain_deed n d after h goes other at cl op =
        popped n after at cl op (closed_head goes (no_loop (kind_of program t.stmt) d h.of_loop_so other))

    loop_is : (k : Kind) → IsOfLoop k leave → IsWhile k
    loop_is (kind.While e body) h = tt
    loop_is k h = absurd h

    calls_so : (f : ℕ) (values : List ℤ) (into : Option ℕ) (deep : Bool) (o : Option ℕ) (u : ℕ) (q : Asked Deed)
        → head_deed program t s ≡ q → (left : List ℤ) → q ≡ Ok (invoke f values into, left)
        → o ≡ block_of plan (block.Function f) → IsCallOf (kind_of program t.stmt) f
        → IsCountedStep program plan s (if deep then Trap trap.Depth else Invoke o u)
        (act_by_need program plan a t ts (if deep then Trap trap.Depth else Invoke o u) s)
    calls_so f values into true o u q hq left eq oq call =
        same_todo (Trap trap.Depth) (act_by_need program plan a t ts (Trap trap.Depth) s) refl refl refl
    calls_so f values into false o u q hq left eq oq call =
        omega (
          arith,
          todo_is,
          opens_append (todos (body_numbered program f).top) ts,
          c.bodies t.stmt f call,
          before_is,
          invoking o u,
          ap (λ x. one_if (is_some x)) oq,
          ap (λ x. one_if (is_some x)) (closes_none o u),
          closed_head (call_goes_on (kind_of program t.stmt) f call) (call_no_loop (kind_of program t.stmt) f call),
        )
      where
        todo_is : opens program plan (act_by_need program plan a t ts (Invoke o u) s).todo ≡ opens program plan
            (todos (body_numbered program f).top ++ ts)
        todo_is = ap (λ x. opens program plan (act_by_asked program a t ts x s).todo) (hq ∙ eq)

    leaves_todo : (o : Option ℕ) (left : List ℤ) → head_deed program t s ≡ Ok (leave, left)
        → (act_by_need program plan a t ts (need_of_leaving plan t.stmt o) s).todo ≡ ts
    leaves_todo None left e = ap (λ x. (act_by_asked program a t ts x s).todo) e
    leaves_todo (Some b) left e = ap (λ x. (act_by_asked program a t ts x s).todo) e

    deed_step : (d : Deed) (left : List ℤ) → head_deed program t s ≡ Ok (d, left) → Heading d
        → IsCountedStep program plan s (need_of_deed program plan t.stmt s d)
        (act_by_need program plan a t ts (need_of_deed program plan t.stmt s d) s)
    deed_step (set_local x v) left e h =
        plain_deed Plain (set_local x v) (act_by_need program plan a t ts Plain s) h h.suits_so (λ z. z)
        (ap (λ q. (act_by_asked program a t ts q s).todo) e) refl refl
    deed_step (set_shared x v) left e h =
        plain_deed (Write x v) (set_shared x v) (act_by_need program plan a t ts (Write x v) s) h h.suits_so
        (λ z. z) (ap (λ q. (act_by_asked program a t ts q s).todo) e) refl refl
    deed_step (clear base len) left e h =
        plain_deed Plain (clear base len) (act_by_need program plan a t ts Plain s) h h.suits_so (λ z. z)
        (ap (λ q. (act_by_asked program a t ts q s).todo) e) refl refl
    deed_step (print v) left e h =
        plain_deed Plain (print v) (act_by_need program plan a t ts Plain s) h h.suits_so (λ z. z)
        (ap (λ q. (act_by_asked program a t ts q s).todo) e) refl refl
    deed_step pass left e h =
        plain_deed Plain pass (act_by_need program plan a t ts Plain s) h h.suits_so (λ z. z)
        (ap (λ q. (act_by_asked program a t ts q s).todo) e) refl refl
    deed_step (take o) left e h =
        plain_deed (need_of_deed program plan t.stmt s (take o)) (take o)
        (act_by_need program plan a t ts (need_of_deed program plan t.stmt s (take o)) s) h h.suits_so (λ z. z)
        (ap (λ q. (act_by_asked program a t ts q s).todo) e) refl refl
    deed_step (give o) left e h =
        plain_deed (need_of_deed program plan t.stmt s (give o)) (give o)
        (act_by_need program plan a t ts (need_of_deed program plan t.stmt s (give o)) s) h h.suits_so (λ z. z)
        (ap (λ q. (act_by_asked program a t ts q s).todo) e) refl refl
    deed_step (send o v) left e h = sending (capacity_of program o)
      where
        marked : opens program plan (record t { offered = true } ∷ ts) ≡ opens program plan s.todo
        marked = sym before_is

        sending : (n : ℕ) → IsCountedStep program plan s (need_of_send plan t.stmt n o v)
            (act_by_need program plan a t ts (need_of_send plan t.stmt n o v) s)
        sending zero = omega (arith, marked)
        sending (suc n) = plain_deed (Send o v (unit_of plan (start.After t.stmt))) (send o v)
            (act_by_need program plan a t ts (Send o v (unit_of plan (start.After t.stmt))) s) h h.suits_so
            (λ z. z) (ap (λ q. (act_by_asked program a t ts q s).todo) e) refl refl
    deed_step (receive o into) left e h =
        plain_deed (need_of_deed program plan t.stmt s (receive o into)) (receive o into)
        (act_by_need program plan a t ts (need_of_deed program plan t.stmt s (receive o into)) s) h h.suits_so
        (λ z. z) (ap (λ q. (act_by_asked program a t ts q s).todo) e) refl refl
    deed_step (branch stmts) left e h =
        omega (
          arith,
          ap (λ q. opens program plan (act_by_asked program a t ts q s).todo) e,
          opens_append (todos stmts) ts,
          c.lists t.stmt stmts h.suits_so,
          before_is,
          closed_head (list_goes_on (kind_of program t.stmt) stmts h.suits_so)
              (no_loop (kind_of program t.stmt) (branch stmts) h.of_loop_so (λ z. z)),
        )
    deed_step (turn stmts) left e h =
        omega (
          arith,
          ap (λ q. opens program plan (act_by_asked program a t ts q s).todo) e,
          opens_append
              (todos stmts) (t ∷ ts),
          c.lists t.stmt stmts h.suits_so,
          before_is,
        )
    deed_step leave left e h =
        leaving (block_of plan (block.Loop t.stmt)) t.entered refl refl
        (λ z. h.no_entry z (loop_is (kind_of program t.stmt) h.of_loop_so))
        (loop_is (kind_of program t.stmt) h.of_loop_so)
        (act_by_need program plan a t ts (need_of_leaving plan t.stmt (block_of plan (block.Loop t.stmt))) s)
        (leaves_todo (block_of plan (block.Loop t.stmt)) left e)
    deed_step (invoke f values into) left e h =
        calls_so f values into (nat_lt MOST_CALLS (s.below + length s.frames)) (block_of plan (block.Function f))
        (unit_of plan (start.Entry f)) (head_deed program t s) refl left e refl h.suits_so
    deed_step (back value) left e h =
        omega (
          arith,
          ap (λ q. opens program plan (act_by_asked program a t ts q s).todo) e,
          before_is,
          unentered t.entered refl (return_no_loop (kind_of program t.stmt) h.suits_so),
          return_opens (body_of program t.stmt) (kind_of program t.stmt) h.suits_so,
          ap (λ b. one_if (is_some (block_of plan (block.Function b)))) home.body,
          backing (block_of plan (block.Function (top_frame s.frames).body)) (call_unit plan (top_frame s.frames).call),
          ap (λ x. one_if (is_some x))
              (opens_none (block_of plan (block.Function (top_frame s.frames).body)) (call_unit plan (top_frame s.frames).call)),
        )
    deed_step finish left e h =
        omega (
          arith,
          ap (λ q. opens program plan (act_by_asked program a t ts q s).todo) e,
          before_is,
          unentered t.entered refl (end_no_loop (kind_of program t.stmt) h.suits_so),
          end_opens (body_of program t.stmt) (kind_of program t.stmt) h.suits_so,
        )

    asked_step : (q : Asked Deed) → head_deed program t s ≡ q
        → (t.entered ≡ false → IsWhile (kind_of program t.stmt) → block_of plan (block.Loop t.stmt) ≡ None)
        → IsCountedStep program plan s (need_of_asked program plan t.stmt s q)
        (act_by_need program plan a t ts (need_of_asked program plan t.stmt s q) s)
    asked_step (Ok p) e none =
        deed_step p.0 p.1 e (record {
          suits_so = subst (Yields (Suits (kind_of program t.stmt))) e
              (suits program.exprs (kind_of program t.stmt) (top_frame s.frames).cells s.answers);
          of_loop_so = subst (Yields (IsOfLoop (kind_of program t.stmt))) e
              (of_loop program.exprs (kind_of program t.stmt) (top_frame s.frames).cells s.answers);
          no_entry = none;
        })
    asked_step (Err (Wants x)) e none =
        same_todo (Read x) (act_by_need program plan a t ts (Read x) s)
        (ap (λ q. (act_by_asked program a t ts q s).todo) e) refl refl
    asked_step (Err (Traps x)) e none = same_todo (Trap x) (act_by_need program plan a t ts (Trap x) s) refl refl refl

    entry_step : (o : Option ℕ) → entry_of program plan t ≡ o
        → IsCountedStep program plan s (need_by_entry program plan t.stmt s o (head_deed program t s))
        (act_by_need program plan a t ts (need_by_entry program plan t.stmt s o (head_deed program t s)) s)
    entry_step (Some b) e = omega (arith, before_is, ap one_if (not_entered t.entered refl))
      where
        not_entered : (x : Bool) → t.entered ≡ x → t.entered ≡ false
        not_entered true en = absurd (true≢false
            (ap is_some (sym e ∙ ap (λ y. if y then None else loop_of plan t.stmt (kind_of program t.stmt)) en)))
        not_entered false en = en
    entry_step None e = asked_step (head_deed program t s) refl
        (λ en loop. none_of (kind_of program t.stmt) loop
        (sym (ap (λ y. if y then None else loop_of plan t.stmt (kind_of program t.stmt)) en) ∙ e))
      where
        none_of : (k : Kind) → IsWhile k → loop_of plan t.stmt k ≡ None → block_of plan (block.Loop t.stmt) ≡ None
        none_of (kind.While x body) w h = h
        none_of k w h = absurd w

    -- a completion takes a send off
    offer_step : (o : Option ℕ) → offer_of program t ≡ o
        → IsCountedStep program plan s
        (need_by_offer plan t.stmt o
        (need_by_entry program plan t.stmt s (entry_of program plan t) (head_deed program t s)))
        (act_by_need program plan a t ts
        (need_by_offer plan t.stmt o
        (need_by_entry program plan t.stmt s (entry_of program plan t) (head_deed program t s))) s)
    offer_step (Some x) e =
        popped (Done x (unit_of plan (start.After t.stmt)))
        (act_by_need program plan a t ts (Done x (unit_of plan (start.After t.stmt))) s) refl refl refl
        (closed_head (offered_goes_on program t x e) (offered_no_loop program t x e))
    offer_step None e = entry_step (entry_of program plan t) refl

    poor_step : (b : Bool) → IsCountedStep program plan s (cond b Budget (need_of_head program plan t s))
        (act_by_need program plan a t ts (cond b Budget (need_of_head program plan t s)) s)
    poor_step true = same_todo Budget (act_by_need program plan a t ts Budget s) refl refl refl
    poor_step false = offer_step (offer_of program t) refl

    -- the step opens and closes what it says
    pub counted_step : s.status ≡ None → IsCountedStep program plan s (need_of program plan s) (act program plan s a)
    counted_step running =
        let n : need_of program plan s ≡ cond
        (nat_lt s.budget (s.spent + cost plan (need_of_head program plan t s))) Budget
        (need_of_head program plan t s) = need_at_todo program plan s (t ∷ ts) running is in
        subst (λ m. IsCountedStep program plan s m (act program plan s a)) (sym n)
        (subst (λ x. IsCountedStep program plan s
        (cond (nat_lt s.budget (s.spent + cost plan (need_of_head program plan t s))) Budget
        (need_of_head program plan t s)) x)
        (sym (ap (λ todo. act_at program plan a todo s) is ∙ ap (λ m. act_by_need program plan a t ts m s) n))
        (poor_step (nat_lt s.budget (s.spent + cost plan (need_of_head program plan t s)))))
