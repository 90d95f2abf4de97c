-- A process goes on running until a step that ends it.
use Rattle.std.proofs.Common.{◌≡◌, ℕ, zero, suc, ◌+◌, ℤ, Bool, true, false, nat_lt, List, [], ◌∷◌, length, Option, Some, None, Ok, Err, refl, ap, sym, subst, ◌∙◌, if◌then◌else◌}
use Rattle.ppd_ast.specs.declared.plan.BlockKind.TheVariants as block
use Rattle.ppd_ast.specs.declared.plan.Plan.{Plan}
use Rattle.ppd_ast.specs.declared.plan.Start.TheVariants as start
use Rattle.ppd_ast.specs.declared.program.Program.{Program}
use Rattle.ppd_ast.specs.declared.status.Trap.TheVariants.{Depth}
use Rattle.ppd_ast.specs.declared.limits.TheConstants.{MOST_CALLS}
use Rattle.ppd_sem.specs.declared.asking.Pause.TheVariants.{Wants, Traps}
use Rattle.ppd_sem.specs.declared.proc.Answer.{Answer}
use Rattle.ppd_sem.specs.declared.proc.Need.{Need}
use Rattle.ppd_sem.specs.declared.proc.Need.TheVariants as need
use Rattle.ppd_sem.specs.declared.proc.Proc.{Proc}
use Rattle.ppd_sem.specs.declared.proc.Todo.{Todo}
use Rattle.ppd_sem.specs.Asked.{Asked}
use Rattle.ppd_sem.specs.Deed.{Deed, set_local, set_shared, clear, branch, turn, leave, invoke, back, take, give, send, receive, print, pass, finish}
use Rattle.ppd_sem.specs.Process.{act, act_by_asked, act_by_need, cost, entry_of, head_deed, need_of, need_of_asked, need_of_deed, need_of_head, need_of_leaving, need_of_send, offer_of}
use Rattle.ppd_sem.proofs.NeedWords.{act_at, need_by_entry, need_by_offer, need_of_running}
use Rattle.ppd_sem.specs.Tables.{block_of, capacity_of, unit_of}
use Rattle.ppd_sem.proofs.Progress.{need_at_todo}
use Rattle.ppd_model.specs.Logs.{status_of}

module _ (program : Program) (plan : Plan) (a : Answer) (t : Todo) (ts : List Todo) (s : Proc) (runs : s.status ≡ None) where
  -- the status after a step of this need
  abbrev Tells : Need → Type 0
  Tells n = (act_by_need program plan a t ts n s).status ≡ status_of n

  by_deed : (d : Deed) (left : List ℤ) → head_deed program t s ≡ Ok (d, left) → Tells (need_of_deed program plan t.stmt s d)
  by_deed (set_local c v) left is = ap (λ x. (act_by_asked program a t ts x s).status) is ∙ runs
  by_deed (set_shared c v) left is = ap (λ x. (act_by_asked program a t ts x s).status) is ∙ runs
  by_deed (clear base len) left is = ap (λ x. (act_by_asked program a t ts x s).status) is ∙ runs
  by_deed (branch stmts) left is = ap (λ x. (act_by_asked program a t ts x s).status) is ∙ runs
  by_deed (turn stmts) left is = ap (λ x. (act_by_asked program a t ts x s).status) is ∙ runs
  by_deed leave left is = leaving (block_of plan (block.Loop t.stmt))
    where
      leaving : (o : Option ℕ) → Tells (need_of_leaving plan t.stmt o)
      leaving None = ap (λ x. (act_by_asked program a t ts x s).status) is ∙ runs
      leaving (Some b) = ap (λ x. (act_by_asked program a t ts x s).status) is ∙ runs
  by_deed (invoke f values into) left is = calling (nat_lt MOST_CALLS (s.below + length s.frames))
    where
      calling : (b : Bool) → Tells (if b then need.Trap Depth else need.Invoke (block_of plan (block.Function f)) (unit_of plan (start.Entry f)))
      calling true = refl
      calling false = ap (λ x. (act_by_asked program a t ts x s).status) is ∙ runs
  by_deed (back value) left is = ap (λ x. (act_by_asked program a t ts x s).status) is ∙ runs
  by_deed (take sem) left is = ap (λ x. (act_by_asked program a t ts x s).status) is ∙ runs
  by_deed (give sem) left is = ap (λ x. (act_by_asked program a t ts x s).status) is ∙ runs
  by_deed (send chan value) left is = sending (capacity_of program chan)
    where
      sending : (n : ℕ) → Tells (need_of_send plan t.stmt n chan value)
      sending zero = runs
      sending (suc n) = ap (λ x. (act_by_asked program a t ts x s).status) is ∙ runs
  by_deed (receive chan into) left is = ap (λ x. (act_by_asked program a t ts x s).status) is ∙ runs
  by_deed (print v) left is = ap (λ x. (act_by_asked program a t ts x s).status) is ∙ runs
  by_deed pass left is = ap (λ x. (act_by_asked program a t ts x s).status) is ∙ runs
  by_deed finish left is = ap (λ x. (act_by_asked program a t ts x s).status) is

  by_asked : (x : Asked Deed) → head_deed program t s ≡ x → Tells (need_of_asked program plan t.stmt s x)
  by_asked (Ok p) is = by_deed p.0 p.1 is
  by_asked (Err (Wants c)) is = ap (λ x. (act_by_asked program a t ts x s).status) is ∙ runs
  by_asked (Err (Traps trap)) is = refl

  by_entry : (o : Option ℕ) → Tells (need_by_entry program plan t.stmt s o (head_deed program t s))
  by_entry (Some b) = runs
  by_entry None = by_asked (head_deed program t s) refl

  by_offer : (o : Option ℕ) → Tells (need_by_offer plan t.stmt o (need_by_entry program plan t.stmt s (entry_of program plan t) (head_deed program t s)))
  by_offer (Some c) = runs
  by_offer None = by_entry (entry_of program plan t)

  by_budget : (b : Bool) → Tells (if b then need.Budget else need_of_head program plan t s)
  by_budget true = refl
  by_budget false = by_offer (offer_of program t)

  at_head : Tells (need_of_running program plan (t ∷ ts) s)
  at_head = by_budget (nat_lt s.budget (s.spent + cost plan (need_of_head program plan t s)))

-- after a step of a running process its status is what the need says
pub status_after : (program : Program) (plan : Plan) (a : Answer) (s : Proc) → s.status ≡ None → (act program plan s a).status ≡ status_of (need_of program plan s)
status_after program plan a s runs = by_todo s.todo refl
  where
    by_todo : (todo : List Todo) → s.todo ≡ todo → (act_at program plan a todo s).status ≡ status_of (need_of program plan s)
    by_todo [] is = runs ∙ ap status_of (sym (need_at_todo program plan s [] runs is))
    by_todo (t ∷ ts) is =
        let e : need_of program plan s ≡ need_of_running program plan (t ∷ ts) s = need_at_todo program plan s (t ∷ ts) runs is in
        subst (λ n. (act_by_need program plan a t ts n s).status ≡ status_of n) (sym e) (at_head program plan a t ts s runs)
