-- A process comes to its end: each step makes its measure smaller, and keeps the budget.
use Rattle.std.proofs.Common.{◌≡◌, ◌≢◌, ◌⊎◌, ◌+◌, ◌-◌, ◌<◌, ◌≤◌, Bool, true, false, nat_lt, List, [], ◌∷◌, Option, Some, None, Ok, Err, refl, ap, sym, ◌∙◌, subst, arith, inl, inr, if◌then◌else◌}
use Rattle.std.proofs.lemmas.Bool.Decides.{nat_tests}
use Rattle.ppd_ast.specs.declared.program.Program.{Program}
use Rattle.ppd_ast.specs.declared.plan.Plan.{Plan}
use Rattle.ppd_ast.specs.declared.status.Status.{Status}
use Rattle.ppd_ast.specs.declared.status.Status.TheVariants as status
use Rattle.ppd_sem.specs.declared.asking.Pause.TheVariants.{Wants, Traps}
use Rattle.ppd_sem.specs.declared.proc.Answer.{Answer}
use Rattle.ppd_sem.specs.declared.proc.Need.{Need}
use Rattle.ppd_sem.specs.declared.proc.Need.TheVariants.{Read, Write, Plain, Enter, Leave, Invoke, Back, P, V, Send, Offer, Done, Recv, End, Trap, Budget, Stopped}
use Rattle.ppd_sem.specs.declared.proc.Proc.{Proc}
use Rattle.ppd_sem.specs.declared.proc.Todo.{Todo}
use Rattle.ppd_sem.specs.Asked.{Asked}
use Rattle.ppd_sem.specs.Deed.{Deed, set_local, set_shared, clear, branch, turn, leave, invoke, back, take, give, send, receive, print, pass, finish}
use Rattle.ppd_sem.specs.Measure.{measure, measure_by}
use Rattle.ppd_sem.specs.Process.{act, act_by_asked, act_by_deed, act_by_need, charged, cost, head_deed, need_of, need_of_head, within_budget}
use Rattle.ppd_sem.proofs.NeedWords.{act_at, need_by_status, need_of_running}

-- the same budget, the same cost and steps so far, and the same calls below
pub record SamePurse (s t : Proc) : Type 0 where
  pub budget : t.budget ≡ s.budget
  pub spent : t.spent ≡ s.spent
  pub steps : t.steps ≡ s.steps
  pub below : t.below ≡ s.below

deed_purse : (program : Program) (a : Answer) (t : Todo) (ts : List Todo) (d : Deed) (s : Proc) → SamePurse s (act_by_deed program a t ts d s)
deed_purse program a t ts (set_local c v) s = record { budget = refl; spent = refl; steps = refl; below = refl }
deed_purse program a t ts (set_shared c v) s = record { budget = refl; spent = refl; steps = refl; below = refl }
deed_purse program a t ts (clear base len) s = record { budget = refl; spent = refl; steps = refl; below = refl }
deed_purse program a t ts (branch stmts) s = record { budget = refl; spent = refl; steps = refl; below = refl }
deed_purse program a t ts (turn stmts) s = record { budget = refl; spent = refl; steps = refl; below = refl }
deed_purse program a t ts leave s = record { budget = refl; spent = refl; steps = refl; below = refl }
deed_purse program a t ts (invoke f values into) s = record { budget = refl; spent = refl; steps = refl; below = refl }
deed_purse program a t ts (back value) s = record { budget = refl; spent = refl; steps = refl; below = refl }
deed_purse program a t ts (take sem) s = record { budget = refl; spent = refl; steps = refl; below = refl }
deed_purse program a t ts (give sem) s = record { budget = refl; spent = refl; steps = refl; below = refl }
deed_purse program a t ts (send chan value) s = record { budget = refl; spent = refl; steps = refl; below = refl }
deed_purse program a t ts (receive chan into) s = record { budget = refl; spent = refl; steps = refl; below = refl }
deed_purse program a t ts (print v) s = record { budget = refl; spent = refl; steps = refl; below = refl }
deed_purse program a t ts pass s = record { budget = refl; spent = refl; steps = refl; below = refl }
deed_purse program a t ts finish s = record { budget = refl; spent = refl; steps = refl; below = refl }

pub asked_purse : (program : Program) (a : Answer) (t : Todo) (ts : List Todo) (asked : Asked Deed) (s : Proc) → SamePurse s (act_by_asked program a t ts asked s)
asked_purse program a t ts (Ok p) s =
    let same : SamePurse (record s { answers = [] }) (act_by_deed program a t ts p.0 (record s { answers = [] })) =
    deed_purse program a t ts p.0 (record s { answers = [] }) in
    record { budget = same.budget; spent = same.spent; steps = same.steps; below = same.below }
asked_purse program a t ts (Err (Wants cell)) s = record { budget = refl; spent = refl; steps = refl; below = refl }
asked_purse program a t ts (Err (Traps trap)) s = record { budget = refl; spent = refl; steps = refl; below = refl }

-- a step from s to t: the budget stays, it is not overspent, and fewer steps are left
record Goes (s t : Proc) : Type 0 where
  pub budget : t.budget ≡ s.budget
  pub within : t.spent ≤ t.budget
  pub falls : measure t < measure s

running_measure : (s : Proc) → s.status ≡ None → measure s ≡ s.budget + 1 - s.spent
running_measure s e = ap (λ o. measure_by o s) e

measure_by_le : (o : Option Status) (s : Proc) → measure_by o s ≤ s.budget + 1 - s.spent
measure_by_le None s = omega arith
measure_by_le (Some _) s = omega arith

charged_goes : (plan : Plan) (n : Need) (s t : Proc) → SamePurse s t → s.status ≡ None → s.spent + cost plan n ≤ s.budget → Goes s (charged plan n t)
charged_goes plan n s t same running h =
    let budget : t.budget ≡ s.budget = same.budget in
    let spent : t.spent ≡ s.spent = same.spent in
    record {
      budget = budget;
      within = omega arith;
      falls = omega (arith, measure_by_le t.status (charged plan n t), running_measure s running);
    }

ended_goes : (s t : Proc) → SamePurse s t → measure t ≡ 0 → s.status ≡ None → s.spent ≤ s.budget → Goes s t
ended_goes s t same over running h =
    let budget : t.budget ≡ s.budget = same.budget in
    let spent : t.spent ≡ s.spent = same.spent in
    record { budget = budget; within = omega arith; falls = omega (arith, running_measure s running) }

asked_goes : (program : Program) (plan : Plan) (a : Answer) (t : Todo) (ts : List Todo) (n : Need) (s : Proc) → s.status ≡ None → s.spent + cost plan n ≤ s.budget → Goes s (charged plan n (act_by_asked program a t ts (head_deed program t s) s))
asked_goes program plan a t ts n s = charged_goes plan n s (act_by_asked program a t ts (head_deed program t s) s) (asked_purse program a t ts (head_deed program t s) s)

-- the step of this need
need_goes : (program : Program) (plan : Plan) (a : Answer) (t : Todo) (ts : List Todo) (n : Need) (s : Proc) → s.status ≡ None → n ≢ Stopped → s.spent + cost plan n ≤ s.budget → Goes s (act_by_need program plan a t ts n s)
need_goes program plan a t ts (Read c) s r e h = asked_goes program plan a t ts (Read c) s r h
need_goes program plan a t ts (Write c v) s r e h = asked_goes program plan a t ts (Write c v) s r h
need_goes program plan a t ts Plain s r e h = asked_goes program plan a t ts Plain s r h
need_goes program plan a t ts (Enter b u) s r e h =
    charged_goes plan (Enter b u) s (record s { todo = record t { entered = true } ∷ ts }) record { budget = refl; spent = refl; steps = refl; below = refl } r h
need_goes program plan a t ts (Leave b u) s r e h = asked_goes program plan a t ts (Leave b u) s r h
need_goes program plan a t ts (Invoke b u) s r e h = asked_goes program plan a t ts (Invoke b u) s r h
need_goes program plan a t ts (Back b u) s r e h = asked_goes program plan a t ts (Back b u) s r h
need_goes program plan a t ts (P x u) s r e h = asked_goes program plan a t ts (P x u) s r h
need_goes program plan a t ts (V x u) s r e h = asked_goes program plan a t ts (V x u) s r h
need_goes program plan a t ts (Send c v u) s r e h = asked_goes program plan a t ts (Send c v u) s r h
need_goes program plan a t ts (Offer c v) s r e h =
    charged_goes plan (Offer c v) s (record s { todo = record t { offered = true } ∷ ts; answers = [] }) record { budget = refl; spent = refl; steps = refl; below = refl } r h
need_goes program plan a t ts (Done c u) s r e h =
    charged_goes plan (Done c u) s (record s { todo = ts; answers = [] }) record { budget = refl; spent = refl; steps = refl; below = refl } r h
need_goes program plan a t ts (Recv c u) s r e h = asked_goes program plan a t ts (Recv c u) s r h
need_goes program plan a t ts (End b) s r e h = asked_goes program plan a t ts (End b) s r h
need_goes program plan a t ts (Trap x) s r e h =
    charged_goes plan (Trap x) s (record s { status = Some (status.Trap x) }) record { budget = refl; spent = refl; steps = refl; below = refl } r h
need_goes program plan a t ts Budget s r e h =
    ended_goes s (record s { status = Some status.Budget }) record { budget = refl; spent = refl; steps = refl; below = refl } refl r (omega arith)
need_goes program plan a t ts Stopped s r e h = absurd (e refl)

paid_goes : (program : Program) (plan : Plan) (a : Answer) (t : Todo) (ts : List Todo) (n : Need) (s : Proc) (poor : Bool) → nat_lt s.budget (s.spent + cost plan n) ≡ poor → s.status ≡ None → s.spent ≤ s.budget → (if poor then Budget else n) ≢ Stopped → Goes s (act_by_need program plan a t ts (if poor then Budget else n) s)
paid_goes program plan a t ts n s true test r h e =
    ended_goes s (record s { status = Some status.Budget }) record { budget = refl; spent = refl; steps = refl; below = refl } refl r h
paid_goes program plan a t ts n s false test r h e =
    let paid : s.spent + cost plan n ≤ s.budget = grind (arith, nat_tests) in
    need_goes program plan a t ts n s r e paid

-- ---- what the next step needs, from the parts of the state

pub need_at_status : (program : Program) (plan : Plan) (s : Proc) (o : Option Status) → s.status ≡ o → need_of program plan s ≡ need_by_status program plan o s
need_at_status program plan s o e = ap (λ o. need_by_status program plan o s) e

pub need_at_todo : (program : Program) (plan : Plan) (s : Proc) (ts : List Todo) → s.status ≡ None → s.todo ≡ ts → need_of program plan s ≡ need_of_running program plan ts s
need_at_todo program plan s ts r e = need_at_status program plan s None r ∙ ap (λ ts. need_of_running program plan ts s) e

goes_at : (program : Program) (plan : Plan) (a : Answer) (s : Proc) (o : Option Status) (ts : List Todo) → s.status ≡ o → s.todo ≡ ts → s.spent ≤ s.budget → need_of program plan s ≢ Stopped → Goes s (act_at program plan a ts s)
goes_at program plan a s (Some x) ts r e h n = absurd (n (need_at_status program plan s (Some x) r))
goes_at program plan a s None [] r e h n = absurd (n (need_at_todo program plan s [] r e))
goes_at program plan a s None (t ∷ ts) r e h n =
    let head : Need = need_of_head program plan t s in
    let is : need_of program plan s ≡ within_budget plan s head = need_at_todo program plan s (t ∷ ts) r e in
    let paid : Goes s (act_by_need program plan a t ts (within_budget plan s head) s) =
    paid_goes program plan a t ts head s (nat_lt s.budget (s.spent + cost plan head)) refl r h (λ stops. n (is ∙ stops)) in
    subst (λ (x : Need). Goes s (act_by_need program plan a t ts x s)) (sym is) paid

pub stays_at : (program : Program) (plan : Plan) (a : Answer) (s : Proc) (ts : List Todo) → need_of program plan s ≡ Stopped → act_at program plan a ts s ≡ s
stays_at program plan a s [] n = refl
stays_at program plan a s (t ∷ ts) n = ap (λ x. act_by_need program plan a t ts x s) n

stopped_or : (n : Need) → (n ≡ Stopped) ⊎ (n ≢ Stopped)
stopped_or Stopped = inl refl
stopped_or _ = inr (λ e. cc)

-- ---- the laws

-- a process that needs nothing stays as it is
pub act-stopped : (program : Program) (plan : Plan) (s : Proc) (a : Answer) → need_of program plan s ≡ Stopped → act program plan s a ≡ s
act-stopped program plan s a n = stays_at program plan a s s.todo n

-- each step of a process that needs something makes its measure smaller
pub act-falls : (program : Program) (plan : Plan) (s : Proc) (a : Answer) → need_of program plan s ≢ Stopped → s.spent ≤ s.budget → measure (act program plan s a) < measure s
act-falls program plan s a n h = (goes_at program plan a s s.status s.todo refl refl h n).falls

-- the same budget, and not overspent
pub record IsWithinBudget (s t : Proc) : Type 0 where
  pub budget : t.budget ≡ s.budget
  pub spent : t.spent ≤ t.budget

-- each step keeps the budget and overspends nothing
pub act-within : (program : Program) (plan : Plan) (s : Proc) (a : Answer) → s.spent ≤ s.budget → IsWithinBudget s (act program plan s a)
act-within program plan s a h =
    elim (stopped_or (need_of program plan s)) [
      | inl n ↦ subst (λ (t : Proc). IsWithinBudget s t) (sym (act-stopped program plan s a n)) record { budget = refl; spent = h }
      | inr n ↦
          let goes : Goes s (act program plan s a) = goes_at program plan a s s.status s.todo refl refl h n in
          record { budget = goes.budget; spent = goes.within }
    ]
