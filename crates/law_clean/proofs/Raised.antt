-- A process that has spent more than it did: it needs and does the same, as long as that can be paid for.
use Rattle.std.proofs.Common.{◌≡◌, ℕ, ◌+◌, ◌≤◌, ◌<◌, Bool, true, false, List, [], ◌∷◌, Option, Some, None, Ok, Err, refl, ap, sym, ◌∙◌, arith, true≢false}
use Rattle.std.proofs.lemmas.Bool.{cond-true, cond-false, le-ltb, lt-ltb}
use Rattle.std.specs.Prelude.{nat_lt, option_to_list, slice_get, if◌then◌else◌}
use Rattle.ppd_ast.specs.declared.plan.Plan.{Plan}
use Rattle.ppd_ast.specs.declared.program.Program.{Program}
use Rattle.ppd_ast.specs.declared.status.Status.{Status}
use Rattle.ppd_sem.specs.declared.asking.Pause.TheVariants.{Wants, Traps}
use Rattle.ppd_sem.specs.declared.proc.Answer.{Answer}
use Rattle.ppd_sem.specs.declared.proc.Need.{Need}
use Rattle.ppd_sem.specs.declared.proc.Need.TheVariants.{Enter, Invoke, Back, Offer, Done, Trap, Budget, Stopped}
use Rattle.ppd_sem.specs.declared.proc.Proc.{Proc}
use Rattle.ppd_sem.specs.declared.proc.Todo.{Todo}
use Rattle.ppd_sem.specs.Asked.{Asked}
use Rattle.ppd_sem.specs.Deed.{Deed, set_local, set_shared, clear, branch, turn, leave, invoke, back, take, give, send, receive, print, pass, finish}
use Rattle.ppd_sem.proofs.EventWords.{arguments_of_head, event_at, result_of_head}
use Rattle.ppd_sem.specs.Process.{act, act_by_asked, act_by_deed, act_by_need, charged, cost, entry_of, head_deed, need_of, need_of_asked, need_of_deed, need_of_head, offer_of, within_budget}
use Rattle.ppd_sem.proofs.NeedWords.{act_at, need_by_entry, need_by_offer}
use Rattle.ppd_sem.proofs.Progress.{need_at_status, need_at_todo}
use Rattle.ppd_model.specs.declared.tracing.Taken.{Taken}
use Rattle.ppd_model.specs.FullTrace.{event_of}
use Rattle.ppd_model.specs.Marks.{closed, opened}
use Rattle.ppd_model.specs.Replay.{is_budget}

-- so much more is spent
abbrev pub raised : ℕ → Proc → Proc
raised d s = record s { spent = s.spent + d }

unbudgeted : (b : Bool) (m n : Need) → (if b then Budget else m) ≡ n → is_budget n ≡ false → m ≡ n
unbudgeted true m n e pay = absurd (true≢false (ap is_budget e ∙ pay))
unbudgeted false m n e pay = e

module _ (program : Program) (plan : Plan) (d : ℕ) where
  -- ---- needs

  need_deed : (t : ℕ) (s : Proc) (x : Deed) → need_of_deed program plan t (raised d s) x ≡ need_of_deed program plan t s x
  need_deed t s (set_local c v) = refl
  need_deed t s (set_shared c v) = refl
  need_deed t s (clear base len) = refl
  need_deed t s (branch stmts) = refl
  need_deed t s (turn stmts) = refl
  need_deed t s leave = refl
  need_deed t s (invoke f values into) = refl
  need_deed t s (back value) = refl
  need_deed t s (take sem) = refl
  need_deed t s (give sem) = refl
  need_deed t s (send chan value) = refl
  need_deed t s (receive chan into) = refl
  need_deed t s (print v) = refl
  need_deed t s pass = refl
  need_deed t s finish = refl

  need_asked : (t : ℕ) (s : Proc) (x : Asked Deed) → need_of_asked program plan t (raised d s) x ≡ need_of_asked program plan t s x
  need_asked t s (Ok p) = need_deed t s p.0
  need_asked t s (Err pause) = refl

  need_entry : (t : ℕ) (s : Proc) (o : Option ℕ) (x : Asked Deed) → need_by_entry program plan t (raised d s) o x ≡ need_by_entry program plan t s o x
  need_entry t s (Some b) x = refl
  need_entry t s None x = need_asked t s x

  need_head : (t : Todo) (s : Proc) → need_of_head program plan t (raised d s) ≡ need_of_head program plan t s
  need_head t s = ap (need_by_offer plan t.stmt (offer_of program t)) (need_entry t.stmt s (entry_of program plan t) (head_deed program t s))

  -- what can be paid for is needed still
  pub need_raised : (s : Proc) (n : Need) → need_of program plan s ≡ n → is_budget n ≡ false → (s.spent + d) + cost plan n ≤ s.budget → need_of program plan (raised d s) ≡ n
  need_raised s n e pay le = by s.status s.todo refl refl
    where
      by : (o : Option Status) (ts : List Todo) → s.status ≡ o → s.todo ≡ ts → need_of program plan (raised d s) ≡ n
      by (Some x) ts is todo = need_at_status program plan (raised d s) (Some x) is ∙ sym (need_at_status program plan s (Some x) is) ∙ e
      by None [] is todo = need_at_todo program plan (raised d s) [] is todo ∙ sym (need_at_todo program plan s [] is todo) ∙ e
      by None (t ∷ ts) is todo =
          let here : within_budget plan s (need_of_head program plan t s) ≡ n = sym (need_at_todo program plan s (t ∷ ts) is todo) ∙ e in
          let same : need_of_head program plan t s ≡ n = unbudgeted (nat_lt s.budget (s.spent + cost plan (need_of_head program plan t s))) (need_of_head program plan t s) n here pay in
          need_at_todo program plan (raised d s) (t ∷ ts) is todo ∙ ap (within_budget plan (raised d s)) (need_head t s ∙ same)
          ∙ cond-false (nat_lt s.budget ((s.spent + d) + cost plan n)) Budget n (le-ltb s.budget ((s.spent + d) + cost plan n) le)

  -- where all is spent nothing can be paid for
  pub need_spent : (s : Proc) (t : Todo) (ts : List Todo) → s.status ≡ None → s.todo ≡ t ∷ ts → s.budget ≡ s.spent + d → need_of program plan (raised d s) ≡ Budget
  need_spent s t ts is todo all =
      let n : Need = need_of_head program plan t (raised d s) in
      let more : s.budget < (s.spent + d) + cost plan n = omega (arith, all) in
      need_at_todo program plan (raised d s) (t ∷ ts) is todo ∙ cond-true (nat_lt s.budget ((s.spent + d) + cost plan n)) Budget n (lt-ltb s.budget ((s.spent + d) + cost plan n) more)

  -- ---- steps

  act_deed : (a : Answer) (t : Todo) (ts : List Todo) (x : Deed) (s : Proc) → act_by_deed program a t ts x (raised d s) ≡ raised d (act_by_deed program a t ts x s)
  act_deed a t ts (set_local c v) s = refl
  act_deed a t ts (set_shared c v) s = refl
  act_deed a t ts (clear base len) s = refl
  act_deed a t ts (branch stmts) s = refl
  act_deed a t ts (turn stmts) s = refl
  act_deed a t ts leave s = refl
  act_deed a t ts (invoke f values into) s = refl
  act_deed a t ts (back value) s = refl
  act_deed a t ts (take sem) s = refl
  act_deed a t ts (give sem) s = refl
  act_deed a t ts (send chan value) s = refl
  act_deed a t ts (receive chan into) s = refl
  act_deed a t ts (print v) s = refl
  act_deed a t ts pass s = refl
  act_deed a t ts finish s = refl

  act_asked : (a : Answer) (t : Todo) (ts : List Todo) (x : Asked Deed) (s : Proc) → act_by_asked program a t ts x (raised d s) ≡ raised d (act_by_asked program a t ts x s)
  act_asked a t ts (Ok p) s = act_deed a t ts p.0 (record s { answers = [] })
  act_asked a t ts (Err (Wants c)) s = refl
  act_asked a t ts (Err (Traps x)) s = refl

  charged_raised : (n : Need) (s : Proc) → charged plan n (raised d s) ≡ raised d (charged plan n s)
  charged_raised n s =
      let e : (s.spent + d) + cost plan n ≡ (s.spent + cost plan n) + d = omega arith in
      ap (λ k. record s { spent = k; steps = s.steps + 1 }) e

  usual : (a : Answer) (t : Todo) (ts : List Todo) (n : Need) (s : Proc) → charged plan n (act_by_asked program a t ts (head_deed program t (raised d s)) (raised d s)) ≡ raised d (charged plan n (act_by_asked program a t ts (head_deed program t s) s))
  usual a t ts n s = ap (charged plan n) (act_asked a t ts (head_deed program t s) s) ∙ charged_raised n (act_by_asked program a t ts (head_deed program t s) s)

  act_need : (a : Answer) (t : Todo) (ts : List Todo) (n : Need) (s : Proc) → act_by_need program plan a t ts n (raised d s) ≡ raised d (act_by_need program plan a t ts n s)
  act_need a t ts Stopped s = refl
  act_need a t ts Budget s = refl
  act_need a t ts (Enter b u) s = charged_raised (Enter b u) (record s { todo = record t { entered = true } ∷ ts })
  act_need a t ts (Offer c v) s = charged_raised (Offer c v) (record s { todo = record t { offered = true } ∷ ts; answers = [] })
  act_need a t ts (Done c u) s = charged_raised (Done c u) (record s { todo = ts; answers = [] })
  act_need a t ts (Trap x) s = charged_raised (Trap x) (act_by_asked program a t ts (Err (Traps x)) s)
  act_need a t ts n s = usual a t ts n s

  pub act_raised : (s : Proc) (a : Answer) → need_of program plan (raised d s) ≡ need_of program plan s → act program plan (raised d s) a ≡ raised d (act program plan s a)
  act_raised s a e = at s.todo
    where
      at : (ts : List Todo) → act_at program plan a ts (raised d s) ≡ raised d (act_at program plan a ts s)
      at [] = refl
      at (t ∷ ts) = ap (λ n. act_by_need program plan a t ts n (raised d s)) e ∙ act_need a t ts (need_of program plan s) s

  -- ---- blocks and events

  arguments_raised : (s : Proc) (o : Option Todo) → arguments_of_head program (raised d s) o ≡ arguments_of_head program s o
  arguments_raised s None = refl
  arguments_raised s (Some t) = refl

  result_raised : (s : Proc) (o : Option Todo) → result_of_head program (raised d s) o ≡ result_of_head program s o
  result_raised s None = refl
  result_raised s (Some t) = refl

  pub opened_raised : (s : Proc) (n : Need) → opened program plan (raised d s) n ≡ opened program plan s n
  opened_raised s (Invoke (Some b) u) = ap (λ vs. Some (record { block = b; values = vs })) (arguments_raised s (slice_get s.todo 0))
  opened_raised s n = refl

  pub closed_raised : (s : Proc) (n : Need) → closed program plan (raised d s) n ≡ closed program plan s n
  closed_raised s (Back (Some b) u) = ap (λ o. Some (record { block = b; values = option_to_list o })) (result_raised s (slice_get s.todo 0))
  closed_raised s n = refl

  pub event_raised : (s : Proc) (x : Taken) (todo : List Todo) → need_of program plan (raised d s) ≡ need_of program plan s → event_of program plan (raised d s) x todo ≡ event_of program plan s x todo
  event_raised s x [] e = refl
  event_raised s x (t ∷ ts) e = ap (λ n. record (event_at program plan x.answer n s t) { number = x.number }) e
