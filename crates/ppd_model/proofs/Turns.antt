-- Each turn of a replay takes one step of its process, and its budget bounds them.
use Rattle.std.proofs.Common.{◌≡◌, ◌≢◌, ℕ, zero, suc, ◌+◌, ◌<◌, ◌≤◌, ℤ, Bool, true, false, List, [], ◌∷◌, Option, Some, None, is_some, refl, ap, sym, ◌∙◌, subst, arith, inl, inr, if◌then◌else◌}
use Rattle.ppd_ast.specs.declared.plan.Plan.{Plan}
use Rattle.ppd_ast.specs.declared.program.Program.{Program}
use Rattle.ppd_ast.specs.declared.status.Status.{Status}
use Rattle.ppd_ast.specs.declared.status.Status.TheVariants as status
use Rattle.ppd_model.specs.IntervalLogs.{IntervalLog}
use Rattle.ppd_model.specs.Pieces.{Piece, unit, sync, nested, unfinished, postlog, finish}
use Rattle.ppd_sem.specs.declared.proc.Answer.{Answer}
use Rattle.ppd_sem.specs.declared.proc.Answer.TheVariants.{Value, Go}
use Rattle.ppd_sem.specs.declared.proc.Need.{Need}
use Rattle.ppd_sem.specs.declared.proc.Need.TheVariants.{Read, Write, Plain, Enter, Leave, Invoke, Back, P, V, Send, Offer, Done, Recv, End, Trap, Budget, Stopped}
use Rattle.ppd_sem.specs.declared.proc.Proc.{Proc}
use Rattle.ppd_sem.specs.declared.proc.Todo.{Todo}
use Rattle.ppd_sem.specs.Blocks.{block_kind, block_unit, skipped, unit_past}
use Rattle.ppd_sem.specs.Process.{act, act_by_asked, act_by_need, charged, cost, head_deed, need_of}
use Rattle.ppd_sem.proofs.NeedWords.{act_at}
use Rattle.ppd_sem.proofs.Paid.{need-paid}
use Rattle.ppd_sem.proofs.Progress.{SamePurse, asked_purse, need_at_status, need_at_todo}
use Rattle.ppd_model.specs.declared.flow.Item.TheVariants as item
use Rattle.ppd_model.specs.Story.{unit_started}
use Rattle.ppd_model.specs.Synchronizations.{kind_of_sync}
use Rattle.ppd_model.specs.declared.wanted.Wanted.{Wanted}
use Rattle.ppd_model.specs.declared.wanted.Wanted.TheVariants as wanted
use Rattle.ppd_model.specs.Fits.{found_of, wanted_of, same_trap, fits}
use Rattle.ppd_model.specs.Replay.{Replaying, Replayed, Turn, more, done, begun_replay, counted, end_here, fail, finished, go_on, goes_on, next_piece, past_piece, received, replay, replay_from, step_with, step_without, stepped, take_unit, turn, turn_by_end, turn_by_wanted, unit_taken, value_in_force, with_call, with_event, with_item, with_write}
use Rattle.ppd_model.proofs.ReplayWords.{skip_nested, synchronize, with_event_of}
use Rattle.ppd_model.specs.ReplayLaws.{IsLast, IsOneStep, ReplaysAreWithinBudget, TakesOneStep, TurnsAreSteps, TurnsSuffice}

module _ (program : Program) (plan : Plan) where
  -- ---- the process

  -- t is s after a step of need n
  record Pays (n : Need) (s t : Proc) : Type 0 where
    pub budget : t.budget ≡ s.budget
    pub spent : t.spent ≡ s.spent + cost plan n
    pub steps : t.steps ≡ s.steps + 1

  asked_pays : (a : Answer) (t : Todo) (ts : List Todo) (n : Need) (s : Proc) → Pays n s (charged plan n (act_by_asked program a t ts (head_deed program t s) s))
  asked_pays a t ts n s =
      let same : SamePurse s (act_by_asked program a t ts (head_deed program t s) s) = asked_purse program a t ts (head_deed program t s) s in
      record { budget = same.budget; spent = ap (λ (x : ℕ). x + cost plan n) same.spent; steps = ap (λ (x : ℕ). x + 1) same.steps }

  need_pays : (a : Answer) (t : Todo) (ts : List Todo) (n : Need) (s : Proc) → n ≢ Stopped → n ≢ Budget → Pays n s (act_by_need program plan a t ts n s)
  need_pays a t ts (Read c) s x y = asked_pays a t ts (Read c) s
  need_pays a t ts (Write c v) s x y = asked_pays a t ts (Write c v) s
  need_pays a t ts Plain s x y = asked_pays a t ts Plain s
  need_pays a t ts (Enter b u) s x y = record { budget = refl; spent = refl; steps = refl }
  need_pays a t ts (Leave b u) s x y = asked_pays a t ts (Leave b u) s
  need_pays a t ts (Invoke b u) s x y = asked_pays a t ts (Invoke b u) s
  need_pays a t ts (Back b u) s x y = asked_pays a t ts (Back b u) s
  need_pays a t ts (P o u) s x y = asked_pays a t ts (P o u) s
  need_pays a t ts (V o u) s x y = asked_pays a t ts (V o u) s
  need_pays a t ts (Send c v u) s x y = asked_pays a t ts (Send c v u) s
  need_pays a t ts (Offer c v) s x y = record { budget = refl; spent = refl; steps = refl }
  need_pays a t ts (Done c u) s x y = record { budget = refl; spent = refl; steps = refl }
  need_pays a t ts (Recv c u) s x y = asked_pays a t ts (Recv c u) s
  need_pays a t ts (End b) s x y = asked_pays a t ts (End b) s
  need_pays a t ts (Trap o) s x y = record { budget = refl; spent = refl; steps = refl }
  need_pays a t ts Budget s x y = absurd (y refl)
  need_pays a t ts Stopped s x y = absurd (x refl)

  act_at_pays : (a : Answer) (s : Proc) (n : Need) (o : Option Status) (ts : List Todo) → s.status ≡ o → s.todo ≡ ts → need_of program plan s ≡ n → n ≢ Stopped → n ≢ Budget → Pays n s (act_at program plan a ts s)
  act_at_pays a s n (Some how) ts r d is x y = absurd (x (sym is ∙ need_at_status program plan s (Some how) r))
  act_at_pays a s n None [] r d is x y = absurd (x (sym is ∙ need_at_todo program plan s [] r d))
  act_at_pays a s n None (t ∷ ts) r d is x y =
      subst (λ (m : Need). Pays n s (act_by_need program plan a t ts m s)) (sym is) (need_pays a t ts n s x y)

  act_pays : (a : Answer) (s : Proc) (n : Need) → need_of program plan s ≡ n → n ≢ Stopped → n ≢ Budget → Pays n s (act program plan s a)
  act_pays a s n is x y = act_at_pays a s n s.status s.todo refl refl is x y

  skip_pays : (values : List ℤ) (s : Proc) (n : Need) → need_of program plan s ≡ n → Pays n s (skipped program plan values s)
  skip_pays values s n is =
      let free : Pays (need_of program plan s) s (skipped program plan values s) = record { budget = refl; spent = refl; steps = refl } in
      subst (λ (m : Need). Pays m s (skipped program plan values s)) is free

  -- ---- what is noted beside the step

  -- the process and the counter are those of r
  record Same (r q : Replaying) : Type 0 where
    pub proc : q.proc ≡ r.proc
    pub steps : q.steps ≡ r.steps

  event_of_same : (a : Answer) (number : Option ℕ) (todo : List Todo) (r : Replaying) → Same r (with_event_of program plan a number todo r)
  event_of_same a number [] r = record { proc = refl; steps = refl }
  event_of_same a number (t ∷ ts) r = record { proc = refl; steps = refl }

  event_same : (a : Answer) (number : Option ℕ) (r : Replaying) → Same r (with_event program plan a number r)
  event_same a number r = event_of_same a number r.proc.todo r

  call_same : (n : Need) (r : Replaying) → Same r (with_call program plan n r)
  call_same (Invoke b u) r = event_same Go None r
  call_same (Read c) r = record { proc = refl; steps = refl }
  call_same (Write c v) r = record { proc = refl; steps = refl }
  call_same Plain r = record { proc = refl; steps = refl }
  call_same (Enter b u) r = record { proc = refl; steps = refl }
  call_same (Leave b u) r = record { proc = refl; steps = refl }
  call_same (Back b u) r = record { proc = refl; steps = refl }
  call_same (P o u) r = record { proc = refl; steps = refl }
  call_same (V o u) r = record { proc = refl; steps = refl }
  call_same (Send c v u) r = record { proc = refl; steps = refl }
  call_same (Offer c v) r = record { proc = refl; steps = refl }
  call_same (Done c u) r = record { proc = refl; steps = refl }
  call_same (Recv c u) r = record { proc = refl; steps = refl }
  call_same (End b) r = record { proc = refl; steps = refl }
  call_same (Trap o) r = record { proc = refl; steps = refl }
  call_same Budget r = record { proc = refl; steps = refl }
  call_same Stopped r = record { proc = refl; steps = refl }

  -- ---- one step

  -- the step of need n, which can be paid for, from r to a replay with this process and counter
  one_step : (n : Need) (r next : Replaying) → need_of program plan r.proc ≡ n → n ≢ Stopped → n ≢ Budget → Pays n r.proc next.proc → next.steps ≡ r.steps + 1 → IsOneStep r next
  one_step n r next is x y pays counts =
      let budget : next.proc.budget ≡ r.proc.budget = pays.budget in
      let spent : next.proc.spent ≡ r.proc.spent + cost plan n = pays.spent in
      let afford : r.proc.spent + cost plan n ≤ r.proc.budget = need-paid program plan r.proc n is x y in
      record { steps = counts; process = pays.steps; budget = budget; paid = omega arith; within = omega arith }

  stepped_one : (a : Answer) (n : Need) (r q : Replaying) → Same r q → need_of program plan r.proc ≡ n → n ≢ Stopped → n ≢ Budget → IsOneStep r (stepped program plan a q)
  stepped_one a n r q same is x y =
      one_step n r (stepped program plan a q) is x y
      (subst (λ (s : Proc). Pays n r.proc (act program plan s a)) (sym same.proc) (act_pays a r.proc n is x y))
      (ap (λ (m : ℕ). m + 1) same.steps)

  -- the last step, which can be paid for
  last_step : (n : Need) (r q : Replaying) → Same r q → need_of program plan r.proc ≡ n → n ≢ Stopped → n ≢ Budget → TakesOneStep r (finished (counted q))
  last_step n r q same is x y =
      let afford : r.proc.spent + cost plan n ≤ r.proc.budget = need-paid program plan r.proc n is x y in
      inl (ap (λ (m : ℕ). m + 1) same.steps, omega arith)

  -- ---- the unit that starts

  unit_one : (u : ℕ) (piece : Piece) (r q : Replaying) → IsOneStep r q → IsOneStep r (unit_taken plan u piece q)
  unit_one u (unit v values) r q one = record { steps = one.steps; process = one.process; budget = one.budget; paid = one.paid; within = one.within }
  unit_one u (sync kind object number value) r q one = one
  unit_one u (nested k b values) r q one = one
  unit_one u (unfinished k b) r q one = one
  unit_one u (postlog values) r q one = one
  unit_one u (finish how rest) r q one = one

  unit_goes : (u : ℕ) (r q : Replaying) (ok : Bool) → IsOneStep r q → TakesOneStep r (if ok then more (unit_taken plan u (next_piece q).1 q) else fail q (wanted.Unit u))
  unit_goes u r q true one = unit_one u (next_piece q).1 r q one
  unit_goes u r q false one =
      let budget : q.proc.budget ≡ r.proc.budget = one.budget in
      let paid : r.proc.spent < q.proc.spent = one.paid in
      let within : q.proc.spent ≤ q.proc.budget = one.within in
      inl (one.steps, omega arith)

  take_goes : (u : ℕ) (r q : Replaying) → IsOneStep r q → TakesOneStep r (take_unit plan (Some u) q)
  take_goes u r q one = unit_goes u r q (fits (wanted.Unit u) (found_of (next_piece q).1)) one

  take_if_goes : (u : Option ℕ) (r q : Replaying) → IsOneStep r q → TakesOneStep r (take_unit plan u q)
  take_if_goes None r q one = one
  take_if_goes (Some u) r q one = take_goes u r q one

  -- past its piece a step is the same
  past_one : (r q : Replaying) → IsOneStep r q → IsOneStep r (past_piece q)
  past_one r q one = record { steps = one.steps; process = one.process; budget = one.budget; paid = one.paid; within = one.within }

  -- ---- a step that needs a piece

  sync_goes : (n : Need) (number : ℕ) (value : ℤ) (r : Replaying) → need_of program plan r.proc ≡ n → n ≢ Stopped → n ≢ Budget → TakesOneStep r (synchronize program plan n number value r)
  sync_goes n number value r is x y =
      let a : Answer = received n value in
      let q : Replaying = with_event program plan a (Some number) r in
      take_if_goes (unit_started n) r (past_piece (stepped program plan a q))
      (past_one r (stepped program plan a q) (stepped_one a n r q (event_same a (Some number) r) is x y))

  skip_goes : (n : Need) (k b : ℕ) (values : List ℤ) (r : Replaying) → need_of program plan r.proc ≡ n → n ≢ Stopped → n ≢ Budget → TakesOneStep r (skip_nested program plan n k b values r)
  skip_goes n k b values r is x y =
      let q : Replaying = with_item (item.Nested k b values true) (with_call program plan n r) in
      let next : Replaying = counted (record q { proc = skipped program plan values r.proc }) in
      let same : Same r (with_call program plan n r) = call_same n r in
      take_goes (unit_past plan r.proc.todo n) r (past_piece next)
      (past_one r next (one_step n r next is x y (skip_pays values r.proc n is) (ap (λ (m : ℕ). m + 1) same.steps)))

  with_goes : (n : Need) (piece : Piece) (r : Replaying) → need_of program plan r.proc ≡ n → n ≢ Stopped → n ≢ Budget → TakesOneStep r (step_with program plan n piece r)
  with_goes n (sync kind object number value) r is x y = sync_goes n number value r is x y
  with_goes n (nested k b values) r is x y = skip_goes n k b values r is x y
  with_goes n (unfinished k b) r is x y =
      let same : Same r (with_call program plan n r) = call_same n r in
      last_step n r (with_item (item.Nested k b [] false) (with_call program plan n r)) record { proc = same.proc; steps = same.steps } is x y
  with_goes n (unit u values) r is x y = last_step n r (with_event program plan Go None r) (event_same Go None r) is x y
  with_goes n (postlog values) r is x y = last_step n r (with_event program plan Go None r) (event_same Go None r) is x y
  with_goes n (finish how rest) r is x y = last_step n r (with_event program plan Go None r) (event_same Go None r) is x y

  -- ---- a step that needs none

  rest_goes : (n : Need) (r q : Replaying) → Same r q → need_of program plan r.proc ≡ n → n ≢ Stopped → n ≢ Budget → TakesOneStep r (take_unit plan (unit_started n) (stepped program plan Go q))
  rest_goes n r q same is x y = take_if_goes (unit_started n) r (stepped program plan Go q) (stepped_one Go n r q same is x y)

  -- an event, and nothing else
  plain_goes : (n : Need) (r : Replaying) → need_of program plan r.proc ≡ n → n ≢ Stopped → n ≢ Budget → TakesOneStep r (take_unit plan (unit_started n) (stepped program plan Go (with_event program plan Go None r)))
  plain_goes n r is x y = rest_goes n r (with_event program plan Go None r) (event_same Go None r) is x y

  write_same : (c : ℕ) (v : ℤ) (r q : Replaying) → Same r q → Same r (with_write (Write c v) q)
  write_same c v r q same = record { proc = same.proc; steps = same.steps }

  without_goes : (n : Need) (r : Replaying) → need_of program plan r.proc ≡ n → n ≢ Budget → TakesOneStep r (step_without program plan n r)
  without_goes (Read c) r is y = stepped_one (Value (value_in_force r.in_force c)) (Read c) r r record { proc = refl; steps = refl } is (λ e. cc) y
  without_goes (Write c v) r is y =
      rest_goes (Write c v) r (with_write (Write c v) (with_event program plan Go None r))
      (write_same c v r (with_event program plan Go None r) (event_same Go None r)) is (λ e. cc) y
  without_goes Plain r is y = plain_goes Plain r is (λ e. cc) y
  without_goes (Enter b u) r is y = plain_goes (Enter b u) r is (λ e. cc) y
  without_goes (Leave b u) r is y = plain_goes (Leave b u) r is (λ e. cc) y
  without_goes (Invoke b u) r is y = plain_goes (Invoke b u) r is (λ e. cc) y
  without_goes (Back b u) r is y = plain_goes (Back b u) r is (λ e. cc) y
  without_goes (P o u) r is y = plain_goes (P o u) r is (λ e. cc) y
  without_goes (V o u) r is y = plain_goes (V o u) r is (λ e. cc) y
  without_goes (Send c v u) r is y = plain_goes (Send c v u) r is (λ e. cc) y
  without_goes (Offer c v) r is y = plain_goes (Offer c v) r is (λ e. cc) y
  without_goes (Done c u) r is y = plain_goes (Done c u) r is (λ e. cc) y
  without_goes (Recv c u) r is y = plain_goes (Recv c u) r is (λ e. cc) y
  without_goes (End b) r is y = plain_goes (End b) r is (λ e. cc) y
  without_goes (Trap o) r is y = plain_goes (Trap o) r is (λ e. cc) y
  without_goes Budget r is y = absurd (y refl)
  without_goes Stopped r is y = inr refl

  -- ---- one turn

  -- of two turns
  either_goes : (r : Replaying) (ok : Bool) (t u : Turn) → TakesOneStep r t → TakesOneStep r u → TakesOneStep r (if ok then t else u)
  either_goes r true t u x y = x
  either_goes r false t u x y = y

  -- what stops needs no piece, and does not trap
  not_stopped : (n : Need) (w : Wanted) (r : Replaying) → wanted_of program plan r.proc n ≡ Some w → n ≢ Stopped
  not_stopped n w r e stops =
      let none : None ≡ Some w = ap (λ (m : Need). wanted_of program plan r.proc m) (sym stops) ∙ e in
      cc

  wanted_goes : (n : Need) (w : Option Wanted) (r : Replaying) → wanted_of program plan r.proc n ≡ w → need_of program plan r.proc ≡ n → n ≢ Budget → TakesOneStep r (turn_by_wanted program plan n w r)
  wanted_goes n None r e is y = without_goes n r is y
  wanted_goes n (Some w) r e is y =
      either_goes r (fits w (found_of (next_piece r).1)) (step_with program plan n (next_piece r).1 r) (fail r w)
      (with_goes n (next_piece r).1 r is (not_stopped n w r e) y) (inr refl)

  by_end_goes : (how : Option Status) (n : Need) (r : Replaying) → need_of program plan r.proc ≡ n → TakesOneStep r (turn_by_end program plan how n r)
  by_end_goes (Some status.Budget) n r is = inr refl
  by_end_goes how Budget r is = inr refl
  by_end_goes None n r is = wanted_goes n (wanted_of program plan r.proc n) r refl is (λ e. cc)
  by_end_goes (Some status.Blocked) n r is =
      either_goes r (is_some (kind_of_sync n)) (finished r) (goes_on program plan n r) (inr refl) (inr refl)
  by_end_goes (Some (status.Trap t)) (Trap t') r is =
      either_goes r (same_trap t t') (finished (counted (with_event program plan Go None r))) (fail r (wanted.End (status.Trap t')))
      (last_step (Trap t') r (with_event program plan Go None r) (event_same Go None r) is (λ e. cc) (λ e. cc)) (inr refl)
  by_end_goes (Some s) n r is = inr refl

  turn_goes : (r : Replaying) → TakesOneStep r (turn program plan r)
  turn_goes r = by_end_goes (end_here r.since (next_piece r).1) (need_of program plan r.proc) r refl

  -- ---- all turns

  -- the steps so far were paid for
  record IsPaid (r : Replaying) : Type 0 where
    pub steps : r.steps ≤ r.proc.spent
    pub spent : r.proc.spent ≤ r.proc.budget

  paid_on : (r next : Replaying) → IsPaid r → IsOneStep r next → IsPaid next
  paid_on r next paid one =
      let counts : next.steps ≡ r.steps + 1 = one.steps in
      let before : r.steps ≤ r.proc.spent = paid.steps in
      let more_spent : r.proc.spent < next.proc.spent = one.paid in
      record { steps = omega arith; spent = one.within }

  last_bounded : (r : Replaying) (x : Replayed) → IsPaid r → IsLast r x → x.steps ≤ r.proc.budget
  last_bounded r x paid (inl (counts, left)) =
      let c : x.steps ≡ r.steps + 1 = counts in
      let l : r.proc.spent < r.proc.budget = left in
      let before : r.steps ≤ r.proc.spent = paid.steps in
      omega arith
  last_bounded r x paid (inr counts) =
      let c : x.steps ≡ r.steps = counts in
      let before : r.steps ≤ r.proc.spent = paid.steps in
      let spent : r.proc.spent ≤ r.proc.budget = paid.spent in
      omega arith

  -- by one turn, where the turns after it are bounded
  bounded_by : (r : Replaying) → IsPaid r → (rest : Replaying → Replayed) → ((next : Replaying) → IsPaid next → (rest next).steps ≤ next.proc.budget) → (t : Turn) → TakesOneStep r t → (go_on t rest).steps ≤ r.proc.budget
  bounded_by r paid rest bound (more next) one =
      let after : (rest next).steps ≤ next.proc.budget = bound next (paid_on r next paid one) in
      let same : next.proc.budget ≡ r.proc.budget = one.budget in
      omega arith
  bounded_by r paid rest bound (done x) last = last_bounded r x paid last

  bounded : (turns : ℕ) (r : Replaying) → IsPaid r → (replay_from program plan turns r).steps ≤ r.proc.budget
  bounded zero r paid =
      let before : r.steps ≤ r.proc.spent = paid.steps in
      let spent : r.proc.spent ≤ r.proc.budget = paid.spent in
      omega arith
  bounded (suc turns) r paid =
      bounded_by r paid (replay_from program plan turns) (bounded turns) (turn program plan r) (turn_goes r)

  -- the replay's first unit is no step

  unit_same : (u : ℕ) (piece : Piece) (r : Replaying) → Same r (unit_taken plan u piece r)
  unit_same u (unit v values) r = record { proc = refl; steps = refl }
  unit_same u (sync kind object number value) r = record { proc = refl; steps = refl }
  unit_same u (nested k b values) r = record { proc = refl; steps = refl }
  unit_same u (unfinished k b) r = record { proc = refl; steps = refl }
  unit_same u (postlog values) r = record { proc = refl; steps = refl }
  unit_same u (finish how rest) r = record { proc = refl; steps = refl }

  same_paid : (r q : Replaying) → Same r q → IsPaid r → IsPaid q
  same_paid r q same paid = record {
    steps = subst (λ (m : ℕ). m ≤ q.proc.spent) (sym same.steps) (subst (λ (s : Proc). r.steps ≤ s.spent) (sym same.proc) paid.steps);
    spent = subst (λ (s : Proc). s.spent ≤ s.budget) (sym same.proc) paid.spent;
  }

  begun_bounded : (turns u : ℕ) (r : Replaying) (ok : Bool) → IsPaid r → (go_on (if ok then more (unit_taken plan u (next_piece r).1 r) else fail r (wanted.Unit u)) (replay_from program plan turns)).steps ≤ r.proc.budget
  begun_bounded turns u r true paid =
      let q : Replaying = unit_taken plan u (next_piece r).1 r in
      let same : Same r q = unit_same u (next_piece r).1 r in
      subst (λ (s : Proc). (replay_from program plan turns q).steps ≤ s.budget) same.proc (bounded turns q (same_paid r q same paid))
  begun_bounded turns u r false paid =
      let before : r.steps ≤ r.proc.spent = paid.steps in
      let spent : r.proc.spent ≤ r.proc.budget = paid.spent in
      omega arith

  replay_bounded : (l : IntervalLog) (budget : ℕ) → (replay program plan l budget).steps ≤ budget
  replay_bounded l budget =
      let u : ℕ = block_unit plan (block_kind plan l.block) in
      let r : Replaying = begun_replay program plan l budget in
      begun_bounded (budget + 1) u r (fits (wanted.Unit u) (found_of (next_piece r).1)) record { steps = omega arith; spent = omega arith }

  -- ---- more turns than the budget has

  suffice_by : (r : Replaying) (f g : Replaying → Replayed) → ((next : Replaying) → IsOneStep r next → f next ≡ g next) → (t : Turn) → TakesOneStep r t → go_on t f ≡ go_on t g
  suffice_by r f g same (more next) one = same next one
  suffice_by r f g same (done x) last = refl

  fewer_left : (turns : ℕ) (r next : Replaying) → r.proc.budget < r.proc.spent + suc turns → IsOneStep r next → next.proc.budget < next.proc.spent + turns
  fewer_left turns r next few one =
      let same : next.proc.budget ≡ r.proc.budget = one.budget in
      let spent : r.proc.spent < next.proc.spent = one.paid in
      omega arith

  suffice : (m n : ℕ) (r : Replaying) → r.proc.spent ≤ r.proc.budget → r.proc.budget < r.proc.spent + m → r.proc.budget < r.proc.spent + n → replay_from program plan m r ≡ replay_from program plan n r
  suffice zero n r paid few _ =
      let none : ⊥ = omega arith in
      absurd none
  suffice (suc m) zero r paid _ few =
      let none : ⊥ = omega arith in
      absurd none
  suffice (suc m) (suc n) r paid x y =
      suffice_by r (replay_from program plan m) (replay_from program plan n)
      (λ next one. suffice m n next one.within (fewer_left m r next x one) (fewer_left n r next y one)) (turn program plan r) (turn_goes r)

pub turns_are_steps : TurnsAreSteps
turns_are_steps = turn_goes

pub within_budget : ReplaysAreWithinBudget
within_budget = replay_bounded

pub turns_suffice : TurnsSuffice
turns_suffice = suffice
