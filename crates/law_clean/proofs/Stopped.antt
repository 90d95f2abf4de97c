-- The first steps of a process, as those of one that has spent so much more that it then stops for its budget.
use Rattle.std.proofs.Common.{◌≡◌, ℕ, ◌+◌, ◌≤◌, false, List, [], ◌∷◌, ◌++◌, Option, Some, None, refl, ap, sym, subst, ◌∙◌, arith, true≢false}
use Rattle.std.specs.Prelude.{fold, is_some, ⊤}
use Rattle.ppd_ast.specs.declared.plan.Plan.{Plan}
use Rattle.ppd_ast.specs.declared.program.Program.{Program}
use Rattle.ppd_ast.specs.declared.status.Status.{Status}
use Rattle.ppd_ast.specs.declared.status.Status.TheVariants as status
use Rattle.ppd_sem.specs.declared.proc.Answer.{Answer}
use Rattle.ppd_sem.specs.declared.proc.Answer.TheVariants.{Go}
use Rattle.ppd_sem.specs.declared.proc.Need.{Need}
use Rattle.ppd_sem.specs.declared.proc.Need.TheVariants.{Enter, Offer, Done, Trap, Budget, Stopped}
use Rattle.ppd_sem.specs.declared.proc.Proc.{Proc}
use Rattle.ppd_sem.specs.declared.proc.Todo.{Todo}
use Rattle.ppd_sem.specs.Process.{act, act_by_need, cost, head_deed, need_of}
use Rattle.ppd_sem.proofs.NeedWords.{act_at}
use Rattle.ppd_sem.proofs.Progress.{act-stopped, act-within, asked_purse, need_at_status, need_at_todo}
use Rattle.ppd_model.specs.Logs.{status_of}
use Rattle.ppd_model.specs.Story.{Moment}
use Rattle.ppd_model.proofs.Statuses.{status_after}
use Rattle.ppd_model.specs.Replay.{is_budget}
use Rattle.law_steps.specs.OpenBlocks.Run.{IsGiven, IsRun}
use Rattle.law_clean.proofs.Raised.{act_raised, need_raised, need_spent, raised}

-- a stop for the budget
abbrev pub stop_moment : Moment
stop_moment = record { taken = record { need = Budget; answer = Go; writer = None; number = None }; unit_values = [] }

module _ (program : Program) (plan : Plan) where
  -- the state after these steps
  abbrev pub after_all : Proc → List Moment → Proc
  after_all s ms = fold (λ x m. act program plan x m.taken.answer) s ms

  -- ---- a process that has stopped stays so

  stays_stopped : (s : Proc) (x : Status) → s.status ≡ Some x → (ms : List Moment) → (after_all s ms).status ≡ Some x
  stays_stopped s x e [] = e
  stays_stopped s x e (m ∷ ms) =
      let same : act program plan s m.taken.answer ≡ s = act-stopped program plan s m.taken.answer (need_at_status program plan s (Some x) e) in
      stays_stopped (act program plan s m.taken.answer) x (ap (λ (q : Proc). q.status) same ∙ e) ms

  pub runs_before : (s : Proc) (m : Moment) (ms : List Moment) → (after_all s (m ∷ ms)).status ≡ None → (act program plan s m.taken.answer).status ≡ None
  runs_before s m ms e = by (act program plan s m.taken.answer).status refl
    where
      by : (o : Option Status) → (act program plan s m.taken.answer).status ≡ o → (act program plan s m.taken.answer).status ≡ None
      by None is = is
      by (Some x) is = absurd (true≢false (ap is_some (sym (stays_stopped (act program plan s m.taken.answer) x is ms)) ∙ ap is_some e))

  -- ---- what is spent

  spent_by : (a : Answer) (t : Todo) (ts : List Todo) (n : Need) (s : Proc) → is_budget n ≡ false → (n ≡ Stopped → ⊥) → (act_by_need program plan a t ts n s).spent ≡ s.spent + cost plan n
  spent_by a t ts Stopped s pay goes = absurd (goes refl)
  spent_by a t ts Budget s pay goes = absurd (true≢false pay)
  spent_by a t ts (Enter b u) s pay goes = refl
  spent_by a t ts (Offer c v) s pay goes = refl
  spent_by a t ts (Done c u) s pay goes = refl
  spent_by a t ts (Trap x) s pay goes = refl
  spent_by a t ts n s pay goes = ap (λ k. k + cost plan n) (asked_purse program a t ts (head_deed program t s) s).spent

  spent_at : (a : Answer) (s : Proc) (ts : List Todo) → s.todo ≡ ts → s.status ≡ None → is_budget (need_of program plan s) ≡ false → (need_of program plan s ≡ Stopped → ⊥)
      → (act_at program plan a ts s).spent ≡ s.spent + cost plan (need_of program plan s)
  spent_at a s [] is runs pay goes = absurd (goes (need_at_todo program plan s [] runs is))
  spent_at a s (t ∷ ts) is runs pay goes = spent_by a t ts (need_of program plan s) s pay goes

  -- a step that does not stop the process is paid for
  pub spends : (s : Proc) (a : Answer) → s.status ≡ None → (act program plan s a).status ≡ None → (need_of program plan s ≡ Stopped → ⊥)
      → (is_budget (need_of program plan s) ≡ false) × ((act program plan s a).spent ≡ s.spent + cost plan (need_of program plan s))
  spends s a runs still goes =
      let pay : is_budget (need_of program plan s) ≡ false = no_stop (need_of program plan s) (sym (status_after program plan a s runs) ∙ still) in
      (pay, spent_at a s s.todo refl runs pay goes)
    where
      no_stop : (n : Need) → status_of n ≡ None → is_budget n ≡ false
      no_stop Budget e = absurd (true≢false (ap is_some e))
      no_stop n e = refl

  -- a stop for the budget stops the process
  pub stop_status : (s : Proc) → need_of program plan s ≡ Budget → (act program plan s Go).status ≡ Some status.Budget
  stop_status s e = by s.status s.todo refl refl
    where
      stopped_no : Stopped ≡ Budget → ⊥
      stopped_no f = true≢false (sym (ap is_budget f))

      by : (o : Option Status) (ts : List Todo) → s.status ≡ o → s.todo ≡ ts → (act program plan s Go).status ≡ Some status.Budget
      by (Some x) ts is todo = absurd (stopped_no (sym (need_at_status program plan s (Some x) is) ∙ e))
      by None [] is todo = absurd (stopped_no (sym (need_at_todo program plan s [] is todo) ∙ e))
      by None (t ∷ ts) is todo = ap (λ xs. (act_at program plan Go xs s).status) todo ∙ ap (λ n. (act_by_need program plan Go t ts n s).status) e

  no_step : (n : Need) (a : Answer) → IsGiven n a → n ≡ Stopped → ⊥
  no_step n a g e = subst (λ x. IsGiven x a) e g

  -- what was spent stays so
  spent_rises : (ms more : List Moment) (s : Proc) → s.status ≡ None → IsRun program plan s (ms ++ more) → (after_all s ms).status ≡ None → s.spent ≤ (after_all s ms).spent
  spent_rises [] more s runs run still = omega arith
  spent_rises (m ∷ ms) more s runs run still =
      let next : (act program plan s m.taken.answer).status ≡ None = runs_before s m ms still in
      let rest : (act program plan s m.taken.answer).spent ≤ (after_all (act program plan s m.taken.answer) ms).spent = spent_rises ms more (act program plan s m.taken.answer) next run.3 still in
      let one = spends s m.taken.answer runs next (λ e. no_step m.taken.need m.taken.answer run.1 (run.0 ∙ e)) in
      let paid : (act program plan s m.taken.answer).spent ≡ s.spent + cost plan (need_of program plan s) = one.1 in
      omega (arith, rest, paid)

  module _ (d : ℕ) where
    -- at each of these steps the raised process needs the same
    abbrev pub AreSame : Proc → List Moment → Type 0
    AreSame s [] = ⊤
    AreSame s (m ∷ ms) = (need_of program plan (raised d s) ≡ need_of program plan s) × AreSame (act program plan s m.taken.answer) ms

    -- all is spent after these steps, and the process would go on
    pub record IsCut (s : Proc) (ms : List Moment) : Type 0 where
      pub head : Todo
      pub rest : List Todo
      pub runs : (after_all s ms).status ≡ None
      pub todo : (after_all s ms).todo ≡ head ∷ rest
      pub all : s.budget ≡ (after_all s ms).spent + d

    pub same_needs : (ms more : List Moment) (s : Proc) → s.status ≡ None → s.spent ≤ s.budget → IsRun program plan s (ms ++ more) → (after_all s ms).status ≡ None → (after_all s ms).spent + d ≤ s.budget → AreSame s ms
    same_needs [] more s runs within run still le = tt
    same_needs (m ∷ ms) more s runs within run still le =
        let next : (act program plan s m.taken.answer).status ≡ None = runs_before s m ms still in
        let goes = no_step m.taken.need m.taken.answer run.1 in
        let one = spends s m.taken.answer runs next (λ e. goes (run.0 ∙ e)) in
        let paid : (act program plan s m.taken.answer).spent ≡ s.spent + cost plan (need_of program plan s) = one.1 in
        let rises : (act program plan s m.taken.answer).spent ≤ (after_all (act program plan s m.taken.answer) ms).spent = spent_rises ms more (act program plan s m.taken.answer) next run.3 still in
        let keeps = act-within program plan s m.taken.answer within in
        let budget : (act program plan s m.taken.answer).budget ≡ s.budget = keeps.budget in (
          need_raised program plan d s (need_of program plan s) refl one.0 (omega (arith, paid, rises, le)),
          same_needs ms more (act program plan s m.taken.answer) next keeps.spent run.3 still (omega (arith, budget, le)),
        )

    -- its run with the stop
    pub stopped_run : (ms more : List Moment) (s : Proc) → IsRun program plan s (ms ++ more) → AreSame s ms
        → need_of program plan (raised d (after_all s ms)) ≡ Budget → IsRun program plan (raised d s) (ms ++ stop_moment ∷ [])
    stopped_run [] more s run same stops = (sym stops, refl, refl, λ e. absurd (true≢false (ap is_some (sym (stop_status (raised d s) stops) ∙ e))))
    stopped_run (m ∷ ms) more s run same stops = (
      run.0 ∙ sym same.0,
      run.1,
      run.2,
      subst (λ q. IsRun program plan q (ms ++ stop_moment ∷ [])) (sym (act_raised program plan d s m.taken.answer same.0)) (stopped_run ms more (act program plan s m.taken.answer) run.3 same.1 stops),
    )

    -- so it is where all is spent
    pub cut_run : (ms more : List Moment) (s : Proc) → s.status ≡ None → s.spent ≤ s.budget → IsRun program plan s (ms ++ more) → IsCut s ms → IsRun program plan (raised d s) (ms ++ stop_moment ∷ [])
    cut_run ms more s runs within run cut =
        let all : s.budget ≡ (after_all s ms).spent + d = cut.all in
        stopped_run ms more s run (same_needs ms more s runs within run cut.runs (omega (arith, all)))
        (need_spent program plan d (after_all s ms) cut.head cut.rest cut.runs cut.todo (budget_stays ms s within ∙ all))
      where
        budget_stays : (ms : List Moment) (s : Proc) → s.spent ≤ s.budget → (after_all s ms).budget ≡ s.budget
        budget_stays [] s within = refl
        budget_stays (m ∷ ms) s within = let keeps = act-within program plan s m.taken.answer within in budget_stays ms (act program plan s m.taken.answer) keeps.spent ∙ keeps.budget
