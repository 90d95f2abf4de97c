-- An offer and its completion are two steps of one statement, with no step of its process between them.
use Rattle.std.proofs.Common.{◌≡◌, ◌⊎◌, ℕ, ◌+◌, ℤ, Bool, true, false, nat_lt, List, [], ◌∷◌, drop, Option, Some, None, Ok, Err, refl, ap, sym, ◌∙◌, subst, inl, inr, true≢false, if◌then◌else◌}
use Rattle.std.specs.Prelude.{IsSome, is_some, ⊤}
use Rattle.std.proofs.lemmas.Option.{same_Some}
use Rattle.ppd_ast.specs.declared.plan.Plan.{Plan}
use Rattle.ppd_ast.specs.declared.plan.Start.TheVariants as start
use Rattle.ppd_ast.specs.declared.program.Program.{Program}
use Rattle.ppd_ast.specs.declared.status.Status.{Status}
use Rattle.ppd_ast.specs.declared.status.Status.TheVariants as status
use Rattle.ppd_ast.specs.Lookups.{kind_of, body_numbered}
use Rattle.ppd_sem.specs.declared.asking.Pause.TheVariants.{Wants, Traps}
use Rattle.ppd_sem.specs.declared.proc.Answer.{Answer}
use Rattle.ppd_sem.specs.declared.proc.Need.{Need}
use Rattle.ppd_sem.specs.declared.proc.Need.TheVariants.{Read, Write, Plain, Enter, Leave, Invoke, Back, P, V, Send, Offer, Done, Recv, End, Trap, Budget, Stopped}
use Rattle.ppd_sem.specs.declared.proc.Proc.{Proc}
use Rattle.ppd_sem.specs.declared.proc.Todo.{Todo}
use Rattle.ppd_sem.specs.Asked.{Asked}
use Rattle.ppd_sem.specs.Deed.{Deed, set_local, set_shared, clear, branch, turn, leave, invoke, back, take, give, send, receive, print, pass, finish}
use Rattle.ppd_sem.specs.Laws.{OffersAreCompleted}
use Rattle.ppd_sem.specs.Offers.{Completes, HasNoOffer, IsAtOneStatement, Offers, OffersAtHead}
use Rattle.ppd_sem.specs.Passed.{next_stmt_of}
use Rattle.ppd_sem.specs.Process.{act, act_by_asked, act_by_deed, act_by_need, chan_of, charged, cost, entry_of, head_deed, need_of, need_of_head, within_budget}
use Rattle.ppd_sem.proofs.NeedWords.{act_at, need_by_entry, need_by_offer}
use Rattle.ppd_sem.specs.Tables.{unit_of}
use Rattle.ppd_sem.proofs.Completion.{offered_completes, offered_needs}
use Rattle.ppd_sem.proofs.Marked.{OfferFits, at_head, no_done, running_offer, unoffered_before, unoffered_no_done, unoffered_todos, with_unoffered}
use Rattle.ppd_sem.proofs.Progress.{need_at_status, need_at_todo, stays_at}

-- ---- what is to do after a step that is no offer

abbrev IsNoOffer : Need → Type 0
IsNoOffer (Offer c v) = ⊥
IsNoOffer n = ⊤

module _ (p : Program) (plan : Plan) (a : Answer) (t : Todo) (ts : List Todo) (unmarked : t.offered ≡ false) (later : HasNoOffer ts) where
  deed_unoffered : (d : Deed) (s : Proc) → HasNoOffer (act_by_deed p a t ts d s).todo
  deed_unoffered (set_local c v) s = later
  deed_unoffered (set_shared c v) s = later
  deed_unoffered (clear base len) s = later
  deed_unoffered (branch stmts) s = unoffered_before stmts ts later
  deed_unoffered (turn stmts) s = unoffered_before stmts (t ∷ ts) (with_unoffered t ts unmarked later)
  deed_unoffered leave s = later
  deed_unoffered (invoke f values into) s = unoffered_before (body_numbered p f).top ts later
  deed_unoffered (back value) s = later
  deed_unoffered (take sem) s = later
  deed_unoffered (give sem) s = later
  deed_unoffered (send chan value) s = later
  deed_unoffered (receive chan into) s = later
  deed_unoffered (print v) s = later
  deed_unoffered pass s = later
  deed_unoffered finish s = later

  same_unoffered : (s : Proc) → s.todo ≡ t ∷ ts → HasNoOffer s.todo
  same_unoffered s is = subst HasNoOffer (sym is) (with_unoffered t ts unmarked later)

  asked_unoffered : (asked : Asked Deed) (s : Proc) → s.todo ≡ t ∷ ts → HasNoOffer (act_by_asked p a t ts asked s).todo
  asked_unoffered (Ok q) s is = deed_unoffered q.0 (record s { answers = [] })
  asked_unoffered (Err (Wants c)) s is = same_unoffered s is
  asked_unoffered (Err (Traps x)) s is = same_unoffered s is

  need_unoffered : (n : Need) (s : Proc) → IsNoOffer n → s.todo ≡ t ∷ ts → HasNoOffer (act_by_need p plan a t ts n s).todo
  need_unoffered (Read c) s h is = asked_unoffered (head_deed p t s) s is
  need_unoffered (Write c v) s h is = asked_unoffered (head_deed p t s) s is
  need_unoffered Plain s h is = asked_unoffered (head_deed p t s) s is
  need_unoffered (Enter b u) s h is = with_unoffered (record t { entered = true }) ts unmarked later
  need_unoffered (Leave b u) s h is = asked_unoffered (head_deed p t s) s is
  need_unoffered (Invoke b u) s h is = asked_unoffered (head_deed p t s) s is
  need_unoffered (Back b u) s h is = asked_unoffered (head_deed p t s) s is
  need_unoffered (P x u) s h is = asked_unoffered (head_deed p t s) s is
  need_unoffered (V x u) s h is = asked_unoffered (head_deed p t s) s is
  need_unoffered (Send c v u) s h is = asked_unoffered (head_deed p t s) s is
  need_unoffered (Offer c v) s h is = absurd h
  need_unoffered (Done c u) s h is = later
  need_unoffered (Recv c u) s h is = asked_unoffered (head_deed p t s) s is
  need_unoffered (End b) s h is = asked_unoffered (head_deed p t s) s is
  need_unoffered (Trap x) s h is = same_unoffered s is
  need_unoffered Budget s h is = same_unoffered s is
  need_unoffered Stopped s h is = same_unoffered s is

-- ---- the cases of a step

-- the step of an offer, and the state after it
record TakesOffer (p : Program) (plan : Plan) (s after : Proc) (t : Todo) (ts : List Todo) : Type 0 where
  chan : ℕ
  value : ℤ
  offers : need_of p plan s ≡ Offer chan value
  of_send : chan_of (kind_of p t.stmt) ≡ Some chan
  running : s.status ≡ None
  is : after ≡ charged plan (Offer chan value) (record s { todo = record t { offered = true } ∷ ts; answers = [] })

-- after a step no offer is taken; or it was that of an offer; or the process stopped
data Stepped (p : Program) (plan : Plan) (s after : Proc) (todo : List Todo) : Type 0 where
  without : HasNoOffer after.todo → Stepped p plan s after todo
  offer : (t : Todo) (ts : List Todo) → todo ≡ t ∷ ts → HasNoOffer ts → TakesOffer p plan s after t ts → Stepped p plan s after todo
  stopped : OffersAtHead p after.todo → need_of p plan after ≡ Stopped → Stepped p plan s after todo

offer_or : (n : Need) → IsNoOffer n ⊎ ((c : ℕ) × (v : ℤ) × (n ≡ Offer c v))
offer_or (Offer c v) = inr (c, v, refl)
offer_or _ = inl tt

module _ (p : Program) (plan : Plan) (a : Answer) (s : Proc) where
  after_is : (t : Todo) (ts : List Todo) (n : Need) → s.todo ≡ t ∷ ts → need_of p plan s ≡ n → act p plan s a ≡ act_by_need p plan a t ts n s
  after_is t ts n is e = ap (λ l. act_at p plan a l s) is ∙ ap (λ x. act_by_need p plan a t ts x s) e

  taken : (t : Todo) (ts : List Todo) (c : ℕ) (v : ℤ) → s.status ≡ None → s.todo ≡ t ∷ ts → need_of p plan s ≡ Offer c v → TakesOffer p plan s (act p plan s a) t ts
  taken t ts c v r is e = record {
    chan = c;
    value = v;
    offers = e;
    of_send = subst (OfferFits (kind_of p t.stmt)) (sym (need_at_todo p plan s (t ∷ ts) r is) ∙ e) (running_offer p plan t ts s);
    running = r;
    is = after_is t ts (Offer c v) is e;
  }

  unmarked_step : (t : Todo) (ts : List Todo) → s.status ≡ None → s.todo ≡ t ∷ ts → t.offered ≡ false → HasNoOffer ts → Stepped p plan s (act p plan s a) (t ∷ ts)
  unmarked_step t ts r is none later =
      elim (offer_or (need_of p plan s)) [
        | inl other ↦ without (subst (λ (x : Proc). HasNoOffer x.todo) (sym (after_is t ts (need_of p plan s) is refl)) (need_unoffered p plan a t ts none later (need_of p plan s) s other is))
        | inr o ↦ offer t ts refl later (taken t ts o.0 o.1 r is o.2)
      ]

  -- a statement whose offer was taken is completed, or the process stops
  marked_step : (t : Todo) (ts : List Todo) (c : ℕ) → s.status ≡ None → s.todo ≡ t ∷ ts → OffersAtHead p (t ∷ ts) → need_of_head p plan t s ≡ Done c (unit_of plan (start.After t.stmt)) → Stepped p plan s (act p plan s a) (t ∷ ts)
  marked_step t ts c r is heads head = by_purse (nat_lt s.budget (s.spent + cost plan (need_of_head p plan t s))) refl
    where
      need_is : need_of p plan s ≡ within_budget plan s (need_of_head p plan t s)
      need_is = need_at_todo p plan s (t ∷ ts) r is

      by_purse : (b : Bool) → nat_lt s.budget (s.spent + cost plan (need_of_head p plan t s)) ≡ b → Stepped p plan s (act p plan s a) (t ∷ ts)
      by_purse true e =
          let after : act p plan s a ≡ record s { status = Some status.Budget } = after_is t ts Budget is (need_is ∙ ap (λ b. if b then Budget else need_of_head p plan t s) e) in
          subst (λ (x : Proc). Stepped p plan s x (t ∷ ts)) (sym after) (stopped (subst (OffersAtHead p) (sym is) heads) refl)
      by_purse false e =
          let after : act p plan s a ≡ charged plan (Done c (unit_of plan (start.After t.stmt))) (record s { todo = ts; answers = [] }) =
          after_is t ts (Done c (unit_of plan (start.After t.stmt))) is (need_is ∙ ap (λ b. if b then Budget else need_of_head p plan t s) e ∙ head) in
          without (subst (λ (x : Proc). HasNoOffer x.todo) (sym after) heads.1)

  marked_head : (t : Todo) → t.offered ≡ true → (o : Option ℕ) → chan_of (kind_of p t.stmt) ≡ o → IsSome o → (c : ℕ) × (need_of_head p plan t s ≡ Done c (unit_of plan (start.After t.stmt)))
  marked_head t marked None e some = absurd (true≢false (sym some))
  marked_head t marked (Some c) e some = (
    c,
    ap (λ (b : Bool). need_by_offer plan t.stmt (if b then chan_of (kind_of p t.stmt) else None) (need_by_entry p plan t.stmt s (entry_of p plan t) (head_deed p t s))) marked
        ∙ ap (λ o. need_by_offer plan t.stmt o (need_by_entry p plan t.stmt s (entry_of p plan t) (head_deed p t s))) e,
  )

  stays_still : (todo : List Todo) → s.todo ≡ todo → OffersAtHead p todo → need_of p plan s ≡ Stopped → Stepped p plan s (act p plan s a) todo
  stays_still todo is heads e =
      let same : act p plan s a ≡ s = stays_at p plan a s s.todo e in
      subst (λ (x : Proc). Stepped p plan s x todo) (sym same) (stopped (subst (OffersAtHead p) (sym is) heads) e)

  head_step : (t : Todo) (ts : List Todo) (b : Bool) → t.offered ≡ b → s.status ≡ None → s.todo ≡ t ∷ ts → OffersAtHead p (t ∷ ts) → Stepped p plan s (act p plan s a) (t ∷ ts)
  head_step t ts false e r is heads = unmarked_step t ts r is e heads.1
  head_step t ts true e r is heads =
      let head : (c : ℕ) × (need_of_head p plan t s ≡ Done c (unit_of plan (start.After t.stmt))) = marked_head t e (chan_of (kind_of p t.stmt)) refl (heads.0 e) in
      marked_step t ts head.0 r is heads head.1

  step_case : (o : Option Status) (todo : List Todo) → s.status ≡ o → s.todo ≡ todo → OffersAtHead p todo → Stepped p plan s (act p plan s a) todo
  step_case (Some x) todo r is heads = stays_still todo is heads (need_at_status p plan s (Some x) r)
  step_case None [] r is heads = stays_still [] is heads (need_at_todo p plan s [] r is)
  step_case None (t ∷ ts) r is heads = head_step t ts t.offered refl r is heads

-- ---- after an offer

module _ (p : Program) (plan : Plan) (s after : Proc) (t : Todo) (ts : List Todo) (is : s.todo ≡ t ∷ ts) (o : TakesOffer p plan s after t ts) where
  at_one : IsAtOneStatement s after
  at_one = record {
    next = ap (λ (x : Proc). next_stmt_of x.todo) o.is ∙ sym (ap next_stmt_of is);
    later = ap (λ (x : Proc). drop 1 x.todo) o.is ∙ sym (ap (drop 1) is);
  }

  marked_after : OffersAtHead p (record t { offered = true } ∷ ts) → OffersAtHead p after.todo
  marked_after h = subst (λ (x : Proc). OffersAtHead p x.todo) (sym o.is) h

  completes_next : Completes o.chan (unit_of plan (start.After t.stmt)) (need_of p plan after)
  completes_next =
      let is_next : need_of p plan after ≡ within_budget plan after (need_of_head p plan (record t { offered = true }) after) =
      need_at_todo p plan after (record t { offered = true } ∷ ts) (ap (λ (x : Proc). x.status) o.is ∙ o.running) (ap (λ (x : Proc). x.todo) o.is) in
      elim (offered_completes p plan t after) [
        | inl h ↦ inl (is_next ∙ h ∙ offered_needs p plan t after o.chan o.of_send)
        | inr h ↦ inr (is_next ∙ h)
      ]

no_offer : (c : ℕ) (v : ℤ) → Stopped ≡ Offer c v → ⊥
no_offer c v e = cc

not_done : (c u : ℕ) → Stopped ≡ Done c u → ⊥
not_done c u e = cc

budget_not_done : (c u : ℕ) → Budget ≡ Done c u → ⊥
budget_not_done c u e = cc

same_chan : (c d u w : ℕ) → Done c u ≡ Done d w → c ≡ d
same_chan c d u w e = cc

module _ (p : Program) (plan : Plan) (s : Proc) (a : Answer) where
  completed_by : (o : Option Status) (todo : List Todo) (t c : ℕ) (v : ℤ) → s.status ≡ o → s.todo ≡ todo → next_stmt_of s.todo ≡ Some t → need_of p plan s ≡ Offer c v
      → IsAtOneStatement s (act p plan s a) × Completes c (unit_of plan (start.After t)) (need_of p plan (act p plan s a))
  completed_by (Some x) todo t c v r is next e = absurd (no_offer c v (sym (need_at_status p plan s (Some x) r) ∙ e))
  completed_by None [] t c v r is next e = absurd (no_offer c v (sym (need_at_todo p plan s [] r is) ∙ e))
  completed_by None (x ∷ xs) t c v r is next e =
      let o : TakesOffer p plan s (act p plan s a) x xs = taken p plan a s x xs c v r is e in
      let same : x.stmt ≡ t = same_Some x.stmt t (sym (ap next_stmt_of is) ∙ next) in
      let completes : Completes o.chan (unit_of plan (start.After x.stmt)) (need_of p plan (act p plan s a)) = completes_next p plan s (act p plan s a) x xs is o in
      let chan : o.chan ≡ c = ap offered_chan (sym o.offers ∙ e) in (
        at_one p plan s (act p plan s a) x xs is o,
        subst (λ (n : ℕ). Completes n (unit_of plan (start.After t)) (need_of p plan (act p plan s a))) chan
            (subst (λ (y : ℕ). Completes o.chan (unit_of plan (start.After y)) (need_of p plan (act p plan s a))) same completes),
      )
    where
      offered_chan : Need → ℕ
      offered_chan (Offer d w) = d
      offered_chan _ = 0

  offered_by : (c u : ℕ) → need_of p plan (act p plan s a) ≡ Done c u → Stepped p plan s (act p plan s a) s.todo → IsAtOneStatement s (act p plan s a) × Offers c (need_of p plan s)
  offered_by c u e (without h) = absurd (no_done (need_of p plan (act p plan s a)) c u (unoffered_no_done p plan (act p plan s a).status (act p plan s a) h) e)
  offered_by c u e (stopped h g) = absurd (not_done c u (sym g ∙ e))
  offered_by c u e (offer t ts is later o) =
      elim (completes_next p plan s (act p plan s a) t ts is o) [
        | inl h ↦
            let chan : o.chan ≡ c = same_chan o.chan c (unit_of plan (start.After t.stmt)) u (sym h ∙ e) in
            (at_one p plan s (act p plan s a) t ts is o, (o.value, o.offers ∙ ap (λ d. Offer d o.value) chan))
        | inr h ↦ absurd (budget_not_done c u (sym h ∙ e))
      ]

  heads_by : Stepped p plan s (act p plan s a) s.todo → OffersAtHead p (act p plan s a).todo
  heads_by (without h) = at_head p (act p plan s a).todo h
  heads_by (stopped h g) = h
  heads_by (offer t ts is later o) = marked_after p plan s (act p plan s a) t ts is o (λ m. ap is_some o.of_send, later)

  removed_by : (todo : List Todo) (c u : ℕ) → s.todo ≡ todo → need_of p plan s ≡ Done c u → (act p plan s a).todo ≡ drop 1 s.todo
  removed_by [] c u is e = ap (λ l. (act_at p plan a l s).todo) is ∙ is ∙ sym (ap (drop 1) is)
  removed_by (t ∷ ts) c u is e = ap (λ (x : Proc). x.todo) (after_is p plan a s t ts (Done c u) is e) ∙ sym (ap (drop 1) is)

pub offers_completed : OffersAreCompleted
offers_completed = record {
  starts = λ p plan q budget. unoffered_todos (body_numbered p (p.functions + q)).top;
  stays = λ p plan s a h. heads_by p plan s a (step_case p plan a s s.status s.todo refl refl h);
  completed = λ p plan s a t c v next e. completed_by p plan s a s.status s.todo t c v refl refl next e;
  offered = λ p plan s a c u h e. offered_by p plan s a c u e (step_case p plan a s s.status s.todo refl refl h);
  removed = λ p plan s a c u e. removed_by p plan s a s.todo c u refl e;
}
