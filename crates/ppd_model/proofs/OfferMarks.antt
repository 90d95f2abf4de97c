-- Which statement to do is marked as offered: none but a head whose offer was the last step.
use Rattle.std.proofs.Common.{◌≡◌, ℕ, zero, suc, ◌+◌, ℤ, Bool, true, false, nat_lt, List, [], ◌∷◌, ◌++◌, length, Option, Some, None, Ok, Err, refl, ap, sym, subst, ◌∙◌, if◌then◌else◌, inl, inr, ◌⊎◌}
use Rattle.std.specs.Prelude.{⊤}
use Rattle.std.proofs.lemmas.Option.{none-some}
use Rattle.ppd_ast.specs.declared.plan.BlockKind.TheVariants as block
use Rattle.ppd_ast.specs.declared.plan.Plan.{Plan}
use Rattle.ppd_ast.specs.declared.plan.Start.TheVariants as start
use Rattle.ppd_ast.specs.declared.program.Program.{Program}
use Rattle.ppd_ast.specs.declared.status.Status.{Status}
use Rattle.ppd_ast.specs.declared.status.Status.TheVariants as status
use Rattle.ppd_ast.specs.declared.status.Trap.TheVariants.{Depth}
use Rattle.ppd_ast.specs.Lookups.{kind_of, body_numbered}
use Rattle.ppd_ast.specs.declared.limits.TheConstants.{MOST_CALLS}
use Rattle.ppd_sem.specs.declared.asking.Pause.TheVariants.{Wants, Traps}
use Rattle.ppd_sem.specs.declared.proc.Answer.{Answer}
use Rattle.ppd_sem.specs.declared.proc.Need.{Need}
use Rattle.ppd_sem.specs.declared.proc.Need.TheVariants as need
use Rattle.ppd_sem.specs.declared.proc.Proc.{Proc}
use Rattle.ppd_sem.specs.declared.proc.Todo.{Todo}
use Rattle.ppd_sem.specs.Asked.{Asked}
use Rattle.ppd_sem.specs.Deed.{Deed, set_local, set_shared, clear, branch, turn, leave, invoke, back, take, give, send, receive, print, pass, finish}
use Rattle.ppd_sem.specs.Process.{act, act_by_asked, act_by_need, chan_of, cost, entry_of, head_deed, need_of, need_of_asked, need_of_deed, need_of_head, need_of_leaving, need_of_send, offer_of, todos}
use Rattle.ppd_sem.proofs.NeedWords.{act_at, need_by_entry, need_by_offer, need_of_running}
use Rattle.ppd_sem.specs.Tables.{block_of, capacity_of, unit_of}
use Rattle.ppd_sem.proofs.Progress.{act-stopped, need_at_status, need_at_todo}
use Rattle.ppd_sem.specs.Passed.{next_stmt_of}
use Rattle.ppd_model.specs.Logs.{status_of}
use Rattle.ppd_model.proofs.OfferedSends.{OffersSend, running_offers}
use Rattle.ppd_model.proofs.Statuses.{status_after}

-- none of these is marked as offered
abbrev pub AreUnmarked : List Todo → Type 0
AreUnmarked [] = ⊤
AreUnmarked (t ∷ ts) = (t.offered ≡ false) × AreUnmarked ts

todos_unmarked : (ss : List ℕ) (ts : List Todo) → AreUnmarked ts → AreUnmarked (todos ss ++ ts)
todos_unmarked [] ts h = h
todos_unmarked (s ∷ ss) ts h = (refl, todos_unmarked ss ts h)

-- the need is an offer
abbrev IsOffer : Need → Type 0
IsOffer (need.Offer c v) = ⊤
IsOffer n = ⊥

-- the need is no completion
abbrev IsNoCompletion : Need → Type 0
IsNoCompletion (need.Done c u) = ⊥
IsNoCompletion n = ⊤

-- an offer marks the head, and any other step of an unmarked head leaves none that is marked
module _ (program : Program) (plan : Plan) (a : Answer) (t : Todo) (ts : List Todo) (s : Proc) (is : s.todo ≡ t ∷ ts) (head : t.offered ≡ false) (rest : AreUnmarked ts) where
  abbrev Leaves : Need → Type 0
  Leaves n = (AreUnmarked (act_by_need program plan a t ts n s).todo × IsNoCompletion n) ⊎ IsOffer n

  by_asked_deed : Asked Deed → Type 0
  by_asked_deed x = AreUnmarked (act_by_asked program a t ts x s).todo

  same_todo : AreUnmarked s.todo
  same_todo = subst AreUnmarked (sym is) (head, rest)

  by_deed : (d : Deed) (left : List ℤ) → head_deed program t s ≡ Ok (d, left) → Leaves (need_of_deed program plan t.stmt s d)
  unfolding by_asked_deed
  by_deed (set_local c v) left at = inl (subst by_asked_deed (sym at) rest, tt)
  by_deed (set_shared c v) left at = inl (subst by_asked_deed (sym at) rest, tt)
  by_deed (clear base len) left at = inl (subst by_asked_deed (sym at) rest, tt)
  by_deed (branch stmts) left at = inl (subst by_asked_deed (sym at) (todos_unmarked stmts ts rest), tt)
  by_deed (turn stmts) left at = inl (subst by_asked_deed (sym at) (todos_unmarked stmts (t ∷ ts) (head, rest)), tt)
  by_deed leave left at = leaving (block_of plan (block.Loop t.stmt))
    where
      leaving : (o : Option ℕ) → Leaves (need_of_leaving plan t.stmt o)
      leaving None = inl (subst by_asked_deed (sym at) rest, tt)
      leaving (Some b) = inl (subst by_asked_deed (sym at) rest, tt)
  by_deed (invoke f values into) left at = calling (nat_lt MOST_CALLS (s.below + length s.frames))
    where
      calling : (b : Bool) → Leaves (if b then need.Trap Depth else need.Invoke (block_of plan (block.Function f)) (unit_of plan (start.Entry f)))
      calling true = inl (same_todo, tt)
      calling false = inl (subst by_asked_deed (sym at) (todos_unmarked (body_numbered program f).top ts rest), tt)
  by_deed (back value) left at = inl (subst by_asked_deed (sym at) rest, tt)
  by_deed (take sem) left at = inl (subst by_asked_deed (sym at) rest, tt)
  by_deed (give sem) left at = inl (subst by_asked_deed (sym at) rest, tt)
  by_deed (send chan value) left at = sending (capacity_of program chan)
    where
      sending : (n : ℕ) → Leaves (need_of_send plan t.stmt n chan value)
      sending zero = inr tt
      sending (suc n) = inl (subst by_asked_deed (sym at) rest, tt)
  by_deed (receive chan into) left at = inl (subst by_asked_deed (sym at) rest, tt)
  by_deed (print v) left at = inl (subst by_asked_deed (sym at) rest, tt)
  by_deed pass left at = inl (subst by_asked_deed (sym at) rest, tt)
  by_deed finish left at = inl (subst by_asked_deed (sym at) rest, tt)

  by_asked : (x : Asked Deed) → head_deed program t s ≡ x → Leaves (need_of_asked program plan t.stmt s x)
  unfolding by_asked_deed
  by_asked (Ok p) at = by_deed p.0 p.1 at
  by_asked (Err (Wants c)) at = inl (subst by_asked_deed (sym at) same_todo, tt)
  by_asked (Err (Traps trap)) at = inl (same_todo, tt)

  by_entry : (o : Option ℕ) → Leaves (need_by_entry program plan t.stmt s o (head_deed program t s))
  by_entry (Some b) = inl ((head, rest), tt)
  by_entry None = by_asked (head_deed program t s) refl

  by_offer : (o : Option ℕ) → o ≡ None → Leaves (need_by_offer plan t.stmt o (need_by_entry program plan t.stmt s (entry_of program plan t) (head_deed program t s)))
  by_offer None e = by_entry (entry_of program plan t)
  by_offer (Some c) e = absurd (none-some c (sym e))

  by_budget : (b : Bool) → Leaves (if b then need.Budget else need_of_head program plan t s)
  by_budget true = inl (same_todo, tt)
  by_budget false = by_offer (offer_of program t) (ap (λ b. if b then chan_of (kind_of program t.stmt) else None) head)

  leaves : Leaves (need_of_running program plan (t ∷ ts) s)
  leaves = by_budget (nat_lt s.budget (s.spent + cost plan (need_of_head program plan t s)))

-- ---- the states of a process

-- it runs, and no statement to do is marked
pub record IsUnmarked (s : Proc) : Type 0 where
  pub runs : s.status ≡ None
  pub unmarked : AreUnmarked s.todo

-- it runs, and its head is a send on channel c whose offer was taken
pub record IsMarked (program : Program) (c stmt : ℕ) (s : Proc) : Type 0 where
  pub runs : s.status ≡ None
  pub head : Todo
  pub rest : List Todo
  pub todo_is : s.todo ≡ head ∷ rest
  pub marked : head.offered ≡ true
  pub stmt_is : head.stmt ≡ stmt
  pub chan_is : chan_of (kind_of program head.stmt) ≡ Some c
  pub unmarked : AreUnmarked rest

-- it has ended
abbrev pub HasEnded : Proc → Type 0
HasEnded s = (x : Status) × (s.status ≡ Some x)

-- the step of a process takes the offer of a value to channel c
pub record TakesOffer (program : Program) (plan : Plan) (c : ℕ) (v : ℤ) (s t : Proc) : Type 0 where
  pub stmt : ℕ
  pub need_is : need_of program plan s ≡ need.Offer c v
  pub stmt_is : next_stmt_of s.todo ≡ Some stmt
  pub marked : IsMarked program c stmt t

-- the step of a process takes some offer
abbrev pub TakesSome : Program → Plan → Proc → Proc → Type 0
TakesSome program plan s t = (c : ℕ) × (v : ℤ) × TakesOffer program plan c v s t

offer_is : (n : Need) → IsOffer n → (c : ℕ) × (v : ℤ) × (n ≡ need.Offer c v)
offer_is (need.Offer c v) h = (c, v, refl)
offer_is n h = absurd h

module _ (program : Program) (plan : Plan) (a : Answer) (s : Proc) where
  abbrev After : Type 0
  After = HasEnded (act program plan s a) ⊎ (IsUnmarked (act program plan s a) ⊎ TakesSome program plan s (act program plan s a))

  -- with no statement to do nothing is done
  none_to_do : s.todo ≡ [] → act program plan s a ≡ s
  none_to_do is = ap (λ todo. act_at program plan a todo s) is

  head_does : (t : Todo) (ts : List Todo) → s.todo ≡ t ∷ ts → act program plan s a ≡ act_by_need program plan a t ts (need_of program plan s) s
  head_does t ts is = ap (λ todo. act_at program plan a todo s) is

  takes : (t : Todo) (ts : List Todo) → s.todo ≡ t ∷ ts → s.status ≡ None → AreUnmarked ts → (c : ℕ) (v : ℤ) → need_of program plan s ≡ need.Offer c v → TakesOffer program plan c v s (act program plan s a)
  takes t ts is runs rest c v e =
      let now : act program plan s a ≡ act_by_need program plan a t ts (need.Offer c v) s = head_does t ts is ∙ ap (λ n. act_by_need program plan a t ts n s) e in
      record {
        stmt = t.stmt;
        need_is = e;
        stmt_is = ap next_stmt_of is;
        marked = subst (λ (p : Proc). IsMarked program c t.stmt p) (sym now) (record {
          runs = runs;
          head = record t { offered = true };
          rest = ts;
          todo_is = refl;
          marked = refl;
          stmt_is = refl;
          chan_is = subst (λ n. OffersSend program t.stmt n) (sym (need_at_todo program plan s (t ∷ ts) runs is) ∙ e) (running_offers program plan t ts s);
          unmarked = rest;
        });
      }

  -- a step of a process with no mark
  pub unmarked_step : IsUnmarked s → After
  unmarked_step h = by (status_of (need_of program plan s)) refl s.todo refl
    where
      by : (o : Option Status) → status_of (need_of program plan s) ≡ o → (todo : List Todo) → s.todo ≡ todo → After
      by (Some x) ends todo is = inl (x, status_after program plan a s h.runs ∙ ends)
      by None ends [] is = inr (inl (subst IsUnmarked (sym (none_to_do is)) h))
      by None ends (t ∷ ts) is = at_head (leaves program plan a t ts s is both.0 both.1)
        where
          both : (t.offered ≡ false) × AreUnmarked ts
          both = subst AreUnmarked is h.unmarked

          needs : need_of program plan s ≡ need_of_running program plan (t ∷ ts) s
          needs = need_at_todo program plan s (t ∷ ts) h.runs is

          at_head : Leaves program plan a t ts s is both.0 both.1 (need_of_running program plan (t ∷ ts) s) → After
          at_head (inl same) = inr (inl (record {
            runs = status_after program plan a s h.runs ∙ ends;
            unmarked = subst (λ (p : Proc). AreUnmarked p.todo) (sym (head_does t ts is ∙ ap (λ n. act_by_need program plan a t ts n s) needs)) same.0;
          }))
          at_head (inr offers) =
              let n = offer_is (need_of_running program plan (t ∷ ts) s) offers in
              inr (inr (n.0, n.1, takes t ts is h.runs both.1 n.0 n.1 (needs ∙ n.2)))

  -- an offer marks its send
  pub offer_step : IsUnmarked s → (c : ℕ) (v : ℤ) → need_of program plan s ≡ need.Offer c v → TakesOffer program plan c v s (act program plan s a)
  offer_step h c v e = by s.todo refl
    where
      by : (todo : List Todo) → s.todo ≡ todo → TakesOffer program plan c v s (act program plan s a)
      by [] is = let stop : need.Stopped ≡ need.Offer c v = sym (need_at_todo program plan s [] h.runs is) ∙ e in cc
      by (t ∷ ts) is = let both : (t.offered ≡ false) × AreUnmarked ts = subst AreUnmarked is h.unmarked in takes t ts is h.runs both.1 c v e

  -- a process with no mark completes nothing
  pub no_completion : IsUnmarked s → (c u : ℕ) → need_of program plan s ≡ need.Done c u → ⊥
  no_completion h c u e = by s.todo refl
    where
      by : (todo : List Todo) → s.todo ≡ todo → ⊥
      by [] is = let stop : need.Stopped ≡ need.Done c u = sym (need_at_todo program plan s [] h.runs is) ∙ e in cc
      by (t ∷ ts) is =
          let both : (t.offered ≡ false) × AreUnmarked ts = subst AreUnmarked is h.unmarked in
          let done : need_of_running program plan (t ∷ ts) s ≡ need.Done c u = sym (need_at_todo program plan s (t ∷ ts) h.runs is) ∙ e in
          never _ (need_of_running program plan (t ∷ ts) s) done (leaves program plan a t ts s is both.0 both.1)
        where
          never : (A : Type 0) (n : Need) → n ≡ need.Done c u → (A × IsNoCompletion n) ⊎ IsOffer n → ⊥
          never A n done (inl other) = subst IsNoCompletion done other.1
          never A n done (inr offers) = subst IsOffer done offers

  -- a process with a mark completes its send, or stops for its budget
  pub marked_step : (c stmt : ℕ) → IsMarked program c stmt s → ((u : ℕ) × (need_of program plan s ≡ need.Done c u) × IsUnmarked (act program plan s a)) ⊎ ((need_of program plan s ≡ need.Budget) × HasEnded (act program plan s a))
  marked_step c stmt h = by (nat_lt s.budget (s.spent + cost plan (need_of_head program plan h.head s))) refl
    where
      u : ℕ
      u = unit_of plan (start.After h.head.stmt)

      head_is : need_of_head program plan h.head s ≡ need.Done c u
      head_is = ap (λ o. need_by_offer plan h.head.stmt o (need_by_entry program plan h.head.stmt s (entry_of program plan h.head) (head_deed program h.head s)))
          (ap (λ b. if b then chan_of (kind_of program h.head.stmt) else None) h.marked ∙ h.chan_is)

      needs : (b : Bool) → nat_lt s.budget (s.spent + cost plan (need_of_head program plan h.head s)) ≡ b → need_of program plan s ≡ (if b then need.Budget else need_of_head program plan h.head s)
      needs b e = need_at_todo program plan s (h.head ∷ h.rest) h.runs h.todo_is ∙ ap (λ b. if b then need.Budget else need_of_head program plan h.head s) e

      by : (b : Bool) → nat_lt s.budget (s.spent + cost plan (need_of_head program plan h.head s)) ≡ b
          → ((u : ℕ) × (need_of program plan s ≡ need.Done c u) × IsUnmarked (act program plan s a)) ⊎ ((need_of program plan s ≡ need.Budget) × HasEnded (act program plan s a))
      by true e = inr (needs true e, (status.Budget, status_after program plan a s h.runs ∙ ap status_of (needs true e)))
      by false e =
          let done : need_of program plan s ≡ need.Done c u = needs false e ∙ head_is in
          inl (
            u,
            done,
            record {
              runs = status_after program plan a s h.runs ∙ ap status_of done;
              unmarked = subst (λ (p : Proc). AreUnmarked p.todo) (sym (head_does h.head h.rest h.todo_is ∙ ap (λ n. act_by_need program plan a h.head h.rest n s) done)) h.unmarked;
            },
          )

  -- a process that has ended does nothing more
  pub over_step : HasEnded s → (need_of program plan s ≡ need.Stopped) × HasEnded (act program plan s a)
  over_step h =
      let stop : need_of program plan s ≡ need.Stopped = need_at_status program plan s (Some h.0) h.1 in
      (stop, subst HasEnded (sym (act-stopped program plan s a stop)) h)
