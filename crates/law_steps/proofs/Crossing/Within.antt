-- A step inside a nested block stays in it.
use Rattle.std.proofs.Common.{◌≡◌, ℕ, ◌+◌, ◌≤◌, List, [], ◌∷◌, ◌++◌, Bool, true, false, Option, Some, None, Ok, Err, refl, ap, sym, subst, ◌∙◌, arith, true≢false, length, zero, suc}
use Rattle.std.specs.Prelude.{⊤, ◌⊎◌, is_some, nat_lt, if◌then◌else◌}
use Rattle.ppd_ast.specs.declared.plan.Plan.{Plan}
use Rattle.ppd_ast.specs.declared.program.Program.{Program}
use Rattle.ppd_sem.specs.declared.asking.Pause.TheVariants.{Wants, Traps}
use Rattle.ppd_sem.specs.declared.proc.Answer.{Answer}
use Rattle.ppd_sem.specs.declared.proc.Frame.{Frame}
use Rattle.ppd_sem.specs.declared.proc.Need.{Need}
use Rattle.ppd_sem.specs.declared.proc.Need.TheVariants.{Enter, Invoke, Offer, Done, Trap, Budget, Stopped}
use Rattle.ppd_sem.specs.declared.proc.Proc.{Proc}
use Rattle.ppd_sem.specs.declared.proc.Todo.{Todo}
use Rattle.ppd_sem.specs.Asked.{Asked}
use Rattle.ppd_sem.specs.Deed.{Deed, leave, invoke, send}
use Rattle.ppd_sem.specs.Tables.{block_of, capacity_of, unit_of}
use Rattle.ppd_ast.specs.declared.plan.BlockKind.TheVariants as block
use Rattle.ppd_ast.specs.declared.plan.Start.TheVariants as start
use Rattle.ppd_ast.specs.declared.status.Trap.TheVariants as trap
use Rattle.ppd_ast.specs.Lookups.{kind_of}
use Rattle.ppd_ast.specs.declared.limits.TheConstants.{MOST_CALLS}
use Rattle.ppd_sem.specs.Described.{ends_body}
use Rattle.ppd_sem.specs.Process.{act, act_by_asked, act_by_need, charged, entry_of, head_deed, need_of, need_of_asked, need_of_deed, need_of_head, need_of_leaving, need_of_send, offer_of, top_frame}
use Rattle.ppd_sem.proofs.NeedWords.{act_at, need_by_entry, need_by_offer}
use Rattle.ppd_sem.proofs.Offers.{DoneSuch, entry_done}
use Rattle.ppd_sem.proofs.Progress.{SamePurse, asked_purse}
use Rattle.ppd_model.specs.Logs.{status_of}
use Rattle.ppd_model.specs.Replay.{is_budget}
use Rattle.law_steps.proofs.Vocabulary.Relation.{HasEnd, HasEnds, IsLong, Suits, Yields, past_body}
use Rattle.law_steps.proofs.Vocabulary.Held.{Held, IsIn, IsWritingBlock, MayWrite, StaysIn, own, called}
use Rattle.law_steps.proofs.Beside.Deeds.{suits}
use Rattle.law_steps.proofs.Beside.Held.{deed_held, head_written, past_held}
use Rattle.law_steps.proofs.Beside.Writes.{writes_at_most}
use Rattle.law_steps.proofs.Beside.Sends.{offered_goes_on}
use Rattle.law_steps.proofs.Beside.Needs.{is_enter, payable}
use Rattle.law_steps.proofs.Beside.Turned.{head_is}
use Rattle.law_steps.proofs.Beside.Todos.{last_headed}

module _ (program : Program) (plan : Plan) where
  -- a step keeps the calls below and the budget, and costs something
  pub record IsSpent (s t : Proc) : Type 0 where
    pub below : t.below ≡ s.below
    pub budget : t.budget ≡ s.budget
    pub spent : s.spent ≤ t.spent

  spent_asked : (a : Answer) (t : Todo) (ts : List Todo) (n : Need) (s : Proc)
      → IsSpent s (charged plan n (act_by_asked program a t ts (head_deed program t s) s))
  spent_asked a t ts n s =
      let p : SamePurse s (act_by_asked program a t ts (head_deed program t s) s) =
      asked_purse program a t ts (head_deed program t s) s in
      record { below = p.below; budget = p.budget; spent = omega (arith, p.spent) }

  spent_need : (a : Answer) (t : Todo) (ts : List Todo) (n : Need) (s : Proc)
      → IsSpent s (act_by_need program plan a t ts n s)
  spent_need a t ts Stopped s = record { below = refl; budget = refl; spent = omega arith }
  spent_need a t ts Budget s = record { below = refl; budget = refl; spent = omega arith }
  spent_need a t ts (Enter b u) s = record { below = refl; budget = refl; spent = omega arith }
  spent_need a t ts (Trap x) s = record { below = refl; budget = refl; spent = omega arith }
  spent_need a t ts (Offer c v) s = record { below = refl; budget = refl; spent = omega arith }
  spent_need a t ts (Done c u) s = record { below = refl; budget = refl; spent = omega arith }
  spent_need a t ts n s = spent_asked a t ts n s

  spent_at : (a : Answer) (todo : List Todo) (s : Proc) → IsSpent s (act_at program plan a todo s)
  spent_at a [] s = record { below = refl; budget = refl; spent = omega arith }
  spent_at a (t ∷ ts) s = spent_need a t ts (need_of program plan s) s

  pub spent_act : (a : Answer) (s : Proc) → IsSpent s (act program plan s a)
  spent_act a s = spent_at a s.todo s

  -- only a loop that is yet to be entered needs that
  deed_no_enter : (t : ℕ) (s : Proc) (d : Deed) → is_enter (need_of_deed program plan t s d) ≡ false
  deed_no_enter t s leave = by (block_of plan (block.Loop t))
    where
      by : (o : Option ℕ) → is_enter (need_of_leaving plan t o) ≡ false
      by None = refl
      by (Some b) = refl
  deed_no_enter t s (invoke f vs into) = by (nat_lt MOST_CALLS (s.below + length s.frames))
    where
      by : (x : Bool) → is_enter
          (if x then Trap trap.Depth else Invoke (block_of plan (block.Function f)) (unit_of plan (start.Entry f)))
          ≡ false
      by true = refl
      by false = refl
  deed_no_enter t s (send c v) = by (capacity_of program c)
    where
      by : (n : ℕ) → is_enter (need_of_send plan t n c v) ≡ false
      by zero = refl
      by (suc n) = refl
  deed_no_enter t s d = refl

  pub asked_no_enter : (t : ℕ) (s : Proc) (q : Asked Deed) → is_enter (need_of_asked program plan t s q) ≡ false
  asked_no_enter t s (Ok p) = deed_no_enter t s p.0
  asked_no_enter t s (Err (Wants c)) = refl
  asked_no_enter t s (Err (Traps y)) = refl

  module _ (written inside : ℕ → Type 0) (ends : HasEnds program)
      (block_is : IsWritingBlock program written inside) (closer : Todo) (base : Frame) (below : List Frame)
      (outside : List Todo) where
    abbrev In : Proc → Type 0
    In x = IsIn program written inside closer base below outside x

    paid_in : (n : Need) (x : Proc) → In x → In (charged plan n x)
    paid_in n x w = record { has_called = w.has_called; todo = w.todo; todo_is = w.todo_is; frames = w.frames }

    module _ (a : Answer) (x : Proc) (b : Bool) (t : Todo) (ts : List Todo) (is : x.todo ≡ t ∷ (ts ++ outside))
        (held : Held program written inside closer base below b x.frames (t ∷ ts)) where
      asked_in : (q : Asked Deed) → head_deed program t x ≡ q
          → status_of (need_of_asked program plan t.stmt x q) ≡ None → Yields (StaysIn b (t ∷ ts)) q
          → In (act_by_asked program a t (ts ++ outside) q x)
      asked_in (Ok p) e ok stays =
          deed_held program written inside ends block_is closer base below outside a b t ts p.0
          (record x { answers = [] }) held
          (subst (Yields (Suits (kind_of program t.stmt))) e
          (suits program.exprs (kind_of program t.stmt) (top_frame x.frames).cells x.answers))
          (λ none. subst (Yields (MayWrite written)) e
          (writes_at_most written program.exprs (kind_of program t.stmt) (top_frame x.frames).cells x.answers
          (head_written program written inside ends block_is closer base below b t x.frames ts held none)))
          stays
      asked_in (Err (Wants c)) e ok stays = record { has_called = b; todo = t ∷ ts; todo_is = is; frames = held }
      asked_in (Err (Traps y)) e ok stays = absurd (true≢false (ap is_some ok))

      -- a loop that is entered is not the last that the block has to do
      entered_held : (c : Bool) (fs : List Frame) (u : Todo) → u.stmt ≡ t.stmt → (c ≡ false → IsLong (t ∷ ts))
          → Held program written inside closer base below c fs (t ∷ ts)
          → Held program written inside closer base below c fs (u ∷ ts)
      entered_held c fs u e long (own f todo kept within) =
          own f (u ∷ ts) kept (
            (subst inside (sym e) within.0.0, within.0.1),
            last_headed closer t u ts
                (long refl) within.1,
          )
      entered_held c fs u e long (called b' f fs' todo to has h) =
          called b' f fs' (u ∷ ts) to (subst (λ s. HasEndOf s) (sym e) has)
          (subst (λ s. Held program written inside closer base below b' fs' (past_of s)) (sym e) h)
        where
          HasEndOf : ℕ → Type 0
          HasEndOf s = (ends_body (kind_of program s) ≡ true) ⊎ HasEnd program ts

          past_of : ℕ → List Todo
          past_of s = if ends_body (kind_of program s) then ts else past_body program ts

      -- an offer is not of the last that the block has to do
      abbrev LongIf : Need → Type 0
      LongIf (Offer c v) = b ≡ false → IsLong (t ∷ ts)
      LongIf n = ⊤

      deed_long : (d : Deed) → StaysIn b (t ∷ ts) d → LongIf (need_of_deed program plan t.stmt x d)
      deed_long (send c v) k = by (capacity_of program c)
        where
          by : (n : ℕ) → LongIf (need_of_send plan t.stmt n c v)
          by zero = k
          by (suc n) = tt
      deed_long leave k = by (block_of plan (block.Loop t.stmt))
        where
          by : (o : Option ℕ) → LongIf (need_of_leaving plan t.stmt o)
          by None = tt
          by (Some c) = tt
      deed_long (invoke f vs into) k = by (nat_lt MOST_CALLS (x.below + length x.frames))
        where
          by : (deep : Bool) → LongIf
              (if deep then Trap trap.Depth else Invoke (block_of plan (block.Function f))
              (unit_of plan (start.Entry f)))
          by true = tt
          by false = tt
      deed_long d k = tt

      asked_long : (q : Asked Deed) → Yields (StaysIn b (t ∷ ts)) q → LongIf (need_of_asked program plan t.stmt x q)
      asked_long (Ok p) k = deed_long p.0 k
      asked_long (Err (Wants c)) k = tt
      asked_long (Err (Traps y)) k = tt

      entry_in : (o : Option ℕ) → entry_of program plan t ≡ o
          → status_of (need_by_entry program plan t.stmt x o (head_deed program t x)) ≡ None
          → ((c : ℕ) → o ≡ Some c → b ≡ false → IsLong (t ∷ ts))
          → (o ≡ None → Yields (StaysIn b (t ∷ ts)) (head_deed program t x))
          → In (act_by_need program plan a t (ts ++ outside)
          (need_by_entry program plan t.stmt x o (head_deed program t x)) x)
      entry_in (Some c) e ok long stays =
          record {
            has_called = b;
            todo = record t { entered = true } ∷ ts;
            todo_is = refl;
            frames = entered_held b x.frames (record t { entered = true }) refl (long c refl) held;
          }
      entry_in None e ok long stays = by (need_of_asked program plan t.stmt x (head_deed program t x)) refl ok
        where
          plain : (n : Need) → status_of (need_of_asked program plan t.stmt x (head_deed program t x)) ≡ None
              → In (charged plan n (act_by_asked program a t (ts ++ outside) (head_deed program t x) x))
          plain n ok' = paid_in n (act_by_asked program a t (ts ++ outside) (head_deed program t x) x)
              (asked_in (head_deed program t x) refl ok' (stays refl))

          by : (n : Need) → need_of_asked program plan t.stmt x (head_deed program t x) ≡ n → status_of n ≡ None
              → In (act_by_need program plan a t (ts ++ outside) n x)
          by Stopped m ok' = record { has_called = b; todo = t ∷ ts; todo_is = is; frames = held }
          by Budget m ok' = absurd (true≢false (ap is_some ok'))
          by (Enter c u) m ok' = absurd (true≢false
              (sym (ap is_enter m) ∙ asked_no_enter t.stmt x (head_deed program t x)))
          by (Trap y) m ok' = absurd (true≢false (ap is_some ok'))
          by (Offer c v) m ok' = record {
            has_called = b;
            todo = record t { offered = true } ∷ ts;
            todo_is = refl;
            frames = entered_held b x.frames (record t { offered = true }) refl
                (subst LongIf m (asked_long (head_deed program t x) (stays refl))) held;
          }
          by (Done c u) m ok' = absurd (subst (DoneSuch (λ c. ⊥)) m
              (entry_done (λ c. ⊥) program plan t.stmt x None (head_deed program t x)))
          by n m ok' = plain n (ap status_of m ∙ ok')

      -- a send whose offer was taken is done
      done_in : (c u : ℕ) → offer_of program t ≡ Some c → (b ≡ false → IsLong (t ∷ ts))
          → In (act_by_need program plan a t (ts ++ outside) (Done c u) x)
      done_in c u e long = record {
        has_called = b;
        todo = ts;
        todo_is = refl;
        frames = past_held program written inside ends block_is closer base below b t x.frames ts
            (offered_goes_on program t c e) long held;
      }

      abbrev asks : Need
      asks = need_by_entry program plan t.stmt x (entry_of program plan t) (head_deed program t x)

      offer_in : (o : Option ℕ) → offer_of program t ≡ o → status_of (need_by_offer plan t.stmt o asks) ≡ None
          → ((c : ℕ) → o ≡ Some c → b ≡ false → IsLong (t ∷ ts))
          → ((c : ℕ) → entry_of program plan t ≡ Some c → b ≡ false → IsLong (t ∷ ts))
          → (o ≡ None → entry_of program plan t ≡ None → Yields (StaysIn b (t ∷ ts)) (head_deed program t x))
          → In (act_by_need program plan a t (ts ++ outside) (need_by_offer plan t.stmt o asks) x)
      offer_in (Some c) e ok done long stays = done_in c (unit_of plan (start.After t.stmt)) e (done c refl)
      offer_in None e ok done long stays = entry_in (entry_of program plan t) refl ok long (stays refl)

      -- the step, where it stays
      pub stays_in : x.status ≡ None → status_of (need_of program plan x) ≡ None
          → ((c : ℕ) → offer_of program t ≡ Some c → b ≡ false → IsLong (t ∷ ts))
          → ((c : ℕ) → entry_of program plan t ≡ Some c → b ≡ false → IsLong (t ∷ ts))
          → (offer_of program t ≡ None → entry_of program plan t ≡ None
          → Yields (StaysIn b (t ∷ ts)) (head_deed program t x)) → In (act program plan x a)
      stays_in running ok done long stays =
          let free : is_budget (need_of program plan x) ≡ false = payable (need_of program plan x) ok in
          let head : need_of_head program plan t x ≡ need_of program plan x =
          head_is program plan x t (ts ++ outside) (need_of program plan x) running is refl free in
          subst (λ y. In y) (sym (ap (λ todo. act_at program plan a todo x) is
          ∙ ap (λ n. act_by_need program plan a t (ts ++ outside) n x) (sym head)))
          (offer_in (offer_of program t) refl (ap status_of head ∙ ok) done long stays)
