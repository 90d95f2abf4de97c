-- What holds of frames, of what is to do and of answers goes on holding with each step.
use Rattle.std.proofs.Common.{◌≡◌, ℕ, zero, suc, ◌+◌, ℤ, Bool, true, false, List, [], ◌∷◌, ◌++◌, Option, Some, None, Ok, Err, refl, ap, sym, subst, inl, inr, ◌⊎◌, true≢false, length}
use Rattle.std.specs.Prelude.{nat_lt, if◌then◌else◌}
use Rattle.ppd_ast.specs.declared.plan.BlockKind.TheVariants as block
use Rattle.ppd_ast.specs.declared.plan.Plan.{Plan}
use Rattle.ppd_ast.specs.declared.plan.Start.TheVariants as start
use Rattle.ppd_ast.specs.declared.program.Program.{Program}
use Rattle.ppd_ast.specs.declared.status.Status.{Status}
use Rattle.ppd_ast.specs.declared.status.Trap.TheVariants as trap
use Rattle.ppd_ast.specs.Lookups.{kind_of}
use Rattle.ppd_ast.specs.declared.limits.TheConstants.{MOST_CALLS}
use Rattle.ppd_sem.specs.declared.asking.Pause.TheVariants.{Wants, Traps}
use Rattle.ppd_sem.specs.declared.proc.Answer.{Answer}
use Rattle.ppd_sem.specs.declared.proc.Frame.{Frame}
use Rattle.ppd_sem.specs.declared.proc.Need.{Need}
use Rattle.ppd_sem.specs.declared.proc.Need.TheVariants.{Enter, Invoke, Offer, Done, Trap, Budget, Stopped}
use Rattle.ppd_sem.specs.declared.proc.Proc.{Proc}
use Rattle.ppd_sem.specs.declared.proc.Todo.{Todo}
use Rattle.ppd_sem.specs.Asked.{Asked}
use Rattle.ppd_sem.specs.Deed.{Deed, leave, invoke, send}
use Rattle.ppd_sem.specs.Process.{act, act_by_asked, act_by_deed, act_by_need, chan_of, cost, entry_of, head_deed, need_of, need_of_asked, need_of_deed, need_of_head, need_of_leaving, need_of_send, offer_of, value_of}
use Rattle.ppd_sem.proofs.NeedWords.{act_at, need_by_entry, need_by_offer, need_by_status}
use Rattle.ppd_sem.specs.Tables.{block_of, capacity_of, unit_of}
use Rattle.ppd_sem.proofs.Offers.{offer_there}
use Rattle.ppd_sem.proofs.Progress.{need_at_todo}
use Rattle.ppd_model.proofs.OfferedSends.{OffersSend, head_offers}

-- a step of this need does what its statement asks
abbrev pub is_doing : Need → Bool
is_doing (Enter b u) = false
is_doing (Offer c v) = false
is_doing (Done c u) = false
is_doing (Trap x) = false
is_doing Budget = false
is_doing Stopped = false
is_doing n = true

abbrev pub Holds : (List Frame → List Todo → List ℤ → Type 0) → Proc → Type 0
Holds Q x = Q x.frames x.todo x.answers

module _ (program : Program) (plan : Plan) (Q : List Frame → List Todo → List ℤ → Type 0) (s : Proc) (a : Answer)
    (same : Holds Q s) where
  module _ (t : Todo) (ts : List Todo)
      (enters : (b : ℕ) → entry_of program plan t ≡ Some b → Q s.frames (record t { entered = true } ∷ ts) s.answers)
      (reads : (v : ℤ) → entry_of program plan t ≡ None → Q s.frames s.todo (s.answers ++ v ∷ []))
      (deeds : (d : Deed) (left : List ℤ) → entry_of program plan t ≡ None → head_deed program t s ≡ Ok (d, left)
      → Holds Q (act_by_deed program a t ts d (record s { answers = [] })))
      (offers : (c : ℕ) → chan_of (kind_of program t.stmt) ≡ Some c → Q s.frames (record t { offered = true } ∷ ts) [])
      (completes : (c : ℕ) → chan_of (kind_of program t.stmt) ≡ Some c → Q s.frames ts []) where
    doing : (n : Need) → is_doing n ≡ true → Holds Q (act_by_asked program a t ts (head_deed program t s) s)
        → Holds Q (act_by_need program plan a t ts n s)
    doing (Enter b u) e h = absurd (true≢false (sym e))
    doing (Offer c v) e h = absurd (true≢false (sym e))
    doing (Done c u) e h = absurd (true≢false (sym e))
    doing (Trap x) e h = absurd (true≢false (sym e))
    doing Budget e h = absurd (true≢false (sym e))
    doing Stopped e h = absurd (true≢false (sym e))
    doing n e h = h

    -- a deed is done, but a call that is too deep and a send that is offered
    abbrev Does : Need → Type 0
    Does n = (is_doing n ≡ true) ⊎ ((n ≡ Trap trap.Depth) ⊎ ((c : ℕ) × (v : ℤ) × (n ≡ Offer c v)))

    does : (d : Deed) → Does (need_of_deed program plan t.stmt s d)
    does (invoke f vs into) = by (nat_lt MOST_CALLS (s.below + length s.frames))
      where
        by : (c : Bool) → Does (if c then Trap trap.Depth else Invoke (block_of plan (block.Function f))
            (unit_of plan (start.Entry f)))
        by true = inr (inl refl)
        by false = inl refl
    does leave = by (block_of plan (block.Loop t.stmt))
      where
        by : (o : Option ℕ) → Does (need_of_leaving plan t.stmt o)
        by None = inl refl
        by (Some c) = inl refl
    does (send c v) = by (capacity_of program c)
      where
        by : (n : ℕ) → Does (need_of_send plan t.stmt n c v)
        by zero = inr (inr (c, v, refl))
        by (suc n) = inl refl
    does d = inl refl

    does_so : (n : Need) → Does n → OffersSend program t.stmt n
        → Holds Q (act_by_asked program a t ts (head_deed program t s) s)
        → Holds Q (act_by_need program plan a t ts n s)
    does_so n (inl e) o h = doing n e h
    does_so n (inr (inl e)) o h = subst (λ n. Holds Q (act_by_need program plan a t ts n s)) (sym e) same
    does_so n (inr (inr x)) o h =
        subst (λ n. Holds Q (act_by_need program plan a t ts n s)) (sym x.2)
        (offers x.0 (subst (OffersSend program t.stmt) x.2 o))

    by_asked : (q : Asked Deed) → entry_of program plan t ≡ None → head_deed program t s ≡ q
        → OffersSend program t.stmt (need_of_asked program plan t.stmt s q)
        → Holds Q (act_by_need program plan a t ts (need_of_asked program plan t.stmt s q) s)
    by_asked (Ok p) o e h = does_so (need_of_deed program plan t.stmt s p.0) (does p.0) h
        (subst (λ q. Holds Q (act_by_asked program a t ts q s)) (sym e) (deeds p.0 p.1 o e))
    by_asked (Err (Wants c)) o e h =
        subst (λ q. Holds Q (act_by_asked program a t ts q s)) (sym e) (reads (value_of a) o)
    by_asked (Err (Traps x)) o e h = same

    by_entry : (o : Option ℕ) → entry_of program plan t ≡ o
        → OffersSend program t.stmt (need_by_entry program plan t.stmt s o (head_deed program t s))
        → Holds Q (act_by_need program plan a t ts (need_by_entry program plan t.stmt s o (head_deed program t s)) s)
    by_entry (Some b) e h = enters b e
    by_entry None e h = by_asked (head_deed program t s) e refl h

    by_offer : (o : Option ℕ) → offer_of program t ≡ o
        → (let n : Need = need_by_offer plan t.stmt o
        (need_by_entry program plan t.stmt s (entry_of program plan t)
        (head_deed program t s)) in OffersSend program t.stmt n → Holds Q (act_by_need program plan a t ts n s))
    by_offer (Some c) e h = completes c (offer_there t.offered (chan_of (kind_of program t.stmt)) c e)
    by_offer None e h = by_entry (entry_of program plan t) refl h

    by_budget : (b : Bool) → Holds Q
        (act_by_need program plan a t ts (if b then Budget else need_of_head program plan t s) s)
    by_budget true = same
    by_budget false = by_offer (offer_of program t) refl (head_offers program plan t s)

    by_status : (o : Option Status) → s.todo ≡ t ∷ ts → s.status ≡ o
        → Holds Q (act_by_need program plan a t ts (need_of program plan s) s)
    by_status (Some x) is e =
        subst (λ n. Holds Q (act_by_need program plan a t ts n s))
        (sym (ap (λ o. need_by_status program plan o s) e)) same
    by_status None is e =
        subst (λ n. Holds Q (act_by_need program plan a t ts n s)) (sym (need_at_todo program plan s (t ∷ ts) e is))
        (by_budget (nat_lt s.budget (s.spent + cost plan (need_of_head program plan t s))))

  pub keeps : ((t : Todo) (ts : List Todo) (b : ℕ) → s.todo ≡ t ∷ ts → entry_of program plan t ≡ Some b
      → Q s.frames (record t { entered = true } ∷ ts) s.answers)
      → ((t : Todo) (ts : List Todo) (v : ℤ) → s.todo ≡ t ∷ ts → entry_of program plan t ≡ None
      → Q s.frames s.todo (s.answers ++ v ∷ []))
      → ((t : Todo) (ts : List Todo) (d : Deed) (left : List ℤ) → s.todo ≡ t ∷ ts → entry_of program plan t ≡ None
      → head_deed program t s ≡ Ok (d, left) → Holds Q (act_by_deed program a t ts d (record s { answers = [] })))
      → ((t : Todo) (ts : List Todo) (c : ℕ) → s.todo ≡ t ∷ ts → chan_of (kind_of program t.stmt) ≡ Some c
      → Q s.frames (record t { offered = true } ∷ ts) [])
      → ((t : Todo) (ts : List Todo) (c : ℕ) → s.todo ≡ t ∷ ts → chan_of (kind_of program t.stmt) ≡ Some c
      → Q s.frames ts [])
      → Holds Q (act program plan s a)
  keeps enters reads deeds offers completes = by s.todo refl
    where
      by : (todo : List Todo) → s.todo ≡ todo → Holds Q (act_at program plan a todo s)
      by [] is = same
      by (t ∷ ts) is =
          by_status t ts (λ b. enters t ts b is) (λ v. reads t ts v is) (λ d left. deeds t ts d left is)
          (λ c. offers t ts c is) (λ c. completes t ts c is) s.status is refl
