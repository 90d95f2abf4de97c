-- A completion comes of an offer alone, and an offer of a send.
use Rattle.std.proofs.Common.{◌≡◌, ℕ, zero, suc, ◌+◌, ℤ, Bool, true, false, nat_lt, List, [], ◌∷◌, ◌++◌, length, Option, Some, None, Ok, Err, refl, sym, ◌∙◌, subst, arith, true≢false, if◌then◌else◌}
use Rattle.std.specs.Prelude.{⊤}
use Rattle.std.proofs.lemmas.List.{append-nil}
use Rattle.ppd_ast.specs.declared.plan.Plan.{Plan}
use Rattle.ppd_ast.specs.declared.program.Kind.{Kind}
use Rattle.ppd_ast.specs.declared.program.Program.{Program}
use Rattle.ppd_ast.specs.declared.status.Status.{Status}
use Rattle.ppd_ast.specs.declared.status.Trap.TheVariants as trap
use Rattle.ppd_ast.specs.Lookups.{kind_of}
use Rattle.ppd_ast.specs.declared.limits.TheConstants.{MOST_CALLS}
use Rattle.ppd_sem.specs.declared.asking.Pause.TheVariants.{Wants, Traps}
use Rattle.ppd_sem.specs.declared.proc.Need.{Need}
use Rattle.ppd_sem.specs.declared.proc.Need.TheVariants.{Invoke, Offer, Done, Trap, Budget}
use Rattle.ppd_sem.specs.declared.proc.Proc.{Proc}
use Rattle.ppd_sem.specs.declared.proc.Todo.{Todo}
use Rattle.ppd_sem.specs.Asked.{Asked}
use Rattle.ppd_sem.specs.Deed.{Deed, set_local, set_shared, clear, branch, turn, leave, invoke, back, take, give, send, receive, print, pass, finish}
use Rattle.ppd_sem.specs.Offers.{HasNoOffer, OffersAtHead}
use Rattle.ppd_sem.specs.Process.{chan_of, cost, entry_of, head_deed, need_of_asked, need_of_deed, need_of_head, need_of_leaving, need_of_send, offer_of, todos, top_frame}
use Rattle.ppd_sem.proofs.NeedWords.{need_by_entry, need_by_offer, need_by_status, need_of_running}
use Rattle.ppd_sem.specs.Tables.{capacity_of}
use Rattle.ppd_sem.proofs.Offers.{DoneSuch, entry_done, if_done}
use Rattle.ppd_sem.proofs.OfKind.{IsDeedOf, OfAsked, asked_holds, sends}

-- ---- statements whose offer was not taken

pub none_offered : HasNoOffer []
none_offered k d lt = absurd (omega arith)

pub with_unoffered : (t : Todo) (ts : List Todo) → t.offered ≡ false → HasNoOffer ts → HasNoOffer (t ∷ ts)
with_unoffered t ts h g zero d lt = h
with_unoffered t ts h g (suc k) d lt = g k d (omega arith)

pub unoffered_before : (xs : List ℕ) (ts : List Todo) → HasNoOffer ts → HasNoOffer (todos xs ++ ts)
unoffered_before [] ts h = h
unoffered_before (x ∷ xs) ts h = with_unoffered (record { stmt = x; entered = false; offered = false }) (todos xs ++ ts) refl (unoffered_before xs ts h)

pub unoffered_todos : (xs : List ℕ) → HasNoOffer (todos xs)
unoffered_todos xs = subst HasNoOffer (append-nil (todos xs)) (unoffered_before xs [] none_offered)

pub at_head : (p : Program) (todo : List Todo) → HasNoOffer todo → OffersAtHead p todo
at_head p [] h = tt
at_head p (t ∷ ts) h = (λ is. absurd (true≢false (sym is ∙ h 0 t (omega arith))), λ k d lt. h (suc k) d (omega arith))

-- ---- a need of a completion comes of an offer alone

abbrev pub IsNoDone : Need → Type 0
IsNoDone n = DoneSuch (λ c. ⊥) n

pub no_done : (n : Need) (c u : ℕ) → IsNoDone n → n ≡ Done c u → ⊥
no_done n c u h e = subst IsNoDone e h

module _ (p : Program) (plan : Plan) where
  head_no_done : (t : Todo) (s : Proc) → t.offered ≡ false → IsNoDone (need_of_head p plan t s)
  head_no_done t s e =
      subst (λ (b : Bool). IsNoDone (need_by_offer plan t.stmt (if b then chan_of (kind_of p t.stmt) else None) (need_by_entry p plan t.stmt s (entry_of p plan t) (head_deed p t s)))) (sym e)
      (entry_done (λ c. ⊥) p plan t.stmt s (entry_of p plan t) (head_deed p t s))

  todo_no_done : (todo : List Todo) (s : Proc) → HasNoOffer todo → IsNoDone (need_of_running p plan todo s)
  todo_no_done [] s h = tt
  todo_no_done (t ∷ ts) s h = if_done (λ c. ⊥) (nat_lt s.budget (s.spent + cost plan (need_of_head p plan t s))) Budget (need_of_head p plan t s) tt (head_no_done t s (h 0 t (omega arith)))

  pub unoffered_no_done : (o : Option Status) (s : Proc) → HasNoOffer s.todo → IsNoDone (need_by_status p plan o s)
  unoffered_no_done (Some x) s h = tt
  unoffered_no_done None s h = todo_no_done s.todo s h

-- ---- an offer is of a send

-- a deed that sends is of a send on its channel
abbrev SendFits : Kind → Deed → Type 0
SendFits k (send c v) = chan_of k ≡ Some c
SendFits k d = ⊤

send_fits : (k : Kind) (d : Deed) → IsDeedOf k d → SendFits k d
send_fits k d (sends v) = refl
send_fits k d is = tt

-- an offer on a channel is of such a send
abbrev pub OfferFits : Kind → Need → Type 0
OfferFits k (Offer c v) = chan_of k ≡ Some c
OfferFits k n = ⊤

if_offer : (k : Kind) (b : Bool) (x y : Need) → OfferFits k x → OfferFits k y → OfferFits k (if b then x else y)
if_offer k true x y h g = h
if_offer k false x y h g = g

send_offer : (k : Kind) (plan : Plan) (t n c : ℕ) (v : ℤ) → chan_of k ≡ Some c → OfferFits k (need_of_send plan t n c v)
send_offer k plan t zero c v h = h
send_offer k plan t (suc n) c v h = tt

leaving_offer : (k : Kind) (plan : Plan) (t : ℕ) (o : Option ℕ) → OfferFits k (need_of_leaving plan t o)
leaving_offer k plan t None = tt
leaving_offer k plan t (Some b) = tt

deed_offer : (k : Kind) (p : Program) (plan : Plan) (t : ℕ) (s : Proc) (d : Deed) → SendFits k d → OfferFits k (need_of_deed p plan t s d)
deed_offer k p plan t s (set_local c v) h = tt
deed_offer k p plan t s (set_shared c v) h = tt
deed_offer k p plan t s (clear base len) h = tt
deed_offer k p plan t s (branch stmts) h = tt
deed_offer k p plan t s (turn stmts) h = tt
deed_offer k p plan t s leave h = leaving_offer k plan t _
deed_offer k p plan t s (invoke f values into) h = if_offer k (nat_lt MOST_CALLS (s.below + length s.frames)) (Trap trap.Depth) (Invoke _ _) tt tt
deed_offer k p plan t s (back value) h = tt
deed_offer k p plan t s (take sem) h = tt
deed_offer k p plan t s (give sem) h = tt
deed_offer k p plan t s (send chan value) h = send_offer k plan t (capacity_of p chan) chan value h
deed_offer k p plan t s (receive chan into) h = tt
deed_offer k p plan t s (print v) h = tt
deed_offer k p plan t s pass h = tt
deed_offer k p plan t s finish h = tt

asked_offer : (k : Kind) (p : Program) (plan : Plan) (t : ℕ) (s : Proc) (asked : Asked Deed) → OfAsked (SendFits k) asked → OfferFits k (need_of_asked p plan t s asked)
asked_offer k p plan t s (Ok q) h = deed_offer k p plan t s q.0 h
asked_offer k p plan t s (Err (Wants c)) h = tt
asked_offer k p plan t s (Err (Traps x)) h = tt

entry_offer : (k : Kind) (p : Program) (plan : Plan) (t : ℕ) (s : Proc) (o : Option ℕ) (asked : Asked Deed) → OfAsked (SendFits k) asked → OfferFits k (need_by_entry p plan t s o asked)
entry_offer k p plan t s (Some b) asked h = tt
entry_offer k p plan t s None asked h = asked_offer k p plan t s asked h

marked_offer : (k : Kind) (plan : Plan) (t : ℕ) (o : Option ℕ) (n : Need) → OfferFits k n → OfferFits k (need_by_offer plan t o n)
marked_offer k plan t (Some c) n h = tt
marked_offer k plan t None n h = h

head_offer : (p : Program) (plan : Plan) (t : Todo) (s : Proc) → OfferFits (kind_of p t.stmt) (need_of_head p plan t s)
head_offer p plan t s =
    marked_offer (kind_of p t.stmt) plan t.stmt (offer_of p t) (need_by_entry p plan t.stmt s (entry_of p plan t) (head_deed p t s))
    (entry_offer (kind_of p t.stmt) p plan t.stmt s (entry_of p plan t) (head_deed p t s)
    (asked_holds p.exprs (top_frame s.frames).cells s.answers (SendFits (kind_of p t.stmt)) (kind_of p t.stmt) (send_fits (kind_of p t.stmt))))

pub running_offer : (p : Program) (plan : Plan) (t : Todo) (ts : List Todo) (s : Proc) → OfferFits (kind_of p t.stmt) (need_of_running p plan (t ∷ ts) s)
running_offer p plan t ts s = if_offer (kind_of p t.stmt) (nat_lt s.budget (s.spent + cost plan (need_of_head p plan t s))) Budget (need_of_head p plan t s) tt (head_offer p plan t s)
