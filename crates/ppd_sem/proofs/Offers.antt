-- A completion is of a send: what follows its statement runs over the same frames.
use Rattle.std.proofs.Common.{◌≡◌, ℕ, zero, suc, ◌+◌, ℤ, Bool, true, false, nat_lt, List, ◌∷◌, length, Option, Some, None, Ok, Err, refl, sym, subst, if◌then◌else◌}
use Rattle.std.specs.Prelude.{⊤}
use Rattle.std.proofs.lemmas.Option.{none-some}
use Rattle.ppd_ast.specs.declared.plan.Plan.{Plan}
use Rattle.ppd_ast.specs.declared.program.Kind.{Kind}
use Rattle.ppd_ast.specs.declared.program.Kind.TheVariants as kind
use Rattle.ppd_ast.specs.declared.program.Program.{Program}
use Rattle.ppd_ast.specs.declared.status.Status.{Status}
use Rattle.ppd_ast.specs.declared.status.Trap.TheVariants as trap
use Rattle.ppd_ast.specs.Lookups.{kind_of}
use Rattle.ppd_ast.specs.declared.limits.TheConstants.{MOST_CALLS}
use Rattle.ppd_sem.specs.declared.asking.Pause.TheVariants.{Wants, Traps}
use Rattle.ppd_sem.specs.declared.proc.Need.{Need}
use Rattle.ppd_sem.specs.declared.proc.Need.TheVariants as need
use Rattle.ppd_sem.specs.declared.proc.Proc.{Proc}
use Rattle.ppd_sem.specs.declared.proc.Todo.{Todo}
use Rattle.ppd_sem.specs.Asked.{Asked}
use Rattle.ppd_sem.specs.Deed.{Deed, leave, invoke, send}
use Rattle.ppd_sem.specs.Process.{chan_of, cost, entry_of, head_deed, need_of, need_of_asked, need_of_deed, need_of_head, need_of_leaving, need_of_send, offer_of}
use Rattle.ppd_sem.proofs.NeedWords.{need_by_entry, need_by_offer, need_by_status, need_of_running}
use Rattle.ppd_sem.specs.Runs.{returns}
use Rattle.ppd_sem.specs.Tables.{capacity_of}

-- where a need is that of a completion, its channel is such
abbrev pub DoneSuch : (ℕ → Type 0) → Need → Type 0
DoneSuch W (need.Done c u) = W c
DoneSuch W n = ⊤

-- a completion is of a send on its channel
abbrev pub CompletesSend : Program → ℕ → Need → Type 0
CompletesSend p t n = DoneSuch (λ c. chan_of (kind_of p t) ≡ Some c) n

pub if_done : (W : ℕ → Type 0) (b : Bool) (x y : Need) → DoneSuch W x → DoneSuch W y → DoneSuch W (if b then x else y)
if_done W true x y h g = h
if_done W false x y h g = g

-- a deed reads nothing and completes nothing
abbrev pub IsDeedNeed : Need → Type 0
IsDeedNeed (need.Read c) = ⊥
IsDeedNeed (need.Done c u) = ⊥
IsDeedNeed n = ⊤

sending : (plan : Plan) (t n c : ℕ) (v : ℤ) → IsDeedNeed (need_of_send plan t n c v)
sending plan t zero c v = tt
sending plan t (suc n) c v = tt

leaving : (plan : Plan) (t : ℕ) (o : Option ℕ) → IsDeedNeed (need_of_leaving plan t o)
leaving plan t None = tt
leaving plan t (Some b) = tt

calling : (b : Bool) (f : Option ℕ) (u : ℕ) → IsDeedNeed (if b then need.Trap trap.Depth else need.Invoke f u)
calling true f u = tt
calling false f u = tt

pub deed_need : (p : Program) (plan : Plan) (t : ℕ) (s : Proc) (d : Deed) → IsDeedNeed (need_of_deed p plan t s d)
deed_need p plan t s leave = leaving plan t _
deed_need p plan t s (invoke f values into) = calling (nat_lt MOST_CALLS (s.below + length s.frames)) _ _
deed_need p plan t s (send chan value) = sending plan t (capacity_of p chan) chan value
deed_need p plan t s d = tt

no_completion : (W : ℕ → Type 0) (n : Need) → IsDeedNeed n → DoneSuch W n
no_completion W (need.Done c u) h = absurd h
no_completion W n h = tt

asked_done : (W : ℕ → Type 0) (p : Program) (plan : Plan) (t : ℕ) (s : Proc) (asked : Asked Deed) → DoneSuch W (need_of_asked p plan t s asked)
asked_done W p plan t s (Ok q) = no_completion W (need_of_deed p plan t s q.0) (deed_need p plan t s q.0)
asked_done W p plan t s (Err (Wants c)) = tt
asked_done W p plan t s (Err (Traps x)) = tt

-- what is asked for is no completion
pub entry_done : (W : ℕ → Type 0) (p : Program) (plan : Plan) (t : ℕ) (s : Proc) (o : Option ℕ) (asked : Asked Deed) → DoneSuch W (need_by_entry p plan t s o asked)
entry_done W p plan t s (Some b) asked = tt
entry_done W p plan t s None asked = asked_done W p plan t s asked

offer_completes : (p : Program) (plan : Plan) (t : ℕ) (o : Option ℕ) (n : Need) → ((c : ℕ) → o ≡ Some c → chan_of (kind_of p t) ≡ Some c) → CompletesSend p t n → CompletesSend p t (need_by_offer plan t o n)
offer_completes p plan t (Some c) n h g = h c refl
offer_completes p plan t None n h g = g

pub offer_there : (b : Bool) (o : Option ℕ) (c : ℕ) → (if b then o else None) ≡ Some c → o ≡ Some c
offer_there true o c e = e
offer_there false o c e = absurd (none-some c e)

pub head_completes : (p : Program) (plan : Plan) (t : Todo) (s : Proc) → CompletesSend p t.stmt (need_of_head p plan t s)
head_completes p plan t s =
    offer_completes p plan t.stmt (offer_of p t) (need_by_entry p plan t.stmt s (entry_of p plan t) (head_deed p t s))
    (λ c e. offer_there t.offered (chan_of (kind_of p t.stmt)) c e)
    (entry_done (λ c. chan_of (kind_of p t.stmt) ≡ Some c) p plan t.stmt s (entry_of p plan t) (head_deed p t s))

-- a send returns nothing
pub send_stays : (k : Kind) (c : ℕ) → chan_of k ≡ Some c → returns k ≡ false
send_stays (kind.Return v) c e = absurd (none-some c e)
send_stays k c e = refl

-- so it is with what a process needs
pub completes : (p : Program) (plan : Plan) (s : Proc) (t : Todo) (ts : List Todo) → s.todo ≡ t ∷ ts → CompletesSend p t.stmt (need_of p plan s)
completes p plan s t ts is = by_status s.status
  where
    by_status : (o : Option Status) → CompletesSend p t.stmt (need_by_status p plan o s)
    by_status (Some x) = tt
    by_status None =
        subst (λ todo. CompletesSend p t.stmt (need_of_running p plan todo s)) (sym is)
        (if_done (λ c. chan_of (kind_of p t.stmt) ≡ Some c) (nat_lt s.budget (s.spent + cost plan (need_of_head p plan t s))) need.Budget (need_of_head p plan t s) tt (head_completes p plan t s))
