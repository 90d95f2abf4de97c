-- What the need of an event tells of its statement.
use Rattle.std.proofs.Common.{◌≡◌, ℕ, zero, suc, ◌+◌, ℤ, Bool, true, false, List, [], ◌∷◌, Option, Some, None, Ok, Err, refl, ap, sym, ◌∙◌, cond, length, nat_lt}
use Rattle.std.specs.Prelude.{⊤}
use Rattle.std.proofs.lemmas.Option.{none-some}
use Rattle.ppd_ast.specs.declared.plan.Plan.{Plan}
use Rattle.ppd_ast.specs.declared.program.Kind.{Kind}
use Rattle.ppd_ast.specs.declared.program.Kind.TheVariants as kind
use Rattle.ppd_ast.specs.declared.program.Program.{Program}
use Rattle.ppd_ast.specs.declared.status.Status.{Status}
use Rattle.ppd_ast.specs.declared.status.Trap.TheVariants as trap
use Rattle.ppd_ast.specs.Lookups.{kind_of}
use Rattle.ppd_sem.specs.declared.asking.Pause.TheVariants.{Wants, Traps}
use Rattle.ppd_sem.specs.declared.proc.Need.{Need}
use Rattle.ppd_sem.specs.declared.proc.Need.TheVariants.{Read, Invoke, Enter, Offer, Done, Trap, Budget, Stopped}
use Rattle.ppd_sem.specs.declared.proc.Proc.{Proc}
use Rattle.ppd_sem.specs.declared.proc.Todo.{Todo}
use Rattle.ppd_sem.specs.Asked.{Asked}
use Rattle.ppd_sem.specs.Deed.{Deed, set_local, set_shared, clear, branch, turn, leave, invoke, back, take, give, send, receive, print, pass, finish}
use Rattle.ppd_sem.specs.Process.{chan_of, entry_of, head_deed, need_of, need_of_asked, need_of_head, need_of_leaving, need_of_send, offer_of}
use Rattle.ppd_sem.proofs.NeedWords.{need_by_entry, need_by_offer, need_by_status, need_of_running}
use Rattle.ppd_sem.specs.Tables.{capacity_of}
use Rattle.ppd_sem.proofs.Offers.{offer_there}
use Rattle.law_flow.proofs.Deeds.{is_frame}

-- it is a deed
abbrev pub IsOk : Asked Deed → Type 0
IsOk (Ok q) = ⊤
IsOk (Err x) = ⊥

-- it is none
abbrev pub IsErr : Asked Deed → Type 0
IsErr (Ok q) = ⊥
IsErr (Err x) = ⊤

-- it is a deed that sends
abbrev pub IsSent : Asked Deed → Type 0
IsSent (Ok (send c v, left)) = ⊤
IsSent (Ok q) = ⊥
IsSent (Err x) = ⊥

-- an event that does not trap is of a deed, an offer of one that sends, and a completion of a kind that keeps the frames
abbrev pub Fits : Need → Kind → Asked Deed → Type 0
Fits (Read c) k asked = IsErr asked
Fits (Enter b u) k asked = ⊤
Fits Budget k asked = ⊤
Fits Stopped k asked = ⊤
Fits (Trap x) k asked = ⊤
Fits (Done c u) k asked = is_frame k ≡ false
Fits (Offer c v) k asked = IsSent asked
Fits n k asked = IsOk asked

-- the same without a completion
abbrev FitsFirst : Need → Asked Deed → Type 0
FitsFirst (Read c) asked = IsErr asked
FitsFirst (Enter b u) asked = ⊤
FitsFirst Budget asked = ⊤
FitsFirst Stopped asked = ⊤
FitsFirst (Trap x) asked = ⊤
FitsFirst (Done c u) asked = ⊥
FitsFirst (Offer c v) asked = IsSent asked
FitsFirst n asked = IsOk asked

first_fits : (n : Need) (k : Kind) (asked : Asked Deed) → FitsFirst n asked → Fits n k asked
first_fits (Done c u) k asked h = absurd h
first_fits n k asked h = h

by_leave : (plan : Plan) (t : ℕ) (b : Option ℕ) (left : List ℤ) → FitsFirst (need_of_leaving plan t b) (Ok (leave, left))
by_leave plan t None left = tt
by_leave plan t (Some b) left = tt

by_call : (b : Bool) (n : Option ℕ) (u f : ℕ) (values : List ℤ) (into : Option ℕ) (left : List ℤ) → FitsFirst (cond b (Trap trap.Depth) (Invoke n u)) (Ok (invoke f values into, left))
by_call true n u f values into left = tt
by_call false n u f values into left = tt

by_send : (plan : Plan) (t n c : ℕ) (v : ℤ) (left : List ℤ) → FitsFirst (need_of_send plan t n c v) (Ok (send c v, left))
by_send plan t zero c v left = tt
by_send plan t (suc n) c v left = tt

by_asked : (program : Program) (plan : Plan) (t : ℕ) (s : Proc) (asked : Asked Deed) → FitsFirst (need_of_asked program plan t s asked) asked
by_asked program plan t s (Err (Wants c)) = tt
by_asked program plan t s (Err (Traps x)) = tt
by_asked program plan t s (Ok (leave, left)) = by_leave plan t _ left
by_asked program plan t s (Ok (invoke f values into, left)) = by_call _ _ _ f values into left
by_asked program plan t s (Ok (set_local c v, left)) = tt
by_asked program plan t s (Ok (set_shared c v, left)) = tt
by_asked program plan t s (Ok (clear base len, left)) = tt
by_asked program plan t s (Ok (branch xs, left)) = tt
by_asked program plan t s (Ok (turn xs, left)) = tt
by_asked program plan t s (Ok (back v, left)) = tt
by_asked program plan t s (Ok (take x, left)) = tt
by_asked program plan t s (Ok (give x, left)) = tt
by_asked program plan t s (Ok (send x v, left)) = by_send plan t (capacity_of program x) x v left
by_asked program plan t s (Ok (receive x into, left)) = tt
by_asked program plan t s (Ok (print v, left)) = tt
by_asked program plan t s (Ok (pass, left)) = tt
by_asked program plan t s (Ok (finish, left)) = tt

by_entry : (program : Program) (plan : Plan) (t : ℕ) (s : Proc) (entry : Option ℕ) (asked : Asked Deed) → FitsFirst (need_by_entry program plan t s entry asked) asked
by_entry program plan t s None asked = by_asked program plan t s asked
by_entry program plan t s (Some b) asked = tt

chan_plain : (k : Kind) (c : ℕ) → chan_of k ≡ Some c → is_frame k ≡ false
chan_plain (kind.Call f arguments into) c e = absurd (none-some c e)
chan_plain (kind.Return v) c e = absurd (none-some c e)
chan_plain k c e = refl

by_offer : (plan : Plan) (t : ℕ) (o : Option ℕ) (n : Need) (k : Kind) (asked : Asked Deed) → ((c : ℕ) → o ≡ Some c → is_frame k ≡ false) → Fits n k asked → Fits (need_by_offer plan t o n) k asked
by_offer plan t (Some c) n k asked h g = h c refl
by_offer plan t None n k asked h g = g

by_budget : (b : Bool) (n : Need) (k : Kind) (asked : Asked Deed) → Fits n k asked → Fits (cond b Budget n) k asked
by_budget true n k asked h = tt
by_budget false n k asked h = h

-- the same of the head, if there is one
abbrev pub FitsHead : Program → Proc → Need → List Todo → Type 0
FitsHead program s n [] = ⊤
FitsHead program s n (t ∷ ts) = Fits n (kind_of program t.stmt) (head_deed program t s)

by_running : (program : Program) (plan : Plan) (s : Proc) (todo : List Todo) → FitsHead program s (need_of_running program plan todo s) todo
by_running program plan s [] = tt
by_running program plan s (t ∷ ts) =
    by_budget _ (need_of_head program plan t s) (kind_of program t.stmt) (head_deed program t s)
    (by_offer plan t.stmt (offer_of program t) (need_by_entry program plan t.stmt s (entry_of program plan t) (head_deed program t s)) (kind_of program t.stmt) (head_deed program t s)
    (λ c e. chan_plain (kind_of program t.stmt) c (offer_there t.offered (chan_of (kind_of program t.stmt)) c e))
    (first_fits _ (kind_of program t.stmt) (head_deed program t s) (by_entry program plan t.stmt s (entry_of program plan t) (head_deed program t s))))

by_stop : (program : Program) (s : Proc) (todo : List Todo) → FitsHead program s Stopped todo
by_stop program s [] = tt
by_stop program s (t ∷ ts) = tt

by_status : (program : Program) (plan : Plan) (s : Proc) (status : Option Status) → FitsHead program s (need_by_status program plan status s) s.todo
by_status program plan s None = by_running program plan s s.todo
by_status program plan s (Some x) = by_stop program s s.todo

pub fits : (program : Program) (plan : Plan) (s : Proc) → FitsHead program s (need_of program plan s) s.todo
fits program plan s = by_status program plan s s.status
